-- In a step the status of a component goes on, from uninitialised to initialising to initialised, and that of a process stays.
use Rattle.std.proofs.Common.{◌≡◌, ℕ, ◌<◌, ◌≤◌, ◌==◌, ◌&&◌, ◌||◌, ◌∙◌, ◌⊎◌, inl, inr, Bool, true, false, List, [], ◌∷◌, length, Ok, Err, ap, sym, refl, subst, arith, eqb-true, eq-eqb}
use Rattle.cp_tree.specs.declared.declaration.SystemKind.TheVariants as system_kind
use Rattle.cp_at_once_laws.proofs.Words.{Program, Outcome, Doing, kernel_step, owner_of, first_components, settled, step_of, IsWellFormed, kind_at, own_owner, status_at}
use Rattle.cp_at_once_laws.proofs.Words.{StatusMoves, or_cases, OrderlyState, OwnedState, HeldBy, HeldCalls, Bottom, held_more}
use Rattle.cp_meaning.specs.State.{ComponentStatus, uninitialised, initialising, initialised, Component, own_statement, initial_statement, local_routine, entry_routine, Call, ready, process_at, book_discipline, State}
use Rattle.cp_meaning.proofs.Frames.{Frame, frames, is_initial_kind, initial_in, system_at, Descends}
use Rattle.cp_at_once_laws.proofs.pairs.Facts.{Facts, AllFacts, done, facts}
use Rattle.cp_at_once_laws.proofs.pairs.Fit.{StartsKnown, ProcessesUnknown}
use Rattle.cp_at_once_laws.proofs.pairs.Shape.{kernel_shape}
use Rattle.cp_resolved.proofs.frames.LeastCells.{right_true as and_right}

-- ---- statuses by rank

abbrev pub rank : ComponentStatus → ℕ
rank uninitialised = 0
rank initialising = 1
rank initialised = 2

pub rank_same : (a b : ComponentStatus) → rank a ≡ rank b → a ≡ b
rank_same uninitialised uninitialised e = refl
rank_same initialising initialising e = refl
rank_same initialised initialised e = refl
rank_same x y e = absurd (omega (arith, e))

-- ---- no open call is the initial statement of a process

-- the outermost call is of the latest type
deeper : (cs : List Component) (me : ℕ) (f : Frame) (fs : List Frame) → Descends cs (f ∷ fs) → Bottom me (f ∷ fs) → system_at cs f.1 ≤ system_at cs me
deeper cs me f [] d b = subst (λ k. system_at cs f.1 ≤ system_at cs k) b (omega arith)
deeper cs me (own_statement, n) (g ∷ fs) d b = absurd d.0
deeper cs me (local_routine, n) (g ∷ fs) d b = subst (λ k. system_at cs k ≤ system_at cs me) (sym d.0) (deeper cs me g fs d.1 b)
deeper cs me (entry_routine, n) (g ∷ fs) d b = (let less = d.0 in let rest = deeper cs me g fs d.1 b in omega (arith, less, rest))
deeper cs me (initial_statement, n) (g ∷ fs) d b = (let less = d.0 in let rest = deeper cs me g fs d.1 b in omega (arith, less, rest))

not_mine : (cs : List Component) (me : ℕ) (fs : List Frame) → Descends cs fs → Bottom me fs → initial_in me fs ≡ true → ⊥
not_mine cs me [] d b e = cc
not_mine cs me ((own_statement, n) ∷ []) d b e = cc
not_mine cs me ((own_statement, n) ∷ g ∷ fs) d b e = d.0
not_mine cs me ((local_routine, n) ∷ g ∷ fs) d b e = not_mine cs me (g ∷ fs) d.1 b e
not_mine cs me ((entry_routine, n) ∷ g ∷ fs) d b e = not_mine cs me (g ∷ fs) d.1 b e
not_mine cs me ((initial_statement, n) ∷ g ∷ fs) d b e = go (or_cases (n == me) (initial_in me (g ∷ fs)) e) (λ h. not_mine cs me (g ∷ fs) d.1 b h)
  where
    go : ((n == me) ≡ true) ⊎ (initial_in me (g ∷ fs) ≡ true) → (initial_in me (g ∷ fs) ≡ true → ⊥) → ⊥
    go (inl h) later =
        let less : system_at cs me < system_at cs g.1 = subst (λ k. system_at cs k < system_at cs g.1) (eqb-true n me h) d.0 in
        let most = deeper cs me g fs d.1 b in
        omega (arith, less, most)
    go (inr h) later = later h
not_mine cs me _ d b e = d

initial_held : (base : List Component) (me m : ℕ) (calls : List Call) → HeldCalls base me calls → initial_in m (frames calls) ≡ true → HeldBy base me (frames calls) m
initial_held base me m [] h e = absurd (let bad : false ≡ true = e in cc)
initial_held base me m (c ∷ calls) h e = go (or_cases (is_initial_kind c.kind && c.component == m) (initial_in m (frames calls)) e) (λ k. initial_held base me m calls h.3 k)
  where
    go : ((is_initial_kind c.kind && c.component == m) ≡ true) ⊎ (initial_in m (frames calls) ≡ true) → (initial_in m (frames calls) ≡ true → HeldBy base me (frames calls) m) → HeldBy base me (frames (c ∷ calls)) m
    go (inl k) later = subst (HeldBy base me (frames (c ∷ calls))) (eqb-true c.component m (and_right (is_initial_kind c.kind) (c.component == m) k)) h.0
    go (inr k) later = held_more base me (c.kind, c.component) (frames calls) m (later k)

process_mine : (base : List Component) (me m : ℕ) (fs : List Frame) → kind_at base m ≡ system_kind.Process → HeldBy base me fs m → m ≡ me
process_mine base me m fs process held = go held
  where
    itself : owner_of base m ≡ m
    itself = own_owner base m system_kind.Process process (λ b. cc)

    go : HeldBy base me fs m → m ≡ me
    go (inl h) = sym itself ∙ h
    go (inr h) = absurd (let bad : system_kind.Process ≡ system_kind.Monitor = sym process ∙ ap (kind_at base) (sym itself) ∙ h.0 in cc)

no_initial : (base cs : List Component) (me m : ℕ) (calls : List Call) → HeldCalls base me calls → Descends cs (frames calls) → Bottom me (frames calls) → kind_at base m ≡ system_kind.Process → initial_in m (frames calls) ≡ true → ⊥
no_initial base cs me m calls held d b process e =
    not_mine cs me (frames calls) d b (subst (λ k. initial_in k (frames calls) ≡ true) (process_mine base me m (frames calls) process (initial_held base me m calls held e)) e)

-- ---- a step

pub record Onwards (base cs ds : List Component) (n : ℕ) : Type 0 where
  pub on : rank (status_at cs n) ≤ rank (status_at ds n)
  pub process : kind_at base n ≡ system_kind.Process → status_at ds n ≡ status_at cs n

pub onwards_same : (base cs ds : List Component) (n : ℕ) → status_at ds n ≡ status_at cs n → Onwards base cs ds n
onwards_same base cs ds n e = record { on = (let same = ap rank e in omega (arith, same)); process = λ process. e }

pub onwards_then : (base cs ds es : List Component) (n : ℕ) → Onwards base cs ds n → Onwards base ds es n → Onwards base cs es n
onwards_then base cs ds es n h k = record { on = (let a = h.on in let b = k.on in omega (arith, a, b)); process = λ process. k.process process ∙ h.process process }

module _ (p : Program) (s : State) (pid : ℕ) (d : Doing) (f : Facts p s pid d) (held : HeldCalls (first_components p) (process_at s.processes pid).component (process_at s.processes pid).calls) (order : Descends s.components (frames (process_at s.processes pid).calls))
    (bottom : Bottom (process_at s.processes pid).component (frames (process_at s.processes pid).calls)) where
  abbrev Here : ℕ → Type 0
  Here n = Onwards (first_components p) s.components d.components n

  -- the innermost call is the initial statement of the component
  opens : (n : ℕ) → frames d.calls ≡ (initial_statement, n) ∷ frames (process_at s.processes pid).calls → initial_in n (frames d.calls) ≡ true
  opens n e = ap (initial_in n) e ∙ first (n == n) (eq-eqb n n refl)
    where
      first : (b : Bool) → b ≡ true → (b || initial_in n (frames (process_at s.processes pid).calls)) ≡ true
      first true h = refl
      first false h = cc

  item_onwards : (n : ℕ) → Here n
  item_onwards n = go (f.good.status n) (f.begins n)
    where
      go : StatusMoves s.components d.components (frames (process_at s.processes pid).calls) n →
          (status_at d.components n ≡ status_at s.components n) ⊎ ((frames d.calls ≡ (initial_statement, n) ∷ frames (process_at s.processes pid).calls) ⊎ (status_at d.components n ≡ initialised)) → Here n
      go (inl e) begins = onwards_same (first_components p) s.components d.components n e
      go m (inl e) = onwards_same (first_components p) s.components d.components n e
      go (inr (inl m)) (inr (inl opened)) =
          record {
            on = (let a = ap rank m.0 in let b = ap rank m.1 in omega (arith, a, b));
            process = λ process. absurd (no_initial (first_components p) s.components (process_at s.processes pid).component n d.calls f.owned.held f.good.order f.owned.bottom process (opens n opened));
          }
      go (inr (inl m)) (inr (inr e)) = absurd (let bad : initialising ≡ initialised = sym m.1 ∙ e in cc)
      go (inr (inr m)) (inr (inl opened)) = onwards_same (first_components p) s.components d.components n (f.good.starting n (opens n opened) ∙ sym m.0)
      go (inr (inr m)) (inr (inr e)) =
          record {
            on = (let a = ap rank m.0 in let b = ap rank e in omega (arith, a, b));
            process = λ process. absurd (no_initial (first_components p) s.components (process_at s.processes pid).component n (process_at s.processes pid).calls held order bottom process m.1);
          }

  kernel_onwards : s.discipline ≡ book_discipline → (n : ℕ) → Onwards (first_components p) s.components (kernel_step p s pid d d.move).state.components n
  kernel_onwards first n = go ((kernel_shape p s pid d d.move first).status n)
    where
      go : (status_at (kernel_step p s pid d d.move).state.components n ≡ status_at d.components n) ⊎ (status_at (kernel_step p s pid d d.move).state.components n ≡ status_at s.components n) → Onwards (first_components p) s.components (kernel_step p s pid d d.move).state.components n
      go (inl e) = onwards_then (first_components p) s.components d.components (kernel_step p s pid d d.move).state.components n (item_onwards n) (onwards_same (first_components p) d.components (kernel_step p s pid d d.move).state.components n e)
      go (inr e) = onwards_same (first_components p) s.components (kernel_step p s pid d d.move).state.components n e

module _ (p : Program) (ok : IsWellFormed p) (rules : StartsKnown p) (s : State) (pid : ℕ) (first : s.discipline ≡ book_discipline) (owned : OwnedState (first_components p) s) (orderly : OrderlyState s) (lt : pid < length s.processes) (is_ready : (process_at s.processes pid).status ≡ ready) (unknown : ProcessesUnknown p s) where
  settled_onwards : (o : Outcome Doing) → AllFacts p s pid o → (n : ℕ) → Onwards (first_components p) s.components (settled p s pid o).state.components n
  settled_onwards (Ok d) f n = kernel_onwards p s pid d f (owned.processes pid lt).held (orderly.orderly.processes pid lt).order (owned.processes pid lt).bottom first n
  settled_onwards (Err e) f n = onwards_same (first_components p) s.components s.components n refl

  pub step_onwards : (n : ℕ) → Onwards (first_components p) s.components (step_of p s pid).state.components n
  step_onwards = settled_onwards (done p s pid) (facts p s pid ok owned orderly lt is_ready rules unknown)
