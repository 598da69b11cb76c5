-- In each reached state each component that nobody is inside keeps its invariants: what else stands in these states.
use Rattle.std.proofs.Common.{◌≡◌, ◌∙◌, ◌⊎◌, inl, inr, ℕ, zero, suc, ◌<◌, Bool, true, false, ◌||◌, List, [], ◌∷◌, length, Some, None, ap, sym, refl, subst, arith, eq-eqb}
use Rattle.std.proofs.lemmas.Bool.{cases_eq}
use Rattle.cp_tree.specs.declared.declaration.SystemKind.{SystemKind}
use Rattle.cp_tree.specs.declared.declaration.SystemKind.TheVariants as system_kind
use Rattle.cp_tree.specs.Syntax.{Program}
use Rattle.cp_meaning.specs.State.{refers, own_statement, initial_statement, local_routine, entry_routine, uninitialised, initialising, initialised, Component, component_at, Call, current, Item, Status, unstarted, ready, Process, process_at, Place, State, waits_at, has_entry, is_inside, initialises}
use Rattle.cp_meaning.specs.Move.{Doing}
use Rattle.cp_meaning.specs.Steps.{first_components, view_of}
use Rattle.cp_meaning.specs.Exclusive.{occupies, IsExclusive}
use Rattle.cp_meaning.specs.Ownership.{owner_of, HoldsComponent, HoldsCalls, IsLawful}
use Rattle.cp_meaning.specs.Places.{component_there}
use Rattle.cp_meaning.proofs.Frames.{Frame, frames, entry_in, initial_in, entry-frames, Above, Descends}
use Rattle.cp_meaning.proofs.Good.{status_at, or_right}
use Rattle.cp_meaning.proofs.LocalLaw.{within}
use Rattle.cp_meaning.proofs.LineLaw.{OrderlyState}
use Rattle.cp_meaning.proofs.Orderly.{ProcessFits, inside_parts, inside_from}
use Rattle.cp_annotation_laws.specs.Invariants.{InvariantsHold, NobodyInside}
use Rattle.cp_annotation_laws.proofs.invariants.Cleared.{environment_cleared}
use Rattle.cp_annotation_laws.proofs.invariants.Carried.{IsCarried, holds_carried, standing_carried}
use Rattle.cp_annotation_laws.proofs.invariants.Changing.{IsOpenIn, CallsWithin, Changes}
use Rattle.cp_annotation_laws.proofs.invariants.Guarded.{outlines, Guarded, own_guarded}
use Rattle.cp_annotation_laws.proofs.invariants.Kept.{IsKept, KeptState}
use Rattle.cp_annotation_laws.proofs.invariants.Kernel.{Begins, Done}
use Rattle.cp_annotation_laws.proofs.invariants.Standing.{BlocksKnown, IsOfBlock, Standing}
use Rattle.cp_annotation_laws.proofs.invariants.Stepping.{Asked, Steps, never_both}

-- ---- what is known of each reached state

-- of a process that steps, with its open calls
pub record CallKnown (p : Program) (s : State) (c : Call) (calls : List Call) (items : List Item) : Type 0 where
  pub of_block : IsOfBlock p s.components c.component c.scope
  pub asked : Asked (record { program = p; calls = c ∷ calls; components = s.components }) items

pub record StateKnown (p : Program) (s : State) : Type 0 where
  pub orderly : OrderlyState s
  pub lawful : IsLawful s
  pub exclusive : IsExclusive s
  pub kinds : (n : ℕ) → (component_at s.components n).kind ≡ (component_at (first_components p) n).kind
  pub open_call : (q : ℕ) → q < length s.processes → ((process_at s.processes q).status ≡ unstarted → ⊥) → (c : Call) × (cs : List Call) × ((process_at s.processes q).calls ≡ c ∷ cs)
  pub fresh : (q : ℕ) (x : Place) → q < length s.processes → (process_at s.processes q).status ≡ ready → ((component_at s.components (component_there (view_of p s q) x)).kind ≡ system_kind.Process → ⊥) → has_entry (component_there (view_of p s q) x) (process_at s.processes q).calls ≡ false
  -- no two processes have one component, and that of a process is one
  pub apart : (q k : ℕ) → q < length s.processes → k < length s.processes → (process_at s.processes q).component ≡ (process_at s.processes k).component → q ≡ k
  pub own : (q : ℕ) → q < length s.processes → (component_at s.components (process_at s.processes q).component).kind ≡ system_kind.Process
  -- a process has no invariants
  pub silent : (n : ℕ) → n < length s.components → (component_at s.components n).kind ≡ system_kind.Process → InvariantsHold p s.components n
  pub size : length s.components ≡ length (first_components p)
  pub listed : (q : ℕ) (c : Call) (cs : List Call) → q < length s.processes → (process_at s.processes q).calls ≡ c ∷ cs → c.component < length s.components
  pub calls : (q : ℕ) (c : Call) (cs : List Call) → q < length s.processes → (process_at s.processes q).status ≡ ready → (process_at s.processes q).calls ≡ c ∷ cs → CallKnown p s c cs (process_at s.processes q).items

-- ---- what is kept

pub record Keeps (p : Program) (s : State) : Type 0 where
  pub stands : (q : ℕ) → q < length s.processes → Standing p (process_at s.processes q).status s.components (process_at s.processes q).calls (process_at s.processes q).items
  pub within : (q : ℕ) → q < length s.processes → CallsWithin (process_at s.processes q).calls
  pub closed : (q : ℕ) → q < length s.processes → (process_at s.processes q).status ≡ unstarted → (process_at s.processes q).calls ≡ []
  pub holds : (n : ℕ) → status_at s.components n ≡ initialised → NobodyInside s n → InvariantsHold p s.components n

not_true : (b : Bool) → (b ≡ true → ⊥) → b ≡ false
not_true true h = absurd (h refl)
not_true false h = refl

-- what is initialised is one of the components
begun_within : (cs : List Component) (n : ℕ) → status_at cs n ≡ initialised → n < length cs
begun_within [] n e = absurd (let bad : uninitialised ≡ initialised = e in cc)
begun_within (c ∷ cs) zero e = omega arith
begun_within (c ∷ cs) (suc n) e = (let lt = begun_within cs n e in omega arith)

-- ---- open calls

-- a component of an open call is entered, or initialised, or a process
open_so : (cs : List Component) (n : ℕ) (fs : List Frame) → Descends cs fs → IsOpenIn n fs → ((component_at cs n).kind ≡ system_kind.Process → ⊥) → (entry_in n fs ≡ true) ⊎ (initial_in n fs ≡ true)
open_so cs n [] h k never = absurd k
open_so cs n (f ∷ []) h (inl e) never = go f e h
  where
    go : (f : Frame) → f.1 ≡ n → Descends cs (f ∷ []) → (entry_in n (f ∷ []) ≡ true) ⊎ (initial_in n (f ∷ []) ≡ true)
    go (own_statement, m) e h = absurd (never (ap (λ j. (component_at cs j).kind) (sym e) ∙ h))
    go (initial_statement, m) e h = absurd h
    go (local_routine, m) e h = absurd h
    go (entry_routine, m) e h = absurd h
open_so cs n (f ∷ []) h (inr k) never = absurd k
open_so cs n (f ∷ g ∷ fs) h (inr k) never = more (open_so cs n (g ∷ fs) h.1 k never)
  where
    more : (entry_in n (g ∷ fs) ≡ true) ⊎ (initial_in n (g ∷ fs) ≡ true) → (entry_in n (f ∷ g ∷ fs) ≡ true) ⊎ (initial_in n (f ∷ g ∷ fs) ≡ true)
    more (inl e) = inl (or_right _ (entry_in n (g ∷ fs)) e)
    more (inr e) = inr (or_right _ (initial_in n (g ∷ fs)) e)
open_so cs n (f ∷ g ∷ fs) h (inl e) never = go f e h.0 (λ k. open_so cs n (g ∷ fs) h.1 (inl k) never)
  where
    go : (f : Frame) → f.1 ≡ n → Above cs f.0 f.1 g.1 → (g.1 ≡ n → (entry_in n (g ∷ fs) ≡ true) ⊎ (initial_in n (g ∷ fs) ≡ true)) → (entry_in n (f ∷ g ∷ fs) ≡ true) ⊎ (initial_in n (f ∷ g ∷ fs) ≡ true)
    go (own_statement, m) e a rest = absurd a
    go (local_routine, m) e a rest = rest (sym a ∙ e)
    go (entry_routine, m) e a rest = inl (rw (eq-eqb m n e) refl)
    go (initial_statement, m) e a rest = inr (rw (eq-eqb m n e) refl)

module _ (p : Program) (known : BlocksKnown p) (s : State) (k : StateKnown p s) where
  abbrev cs : List Component
  cs = s.components

  abbrev at : ℕ → Process
  at q = process_at s.processes q

  fits : (q : ℕ) → q < length s.processes → ProcessFits cs (at q)
  fits q lt = k.orderly.orderly.processes q lt

  held_by : (x : Process) (calls : List Call) (n : ℕ) → HoldsCalls s x calls → IsOpenIn n (frames calls) → HoldsComponent s x n
  held_by x [] n h o = absurd o
  held_by x (c ∷ calls) n h (inl e) = subst (HoldsComponent s x) e h.0
  held_by x (c ∷ calls) n h (inr o) = held_by x calls n h.2 o

  occupies_so : (o q : ℕ) → (at q).status ≡ ready → (has_entry o (at q).calls ≡ true) ⊎ (initialises o (at q) ≡ true) → occupies o (at q) ≡ true
  occupies_so o q was (inl e) = ap (λ b. b || initialises o (at q)) (inside_from o (at q) (sym (entry-frames o (at q).calls) ∙ e) (ap (waits_at o) was))
  occupies_so o q was (inr e) = or_right (is_inside o (at q)) (initialises o (at q)) e

  -- two ready processes have no open call of one component
  alone : (n q r : ℕ) → q < length s.processes → r < length s.processes → (at q).status ≡ ready → (at r).status ≡ ready → IsOpenIn n (frames (at q).calls) → IsOpenIn n (frames (at r).calls) → q ≡ r
  alone n q r lq lr wq wr oq or' = go (held_by (at q) (at q).calls n (k.lawful.processes q lq).calls oq) (held_by (at r) (at r).calls n (k.lawful.processes r lr).calls or')
    where
      o : ℕ
      o = owner_of cs n

      mixed : (j : ℕ) → j < length s.processes → owner_of cs n ≡ (at j).component → (component_at cs (owner_of cs n)).kind ≡ system_kind.Monitor → q ≡ r
      mixed j lj e m = absurd (let bad : system_kind.Process ≡ system_kind.Monitor = sym (k.own j lj) ∙ (ap (λ i. (component_at cs i).kind) (sym e) ∙ m) in cc)

      go : HoldsComponent s (at q) n → HoldsComponent s (at r) n → q ≡ r
      go (inl a) (inl b) = k.apart q r lq lr (sym a ∙ b)
      go (inl a) (inr b) = mixed q lq a b.0
      go (inr a) (inl b) = mixed r lr b a.0
      go (inr a) (inr b) =
          k.exclusive (owner_of cs n) q r (within cs (owner_of cs n) (λ h. (let bad : system_kind.Monitor ≡ system_kind.Process = sym a.0 ∙ h in cc))) a.0 lq lr (occupies_so (owner_of cs n) q wq a.1) (occupies_so (owner_of cs n) r wr b.1)

  top_open : (calls : List Call) (c : Call) (rest : List Call) → calls ≡ c ∷ rest → IsOpenIn (current calls).component (frames calls)
  top_open calls c rest e = subst (λ ks. IsOpenIn (current ks).component (frames ks)) (sym e) (inl refl)

  -- what is executed has begun, where it is no process
  begun_there : (n q : ℕ) → q < length s.processes → IsOpenIn n (frames (at q).calls) → ((component_at cs n).kind ≡ system_kind.Process → ⊥) → status_at cs n ≡ uninitialised → ⊥
  begun_there n q lt o never free = go (open_so cs n (frames (at q).calls) (fits q lt).order o never)
    where
      go : (entry_in n (frames (at q).calls) ≡ true) ⊎ (initial_in n (frames (at q).calls) ≡ true) → ⊥
      go (inl h) = (let bad : uninitialised ≡ initialised = sym free ∙ (fits q lt).entering n h in absurd cc)
      go (inr h) = (let bad : uninitialised ≡ initialising = sym free ∙ (fits q lt).starting n h in absurd cc)

  -- ---- a state that the kernel has made of it

  is_process : (n : ℕ) → ((component_at cs n).kind ≡ system_kind.Process) ⊎ ((component_at cs n).kind ≡ system_kind.Process → ⊥)
  is_process n = go (component_at cs n).kind refl
    where
      go : (a : SystemKind) → (component_at cs n).kind ≡ a → ((component_at cs n).kind ≡ system_kind.Process) ⊎ ((component_at cs n).kind ≡ system_kind.Process → ⊥)
      go system_kind.Process e = inl e
      go system_kind.Class e = inr (λ h. (let bad : system_kind.Class ≡ system_kind.Process = sym e ∙ h in cc))
      go system_kind.Monitor e = inr (λ h. (let bad : system_kind.Monitor ≡ system_kind.Process = sym e ∙ h in cc))

  pub kept_state : (t : State) → KeptState s t → Keeps p s → Keeps p t
  kept_state t h old =
      record {
        stands = λ q lt. by q (subst (λ m. q < m) h.count lt) (h.processes q);
        within = λ q lt. subst CallsWithin (sym (h.processes q).calls) (old.within q (subst (λ m. q < m) h.count lt));
        closed = λ q lt e. (h.processes q).calls ∙ old.closed q (subst (λ m. q < m) h.count lt) ((h.processes q).begun e);
        holds = λ n e nobody. holds_carried p known cs t.components n (carried n) (old.holds n (sym (h.components.status n) ∙ e) (λ q lt. outside n q (nobody q (subst (λ m. q < m) (sym h.count) lt)) (h.processes q)));
      }
    where
      carried : (n : ℕ) → IsCarried p cs t.components n
      carried n = record { system = h.components.system n; variables = inl (ap environment_cleared (sym (h.components.environment n))) }

      by : (q : ℕ) → q < length s.processes → IsKept (at q) (process_at t.processes q) → Standing p (process_at t.processes q).status t.components (process_at t.processes q).calls (process_at t.processes q).items
      by q lt x =
          subst (λ is. Standing p (process_at t.processes q).status t.components (process_at t.processes q).calls is) (sym x.items)
          (subst (λ ks. Standing p (process_at t.processes q).status t.components ks (at q).items) (sym x.calls)
          (standing_carried p known cs t.components (at q).status (process_at t.processes q).status (at q).calls (at q).items x.ready_still (λ e. carried (current (at q).calls).component) (old.stands q lt)))

      outside : (n q : ℕ) → is_inside n (process_at t.processes q) ≡ false → IsKept (at q) (process_at t.processes q) → is_inside n (at q) ≡ false
      outside n q e x = not_true (is_inside n (at q)) (λ y. never_both (is_inside n (process_at t.processes q)) (still n q x y) e)
        where
          still : (n q : ℕ) → IsKept (at q) (process_at t.processes q) → is_inside n (at q) ≡ true → is_inside n (process_at t.processes q) ≡ true
          still n q x y = (let z = inside_parts n (at q) y in inside_from n (process_at t.processes q) (ap (λ ks. entry_in n (frames ks)) x.calls ∙ z.0) (x.outside n z.1))

  -- ---- a step

  module _ (pid : ℕ) (lt : pid < length s.processes) (was : (at pid).status ≡ ready) (old : Keeps p s) where
    abbrev fs : List Frame
    fs = frames (at pid).calls

    module _ (d : Doing) (steps : Steps p cs fs d) (changes : Changes cs fs d) (systems : (n : ℕ) → (component_at d.components n).system ≡ (component_at cs n).system) (kinds : (n : ℕ) → (component_at d.components n).kind ≡ (component_at cs n).kind) (t : State) (sizes : length t.components ≡ length cs) (silent : (n : ℕ) → n < length cs → (component_at cs n).kind ≡ system_kind.Process → InvariantsHold p t.components n) (done : Done p s pid lt was d.components t) where
      abbrev ds : List Component
      ds = d.components

      abbrev there : ℕ → Process
      there q = process_at t.processes q

      less : (q : ℕ) → q < length t.processes → q < length s.processes
      less q l = subst (λ m. q < m) done.kept.count l

      within_item : (n : ℕ) → n < length ds → n < length cs
      within_item n l = subst (λ m. n < m) (sym done.kept.components.size ∙ sizes) l

      -- from what the item left
      from_item : (n : ℕ) → IsCarried p ds t.components n
      from_item n = record { system = done.kept.components.system n; variables = go (done.kept.components.environment n) }
        where
          go : ((component_at t.components n).environment ≡ (component_at ds n).environment) ⊎ ((n < length ds) × ((component_at ds n).kind ≡ system_kind.Process)) → (environment_cleared (component_at ds n).environment ≡ environment_cleared (component_at t.components n).environment) ⊎ InvariantsHold p t.components n
          go (inl e) = inl (ap environment_cleared (sym e))
          go (inr e) = inr (silent n (within_item n e.0) (sym (kinds n) ∙ e.1))

      -- from before the step, of what this process does not work on
      from_before : (n : ℕ) → ((n < length cs) × ((component_at cs n).kind ≡ system_kind.Process)) ⊎ (((IsOpenIn n fs) ⊎ (status_at cs n ≡ uninitialised)) → ⊥) → IsCarried p cs t.components n
      from_before n away = record { system = done.kept.components.system n ∙ systems n; variables = go away (changes.unchanged n) (done.kept.components.environment n) }
        where
          go : ((n < length cs) × ((component_at cs n).kind ≡ system_kind.Process)) ⊎ (((IsOpenIn n fs) ⊎ (status_at cs n ≡ uninitialised)) → ⊥) → ((component_at ds n).environment ≡ (component_at cs n).environment) ⊎ (IsOpenIn n fs ⊎ (status_at cs n ≡ uninitialised)) →
              ((component_at t.components n).environment ≡ (component_at ds n).environment) ⊎ ((n < length ds) × ((component_at ds n).kind ≡ system_kind.Process)) → (environment_cleared (component_at cs n).environment ≡ environment_cleared (component_at t.components n).environment) ⊎ InvariantsHold p t.components n
          go (inl e) x y = inr (silent n e.0 e.1)
          go (inr never) (inl e) (inl f) = inl (ap environment_cleared (sym (f ∙ e)))
          go (inr never) (inl e) (inr f) = inr (silent n (within_item n f.0) (sym (kinds n) ∙ f.1))
          go (inr never) (inr o) y = absurd (never o)

      stands_kept : (u : Status) (es : List Component) (calls : List Call) (items : List Item) (y : Process) → y.calls ≡ calls → y.items ≡ items → (u ≡ ready → y.status ≡ ready) → (u ≡ ready → IsCarried p es t.components (current calls).component) → Standing p u es calls items → Standing p y.status t.components y.calls y.items
      stands_kept u es calls items y e f still carried h =
          subst (λ is. Standing p y.status t.components y.calls is) (sym f)
          (subst (λ ks. Standing p y.status t.components ks items) (sym e) (standing_carried p known es t.components u y.status calls items still carried h))

      -- another process that is ready
      other_carried : (q : ℕ) → (q ≡ pid → ⊥) → q < length s.processes → (at q).status ≡ ready → IsCarried p cs t.components (current (at q).calls).component
      other_carried q ne lq wq = from_before (current (at q).calls).component (go (is_process (current (at q).calls).component))
        where
          opened : IsOpenIn (current (at q).calls).component (frames (at q).calls)
          opened = (let w = k.open_call q lq (λ e. (let bad : ready ≡ unstarted = sym wq ∙ e in cc)) in top_open (at q).calls w.0 w.1 w.2)

          away : ((component_at cs (current (at q).calls).component).kind ≡ system_kind.Process → ⊥) → (IsOpenIn (current (at q).calls).component fs) ⊎ (status_at cs (current (at q).calls).component ≡ uninitialised) → ⊥
          away never (inl o) = ne (alone (current (at q).calls).component q pid lq lt wq was opened o)
          away never (inr free) = begun_there (current (at q).calls).component q lq opened never free

          go : ((component_at cs (current (at q).calls).component).kind ≡ system_kind.Process) ⊎ ((component_at cs (current (at q).calls).component).kind ≡ system_kind.Process → ⊥) →
              (((current (at q).calls).component < length cs) × ((component_at cs (current (at q).calls).component).kind ≡ system_kind.Process)) ⊎ (((IsOpenIn (current (at q).calls).component fs) ⊎ (status_at cs (current (at q).calls).component ≡ uninitialised)) → ⊥)
          go (inl e) = inl ((let w = k.open_call q lq (λ z. (let bad : ready ≡ unstarted = sym wq ∙ z in cc)) in subst (λ ks. (current ks).component < length cs) (sym w.2) (k.listed q w.0 w.1 lq w.2)), e)
          go (inr never) = inr (away never)

      new_stands : (q : ℕ) → Begins (at q) (there q) → Standing p (there q).status t.components (there q).calls (there q).items
      new_stands q b = inl (subst (λ (y : Process). Guarded false (outlines y.calls) y.items) (sym b.is) (own_guarded b.system.scope b.system.body))

      stands_now : (q : ℕ) → q < length s.processes → (q ≡ pid) ⊎ (q ≡ pid → ⊥) → Standing p (there q).status t.components (there q).calls (there q).items
      stands_now q lq (inl e) =
          subst (λ j. Standing p (there j).status t.components (there j).calls (there j).items) (sym e)
          (stands_kept done.mine.status ds done.mine.calls done.mine.items (there pid) done.kept.own.calls done.kept.own.items done.kept.own.ready_still (λ z. from_item (current done.mine.calls).component) done.stands)
      stands_now q lq (inr ne) = go (done.kept.others q ne)
        where
          go : IsKept (at q) (there q) ⊎ Begins (at q) (there q) → Standing p (there q).status t.components (there q).calls (there q).items
          go (inl x) = stands_kept (at q).status cs (at q).calls (at q).items (there q) x.calls x.items x.ready_still (λ wq. other_carried q ne lq wq) (old.stands q lq)
          go (inr b) = new_stands q b

      within_now : (q : ℕ) → q < length s.processes → (q ≡ pid) ⊎ (q ≡ pid → ⊥) → CallsWithin (there q).calls
      within_now q lq (inl e) = subst (λ j. CallsWithin (there j).calls) (sym e) (subst CallsWithin (sym done.kept.own.calls) done.within)
      within_now q lq (inr ne) = go (done.kept.others q ne)
        where
          go : IsKept (at q) (there q) ⊎ Begins (at q) (there q) → CallsWithin (there q).calls
          go (inl x) = subst CallsWithin (sym x.calls) (old.within q lq)
          go (inr b) = subst (λ (y : Process). CallsWithin y.calls) (sym b.is) ((λ x q' h. absurd (let bad : None ≡ Some (refers q') = h in cc)), tt)

      closed_now : (q : ℕ) → q < length s.processes → (q ≡ pid) ⊎ (q ≡ pid → ⊥) → (there q).status ≡ unstarted → (there q).calls ≡ []
      closed_now q lq (inl e) u = absurd (done.goes (done.kept.own.begun (sym (ap (λ j. (there j).status) e) ∙ u)))
      closed_now q lq (inr ne) u = go (done.kept.others q ne)
        where
          go : IsKept (at q) (there q) ⊎ Begins (at q) (there q) → (there q).calls ≡ []
          go (inl x) = x.calls ∙ old.closed q lq (x.begun u)
          go (inr b) = absurd (let bad : ready ≡ unstarted = sym (ap (λ y. y.status) b.is) ∙ u in cc)

      -- ---- who is inside

      still_inside : (n : ℕ) (x y : Process) → IsKept x y → is_inside n x ≡ true → is_inside n y ≡ true
      still_inside n x y h i = (let z = inside_parts n x i in inside_from n y (ap (λ ks. entry_in n (frames ks)) h.calls ∙ z.0) (h.outside n z.1))

      holds_now : (n : ℕ) → status_at t.components n ≡ initialised → NobodyInside t n → ((component_at cs n).kind ≡ system_kind.Process) ⊎ ((component_at cs n).kind ≡ system_kind.Process → ⊥) → InvariantsHold p t.components n
      holds_now n init nobody (inl e) = silent n (subst (λ m. n < m) sizes (begun_within t.components n init)) e
      holds_now n init nobody (inr never) = by_status (steps.ended n (sym (done.kept.components.status n) ∙ init))
        where
          left : is_inside n (at pid) ≡ true → InvariantsHold p t.components n
          left i =
              holds_carried p known ds t.components n (from_item n)
              (done.leaves n i (not_true (is_inside n done.mine) (λ y. never_both (is_inside n (there pid)) (still_inside n done.mine (there pid) done.kept.own y) (nobody pid (subst (λ m. pid < m) (sym done.kept.count) lt)))))

          outside : (q : ℕ) → q < length s.processes → is_inside n (at pid) ≡ false → (q ≡ pid) ⊎ (q ≡ pid → ⊥) → is_inside n (at q) ≡ false
          outside q lq i (inl e) = ap (λ j. is_inside n (at j)) e ∙ i
          outside q lq i (inr ne) = not_true (is_inside n (at q)) (λ y. go y (done.kept.others q ne))
            where
              go : is_inside n (at q) ≡ true → IsKept (at q) (there q) ⊎ Begins (at q) (there q) → ⊥
              go y (inl x) = never_both (is_inside n (there q)) (still_inside n (at q) (there q) x y) (nobody q (subst (λ m. q < m) (sym done.kept.count) lq))
              go y (inr b) = (let bad : false ≡ true = sym (ap (λ ks. entry_in n (frames ks)) (old.closed q lq b.was)) ∙ (inside_parts n (at q) y).0 in absurd cc)

          away : status_at cs n ≡ initialised → is_inside n (at pid) ≡ false → (IsOpenIn n fs) ⊎ (status_at cs n ≡ uninitialised) → ⊥
          away was_so i (inl o) = go (open_so cs n fs (fits pid lt).order o never)
            where
              go : (entry_in n fs ≡ true) ⊎ (initial_in n fs ≡ true) → ⊥
              go (inl e) = never_both (is_inside n (at pid)) (inside_from n (at pid) e (ap (waits_at n) was)) i
              go (inr e) = (let bad : initialising ≡ initialised = sym ((fits pid lt).starting n e) ∙ was_so in absurd cc)
          away was_so i (inr free) = (let bad : uninitialised ≡ initialised = sym free ∙ was_so in absurd cc)

          by_inside : status_at cs n ≡ initialised → (b : Bool) → is_inside n (at pid) ≡ b → InvariantsHold p t.components n
          by_inside was_so true i = left i
          by_inside was_so false i = holds_carried p known cs t.components n (from_before n (inr (away was_so i))) (old.holds n was_so (λ q lq. outside q lq i (cases_eq q pid)))

          by_status : (status_at cs n ≡ initialised) ⊎ InvariantsHold p ds n → InvariantsHold p t.components n
          by_status (inl was_so) = by_inside was_so (is_inside n (at pid)) refl
          by_status (inr h) = holds_carried p known ds t.components n (from_item n) h

      pub stepped : Keeps p t
      stepped =
          record {
            stands = λ q l. stands_now q (less q l) (cases_eq q pid);
            within = λ q l. within_now q (less q l) (cases_eq q pid);
            closed = λ q l e. closed_now q (less q l) (cases_eq q pid) e;
            holds = λ n e nobody. holds_now n e nobody (is_process n);
          }
