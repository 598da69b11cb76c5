-- What a process holds can be told, and of two that are ready neither holds what the other one does.
use Rattle.std.proofs.Common.{◌≡◌, ◌≢◌, ℕ, ◌<◌, ◌==◌, ◌∙◌, ◌⊎◌, inl, inr, Bool, true, false, ◌||◌, ◌&&◌, List, [], ◌∷◌, length, ap, sym, refl, subst, eqb-true, eq-eqb}
use Rattle.cp_at_once_laws.proofs.Words.{SystemKind, Doing, owner_of, Owned, or_left, inside_from, Orderly, kind_at, SameTree}
use Rattle.cp_tree.specs.declared.declaration.SystemKind.TheVariants as system_kind
use Rattle.cp_meaning.specs.State.{initial_statement, uninitialised, Holder, in_call, in_component, initialising, initialised, Component, Call, ready, Process, process_at, State, waits_at}
use Rattle.cp_meaning.proofs.Frames.{Frame, frames, is_initial_kind, entry_in, initial_in}
use Rattle.cp_meaning.proofs.Good.{or_cases, or_right, status_at, GoodDoing, StatusMoves}
use Rattle.cp_meaning.proofs.Held.{HeldBy, HeldPlace, HeldCalls, held_more}
use Rattle.cp_at_once_laws.proofs.reading.Reading.{OwnPlace, OwnCalls}
use Rattle.cp_resolved.proofs.components.ComponentImages.{both as and_parts}
use Rattle.cp_resolved.proofs.declarations.StandingParts.{both_of as and_both}

abbrev is_monitor : SystemKind → Bool
is_monitor system_kind.Monitor = true
is_monitor system_kind.Class = false
is_monitor system_kind.Process = false

monitor_told : (k : SystemKind) → is_monitor k ≡ true → k ≡ system_kind.Monitor
monitor_told system_kind.Monitor h = refl
monitor_told x h = absurd (let bad : false ≡ true = h in cc)

-- as HeldBy says it
abbrev pub is_held : List Component → ℕ → List Frame → ℕ → Bool
is_held base me fs n = (owner_of base n == me) || (is_monitor (kind_at base (owner_of base n)) && (entry_in (owner_of base n) fs || initial_in (owner_of base n) fs))

pub held_true : (base : List Component) (me : ℕ) (fs : List Frame) (n : ℕ) → HeldBy base me fs n → is_held base me fs n ≡ true
held_true base me fs n (inl e) = or_left (owner_of base n == me) _ (eq-eqb (owner_of base n) me e)
held_true base me fs n (inr h) = or_right (owner_of base n == me) _ (and_both (is_monitor (kind_at base (owner_of base n))) _ (ap is_monitor h.0) (go h.1))
  where
    go : (entry_in (owner_of base n) fs ≡ true) ⊎ (initial_in (owner_of base n) fs ≡ true) → (entry_in (owner_of base n) fs || initial_in (owner_of base n) fs) ≡ true
    go (inl k) = or_left (entry_in (owner_of base n) fs) _ k
    go (inr k) = or_right (entry_in (owner_of base n) fs) _ k

pub held_told : (base : List Component) (me : ℕ) (fs : List Frame) (n : ℕ) → is_held base me fs n ≡ true → HeldBy base me fs n
held_told base me fs n h = go (or_cases (owner_of base n == me) _ h)
  where
    go : ((owner_of base n == me) ≡ true) ⊎ ((is_monitor (kind_at base (owner_of base n)) && (entry_in (owner_of base n) fs || initial_in (owner_of base n) fs)) ≡ true) → HeldBy base me fs n
    go (inl e) = inl (eqb-true (owner_of base n) me e)
    go (inr k) = let parts = and_parts (is_monitor (kind_at base (owner_of base n))) _ k in inr (monitor_told (kind_at base (owner_of base n)) parts.0, or_cases (entry_in (owner_of base n) fs) _ parts.1)

-- ---- a process's open calls are its own, and are none of another one's

place_own : (own : ℕ → Bool) (base : List Component) (me : ℕ) (fs : List Frame) → ((n : ℕ) → HeldBy base me fs n → own n ≡ true) → (h : Holder) → HeldPlace base me fs h → OwnPlace own h
place_own own base me fs lift (in_call b) k = tt
place_own own base me fs lift (in_component n) k = lift n k

pub calls_own : (own : ℕ → Bool) (base : List Component) (me : ℕ) (calls : List Call) → ((n : ℕ) → HeldBy base me (frames calls) n → own n ≡ true) → HeldCalls base me calls → OwnCalls own calls
calls_own own base me [] lift h = tt
calls_own own base me (c ∷ calls) lift h =
    let below : (n : ℕ) → HeldBy base me (frames calls) n → own n ≡ true = λ n k. lift n (held_more base me (c.kind, c.component) (frames calls) n k) in
    (lift c.component h.0, (λ x q e. place_own own base me (frames calls) below q.holder (h.2 x q e)), calls_own own base me calls below h.3)

module _ (base : List Component) (s : State) (tree : SameTree base s.components) (old : Orderly s.components s.processes) (a b : ℕ) (ne : a ≢ b) (la : a < length s.processes) (lb : b < length s.processes)
    (ra : (process_at s.processes a).status ≡ ready) (rb : (process_at s.processes b).status ≡ ready) (others : (process_at s.processes a).component ≢ (process_at s.processes b).component)
    (ka : kind_at base (process_at s.processes a).component ≡ system_kind.Process) (kb : kind_at base (process_at s.processes b).component ≡ system_kind.Process) where
  abbrev x : Process
  x = process_at s.processes a

  abbrev y : Process
  y = process_at s.processes b

  not_monitor : (n me : ℕ) {A : Type 0} → n ≡ me → kind_at base me ≡ system_kind.Process → kind_at base n ≡ system_kind.Monitor → A
  not_monitor n me e k m = absurd (let bad : system_kind.Process ≡ system_kind.Monitor = sym k ∙ ap (kind_at base) (sym e) ∙ m in cc)

  pub never_both : (n : ℕ) → HeldBy base x.component (frames x.calls) n → HeldBy base y.component (frames y.calls) n → ⊥
  never_both n (inl h) (inl k) = others (sym h ∙ k)
  never_both n (inl h) (inr k) = not_monitor (owner_of base n) x.component h ka k.0
  never_both n (inr h) (inl k) = not_monitor (owner_of base n) y.component k kb h.0
  never_both n (inr h) (inr k) = go h.1 k.1
    where
      go : (entry_in (owner_of base n) (frames x.calls) ≡ true) ⊎ (initial_in (owner_of base n) (frames x.calls) ≡ true) → (entry_in (owner_of base n) (frames y.calls) ≡ true) ⊎ (initial_in (owner_of base n) (frames y.calls) ≡ true) → ⊥
      go (inl e) (inl f) =
          ne (old.one_inside (owner_of base n) (tree.kind (owner_of base n) ∙ h.0) a b la lb
          (inside_from (owner_of base n) x e (ap (waits_at (owner_of base n)) ra)) (inside_from (owner_of base n) y f (ap (waits_at (owner_of base n)) rb)))
      go (inr e) (inr f) = ne (old.one_initial (owner_of base n) a b la lb e f)
      go (inl e) (inr f) = (let bad : initialised ≡ initialising = sym ((old.processes a la).entering (owner_of base n) e) ∙ (old.processes b lb).starting (owner_of base n) f in absurd cc)
      go (inr e) (inl f) = (let bad : initialised ≡ initialising = sym ((old.processes b lb).entering (owner_of base n) f) ∙ (old.processes a la).starting (owner_of base n) e in absurd cc)

  -- the flags: what a holds
  abbrev pub of_a : ℕ → Bool
  of_a n = is_held base x.component (frames x.calls) n

  -- ---- b's item leaves the statuses of what a holds

  pub initial_held : (m : ℕ) (calls : List Call) → HeldCalls base y.component calls → initial_in m (frames calls) ≡ true → HeldBy base y.component (frames calls) m
  initial_held m [] h e = absurd (let bad : false ≡ true = e in cc)
  initial_held m (c ∷ calls) h e = go (or_cases _ (initial_in m (frames calls)) e) (initial_held m calls h.3)
    where
      go : ((is_initial_kind c.kind && c.component == m) ≡ true) ⊎ (initial_in m (frames calls) ≡ true) → (initial_in m (frames calls) ≡ true → HeldBy base y.component (frames calls) m) → HeldBy base y.component (frames (c ∷ calls)) m
      go (inl k) rest = subst (HeldBy base y.component (frames (c ∷ calls))) (eqb-true c.component m (and_parts (is_initial_kind c.kind) (c.component == m) k).1) h.0
      go (inr k) rest = held_more base y.component (c.kind, c.component) (frames calls) m (rest k)

  -- who holds a monitor has begun it
  a_begun : (n : ℕ) → kind_at base n ≡ system_kind.Monitor → owner_of base n ≡ n → HeldBy base x.component (frames x.calls) n → status_at s.components n ≡ uninitialised → ⊥
  a_begun n mon self (inl e) u = not_monitor n x.component (sym self ∙ e) ka mon
  a_begun n mon self (inr h) u = go h.1
    where
      go : (entry_in (owner_of base n) (frames x.calls) ≡ true) ⊎ (initial_in (owner_of base n) (frames x.calls) ≡ true) → ⊥
      go (inl k) = (let bad : initialised ≡ uninitialised = sym ((old.processes a la).entering (owner_of base n) k) ∙ ap (status_at s.components) self ∙ u in absurd cc)
      go (inr k) = (let bad : initialising ≡ uninitialised = sym ((old.processes a la).starting (owner_of base n) k) ∙ ap (status_at s.components) self ∙ u in absurd cc)

  -- what b would hold after it began to initialise n
  begun_held : (n : ℕ) → HeldBy base x.component (frames x.calls) n → status_at s.components n ≡ uninitialised → HeldBy base y.component ((initial_statement, n) ∷ frames y.calls) n → ⊥
  begun_held n h u (inl e) = never_both n h (inl e)
  begun_held n h u (inr (mon, inl k)) = never_both n h (inr (mon, inl k))
  begun_held n h u (inr (mon, inr k)) = go (or_cases (n == owner_of base n) (initial_in (owner_of base n) (frames y.calls)) k)
    where
      go : ((n == owner_of base n) ≡ true) ⊎ (initial_in (owner_of base n) (frames y.calls) ≡ true) → ⊥
      go (inl e) = let self = eqb-true n (owner_of base n) e in a_begun n (ap (kind_at base) self ∙ mon) (sym self) h u
      go (inr k) = never_both n h (inr (mon, inr k))

  first_held : (n : ℕ) (calls : List Call) → frames calls ≡ (initial_statement, n) ∷ frames y.calls → HeldCalls base y.component calls → HeldBy base y.component ((initial_statement, n) ∷ frames y.calls) n
  first_held n [] e h = absurd (let bad : [] ≡ (initial_statement, n) ∷ frames y.calls = e in cc)
  first_held n (c ∷ calls) e h = let same : c.component ≡ n = ap (λ fs. first_of fs) e in subst (λ fs. HeldBy base y.component fs n) e (subst (HeldBy base y.component (frames (c ∷ calls))) same h.0)
    where
      first_of : List Frame → ℕ
      first_of [] = 0
      first_of (f ∷ fs) = f.1

  pub statuses_left : (d : Doing) → HeldCalls base y.component y.calls → GoodDoing s.components (frames y.calls) d → Owned base y.component d.calls d.components d.move →
      ((n : ℕ) → (status_at d.components n ≡ status_at s.components n) ⊎ ((frames d.calls ≡ (initial_statement, n) ∷ frames y.calls) ⊎ (status_at d.components n ≡ initialised))) →
      (n : ℕ) → HeldBy base x.component (frames x.calls) n → status_at d.components n ≡ status_at s.components n
  statuses_left d held good owned begins n h = go (good.status n) (begins n)
    where
      go : StatusMoves s.components d.components (frames y.calls) n → (status_at d.components n ≡ status_at s.components n) ⊎ ((frames d.calls ≡ (initial_statement, n) ∷ frames y.calls) ⊎ (status_at d.components n ≡ initialised)) → status_at d.components n ≡ status_at s.components n
      go (inl e) k = e
      go (inr (inl e)) (inl k) = k
      go (inr (inl e)) (inr (inl k)) = absurd (begun_held n h e.0 (first_held n d.calls k owned.held))
      go (inr (inl e)) (inr (inr k)) = (let bad : initialising ≡ initialised = sym e.1 ∙ k in absurd cc)
      go (inr (inr e)) k = absurd (never_both n h (initial_held n y.calls held e.1))
