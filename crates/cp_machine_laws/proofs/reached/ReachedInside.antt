-- Who is inside a monitor in a reached state: at most one process, and nobody while a monitor is pending.
use Rattle.std.proofs.Common.{◌≡◌, ◌≢◌, ◌∙◌, ◌⊎◌, inl, inr, ℕ, suc, ◌<◌, Bool, true, false, if◌then◌else◌, List, [], ◌∷◌, Some, None, ap, sym, refl, subst, arith, length}
use Rattle.cp_meaning.specs.State.{initialising, initialised, unstarted, ready, Call, current, Process, process_at, State, waits_at, is_inside}
use Rattle.cp_machine_laws.proofs.Words.{after, first_inside, OrderlyState}
use Rattle.cp_meaning.proofs.Frames.{frames, entry_in, initial_in, entry_or_initial, Descends}
use Rattle.cp_meaning.proofs.Good.{IsMonitor, NonEmpty}
use Rattle.cp_meaning.proofs.Orderly.{inside_parts, inside_from}

pub not_true : (b : Bool) → (b ≡ true → ⊥) → b ≡ false
not_true true h = absurd (h refl)
not_true false h = refl

-- nobody that is inside is the first
pub nobody_first : (n : ℕ) (ps : List Process) → ((q : ℕ) → q < length ps → is_inside n (process_at ps q) ≡ true → ⊥) → first_inside n ps ≡ None
nobody_first n [] h = refl
nobody_first n (p ∷ ps) h =
    let here : is_inside n p ≡ false = not_true (is_inside n p) (λ e. h 0 (omega arith) e) in
    let there = nobody_first n ps (λ q less e. h (suc q) (omega arith) e) in
    ap (λ (b : Bool). if b then Some 0 else after (first_inside n ps)) here ∙ ap after there

module _ (s : State) (state : OrderlyState s) where
  -- who is ready and has an open entry call is inside
  pub inside_ready : (n q : ℕ) → (process_at s.processes q).status ≡ ready → entry_in n (frames (process_at s.processes q).calls) ≡ true → is_inside n (process_at s.processes q) ≡ true
  inside_ready n q was e = inside_from n (process_at s.processes q) e (ap (waits_at n) was)

  -- whoever is inside a monitor, or initialises it, is alone
  pub others_outside : (n q : ℕ) → IsMonitor s.components n → q < length s.processes → (process_at s.processes q).status ≡ ready → (entry_in n (frames (process_at s.processes q).calls) ≡ true) ⊎ (initial_in n (frames (process_at s.processes q).calls) ≡ true) →
      (k : ℕ) → k < length s.processes → k ≢ q → is_inside n (process_at s.processes k) ≡ false
  others_outside n q mon less was (inl e) k there other = not_true (is_inside n (process_at s.processes k)) (λ h. other (state.orderly.one_inside n mon k q there less h (inside_ready n q was e)))
  others_outside n q mon less was (inr e) k there other =
      not_true (is_inside n (process_at s.processes k)) (λ h.
      (let mine = (state.orderly.processes q less).starting n e in
      let his = (state.orderly.processes k there).entering n (inside_parts n (process_at s.processes k) h).0 in
      let bad : initialising ≡ initialised = sym mine ∙ his in cc))

  -- a process that has begun has an open call
  pub some_call : (q : ℕ) → q < length s.processes → ((process_at s.processes q).status ≡ unstarted → ⊥) → (c : Call) × (cs : List Call) × ((process_at s.processes q).calls ≡ c ∷ cs)
  some_call q less begun = go (process_at s.processes q).calls refl ((state.orderly.processes q less).open_calls begun)
    where
      go : (cs : List Call) → (process_at s.processes q).calls ≡ cs → NonEmpty (frames (process_at s.processes q).calls) → (c : Call) × (ds : List Call) × ((process_at s.processes q).calls ≡ c ∷ ds)
      go [] e some = absurd (subst (λ (cs : List Call). NonEmpty (frames cs)) e some)
      go (c ∷ cs) e some = (c, cs, e)

  -- the process that executes in a monitor is alone
  pub executes_alone : (q : ℕ) → q < length s.processes → (process_at s.processes q).status ≡ ready → IsMonitor s.components (current (process_at s.processes q).calls).component →
      (k : ℕ) → k < length s.processes → k ≢ q → is_inside (current (process_at s.processes q).calls).component (process_at s.processes k) ≡ false
  executes_alone q less was mon =
      let w = some_call q less (λ e. (let bad : ready ≡ unstarted = sym was ∙ e in cc)) in
      others_outside (current (process_at s.processes q).calls).component q mon less was
      (subst (λ (cs : List Call). (entry_in (current cs).component (frames cs) ≡ true) ⊎ (initial_in (current cs).component (frames cs) ≡ true)) (sym w.2)
      (entry_or_initial s.components (w.0.kind, w.0.component) (frames w.1) (subst (λ (cs : List Call). Descends s.components (frames cs)) w.2 (state.orderly.processes q less).order) (subst (λ (cs : List Call). IsMonitor s.components (current cs).component) w.2 mon)))

  -- nobody is inside of what is pending
  pub pending_free : (n : ℕ) → s.pending ≡ Some n → IsMonitor s.components n → first_inside n s.processes ≡ None
  pending_free n e mon = nobody_first n s.processes (state.pending n e mon)
