-- What is known of the states that are met without output, where the first of a line goes in.
use Rattle.std.proofs.Common.{◌≡◌, ◌⊎◌, inl, inr, ◌∙◌, ◌+◌, ◌<◌, ◌≤◌, ℕ, zero, suc, true, false, List, [], ◌∷◌, length, None, ap, sym, refl, arith}
use Rattle.std.proofs.lemmas.Bool.{cases_order}
use Rattle.cp_at_once_laws.proofs.Words.{SystemKind, Program, Tree, Component, ready, Process, process_at, Discipline, book_discipline, State, IsWellFormed, kind_at, OrderlyState}
use Rattle.cp_at_once_laws.proofs.Words.{reached, OwnedState, is_some, names, IsSomewhere, status_told, program_kind}
use Rattle.cp_tree.specs.declared.declaration.SystemKind.TheVariants as system_kind
use Rattle.cp_meaning.specs.Steps.{first_components, process_first, processes_from, own_begun, opening, step_of, IsReached, at_first, by_step, by_forgetting}
use Rattle.cp_machine_laws.specs.Running.{Happening, IsMet, met_first, met_by_step, met_by_admission}
use Rattle.cp_at_once_laws.proofs.pairs.Fit.{StartsKnown, Waiting, ProcessesUnknown, Fits}
use Rattle.cp_at_once_laws.proofs.pairs.Facts.{facts}
use Rattle.cp_at_once_laws.proofs.pairs.Shape.{step_stands}

-- ---- the owners of the first processes

-- they rise
abbrev RisingFrom : ℕ → List Process → Type 0
RisingFrom n [] = Unit {0}
RisingFrom n (q ∷ ps) = (n ≤ q.component) × RisingFrom (suc q.component) ps

rising_less : (m n : ℕ) (ps : List Process) → m ≤ n → RisingFrom n ps → RisingFrom m ps
rising_less m n [] le h = tt
rising_less m n (q ∷ ps) le h = ((let a = h.0 in omega (arith, le, a)), h.1)

rising_first : (k : SystemKind) (n : ℕ) (ps : List Process) → RisingFrom (suc n) ps → RisingFrom n (process_first k n ps)
rising_first system_kind.Process n ps h = (omega arith, h)
rising_first x n ps h = rising_less n (suc n) ps (omega arith) h

rising_from : (n : ℕ) (cs : List Component) → RisingFrom n (processes_from n cs)
rising_from n [] = tt
rising_from n (c ∷ cs) = rising_first c.kind n (processes_from (suc n) cs) (rising_from (suc n) cs)

rising_begun : (p : Program) (cs : List Component) (ps : List Process) → RisingFrom 0 ps → RisingFrom 0 (own_begun p cs ps)
rising_begun p (c ∷ cs) (q ∷ ps) h = (omega arith, rising_less 1 (suc q.component) ps (omega arith) h.1)
rising_begun p _ _ h = h

later_greater : (n : ℕ) (ps : List Process) (r : ℕ) → RisingFrom n ps → r < length ps → n ≤ (process_at ps r).component
later_greater n [] r h less = absurd (omega (arith, less))
later_greater n (x ∷ ps) zero h less = h.0
later_greater n (x ∷ ps) (suc r) h less = (let a = h.0 in let b = later_greater (suc x.component) ps r h.1 (omega (arith, less)) in omega (arith, a, b))

rising_apart : (n : ℕ) (ps : List Process) (q r : ℕ) → RisingFrom n ps → q < r → r < length ps → (process_at ps q).component < (process_at ps r).component
rising_apart n [] q r h before less = absurd (omega (arith, less))
rising_apart n (x ∷ ps) zero zero h before less = absurd (omega (arith, before))
rising_apart n (x ∷ ps) zero (suc r) h before less = later_greater (suc x.component) ps r h.1 (omega (arith, less))
rising_apart n (x ∷ ps) (suc q) zero h before less = absurd (omega (arith, before))
rising_apart n (x ∷ ps) (suc q) (suc r) h before less = rising_apart (suc x.component) ps q r h.1 (omega (arith, before)) (omega (arith, less))

several_first : (n : ℕ) (ps : List Process) → RisingFrom n ps → (q r : ℕ) → q < length ps → r < length ps → (process_at ps q).component ≡ (process_at ps r).component → q ≡ r
several_first n ps h q r lq lr same = go (cases_order q r)
  where
    go : (q ≡ r) ⊎ ((q < r) ⊎ (r < q)) → q ≡ r
    go (inl e) = e
    go (inr (inl l)) = absurd (let k = rising_apart n ps q r h l lr in omega (arith, k, same))
    go (inr (inr l)) = absurd (let k = rising_apart n ps r q h l lq in omega (arith, k, same))

-- they are processes
abbrev AreProcesses : List Component → List Process → Type 0
AreProcesses base [] = Unit {0}
AreProcesses base (q ∷ ps) = (kind_at base q.component ≡ system_kind.Process) × AreProcesses base ps

kinds_first : (base : List Component) (k : SystemKind) (n : ℕ) (ps : List Process) → kind_at base n ≡ k → AreProcesses base ps → AreProcesses base (process_first k n ps)
kinds_first base system_kind.Process n ps e h = (e, h)
kinds_first base _ n ps e h = h

kinds_from : (base : List Component) (n : ℕ) (cs : List Component) → ((k : ℕ) → kind_at base (n + k) ≡ kind_at cs k) → AreProcesses base (processes_from n cs)
kinds_from base n [] same = tt
kinds_from base n (c ∷ cs) same =
    kinds_first base c.kind n (processes_from (suc n) cs) (ap (kind_at base) (none n) ∙ same 0) (kinds_from base (suc n) cs (λ k. ap (kind_at base) (plus k) ∙ same (suc k)))
  where
    none : (m : ℕ) → m ≡ m + 0
    none m = omega arith

    plus : (k : ℕ) → suc n + k ≡ n + suc k
    plus k = omega arith

kinds_begun : (p : Program) (base cs : List Component) (ps : List Process) → kind_at base 0 ≡ system_kind.Process → AreProcesses base ps → AreProcesses base (own_begun p cs ps)
kinds_begun p base (c ∷ cs) (q ∷ ps) e h = (e, h.1)
kinds_begun p base _ _ e h = h

kind_first : (base : List Component) (ps : List Process) → AreProcesses base ps → (q : ℕ) → q < length ps → kind_at base (process_at ps q).component ≡ system_kind.Process
kind_first base [] h q less = absurd (omega (arith, less))
kind_first base (x ∷ ps) h zero less = h.0
kind_first base (x ∷ ps) h (suc q) less = kind_first base ps h.1 q (omega (arith, less))

-- ---- states that are met

-- what two more invariants keep
pub record Kept (p : Program) : Type 0 where
  pub rules : StartsKnown p
  pub waiting_opening : (g : Discipline) → Waiting (opening p g)
  pub waiting_step : (s : State) (pid : ℕ) → OwnedState (first_components p) s → OrderlyState s → s.discipline ≡ book_discipline → s.pending ≡ None → pid < length s.processes → (process_at s.processes pid).status ≡ ready → Waiting s → Waiting (step_of p s pid).state
  pub unknown_opening : (g : Discipline) → ProcessesUnknown p (opening p g)
  pub unknown_step : (s : State) (pid : ℕ) → OwnedState (first_components p) s → OrderlyState s → s.discipline ≡ book_discipline → pid < length s.processes → (process_at s.processes pid).status ≡ ready → ProcessesUnknown p s → ProcessesUnknown p (step_of p s pid).state

module _ (t : Tree) (wf : IsWellFormed t.program) (kept : Kept t.program) where
  abbrev p : Program
  p = t.program

  abbrev first_state : State
  first_state = opening p book_discipline

  pub record Known (s : State) : Type 0 where
    pub reach : IsReached p book_discipline s
    pub discipline : s.discipline ≡ book_discipline
    pub pending : s.pending ≡ None
    pub output : s.output ≡ []
    pub many : length s.processes ≡ length first_state.processes
    pub owners : (q : ℕ) → (process_at s.processes q).component ≡ (process_at first_state.processes q).component
    pub waits : Waiting s
    pub unknown : ProcessesUnknown p s

  -- nothing is pending
  none_pending : (s : State) → is_some s.pending ≡ true → s.pending ≡ None → ⊥
  none_pending s e n = (let bad : true ≡ false = sym e ∙ ap is_some n in cc)

  stepped : (s : State) (q : ℕ) → Known s → q < length s.processes → (process_at s.processes q).status ≡ ready → Known ((names t).step s q)
  stepped s q k less now_ready =
      let inv = reached p wf book_discipline s k.reach in
      let f = facts p s q wf inv.0 inv.1 less now_ready kept.rules k.unknown in
      let st = step_stands p wf s q k.discipline inv.0 inv.1 less now_ready f in
      record {
        reach = by_forgetting (step_of p s q).state (by_step s q k.reach k.pending less now_ready);
        discipline = st.shape.discipline ∙ k.discipline;
        pending = st.shape.pending ∙ k.pending;
        output = refl;
        many = sym st.shape.many ∙ k.many;
        owners = λ n. st.other.owners n ∙ k.owners n;
        waits = kept.waiting_step s q inv.0 inv.1 k.discipline k.pending less now_ready k.waits;
        unknown = kept.unknown_step s q inv.0 inv.1 k.discipline less now_ready k.unknown;
      }

  -- the processes of the system are those of the state
  below : (s : State) → Known s → (q : ℕ) → q < (names t).processes → q < length s.processes
  below s k q less = (let e = k.many in omega (arith, e, less))

  pub ready_told : (s : State) (q : ℕ) → (names t).is_ready s q ≡ true → (process_at s.processes q).status ≡ ready
  ready_told s q e = status_told (process_at s.processes q).status e

  pub known : (hs : List Happening) (s : State) → IsMet (names t) hs s → Known s
  known _ _ met_first =
      record {
        reach = by_forgetting first_state at_first;
        discipline = refl;
        pending = refl;
        output = refl;
        many = refl;
        owners = λ q. refl;
        waits = kept.waiting_opening book_discipline;
        unknown = kept.unknown_opening book_discipline;
      }
  known _ _ (met_by_step hs s q before can) = let k = known hs s before in stepped s q k (below s k q can.below) (ready_told s q can.ready)
  known _ _ (met_by_admission hs s q before can) = let k = known hs s before in absurd (none_pending s can.due k.pending)

  pub fits : (s : State) → IsSomewhere t s → Fits p s
  fits s met =
      let k = known met.happened s met.met in
      let inv = reached p wf book_discipline s k.reach in
      let base = first_components p in
      let rising = rising_begun p base (processes_from 0 base) (rising_from 0 base) in
      let are = kinds_begun p base base (processes_from 0 base) (program_kind p) (kinds_from base 0 base (λ n. ap (kind_at base) (plain n))) in
      record {
        first = k.discipline;
        free = k.pending;
        shown = k.output;
        owned = inv.0;
        orderly = inv.1;
        waits = k.waits;
        unknown = k.unknown;
        several = λ q r lq lr same. several_first 0 first_state.processes rising q r (fewer k.many q lq) (fewer k.many r lr) (sym (k.owners q) ∙ same ∙ k.owners r);
        kinds = λ q lq. ap (kind_at base) (k.owners q) ∙ kind_first base first_state.processes are q (fewer k.many q lq);
      }
    where
      plain : (n : ℕ) → 0 + n ≡ n
      plain n = omega arith

      fewer : length s.processes ≡ length first_state.processes → (q : ℕ) → q < length s.processes → q < length first_state.processes
      fewer e q less = omega (arith, e, less)
