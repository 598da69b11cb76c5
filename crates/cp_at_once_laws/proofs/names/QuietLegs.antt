-- A leg that may be made at once on slots is a quiet leg on names: what is as it was after the leg was so after each of its steps.
use Rattle.cp_at_once_laws.proofs.Words.{◌≡◌, ◌∙◌, ◌⊎◌, inl, inr, ℕ, ◌<◌, ◌≤◌, length, ap, sym, refl, arith, IsRead, Program, Tree, SystemKind, plain, laid, Tables}
use Rattle.cp_at_once_laws.proofs.Words.{IsAccepted, well_formed, Machine, by_the_book, first_components, kind_at, status_at, reached, CanGo, GoInStep, is_call, QuietLeg}
use Rattle.cp_at_once_laws.proofs.Words.{calls_quietly, after_quiet, HasQuietLeg, status_told, slots, named, names, is_quiet, IsQuietStep}
use Rattle.std.proofs.lemmas.Bool.{cases_lt}
use Rattle.std.specs.Prelude.{slice_index_or}
use Rattle.cp_tree.specs.declared.declaration.SystemKind.TheVariants as system_kind
use Rattle.cp_slots.specs.declared.tables.ComponentKind.{ComponentKind}
use Rattle.cp_slots.specs.declared.tables.ComponentKind.TheVariants as kind
use Rattle.cp_slots.specs.Tables as tables
use Rattle.cp_machine.specs.declared.state.Phase.{Phase}
use Rattle.cp_machine.specs.declared.state.Phase.TheVariants.{Uninitialised, Initialising, Initialised}
use Rattle.cp_meaning.specs.State.{ComponentStatus, uninitialised, initialising, initialised, process_at, book_discipline, State}
use Rattle.cp_meaning.proofs.Held.{kind_past}
use Rattle.cp_resolved.specs.Resolved.{KindIs}
use Rattle.cp_resolved.specs.TreeLayouts.{layouts_of}
use Rattle.cp_machine_laws.specs.Law.{Simulates}
use Rattle.cp_machine_laws.specs.Represents.{PhaseIs}
use Rattle.cp_machine_laws.proofs.Forgetting.{forgets}
use Rattle.cp_machine_laws.proofs.Meaning.{it, goes_in_step}
use Rattle.cp_endless_laws.specs.Silent.{named_without_output, silent_slots, without_output}
use Rattle.cp_endless_laws.proofs.names.Going.{silent_in_step}
use Rattle.cp_endless_laws.proofs.names.Meant.{leaves}
use Rattle.cp_at_once_laws.specs.OnSlots.{IsQuietEvent, IsQuietOnSlots}
use Rattle.cp_at_once_laws.proofs.rules.StartsKnown.{StartsKnown}
use Rattle.cp_at_once_laws.proofs.names.Commuting.{within_of}
use Rattle.cp_at_once_laws.proofs.names.Reached.{unpending}
use Rattle.cp_at_once_laws.proofs.pairs.Onwards.{rank, rank_same, Onwards, onwards_then, step_onwards}

-- the machine stands for the state on names
abbrev pub OnSlots : Tree → Tables → State → Machine → Type 0
OnSlots t r = Simulates t r (layouts_of t) book_discipline

-- ---- a phase is one status

status_of : Phase → ComponentStatus
status_of Uninitialised = uninitialised
status_of Initialising = initialising
status_of Initialised = initialised

class_phase : (u : ComponentStatus) (f : Phase) → PhaseIs kind.Class u f → u ≡ status_of f
unfolding status_of
class_phase uninitialised Uninitialised h = refl
class_phase initialising Initialising h = refl
class_phase initialised Initialised h = refl
class_phase _ _ h = absurd h

monitor_phase : (q : ℕ) (u : ComponentStatus) (f : Phase) → PhaseIs (kind.Monitor q) u f → u ≡ status_of f
unfolding status_of
monitor_phase q uninitialised Uninitialised h = refl
monitor_phase q initialising Initialising h = refl
monitor_phase q initialised Initialised h = refl
monitor_phase q _ _ h = absurd h

-- of a component that is no process
phase_told : (r : Tables) (p : Program) (n : ℕ) (a : SystemKind) (k : ComponentKind) → KindIs r p n a k → (a ≡ system_kind.Process → ⊥) → (u : ComponentStatus) (f : Phase) → PhaseIs k u f → u ≡ status_of f
phase_told r p n system_kind.Class kind.Class h other u f i = class_phase u f i
phase_told r p n system_kind.Monitor (kind.Monitor q) h other u f i = monitor_phase q u f i
phase_told r p n system_kind.Process k h other u f i = absurd (other refl)
phase_told r p n _ _ h other u f i = absurd h

is_process : (a : SystemKind) → (a ≡ system_kind.Process) ⊎ (a ≡ system_kind.Process → ⊥)
is_process system_kind.Process = inl refl
is_process x = inr (λ e. cc)

module _ (t : Tree) (r : Tables) (read : IsRead t.program) (ok : IsAccepted t) (rules : StartsKnown t.program) (same : plain r ≡ laid t) where
  pub in_step : GoInStep (names t) (silent_slots r by_the_book) (OnSlots t r)
  in_step =
      silent_in_step (named t book_discipline) (slots r by_the_book) (OnSlots t r) (goes_in_step t r book_discipline read ok same) named_without_output without_output
      (λ s m h. forgets t r (layouts_of t) book_discipline s m h) (leaves t book_discipline)

  -- ---- the states after a leg

  on_names : (s : State) (m : Machine) (p : ℕ) → OnSlots t r s m → CanGo (names t) s p → (n : ℕ) → Onwards (first_components t.program) s.components ((names t).step s p).components n
  on_names s m p h can n =
      let wf = well_formed t ok in
      let u = unpending t.program wf rules s h.reached in
      let inv = reached t.program wf book_discipline s h.reached in
      let is_ready = status_told (process_at s.processes p).status can.ready in
      step_onwards t.program wf rules s p u.discipline inv.0 inv.1 (within_of s.processes p is_ready) is_ready u.unknown n

  record Along (s : State) (p : ℕ) (u : Machine) : Type 0 where
    after : State
    stands : OnSlots t r after u
    onwards : (n : ℕ) → Onwards (first_components t.program) s.components after.components n
    quietly : ((n : ℕ) → status_at after.components n ≡ status_at s.components n) → QuietLeg (names t) (IsQuietStep t) s p after

  along : (m : Machine) (p : ℕ) (u : Machine) → QuietLeg (silent_slots r by_the_book) (IsQuietEvent r) m p u → (s : State) → OnSlots t r s m → CanGo (names t) s p → Along s p u
  along _ _ _ (calls_quietly m p k h) s stands can =
      let event = in_step.event s m p stands can in
      record {
        after = (names t).step s p;
        stands = in_step.step s m p stands can;
        onwards = on_names s m p stands can;
        quietly = λ keeps. calls_quietly s p (record { event = ap is_quiet event ∙ k; statuses = keeps }) (ap is_call event ∙ h);
      }
  along _ _ _ (after_quiet m p u k h l) s stands can = go (along ((silent_slots r by_the_book).step m p) p u l ((names t).step s p) there still)
    where
      event : (names t).event s p ≡ (silent_slots r by_the_book).event m p
      event = in_step.event s m p stands can

      there : OnSlots t r ((names t).step s p) ((silent_slots r by_the_book).step m p)
      there = in_step.step s m p stands can

      still : CanGo (names t) ((names t).step s p) p
      still =
          record {
            below = can.below;
            ready = in_step.stays s m p stands can (event ∙ h);
            free = ap Rattle.cp_machine_laws.specs.Named.is_some (unpending t.program (well_formed t ok) rules ((names t).step s p) there.reached).none;
          }

      go : Along ((names t).step s p) p u → Along s p u
      go a =
          record {
            after = a.after;
            stands = a.stands;
            onwards = λ n. onwards_then (first_components t.program) s.components ((names t).step s p).components a.after.components n (first n) (a.onwards n);
            quietly = λ keeps. after_quiet s p a.after (record { event = ap is_quiet event ∙ k; statuses = λ n. here n (keeps n) }) (event ∙ h) (a.quietly (λ n. keeps n ∙ sym (here n (keeps n))));
          }
        where
          first : (n : ℕ) → Onwards (first_components t.program) s.components ((names t).step s p).components n
          first = on_names s m p stands can

          -- between two that are the same
          here : (n : ℕ) → status_at a.after.components n ≡ status_at s.components n → status_at ((names t).step s p).components n ≡ status_at s.components n
          here n e =
              let up = (first n).on in
              let rest = (a.onwards n).on in
              let end = ap rank e in
              rank_same (status_at ((names t).step s p).components n) (status_at s.components n) (omega (arith, up, rest, end))

  -- ---- statuses are as phases

  status_kept : (s x : State) (m u : Machine) → OnSlots t r s m → OnSlots t r x u → u.phases ≡ m.phases → (n : ℕ) → (kind_at (first_components t.program) n ≡ system_kind.Process → ⊥) → status_at x.components n ≡ status_at s.components n
  status_kept s x m u hs hx phases n other =
      phase_told r t.program n (kind_at (first_components t.program) n) (tables.component_at r n).kind kinds other (status_at x.components n) (slice_index_or u.phases n Uninitialised) (hx.represents.components n below_x).phase
      ∙ ap (λ fs. status_of (slice_index_or fs n Uninitialised)) phases
      ∙ sym (phase_told r t.program n (kind_at (first_components t.program) n) (tables.component_at r n).kind kinds other (status_at s.components n) (slice_index_or m.phases n Uninitialised) (hs.represents.components n below_s).phase)
    where
      stands : length r.components ≡ length (first_components t.program)
      stands = (it t r book_discipline read ok same).stands.count

      less : n < length (first_components t.program)
      less = go (cases_lt n (length (first_components t.program)))
        where
          go : (n < length (first_components t.program)) ⊎ (length (first_components t.program) ≤ n) → n < length (first_components t.program)
          go (inl l) = l
          go (inr l) = absurd (other (kind_past (first_components t.program) n l))

      there : n < length r.components
      there = (let l = less in let e = stands in omega (arith, l, e))

      below_s : n < length s.components
      below_s = (let l = there in let e = hs.represents.component_count in omega (arith, l, e))

      below_x : n < length x.components
      below_x = (let l = there in let e = hx.represents.component_count in omega (arith, l, e))

      kinds : KindIs r t.program n (kind_at (first_components t.program) n) (tables.component_at r n).kind
      kinds = ((it t r book_discipline read ok same).stands.components n there).kind

  pub quiet_leg : (s : State) (m : Machine) (p : ℕ) → OnSlots t r s m → CanGo (names t) s p → IsQuietOnSlots r m p → HasQuietLeg (names t) (IsQuietStep t) s p
  quiet_leg s m p h can q = (a.after, a.quietly keeps)
    where
      a : Along s p q.after
      a = along m p q.after q.leg s h can

      keeps : (n : ℕ) → status_at a.after.components n ≡ status_at s.components n
      keeps n = go (is_process (kind_at (first_components t.program) n))
        where
          go : (kind_at (first_components t.program) n ≡ system_kind.Process) ⊎ (kind_at (first_components t.program) n ≡ system_kind.Process → ⊥) → status_at a.after.components n ≡ status_at s.components n
          go (inl process) = (a.onwards n).process process
          go (inr other) = status_kept s a.after m q.after h a.stands q.phases n other
