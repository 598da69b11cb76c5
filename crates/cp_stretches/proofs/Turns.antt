-- What comes next, by those who are ready.
use Rattle.std.proofs.Common.{◌≡◌, ℕ, Bool, true, false, if◌then◌else◌, List, [], ◌∷◌, ap, refl, subst}
use Rattle.cp_slots.specs.Tables.{Tables}
use Rattle.cp_machine.specs.declared.discipline.Discipline.{Discipline}
use Rattle.cp_machine.specs.declared.event.Event.{Event}
use Rattle.cp_machine.specs.declared.event.Event.TheVariants as event
use Rattle.cp_machine.specs.Machine.{Machine, is_pending, is_ready, waits}
use Rattle.cp_machine.specs.Step.{is_local}
use Rattle.cp_run.specs.declared.outcome.OutcomeKind.TheVariants.{AllWaiting, Finished}
use Rattle.cp_run.specs.declared.outcome.Turn.{Turn}
use Rattle.cp_run.specs.declared.outcome.Turn.TheVariants.{Due, Goes, Over}
use Rattle.cp_run.specs.Code.{IfGoes}
use Rattle.cp_run.specs.Run.{settled_turn, those_below, turn_after, turn_among, turn_at}
use Rattle.cp_run.specs.Silent.{silent_slots}
use Rattle.cp_run.specs.Slots.{processes_of, slots}
use Rattle.cp_run.specs.Table.{IsAmong, Here}
use Rattle.cp_run.proofs.Turning.{those_may}

module _ (r : Tables) (discipline : Discipline) (m : Machine) (p : ℕ) where
  -- ---- a machine that shows nothing has the same turns

  silent_among : (kernel : Bool) (ready : List ℕ) → turn_among (slots r discipline) m kernel p ready ≡ turn_among (silent_slots r discipline) m kernel p ready
  silent_among kernel [] = refl
  silent_among kernel (q ∷ []) = refl
  silent_among kernel (q ∷ s ∷ qs) = refl

  silent_at : (kernel : Bool) → turn_at (slots r discipline) m kernel p ≡ turn_at (silent_slots r discipline) m kernel p
  silent_at kernel = ap (λ t. if is_pending m then Due else t) (silent_among kernel (those_below (processes_of r) (is_ready m)))

  pub silent_settled : settled_turn (slots r discipline) m true p ≡ settled_turn (silent_slots r discipline) m true p
  silent_settled = silent_among true (those_below (processes_of r) (is_ready m))

  pub silent_after : (e : Event) → turn_after (slots r discipline) m p e ≡ turn_after (silent_slots r discipline) m p e
  silent_after event.Local = silent_at false
  silent_after (event.Kernel call) = silent_at true
  silent_after event.Ended = silent_at true
  silent_after (event.Fault e) = refl
  silent_after event.OutputFull = refl

  -- ---- who goes on is ready, and nothing is pending

  ready_among : (ready : List ℕ) → ready ≡ those_below (processes_of r) (is_ready m) → IfGoes (turn_among (slots r discipline) m true p ready) (λ q. is_ready m q ≡ true)
  ready_among [] is = by (waits m)
    where
      by : (b : Bool) → IfGoes (if b then Over AllWaiting else Over Finished) (λ q. is_ready m q ≡ true)
      by true = tt
      by false = tt
  ready_among (q ∷ []) is = those_may (processes_of r) (is_ready m) q (subst (IsAmong q) is (Here []))
  ready_among (q ∷ s ∷ qs) is = tt

  pub ready_settled : IfGoes (settled_turn (slots r discipline) m true p) (λ q. is_ready m q ≡ true)
  ready_settled = ready_among (those_below (processes_of r) (is_ready m)) refl

  ready_at : IfGoes (turn_at (slots r discipline) m true p) (λ q. is_ready m q ≡ true)
  ready_at = by (is_pending m)
    where
      by : (b : Bool) → IfGoes (if b then Due else settled_turn (slots r discipline) m true p) (λ q. is_ready m q ≡ true)
      by true = tt
      by false = ready_settled

  pub ready_after : (e : Event) → is_local e ≡ false → IfGoes (turn_after (slots r discipline) m p e) (λ q. is_ready m q ≡ true)
  ready_after event.Local h = absurd (cc)
  ready_after (event.Kernel call) h = ready_at
  ready_after event.Ended h = ready_at
  ready_after (event.Fault e) h = tt
  ready_after event.OutputFull h = tt

  pub always : (turn : Turn) (P : Type 0) → P → IfGoes turn (λ q. P)
  always (Over kind) P h = tt
  always Due P h = tt
  always (Goes q) P h = h

  free_at : IfGoes (turn_at (slots r discipline) m true p) (λ q. is_pending m ≡ false)
  free_at = by (is_pending m) refl
    where
      by : (b : Bool) → is_pending m ≡ b → IfGoes (if b then Due else settled_turn (slots r discipline) m true p) (λ q. is_pending m ≡ false)
      by true e = tt
      by false e = always (settled_turn (slots r discipline) m true p) (is_pending m ≡ false) e

  pub free_after : (e : Event) → is_local e ≡ false → IfGoes (turn_after (slots r discipline) m p e) (λ q. is_pending m ≡ false)
  free_after event.Local h = absurd (cc)
  free_after (event.Kernel call) h = free_at
  free_after event.Ended h = free_at
  free_after (event.Fault e) h = tt
  free_after event.OutputFull h = tt
