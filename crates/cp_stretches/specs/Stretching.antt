-- Where a stretch leads to, by rows.
use Rattle.std.specs.Prelude.{◌≡◌, ◌++◌, ◌+◌, List, Some, if◌then◌else◌, true, false, ℕ}
use Rattle.cp_slots.specs.Tables.{Tables}
use Rattle.cp_machine.specs.declared.discipline.Discipline.{Discipline}
use Rattle.cp_machine.specs.declared.shown.Shown.{Shown}
use Rattle.cp_machine.specs.Machine.{Machine, in_line, is_pending, is_ready}
use Rattle.cp_machine.specs.Statements.{Stepped}
use Rattle.cp_machine.specs.Step.{step_at}
use Rattle.cp_run.specs.declared.outcome.Halt.{Halt}
use Rattle.cp_run.specs.declared.outcome.Halt.TheVariants.{Choice, Ended}
use Rattle.cp_run.specs.declared.outcome.OutcomeKind.{OutcomeKind}
use Rattle.cp_run.specs.declared.outcome.Turn.{Turn}
use Rattle.cp_run.specs.declared.outcome.Turn.TheVariants.{Due, Goes, Over}
use Rattle.cp_run.specs.Code.{IfGoes}
use Rattle.cp_run.specs.Fold.{Fold, fold_chosen, fold_stretch, fold_turn, walked, walked_chosen}
use Rattle.cp_run.specs.Run.{settled_turn, turn_after}
use Rattle.cp_run.specs.System.{System}
use Rattle.cp_run.specs.Silent.{silent_slots, without_output}
use Rattle.cp_effect_laws.specs.Effects.{Leg}
use Rattle.cp_parts.specs.declared.placing.PlaceTable.{PlaceTable}
use Rattle.cp_parts.specs.declared.store.PartStore.{PartStore}
use Rattle.cp_stretches.specs.Cached.{StandsFor}

-- the values that steps display, one after another
abbrev pub shower : Tables → Fold Machine (List Shown)
shower r = record { on_step = λ m p event after shown. shown ++ (step_at r m p).machine.output; on_admission = λ p m shown. shown; on_choice = λ m p shown. shown }

-- what comes next where a stretch halted
abbrev pub turn_of : Halt OutcomeKind → Turn
turn_of Choice = Due
turn_of (Ended kind) = Over kind

-- A choice that a machine takes leads to where a stretch halts, whose machine has this row, and displays these values after those before.
pub record LeadsTo (r : Tables) (discipline : Discipline) (s : PartStore) (t : PlaceTable) (steps : ℕ) (m : Machine) (pid : ℕ) (before : List Shown) (halt : Halt OutcomeKind) (row : List ℕ) (shown : List Shown) : Type 0 where
  pub after : Machine
  pub stands : StandsFor r discipline s t after row
  pub walked : walked_chosen (silent_slots r discipline) steps m pid ≡ (after, turn_of halt)
  pub told : fold_chosen (silent_slots r discipline) (shower r) steps m pid before ≡ shown

-- ---- a stretch that is made leg by leg

-- a machine of this row, before which this comes next: who goes on is ready, and nothing is pending then
pub record StandsAt (r : Tables) (discipline : Discipline) (s : PartStore) (t : PlaceTable) (m : Machine) (turn : Turn) (row : List ℕ) : Type 0 where
  pub machine : StandsFor r discipline s t m row
  pub ready : IfGoes turn (λ q. is_ready m q ≡ true)
  pub free : IfGoes turn (λ q. is_pending m ≡ false)

-- a process may make a leg in the machine of a row
abbrev pub MayGo : Tables → Discipline → PartStore → PlaceTable → Machine → (row : List ℕ) → (pid : ℕ) → Type 0
MayGo r discipline s t m row pid = StandsAt r discipline s t m (Goes pid) row

-- A process makes a leg of so many steps that these are left of as many as were. In the machine after it, which has this row, this comes next; what it displays is added.
pub record MakesLeg (r : Tables) (discipline : Discipline) (s : PartStore) (t : PlaceTable) (m : Machine) (pid left : ℕ) (before : List Shown) (turn : Turn) (rest : ℕ) (row : List ℕ) (shown : List Shown) : Type 0 where
  pub count : ℕ
  pub last : Stepped
  pub leg : Leg r m pid count last
  pub long : count + rest ≡ left
  pub stands : StandsAt r discipline s t (without_output last.machine) turn row
  pub next : turn ≡ turn_after (silent_slots r discipline) (without_output last.machine) pid last.event
  pub shows : shown ≡ before ++ last.machine.output

-- where so many steps are left and this comes next, a stretch leads to a machine with this row, that comes next, and so many are left then
pub record GoesOn (r : Tables) (discipline : Discipline) (s : PartStore) (t : PlaceTable) (m : Machine) (first : Turn) (left : ℕ) (before : List Shown) (turn : Turn) (rest : ℕ) (row : List ℕ) (shown : List Shown) : Type 0 where
  pub after : Machine
  pub stands : StandsAt r discipline s t after turn row
  pub walked : walked (silent_slots r discipline) left m first ≡ walked (silent_slots r discipline) rest after turn
  pub told : fold_turn (fold_stretch (silent_slots r discipline) (shower r) left m) first before ≡ fold_turn (fold_stretch (silent_slots r discipline) (shower r) rest after) turn shown

-- ---- how it begins

-- a process waits in the line of the pending monitor, in the machine of a row
pub record MayEnter (r : Tables) (discipline : Discipline) (s : PartStore) (t : PlaceTable) (m : Machine) (row : List ℕ) (pid monitor : ℕ) : Type 0 where
  pub machine : StandsFor r discipline s t m row
  pub pending : m.pending ≡ Some monitor
  pub waits : in_line m pid ≡ true

-- where a stretch begins after a choice, and what comes next there
abbrev pub first_of : {S : Type 0} → System S → S → (pid : ℕ) → S × Turn
first_of sys m pid = if sys.is_pending m then (sys.admit m pid, settled_turn sys (sys.admit m pid) true pid) else (m, Goes pid)

-- so the stretch after a choice that a machine takes is one before which this comes next, in a machine with this row
pub record Begins (r : Tables) (discipline : Discipline) (s : PartStore) (t : PlaceTable) (m : Machine) (pid : ℕ) (turn : Turn) (row : List ℕ) : Type 0 where
  pub after : Machine
  pub stands : StandsAt r discipline s t after turn row
  pub begun : first_of (silent_slots r discipline) m pid ≡ (after, turn)
