-- The effect of a leg: what it makes of a machine, it makes of each that agrees with it on what the leg touches.
use Rattle.std.specs.Prelude.{◌≡◌, ◌+◌, ℕ, suc, false, true, Some}
use Rattle.cp_slots.specs.Fits.{IsSound}
use Rattle.cp_slots.specs.Tables.{Tables}
use Rattle.cp_machine.specs.declared.discipline.Discipline.{Discipline}
use Rattle.cp_machine.specs.declared.event.Event.TheVariants.{Local}
use Rattle.cp_machine.specs.Machine.{Machine, is_pending, is_ready}
use Rattle.cp_machine.specs.Statements.{Stepped}
use Rattle.cp_machine.specs.Step.{is_local, step_at}
use Rattle.cp_run.specs.declared.outcome.Turn.TheVariants.{Goes}
use Rattle.cp_machine.specs.Opening.{admit_waiting}
use Rattle.cp_run.specs.Fold.{Fold, fold_stretch, fold_turn, walked}
use Rattle.cp_run.specs.Run.{turn_after}
use Rattle.cp_run.specs.Silent.{silent_slots, without_output}
use Rattle.cp_effect_laws.specs.Footprint.{Footprint, laid_over, step_over}
use Rattle.cp_effect_laws.specs.Touches.{HasStep, HasWaiters, IsKept}

-- a process of a machine of the program may make a step
pub record IsToStep (r : Tables) (m : Machine) (p : ℕ) : Type 0 where
  pub sound : IsSound r
  pub kept : IsKept r m
  pub ready : is_ready m p ≡ true
  pub free : is_pending m ≡ false

-- ---- legs

-- the steps of a process up to and with the first that is not local, with nothing displayed before it: how many, and what the last one comes to
pub data Leg (r : Tables) : Machine → ℕ → ℕ → Stepped → Type 0 where
  ends : (m : Machine) (p : ℕ) → is_local (step_at r m p).event ≡ false → Leg r m p 1 (step_at r m p)
  goes_on : (m : Machine) (p k : ℕ) (last : Stepped) → (step_at r m p).event ≡ Local → Leg r (without_output (step_at r m p).machine) p k last → Leg r m p (suc k) last

-- the same, where the footprint has all that each step may touch
pub data LegWithin (f : Footprint) (r : Tables) : Machine → ℕ → ℕ → Stepped → Type 0 where
  ends_within : (m : Machine) (p : ℕ) → HasStep f r m p → is_local (step_at r m p).event ≡ false → LegWithin f r m p 1 (step_at r m p)
  goes_on_within : (m : Machine) (p k : ℕ) (last : Stepped) → HasStep f r m p → (step_at r m p).event ≡ Local → LegWithin f r (without_output (step_at r m p).machine) p k last → LegWithin f r m p (suc k) last

-- ---- the laws

-- one step
abbrev pub StepLaw : Type 0
StepLaw =
    (f : Footprint) (r : Tables) (m n : Machine) (p : ℕ) → IsToStep r m p → HasStep f r m p → HasWaiters f m → HasWaiters f n →
    step_at r (laid_over f m n) p ≡ step_over f (step_at r m p) n

-- A leg from a machine that agrees on the footprint is as long and ends in the same event; it agrees on the footprint afterwards, and the rest is as it was.
abbrev pub LegLaw : Type 0
LegLaw =
    (f : Footprint) (r : Tables) (m n : Machine) (p k : ℕ) (last : Stepped) → IsToStep r m p → HasWaiters f m → HasWaiters f n →
    LegWithin f r m p k last → Leg r (laid_over f m n) p k (step_over f last n)

-- what is not in the footprint stays
abbrev pub StaysLaw : Type 0
StaysLaw =
    (f : Footprint) (r : Tables) (m : Machine) (p k : ℕ) (last : Stepped) → IsToStep r m p → HasWaiters f m →
    LegWithin f r m p k last → laid_over f last.machine m ≡ last.machine

-- a leg is what a stretch begins with
abbrev pub WalkedLaw : Type 0
WalkedLaw =
    (r : Tables) (discipline : Discipline) (m : Machine) (p k left : ℕ) (last : Stepped) → IsToStep r m p → Leg r m p k last →
    let after = without_output last.machine in
    walked (silent_slots r discipline) (k + left) m (Goes p) ≡ walked (silent_slots r discipline) left after (turn_after (silent_slots r discipline) after p last.event)

-- ---- what is made of a stretch, and admissions

-- the machine before the last step
abbrev pub before_last : {r : Tables} {m : Machine} {p k : ℕ} {last : Stepped} → Leg r m p k last → Machine
before_last (ends m p is) = m
before_last (goes_on m p k last is rest) = before_last rest

-- nothing is made of a local step
abbrev pub LeavesLocal : {X : Type 0} → Tables → Fold Machine X → Type 0
LeavesLocal {X} r F = (m : Machine) (p : ℕ) (x : X) → (step_at r m p).event ≡ Local → F.on_step m p Local (without_output (step_at r m p).machine) x ≡ x

-- of a leg is made what is made of its last step
abbrev pub FoldedLaw : {X : Type 0} → Fold Machine X → Type 0
FoldedLaw {X} F =
    (r : Tables) (discipline : Discipline) (m : Machine) (p k left : ℕ) (last : Stepped) (x : X) → LeavesLocal r F → IsToStep r m p → (leg : Leg r m p k last) →
    let sys = silent_slots r discipline in
    let after = without_output last.machine in
    fold_stretch sys F (k + left) m p x ≡ fold_turn (fold_stretch sys F left after) (turn_after sys after p last.event) (F.on_step (before_last leg) p last.event after x)

-- who is let in at a monitor of the footprint
abbrev pub AdmissionLaw : Type 0
AdmissionLaw =
    (f : Footprint) (m n : Machine) (p k : ℕ) → m.pending ≡ Some k → f.monitors k ≡ true → f.statuses p ≡ true →
    admit_waiting (laid_over f m n) p ≡ laid_over f (admit_waiting m p) n
