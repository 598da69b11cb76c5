-- What the machine that runs stands for, in each state that it reaches.
use Rattle.std.specs.Prelude.{◌≡◌, ℕ, ◌<◌, List, [], ◌∷◌}
use Rattle.cp_tree.specs.Read.{IsRead}
use Rattle.cp_tree.specs.Syntax.{Tree}
use Rattle.cp_layout.specs.Laid.{plain, laid}
use Rattle.cp_slots.specs.Tables.{Tables}
use Rattle.cp_meaning_laws.specs.Accepted.{IsAccepted}
use Rattle.cp_meaning.specs.Exclusive.{IsExclusive}
use Rattle.cp_meaning.specs.Readings.{rising_line}
use Rattle.cp_meaning.specs.Ownership.{ChangesHeld, OthersKept}
use Rattle.cp_meaning.specs.State.{Discipline, State}
use Rattle.cp_meaning.specs.Steps.{step_of}
use Rattle.cp_machine.specs.Machine.{Machine, waiting_of}
use Rattle.cp_run.specs.Slots.{slots}
use Rattle.cp_run.specs.System.{System}
use Rattle.cp_resolved.specs.TreeLayouts.{layouts_of}
use Rattle.cp_machine_laws.specs.InStep.{CanGo, CanEnter, LooksAlike}
use Rattle.cp_machine_laws.specs.Law.{Simulates}
use Rattle.cp_machine_laws.specs.Named.{named, discipline_of, monitor_number}

-- what happens to a state: a process takes a step, or is let in at the pending monitor
pub data Happening : Type 0 where
  steps : ℕ → Happening
  goes_in : ℕ → Happening

-- The states that a system reaches, by what has happened, the latest first: steps of processes that may go, and admissions.
pub data IsMet {S : Type 0} (sys : System S) : List Happening → S → Type 0 where
  met_first : IsMet sys [] sys.start
  met_by_step : (hs : List Happening) (s : S) (p : ℕ) → IsMet sys hs s → CanGo sys s p → IsMet sys (steps p ∷ hs) (sys.step s p)
  met_by_admission : (hs : List Happening) (s : S) (p : ℕ) → IsMet sys hs s → CanEnter sys s p → IsMet sys (goes_in p ∷ hs) (sys.admit s p)

-- What a step of a process is: the machine stands for the state after the step on names. Each changed variable is one that the process held, and the open
-- calls of the others are as they were.
pub record StepsAsMeant (t : Tree) (r : Tables) (g : Discipline) (s : State) (m : Machine) (p : ℕ) : Type 0 where
  pub event : (named t g).event s p ≡ (slots r (discipline_of g)).event m p
  pub simulates : Simulates t r (layouts_of t) g (step_of t.program s p).state ((slots r (discipline_of g)).step m p)
  pub held : ChangesHeld t.program s (step_of t.program s p).state p
  pub others : OthersKept s (step_of t.program s p).state p

-- The machine stands for the state to which the same happenings lead on names. What is read of both is the same, and at most one process is inside each monitor.
pub record RunsAsMeant (t : Tree) (r : Tables) (g : Discipline) (hs : List Happening) (m : Machine) : Type 0 where
  pub state : State
  pub met : IsMet (named t g) hs state
  pub simulates : Simulates t r (layouts_of t) g state m
  pub alike : LooksAlike (named t g) (slots r (discipline_of g)) state m
  -- who is at the gate of each monitor, in rising order
  pub waiting : (k : ℕ) → k < (named t g).monitors → rising_line state (monitor_number t.program g k) ≡ waiting_of m k
  pub exclusive : IsExclusive state
  pub steps : (p : ℕ) → CanGo (slots r (discipline_of g)) m p → StepsAsMeant t r g state m p

-- of every program that is read and accepted, whatever schedule is run
abbrev pub RunningLaw : Type 0
RunningLaw = (t : Tree) (r : Tables) (g : Discipline) → IsRead t.program → IsAccepted t → plain r ≡ laid t → (hs : List Happening) (m : Machine) → IsMet (slots r (discipline_of g)) hs m → RunsAsMeant t r g hs m
