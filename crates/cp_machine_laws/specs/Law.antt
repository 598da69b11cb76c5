-- What is to be proved in the end, and what of it the lemma on systems gives.
use Rattle.std.specs.Prelude.{◌≡◌, ℕ, List}
use Rattle.cp_tree.specs.Syntax.{Tree}
use Rattle.cp_slots.specs.Tables.{Tables}
use Rattle.cp_machine.specs.Fits.{MachineFits, LinesFit}
use Rattle.cp_machine.specs.Machine.{Machine}
use Rattle.cp_machine.specs.Reach.{Reaches}
use Rattle.cp_run.specs.Run.{run}
use Rattle.cp_run.specs.Slots.{slots}
use Rattle.cp_run.specs.System.{System}
use Rattle.cp_run.specs.Table.{table}
use Rattle.cp_run.specs.Trace.{trace}
use Rattle.cp_meaning.specs.State.{Discipline, State}
use Rattle.cp_meaning.specs.Steps.{IsReached}
use Rattle.cp_machine_laws.specs.InStep.{GoInStep}
use Rattle.cp_resolved.specs.Layouts.{Layouts}
use Rattle.cp_resolved.specs.Stands.{Ground}
use Rattle.cp_resolved.specs.Enumerations.{constants_before}
use Rattle.cp_machine_laws.specs.Named.{named, discipline_of}
use Rattle.cp_machine_laws.specs.Represents.{Represents}

-- the tables, the lines of the tokens, and the numbers of enumeration constants
abbrev pub ground_of : Tree → Tables → Ground
ground_of t r = record { tables = r; lines = t.lines; firsts = constants_before t.program }

-- A reached state, a machine that stays inside the tables, and that the one stands for the other.
pub record Simulates (t : Tree) (r : Tables) (l : Layouts) (g : Discipline) (s : State) (m : Machine) : Type 0 where
  pub reached : IsReached t.program g s
  pub fits : MachineFits r m
  pub lines : LinesFit m
  pub reach : Reaches r m
  pub represents : Represents (ground_of t r) t.program l s m

-- two systems have the same runs, table and traces
pub record SameRuns {S T : Type 0} (a : System S) (b : System T) (choices steps : ℕ) : Type 0 where
  pub runs : (word : List ℕ) → run a choices steps word ≡ run b choices steps word
  pub tables : table a choices steps ≡ table b choices steps
  pub traces : (word : List ℕ) → trace a choices steps word ≡ trace b choices steps word

-- the meaning of a tree, and the slot machine of tables
abbrev pub MeansTheSame : Tree → Tables → Discipline → Type 0
MeansTheSame t r g = (choices steps : ℕ) → SameRuns (named t g) (slots r (discipline_of g)) choices steps

-- where the two systems go in step, they have the same runs, table and traces
abbrev pub SameRunsLaw : Type 0
SameRunsLaw = (t : Tree) (r : Tables) (l : Layouts) (g : Discipline) → GoInStep (named t g) (slots r (discipline_of g)) (Simulates t r l g) → MeansTheSame t r g
