-- What is known of a program and of all states that it reaches, so that each step on slots stands for one on names.
use Rattle.cp_tree.specs.Syntax.{Tree}
use Rattle.cp_slots.specs.Tables.{Tables}
use Rattle.cp_machine.specs.Machine.{Machine}
use Rattle.cp_meaning.specs.State.{Discipline, State}
use Rattle.cp_resolved.specs.Layouts.{Layouts}
use Rattle.cp_machine_laws.specs.Law.{Simulates}
use Rattle.cp_machine_laws.specs.Prepared.{ProgramKnown}
use Rattle.cp_machine_laws.specs.StatesKnown.{StateKnown}

abbrev pub StatesKnown : Tree → Tables → Layouts → Discipline → Type 0
StatesKnown t r l g = (s : State) (m : Machine) → Simulates t r l g s m → StateKnown t r l s m

pub record AllKnown (t : Tree) (r : Tables) (l : Layouts) (g : Discipline) : Type 0 where
  pub program : ProgramKnown t r l
  pub states : StatesKnown t r l g
