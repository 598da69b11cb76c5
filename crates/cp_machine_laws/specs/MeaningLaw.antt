-- The machine that runs stands for the meaning of the program on its own names.
use Rattle.std.specs.Prelude.{◌≡◌}
use Rattle.cp_tree.specs.Read.{IsRead}
use Rattle.cp_tree.specs.Syntax.{Tree}
use Rattle.cp_layout.specs.Laid.{plain, laid}
use Rattle.cp_slots.specs.Tables.{Tables}
use Rattle.cp_meaning_laws.specs.Accepted.{IsAccepted}
use Rattle.cp_meaning.specs.State.{Discipline}
use Rattle.cp_run.specs.Slots.{slots}
use Rattle.cp_resolved.specs.TreeLayouts.{layouts_of}
use Rattle.cp_machine_laws.specs.InStep.{GoInStep}
use Rattle.cp_machine_laws.specs.Law.{Simulates, MeansTheSame}
use Rattle.cp_machine_laws.specs.Named.{named, discipline_of}

-- For every program that is read and accepted, and the tables that are laid out of it: the opening machine represents the opening state, each step represents
-- the step of the rules, with its event, each admission represents the admission, and what is read off is the same.
abbrev pub InStepLaw : Type 0
InStepLaw = (t : Tree) (r : Tables) (g : Discipline) → IsRead t.program → IsAccepted t → plain r ≡ laid t → GoInStep (named t g) (slots r (discipline_of g)) (Simulates t r (layouts_of t) g)

-- so every run, the table and every trace are those of the meaning
abbrev pub MeaningLaw : Type 0
MeaningLaw = (t : Tree) (r : Tables) (g : Discipline) → IsRead t.program → IsAccepted t → plain r ≡ laid t → MeansTheSame t r g
