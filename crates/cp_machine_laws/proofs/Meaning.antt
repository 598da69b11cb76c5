-- The tables of a tree that was read and is accepted go in step with its meaning.
use Rattle.cp_machine_laws.proofs.Words.{◌≡◌, ℕ, subst, IsRead, Tree, plain, laid, Tables, IsAccepted, Discipline, slots, AreTablesOf, layouts_of, AllKnown, GoInStep}
use Rattle.cp_machine_laws.proofs.Words.{∥∥₁_elim, resolving_law}
use Rattle.cp_machine.specs.declared.discipline.Discipline as slot_discipline
use Rattle.cp_machine_laws.specs.Law.{Simulates, SameRuns, MeansTheSame}
use Rattle.cp_machine_laws.specs.Named.{named, discipline_of, named_discipline}
use Rattle.cp_machine_laws.proofs.Disciplines.{same_discipline}
use Rattle.cp_machine_laws.proofs.steps.GoingInStep.{in_step}
use Rattle.cp_machine_laws.proofs.trees.ProgramOfTree.{program_known}
use Rattle.cp_machine_laws.proofs.steps.Propositions.{means_once}
use Rattle.cp_machine_laws.proofs.steps.SameRuns.{same_runs}
use Rattle.cp_machine_laws.proofs.reached.StatesOfTree.{states_known}

module _ (t : Tree) (r : Tables) (g : Discipline) (read : IsRead t.program) (ok : IsAccepted t) (same : plain r ≡ laid t) where
  pub it : AreTablesOf t r
  it = resolving_law t r read ok same

  pub known : AllKnown t r (layouts_of t) g
  known = record { program = program_known t r read ok same; states = states_known t r read ok same g }

  pub goes_in_step : GoInStep (named t g) (slots r (discipline_of g)) (Simulates t r (layouts_of t) g)
  goes_in_step = in_step t r (layouts_of t) g ok it.stands it.sound known

  pub meaning_law : MeansTheSame t r g
  meaning_law = same_runs t r (layouts_of t) g goes_in_step

-- where it is only known that it was read
pub means : (t : Tree) (r : Tables) (g : Discipline) → ∥ IsRead t.program ∥₁ → IsAccepted t → plain r ≡ laid t → MeansTheSame t r g
means t r g read ok same = ∥∥₁_elim read (means_once t r g) (λ it. meaning_law t r g it ok same)

-- by the discipline that the machine has
pub runs_as_meant : (t : Tree) (r : Tables) (g : slot_discipline.Discipline) → ∥ IsRead t.program ∥₁ → IsAccepted t → plain r ≡ laid t → (choices steps : ℕ) → SameRuns (named t (named_discipline g)) (slots r g) choices steps
runs_as_meant t r g read ok same choices steps = subst (λ (h : slot_discipline.Discipline). SameRuns (named t (named_discipline g)) (slots r h) choices steps) (same_discipline g) (means t r (named_discipline g) read ok same choices steps)
