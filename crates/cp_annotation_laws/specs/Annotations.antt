-- What annotations change of the schedules of a program: nothing, but that some end earlier, where one is false or can't be evaluated, or for want of steps.
use Rattle.std.specs.Prelude.{◌≡◌, ◌⊎◌, ℕ, List, ◌∷◌, ◌++◌, length}
use Rattle.cp_run.specs.declared.outcome.Outcome.{Outcome}
use Rattle.cp_run.specs.declared.outcome.OutcomeKind.{OutcomeKind}
use Rattle.cp_run.specs.declared.outcome.OutcomeKind.TheVariants.{RunError, StepLimit}
use Rattle.cp_run.specs.Run.{Ended, run}
use Rattle.cp_run.specs.Stop.{last_state}
use Rattle.cp_run.specs.System.{System}
use Rattle.cp_run.specs.Table.{table}
use Rattle.cp_tree.specs.Read.{IsRead}
use Rattle.cp_tree.specs.Syntax.{asserted, Tree}
use Rattle.cp_meaning_laws.specs.Accepted.{IsAccepted}
use Rattle.cp_meaning.specs.State.{Item, statement_item, process_at, Discipline, State}
use Rattle.cp_machine_laws.specs.Named.{named}
use Rattle.cp_annotation_laws.specs.Plain.{plain_tree}

-- ---- how schedules end

-- a schedule, with its outcome: a run uses all numbers of the word and ends
abbrev pub IsSchedule : {S : Type 0} → System S → (choices steps : ℕ) → List ℕ → Outcome → Type 0
IsSchedule sys choices steps word outcome = run sys choices steps word ≡ Ended outcome (length word)

-- an annotation is what is to be done next
abbrev pub IsAnnotation : List Item → Type 0
IsAnnotation (statement_item (asserted at k e s) ∷ items) = Unit {0}
IsAnnotation items = ⊥

-- The run was ended by the limit of steps, or by an annotation: in this last state the process that met the run error was to evaluate one. Such are the run
-- errors `assertion` and `invariant`, and each other one that the expression of an annotation meets.
abbrev pub IsBroken : OutcomeKind → State → Type 0
IsBroken StepLimit s = Unit {0}
IsBroken (RunError name process line) s = IsAnnotation (process_at s.processes process).items
IsBroken kind s = ⊥

-- the schedule ends so
abbrev pub IsBrokenSchedule : System State → (choices steps : ℕ) → List ℕ → Outcome → Type 0
IsBrokenSchedule sys choices steps word outcome = IsSchedule sys choices steps word outcome × IsBroken outcome.kind (last_state sys choices steps word)

-- a beginning of the word does
pub record HasBrokenBeginning (sys : System State) (choices steps : ℕ) (word : List ℕ) : Type 0 where
  pub beginning : List ℕ
  pub rest : List ℕ
  pub outcome : Outcome
  pub begins : word ≡ beginning ++ rest
  pub broken : IsBrokenSchedule sys choices steps beginning outcome

-- ---- with annotations and without

pub record MeansTheSameBut (with_them without : System State) : Type 0 where
  -- each schedule that no annotation and no limit of steps ends is one without annotations
  pub kept : (choices steps : ℕ) (word : List ℕ) (outcome : Outcome) → IsSchedule with_them choices steps word outcome → (IsBroken outcome.kind (last_state with_them choices steps word) → ⊥) → IsSchedule without choices steps word outcome
  -- each schedule without annotations is one with them, or is ended earlier
  pub found : (choices steps : ℕ) (word : List ℕ) (outcome : Outcome) → IsSchedule without choices steps word outcome → IsSchedule with_them choices steps word outcome ⊎ HasBrokenBeginning with_them choices steps word
  -- where none is ended so, both have the same table
  pub tables : (choices steps : ℕ) → ((word : List ℕ) (outcome : Outcome) → IsBrokenSchedule with_them choices steps word outcome → ⊥) → table with_them choices steps ≡ table without choices steps

-- of every program that is read and accepted, and the same without its annotations
abbrev pub AnnotationsLaw : Type 0
AnnotationsLaw = (t : Tree) (g : Discipline) → IsRead t.program → IsAccepted t → MeansTheSameBut (named t g) (named (plain_tree t) g)
