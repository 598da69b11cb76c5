-- What closed states of the machine that shows nothing say of the tables of the machine that shows.
use Rattle.std.specs.Prelude.{◌≡◌, ◌⊎◌, ◌≤◌, ℕ, List, All, Contains, length}
use Rattle.cp_run.specs.declared.outcome.Outcome.{Outcome}
use Rattle.cp_run.specs.declared.outcome.OutcomeKind.{OutcomeKind}
use Rattle.cp_run.specs.declared.outcome.OutcomeKind.TheVariants.{ChoiceLimit, OutputLimit}
use Rattle.cp_run.specs.System.{System}
use Rattle.cp_run.specs.Run.{Ended, run}
use Rattle.cp_run.specs.Table.{Line, table}
use Rattle.cp_endless_laws.specs.Forgetting.{forgetting_system}
use Rattle.cp_endless_laws.specs.Reachable.{EndsAfter}
use Rattle.cp_endless_laws.specs.Settled.{IsClosed}

-- an end of one of these kinds, or at a limit of choices or of output
abbrev pub IsKnownEnd : List OutcomeKind → OutcomeKind → Type 0
IsKnownEnd ends ChoiceLimit = Unit {0}
IsKnownEnd ends OutputLimit = Unit {0}
IsKnownEnd ends kind = Contains ends kind

-- each row ends so
abbrev pub HasKnownEnds : List OutcomeKind → List Line → Type 0
HasKnownEnds ends lines = All (λ l. IsKnownEnd ends l.outcome.kind) lines

-- the run of the word takes all of it and ends so, or its output is full before
abbrev pub RunsTo : {S : Type 0} → System S → (choices steps : ℕ) → List ℕ → OutcomeKind → Type 0
RunsTo sys choices steps word kind =
    (o : Outcome) × (used : ℕ) × (run sys choices steps word ≡ Ended o used) × (((used ≡ length word) × (o.kind ≡ kind)) ⊎ (o.kind ≡ OutputLimit))

-- However many choices a table has, none of its rows ends otherwise than the closed states tell.
abbrev pub TablesLaw : {S : Type 0} → System S → (S → S) → (S → Type 0) → Type 0
TablesLaw sys forget among =
    (steps : ℕ) (ends : List OutcomeKind) → IsClosed (forgetting_system sys forget) steps among (Contains ends) → (choices : ℕ) → HasKnownEnds ends (table sys choices steps)

-- A word that leads to an end is a schedule with this end, where as many choices are allowed.
abbrev pub WitnessLaw : {S : Type 0} → System S → (S → S) → Type 0
WitnessLaw sys forget =
    (steps : ℕ) (word : List ℕ) (kind : OutcomeKind) → EndsAfter (forgetting_system sys forget) steps word kind → (choices : ℕ) → length word ≤ choices → RunsTo sys choices steps word kind
