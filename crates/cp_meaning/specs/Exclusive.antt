-- At most one process is inside a monitor or initialises it (the book, chapter 8).
use Rattle.std.specs.Prelude.{◌≡◌, ℕ, ◌<◌, Bool, true, ◌||◌, length}
use Rattle.cp_tree.specs.declared.declaration.SystemKind.TheVariants as system_kind
use Rattle.cp_tree.specs.Syntax.{Program}
use Rattle.cp_meaning.specs.State.{component_at, Process, process_at, Discipline, State, is_inside, initialises}
use Rattle.cp_meaning.specs.Steps.{IsReached}
use Rattle.cp_meaning.specs.WellFormed.{IsWellFormed}

-- inside, or in the initial statement of the monitor
abbrev pub occupies : ℕ → Process → Bool
occupies m p = is_inside m p || initialises m p

-- for each monitor at most one process occupies it
abbrev pub IsExclusive : State → Type 0
IsExclusive s =
    (m q k : ℕ) → m < length s.components → (component_at s.components m).kind ≡ system_kind.Monitor →
    q < length s.processes → k < length s.processes →
    occupies m (process_at s.processes q) ≡ true → occupies m (process_at s.processes k) ≡ true → q ≡ k

-- in every reached state, whatever ready process steps
abbrev pub ExclusiveLaw : Type 0
ExclusiveLaw = (p : Program) → IsWellFormed p → (g : Discipline) (s : State) → IsReached p g s → IsExclusive s
