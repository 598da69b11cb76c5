-- The walk over the tree of words.
use Rattle.std.specs.Prelude.{◌≡◌, ℕ, zero, suc, true, List, [], ◌∷◌, ◌++◌, map, if◌then◌else◌}
use Rattle.cp_machine.specs.declared.shown.Shown.{Shown}
use Rattle.cp_run.specs.declared.outcome.OutcomeKind.TheVariants.{ChoiceLimit}
use Rattle.cp_run.specs.System.{System}
use Rattle.cp_run.specs.Run.{joined_below, Node, Halted, Choosing, may, chosen}
use Rattle.cp_run.specs.Table.{Line}

-- a row, after more numbers
abbrev pub behind : List ℕ → Line → Line
behind word l = record { word = word ++ l.word; outcome = l.outcome }

-- a row, with what was displayed changed
abbrev pub shown_by : (List Shown → List Shown) → Line → Line
shown_by g l = record { word = l.word; outcome = record { kind = l.outcome.kind; output = g l.outcome.output } }

-- the rows from where a run stands, with this many choices left
unfoldable pub walk : {S : Type 0} → System S → ℕ → ℕ → Node S → List Line
walk sys steps choices (Halted kind s) = record { word = []; outcome = record { kind = kind; output = sys.output s } } ∷ []
walk sys steps zero (Choosing s) = record { word = []; outcome = record { kind = ChoiceLimit; output = sys.output s } } ∷ []
walk sys steps (suc choices) (Choosing s) = joined_below sys.processes (λ p. if may sys s p then map (behind (p ∷ [])) (walk sys steps choices (chosen sys steps s p)) else [])

-- where a choice is due, some number may be taken
abbrev pub IsDue : {S : Type 0} → System S → Node S → Type 0
IsDue sys (Halted kind s) = Unit {0}
IsDue sys (Choosing s) = (p : ℕ) × (may sys s p ≡ true)
