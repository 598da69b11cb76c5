-- How the limits at which schedules ended are written.
use Rattle.std.specs.Prelude.{ℕ, List, [], ◌∷◌, ◌++◌, Bool, ◌||◌, codes, if◌then◌else◌}
use Rattle.cp_run.specs.Table.{each}
use Rattle.cp_verdict.specs.declared.program.Stops.{Stops}

abbrev pub is_stopped : Stops → Bool
is_stopped s = s.choices || (s.steps || s.output)

-- a limit's name, if runs ended at it
abbrev pub named_if : Bool → List ℕ → List (List ℕ)
named_if is_met name = if is_met then name ∷ [] else []

-- joined by commas
abbrev pub comma_text : List (List ℕ) → List ℕ
comma_text [] = []
comma_text (x ∷ xs) = x ++ each (λ y. codes ", " ++ y) xs

-- the limits at which runs ended, by the names of a report
abbrev pub stops_text : Stops → List ℕ
stops_text s = comma_text (named_if s.choices (codes "choice-limit") ++ named_if s.steps (codes "step-limit") ++ named_if s.output (codes "output-limit"))
