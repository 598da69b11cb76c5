-- Ranks of the states of a graph, which show that a process does not wait for ever.
use Rattle.std.specs.Prelude.{◌≡◌, ◌≤◌, ◌<◌, ℕ, Option, None, Some, true, false, slice_get, slice_index}
use Rattle.cp_waits.specs.declared.components.EdgeComponent.{EdgeComponent}
use Rattle.cp_waits.specs.declared.components.EdgeComponents.{EdgeComponents}
use Rattle.cp_waits.specs.declared.graph.Edge.{Edge}
use Rattle.cp_waits.specs.declared.graph.Graph.{Graph}
use Rattle.cp_waits.specs.declared.passing.Keeping.{Keeping}
use Rattle.cp_waits.specs.declared.passing.Keeping.TheVariants.{Waiting, Inside}
use Rattle.cp_waits.specs.declared.passing.PassingSets.{PassingSets}
use Rattle.cp_waits.specs.Keeps.{keeps}
use Rattle.cp_waits.specs.Sets.{has}
use Rattle.cp_waits.specs.Walks.{IsEdge}

-- the process that is passed over is not served; where there is none, the process that stays inside does not wait
abbrev pub IsPassedOver : ℕ → Keeping → Option ℕ → PassingSets → Type 0
IsPassedOver processes keeping (Some p) passing = (p < processes) × (has passing.served p ≡ false)
IsPassedOver processes (Waiting q) None passing = ⊥
IsPassedOver processes (Inside q) None passing = has passing.wait_once q ≡ false

-- while the process keeps doing this, the edge does not raise the rank, and where the rank stays somebody is passed over
abbrev pub IsRanked : Graph → Keeping → (ℕ → ℕ) → (ℕ → Option ℕ) → ℕ → Edge → Type 0
IsRanked g keeping rank passed_over i e =
    (j : ℕ) → keeps keeping e.passing ≡ true → e.to ≡ Some j → (rank j ≤ rank i) × (rank j ≡ rank i → IsPassedOver g.processes keeping (passed_over (rank i)) e.passing)

abbrev pub AreRanks : Graph → Keeping → (ℕ → ℕ) → (ℕ → Option ℕ) → Type 0
AreRanks g keeping rank passed_over = (i : ℕ) (e : Edge) → IsEdge g i e → IsRanked g keeping rank passed_over i e

-- ---- components as ranks

abbrev pub rank_in : EdgeComponents → ℕ → ℕ
rank_in parts i = slice_index parts.of.items i

abbrev pub who_is_passed_over : Option EdgeComponent → Option ℕ
who_is_passed_over None = None
who_is_passed_over (Some part) = part.passed_over

abbrev pub passed_over_in : EdgeComponents → ℕ → Option ℕ
passed_over_in parts n = who_is_passed_over (slice_get parts.parts.items n)
