-- States of a graph in which a process keeps doing something whatever is chosen, and to which each schedule comes in which it keeps doing so for ever.
use Rattle.std.specs.Prelude.{◌≡◌, ◌<◌, ℕ, Bool, true, false, Option, None, Some, length, slice_get}
use Rattle.cp_waits.specs.declared.components.EdgeComponent.{EdgeComponent}
use Rattle.cp_waits.specs.declared.components.EdgeComponents.{EdgeComponents}
use Rattle.cp_waits.specs.declared.graph.Edge.{Edge}
use Rattle.cp_waits.specs.declared.graph.Graph.{Graph}
use Rattle.cp_waits.specs.declared.passing.Keeping.{Keeping}
use Rattle.cp_waits.specs.Keeps.{keeps}
use Rattle.cp_waits.specs.Ranks.{IsRanked}
use Rattle.cp_waits.specs.Walks.{IsEdge}

-- on the edge the process keeps doing this, and it leads to no state out of the trap
abbrev pub StaysTrapped : Keeping → (ℕ → ℕ) → (ℕ → Bool) → Edge → Type 0
StaysTrapped keeping rank trap e = (keeps keeping e.passing ≡ true) × ((j : ℕ) → e.to ≡ Some j → trap (rank j) ≡ true)

-- so it is with each edge of a state of the trap; those of all other states are ranked
abbrev pub LeadsToTrap : Graph → Keeping → (ℕ → ℕ) → (ℕ → Option ℕ) → (ℕ → Bool) → Bool → ℕ → Edge → Type 0
LeadsToTrap g keeping rank passed_over trap true i e = StaysTrapped keeping rank trap e
LeadsToTrap g keeping rank passed_over trap false i e = IsRanked g keeping rank passed_over i e

abbrev pub HasEdge : Graph → ℕ → Type 0
HasEdge g i = (e : Edge) × IsEdge g i e

-- and a state of the trap has an edge
abbrev pub IsStateLed : Graph → Keeping → (ℕ → ℕ) → (ℕ → Option ℕ) → (ℕ → Bool) → ℕ → Type 0
IsStateLed g keeping rank passed_over trap i = (trap (rank i) ≡ true → HasEdge g i) × ((e : Edge) → IsEdge g i e → LeadsToTrap g keeping rank passed_over trap (trap (rank i)) i e)

abbrev pub AreTraps : Graph → Keeping → (ℕ → ℕ) → (ℕ → Option ℕ) → (ℕ → Bool) → Type 0
AreTraps g keeping rank passed_over trap = (i : ℕ) → i < length g.ends.items → IsStateLed g keeping rank passed_over trap i

abbrev pub HasTraps : Graph → Keeping → Type 0
HasTraps g keeping = (rank : ℕ → ℕ) × (passed_over : ℕ → Option ℕ) × (trap : ℕ → Bool) × AreTraps g keeping rank passed_over trap

-- ---- components as traps

abbrev pub is_part_trap : Option EdgeComponent → Bool
is_part_trap None = false
is_part_trap (Some part) = part.is_trap

abbrev pub is_trap_in : EdgeComponents → ℕ → Bool
is_trap_in parts n = is_part_trap (slice_get parts.parts.items n)
