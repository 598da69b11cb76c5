-- The places of a program.
use Rattle.std.specs.Prelude.{◌≡◌, ◌+◌, ◌<◌, ◌≤◌, ℕ, if◌then◌else◌, length, nat_lt}
use Rattle.cp_slots.specs.Systems.{own_of}
use Rattle.cp_slots.specs.Tables.{Tables, component_at}
use Rattle.cp_effect_laws.specs.Parts.{Places}
use Rattle.cp_parts.specs.declared.placing.PlaceTable.{PlaceTable}
use Rattle.cp_parts.specs.Runs.{IsOpen, label_at}

abbrev pub places_of : PlaceTable → Places
places_of t =
    record {
      of_cell = λ k. label_at t.cells.labels.items k;
      of_component = λ k. label_at t.components.labels.items k;
      of_monitor = λ k. t.processes + k;
      of_process = λ q. q;
    }

-- how many places there are
abbrev pub place_count : PlaceTable → ℕ
place_count t = t.processes + t.monitors

-- The table has each component and each permanent cell of the program; each cell of a component is in its place.
pub record IsPlaced (r : Tables) (t : PlaceTable) : Type 0 where
  pub processes : t.processes ≡ length r.processes
  pub monitors : t.monitors ≡ r.monitors
  pub components : length t.components.labels.items ≡ length r.components
  pub cells : length t.cells.labels.items ≡ length r.permanents
  pub together : (c k : ℕ) → c < length r.components → (component_at r c).base ≤ k → k < (component_at r c).base + own_of r c →
      (places_of t).of_cell k ≡ (places_of t).of_component c

-- ---- a table that is being made

-- where the cells before the component of a number end
abbrev pub cells_before : Tables → (component : ℕ) → ℕ
cells_before r component = if nat_lt component (length r.components) then (component_at r component).base else length r.permanents

-- the next component and the next cells may be put into a place
pub record IsNext (t : PlaceTable) (place : ℕ) : Type 0 where
  pub within : place < place_count t
  pub components : IsOpen t.components.labels.items t.components.spans.items place
  pub cells : IsOpen t.cells.labels.items t.cells.spans.items place

-- the table has the first components, and the cells before the next one
pub record ArePlacedBelow (r : Tables) (t : PlaceTable) (count : ℕ) : Type 0 where
  pub processes : t.processes ≡ length r.processes
  pub monitors : t.monitors ≡ r.monitors
  pub components : length t.components.labels.items ≡ count
  pub cells : length t.cells.labels.items ≤ cells_before r count
  pub filled : 1 ≤ count → length t.cells.labels.items ≡ cells_before r count
  pub together : (c k : ℕ) → c < count → (component_at r c).base ≤ k → k < (component_at r c).base + own_of r c →
      (places_of t).of_cell k ≡ (places_of t).of_component c
