-- A row that has the numbers of another machine: its statuses, what is pending, and its parts in some places.
use Rattle.std.specs.Prelude.{◌≡◌, ◌<◌, ◌≤◌, ℕ, true, false, List, length}
use Rattle.cp_machine.specs.Machine.{Machine}
use Rattle.cp_states.specs.Numbers.{number_at}
use Rattle.cp_effect_laws.specs.Parts.{status_at}
use Rattle.cp_parts.specs.declared.placing.PlaceTable.{PlaceTable}
use Rattle.cp_parts.specs.declared.store.PartStore.{PartStore}
use Rattle.cp_parts.specs.Coded.{option_code}
use Rattle.cp_parts.specs.Parts.{IsPartNumber, IsStatusNumber}
use Rattle.cp_effects.specs.Changes.{part_position}
use Rattle.cp_effects.specs.Noting.{among}

-- The statuses, what is pending and the parts of these places are a machine's; the parts of the other places have the numbers that they had.
pub record IsRenewed (s : PartStore) (t : PlaceTable) (m : Machine) (places before after : List ℕ) : Type 0 where
  pub long : length after ≡ length before
  pub statuses : (q : ℕ) → q < t.processes → IsStatusNumber s (status_at m q) (number_at after q)
  pub pending : number_at after t.processes ≡ option_code m.pending
  pub parts : (place : ℕ) → among places place ≡ true → IsPartNumber s t m place (number_at after (part_position t place))
  pub others : (place : ℕ) → among places place ≡ false → number_at after (part_position t place) ≡ number_at before (part_position t place)

-- ---- a row that is being made

-- the first numbers are those of a machine's statuses, and the others those of another row
pub record HasNewStatuses (s : PartStore) (m : Machine) (before after : List ℕ) (count : ℕ) : Type 0 where
  pub long : length after ≡ length before
  pub own : (q : ℕ) → q < count → IsStatusNumber s (status_at m q) (number_at after q)
  pub others : (k : ℕ) → count ≤ k → number_at after k ≡ number_at before k

-- the numbers of the parts of these places are a machine's, and the others those of another row
pub record HasNewParts (s : PartStore) (t : PlaceTable) (m : Machine) (places before after : List ℕ) : Type 0 where
  pub long : length after ≡ length before
  pub own : (place : ℕ) → among places place ≡ true → IsPartNumber s t m place (number_at after (part_position t place))
  pub others : (k : ℕ) → ((place : ℕ) → among places place ≡ true → k ≡ part_position t place → ⊥) → number_at after k ≡ number_at before k
