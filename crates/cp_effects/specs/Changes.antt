-- Numbers that are written into a row.
use Rattle.std.specs.Prelude.{◌≡◌, ◌==◌, ◌+◌, ◌<◌, ℕ, Bool, true, false, List, [], ◌∷◌, map, slice_set}
use Rattle.std.specs.List.{list_any}
use Rattle.cp_states.specs.Numbers.{number_at}
use Rattle.cp_parts.specs.declared.placing.PlaceTable.{PlaceTable}
use Rattle.cp_parts.specs.Placed.{place_count}
use Rattle.cp_effects.specs.declared.changes.Write.{Write}
use Rattle.cp_effects.specs.Noting.{among}

-- a row with these numbers
abbrev pub written : List Write → List ℕ → List ℕ
written [] row = row
written (w ∷ ws) row = written ws (slice_set row w.position w.number)

-- whether one of them is at a position
abbrev pub is_written : List Write → (position : ℕ) → Bool
is_written writes position = list_any (λ w. w.position == position) writes

-- where the number of the part of a place is in a row
abbrev pub part_position : PlaceTable → (place : ℕ) → ℕ
part_position t place = t.processes + 1 + place

-- the numbers of the parts of these places
abbrev pub numbers_at : PlaceTable → (places row : List ℕ) → List ℕ
numbers_at t places row = map (λ place. number_at row (part_position t place)) places

-- These numbers are what a leg that touched these places changed of a row.
pub record AreChanges (t : PlaceTable) (places before after : List ℕ) (writes : List Write) : Type 0 where
  pub row : after ≡ written writes before
  pub others : (k : ℕ) → is_written writes k ≡ true → number_at after k ≡ number_at before k → ⊥
  pub elsewhere : (place : ℕ) → place < place_count t → among places place ≡ false → is_written writes (part_position t place) ≡ false

-- ---- changes that are being found

-- these are the changes before a position
pub record AreChangesBelow (t : PlaceTable) (places before after : List ℕ) (writes : List Write) (count : ℕ) : Type 0 where
  pub same : (k : ℕ) → k < count → number_at (written writes before) k ≡ number_at after k
  pub within : (k : ℕ) → is_written writes k ≡ true → k < count
  pub others : (k : ℕ) → is_written writes k ≡ true → number_at after k ≡ number_at before k → ⊥
  pub elsewhere : (place : ℕ) → among places place ≡ false → is_written writes (part_position t place) ≡ false
