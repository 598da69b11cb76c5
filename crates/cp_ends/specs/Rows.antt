-- Rows of the states that were found, by the numbers of their lists.
use Rattle.std.specs.Prelude.{◌≡◌, ℕ, List, [], false, length, true}
use Rattle.cp_slots.specs.Tables.{Tables}
use Rattle.cp_key.specs.Room.{IsMachineOf}
use Rattle.cp_machine.specs.System.{Machine}
use Rattle.cp_states.specs.Numbers.{number_at}
use Rattle.cp_states.specs.Pieces.{IsPiece}
use Rattle.cp_parts.specs.Parts.{IsPartRow}
use Rattle.cp_ends.specs.Halves.{half_in, statuses_in}
use Rattle.cp_ends.specs.declared.states.States.{States}

-- these are the numbers of the lists of a row
pub record IsHalved (kept : States) (numbers row : List ℕ) : Type 0 where
  pub three : length numbers ≡ 3
  pub statuses : IsPiece kept.lists.items.items kept.lists.ends.items (number_at numbers 0) (statuses_in kept.cache.table row)
  pub first : IsPiece kept.lists.items.items kept.lists.ends.items (number_at numbers 1) (half_in kept.cache.table true row)
  pub second : IsPiece kept.lists.items.items kept.lists.ends.items (number_at numbers 2) (half_in kept.cache.table false row)

-- and the row is that of a machine
pub record IsHalvedRow (kept : States) (numbers : List ℕ) (m : Machine) : Type 0 where
  pub row : List ℕ
  pub halved : IsHalved kept numbers row
  pub is : IsPartRow kept.cache.store kept.cache.table m row

-- a machine of the program that displays nothing, under the discipline of the states
pub record IsQuiet (r : Tables) (kept : States) (m : Machine) : Type 0 where
  pub own : IsMachineOf r m
  pub quiet : m.output ≡ []
  pub ruled : m.discipline ≡ kept.discipline

-- such a machine by its row
pub record IsRowFor (r : Tables) (kept : States) (row : List ℕ) (m : Machine) : Type 0 where
  pub it : IsQuiet r kept m
  pub is : IsPartRow kept.cache.store kept.cache.table m row

-- and by the numbers of its lists
pub record IsStated (r : Tables) (kept : States) (numbers : List ℕ) (m : Machine) : Type 0 where
  pub it : IsQuiet r kept m
  pub row : IsHalvedRow kept numbers m
