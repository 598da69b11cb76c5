-- A row in three lists: its statuses, and two halves of what its places have.
use Rattle.std.specs.Prelude.{◌+◌, ◌-◌, ◌/◌, ◌++◌, ℕ, List, [], ◌∷◌, Bool, true, false, if◌then◌else◌, nat_lt, drop, take}
use Rattle.cp_parts.specs.declared.placing.PlaceTable.{PlaceTable}
use Rattle.cp_parts.specs.Placed.{place_count}

-- how many numbers a row has: of each status, of the pending monitor, and of each place
abbrev pub width_of : PlaceTable → ℕ
width_of t = t.processes + 1 + place_count t

-- the statuses and the pending monitor
abbrev pub statuses_in : PlaceTable → List ℕ → List ℕ
statuses_in t row = take (t.processes + 1) row

-- the pieces of a list that have these lengths, and the rest, are dealt out: in turn to one and to the other
unfoldable pub dealt : List ℕ → List ℕ → List ℕ × List ℕ
dealt [] row = (row, [])
dealt (n ∷ ns) row = (take n row ++ (dealt ns (drop n row)).1, (dealt ns (drop n row)).0)

-- half of the processes, the other ones, and half of the monitors
abbrev pub cuts_of : PlaceTable → List ℕ
cuts_of t = t.processes / 2 ∷ (t.processes - t.processes / 2) ∷ t.monitors / 2 ∷ []

-- the first half of what the places have, or the second one
abbrev pub half_in : PlaceTable → (is_first : Bool) → List ℕ → List ℕ
half_in t true row = (dealt (cuts_of t) (drop (t.processes + 1) row)).0
half_in t false row = (dealt (cuts_of t) (drop (t.processes + 1) row)).1

-- whether a place is in the first half
abbrev pub is_in_first : PlaceTable → (place : ℕ) → Bool
is_in_first t place = if nat_lt place t.processes then nat_lt place (t.processes / 2) else nat_lt (place - t.processes) (t.monitors / 2)

-- where the number of a half is among those of a row
abbrev pub half_position : (is_first : Bool) → ℕ
half_position true = 1
half_position false = 2
