-- What pieces give together.
use Rattle.std.specs.Prelude.{ℕ, ◌+◌, List, [], ◌∷◌, ◌++◌, length, replicate, nat_lt, slice_get, slice_set, Option, None, Some, Result, Ok, Err, if◌then◌else◌}
use Rattle.cp_walk.specs.declared.fault.GatherFault.{GatherFault}
use Rattle.cp_walk.specs.declared.fault.GatherFault.TheVariants.{Memory, Double, Stranger, Missing, TooManyRows}
use Rattle.cp_walk.specs.declared.row.RowPiece.{RowPiece}
use Rattle.cp_walk.specs.declared.row.Row.{Row}

-- a slot for each task, which the piece of the task fills
abbrev pub Slots : Type 0
Slots = List (Option (List Row))

-- goes on with a value, or ends in its fault
abbrev pub then_with : {A B : Type 0} → Result A GatherFault → (A → Result B GatherFault) → Result B GatherFault
then_with (Ok x) go = go x
then_with (Err e) go = Err e

-- the slots after a piece, whose own slot is given
abbrev pub placed_at : Slots → RowPiece → Option (Option (List Row)) → Result Slots GatherFault
placed_at slots p None = Err (Stranger p.task)
placed_at slots p (Some (Some rows)) = Err (Double p.task)
placed_at slots p (Some None) = Ok (slice_set slots p.task (Some p.rows))

abbrev pub placed_one : Slots → RowPiece → Result Slots GatherFault
placed_one slots p = placed_at slots p (slice_get slots p.task)

-- the slots after pieces in their order, or the first fault
abbrev pub placed : Slots → List RowPiece → Result Slots GatherFault
placed slots [] = Ok slots
placed slots (p ∷ ps) = then_with (placed_one slots p) (λ next. placed next ps)

-- the rows of the slots from this task on, after those found
abbrev pub joined : ℕ → List Row → Slots → Result (List Row) GatherFault
joined task rows [] = if nat_lt 50000 (length rows) then Err TooManyRows else Ok rows
joined task rows (None ∷ slots) = Err (Missing task)
joined task rows (Some more ∷ slots) = joined (task + 1) (rows ++ more) slots

-- the rows of piece 0, piece 1 and so on, or the fault
abbrev pub gathered : ℕ → List RowPiece → Result (List Row) GatherFault
gathered tasks pieces = then_with (placed (replicate tasks None) pieces) (joined 0 [])

-- no refusal of memory
abbrev pub IsGatherFault : GatherFault → Type 0
IsGatherFault Memory = ⊥
IsGatherFault (Double task) = Unit {0}
IsGatherFault (Stranger task) = Unit {0}
IsGatherFault (Missing task) = Unit {0}
IsGatherFault TooManyRows = Unit {0}
