-- Cells: where they lie, and what they hold.
use Rattle.std.specs.Prelude.{◌≤◌, ℕ, zero, suc, ◌+◌, ◌-◌, ◌*◌, ◌^◌, min, List, ◌++◌, take, replicate, ℤ, pos, slice_index_or, slice_set, vec_capacity}
use Rattle.cp_store.specs.declared.memory.Address.{Address}
use Rattle.cp_store.specs.declared.memory.Address.TheVariants.{Permanent, Local}
use Rattle.cp_store.specs.declared.memory.Room.{Room}

-- what a process reads and writes: the permanent cells of all components, the cells of its frames, and the places that
-- its var parameters name
pub record Memory : Type 0 where
  pub permanents : List ℤ
  pub cells : List ℤ
  pub references : List Address

abbrev pub memory_of : List ℤ → Room → Memory
memory_of permanents room = record { permanents = permanents; cells = room.cells.items; references = room.references.items }

-- The number of the cell that is this many further on. No cell has the greatest number of a machine word, which is where sums end.
abbrev pub onward : ℕ → ℕ → ℕ
onward number cells = min (number + cells) (2 ^ 64 - 1)

-- the number of cells that this many elements of a size take
abbrev pub stretch : ℕ → ℕ → ℕ
stretch elements size = min (elements * size) (2 ^ 64 - 1)

abbrev pub address_onward : Address → ℕ → Address
address_onward (Permanent number) cells = Permanent (onward number cells)
address_onward (Local number) cells = Local (onward number cells)

-- an address that no cell has
abbrev pub nowhere : Address
nowhere = Local (2 ^ 64 - 1)

-- what the cell at an address holds; 0 where there is none
abbrev pub cell_at : Memory → Address → ℤ
cell_at m (Permanent number) = slice_index_or m.permanents number (pos 0)
cell_at m (Local number) = slice_index_or m.cells number (pos 0)

-- the memory with another value in the cell at an address; as it was where there is none
abbrev pub put_number : Memory → Address → ℤ → Memory
put_number m (Permanent number) value = record m { permanents = slice_set m.permanents number value }
put_number m (Local number) value = record m { cells = slice_set m.cells number value }

-- the first n cells from one place on, copied one after the other to those from another place on
abbrev pub put_copy : Memory → (to from : Address) → ℕ → Memory
put_copy m to from zero = m
put_copy m to from (suc n) = put_number (put_copy m to from n) (address_onward to n) (cell_at (put_copy m to from n) (address_onward from n))

-- the memory with another place named by a var parameter
abbrev pub put_reference : Memory → ℕ → Address → Memory
put_reference m number at = record m { references = slice_set m.references number at }

-- a frame more, with the cells of an image and this many references
abbrev pub open_frame : Memory → List ℤ → ℕ → Memory
open_frame m image references = record m { cells = m.cells ++ image; references = m.references ++ replicate references nowhere }

-- the frames within the first this many cells and references
abbrev pub close_frames : Memory → ℕ → ℕ → Memory
close_frames m cells references = record m { cells = take cells m.cells; references = take references m.references }

-- what is reserved for the frames has not become less
abbrev pub KeepsRoom : Room → Room → Type 0
KeepsRoom old new = (vec_capacity old.cells ≤ vec_capacity new.cells) × (vec_capacity old.references ≤ vec_capacity new.references)
