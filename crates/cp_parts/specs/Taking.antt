-- Processes that become others, without memory.
use Rattle.std.specs.Prelude.{◌≡◌, ◌<◌, ◌≤◌, ℕ, List, length, slice_index_or, vec_capacity}
use Rattle.cp_machine.specs.declared.process.ProcessState.{ProcessState}
use Rattle.cp_machine.specs.Machine.{Thread, thread_of}

-- a process has room for a thread
pub record HasRoomFor (p : ProcessState) (t : Thread) : Type 0 where
  pub stack : length t.stack ≤ vec_capacity p.stack
  pub cells : length t.cells ≤ vec_capacity p.room.cells
  pub references : length t.references ≤ vec_capacity p.room.references

-- a process has as much room as another one
pub record HasRoomOf (p old : ProcessState) : Type 0 where
  pub stack : vec_capacity old.stack ≤ vec_capacity p.stack
  pub cells : vec_capacity old.room.cells ≤ vec_capacity p.room.cells
  pub references : vec_capacity old.room.references ≤ vec_capacity p.room.references

-- the processes before a place have become these threads, and the others are still the old ones
pub record AreTaken (threads : ℕ → Thread) (old new : List ProcessState) (at : ℕ) : Type 0 where
  pub count : length new ≡ length old
  pub taken : (pid : ℕ) (d : ProcessState) → pid < at → thread_of (slice_index_or new pid d) ≡ threads pid
  pub rest : (pid : ℕ) (d : ProcessState) → at ≤ pid → slice_index_or new pid d ≡ slice_index_or old pid d
  pub room : (pid : ℕ) (d : ProcessState) → pid < length old → HasRoomOf (slice_index_or new pid d) (slice_index_or old pid d)
