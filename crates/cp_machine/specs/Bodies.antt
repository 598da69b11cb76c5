-- What a process has beside its status: a step changes that of the process that takes it alone.
use Rattle.std.specs.Prelude.{◌≡◌, ℕ, ℤ, List, length, Bool, true, false, slice_index_or}
use Rattle.cp_store.specs.declared.memory.Address.{Address}
use Rattle.cp_store.specs.declared.memory.Frame.{Frame}
use Rattle.cp_machine.specs.declared.process.Entry.{Entry}
use Rattle.cp_machine.specs.declared.moved.Moved.{Moved}
use Rattle.cp_machine.specs.Machine.{Machine, Thread, thread_at}

-- where a process executes, its control stack, its cells, and what its `var` parameters name
pub record Body : Type 0 where
  pub frame : Frame
  pub stack : List Entry
  pub cells : List ℤ
  pub references : List Address

abbrev pub body_of : Thread → Body
body_of t = record { frame = t.frame; stack = t.stack; cells = t.cells; references = t.references }

abbrev pub body_at : Machine → ℕ → Body
body_at m pid = body_of (thread_at m.threads pid)

-- whether a process moved
abbrev pub has_moved : Moved → ℕ → Bool
has_moved moved pid = slice_index_or moved.by_number pid true

-- the processes that did not move have the same bodies
pub record KeepBodies (moved : ℕ → Bool) (before after : Machine) : Type 0 where
  pub count : length after.threads ≡ length before.threads
  pub bodies : (pid : ℕ) → moved pid ≡ false → body_at after pid ≡ body_at before pid
