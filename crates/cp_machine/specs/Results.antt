-- Where the result of a function lies, and the cell of its caller's frame that takes it.
use Rattle.std.specs.Prelude.{ℕ, ◌+◌, ◌<◌, length, Option, Some, None}
use Rattle.cp_store.specs.declared.memory.Frame.{Frame}
use Rattle.cp_machine.specs.Machine.{Thread}

-- both are cells of the process, the second below the frame of the function
abbrev pub HasResult : Thread → (caller : Frame) → (from : ℕ) → (slot : Option ℕ) → Type 0
HasResult t caller from None = Unit {0}
HasResult t caller from (Some slot) = (t.frame.base + from < length t.cells) × (caller.base + slot < t.frame.base)
