-- Sets of processes.
use Rattle.std.specs.Prelude.{ℕ, Bool, nat_eq}
use Rattle.std.specs.Int.{bit_at}
use Rattle.cp_waits.specs.declared.set.Set.{Set}

-- the process is in the set: its bit is one
abbrev pub has : Set → ℕ → Bool
has s q = nat_eq (bit_at s.bits q) 1
