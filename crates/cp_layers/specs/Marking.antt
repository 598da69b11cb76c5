-- What is noted of stretches.
use Rattle.std.specs.Prelude.{ℕ, List}
use Rattle.cp_machine.specs.Machine.{Machine}

-- the marks of the stretch before the first choice, and of the one after a choice of a process in a state
pub record Marking (A : Type 0) : Type 0 where
  pub opened : List A
  pub chosen : Machine → ℕ → List A
