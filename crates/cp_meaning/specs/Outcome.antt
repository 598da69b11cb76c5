-- A value, or the first run error.
use Rattle.std.specs.Prelude.{Result, Ok, Err}

-- the run errors
pub data ErrorName : Type 0 where
  overflow : ErrorName
  zero_divisor : ErrorName
  out_of_range : ErrorName
  no_case : ErrorName
  queue_in_use : ErrorName
  not_init : ErrorName
  init_twice : ErrorName
  -- an assertion, or an invariant, is false
  assertion : ErrorName
  invariant : ErrorName

-- what is computed, or the first run error
abbrev pub Outcome : Type 0 → Type 0
Outcome A = Result A ErrorName

-- goes on with the value; the first error counts
infixl 10 ◌>>=◌
abbrev pub ◌>>=◌ : {A B : Type 0} → Outcome A → (A → Outcome B) → Outcome B
(Ok a) >>= f = f a
(Err e) >>= f = Err e
