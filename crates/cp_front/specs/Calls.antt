-- What a reader and a writer count of their calls.
use Rattle.std.specs.Prelude.{ℕ, List, [], ◌∷◌, zero, suc, Ok, Err}
use Rattle.std.specs.declared.result.Result.{Result}
use Rattle.cp_front.specs.declared.stream.Failed.{Failed}

-- a call that failed counts as one
abbrev pub one_if_failed : Result ℕ Failed → ℕ
one_if_failed (Ok n) = 0
one_if_failed (Err e) = 1

abbrev pub one_if_zero : ℕ → ℕ
one_if_zero zero = 1
one_if_zero (suc n) = 0

-- a write of one byte or more that took none counts as one
abbrev pub one_if_nothing : List ℕ → Result ℕ Failed → ℕ
one_if_nothing [] r = 0
one_if_nothing (b ∷ bs) (Ok n) = one_if_zero n
one_if_nothing (b ∷ bs) (Err e) = 0

-- a transfer that gave up met one such call
abbrev pub one_if_refused : {A : Type 0} → Result A Failed → ℕ
one_if_refused (Ok a) = 0
one_if_refused (Err e) = 1
