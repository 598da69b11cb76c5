-- What is handed on is an error.
use Rattle.std.proofs.Common.{Result, Ok, Err, IfOk}
use Rattle.std.specs.Result.{IsErrAnd}

pub none_well : {A E : Type 0} (r : Result A E) (P : E → Type 0) (Q : A → Type 0) → IsErrAnd r P → IfOk r Q
none_well (Ok a) P Q h = absurd h
none_well (Err e) P Q h = tt
