-- What an expression gives: its value or a run error, as one of a few cases.
use Rattle.std.specs.Prelude.{Result, Ok, Err, ℤ}
use Rattle.cp_store.specs.declared.answer.Evaluation.{Evaluation}
use Rattle.cp_store.specs.declared.answer.Evaluation.TheVariants as answer
use Rattle.cp_store.specs.declared.error.ErrorName.{ErrorName}
use Rattle.cp_store.specs.declared.error.ErrorName.TheVariants as error

-- what an answer stands for
abbrev pub result_of : Evaluation → Result ℤ ErrorName
result_of (answer.Value value) = Ok value
result_of answer.Overflow = Err error.Overflow
result_of answer.ZeroDivisor = Err error.ZeroDivisor
result_of answer.Range = Err error.Range
result_of answer.NoCase = Err error.NoCase
result_of answer.QueueInUse = Err error.QueueInUse
result_of answer.NotInit = Err error.NotInit
result_of answer.InitTwice = Err error.InitTwice
result_of answer.Assertion = Err error.Assertion
result_of answer.Invariant = Err error.Invariant
