-- What is written after an answer is told of the bytes that the reader gave.
use Rattle.std.proofs.Common.{◌≡◌, ℕ, List, take, Option, None, Some, IfSome, Result, Ok, Err, subst}
use Rattle.cp_front.specs.declared.transfer.StreamFault.{StreamFault}
use Rattle.cp_front.specs.declared.transfer.StreamFault.TheVariants as fault
use Rattle.cp_tool.specs.declared.answer.Verdict.{Verdict}
use Rattle.cp_tool.specs.Answered.{Answering, AnswersSource, IsWritten, Tells}

pub tells : (P : Answering) (known : Option (List ℕ)) (read : List ℕ) (old new : Option (List ℕ)) (verdict : Verdict) (text : List ℕ) (ending : Result Verdict StreamFault) → IfSome known (λ bytes. read ≡ take 65536 bytes) → AnswersSource P read verdict text → IsWritten old new verdict text ending → Tells P known old new ending
tells P None read old new verdict text ending e answers written = tt
tells P (Some bytes) read old new verdict text (Ok told) e answers written = (verdict, text, subst (λ r. AnswersSource P r verdict text) e answers, written)
tells P (Some bytes) read old new verdict text (Err fault.Write) e answers written = (verdict, text, subst (λ r. AnswersSource P r verdict text) e answers, written)
tells P (Some bytes) read old new verdict text (Err fault.Memory) e answers written = absurd written
tells P (Some bytes) read old new verdict text (Err fault.Read) e answers written = absurd written
