-- What is written after an answer is told of the bytes that the reader gave.
use Rattle.std.proofs.Common.{◌≡◌, ℕ, List, take, Option, None, Some, IfSome, Result, Ok, Err, subst}
use Rattle.cp_front.specs.declared.transfer.StreamFault.{StreamFault}
use Rattle.cp_front.specs.declared.transfer.StreamFault.TheVariants as fault
use Rattle.cp_show_mark.specs.declared.answer.ShowVerdict.{ShowVerdict}
use Rattle.cp_show_options.specs.declared.parts.Asked.{Asked}
use Rattle.cpx_show.specs.Told.{IsOfSource, IsWritten, Tells}

pub tells : (a : Asked) (known : Option (List ℕ)) (read : List ℕ) (old new : Option (List ℕ)) (verdict : ShowVerdict) (text : List ℕ) (ending : Result ShowVerdict StreamFault) → IfSome known (λ bytes. read ≡ take 65536 bytes) → IsOfSource a read verdict text → IsWritten old new verdict text ending → Tells a known old new ending
tells a None read old new verdict text ending e told written = tt
tells a (Some bytes) read old new verdict text (Ok v) e told written = (verdict, text, subst (λ r. IsOfSource a r verdict text) e told, written)
tells a (Some bytes) read old new verdict text (Err fault.Write) e told written = (verdict, text, subst (λ r. IsOfSource a r verdict text) e told, written)
tells a (Some bytes) read old new verdict text (Err fault.Memory) e told written = absurd written
tells a (Some bytes) read old new verdict text (Err fault.Read) e told written = absurd written
