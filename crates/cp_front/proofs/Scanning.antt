-- A fault of a text is no refused memory.
use Rattle.std.proofs.Common.{◌≡◌, ◌≢◌, List, Result, Ok, Err, ap}
use Rattle.cp_text.specs.Faults.{out_of_memory}
use Rattle.cp_text.specs.declared.fault.ScanCause.{ScanCause}
use Rattle.cp_text.specs.declared.fault.ScanCause.TheVariants.{Memory}
use Rattle.cp_text.specs.declared.fault.ScanFault.{ScanFault}
use Rattle.cp_text.specs.declared.token.Token.{Token}

abbrev cause_or : Result (List Token) ScanFault → ScanCause
cause_or (Ok tokens) = Memory
cause_or (Err f) = f.cause

pub known_fault : (f : ScanFault) → f.cause ≢ Memory → ◌≢◌ {A = Result (List Token) ScanFault} (Err f) (Err out_of_memory)
known_fault f known e = known (ap cause_or e)
