-- What a text is answered with: its tokens or a fault.
use Rattle.std.specs.Prelude.{List, Result}
use Rattle.cp_text.specs.declared.fault.ScanCause.{ScanCause}
use Rattle.cp_text.specs.declared.fault.ScanCause.TheVariants.{Memory}
use Rattle.cp_text.specs.declared.fault.ScanFault.{ScanFault}
use Rattle.cp_text.specs.declared.token.Spot.{Spot}
use Rattle.cp_text.specs.declared.token.Token.{Token}
use Rattle.cp_text.specs.Spots.{nowhere}

abbrev pub Outcome : Type 0
Outcome = Result (List Token) ScanFault

abbrev pub fault_at : Spot → ScanCause → ScanFault
fault_at spot cause = record { line = spot.line; from = spot.from; cause = cause }

abbrev pub out_of_memory : ScanFault
out_of_memory = fault_at nowhere Memory
