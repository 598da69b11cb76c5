use Rattle.std.proofs.Common.{arith}
use Rattle.cp_text.proofs.PlaceLaws.{fault_stands}
use Rattle.cp_refusal.proofs.Places.{place_is}
use Rattle.cp_refusal.proofs.explain.fault_span.Goals as goal

pub returns : goal.returns
returns c = λ h.
    place_is c.args.source.now c.args.fault.line (record { from = c.args.fault.from; len = c.fault_len.result }) (fault_stands c.args.source.now c.args.fault h (omega arith))
