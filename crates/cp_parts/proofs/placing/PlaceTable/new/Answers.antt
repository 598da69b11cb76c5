use Rattle.std.proofs.Common.{arith}
use Rattle.cp_parts.proofs.Places.{placed_all}
use Rattle.cp_parts.proofs.placing.PlaceTable.new.Goals as goal

pub returns : goal.returns
returns c = placed_all c.args.resolved.now c.loop-component.table c.loop-component.component c.in_ok-table.ensures.sound (omega (arith)) c.loop-component.invariant.placed
