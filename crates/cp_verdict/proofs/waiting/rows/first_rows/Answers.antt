use Rattle.std.proofs.Common.{ap, map}
use Rattle.cp_verdict.specs.waiting.Rows.{waiting_line}
use Rattle.cp_verdict.proofs.who.Rows.{none_long}
use Rattle.cp_verdict.proofs.waiting.rows.first_rows.Goals as goal

pub loop-one-init : goal.loop-one-init
loop-one-init c = record { short = none_long c.new-rows.result.items c.new-rows.ensures.items; rows = ap (map waiting_line) c.new-rows.ensures.items }
