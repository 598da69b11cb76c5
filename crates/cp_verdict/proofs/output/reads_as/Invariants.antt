use Rattle.std.proofs.Common.{◌≡◌, drop, map}
use Rattle.std.specs.Prelude.{string_bytes}
use Rattle.cp_verdict.specs.Marks.{some_rest}
use Rattle.cp_verdict.specs.Outputs.{reads_as}
use Rattle.cp_verdict.proofs.output.reads_as.Given as goal

abbrev pub invariant-loop-item : goal.invariant-loop-item
invariant-loop-item l = some_rest l.counts.items (reads_as (drop l.item-index l.items)) (map string_bytes l.printed) ≡ reads_as l.items (map string_bytes l.printed)
