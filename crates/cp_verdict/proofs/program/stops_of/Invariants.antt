use Rattle.std.proofs.Common.{map, take}
use Rattle.cp_verdict.specs.Judged.{line_of}
use Rattle.cp_verdict.specs.Limits.{AreStopsOf}
use Rattle.cp_verdict.proofs.program.stops_of.Given as goal

abbrev pub invariant-loop-one : goal.invariant-loop-one
invariant-loop-one l = AreStopsOf (map line_of (take l.one-index l.seen)) l.stops
