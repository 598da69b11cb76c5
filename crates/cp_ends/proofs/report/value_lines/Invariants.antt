use Rattle.std.proofs.Common.{string_bytes}
use Rattle.cp_ends.proofs.Listing.{ValuesSoFar}
use Rattle.cp_ends.proofs.report.value_lines.Given as goal

abbrev pub invariant-loop-value : goal.invariant-loop-value
invariant-loop-value l = ValuesSoFar l.states l.program.names l.depth l.values l.value-index (string_bytes l.text) l.count
