use Rattle.std.proofs.Common.{string_bytes}
use Rattle.cp_ends.proofs.Listing.{EndsSoFar}
use Rattle.cp_ends.proofs.report.end_lines.Given as goal

abbrev pub invariant-loop-end : goal.invariant-loop-end
invariant-loop-end l = EndsSoFar l.states l.depth l.ends l.end-index (string_bytes l.text) l.count
