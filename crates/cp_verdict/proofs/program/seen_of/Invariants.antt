use Rattle.std.proofs.Common.{◌≡◌, map, take}
use Rattle.cp_merged.specs.Code.{tally_of}
use Rattle.cp_verdict.specs.Judged.{line_of}
use Rattle.cp_verdict.proofs.Tallied.{heads}
use Rattle.cp_verdict.proofs.program.seen_of.Given as goal

abbrev pub invariant-loop-tally : goal.invariant-loop-tally
invariant-loop-tally l = map line_of l.seen.items ≡ heads (map tally_of (take l.tally-index l.tallies))
