use Rattle.cp_merged.proofs.Words.{string_bytes, arith, tally_text, tally_of}
use Rattle.cp_walk.proofs.Joining.{each_whole}
use Rattle.cp_merged.proofs.report.push_tallies.Goals as goal

pub returns : goal.returns
returns c = each_whole c.loop-tally.tally-index (tally_text c.args.program.now.names) tally_of c.args.tallies.now (string_bytes c.args.text.now) (string_bytes c.loop-tally.text) (omega arith) c.loop-tally.invariant
