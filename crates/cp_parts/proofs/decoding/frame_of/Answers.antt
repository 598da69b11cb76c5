use Rattle.cp_parts.proofs.Becoming.{five_read}
use Rattle.cp_parts.proofs.decoding.frame_of.Goals as goal

pub returns : goal.returns
returns c = five_read c.args.numbers.now c.requires
