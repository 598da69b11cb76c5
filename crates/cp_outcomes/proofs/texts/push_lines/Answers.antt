use Rattle.std.proofs.Common.{string_bytes, arith}
use Rattle.cp_walk.proofs.Joining.{each_whole}
use Rattle.cp_outcomes.specs.Text.{line_text}
use Rattle.cp_outcomes.proofs.texts.push_lines.Goals as goal

pub returns : goal.returns
returns c = each_whole c.loop-line.line-index (line_text c.args.width) string_bytes c.args.lines.now (string_bytes c.args.text.now) (string_bytes c.loop-line.text) (omega arith) c.loop-line.invariant
