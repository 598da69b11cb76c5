use Rattle.std.proofs.Common.{string_bytes, arith}
use Rattle.cp_at_once.specs.Told.{end_line, end_origin}
use Rattle.cp_at_once.proofs.Telling.{all_lines, line_more, no_lines}
use Rattle.cp_at_once.proofs.report.push_end_lines.Goals as goal

pub loop-end-init : goal.loop-end-init
loop-end-init c = no_lines end_line end_origin c.args.kept.now c.args.ends.now (string_bytes c.args.text.now)

pub loop-end-preserved : goal.loop-end-preserved
loop-end-preserved c =
    line_more end_line end_origin c.args.kept.now c.args.ends.now (string_bytes c.args.text.now) c.loop-end.end-index c.end-item.result c.as_slice.result.now c.in_ok-word.word.items (string_bytes c.loop-end.text) (string_bytes c.push_end_line.new.text) (omega arith) c.end-item.is c.as_slice.ensures.value
    c.in_ok-word.ensures c.in_ok-push_end_line.ensures c.loop-end.invariant

pub returns : goal.returns
returns c = all_lines end_line end_origin c.args.kept.now c.args.ends.now (string_bytes c.args.text.now) c.loop-end.end-index (string_bytes c.loop-end.text) (omega arith) c.loop-end.invariant
