use Rattle.std.proofs.Common.{string_bytes, arith}
use Rattle.cp_at_once.specs.Told.{value_line, value_origin}
use Rattle.cp_at_once.proofs.Telling.{all_lines, line_more, no_lines}
use Rattle.cp_at_once.proofs.report.push_value_lines.Goals as goal

pub loop-value-init : goal.loop-value-init
loop-value-init c = no_lines (value_line c.args.program.now.names) value_origin c.args.kept.now c.args.values.now (string_bytes c.args.text.now)

pub loop-value-preserved : goal.loop-value-preserved
loop-value-preserved c =
    line_more (value_line c.args.program.now.names) value_origin c.args.kept.now c.args.values.now (string_bytes c.args.text.now) c.loop-value.value-index c.value-item.result c.as_slice.result.now c.in_ok-word.word.items (string_bytes c.loop-value.text) (string_bytes c.push_value_line.new.text) (omega arith) c.value-item.is c.as_slice.ensures.value
    c.in_ok-word.ensures c.in_ok-push_value_line.ensures c.loop-value.invariant

pub returns : goal.returns
returns c = all_lines (value_line c.args.program.now.names) value_origin c.args.kept.now c.args.values.now (string_bytes c.args.text.now) c.loop-value.value-index (string_bytes c.loop-value.text) (omega arith) c.loop-value.invariant
