use Rattle.std.proofs.Common.{string_bytes}
use Rattle.cp_at_once.specs.Told.{value_line, value_origin}
use Rattle.cp_at_once.proofs.Telling.{SoFar}
use Rattle.cp_at_once.proofs.report.push_value_lines.Given as goal

abbrev pub invariant-loop-value : goal.invariant-loop-value
invariant-loop-value l = SoFar (value_line l.program.names) value_origin l.kept l.values (string_bytes l.initial.text) l.value-index (string_bytes l.text)
