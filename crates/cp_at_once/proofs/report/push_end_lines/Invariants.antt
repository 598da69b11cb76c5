use Rattle.std.proofs.Common.{string_bytes}
use Rattle.cp_at_once.specs.Told.{end_line, end_origin}
use Rattle.cp_at_once.proofs.Telling.{SoFar}
use Rattle.cp_at_once.proofs.report.push_end_lines.Given as goal

abbrev pub invariant-loop-end : goal.invariant-loop-end
invariant-loop-end l = SoFar end_line end_origin l.kept l.ends (string_bytes l.initial.text) l.end-index (string_bytes l.text)
