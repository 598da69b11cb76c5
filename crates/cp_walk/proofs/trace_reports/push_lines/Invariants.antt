use Rattle.std.proofs.Common.{◌≡◌, ◌++◌, string_bytes, take}
use Rattle.cp_run.specs.Table.{each}
use Rattle.cp_walk.specs.TraceText.{trace_line_text}
use Rattle.cp_walk.proofs.trace_reports.push_lines.Given as goal

abbrev pub invariant-loop-line : goal.invariant-loop-line
invariant-loop-line l = string_bytes l.text ≡ string_bytes l.initial.text ++ each trace_line_text (take l.line-index l.lines)
