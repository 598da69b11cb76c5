use Rattle.std.proofs.Common.{length}
use Rattle.cp_tool.proofs.Using.{used_within, uses_at_most}
use Rattle.cp_tool.proofs.exploring.trace_schedule.Goals as goal

pub trace_report-requires : goal.trace_report-requires
trace_report-requires c = used_within c.in_ok-lines.end (length c.args.word.now) _ c.in_ok-lines.ensures.answer (uses_at_most _ _ _ _ _)
