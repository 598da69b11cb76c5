use Rattle.std.proofs.Common.{◌∙◌, ◌-◌, ap, sym}
use Rattle.cp_run.specs.Code.{is_over}
use Rattle.cp_run.proofs.TraceRuns.{none_left}
use Rattle.cp_run.proofs.runs.is_over.Goals as goal

pub returns-in-Choice : goal.returns-in-Choice
returns-in-Choice c = none_left c.args.choices c.args.used c.requires ∙ sym (ap (is_over (c.args.choices - c.args.used)) c.in-Choice.is)
