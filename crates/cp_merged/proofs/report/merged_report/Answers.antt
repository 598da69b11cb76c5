use Rattle.cp_merged.proofs.Words.{◌∙◌, ap, told_text}
use Rattle.cp_merged.proofs.Telling.{told_report}
use Rattle.cp_merged.proofs.report.merged_report.Goals as goal

pub returns-clause-report : goal.returns-clause-report
returns-clause-report c = λ lines e. c.in_ok-report.ensures ∙ ap (told_text c.args.program.now.names) e ∙ told_report c.args.program.now.names lines
