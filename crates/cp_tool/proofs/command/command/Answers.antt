use Rattle.std.proofs.Common.{◌∙◌, ap}
use Rattle.std.proofs.lemmas.Result.{IfOk-weaker}
use Rattle.cp_tool.specs.Command.{with_limits, with_reports, with_rules}
use Rattle.cp_tool.proofs.command.command.Goals as goal

pub returns : goal.returns
returns c =
    let limits = c.in_ok-command.ensures ∙ ap with_limits c.describe_command.ensures in
    let reports = c.in_ok-command-2.ensures ∙ ap with_reports limits in
    IfOk-weaker c.with_rules.result _ _ (λ whole e. e ∙ ap with_rules reports) c.with_rules.ensures
