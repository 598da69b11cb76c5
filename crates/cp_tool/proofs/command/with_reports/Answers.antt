use Rattle.std.proofs.Common.{◌∙◌, ap₂, refl}
use Rattle.clap.specs.Words.{with_rule}
use Rattle.cp_tool.proofs.command.with_reports.Goals as goal

pub returns : goal.returns
returns c =
    let s1 = c.in_ok-command.ensures.shape c.switch.ensures.local ∙ ap₂ with_rule refl c.switch.ensures.rule in
    let s2 = c.in_ok-command-2.ensures.shape c.switch-2.ensures.local ∙ ap₂ with_rule s1 c.switch-2.ensures.rule in
    let s3 = c.in_ok-command-3.ensures.shape c.switch-3.ensures.local ∙ ap₂ with_rule s2 c.switch-3.ensures.rule in
    let s4 = c.in_ok-command-4.ensures.shape c.switch-4.ensures.local ∙ ap₂ with_rule s3 c.switch-4.ensures.rule in
    c.in_ok-command-5.ensures.shape c.switch-5.ensures.local ∙ ap₂ with_rule s4 c.switch-5.ensures.rule
