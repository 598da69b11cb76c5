use Rattle.std.proofs.Common.{◌∙◌, ap₂, refl}
use Rattle.clap.specs.Words.{with_rule}
use Rattle.cp_tool.proofs.command.with_rules.Goals as goal

pub returns : goal.returns
returns c =
    let s1 = c.in_ok-command.ensures.shape c.option.ensures.local ∙ ap₂ with_rule refl c.option.ensures.rule in
    let s2 = c.in_ok-command-2.ensures.shape c.option-2.ensures.local ∙ ap₂ with_rule s1 c.option-2.ensures.rule in
    let s3 = c.in_ok-command-3.ensures.shape c.option-3.ensures.local ∙ ap₂ with_rule s2 c.option-3.ensures.rule in
    c.in_ok-command-4.ensures.shape c.option-4.ensures.local ∙ ap₂ with_rule s3 c.option-4.ensures.rule
