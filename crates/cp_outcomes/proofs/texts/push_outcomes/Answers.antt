use Rattle.std.proofs.Common.{◌∙◌, ◌+◌, ◌<◌, ◌++◌, ap, arith, length, string_bytes}
use Rattle.cp_outcomes.specs.Text.{told_text}
use Rattle.cp_outcomes.specs.Told.{setting_of, told_of}
use Rattle.cp_outcomes.proofs.Numbering.{numbered_more}
use Rattle.cp_outcomes.proofs.texts.push_outcomes.Goals as goal

pub loop-index-preserved : goal.loop-index-preserved
loop-index-preserved c =
    let k = c.loop-index.index in
    let xs = c.args.told.now in
    let lt : k < length xs = omega arith in
    let s = setting_of c.args.subject c.args.subject.limits.choices in
    let now = string_bytes c.loop-index.text in
    numbered_more s c.len-width.result c.args.whole.now k told_of xs c.index-told-index.result (string_bytes c.args.text.now) now (string_bytes c.push_outcome_told.new.text) lt c.loop-index.invariant (c.in_ok-push_outcome_told.ensures ∙ ap (λ o. now ++ told_text s c.len-width.result c.args.whole.now (k + 1) (told_of o)) c.index-told-index.is)
