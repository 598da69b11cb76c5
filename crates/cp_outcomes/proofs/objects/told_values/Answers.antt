use Rattle.std.proofs.Common.{◌∙◌, ◌+◌, ◌<◌, ap, arith, length}
use Rattle.serde_json.specs.View.{view}
use Rattle.cp_outcomes.specs.Data.{told_data}
use Rattle.cp_outcomes.specs.Told.{setting_of, told_of}
use Rattle.cp_outcomes.proofs.Jsons.{numbered_more}
use Rattle.cp_outcomes.proofs.objects.told_values.Goals as goal

pub loop-index-preserved : goal.loop-index-preserved
loop-index-preserved c =
    let k = c.loop-index.index in
    let xs = c.args.told.now in
    let lt : k < length xs = omega arith in
    let s = setting_of c.args.subject c.args.subject.limits.choices in
    numbered_more view s c.args.whole.now k told_of xs c.index-told-index.result c.loop-index.items.items c.push.new.self.items c.in_ok-told_value.field-0 lt c.in_ok-push.ensures.items (c.in_ok-told_value.ensures ∙ ap (λ o. told_data s c.args.whole.now (k + 1) (told_of o)) c.index-told-index.is) c.loop-index.invariant
