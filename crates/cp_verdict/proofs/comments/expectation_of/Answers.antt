use Rattle.cp_verdict.proofs.Commenting.{none_held}
use Rattle.cp_verdict.proofs.comments.expectation_of.Goals as goal

pub returns-else-begins_with_blank : goal.returns-else-begins_with_blank
returns-else-begins_with_blank c = none_held c.args.comment.now c.in_ok-behind_opening.field-0.now c.without_closing-text.result.now c.in_ok-behind_opening.ensures c.without_closing-text.ensures c.if-begins_with_blank.ensures
