use Rattle.std.proofs.Common.{◌∙◌, pos, get_or, rules, to_z, of_z, w64}
use Rattle.std.proofs.lemmas.Int.{to_z-of_z}
use mir.Val.{SFits}
use Rattle.cp_scope.specs.declared.types.Base.TheVariants.{Integer}
use Rattle.cp_check.specs.declared.case.Label.{Label}
use Rattle.cp_check.proofs.Numbers.{once_passed, once_refused, number_added}
use Rattle.cp_check.proofs.case.check_once.Goals as goal

abbrev none : Label
none = record { at = 0; number = record { base = Integer; value = pos 0 } }

pub returns-then-not-branch : goal.returns-then-not-branch
returns-then-not-branch c =
    let labels = c.args.labels.now in
    let i = c.loop-label.label-index in
    let value = (get_or labels i none).number.value in
    let fits : SFits w64 value = search rules in
    rw (c.broken_rule.ensures, c.loop-label.invariant.left)
    (once_refused labels i none c.loop-label-test.true c.requires.agree c.loop-label.numbers.keys c.loop-label.invariant.seen (to_z w64 (of_z w64 value)) (to_z-of_z w64 value fits) c.in_ok-insert.field-0 c.in_ok-insert.ensures.added c.if-not-branch.true)

pub loop-label-preserved : goal.loop-label-preserved
loop-label-preserved c =
    let labels = c.args.labels.now in
    let i = c.loop-label.label-index in
    let value = (get_or labels i none).number.value in
    let fits : SFits w64 value = search rules in
    let told = c.in_ok-insert.ensures.added in
    record {
      left = c.loop-label.invariant.left ∙ once_passed labels i none c.loop-label-test.true c.requires.agree c.loop-label.numbers.keys c.loop-label.invariant.seen (to_z w64 (of_z w64 value)) (to_z-of_z w64 value fits) c.in_ok-insert.field-0 told c.if-not-branch.false;
      seen = c.in_ok-insert.ensures.keys ∙ number_added labels i none c.loop-label-test.true c.requires.agree c.loop-label.numbers.keys c.loop-label.invariant.seen (to_z w64 (of_z w64 value)) (to_z-of_z w64 value fits) c.in_ok-insert.field-0 told c.if-not-branch.false;
    }
