use Rattle.std.proofs.Common.{◌≡◌, ◌<◌, rules, arith, Some, ap, subst, ◌∙◌}
use Rattle.cp_text.specs.Fronts.{outside, inside, closing, ClosesWithin}
use Rattle.cp_text.proofs.FrontLaws.{outside_fits, inside_fits, closing_fits, closes_behind, answer_within, answer_closes}
use Rattle.cp_text.proofs.front.front_piece.Goals as goal

pub returns-in-None-clause-within : goal.returns-in-None-clause-within
returns-in-None-clause-within c = answer_within c.args.text.now (outside c.args.count c.args.text.now) (outside_fits c.args.count c.args.text.now c.requires.some) c.outside.result c.outside.ensures

pub returns-in-None-clause-closes : goal.returns-in-None-clause-closes
returns-in-None-clause-closes c = answer_closes c.args.text.now (outside c.args.count c.args.text.now) (outside_fits c.args.count c.args.text.now c.requires.some) c.outside.result c.outside.ensures

pub returns-in-Some-eq0-clause-within : goal.returns-in-Some-eq0-clause-within
returns-in-Some-eq0-clause-within c =
    let zero : c.in-Some-eq0.field-0 ≡ 0 = first_of (omega arith, cc, search rules) in
    let closes = subst (λ o. ClosesWithin o c.args.text.now) (c.in-Some-eq0.is ∙ ap Some zero) c.requires.closes in
    answer_within c.args.text.now (closing c.args.count c.args.text.now) (closing_fits c.args.count c.args.text.now closes) c.closing.result c.closing.ensures

pub returns-in-Some-eq0-clause-closes : goal.returns-in-Some-eq0-clause-closes
returns-in-Some-eq0-clause-closes c =
    let zero : c.in-Some-eq0.field-0 ≡ 0 = first_of (omega arith, cc, search rules) in
    let closes = subst (λ o. ClosesWithin o c.args.text.now) (c.in-Some-eq0.is ∙ ap Some zero) c.requires.closes in
    answer_closes c.args.text.now (closing c.args.count c.args.text.now) (closing_fits c.args.count c.args.text.now closes) c.closing.result c.closing.ensures

pub inside-requires-clause-within : goal.inside-requires-clause-within
inside-requires-clause-within c = closes_behind c.in-Some.left c.args.text.now (subst (λ o. ClosesWithin o c.args.text.now) c.in-Some.is c.requires.closes)

pub returns-in-Some-clause-within : goal.returns-in-Some-clause-within
returns-in-Some-clause-within c =
    let some : 0 < c.in-Some.left = first_of (omega arith, search rules) in
    let closes = subst (λ o. ClosesWithin o c.args.text.now) c.in-Some.is c.requires.closes in
    answer_within c.args.text.now (inside c.args.count c.in-Some.left c.args.text.now) (inside_fits c.args.count c.in-Some.left c.args.text.now some closes) c.inside.result c.inside.ensures

pub returns-in-Some-clause-closes : goal.returns-in-Some-clause-closes
returns-in-Some-clause-closes c =
    let some : 0 < c.in-Some.left = first_of (omega arith, search rules) in
    let closes = subst (λ o. ClosesWithin o c.args.text.now) c.in-Some.is c.requires.closes in
    answer_closes c.args.text.now (inside c.args.count c.in-Some.left c.args.text.now) (inside_fits c.args.count c.in-Some.left c.args.text.now some closes) c.inside.result c.inside.ensures
