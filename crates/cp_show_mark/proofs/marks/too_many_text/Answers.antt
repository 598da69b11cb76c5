use Rattle.std.proofs.Common.{IfSome, inl, option_map, string_bytes, subst}
use Rattle.std.proofs.lemmas.Result.{IfOk-weaker}
use Rattle.cp_outcomes.specs.Findings.{IsKnownOf}
use Rattle.cp_run.specs.Slots.{slots}
use Rattle.cp_show_mark.specs.MarkText.{setting_of}
use Rattle.cp_show_mark.specs.Told.{IsExcessTold}
use Rattle.cp_show_mark.proofs.Telling.{known_told}
use Rattle.cp_show_mark.proofs.marks.too_many_text.Goals as goal

pub returns-in-Some : goal.returns-in-Some
returns-in-Some g c =
    let x = c.args.examinee in
    let es = c.args.reading.now.expectations.items in
    let doubtful = option_map (λ w. w.now) c.args.reading.now.doubtful in
    let limits = c.limits.result in
    let is_known = subst (λ found. IfSome found (IsKnownOf (slots x.program.now limits.discipline) limits.choices limits.steps)) c.in-Some.is c.in_ok-found.ensures in
    IfOk-weaker c.known_text.result _ (λ t. IsExcessTold (setting_of x) es doubtful (string_bytes t)) (λ t is. known_told x limits es doubtful c.args.excess c.in-Some.known (string_bytes t) c.limits.ensures is_known is) c.known_text.ensures

pub returns-in-None : goal.returns-in-None
returns-in-None g c =
    let x = c.args.examinee in
    let es = c.args.reading.now.expectations.items in
    let doubtful = option_map (λ w. w.now) c.args.reading.now.doubtful in
    IfOk-weaker c.excess_text.result _ (λ t. IsExcessTold (setting_of x) es doubtful (string_bytes t)) (λ t is. (c.args.excess, inl is)) c.excess_text.ensures
