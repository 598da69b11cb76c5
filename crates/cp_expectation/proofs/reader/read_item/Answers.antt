use Rattle.std.proofs.Common.{◌∙◌, Some, None, if◌then◌else◌, sym, ap}
use Rattle.cp_expectation.specs.Plain.{Printed, Any}
use Rattle.cp_expectation.specs.Steps.{item_in}
use Rattle.cp_expectation.proofs.Read.{none_spelled}
use Rattle.cp_expectation.proofs.Valued.{value_is}
use Rattle.cp_expectation.proofs.reader.read_item.Goals as goal

pub returns-in_ok-from_str-in-Some : goal.returns-in_ok-from_str-in-Some
returns-in_ok-from_str-in-Some c =
    let w = c.args.word.now in
    ap (λ v. Some (Printed v)) c.in_ok-from_str-in-Some.ensures.ok ∙ sym (ap (item_in w) (value_is w c.in-Some.value.now c.in-Some.ensures))

pub returns-in-None-2 : goal.returns-in-None-2
returns-in-None-2 c =
    let w = c.args.word.now in
    sym (ap (item_in w) (none_spelled w c.in-None.ensures) ∙ ap (λ b. if b then Some Any else None) (sym c.eq.ensures ∙ c.if-eq.false))
