use Rattle.std.proofs.Common.{◌∙◌, arith, eqb-true, length, string_bytes, subst, sym}
use Rattle.std.proofs.lemmas.List.{take_rest}
use Rattle.cp_outcomes.specs.Lines.{IsLineShown}
use Rattle.cp_outcomes.proofs.Reading.{shown_on, shown_to_the_end}
use Rattle.cp_outcomes.proofs.lines.line_of.Goals as goal

pub loop-rest-preserved : goal.loop-rest-preserved
loop-rest-preserved c = λ text left.
    let rest = c.loop-rest.rest.now in
    let front = c.front_of-character in
    shown_on c.args.line.now rest (string_bytes c.loop-rest.text) front.result.0 front.result.1 (string_bytes c.push.new.self) c.loop-rest.invariant (omega (arith, front.ensures.within.0, front.ensures.within.1)) front.ensures.front c.in_ok-push.ensures.bytes text
    (subst (λ l. IsLineShown l text) (take_rest rest front.result.1) left)

pub returns : goal.returns
returns c = shown_to_the_end c.args.line.now c.loop-rest.rest.now (string_bytes c.loop-rest.text) c.loop-rest.invariant (eqb-true (length c.loop-rest.rest.now) 0 (sym c.is_empty.ensures ∙ c.loop-rest-test.false))
