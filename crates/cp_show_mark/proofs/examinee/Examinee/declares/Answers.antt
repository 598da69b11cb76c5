use Rattle.std.proofs.Common.{◌∙◌, ◌==◌, ap, length, sym}
use Rattle.std.specs.Str.{bytes_eq}
use Rattle.cp_show_mark.proofs.Constants.{found, none_found}
use Rattle.cp_show_mark.proofs.examinee.Examinee.declares.Goals as goal

pub returns-then-eq : goal.returns-then-eq
returns-then-eq c =
    let names = c.args.self.now.program.now.names in
    let is = c.name-constant.ensures in
    found names c.args.name.now c.loop-number.number c.loop-number-test.true (ap (λ n. length n == 0) (sym is) ∙ sym c.is_empty.ensures ∙ c.if-is_empty.false) (ap (λ n. bytes_eq n c.args.name.now) (sym is) ∙ sym c.eq.ensures ∙ c.if-eq.true) c.loop-number.invariant

pub returns : goal.returns
returns c = none_found c.args.self.now.program.now.names c.args.name.now c.loop-number.number c.loop-number-test.false c.loop-number.invariant
