use Rattle.std.proofs.Common.{◌∙◌, ap}
use Rattle.cp_expectation.specs.Objections.{objection_to}
use Rattle.cp_expectation.specs.declared.objection.Question.{Question}
use Rattle.cp_verdict.specs.endless.Marked.{with_tables}
use Rattle.cp_verdict.specs.endless.Naming.{processes_of}
use Rattle.cp_show_mark.specs.Given.{question_of}
use Rattle.cp_show_mark.proofs.Refusing.{can_be_asked, undeclared_value, unknown_name}
use Rattle.cp_show_mark.proofs.asking.objection.Goals as goal

pub returns-in-Some-unknown_in : goal.returns-in-Some-unknown_in
returns-in-Some-unknown_in c =
    let x = c.args.examinee in
    let e = c.args.expectation.now in
    unknown_name (question_of x.options.now e) (with_tables x.program.now (processes_of x.legend.now)) e c.objection_to.result c.in_default.is (c.objection_to.ensures ∙ ap (λ (q : Question). objection_to q e) c.question_of.ensures) c.unknown_in.result c.unknown_in.ensures c.in-Some-unknown_in.name c.in-Some-unknown_in.is

pub returns-in-Some-undeclared_in : goal.returns-in-Some-undeclared_in
returns-in-Some-undeclared_in c =
    let x = c.args.examinee in
    let e = c.args.expectation.now in
    undeclared_value (question_of x.options.now e) (with_tables x.program.now (processes_of x.legend.now)) e c.objection_to.result c.in_default.is (c.objection_to.ensures ∙ ap (λ (q : Question). objection_to q e) c.question_of.ensures) c.unknown_in.result c.unknown_in.ensures c.in_default-unknown_in.is c.undeclared_in.result c.undeclared_in.ensures c.in-Some-undeclared_in.name c.in-Some-undeclared_in.is

pub returns : goal.returns
returns c =
    let x = c.args.examinee in
    let e = c.args.expectation.now in
    can_be_asked (question_of x.options.now e) (with_tables x.program.now (processes_of x.legend.now)) e c.objection_to.result c.in_default.is (c.objection_to.ensures ∙ ap (λ (q : Question). objection_to q e) c.question_of.ensures) c.unknown_in.result c.unknown_in.ensures c.in_default-unknown_in.is c.undeclared_in.result c.undeclared_in.ensures c.in_default-undeclared_in.is
