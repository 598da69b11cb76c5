use Rattle.std.proofs.Common.{◌∙◌, ap, false, sym, true}
use Rattle.std.specs.Prelude.{find, []}
use Rattle.cp_verdict.specs.endless.Naming.{Names, processes_of}
use Rattle.cp_verdict.specs.waiting.Ends.{settles_end}
use Rattle.cp_verdict.proofs.any_length.Telling.{end_is, told_plainly}
use Rattle.cp_verdict.proofs.endless.judging.first_end.Goals as goal

pub returns-then-names_who : goal.returns-then-names_who
returns-then-names_who c = λ values.
    (let names : Names = record { values = values; processes = processes_of c.args.legend.now } in
    c.first_by_who.ensures ∙ sym (end_is names c.args.expectation.now c.args.known.now true (sym c.names_who.ensures ∙ c.if-names_who.true)))

pub returns-else-names_who : goal.returns-else-names_who
returns-else-names_who c = λ values.
    (let names : Names = record { values = values; processes = processes_of c.args.legend.now } in
    let e = c.args.expectation.now in
    let k = c.args.known.now in
    let none = sym c.names_who.ensures ∙ c.if-names_who.false in
    told_plainly names e k c.first_of.result c.end_witness.result none (c.first_of.ensures ∙ ap (find (λ x. settles_end names.processes e [] x.end)) c.deref.ensures.value) c.end_witness.ensures ∙ sym (end_is names e k false none))
