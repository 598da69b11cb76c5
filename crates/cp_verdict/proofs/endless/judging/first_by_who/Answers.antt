use Rattle.std.proofs.Common.{◌∙◌, ap}
use Rattle.std.specs.Prelude.{find, not, ◌&&◌, []}
use Rattle.cp_verdict.specs.endless.Naming.{processes_of}
use Rattle.cp_verdict.specs.waiting.Ends.{is_waiting, settles_end}
use Rattle.cp_verdict.proofs.any_length.Telling.{told_by_who}
use Rattle.cp_verdict.proofs.endless.judging.first_by_who.Goals as goal

pub returns : goal.returns
returns c =
    let ps = processes_of c.args.legend.now in
    let e = c.args.expectation.now in
    told_by_who ps e c.args.known.now c.first_other-other.result c.first_waiting_end-waiting.result c.end_witness.result c.waiting_end_witness.result c.earlier.result
    (c.first_other-other.ensures ∙ ap (find (λ x. not (is_waiting x.end) && settles_end ps e [] x.end)) c.deref.ensures.value) (c.first_waiting_end-waiting.ensures ∙ ap (find (λ x. settles_end ps e x.who.items x.end.end)) c.deref-2.ensures.value)
    c.end_witness.ensures c.waiting_end_witness.ensures c.earlier.ensures
