use Rattle.std.proofs.Common.{◌∙◌, ap, map}
use Rattle.cp_merged.specs.Code.{tally_of}
use Rattle.cp_ends.proofs.GoingOn.{ok_to}
use Rattle.cp_verdict.specs.Marked.{IsMarked}
use Rattle.cp_verdict.specs.endless.Naming.{processes_of}
use Rattle.cp_verdict.proofs.Meant.{on_names}
use Rattle.cp_verdict.proofs.who.Alike.{meant_rows}
use Rattle.cp_verdict.proofs.waiting.marking.mark_named.Goals as goal

pub returns-clause-meaning : goal.returns-clause-meaning
returns-clause-meaning g c =
    let job = c.args.job in
    ok_to c.mark_known.result _ _ c.mark_known.ensures.mark
    (λ m is. meant_rows job.program.now (processes_of c.args.legend.now) job.limits.discipline job.limits.choices job.limits.steps c.args.expectations.now m (is (ap (map tally_of) c.as_slice-list.ensures.value ∙ c.in_ok-tallies.ensures)))

pub returns-clause-rows_meant : goal.returns-clause-rows_meant
returns-clause-rows_meant g c = λ none.
    (let job = c.args.job in
    ok_to c.mark_known.result _ _ (c.mark_known.ensures.rows none)
    (λ m is. on_names (λ lines. IsMarked job.program.now.names c.args.expectations.now lines m) job.program.now job.limits.discipline job.limits.choices job.limits.steps (is _ (ap (map tally_of) c.as_slice-list.ensures.value ∙ c.in_ok-tallies.ensures))))
