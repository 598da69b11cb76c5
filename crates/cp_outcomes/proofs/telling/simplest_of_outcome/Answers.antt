use Rattle.std.proofs.Common.{None, length, map, subst}
use Rattle.std.proofs.lemmas.Result.{IfOk-weaker}
use Rattle.cp_run.specs.Slots.{slots}
use Rattle.cp_merged.specs.Code.{tally_of}
use Rattle.cp_outcomes.specs.Chosen.{IsChosen, IsSchedule, reach_of, told_in, with_number}
use Rattle.cp_outcomes.specs.Findings.{IsFoundOf}
use Rattle.cp_outcomes.specs.Told.{in_order}
use Rattle.cp_outcomes.specs.declared.telling.Finding.TheVariants.{Whole}
use Rattle.cp_outcomes.specs.declared.telling.First.TheVariants as first
use Rattle.cp_outcomes.proofs.Choosing.{chosen_among, not_searched}
use Rattle.cp_outcomes.proofs.telling.simplest_of_outcome.Goals as goal

pub returns-in-Whole : goal.returns-in-Whole
returns-in-Whole g c =
    let job = c.args.job in
    let number = c.args.number in
    let ts = c.in-Whole.tallies in
    let found = subst (IsFoundOf (slots job.program.now job.limits.discipline) job.limits.choices job.limits.steps) c.in-Whole.is c.in_ok-finding.ensures in
    IfOk-weaker c.simplest_among.result (IsSchedule job (length (in_order (map tally_of ts))) None (with_number (in_order (map tally_of ts)) number)) (IsChosen job number (IsSchedule job)) (λ chosen so. chosen_among job number (IsSchedule job) chosen (Whole ts) found so) c.simplest_among.ensures

pub returns : goal.returns
returns g c = (let job = c.args.job in let f = c.in_ok-finding.finding in chosen_among job c.args.number (IsSchedule job) first.NotSearched f c.in_ok-finding.ensures (not_searched job (length (told_in f)) (reach_of f) (with_number (told_in f) c.args.number)))
