use Rattle.cp_merged.proofs.Words.{map, sym, subst, IsPermutation, slots, tally_of, same_key, IsDueFault}
use Rattle.cp_merged.proofs.Arriving.{key_sound}
use Rattle.cp_merged.proofs.Exploring.{err_to}
use Rattle.cp_merged.proofs.Sorting.{sorted_tally, ordered_from}
use Rattle.cp_merged.proofs.explorer.explore_merged_with.Goals as goal

pub returns-in-Ok-clause-tallies : goal.returns-in-Ok-clause-tallies
returns-in-Ok-clause-tallies g c =
    let l = c.args.job.limits in
    sorted_tally (slots c.args.job.program.now l.discipline) same_key key_sound l.choices l.steps (map tally_of c.in-Ok.tallies) (subst (λ xs. IsPermutation xs (map tally_of c.in-Ok.tallies)) c.in_ok-ends.ensures.ends c.in-Ok.ensures.permutation) (ordered_from c.in-Ok.tallies c.in-Ok.ensures.sorted)

pub returns-in_err-ends-clause-fault : goal.returns-in_err-ends-clause-fault
returns-in_err-ends-clause-fault g c =
    let l = c.args.job.limits in
    let r = c.args.job.program.now in
    err_to c.from_residual.result _ (λ e. IsDueFault (slots r l.discipline) l.choices l.steps c.args.states e) c.from_residual.ensures.1 (λ f h. subst (λ e. IsDueFault (slots r l.discipline) l.choices l.steps c.args.states e) (sym h) c.in_err-ends.ensures.fault)
