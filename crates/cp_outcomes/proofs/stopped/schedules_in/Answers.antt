use Rattle.std.proofs.Common.{◌∙◌, ◌<◌, length, ap, sym, arith}
use Rattle.std.specs.Prelude.{sum_by}
use Rattle.std.proofs.lemmas.List.{take_all}
use Rattle.std.proofs.lemmas.List.Sums.{sum_by_more_le}
use Rattle.cp_merged.specs.declared.tally.Tally.{Tally}
use Rattle.cp_outcomes.proofs.Sums.{counts_of}
use Rattle.cp_outcomes.proofs.stopped.schedules_in.Goals as goal

pub plus-sum-requires : goal.plus-sum-requires
plus-sum-requires c =
    let xs = c.args.tallies.now in
    let k = c.loop-tally.tally-index in
    let lt : k < length xs = omega arith in
    let le = sum_by_more_le (λ (t : Tally). t.count) xs k c.tally-item.result lt in
    let here = ap (λ (t : Tally). t.count) c.tally-item.is in
    let all = counts_of xs in
    let few = c.requires in
    let sum = c.loop-tally.invariant in
    omega (arith, le, here, all, few, sum)

pub returns : goal.returns
returns c =
    let xs = c.args.tallies.now in
    let k = c.loop-tally.tally-index in
    c.loop-tally.invariant ∙ ap (λ l. sum_by (λ (t : Tally). t.count) l) (take_all k xs (omega arith)) ∙ sym (counts_of xs)
