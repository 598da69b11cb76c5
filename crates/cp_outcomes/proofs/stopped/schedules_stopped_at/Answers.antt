use Rattle.std.proofs.Common.{◌∙◌, ◌<◌, length, ap, map, sym, arith}
use Rattle.std.specs.Prelude.{sum_by}
use Rattle.std.proofs.lemmas.List.{take_all}
use Rattle.std.proofs.lemmas.List.Sums.{sum_by_more_le}
use Rattle.cp_merged.specs.Code.{tally_of}
use Rattle.cp_merged.specs.declared.tally.Tally.{Tally}
use Rattle.cp_outcomes.specs.Stops.{count_at}
use Rattle.cp_outcomes.proofs.Rows.{rows_of_table}
use Rattle.cp_outcomes.proofs.Sums.{counts_of, rows_at_of, counts_at-le}
use Rattle.cp_outcomes.proofs.stopped.schedules_stopped_at.Goals as goal

pub plus-sum-requires : goal.plus-sum-requires
plus-sum-requires c =
    let xs = c.args.tallies.now in
    let k = c.loop-tally.tally-index in
    let lt : k < length xs = omega arith in
    let le = sum_by_more_le (λ (t : Tally). count_at c.args.limit (tally_of t)) xs k c.tally-item.result lt in
    let here = ap (λ (t : Tally). count_at c.args.limit (tally_of t)) c.tally-item.is in
    let all = counts_of xs in
    let part = counts_at-le c.args.limit xs in
    let few = c.requires in
    let sum = c.loop-tally.invariant in
    let counted = c.count_stopped_at.ensures in
    omega (arith, le, here, all, part, few, sum, counted)

pub returns-clause-rows : goal.returns-clause-rows
returns-clause-rows c =
    let xs = c.args.tallies.now in
    let k = c.loop-tally.tally-index in
    c.loop-tally.invariant ∙ ap (λ l. sum_by (λ (t : Tally). count_at c.args.limit (tally_of t)) l) (take_all k xs (omega arith)) ∙ sym (rows_at_of c.args.limit xs)

pub returns-clause-table : goal.returns-clause-table
returns-clause-table c = λ lines e. returns-clause-rows c ∙ rows_of_table c.args.limit (map tally_of c.args.tallies.now) lines e
