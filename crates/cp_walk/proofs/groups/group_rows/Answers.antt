use Rattle.cp_walk.proofs.Words.{◌∙◌, ◌<◌, length, arith, ap, map, refl, tallies_of, line_of}
use Rattle.cp_walk.proofs.Grouping.{grouped_more, grouped_count, grouped_text, room}
use Rattle.cp_walk.proofs.Joining.{take_whole}
use Rattle.cp_walk.proofs.groups.group_rows.Goals as goal

pub count_row-requires : goal.count_row-requires
count_row-requires c =
    let lt : c.loop-row.row-index < length c.args.rows.now = omega arith in
    room c.args.rows.now c.loop-row.row-index (length c.args.rows.now) c.loop-row.groups.entries c.row-item.result.outcome lt refl c.loop-row.invariant

pub loop-row-preserved : goal.loop-row-preserved
loop-row-preserved c =
    let lt : c.loop-row.row-index < length c.args.rows.now = omega arith in
    let counted = c.in_ok-count_row.ensures in
    grouped_more c.args.rows.now c.loop-row.row-index _ c.loop-row.groups.entries c.count_row.new.groups.entries counted.0 lt c.row-item.is c.loop-row.invariant counted.1.1 counted.1.0

pub returns-clause-count : goal.returns-clause-count
returns-clause-count c =
    let k = c.loop-row.row-index in
    grouped_count (map line_of c.args.rows.now) c.loop-row.groups.entries (c.loop-row.invariant ∙ ap (λ rows. tallies_of (map line_of rows)) (take_whole c.args.rows.now k (omega arith)))

pub returns-clause-texts : goal.returns-clause-texts
returns-clause-texts c = λ names.
    (let k = c.loop-row.row-index in
    grouped_text names (map line_of c.args.rows.now) c.loop-row.groups.entries (c.loop-row.invariant ∙ ap (λ rows. tallies_of (map line_of rows)) (take_whole c.args.rows.now k (omega arith))))
