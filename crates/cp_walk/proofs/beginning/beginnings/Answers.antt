use Rattle.cp_walk.proofs.Words.{◌≡◌, ◌∙◌, ◌<◌, ◌∷◌, ◌+◌, sym, arith, length, Row, words_of_rows}
use Rattle.cp_walk.proofs.Counted.{added, counted_rows, rows_added, taken_rows}
use Rattle.cp_walk.proofs.beginning.beginnings.Goals as goal

pub loop-row-preserved : goal.loop-row-preserved
loop-row-preserved c =
    let lt : c.loop-row.row-index < length c.in-Some.rest.now = omega arith in
    let more = rows_added c.as_slice-last.result.now c.loop-row.last.now c.as_slice-word.result.now c.in-Some.rest.now c.loop-row.row-index c.row-item.result lt c.row-item.is c.as_slice-word.ensures.value c.loop-row.invariant.last in
    record {
      last = more.1;
      count = omega (arith, c.loop-row.invariant.count, more.0, c.common.ensures.value);
      few = omega (arith, c.loop-row.invariant.few, c.as_slice-word.ensures.fits);
    }

pub returns : goal.returns
returns c =
    let first : Row = c.in-Some.first.now in
    let shape : c.args.table.now.rows ≡ first ∷ c.in-Some.rest.now = sym c.as_slice-rows.ensures ∙ c.in-Some.ensures.cases.0 in
    let all : c.loop-row.count ≡ 1 + length first.word.items + added first.word.items (words_of_rows c.in-Some.rest.now) = taken_rows c.as_slice-last.result.now first.word.items c.in-Some.rest.now c.loop-row.row-index c.loop-row.count (omega arith) c.as_slice-last.ensures.value c.loop-row.invariant.count in
    counted_rows c.requires.rows.0 c.requires.rows.1 c.args.table.now.rows c.in-Some.rest.now first c.loop-row.count c.requires.rows.2 shape all
