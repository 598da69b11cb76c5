use Rattle.cp_walk.proofs.Words.{◌∙◌, ap, arith, map, length-map, line_of, begun}
use Rattle.cp_machine.specs.System.{machine_of, output_of}
use Rattle.cp_walk.proofs.Repeats.{one_again}
use Rattle.cp_walk.proofs.replay.add_replayed.Goals as goal

pub loop-at-preserved : goal.loop-at-preserved
loop-at-preserved c =
    let lines = map line_of c.args.rows.now.items in
    let count = length-map c.args.rows.now.items line_of in
    record {
      rows = one_again c.loop-at.rows.items c.push_reserved.new.self.items lines (begun c.args.word.now (output_of (machine_of c.args.state.now))) c.args.span.first c.loop-at.at c.in-Ok.row c.index.result.now c.loop-at.invariant.rows c.loop-at.invariant.from (omega (arith, count)) c.push_reserved.ensures.items c.index.ensures (c.in-Ok.ensures ∙ ap (λ o. begun c.args.word.now o (line_of c.index.result.now)) c.output.ensures);
      from = omega arith;
      long = omega arith;
      room = omega arith;
    }
