use Rattle.std.proofs.Common.{rules, ◌<◌, arith, length, take_all}
use Rattle.cp_walk.proofs.Feeding.{fed_more}
use Rattle.cp_walk.proofs.numbers.feed_output.Goals as goal

pub loop-value-preserved : goal.loop-value-preserved
loop-value-preserved g c =
    let lt : c.loop-value.value-index < length c.args.values.now = omega arith in
    fed_more g.H.Hasher.write c.args.state.now c.loop-value.state c.write_u32.new.self c.args.values.now c.loop-value.value-index _ c.code_of.result lt c.code_of.ensures c.loop-value.invariant c.write_u32.ensures

pub returns : goal.returns
returns g c = search (rules, take_all)
