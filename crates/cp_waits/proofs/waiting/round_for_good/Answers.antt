use Rattle.cp_waits.specs.Traps.{HasTraps}
use Rattle.cp_waits.specs.declared.passing.Keeping.TheVariants as keeping
use Rattle.cp_waits.proofs.Words.{rank_in, passed_over_in, is_trap_in}
use Rattle.cp_waits.proofs.Shown.{found_line, round_good}
use Rattle.cp_waits.proofs.waiting.round_for_good.Goals as goal

pub returns : goal.returns
returns c =
    let parts = c.args.parts.now in
    let traps : HasTraps c.args.graph.now (keeping.Waiting c.args.process) = (rank_in parts, passed_over_in parts, is_trap_in parts, c.are_traps.ensures.0 c.if-not-are_traps.false) in
    found_line c.args.graph.now c.args.states.now c.args.process _ (round_good c.args.graph.now c.args.states.now c.args.process traps) c.lasso.result c.lasso.ensures
