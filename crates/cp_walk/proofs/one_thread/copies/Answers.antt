use Rattle.cp_walk.proofs.Words.{◌∙◌, ◌+◌, ap, length, ◌∷◌, [], length-append, IsStateOf}
use Rattle.cp_walk.proofs.Branches.{all_more}
use Rattle.cp_walk.proofs.one_thread.copies.Goals as goal

pub loop-preserved : goal.loop-preserved
loop-preserved c =
    let items = c.in_ok-push.ensures.items in
    record {
      count = ap length items ∙ length-append c.loop.states.items (c.in_ok-copy.field-0 ∷ []) ∙ ap (λ n. n + 1) c.loop.invariant.count;
      own = all_more (IsStateOf c.args.program.now) c.loop.states.items c.in_ok-copy.field-0 c.push.new.self.items items c.loop.invariant.own (c.in_ok-copy.ensures.own c.args.program.now c.requires);
    }
