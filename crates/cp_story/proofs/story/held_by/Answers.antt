use Rattle.std.proofs.Common.{◌≡◌, ◌∙◌, ℕ, ap, sym}
use Rattle.std.specs.declared.alloc.Global.{Global}
use Rattle.std.specs.declared.vec.Vec.{Vec}
use Rattle.cp_machine.specs.System.{machine_of}
use Rattle.cp_story.specs.Waiting as waiting
use Rattle.cp_story.proofs.Waits.{none_more, one_more}
use Rattle.cp_story.proofs.story.held_by.Goals as goal
use Rattle.cp_story.proofs.story.held_by.Goals.{then-is_inside+in_ok-push, else-is_inside}

pub loop-monitor-preserved : goal.loop-monitor-preserved
loop-monitor-preserved c =
    let f = waiting.is_inside (machine_of c.args.state.now) c.args.process in
    let n = c.loop-monitor.monitor in
    let items = λ (v : Vec ℕ Global). v.items in
    let test : f n ≡ c.is_inside.result = sym c.is_inside.ensures in
    elim c.if-is_inside.branch [
      | then-is_inside+in_ok-push w ↦ one_more f n _ _ (test ∙ w.if-is_inside.true) c.loop-monitor.invariant (ap items w.held-is ∙ w.in_ok-push.ensures.items)
      | else-is_inside w ↦ ap items w.held-is ∙ none_more f n _ (test ∙ w.if-is_inside.false) c.loop-monitor.invariant
    ]
