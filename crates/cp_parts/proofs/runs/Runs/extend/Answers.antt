use Rattle.std.proofs.Common.{◌∙◌, ◌+◌, arith, length, refl}
use Rattle.cp_parts.proofs.Pushing.{filled_more, filled_none}
use Rattle.cp_parts.proofs.runs.Runs.extend.Goals as goal

pub loop-init : goal.loop-init
loop-init c =
    let labels = c.args.self.now.labels.items in
    record { filled = filled_none labels c.args.label (length labels + 0) (omega arith); open_ = c.requires.open; spans = refl }

pub loop-preserved : goal.loop-preserved
loop-preserved c =
    let old = c.args.self.now.labels.items in
    let l = c.loop in
    record {
      filled = filled_more old l.self.labels.items c.push.new.self.labels.items c.args.label (length old + l.counter) (length old + (l.counter + 1)) c.in_ok-push.ensures.labels (omega arith) (omega arith) l.invariant.filled;
      open_ = c.in_ok-push.ensures.open;
      spans = c.push.ensures.spans ∙ l.invariant.spans;
    }
