use Rattle.std.proofs.Common.{◌∙◌, ◌++◌, ◌<◌, ap, arith, length, string_bytes}
use Rattle.cp_walk.proofs.Joining.{each_more}
use Rattle.cp_waits.specs.Told.{line_text}
use Rattle.cp_waits.specs.declared.waiting.Waiting.{Waiting}
use Rattle.cp_waits.proofs.report.push_each.Goals as goal

pub loop-waiting-preserved : goal.loop-waiting-preserved
loop-waiting-preserved c =
    let lt : c.loop-waiting.waiting-index < length c.args.list.now = omega arith in
    each_more c.loop-waiting.waiting-index line_text c.args.list.now c.waiting-item.result (string_bytes c.args.text.now) (string_bytes c.loop-waiting.text) (string_bytes c.push_line.new.text) lt c.loop-waiting.invariant (c.in_ok-push_line.ensures ∙ ap (λ (w : Waiting). string_bytes c.loop-waiting.text ++ line_text w) c.waiting-item.is)
