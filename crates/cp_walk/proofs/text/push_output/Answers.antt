use Rattle.std.proofs.Common.{◌∙◌, ◌<◌, ◌++◌, ap, arith, length, string_bytes}
use Rattle.cp_walk.specs.Text.{shown_text}
use Rattle.cp_walk.proofs.Joining.{behind_more}
use Rattle.cp_walk.proofs.text.push_output.Goals as goal

pub loop-value-preserved : goal.loop-value-preserved
loop-value-preserved c =
    let lt : c.loop-value.value-index < length c.in-Some.rest.now = omega arith in
    behind_more 32 c.loop-value.value-index (shown_text c.args.program.now.names) c.in-Some.rest.now _ (string_bytes c.push_shown.new.text) (string_bytes c.loop-value.text) (string_bytes c.push.new.self) (string_bytes c.push_shown-in-loop-value.new.text) lt c.loop-value.invariant (c.in_ok-push.ensures.bytes ∙ ap (λ l. string_bytes c.loop-value.text ++ l) (c.push.ensures.ascii (omega arith))) c.in_ok-push_shown-2.ensures
