use Rattle.std.proofs.Common.{◌∙◌, ◌<◌, ◌++◌, ap, arith, length, string_bytes, decimal}
use Rattle.cp_walk.proofs.Joining.{behind_more}
use Rattle.cp_walk.proofs.text.push_word.Goals as goal

pub loop-number-preserved : goal.loop-number-preserved
loop-number-preserved c =
    let lt : c.loop-number.number-index < length c.in-Some.rest.now = omega arith in
    behind_more 46 c.loop-number.number-index decimal c.in-Some.rest.now 0 (string_bytes c.push_number.new.text) (string_bytes c.loop-number.text) (string_bytes c.push.new.self) (string_bytes c.push_number-in-loop-number.new.text) lt c.loop-number.invariant (c.in_ok-push.ensures.bytes ∙ ap (λ l. string_bytes c.loop-number.text ++ l) (c.push.ensures.ascii (omega arith))) (c.in_ok-push_number-2.ensures ∙ ap (λ n. string_bytes c.push.new.self ++ decimal n) c.from-in-loop-number.ensures)
