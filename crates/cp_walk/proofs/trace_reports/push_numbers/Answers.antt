use Rattle.std.proofs.Common.{◌∙◌, ◌<◌, ◌++◌, ap, arith, length, string_bytes, decimal}
use Rattle.cp_walk.proofs.Joining.{behind_more}
use Rattle.cp_walk.proofs.trace_reports.push_numbers.Goals as goal

pub loop-number-preserved : goal.loop-number-preserved
loop-number-preserved c =
    let lt : c.loop-number.number-index < length c.args.numbers.now = omega arith in
    behind_more 32 c.loop-number.number-index decimal c.args.numbers.now 0 (string_bytes c.args.text.now) (string_bytes c.loop-number.text) (string_bytes c.push_str.new.self) (string_bytes c.push_number.new.text) lt c.loop-number.invariant c.in_ok-push_str.ensures.bytes (c.in_ok-push_number.ensures ∙ ap (λ n. string_bytes c.push_str.new.self ++ decimal n) c.from.ensures)
