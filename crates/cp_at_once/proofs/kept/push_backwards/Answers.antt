use Rattle.std.proofs.Common.{◌∙◌, ◌<◌, ◌≤◌, length, sym, arith}
use Rattle.std.proofs.lemmas.List.{append-nil}
use Rattle.cp_at_once.proofs.Unwinding.{push_all, push_next}
use Rattle.cp_at_once.proofs.kept.push_backwards.Goals as goal

pub loop-at-init : goal.loop-at-init
loop-at-init c = sym (append-nil c.args.word.now.items)

pub loop-at-preserved : goal.loop-at-preserved
loop-at-preserved c =
    let lt : c.loop-at.at < length c.args.numbers.now = omega arith in
    c.in_ok-push.ensures.items ∙ push_next c.args.word.now.items c.loop-at.word.items c.args.numbers.now c.loop-at.at _ lt (omega arith) c.loop-at.invariant

pub returns : goal.returns
returns c =
    let all : length c.args.numbers.now ≤ c.loop-at.at = omega arith in
    push_all c.args.word.now.items c.loop-at.word.items c.args.numbers.now c.loop-at.at all c.loop-at.invariant
