use Rattle.std.proofs.Common.{arith, refl}
use Rattle.cp_ends_story.proofs.AtOnce.{all_listed, ends_more}
use Rattle.cp_ends_story.proofs.finding.list_ends_at_once.Goals as goal

pub loop-end-preserved : goal.loop-end-preserved
loop-end-preserved c =
    let e = c.end-item.result in
    ends_more c.args.kept.now c.args.ends.now c.loop-end.end-index e (record { end = e.end; word = c.in_ok-word.word }) c.loop-end.list.items _ (omega arith) c.end-item.is c.in_ok-word.ensures refl c.loop-end.invariant c.in_ok-push.ensures.items

pub returns : goal.returns
returns c = all_listed c.args.kept.now c.args.ends.now c.loop-end.end-index c.loop-end.list.items (omega arith) c.loop-end.invariant
