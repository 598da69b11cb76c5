use Rattle.cp_machine.specs.Machine.{machine_of}
use Rattle.cp_story.specs.Reasons.{caller_at, is_caller, standstill_seen}
use Rattle.cp_story.proofs.Waits.{seen_more}
use Rattle.cp_story.proofs.reasons.callers_of.Goals as goal

pub loop-other-preserved : goal.loop-other-preserved
loop-other-preserved c = seen_more (caller_at (machine_of c.args.standstill.now.state.now)) (is_caller (standstill_seen c.args.standstill.now) c.args.process c.args.cell) c.loop-other.other _ _ c.loop-other.invariant c.in_ok-push_caller.ensures
