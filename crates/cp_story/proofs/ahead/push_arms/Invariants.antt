use Rattle.std.proofs.Common.{◌≡◌, drop}
use Rattle.cp_story.specs.Ahead.{with_arms}
use Rattle.cp_story.proofs.ahead.push_arms.Given as goal

-- what is left leads where all lead
abbrev pub invariant-loop-arm : goal.invariant-loop-arm
invariant-loop-arm l = with_arms l.process l.component l.initial.ahead.items l.arms ≡ with_arms l.process l.component l.ahead.items (drop l.arm-index l.arms)
