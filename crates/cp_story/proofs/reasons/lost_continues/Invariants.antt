use Rattle.std.proofs.Common.{◌≡◌, [], drop, map}
use Rattle.cp_story.specs.Reasons.{in_vain}
use Rattle.cp_story.specs.Views.{queue_seen, told_of}
use Rattle.cp_story.proofs.reasons.lost_continues.Given as goal

-- what is left leads where all lead
abbrev pub invariant-loop-place : goal.invariant-loop-place
invariant-loop-place l = in_vain (queue_seen l.queue) [] 0 (map told_of l.events) ≡ in_vain (queue_seen l.queue) l.numbers.items l.place (map told_of (drop l.place l.events))
