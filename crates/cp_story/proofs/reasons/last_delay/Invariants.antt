use Rattle.std.proofs.Common.{◌≡◌, drop, map}
use Rattle.cp_story.specs.Reasons.{since}
use Rattle.cp_story.specs.Views.{told_of}
use Rattle.cp_story.proofs.reasons.last_delay.Given as goal

-- what is left leads where all lead
abbrev pub invariant-loop-place : goal.invariant-loop-place
invariant-loop-place l = since l.process 0 0 (map told_of l.events) ≡ since l.process l.last l.place (map told_of (drop l.place l.events))
