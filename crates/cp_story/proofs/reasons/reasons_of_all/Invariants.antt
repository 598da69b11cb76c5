use Rattle.std.proofs.Common.{◌≡◌, map}
use Rattle.cp_story.specs.Reasons.{reason_seen, reasons_below, standstill_seen}
use Rattle.cp_story.proofs.reasons.reasons_of_all.Given as goal

-- those of the processes before this one
abbrev pub invariant-loop-process : goal.invariant-loop-process
invariant-loop-process l = map reason_seen l.reasons.items ≡ reasons_below (standstill_seen l.standstill) l.process
