use Rattle.std.proofs.Common.{◌≡◌, ◌++◌, drop, map}
use Rattle.cp_story.specs.Reasons.{reason_seen, reasons_of, standstill_seen}
use Rattle.cp_story.specs.Views.{wait_of}
use Rattle.cp_story.proofs.reasons.reasons_of.Given as goal

-- what is gathered, with what is left, is all
abbrev pub invariant-loop-wait : goal.invariant-loop-wait
invariant-loop-wait l = reasons_of (standstill_seen l.standstill) (map wait_of l.waits) ≡ map reason_seen l.reasons.items ++ reasons_of (standstill_seen l.standstill) (map wait_of (drop l.wait-index l.waits))
