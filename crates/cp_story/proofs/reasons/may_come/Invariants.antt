use Rattle.std.proofs.Common.{◌≡◌, drop}
use Rattle.std.specs.List.{list_any}
use Rattle.cp_story.specs.Reasons.{continues_cell, standstill_seen}
use Rattle.cp_story.proofs.reasons.may_come.Given as goal

-- what is left leads where all lead
abbrev pub invariant-loop-one : goal.invariant-loop-one
invariant-loop-one l = list_any (continues_cell (standstill_seen l.standstill) l.process l.cell) l.standstill.ahead.now ≡ list_any (continues_cell (standstill_seen l.standstill) l.process l.cell) (drop l.one-index l.standstill.ahead.now)
