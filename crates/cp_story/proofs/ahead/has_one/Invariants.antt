use Rattle.std.proofs.Common.{◌≡◌, drop}
use Rattle.std.specs.List.{list_any}
use Rattle.cp_story.specs.Ahead.{is_one}
use Rattle.cp_story.proofs.ahead.has_one.Given as goal

-- what is left leads where all lead
abbrev pub invariant-loop-other : goal.invariant-loop-other
invariant-loop-other l = list_any (is_one l.one) l.ahead ≡ list_any (is_one l.one) (drop l.other-index l.ahead)
