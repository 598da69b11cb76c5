use Rattle.std.proofs.Common.{◌≡◌, drop}
use Rattle.std.specs.List.{list_any}
use Rattle.cp_story.specs.Annotations.{is_same}
use Rattle.cp_story.proofs.told_variables.is_among.Given as goal

-- what is left leads where all lead
abbrev pub invariant-loop-other : goal.invariant-loop-other
invariant-loop-other l = list_any (is_same l.origin) l.all ≡ list_any (is_same l.origin) (drop l.other-index l.all)
