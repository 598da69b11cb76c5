use Rattle.std.proofs.Common.{◌≡◌}
use Rattle.cp_story.specs.Reasons.{entries_below}
use Rattle.cp_story.proofs.reasons.entries_of.Given as goal

-- the routines of the items before this one
abbrev pub invariant-loop-at : goal.invariant-loop-at
invariant-loop-at l = l.entries.items ≡ entries_below l.program l.computed l.owner.system l.own l.at
