use Rattle.std.proofs.Common.{◌≡◌, ◌≤◌, length, take}
use Rattle.cp_text.specs.Annotations.{without_separators}
use Rattle.cp_text.proofs.annotation.without_separators.Given as goal

-- what is left has what all has
pub record LeavesOff (P Q : Type 0) : Type 0 where
  pub within : P
  pub same : Q

abbrev pub invariant-loop-left : goal.invariant-loop-left
invariant-loop-left l = LeavesOff (l.left ≤ length l.text) (without_separators l.text ≡ without_separators (take l.left l.text))

abbrev pub decreases-loop-left : goal.decreases-loop-left
decreases-loop-left l = l.left
