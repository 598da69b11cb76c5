use Rattle.std.proofs.Common.{◌≡◌, ◌≤◌, [], length, take}
use Rattle.cp_layout.specs.Layers.{find, latest_first}
use Rattle.cp_layout.proofs.names.Names.look.Given as goal

-- what is left leads where all lead
pub record LooksOn (P Q : Type 0) : Type 0 where
  pub within : P
  pub same : Q

abbrev pub invariant-loop-left : goal.invariant-loop-left
invariant-loop-left l = LooksOn (l.left ≤ length l.self.items.items) (find l.name (latest_first l.self.items.items []) ≡ find l.name (latest_first (take l.left l.self.items.items) []))

abbrev pub decreases-loop-left : goal.decreases-loop-left
decreases-loop-left l = l.left
