use Rattle.std.proofs.Common.{◌≡◌, ◌≤◌, drop, length}
use Rattle.cp_tree.specs.View.{expressions_view}
use Rattle.cp_layout.specs.Layers.{layer_seen}
use Rattle.cp_layout.specs.LaidStatements as spec
use Rattle.cp_layout.proofs.layer.Layouter.assertions.Given as goal

pub record Both (P Q : Type 0) : Type 0 where
  pub within : P
  pub same : Q

-- what the later ones lead to
abbrev pub invariant-loop-left : goal.invariant-loop-left
invariant-loop-left l = Both (l.left ≤ length l.nodes) (spec.assertions (layer_seen l.fn.self) l.kind (expressions_view (drop l.left l.nodes)) l.fn.next ≡ (l.first, layer_seen l.self))

abbrev pub decreases-loop-left : goal.decreases-loop-left
decreases-loop-left l = l.left
