use Rattle.cp_layout.proofs.Words.{◌≡◌, ◌≤◌, drop, map, length, arm_seen, layer_seen}
use Rattle.cp_tree.specs.View.{statements_view, statements_of, arms_view, arms_of}
use Rattle.cp_layout.specs.LaidStatements as spec
use Rattle.cp_layout.proofs.LaidLists.{with_front}
use Rattle.cp_layout.proofs.layer.Layouter.+statement.Given as goal

pub record Both (P Q : Type 0) : Type 0 where
  pub within : P
  pub same : Q

-- what the later ones lead to
abbrev pub invariant-list-loop-left : goal.invariant-list-loop-left
invariant-list-loop-left l = Both (l.left ≤ length l.nodes) (spec.statements (layer_seen l.fn.self) (statements_of (statements_view (drop l.left l.nodes))) l.fn.after ≡ (l.next, layer_seen l.self))

abbrev pub decreases-list-loop-left : goal.decreases-list-loop-left
decreases-list-loop-left l = l.left

abbrev pub invariant-arms-loop-node : goal.invariant-arms-loop-node
invariant-arms-loop-node l = spec.arms (layer_seen l.fn.self) (arms_of (arms_view l.nodes)) ≡ with_front (map arm_seen l.arms.items) (spec.arms (layer_seen l.self) (arms_of (arms_view (drop l.node-index l.nodes))))
