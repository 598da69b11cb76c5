use Rattle.cp_tree.specs.View.{designator_view, expression_view}
use Rattle.cp_slots.specs.Code.{action_seen}
use Rattle.cp_layout.specs.Values.{value_seen, designated_seen}
use Rattle.cp_layout.specs.Layers.{layer_seen}
use Rattle.cp_layout.specs.LaidStatements.{target_seen}
use Rattle.cp_layout.proofs.Around.{assigned_laid}
use Rattle.cp_layout.proofs.layer.Layouter.assign.Goals as goal

pub returns : goal.returns
returns c =
    let same =
    assigned_laid (layer_seen c.args.self.now) c.args.at (designator_view c.args.left.now) (designated_seen c.in_ok-named.named) (layer_seen c.designator.new.self) c.in_ok-named.ensures (target_seen c.target-target.result) c.target-target.ensures
    (expression_view c.args.right.now) (value_seen c.in_ok-value.value) c.expression.new.self c.in_ok-value.ensures (action_seen c.assignment-action.result) c.assignment-action.ensures in
    rw (same) c.finish.ensures
