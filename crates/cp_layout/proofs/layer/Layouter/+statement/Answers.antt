use Rattle.std.proofs.Common.{◌≡◌, ◌∙◌, ◌-◌, arith, drop, map, subst, sym}
use Rattle.cp_layout.proofs.Words.{statements_of, statements_view, arm_seen, layer_seen}
use Rattle.cp_layout.specs.LaidStatements as spec
use Rattle.cp_layout.proofs.LaidLists.{arms_none, arms_step, said_before, statements_step}
use Rattle.cp_layout.specs.Layers.{Lays}
use Rattle.cp_layout.proofs.layer.Layouter.+statement.Goals as goal

pub list-loop-left-preserved : goal.list-loop-left-preserved
list-loop-left-preserved t c =
    record {
      within = omega (arith, c.loop-left.invariant.within);
      same =
          statements_step (layer_seen c.args.self.now) c.args.after c.args.nodes.now (c.loop-left.left - 1) c.loop-left.left c.index-nodes-left.result (omega (arith, c.loop-left.invariant.within, c.loop-left-test.true)) c.index-nodes-left.is
          (omega (arith, c.loop-left-test.true)) c.loop-left.next c.in_ok-next.next (layer_seen c.loop-left.self) (layer_seen c.statement.new.self) c.loop-left.invariant.same c.in_ok-next.ensures;
    }

pub list-returns : goal.list-returns
list-returns t c =
    let none : c.loop-left.left ≡ 0 = omega (arith, c.loop-left-test.false) in
    subst (λ k. spec.statements (layer_seen c.args.self.now) (statements_of (statements_view (drop k c.args.nodes.now))) c.args.after ≡ (c.loop-left.next, layer_seen c.loop-left.self)) none c.loop-left.invariant.same

pub arms-loop-node-preserved : goal.arms-loop-node-preserved
arms-loop-node-preserved t c =
    c.loop-node.invariant
    ∙ arms_step (layer_seen c.loop-node.self) c.loop-node.arms.items c.push.new.self.items c.args.nodes.now c.loop-node.node-index c.node-item.result c.loop-node-test.true c.node-item.is c.in_ok-arm.field-0 (layer_seen c.arm.new.self)
    c.in_ok-arm.ensures c.in_ok-push.ensures.items

pub arms-returns : goal.arms-returns
arms-returns t c =
    c.loop-node.invariant ∙ arms_none (layer_seen c.loop-node.self) (map arm_seen c.loop-node.arms.items) c.args.nodes.now c.loop-node.node-index c.loop-node-test.false

pub statement-returns-in_ok-first-in-Asserted : goal.statement-returns-in_ok-first-in-Asserted
statement-returns-in_ok-first-in-Asserted t c =
    let same =
    said_before (layer_seen c.args.self.now) (layer_seen c.statement-in-Asserted.new.self) c.args.node.now c.in-Asserted.kind c.in-Asserted.tests c.in-Asserted.inner c.args.next c.in_ok-first-in-Asserted.first c.in-Asserted.is
    (rw c.deref-in-Asserted.ensures at c.in_ok-first-in-Asserted.ensures) in
    subst (λ r. Lays (λ o. o) r (layer_seen c.assertions.new.self) c.assertions.result) (sym same) (rw c.deref-in-Asserted-2.ensures.value at c.assertions.ensures)
