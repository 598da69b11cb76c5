use Rattle.std.proofs.Common.{◌≡◌, ◌∙◌, ℤ, ap, of_z, rules, to_z, w16}
use Rattle.cp_symbols.specs.declared.kinds.CellBase.{CellBase}
use Rattle.cp_layout.specs.Layers.{names_seen}
use Rattle.cp_layout.specs.LaidTypes.{constant_of}
use Rattle.cp_layout.proofs.LaidLists.{labels_none, labels_step}
use Rattle.cp_layout.proofs.names.Names.labels.Goals as goal

pub loop-node-preserved : goal.loop-node-preserved
loop-node-preserved c =
    let value_is : c.constant.result.value ≡ (constant_of (names_seen c.args.self.now) c.node-item.result).1 = ap (λ (p : CellBase × ℤ). p.1) c.constant.ensures in
    let wide_is : to_z w16 (of_z w16 c.constant.result.value) ≡ c.constant.result.value = search rules in
    let step = labels_step (names_seen c.args.self.now) c.args.nodes.now c.loop-node.node-index c.node-item.result c.loop-node-test.true c.node-item.is in
    cc (wide_is, value_is, step, c.loop-node.invariant, c.in_ok-push.ensures.items)

pub returns : goal.returns
returns c = c.loop-node.invariant ∙ labels_none (names_seen c.args.self.now) c.args.nodes.now c.loop-node.node-index c.loop-node-test.false
