use Rattle.cp_layout.proofs.Words.{◌∙◌, map, arith, types_seen, system_seen}
use Rattle.cp_layout.specs.LaidComponents.{listing_seen, add_below}
use Rattle.cp_layout.proofs.Listed.{contained_step}
use Rattle.cp_layout.proofs.component.Components.+components.Goals as goal

pub add_contained-loop-components-preserved : goal.add_contained-loop-components-preserved
add_contained-loop-components-preserved t c =
    c.loop-components.invariant
    ∙ contained_step (add_below (types_seen c.args.types.now) (map system_seen c.args.systems.now) c.args.bound) c.args.contained.now c.loop-components.components-index (listing_seen c.loop-components.self) _ (omega (arith, c.loop-components-test.true))
    (listing_seen c.add_each.new.self) c.in_ok-add_each.ensures
