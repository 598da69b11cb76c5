use Rattle.std.proofs.Common.{◌∙◌, sym}
use Rattle.cp_effects.proofs.touch.touch_target.Goals as goal

pub named_component-requires-clause-finds : goal.named_component-requires-clause-finds
named_component-requires-clause-finds c = c.requires.owner.1.found

pub touch_component-requires-clause-component : goal.touch_component-requires-clause-component
touch_component-requires-clause-component c = (c.requires.owner.1.owner c.in-Ok.component (sym c.named_component.ensures ∙ c.in-Ok.is)).0
