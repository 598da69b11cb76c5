use Rattle.std.proofs.Common.{◌≡◌, Result}
use Rattle.cp_tree.specs.Syntax.{Routine}
use Rattle.cp_tree.specs.View.{routine_view}
use Rattle.cp_layout.specs.Layers.{Heading, Layer, Leads, layer_seen, heading_seen}
use Rattle.cp_layout.specs.LaidDeclarations.{body, heading, local_parts, routine_inside, with_heading}
use Rattle.cp_layout.proofs.layer.Layouter.routine_inside.Goals as goal

-- a routine after its name: its heading, its parts and its body, one after the other
inside : {E : Type 0} (l named headed parted new : Layer) (r : Routine) (h : Heading) (result : Result (Unit {0}) E) → heading l r.name.name r.kind ≡ (h, named) → with_heading named h ≡ headed → local_parts headed r.parts ≡ parted → Leads (body parted r.body r.is_entry) new result → Leads (routine_inside l r) new result
inside l named headed parted new r h result a b d e = rw (a, b, d) e

pub returns : goal.returns
returns c =
    inside (layer_seen c.args.self.now) (layer_seen c.heading.new.self) (layer_seen c.add_heading.new.self) (layer_seen c.local_parts.new.self) (layer_seen c.body.new.self) (routine_view c.args.node.now) (heading_seen c.in_ok-heading.heading) c.body.result
    (rw c.as_str.ensures at c.in_ok-heading.ensures) c.in_ok-add_heading.ensures (rw c.deref.ensures.value at c.in_ok-local_parts.ensures) c.body.ensures
