use Rattle.std.proofs.Common.{◌≡◌, map, drop}
use Rattle.cp_tree.specs.View.{system_definition_view}
use Rattle.cp_layout.specs.Layers.{layer_seen}
use Rattle.cp_layout.specs.LaidDeclarations.{system_definitions}
use Rattle.cp_layout.proofs.layer.Layouter.system_definitions.Given as goal

-- what is left leads where all lead
abbrev pub invariant-loop-definition : goal.invariant-loop-definition
invariant-loop-definition l = system_definitions (layer_seen l.fn.self) (map system_definition_view l.definitions) ≡ system_definitions (layer_seen l.self) (map system_definition_view (drop l.definition-index l.definitions))
