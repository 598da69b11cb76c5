use Rattle.std.proofs.Common.{◌≡◌, map, drop}
use Rattle.cp_tree.specs.View.{type_definition_view}
use Rattle.cp_layout.specs.Layers.{layer_seen}
use Rattle.cp_layout.specs.LaidDeclarations.{type_definitions}
use Rattle.cp_layout.proofs.layer.Layouter.type_definitions.Given as goal

-- what is left leads where all lead
abbrev pub invariant-loop-definition : goal.invariant-loop-definition
invariant-loop-definition l = type_definitions (layer_seen l.fn.self) (map type_definition_view l.definitions) ≡ type_definitions (layer_seen l.self) (map type_definition_view (drop l.definition-index l.definitions))
