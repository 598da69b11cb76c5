use Rattle.std.proofs.Common.{◌≡◌, map, drop}
use Rattle.cp_tree.specs.View.{constant_definition_view}
use Rattle.cp_layout.specs.Layers.{layer_seen}
use Rattle.cp_layout.specs.LaidDeclarations.{constants}
use Rattle.cp_layout.proofs.layer.Layouter.constants.Given as goal

-- what is left leads where all lead
abbrev pub invariant-loop-definition : goal.invariant-loop-definition
invariant-loop-definition l = constants (layer_seen l.fn.self) (map constant_definition_view l.definitions) ≡ constants (layer_seen l.self) (map constant_definition_view (drop l.definition-index l.definitions))
