use Rattle.std.proofs.Common.{◌≡◌, drop}
use Rattle.cp_layout.specs.Layers.{layer_seen}
use Rattle.cp_layout.specs.LaidDeclarations.{variables_of}
use Rattle.cp_layout.proofs.layer.Layouter.variables_of.Given as goal

-- what is left leads where all lead
abbrev pub invariant-loop-identifier : goal.invariant-loop-identifier
invariant-loop-identifier l = variables_of (layer_seen l.fn.self) l.value_type l.names ≡ variables_of (layer_seen l.self) l.value_type (drop l.identifier-index l.names)
