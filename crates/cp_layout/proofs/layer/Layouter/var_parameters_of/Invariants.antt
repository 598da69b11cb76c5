use Rattle.std.proofs.Common.{◌≡◌, drop}
use Rattle.cp_layout.specs.Layers.{layer_seen}
use Rattle.cp_layout.specs.LaidDeclarations.{var_parameters_of}
use Rattle.cp_layout.proofs.layer.Layouter.var_parameters_of.Given as goal

-- what is left leads where all lead
abbrev pub invariant-loop-identifier : goal.invariant-loop-identifier
invariant-loop-identifier l = var_parameters_of (layer_seen l.fn.self) l.fn.before.items l.value_type l.names ≡ var_parameters_of (layer_seen l.self) l.parameters.items l.value_type (drop l.identifier-index l.names)
