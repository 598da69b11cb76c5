use Rattle.std.proofs.Common.{◌≡◌, drop}
use Rattle.cp_layout.specs.Layers.{layer_seen}
use Rattle.cp_layout.specs.LaidTypes.{enumerate}
use Rattle.cp_layout.proofs.layer.Layouter.enumerate.Given as goal

-- what is left leads where all lead
abbrev pub invariant-loop-number : goal.invariant-loop-number
invariant-loop-number l = enumerate (layer_seen l.fn.self) l.base 0 l.constants ≡ enumerate (layer_seen l.self) l.base l.number (drop l.number l.constants)
