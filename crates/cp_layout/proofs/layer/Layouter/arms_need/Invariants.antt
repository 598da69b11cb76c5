use Rattle.cp_layout.proofs.Words.{◌≡◌, drop, map, arm_seen, layer_seen}
use Rattle.cp_layout.specs.LaidStatements.{arms_need}
use Rattle.cp_layout.proofs.layer.Layouter.arms_need.Given as goal

-- what is left leads where all lead
abbrev pub invariant-loop-arm : goal.invariant-loop-arm
invariant-loop-arm l = arms_need (layer_seen l.self) 0 (map arm_seen l.arms) ≡ arms_need (layer_seen l.self) l.need (map arm_seen (drop l.arm-index l.arms))
