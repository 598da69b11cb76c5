use Rattle.cp_layout.proofs.Words.{◌≡◌, map, drop, part_view, layer_seen}
use Rattle.cp_layout.specs.LaidDeclarations.{permanent_parts}
use Rattle.cp_layout.proofs.layer.Layouter.permanent_parts.Given as goal

-- what is left leads where all lead
abbrev pub invariant-loop-part : goal.invariant-loop-part
invariant-loop-part l = permanent_parts (layer_seen l.fn.self) (map part_view l.parts) ≡ permanent_parts (layer_seen l.self) (map part_view (drop l.part-index l.parts))
