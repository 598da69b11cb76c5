use Rattle.std.proofs.Common.{◌≡◌, map, drop}
use Rattle.cp_tree.specs.View.{program_part_view}
use Rattle.cp_layout.specs.Layers.{layer_seen}
use Rattle.cp_layout.specs.LaidDeclarations.{program_parts}
use Rattle.cp_layout.proofs.layer.Layouter.program_parts.Given as goal

-- what is left leads where all lead
abbrev pub invariant-loop-part : goal.invariant-loop-part
invariant-loop-part l = program_parts (layer_seen l.fn.self) (map program_part_view l.parts) ≡ program_parts (layer_seen l.self) (map program_part_view (drop l.part-index l.parts))
