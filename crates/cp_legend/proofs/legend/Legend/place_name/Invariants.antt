use Rattle.std.proofs.Common.{◌≡◌, drop, map}
use Rattle.std.specs.String.{string_bytes}
use Rattle.cp_legend.specs.Names.{variable_seen}
use Rattle.cp_legend.specs.Places.{place_name}
use Rattle.cp_legend.specs.Values.{types_seen}
use Rattle.cp_legend.proofs.legend.Legend.place_name.Given as goal

-- what is left leads where all lead
abbrev pub invariant-loop-variable : goal.invariant-loop-variable
invariant-loop-variable l = place_name (map string_bytes l.self.constants.items) (types_seen l.self.shapes) (map variable_seen l.variables) l.cell l.cells ≡ place_name (map string_bytes l.self.constants.items) (types_seen l.self.shapes) (map variable_seen (drop l.variable-index l.variables)) l.cell l.cells
