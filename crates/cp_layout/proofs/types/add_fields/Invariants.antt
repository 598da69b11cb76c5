use Rattle.std.proofs.Common.{◌≡◌, drop}
use Rattle.cp_layout.specs.Kinds.{fields_seen}
use Rattle.cp_layout.specs.LaidTypes.{fields_of_type}
use Rattle.cp_layout.proofs.types.add_fields.Given as goal

-- what is left leads where all lead
abbrev pub invariant-loop-identifier : goal.invariant-loop-identifier
invariant-loop-identifier l = fields_of_type (fields_seen l.fn.fields) l.names l.value_type l.cells ≡ fields_of_type (fields_seen l.fields) (drop l.identifier-index l.names) l.value_type l.cells
