use Rattle.std.proofs.Common.{◌≡◌, drop, map}
use Rattle.cp_layout.specs.Kinds.{field_seen, field_in}
use Rattle.cp_layout.proofs.kinds.field_named.Given as goal

-- what is left leads where all lead
abbrev pub invariant-loop-field : goal.invariant-loop-field
invariant-loop-field l = field_in l.name (map field_seen l.fields) ≡ field_in l.name (map field_seen (drop l.field-index l.fields))
