use Rattle.std.proofs.Common.{◌≡◌, ◌+◌, ◌*◌, ◌++◌, drop, map}
use Rattle.cp_layout.specs.Kinds.{types_seen, field_seen, copies, least_by, fields_least, compound_below}
use Rattle.cp_layout.proofs.kinds.Types.+least.Given as goal

-- an array or a record holds earlier ones alone
abbrev pub decreases-add_least_below : goal.decreases-add_least_below
decreases-add_least_below l = 3 * l.bound

abbrev pub decreases-add_compound : goal.decreases-add_compound
decreases-add_compound l = 3 * l.number + 2

abbrev pub decreases-add_elements : goal.decreases-add_elements
decreases-add_elements l = 3 * l.bound + 1

abbrev pub decreases-add_fields : goal.decreases-add_fields
decreases-add_fields l = 3 * l.bound + 1

abbrev pub invariant-add_elements-loop : goal.invariant-add_elements-loop
invariant-add_elements-loop l = l.cells.items ≡ l.initial.cells.items ++ copies l.counter (least_by (compound_below (types_seen l.self) l.bound) l.array.element)

-- what is left leads where all lead
abbrev pub invariant-add_fields-loop-field : goal.invariant-add_fields-loop-field
invariant-add_fields-loop-field l = l.initial.cells.items ++ fields_least (compound_below (types_seen l.self) l.bound) (map field_seen l.fields) ≡ l.cells.items ++ fields_least (compound_below (types_seen l.self) l.bound) (map field_seen (drop l.field-index l.fields))
