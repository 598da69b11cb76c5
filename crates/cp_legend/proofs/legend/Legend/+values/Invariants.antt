use Rattle.std.proofs.Common.{◌≡◌, ◌+◌, ◌*◌, map, take}
use Rattle.std.specs.String.{string_bytes}
use Rattle.cp_symbols.specs.Symbols.{field_symbol_seen}
use Rattle.cp_legend.specs.Values.{types_seen, value_seen, member_seen, field_value, elements_below, compound_below}
use Rattle.cp_legend.proofs.legend.Legend.+values.Given as goal

-- an array or a record holds earlier ones alone
abbrev pub decreases-value_below : goal.decreases-value_below
decreases-value_below l = 3 * l.bound

abbrev pub decreases-compound : goal.decreases-compound
decreases-compound l = 3 * l.number + 2

abbrev pub decreases-elements : goal.decreases-elements
decreases-elements l = 3 * l.bound + 1

abbrev pub decreases-members : goal.decreases-members
decreases-members l = 3 * l.bound + 1

-- those that are gathered
abbrev pub invariant-elements-loop-place : goal.invariant-elements-loop-place
invariant-elements-loop-place l = map value_seen l.items.items ≡ elements_below (map string_bytes l.self.constants.items) l.cells (compound_below (map string_bytes l.self.constants.items) (types_seen l.self.shapes) l.cells l.bound) l.array l.at l.place

abbrev pub invariant-members-loop-field : goal.invariant-members-loop-field
invariant-members-loop-field l = map member_seen l.members.items ≡ map (field_value (map string_bytes l.self.constants.items) l.cells (compound_below (map string_bytes l.self.constants.items) (types_seen l.self.shapes) l.cells l.bound) l.at) (map field_symbol_seen (take l.field-index l.fields))
