use Rattle.std.proofs.Common.{◌≡◌, ◌+◌, ◌-◌, ◌*◌}
use Rattle.cp_tree.specs.Reading.{ended_from, ended_after}
use Rattle.cp_tree.specs.ReadingTypes.{field_group_at}
use Rattle.cp_tree.specs.View.{field_groups_view}
use Rattle.cp_tree.proofs.read_type.+types.Given as goal

abbrev pub decreases-type_term : goal.decreases-type_term
decreases-type_term l = 8 * l.budget

abbrev pub decreases-array : goal.decreases-array
decreases-array l = 8 * l.budget + 1

abbrev pub decreases-field_group : goal.decreases-field_group
decreases-field_group l = 8 * l.budget + 1

abbrev pub decreases-field_groups : goal.decreases-field_groups
decreases-field_groups l = 8 * l.budget + 2

abbrev pub decreases-record : goal.decreases-record
decreases-record l = 8 * l.budget + 3

abbrev pub decreases-type_within : goal.decreases-type_within
decreases-type_within l = 8 * l.budget + 4

abbrev pub invariant-field_groups-loop-turn : goal.invariant-field_groups-loop-turn
invariant-field_groups-loop-turn l = ended_after (field_groups_view l.initial.found.items) (field_group_at l.budget) l.initial.cursor
    ≡ ended_from (field_group_at l.budget) (l._turn-end - l._turn) (field_groups_view l.found.items) l.cursor
