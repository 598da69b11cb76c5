use Rattle.std.proofs.Common.{◌≡◌, ◌-◌}
use Rattle.cp_tree.specs.Reading.{many_from, many_after, where_named}
use Rattle.std.proofs.Common.{map}
use Rattle.cp_tree.specs.ReadingDeclarations.{constant_item}
use Rattle.cp_tree.specs.View.{constant_definition_view}
use Rattle.cp_tree.proofs.read_part.constant_definitions.Given as goal

abbrev pub invariant-loop-turn : goal.invariant-loop-turn
invariant-loop-turn l = many_after (map constant_definition_view l.initial.found.items) (where_named constant_item) l.initial.cursor
    ≡ many_from (where_named constant_item) (l._turn-end - l._turn) (map constant_definition_view l.found.items) l.cursor
