use Rattle.std.proofs.Common.{◌≡◌, ◌-◌, []}
use Rattle.cp_tree.specs.Reading.{many_from, many_after}
use Rattle.std.proofs.Common.{map}
use Rattle.cp_tree.specs.ReadingDeclarations.{part_item}
use Rattle.cp_tree.specs.View.{part_view}
use Rattle.cp_tree.proofs.read_part.parts.Given as goal

abbrev pub invariant-loop-turn : goal.invariant-loop-turn
invariant-loop-turn l = many_after [] part_item l.initial.cursor
    ≡ many_from part_item (l._turn-end - l._turn) (map part_view l.found.items) l.cursor
