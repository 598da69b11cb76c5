use Rattle.std.proofs.Common.{◌≡◌, ◌-◌, map}
use Rattle.cp_tree.specs.Reading.{many_from, many_after}
use Rattle.cp_tree.specs.ReadingDeclarations.{routine_item}
use Rattle.cp_tree.specs.View.{routine_view}
use Rattle.cp_tree.proofs.read_routine.routines_after.Given as goal

abbrev pub invariant-loop-turn : goal.invariant-loop-turn
invariant-loop-turn l = many_after (map routine_view l.initial.found.items) routine_item l.initial.cursor
    ≡ many_from routine_item (l._turn-end - l._turn) (map routine_view l.found.items) l.cursor
