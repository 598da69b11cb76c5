use Rattle.std.proofs.Common.{◌≡◌, ◌-◌}
use Rattle.cp_text.specs.declared.token.Mark.TheVariants as mark
use Rattle.cp_tree.specs.Reading.{many_from, many_after, behind}
use Rattle.std.proofs.Common.{map}
use Rattle.cp_tree.specs.ReadingDeclarations.{group_item}
use Rattle.cp_tree.specs.View.{group_view}
use Rattle.cp_tree.proofs.read_routine.group_list.Given as goal

abbrev pub invariant-loop-turn : goal.invariant-loop-turn
invariant-loop-turn l = many_after (map group_view l.initial.found.items) (behind mark.Semicolon group_item) l.initial.cursor
    ≡ many_from (behind mark.Semicolon group_item) (l._turn-end - l._turn) (map group_view l.found.items) l.cursor
