use Rattle.std.proofs.Common.{◌≡◌, ◌-◌}
use Rattle.cp_text.specs.declared.token.Mark.TheVariants as mark
use Rattle.cp_tree.specs.Reading.{many_from, many_after, behind}
use Rattle.std.proofs.Common.{map}
use Rattle.cp_tree.specs.ReadingDeclarations.{parameter_item}
use Rattle.cp_tree.specs.View.{parameter_group_view}
use Rattle.cp_tree.proofs.read_routine.parameter_list.Given as goal

abbrev pub invariant-loop-turn : goal.invariant-loop-turn
invariant-loop-turn l = many_after (map parameter_group_view l.initial.found.items) (behind mark.Semicolon parameter_item) l.initial.cursor
    ≡ many_from (behind mark.Semicolon parameter_item) (l._turn-end - l._turn) (map parameter_group_view l.found.items) l.cursor
