use Rattle.std.proofs.Common.{◌≡◌, ◌-◌}
use Rattle.cp_text.specs.declared.token.Mark.TheVariants as mark
use Rattle.cp_tree.specs.Reading.{many_from, many_after, behind}
use Rattle.std.proofs.Common.{map}
use Rattle.cp_tree.specs.ReadingStatements.{start_at}
use Rattle.cp_tree.specs.View.{start_view}
use Rattle.cp_tree.proofs.read_statement.starts.Given as goal

abbrev pub invariant-loop-turn : goal.invariant-loop-turn
invariant-loop-turn l = many_after (map start_view l.initial.found.items) (behind mark.Comma (start_at l.budget)) l.initial.cursor
    ≡ many_from (behind mark.Comma (start_at l.budget)) (l._turn-end - l._turn) (map start_view l.found.items) l.cursor
