use Rattle.std.proofs.Common.{◌≡◌, ◌-◌}
use Rattle.cp_text.specs.declared.token.Mark.TheVariants as mark
use Rattle.cp_tree.specs.Reading.{many_from, many_after, behind, constant}
use Rattle.cp_tree.proofs.read_statement.labels.Given as goal

abbrev pub invariant-loop-turn : goal.invariant-loop-turn
invariant-loop-turn l = many_after l.initial.found.items (behind mark.Comma constant) l.initial.cursor
    ≡ many_from (behind mark.Comma constant) (l._turn-end - l._turn) l.found.items l.cursor
