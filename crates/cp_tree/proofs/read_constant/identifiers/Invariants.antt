use Rattle.std.proofs.Common.{◌≡◌, ◌-◌}
use Rattle.cp_text.specs.declared.token.Mark.TheVariants as mark
use Rattle.cp_tree.specs.Reading.{many_from, many_after, behind, identifier}
use Rattle.cp_tree.proofs.read_constant.identifiers.Given as goal

abbrev pub invariant-loop-turn : goal.invariant-loop-turn
invariant-loop-turn l = many_after l.initial.found.items (behind mark.Comma identifier) l.initial.cursor
    ≡ many_from (behind mark.Comma identifier) (l._turn-end - l._turn) l.found.items l.cursor
