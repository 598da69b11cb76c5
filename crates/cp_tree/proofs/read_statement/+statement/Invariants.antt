use Rattle.std.proofs.Common.{◌≡◌, ◌+◌, ◌-◌, ◌*◌}
use Rattle.cp_text.specs.declared.token.Mark.TheVariants as mark
use Rattle.cp_tree.specs.Reading.{many_from, many_after, behind, ended_from, ended_after}
use Rattle.cp_tree.specs.ReadingStatements.{statement, arm_at}
use Rattle.cp_tree.specs.View.{statements_view, arms_view}
use Rattle.cp_tree.proofs.read_statement.+statement.Given as goal

abbrev pub decreases-statement : goal.decreases-statement
decreases-statement l = 8 * l.budget

abbrev pub decreases-statements : goal.decreases-statements
decreases-statements l = 8 * l.budget + 1

abbrev pub decreases-statement_after : goal.decreases-statement_after
decreases-statement_after l = 8 * l.budget + 1

abbrev pub decreases-arm : goal.decreases-arm
decreases-arm l = 8 * l.budget + 1

abbrev pub decreases-arms : goal.decreases-arms
decreases-arms l = 8 * l.budget + 2

abbrev pub decreases-choice : goal.decreases-choice
decreases-choice l = 8 * l.budget + 2

abbrev pub decreases-while_loop : goal.decreases-while_loop
decreases-while_loop l = 8 * l.budget + 2

abbrev pub decreases-for_loop : goal.decreases-for_loop
decreases-for_loop l = 8 * l.budget + 2

abbrev pub decreases-block : goal.decreases-block
decreases-block l = 8 * l.budget + 2

abbrev pub decreases-cycle : goal.decreases-cycle
decreases-cycle l = 8 * l.budget + 2

abbrev pub decreases-repeat_loop : goal.decreases-repeat_loop
decreases-repeat_loop l = 8 * l.budget + 2

abbrev pub decreases-case : goal.decreases-case
decreases-case l = 8 * l.budget + 3

abbrev pub decreases-plain_statement : goal.decreases-plain_statement
decreases-plain_statement l = 8 * l.budget + 4

abbrev pub decreases-plain_in_box : goal.decreases-plain_in_box
decreases-plain_in_box l = 8 * l.budget + 5

abbrev pub decreases-statement_within : goal.decreases-statement_within
decreases-statement_within l = 8 * l.budget + 6

abbrev pub invariant-statements-loop-turn : goal.invariant-statements-loop-turn
invariant-statements-loop-turn l = many_after (statements_view l.initial.found.items) (behind mark.Semicolon (statement l.budget)) l.initial.cursor
    ≡ many_from (behind mark.Semicolon (statement l.budget)) (l._turn-end - l._turn) (statements_view l.found.items) l.cursor

abbrev pub invariant-arms-loop-turn : goal.invariant-arms-loop-turn
invariant-arms-loop-turn l = ended_after (arms_view l.initial.found.items) (arm_at l.budget) l.initial.cursor
    ≡ ended_from (arm_at l.budget) (l._turn-end - l._turn) (arms_view l.found.items) l.cursor
