use Rattle.std.proofs.Common.{◌≡◌, ◌-◌, []}
use Rattle.cp_tree.specs.Reading.{many_from, many_after}
use Rattle.cp_tree.specs.ReadingAnnotations.{annotation_at}
use Rattle.cp_tree.specs.View.{expressions_view}
use Rattle.cp_tree.proofs.read_annotation.annotations.Given as goal

abbrev pub invariant-loop-turn : goal.invariant-loop-turn
invariant-loop-turn l = many_after [] (annotation_at l.opening l.budget) l.initial.cursor
    ≡ many_from (annotation_at l.opening l.budget) (l._turn-end - l._turn) (expressions_view l.found.items) l.cursor
