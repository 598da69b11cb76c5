use Rattle.std.proofs.Common.{◌≡◌}
use Rattle.cp_story.specs.Ahead.{with_elements}
use Rattle.cp_story.proofs.ahead.push_elements.Given as goal

-- with the elements before this one
abbrev pub invariant-loop-element : goal.invariant-loop-element
invariant-loop-element l = l.ahead.items ≡ with_elements l.process l.first l.stride l.element l.initial.ahead.items l.body
