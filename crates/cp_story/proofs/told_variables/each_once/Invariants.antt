use Rattle.std.proofs.Common.{◌≡◌, [], drop}
use Rattle.cp_story.specs.Annotations.{with_each}
use Rattle.cp_story.proofs.told_variables.each_once.Given as goal

-- what is left, put to those that are gathered, gives what all give
abbrev pub invariant-loop-origin : goal.invariant-loop-origin
invariant-loop-origin l = with_each [] l.found ≡ with_each l.once.items (drop l.origin-index l.found)
