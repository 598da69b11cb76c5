use Rattle.std.proofs.Common.{◌≡◌, [], map, replicate}
use Rattle.cp_story.specs.Views.{items_of}
use Rattle.cp_story.proofs.observer.Observer.new.Given as goal

abbrev pub invariant-loop : goal.invariant-loop
invariant-loop l = map items_of l.calls.items ≡ replicate l.counter []
