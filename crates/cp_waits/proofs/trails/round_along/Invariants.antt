use Rattle.cp_waits.specs.Walks.{IsTrail}
use Rattle.cp_waits.proofs.trails.round_along.Given as goal

abbrev pub invariant-loop-place : goal.invariant-loop-place
invariant-loop-place l = IsTrail l.graph l.keeping l.first l.trail
