use Rattle.std.proofs.Common.{◌≡◌, map, All, flat_map}
use Rattle.cp_walk.specs.Ends.{IsKept}
use Rattle.cp_walk.proofs.collect.collect_parts.Given as goal

abbrev pub invariant-loop-worker : goal.invariant-loop-worker
invariant-loop-worker l = record {
  seats : l.seats.items ≡ map (λ w. w.seat) l.yielded;
  parts : l.all.items ≡ flat_map (λ w. w.parts.items) l.yielded;
  kept : All (λ w. IsKept w.end) l.yielded;
}
