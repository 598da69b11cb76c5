use Rattle.std.proofs.Common.{◌≡◌, flat_map}
use Rattle.cp_walk.proofs.collect.join_rows.Given as goal

abbrev pub invariant-loop-rows : goal.invariant-loop-rows
invariant-loop-rows l = l.all.items ≡ flat_map (λ r. r.items) l.yielded
