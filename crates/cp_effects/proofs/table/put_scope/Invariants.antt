use Rattle.std.proofs.Common.{◌≡◌, take}
use Rattle.cp_effects.proofs.table.put_scope.Given as goal

abbrev pub invariant-loop-place : goal.invariant-loop-place
invariant-loop-place l = l.scope.items ≡ take l.place-index l.touched.places.items
