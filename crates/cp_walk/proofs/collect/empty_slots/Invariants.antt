use Rattle.std.proofs.Common.{◌≡◌, map, [], ℕ}
use Rattle.std.specs.List.{range_with_len}
use Rattle.cp_walk.proofs.collect.empty_slots.Given as goal

abbrev pub invariant-loop : goal.invariant-loop
invariant-loop l = map (λ r. r.items) l.slots.items ≡ map (λ (t : ℕ). []) (range_with_len 0 l.counter)
