use Rattle.std.proofs.Common.{◌≡◌, drop}
use Rattle.cp_states.specs.Hashing.{hash_with}
use Rattle.cp_states.proofs.hashing.hash_with.Given as goal

abbrev pub invariant-loop-x : goal.invariant-loop-x
invariant-loop-x g l = hash_with g.T.Hashed.code l.hash (drop l.x-index l.list) ≡ hash_with g.T.Hashed.code l.fn.hash l.list
