use Rattle.std.proofs.Common.{◌≡◌, fold, flat_map, take}
use Rattle.std.specs.Hash as fed
use Rattle.cp_walk.specs.Hashing.{shown_code}
use Rattle.cp_walk.proofs.numbers.feed_output.Given as goal

abbrev pub invariant-loop-value : goal.invariant-loop-value
invariant-loop-value g l = l.state ≡ fold g.H.Hasher.write l.initial.state (flat_map (λ v. fed.u32 (shown_code v)) (take l.value-index l.values))
