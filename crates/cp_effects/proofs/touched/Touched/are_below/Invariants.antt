use Rattle.std.proofs.Common.{◌≡◌, ◌<◌, ℕ, take, true}
use Rattle.cp_effects.specs.Noting.{among}
use Rattle.cp_effects.proofs.touched.Touched.are_below.Given as goal

abbrev pub invariant-loop-noted : goal.invariant-loop-noted
invariant-loop-noted l = (place : ℕ) → among (take l.noted-index l.self.places.items) place ≡ true → place < l.count
