use Rattle.std.proofs.Common.{◌≡◌, ℕ, take, true}
use Rattle.cp_effects.specs.Noting.{among}
use Rattle.cp_ends.specs.Halves.{is_in_first}
use Rattle.cp_ends.proofs.halving.are_in.Given as goal

abbrev pub invariant-loop-place : goal.invariant-loop-place
invariant-loop-place l = (place : ℕ) → among (take l.place-index l.places) place ≡ true → is_in_first l.table place ≡ l.is_first
