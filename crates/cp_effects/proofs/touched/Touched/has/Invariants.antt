use Rattle.std.proofs.Common.{◌≡◌, drop}
use Rattle.cp_effects.specs.Noting.{among}
use Rattle.cp_effects.proofs.touched.Touched.has.Given as goal

abbrev pub invariant-loop-noted : goal.invariant-loop-noted
invariant-loop-noted l = among (drop l.noted-index l.self.places.items) l.place ≡ among l.self.places.items l.place
