use Rattle.std.proofs.Common.{◌≡◌}
use Rattle.std.specs.List.{AllPass}
use Rattle.cp_refusal.specs.Excerpts.{is_plain}
use Rattle.cp_refusal.proofs.characters.length.Given as goal

abbrev pub invariant-loop-at : goal.invariant-loop-at
invariant-loop-at l = AllPass is_plain l.bytes → (l.left ≡ 0) × (l.number ≡ l.at)
