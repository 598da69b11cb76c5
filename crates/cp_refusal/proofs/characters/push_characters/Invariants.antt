use Rattle.std.proofs.Common.{◌≡◌, map, take}
use Rattle.std.specs.List.{AllPass}
use Rattle.cp_refusal.specs.Excerpts.{is_plain, seen}
use Rattle.cp_refusal.specs.Text.{Takes}
use Rattle.cp_refusal.proofs.characters.push_characters.Given as goal

abbrev pub invariant-loop-at : goal.invariant-loop-at
invariant-loop-at l = Takes l.initial.text l.text (λ piece. AllPass is_plain l.bytes → (l.left ≡ 0) × (piece ≡ map (seen l.look) (take l.at l.bytes)))
