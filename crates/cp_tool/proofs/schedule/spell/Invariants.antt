use Rattle.std.proofs.Common.{◌≡◌, ◌++◌, ◌∷◌, take, flat_map, string_bytes}
use Rattle.std.specs.Prelude.{decimal}
use Rattle.cp_tool.proofs.schedule.spell.Given as goal

abbrev pub invariant-loop-number : goal.invariant-loop-number
invariant-loop-number l = string_bytes l.text ≡ string_bytes l.initial.text ++ flat_map (λ m. 46 ∷ decimal m) (take l.number-index l.rest)
