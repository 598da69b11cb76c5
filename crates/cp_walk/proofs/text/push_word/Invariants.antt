use Rattle.std.proofs.Common.{◌≡◌, ◌++◌, string_bytes, decimal, take}
use Rattle.cp_walk.specs.Text.{behind_each}
use Rattle.cp_walk.proofs.text.push_word.Given as goal

abbrev pub invariant-loop-number : goal.invariant-loop-number
invariant-loop-number l = string_bytes l.text ≡ string_bytes l.initial.text ++ behind_each 46 decimal (take l.number-index l.rest)
