use Rattle.std.proofs.Common.{◌≡◌, ◌++◌, reverse, take}
use Rattle.cp_at_once.proofs.kept.push_backwards.Given as goal

abbrev pub invariant-loop-at : goal.invariant-loop-at
invariant-loop-at l = l.word.items ≡ l.initial.word.items ++ take l.at (reverse l.numbers)
