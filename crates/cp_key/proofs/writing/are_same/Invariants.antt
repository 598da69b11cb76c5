use Rattle.std.proofs.Common.{◌≡◌, take, true}
use Rattle.cp_key.proofs.writing.are_same.Given as goal

-- those that were looked at are the same
abbrev pub invariant-loop-at : goal.invariant-loop-at
invariant-loop-at l = l.is_same ≡ true → take l.at l.numbers ≡ take l.at l.others
