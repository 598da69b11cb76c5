use Rattle.std.proofs.Common.{◌≡◌, map, take}
use Rattle.cp_verdict.specs.waiting.Known.{entry_pair, waiting_pair}
use Rattle.cp_verdict.proofs.endless.waiting.waiting_ends.Given as goal

abbrev pub invariant-loop-number : goal.invariant-loop-number
invariant-loop-number l = map waiting_pair l.waiting.items ≡ map entry_pair (take l.number l.ends.known.entries)
