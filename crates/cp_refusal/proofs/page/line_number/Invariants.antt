use Rattle.std.proofs.Common.{◌≡◌}
use Rattle.cp_refusal.specs.Lines.{line_in}
use Rattle.cp_refusal.proofs.page.line_number.Given as goal

abbrev pub invariant-loop-byte : goal.invariant-loop-byte
invariant-loop-byte l = l.number ≡ line_in l.byte-items l.byte-index
