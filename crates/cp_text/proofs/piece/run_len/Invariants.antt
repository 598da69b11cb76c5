use Rattle.std.proofs.Common.{◌≡◌, ◌+◌, drop}
use Rattle.std.specs.List.{prefix_len}
use Rattle.cp_text.specs.Pieces.{is_in}
use Rattle.cp_text.proofs.piece.run_len.Given as goal

abbrev pub invariant-loop-at : goal.invariant-loop-at
invariant-loop-at l = l.at + prefix_len (is_in l.class) (drop l.at l.text) ≡ prefix_len (is_in l.class) l.text
