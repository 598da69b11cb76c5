use Rattle.std.proofs.Common.{◌≡◌, take}
use Rattle.cp_text.specs.Lines as texts
use Rattle.cp_tree.proofs.parser.lines.Given as goal

abbrev pub invariant-loop-at : goal.invariant-loop-at
invariant-loop-at l = l.found.items ≡ take l.at (texts.lines l.tokens)
