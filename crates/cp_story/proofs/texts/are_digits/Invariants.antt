use Rattle.std.proofs.Common.{◌≡◌, drop}
use Rattle.cp_story.specs.Text.{are_digits}
use Rattle.cp_story.proofs.texts.are_digits.Given as goal

-- what is left leads where all lead
abbrev pub invariant-loop-number : goal.invariant-loop-number
invariant-loop-number l = are_digits l.numbers ≡ are_digits (drop l.number-index l.numbers)
