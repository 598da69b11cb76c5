use Rattle.std.proofs.Common.{◌≡◌, ◌++◌, string_bytes, take}
use Rattle.cp_run.specs.Table.{each}
use Rattle.cp_outcomes.specs.Text.{line_text}
use Rattle.cp_outcomes.proofs.texts.push_lines.Given as goal

abbrev pub invariant-loop-line : goal.invariant-loop-line
invariant-loop-line l = string_bytes l.text ≡ string_bytes l.initial.text ++ each (λ s. line_text l.width (string_bytes s)) (take l.line-index l.lines)
