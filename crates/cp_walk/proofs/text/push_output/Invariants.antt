use Rattle.std.proofs.Common.{◌≡◌, ◌++◌, string_bytes, take}
use Rattle.cp_walk.specs.Text.{behind_each, shown_text}
use Rattle.cp_walk.proofs.text.push_output.Given as goal

abbrev pub invariant-loop-value : goal.invariant-loop-value
invariant-loop-value l = string_bytes l.text ≡ string_bytes l.initial.text ++ behind_each 32 (shown_text l.program.names) (take l.value-index l.rest)
