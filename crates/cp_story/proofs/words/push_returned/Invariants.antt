use Rattle.std.proofs.Common.{◌≡◌, ◌++◌, drop, string_bytes}
use Rattle.cp_run.specs.Table.{each}
use Rattle.cp_story.specs.Sentences.{returned_text}
use Rattle.cp_story.proofs.words.push_returned.Given as goal

-- what is written, with what is left, is all
abbrev pub invariant-loop-one : goal.invariant-loop-one
invariant-loop-one l = string_bytes l.initial.text ++ each returned_text l.returned ≡ string_bytes l.text ++ each returned_text (drop l.one-index l.returned)
