use Rattle.std.proofs.Common.{◌≡◌, ◌++◌, drop, string_bytes}
use Rattle.cp_story.specs.Sentences.{alternatives_from}
use Rattle.cp_story.proofs.words.push_options.Given as goal

-- what is written, with what is left, is all
abbrev pub invariant-loop-place : goal.invariant-loop-place
invariant-loop-place l = string_bytes l.initial.text ++ alternatives_from 0 l.last l.options ≡ string_bytes l.text ++ alternatives_from l.place l.last (drop l.place l.options)
