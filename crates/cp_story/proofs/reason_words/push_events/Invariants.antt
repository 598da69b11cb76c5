use Rattle.std.proofs.Common.{◌≡◌, ◌++◌, decimal, drop, string_bytes}
use Rattle.cp_story.specs.ReasonText.{listed_from}
use Rattle.cp_story.proofs.reason_words.push_events.Given as goal

-- what is written, with what is left, is all
abbrev pub invariant-loop-place : goal.invariant-loop-place
invariant-loop-place l = string_bytes l.initial.text ++ listed_from decimal 0 l.last l.events ≡ string_bytes l.text ++ listed_from decimal l.place l.last (drop l.place l.events)
