use Rattle.std.proofs.Common.{◌≡◌, ◌++◌, drop, string_bytes}
use Rattle.cp_legend.specs.Names.{legend_seen}
use Rattle.cp_story.specs.ReasonText.{listed_from, routine_text}
use Rattle.cp_story.proofs.reason_words.push_routines.Given as goal

-- what is written, with what is left, is all
abbrev pub invariant-loop-place : goal.invariant-loop-place
invariant-loop-place l = string_bytes l.initial.text ++ listed_from (routine_text (legend_seen l.legend)) 0 l.last l.routines ≡ string_bytes l.text ++ listed_from (routine_text (legend_seen l.legend)) l.place l.last (drop l.place l.routines)
