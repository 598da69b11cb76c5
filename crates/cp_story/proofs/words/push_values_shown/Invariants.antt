use denote.Shadow.{shadow}
use denote.Text.{Utf8}
use Rattle.std.proofs.Common.{◌≡◌, ◌++◌, [], codes, drop, string_bytes}
use Rattle.cp_legend.specs.Names.{legend_seen}
use Rattle.cp_story.specs.Joined.{joined}
use Rattle.cp_story.specs.Sentences.{shown_text}
use Rattle.cp_story.proofs.words.push_values_shown.Given as goal

-- what is written, with what is left, is all
abbrev pub invariant-loop-value : goal.invariant-loop-value
invariant-loop-value l =
    record {
      utf8 : shadow (Utf8 l.before);
      written : string_bytes l.initial.text ++ joined [] (codes " ") (shown_text (legend_seen l.legend)) l.values ≡ string_bytes l.text ++ joined l.before (codes " ") (shown_text (legend_seen l.legend)) (drop l.value-index l.values);
    }
