use denote.Shadow.{shadow}
use denote.Text.{Utf8}
use Rattle.std.proofs.Common.{◌≡◌, ◌++◌, codes, drop, map, string_bytes}
use Rattle.cp_legend.specs.Values.{value_seen}
use Rattle.cp_legend.specs.Written.{value_text}
use Rattle.cp_story.specs.Joined.{joined}
use Rattle.cp_story.proofs.words.push_arguments.Given as goal

-- what is written, with what is left, is all
abbrev pub invariant-loop-value : goal.invariant-loop-value
invariant-loop-value l =
    record {
      utf8 : shadow (Utf8 l.before);
      written : string_bytes l.initial.text ++ joined (codes "(") (codes ", ") value_text (map value_seen l.arguments) ≡ string_bytes l.text ++ joined l.before (codes ", ") value_text (map value_seen (drop l.value-index l.arguments));
    }
