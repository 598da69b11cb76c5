use denote.Shadow.{shadow}
use denote.Text.{Utf8}
use Rattle.std.proofs.Common.{◌≡◌, ◌++◌, codes, drop, string_bytes}
use Rattle.cp_legend.specs.Names.{legend_seen}
use Rattle.cp_story.specs.Joined.{joined}
use Rattle.cp_story.specs.Sentences.{monitor_text}
use Rattle.cp_story.proofs.words.push_inside.Given as goal

-- what is written, with what is left, is all
abbrev pub invariant-loop-monitor : goal.invariant-loop-monitor
invariant-loop-monitor l =
    record {
      utf8 : shadow (Utf8 l.before);
      written : string_bytes l.initial.text ++ joined (codes ", inside ") (codes " and ") (monitor_text (legend_seen l.legend)) l.inside ≡ string_bytes l.text ++ joined l.before (codes " and ") (monitor_text (legend_seen l.legend)) (drop l.monitor-index l.inside);
    }
