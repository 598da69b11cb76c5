use denote.Shadow.{shadow}
use denote.Text.{Utf8}
use Rattle.std.proofs.Common.{◌≡◌, ◌++◌, [], codes, drop, map, string_bytes}
use Rattle.cp_legend.specs.Names.{legend_seen}
use Rattle.cp_story.specs.Joined.{joined}
use Rattle.cp_story.specs.Text.{change_text}
use Rattle.cp_story.specs.Views.{changed_of}
use Rattle.cp_story.proofs.texts.changes_text.Given as goal

-- what is written, with what is left, is all
abbrev pub invariant-loop-change : goal.invariant-loop-change
invariant-loop-change l =
    record {
      utf8 : shadow (Utf8 l.before);
      written : joined [] (codes "  ") (change_text (legend_seen l.legend)) (map changed_of l.changes) ≡ string_bytes l.text ++ joined l.before (codes "  ") (change_text (legend_seen l.legend)) (map changed_of (drop l.change-index l.changes));
    }
