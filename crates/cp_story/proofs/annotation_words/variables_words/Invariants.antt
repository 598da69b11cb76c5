use denote.Shadow.{shadow}
use denote.Text.{Utf8}
use Rattle.std.proofs.Common.{◌≡◌, ◌++◌, [], codes, drop, map, string_bytes}
use Rattle.cp_story.specs.AnnotationText.{variable_text}
use Rattle.cp_story.specs.Joined.{joined}
use Rattle.cp_story.specs.Views.{given_of}
use Rattle.cp_story.proofs.annotation_words.variables_words.Given as goal

-- what is written, with what is left, is all
abbrev pub invariant-loop-variable : goal.invariant-loop-variable
invariant-loop-variable l =
    record {
      utf8 : shadow (Utf8 l.before);
      written : joined [] (codes ", ") variable_text (map given_of l.variables) ≡ string_bytes l.text ++ joined l.before (codes ", ") variable_text (map given_of (drop l.variable-index l.variables));
    }
