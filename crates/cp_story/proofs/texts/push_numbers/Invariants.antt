use denote.Shadow.{shadow}
use denote.Text.{Utf8}
use Rattle.std.proofs.Common.{◌≡◌, ◌++◌, [], drop, decimal, string_bytes}
use Rattle.cp_story.specs.Joined.{joined}
use Rattle.cp_story.proofs.texts.push_numbers.Given as goal

-- what is written, with what is left, is all
abbrev pub invariant-loop-number : goal.invariant-loop-number
invariant-loop-number l =
    record {
      utf8 : shadow (Utf8 l.before);
      written : string_bytes l.initial.text ++ joined [] l.between decimal l.numbers ≡ string_bytes l.text ++ joined l.before l.between decimal (drop l.number-index l.numbers);
    }
