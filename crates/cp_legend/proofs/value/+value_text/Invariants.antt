use denote.Shadow.{shadow}
use denote.Text.{Utf8}
use Rattle.std.proofs.Common.{◌≡◌, ◌++◌, [], drop, map}
use Rattle.std.specs.String.{string_bytes}
use Rattle.cp_legend.specs.Values.{member_seen, members_of, value_seen, values_of}
use Rattle.cp_legend.specs.Written.{members_text, values_text}
use Rattle.cp_legend.proofs.value.+value_text.Given as goal

-- what is written, with what is left, is all
abbrev pub invariant-push_all-loop-item : goal.invariant-push_all-loop-item
invariant-push_all-loop-item l =
    record {
      utf8 : shadow (Utf8 l.before);
      written : string_bytes l.initial.text ++ values_text [] (values_of (map value_seen l.items)) ≡ string_bytes l.text ++ values_text l.before (values_of (map value_seen (drop l.item-index l.items)));
    }

abbrev pub invariant-push_members-loop-member : goal.invariant-push_members-loop-member
invariant-push_members-loop-member l =
    record {
      utf8 : shadow (Utf8 l.before);
      written : string_bytes l.initial.text ++ members_text [] (members_of (map member_seen l.members)) ≡ string_bytes l.text ++ members_text l.before (members_of (map member_seen (drop l.member-index l.members)));
    }
