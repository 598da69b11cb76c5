use Rattle.std.proofs.Common.{◌≡◌, ◌++◌, drop, map}
use Rattle.serde_json.specs.View.{view}
use Rattle.serde_json.specs.Data.{no_members}
use Rattle.cp_legend.specs.Values.{member_seen, members_of, value_seen}
use Rattle.cp_story.specs.Objects.{members_in, with_members}
use Rattle.cp_story.specs.StoryData.{fields_data, value_data}
use Rattle.cp_story.proofs.objects.+value_json.Given as goal

-- what is gathered, with what is left, is all
abbrev pub invariant-values-loop-item : goal.invariant-values-loop-item
invariant-values-loop-item l = map value_data (map value_seen l.items) ≡ map view l.values.items ++ map value_data (map value_seen (drop l.item-index l.items))

-- what is gathered, with what is left, is all
abbrev pub invariant-record-loop-member : goal.invariant-record-loop-member
invariant-record-loop-member l = with_members no_members (fields_data (members_of (map member_seen l.members))) ≡ with_members (members_in l.object) (fields_data (members_of (map member_seen (drop l.member-index l.members))))
