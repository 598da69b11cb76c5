use Rattle.std.proofs.Common.{◌≡◌, ◌++◌, drop, map}
use Rattle.serde_json.specs.View.{view}
use Rattle.cp_story.specs.StoryData.{holder_data}
use Rattle.cp_story.proofs.objects.holders.Given as goal

-- what is gathered, with what is left, is all
abbrev pub invariant-loop-holder : goal.invariant-loop-holder
invariant-loop-holder l = map holder_data l.holders ≡ map view l.items.items ++ map holder_data (drop l.holder-index l.holders)
