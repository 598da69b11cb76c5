use Rattle.std.proofs.Common.{◌≡◌, ◌++◌, drop, map}
use Rattle.serde_json.specs.View.{view}
use Rattle.cp_story.specs.StoryData.{given_data}
use Rattle.cp_story.specs.Views.{given_of}
use Rattle.cp_story.proofs.objects.returned_values.Given as goal

-- what is gathered, with what is left, is all
abbrev pub invariant-loop-one : goal.invariant-loop-one
invariant-loop-one l = map given_data (map given_of l.returned) ≡ map view l.items.items ++ map given_data (map given_of (drop l.one-index l.returned))
