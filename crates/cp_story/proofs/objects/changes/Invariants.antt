use Rattle.std.proofs.Common.{◌≡◌, ◌++◌, drop, map}
use Rattle.serde_json.specs.View.{view}
use Rattle.cp_story.specs.StoryData.{change_data}
use Rattle.cp_story.specs.Views.{changed_of}
use Rattle.cp_story.proofs.objects.changes.Given as goal

-- what is gathered, with what is left, is all
abbrev pub invariant-loop-change : goal.invariant-loop-change
invariant-loop-change l = map change_data (map changed_of l.changes) ≡ map view l.items.items ++ map change_data (map changed_of (drop l.change-index l.changes))
