use Rattle.std.proofs.Common.{◌≡◌, ◌++◌, drop, map}
use Rattle.serde_json.specs.View.{view}
use Rattle.cp_story.specs.Objects.{number_data}
use Rattle.cp_story.proofs.objects.numbers.Given as goal

-- what is gathered, with what is left, is all
abbrev pub invariant-loop-number : goal.invariant-loop-number
invariant-loop-number l = map number_data l.numbers ≡ map view l.items.items ++ map number_data (drop l.number-index l.numbers)
