use Rattle.std.proofs.Common.{◌≡◌, ◌++◌, drop, map}
use Rattle.serde_json.specs.View.{view}
use Rattle.cp_story.specs.Objects.{number_data}
use Rattle.cp_story.proofs.reason_objects.event_numbers.Given as goal

-- what is gathered, with what is left, is all
abbrev pub invariant-loop-event : goal.invariant-loop-event
invariant-loop-event l = map number_data l.events ≡ map view l.items.items ++ map number_data (drop l.event-index l.events)
