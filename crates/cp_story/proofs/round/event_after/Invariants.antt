use Rattle.std.proofs.Common.{◌≡◌, ◌≤◌, length, take}
use Rattle.std.specs.List.{filter}
use Rattle.cp_story.specs.Round.{follows_choice}
use Rattle.cp_story.proofs.round.event_after.Given as goal

abbrev pub invariant-loop-place : goal.invariant-loop-place
invariant-loop-place l = record {
  counted : l.choices ≡ length (filter follows_choice (take l.place l.events));
  few : l.choices ≤ l.number;
}
