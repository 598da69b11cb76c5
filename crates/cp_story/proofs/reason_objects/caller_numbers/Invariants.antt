use Rattle.std.proofs.Common.{◌≡◌, ◌++◌, drop, map}
use Rattle.serde_json.specs.View.{view}
use Rattle.cp_story.specs.Objects.{number_data}
use Rattle.cp_story.specs.declared.reasons.Caller.{Caller}
use Rattle.cp_story.proofs.reason_objects.caller_numbers.Given as goal

-- what is gathered, with what is left, is all
abbrev pub invariant-loop-caller : goal.invariant-loop-caller
invariant-loop-caller l = map (λ (c : Caller). number_data c.process) l.callers ≡ map view l.items.items ++ map (λ (c : Caller). number_data c.process) (drop l.caller-index l.callers)
