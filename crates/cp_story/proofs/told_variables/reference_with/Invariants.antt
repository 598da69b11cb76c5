use Rattle.std.proofs.Common.{◌≡◌, drop}
use Rattle.cp_story.specs.Annotations.{reference_with}
use Rattle.cp_story.proofs.told_variables.reference_with.Given as goal

-- what is left leads where all lead
abbrev pub invariant-loop-parameter : goal.invariant-loop-parameter
invariant-loop-parameter l = reference_with l.slot l.parameters ≡ reference_with l.slot (drop l.parameter-index l.parameters)
