use Rattle.std.proofs.Common.{◌≡◌, drop}
use Rattle.cp_story.specs.Integers.{among_parameters}
use Rattle.cp_story.proofs.integers.among_parameters.Given as goal

-- what is left leads where all lead
abbrev pub invariant-loop-parameter : goal.invariant-loop-parameter
invariant-loop-parameter l = among_parameters l.known l.parameters ≡ among_parameters l.known (drop l.parameter-index l.parameters)
