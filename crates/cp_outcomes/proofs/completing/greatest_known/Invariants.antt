use Rattle.std.proofs.Common.{◌≤◌, IfSome}
use Rattle.cp_run.specs.Slots.{slots}
use Rattle.cp_outcomes.specs.Findings.{IsKnownOf}
use Rattle.cp_outcomes.proofs.completing.greatest_known.Given as goal

abbrev pub invariant-loop : goal.invariant-loop
invariant-loop g l = (l.high ≤ l.job.limits.choices) × IfSome l.known (IsKnownOf (slots l.job.program.now l.job.limits.discipline) l.job.limits.choices l.job.limits.steps)
