use Rattle.std.proofs.Common.{◌≡◌, drop}
use Rattle.cp_check.specs.Cases as spec
use Rattle.cp_check.proofs.case.are_labels.Given as goal

abbrev pub invariant-loop-label : goal.invariant-loop-label
invariant-loop-label l = spec.are_labels l.base l.labels ≡ spec.are_labels l.base (drop l.label-index l.labels)
