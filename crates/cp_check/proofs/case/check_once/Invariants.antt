use Rattle.std.proofs.Common.{◌≡◌, [], drop, take}
use Rattle.cp_check.specs.Cases as spec
use Rattle.cp_check.proofs.Numbers.{numbers_of}
use Rattle.cp_check.proofs.case.check_once.Given as goal

-- what is left leads where all lead, and the numbers are those of the labels so far
abbrev pub invariant-loop-label : goal.invariant-loop-label
invariant-loop-label l =
    record {
      left : spec.twice_faults [] l.labels ≡ spec.twice_faults (take l.label-index l.labels) (drop l.label-index l.labels);
      seen : l.numbers.keys ≡ numbers_of (take l.label-index l.labels);
    }
