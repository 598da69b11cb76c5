use Rattle.std.proofs.Common.{◌≡◌, drop}
use Rattle.std.specs.List.{list_any}
use Rattle.std.specs.Str.{bytes_eq}
use Rattle.cp_expectation.proofs.value.is_one_of.Given as goal

abbrev pub invariant-loop-name : goal.invariant-loop-name
invariant-loop-name l = list_any (λ r. bytes_eq r.now l.word) l.names ≡ list_any (λ r. bytes_eq r.now l.word) (drop l.name-index l.names)
