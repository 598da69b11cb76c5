use Rattle.std.proofs.Common.{◌≡◌, drop}
use Rattle.std.specs.List.{list_any}
use Rattle.cp_ends.specs.Answer.{ends_tests}
use Rattle.cp_ends.proofs.found.has_value.Given as goal

abbrev pub invariant-loop-found : goal.invariant-loop-found
invariant-loop-found l = list_any (λ v. ends_tests.value v.value l.value) (drop l.found-index l.values) ≡ list_any (λ v. ends_tests.value v.value l.value) l.values
