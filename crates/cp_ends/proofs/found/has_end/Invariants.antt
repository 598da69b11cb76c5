use Rattle.std.proofs.Common.{◌≡◌, drop}
use Rattle.std.specs.List.{list_any}
use Rattle.cp_ends.specs.Answer.{ends_tests}
use Rattle.cp_ends.proofs.found.has_end.Given as goal

abbrev pub invariant-loop-found : goal.invariant-loop-found
invariant-loop-found l = list_any (λ e. ends_tests.end e.end l.end) (drop l.found-index l.ends) ≡ list_any (λ e. ends_tests.end e.end l.end) l.ends
