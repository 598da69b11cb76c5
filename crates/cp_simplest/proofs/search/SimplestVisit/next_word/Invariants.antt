use Rattle.std.proofs.Common.{◌≡◌}
use Rattle.cp_simplest.proofs.search.SimplestVisit.next_word.Given as goal

abbrev pub invariant-loop : goal.invariant-loop
invariant-loop l = l.self.states ≡ l.initial.self.states
