use Rattle.std.proofs.Common.{◌≡◌, map}
use Rattle.cp_tests.proofs.boards.collect_all.Given as goal

abbrev pub invariant-loop-drawer : goal.invariant-loop-drawer
invariant-loop-drawer l = l.seats.items ≡ map (λ d. d.seat) l.yielded
