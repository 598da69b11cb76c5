use Rattle.cp_waits.proofs.Words.{Machine, Tables}
use Rattle.cp_waits.specs.Passings.{IsLook}
use Rattle.cp_waits.proofs.passing.PassingSetsSight.look.Given as goal

abbrev pub invariant-loop-pid : goal.invariant-loop-pid
invariant-loop-pid g l = (r : Tables) (m : Machine) → g.L.Look.looks l.look r m → IsLook l.pid m l.seen
