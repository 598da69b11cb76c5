-- What rows and faults of the code stand for.
use Rattle.std.specs.Prelude.{ℕ, ◌≤◌}
use Rattle.cp_run.specs.declared.outcome.RunEnd.{RunEnd}
use Rattle.cp_run.specs.declared.outcome.RunEnd.TheVariants as end
use Rattle.cp_run.specs.Table.{Line}
use Rattle.cp_walk.specs.declared.row.Row.{Row}
use Rattle.cp_walk.specs.declared.fault.ExploreFault.{ExploreFault}
use Rattle.cp_walk.specs.declared.fault.ExploreFault.TheVariants.{Memory, TooManyRows}

abbrev pub line_of : Row → Line
line_of r = record { word = r.word.items; outcome = r.outcome }

abbrev pub IsTooMany : ExploreFault → Type 0
IsTooMany Memory = ⊥
IsTooMany TooManyRows = Unit {0}

-- the part of the word that a run's end used is within this many numbers
abbrev pub UsedWithin : RunEnd → ℕ → Type 0
UsedWithin (end.Ended outcome used) n = used ≤ n
UsedWithin (end.Wants ready) n = Unit {0}
UsedWithin (end.NotReady place) n = Unit {0}
