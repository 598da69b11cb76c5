-- The numbers of monitors.
use Rattle.std.specs.Prelude.{ℕ, ◌==◌}
use Rattle.std.specs.List.{position_or_len}
use Rattle.cp_tree.specs.Syntax.{Program}
use Rattle.cp_meaning.specs.Readings.{monitors_of}
use Rattle.cp_meaning.specs.State.{Discipline}
use Rattle.cp_meaning.specs.Steps.{opening}

-- the number of the monitor that a component is: its place among the monitors
abbrev pub monitor_of : Program → Discipline → (component : ℕ) → ℕ
monitor_of p g n = position_or_len (λ m. m == n) (monitors_of (opening p g))
