-- Machines that differ in what they displayed before some moment alone.
use Rattle.std.specs.Prelude.{◌≡◌, List, ◌++◌}
use Rattle.cp_machine.specs.declared.shown.Shown.{Shown}
use Rattle.cp_machine.specs.Machine.{Machine}

-- Two machines that are the same but for what they displayed before some moment:
-- m displayed `before` and then the values `since`, and n, which is the same otherwise, displayed `other` and then the same values.
pub record AreAlike (before other : List Shown) (m n : Machine) : Type 0 where
  pub same : n ≡ record m { output = n.output }
  pub since : List Shown
  pub mine : m.output ≡ before ++ since
  pub theirs : n.output ≡ other ++ since
