use Rattle.std.proofs.Common.{◌≡◌, ◌<◌, ℕ, false}
use Rattle.cp_slots.specs.Tables.{Tables}
use Rattle.cp_machine.specs.Machine.{Machine, is_waiting}
use Rattle.cp_effect_laws.specs.Parts.{status_at}
use Rattle.cp_parts.specs.declared.store.PartStore.{PartStore}
use Rattle.cp_stretches.specs.Numbers.{CanRead}
use Rattle.cp_stretches.proofs.numbers.StatusNumbers.waits.Given as goal

abbrev pub invariant-loop-process : goal.invariant-loop-process
invariant-loop-process l = (r : Tables) (s : PartStore) (m : Machine) → CanRead r s l.table l.self m l.row → (q : ℕ) → q < l.process → is_waiting (status_at m q) ≡ false
