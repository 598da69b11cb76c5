use Rattle.std.proofs.Common.{◌≡◌, ◌<◌}
use Rattle.cp_slots.specs.Tables.{Tables}
use Rattle.cp_machine.specs.Machine.{Machine}
use Rattle.cp_parts.specs.Taken.{AreLaid, CanTake}
use Rattle.cp_parts.proofs.store.PartStore.take_places.Given as goal

abbrev pub invariant-loop-place : goal.invariant-loop-place
invariant-loop-place l =
    (r : Tables) (m n : Machine) → CanTake r l.self l.table l.row l.known m n → l.initial.cells ≡ n.permanents → l.initial.bindings ≡ n.bindings → l.initial.phases ≡ n.phases →
    AreLaid l.table (λ x. x < l.place) m n.permanents n.bindings n.phases l.cells l.bindings l.phases
