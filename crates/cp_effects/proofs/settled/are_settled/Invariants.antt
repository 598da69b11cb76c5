use Rattle.std.proofs.Common.{◌≡◌, ◌⊎◌, ◌<◌, ℕ, length}
use Rattle.cp_machine.specs.Machine.{Machine, machine_of}
use Rattle.cp_states.specs.Numbers.{number_at}
use Rattle.cp_effect_laws.specs.Parts.{IsSettled, status_at}
use Rattle.cp_parts.specs.declared.store.PartStore.{PartStore}
use Rattle.cp_parts.specs.Parts.{IsPartRow, IsStatusNumber}
use Rattle.cp_parts.specs.Placed.{places_of}
use Rattle.cp_effects.specs.Noting.{among}
use Rattle.cp_effects.proofs.settled.are_settled.Given as goal

abbrev pub invariant-loop-number : goal.invariant-loop-number
invariant-loop-number l =
    length l.state.processes.items ≡ l.table.processes → (s : PartStore) (m : Machine) → IsPartRow s l.table m l.before → ((q : ℕ) → q < l.table.processes → IsStatusNumber s (status_at (machine_of l.state) q) (number_at l.after q)) →
    (q : ℕ) → q < l.number → (status_at (machine_of l.state) q ≡ status_at m q) ⊎ IsSettled (places_of l.table) (among l.touched.places.items) l.pid q (status_at (machine_of l.state) q)
