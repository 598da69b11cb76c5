-- The statuses of a row by their numbers.
use Rattle.std.specs.Prelude.{◌≡◌, ◌==◌, ◌<◌, ◌≤◌, ◌||◌, ℕ, Bool, List, length}
use Rattle.cp_slots.specs.Tables.{Tables}
use Rattle.cp_machine.specs.declared.process.Status.TheVariants.{AtGate, Ended, Ready, Unstarted}
use Rattle.cp_machine.specs.Fits.{MachineFits}
use Rattle.cp_machine.specs.Machine.{Machine}
use Rattle.cp_states.specs.Numbers.{number_at}
use Rattle.cp_parts.specs.declared.placing.PlaceTable.{PlaceTable}
use Rattle.cp_parts.specs.declared.store.PartStore.{PartStore}
use Rattle.cp_parts.specs.Parts.{IsPartRow, IsStatusNumber}
use Rattle.cp_parts.specs.Placed.{IsPlaced}
use Rattle.cp_stretches.specs.declared.numbers.StatusNumbers.{StatusNumbers}

-- a store has these numbers of statuses, with one for the gate of each monitor
pub record AreStatusNumbers (s : PartStore) (monitors : ℕ) (n : StatusNumbers) : Type 0 where
  pub ready : IsStatusNumber s Ready n.ready
  pub unstarted : IsStatusNumber s Unstarted n.unstarted
  pub ended : IsStatusNumber s Ended n.ended
  pub gates : length n.at_gate.items ≡ monitors
  pub at_gate : (monitor : ℕ) → monitor < monitors → IsStatusNumber s (AtGate monitor) (number_at n.at_gate.items monitor)

-- whether it is the number of a status in which a process neither is at a gate nor delayed
abbrev pub rests_at : StatusNumbers → ℕ → Bool
rests_at n number = ((number == n.ready) || (number == n.unstarted)) || (number == n.ended)

-- a row of a machine of the program, with the numbers of statuses in its store
pub record CanRead (r : Tables) (s : PartStore) (t : PlaceTable) (n : StatusNumbers) (m : Machine) (row : List ℕ) : Type 0 where
  pub placed : IsPlaced r t
  pub few : length r.processes ≤ 16
  pub numbers : AreStatusNumbers s r.monitors n
  pub fits : MachineFits r m
  pub stands : IsPartRow s t m row
