-- A machine of whose row nothing is known.
use Rattle.std.proofs.Common.{◌≡◌, ◌+◌, ◌<◌, ◌≤◌, ℕ, List, arith, length}
use Rattle.std.proofs.lemmas.List.{length-map}
use Rattle.cp_slots.specs.Tables.{Tables}
use Rattle.cp_machine.specs.declared.state.State.{State}
use Rattle.cp_machine.specs.Fits.{IsStateOf}
use Rattle.cp_machine.specs.Machine.{Machine, machine_of}
use Rattle.cp_states.specs.Numbers.{number_at}
use Rattle.cp_parts.specs.declared.placing.PlaceTable.{PlaceTable}
use Rattle.cp_parts.specs.declared.store.PartStore.{PartStore}
use Rattle.cp_parts.specs.Parts.{IsPartRow}
use Rattle.cp_parts.specs.Taken.{CanTake, CanTakeAnew, IsKnownOf}

-- a row that is known of a machine tells where its numbers are those of another row
pub known_row : (s : PartStore) (t : PlaceTable) (n : Machine) (row known : List ℕ) → IsPartRow s t n known → IsKnownOf s t n row known
known_row s t n row known is =
    record {
      long = omega (arith, is.long);
      statuses = λ q lt e. is.statuses q lt;
      parts = λ place lt e. is.parts place lt;
    }

few_statuses : (s : PartStore) → length s.statuses.ends.items ≤ 2000000000
few_statuses s = let count = s.statuses.hashed.count in let few = s.statuses.index.few in omega (arith, count, few, length-map s.statuses.index.links.items (λ l. l.hash))

few_parts : (s : PartStore) → length s.parts.ends.items ≤ 2000000000
few_parts s = let count = s.parts.hashed.count in let few = s.parts.index.few in omega (arith, count, few, length-map s.parts.index.links.items (λ l. l.hash))

-- where no number is that of a list, nothing is known
pub nothing_known : (r : Tables) (s : PartStore) (t : PlaceTable) (row known : List ℕ) (m n : Machine) → CanTakeAnew r s t row m → length known ≡ 97 → ((k : ℕ) → k < 97 → number_at known k ≡ 4294967295) → IsKnownOf s t n row known
nothing_known r s t row known m n can long none =
    record {
      long = omega (arith, long, width);
      statuses = λ q lt e. (let here = (can.row_is.statuses q lt).within in let last = none q (omega (arith, lt, width)) in absurd (omega (arith, here, last, e, few_statuses s)));
      parts = λ place lt e. (let here = (can.row_is.parts place lt).within in let last = none (t.processes + 1 + place) (omega (arith, lt, width)) in absurd (omega (arith, here, last, e, few_parts s)));
    }
  where
    width : t.processes + 1 + (t.processes + t.monitors) ≤ 97
    width = omega (arith, can.placed.processes, can.sound.few, t.few)

pub can_anew : (r : Tables) (s : PartStore) (t : PlaceTable) (row known : List ℕ) (m : Machine) (state : State) → IsStateOf r state → CanTakeAnew r s t row m → length known ≡ 97 → ((k : ℕ) → k < 97 → number_at known k ≡ 4294967295) → CanTake r s t row known m (machine_of state)
can_anew r s t row known m state own can long none =
    record {
      sound = can.sound;
      placed = can.placed;
      its = can.its;
      was = own.fits;
      row_is = can.row_is;
      known_is = nothing_known r s t row known m (machine_of state) can long none;
    }
