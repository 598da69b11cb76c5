-- Parts and rows that are put together.
use Rattle.std.proofs.Common.{◌≡◌, ◌∙◌, ◌∷◌, ◌++◌, ◌+◌, ◌-◌, ◌<◌, ◌≤◌, ℕ, List, [], Result, Ok, Err, ap, arith, length, map, subst, sym}
use Rattle.std.specs.Prelude.{slice_index_or, IfOk}
use Rattle.std.proofs.lemmas.List.{get_or-map, length-append}
use Rattle.cp_machine.specs.declared.process.ProcessState.{ProcessState}
use Rattle.cp_machine.specs.declared.state.Gate.{Gate}
use Rattle.cp_machine.specs.Machine.{Machine, Monitor, Thread, monitor_at, monitor_of, no_monitor, no_thread, thread_at, thread_of}
use Rattle.cp_states.specs.Numbers.{number_at}
use Rattle.cp_effect_laws.specs.Parts.{status_at}
use Rattle.cp_slots.specs.Tables.{Tables}
use Rattle.cp_machine.specs.Fits.{MachineFits}
use Rattle.cp_parts.specs.declared.grounds.Ground.{Ground}
use Rattle.cp_parts.specs.declared.placing.PlaceTable.{PlaceTable}
use Rattle.cp_parts.specs.declared.store.PartStore.{PartStore}
use Rattle.cp_parts.specs.Coded.{option_code}
use Rattle.cp_parts.specs.Parts.{HasParts, HasStatuses, IsGround, IsMonitorPart, IsPartNumber, IsPartRow, IsProcessPart, IsStatusNumber, KeepStore, ground_in, part_at}
use Rattle.cp_parts.specs.Placed.{IsPlaced, place_count}
use Rattle.cp_parts.proofs.Keeping.{new_number, old_number, status_on}

-- what holds of a value by two facts, and by three
pub if_ok_both : {A E : Type 0} (r : Result A E) (P Q S : A → Type 0) → ((a : A) → P a → Q a → S a) → IfOk r P → IfOk r Q → IfOk r S
if_ok_both (Ok a) P Q S h p q = h a p q
if_ok_both (Err e) P Q S h p q = tt

pub if_ok_three : {A E : Type 0} (r : Result A E) (P Q R S : A → Type 0) → ((a : A) → P a → Q a → R a → S a) → IfOk r P → IfOk r Q → IfOk r R → IfOk r S
if_ok_three (Ok a) P Q R S h p q x = h a p q x
if_ok_three (Err e) P Q R S h p q x = tt

-- a process or a monitor of a state, as a machine has it
pub thread_there : (ps : List ProcessState) (n : ℕ) (p : ProcessState) → n < length ps → p ≡ slice_index_or ps n p → thread_at (map thread_of ps) n ≡ thread_of p
thread_there ps n p lt read = get_or-map thread_of ps n p no_thread lt ∙ ap thread_of (sym read)

pub monitor_there : (gs : List Gate) (n : ℕ) (g : Gate) → n < length gs → g ≡ slice_index_or gs n g → slice_index_or (map monitor_of gs) n no_monitor ≡ monitor_of g
monitor_there gs n g lt read = get_or-map monitor_of gs n g no_monitor lt ∙ ap monitor_of (sym read)

-- ---- the part of a process, and that of a monitor

module _ (s u : PartStore) (t : PlaceTable) (m : Machine) (place n : ℕ) (g : Ground) (within : n < length u.parts.ends.items) (ground_is : ground_in (part_at u n) ≡ g)
    (same : u.grounds ≡ s.grounds) (ground : IsGround s.grounds t m place g) where
  ground_there : IsGround u.grounds t m place (ground_in (part_at u n))
  ground_there = subst (λ x. IsGround x t m place (ground_in (part_at u n))) (sym same) (subst (IsGround s.grounds t m place) (sym ground_is) ground)

  pub process_part : (x : Thread) → place < t.processes → thread_at m.threads place ≡ x → IsProcessPart u x (part_at u n) → IsPartNumber u t m place n
  process_part x lt is part =
      record {
        within = within;
        is = record { ground = ground_there; process = λ _. subst (λ z. IsProcessPart u z (part_at u n)) (sym is) part; monitor = λ le. absurd (omega (arith, lt, le)) };
      }

  pub monitor_part : (x : Monitor) → t.processes ≤ place → monitor_at m (place - t.processes) ≡ x → IsMonitorPart u x (part_at u n) → IsPartNumber u t m place n
  monitor_part x le is part =
      record {
        within = within;
        is = record { ground = ground_there; process = λ lt. absurd (omega (arith, lt, le)); monitor = λ _. subst (λ z. IsMonitorPart u z (part_at u n)) (sym is) part };
      }

-- ---- a row

-- numbers of statuses, the pending monitor after them, and then numbers of parts
pub row_made : (r : Tables) (s u : PartStore) (t : PlaceTable) (m : Machine) (first middle row : List ℕ) → IsPlaced r t → MachineFits r m → KeepStore s u →
    HasStatuses s m first (length m.threads) → middle ≡ first ++ option_code m.pending ∷ [] → HasParts u t m middle row (place_count t) → IsPartRow u t m row
row_made r s u t m first middle row placed fits kept statuses is parts =
    record {
      long = parts.long;
      statuses = λ q lt.
          let own : q < length m.threads = omega (arith, lt, placed.processes, fits.threads) in
          subst (IsStatusNumber u (status_at m q)) (sym (parts.kept q (omega (arith, own, long, statuses.long)) ∙ ap (λ l. number_at l q) is ∙ old_number first (option_code m.pending) q (omega (arith, own, statuses.long))))
          (status_on s u m q (number_at first q) kept (statuses.each q own));
      pending = parts.kept t.processes (omega (arith, count, long)) ∙ ap (λ l. number_at l t.processes) is ∙ new_number first (option_code m.pending) t.processes count;
      parts = parts.each;
    }
  where
    count : t.processes ≡ length first
    count = placed.processes ∙ sym fits.threads ∙ sym statuses.long

    long : length middle ≡ length first + 1
    long = ap length is ∙ length-append first (option_code m.pending ∷ [])
