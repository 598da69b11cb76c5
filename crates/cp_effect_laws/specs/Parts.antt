-- Parts of a machine by places: each cell, component, monitor and process belongs to one. What a leg does, by the parts that it touches.
use Rattle.std.specs.Prelude.{◌≡◌, ◌⊎◌, ◌==◌, ◌&&◌, ◌||◌, ℕ, true, false, Bool, pos, slice_index_or}
use Rattle.cp_slots.specs.Tables.{Tables}
use Rattle.cp_machine.specs.declared.process.Status.{Status}
use Rattle.cp_machine.specs.declared.process.Status.TheVariants.{Unstarted, Ready, AtGate, Delayed, Ended}
use Rattle.cp_machine.specs.Bodies.{body_at}
use Rattle.cp_machine.specs.Machine.{Machine, is_unstarted, monitor_at, phase_at, thread_at}
use Rattle.cp_machine.specs.Statements.{Stepped}
use Rattle.cp_effect_laws.specs.Effects.{IsToStep, Leg, LegWithin}
use Rattle.cp_effect_laws.specs.Footprint.{Footprint}

-- the places
pub record Places : Type 0 where
  pub of_cell : ℕ → ℕ
  pub of_component : ℕ → ℕ
  pub of_monitor : ℕ → ℕ
  pub of_process : ℕ → ℕ

abbrev pub status_at : Machine → (pid : ℕ) → Status
status_at m pid = (thread_at m.threads pid).status

-- whether a process of this status waits in a place, or in some of these
abbrev pub waits_in : Places → (place : ℕ) → Status → Bool
waits_in l place (AtGate monitor) = l.of_monitor monitor == place
waits_in l place (Delayed cell) = l.of_cell cell == place
waits_in l place _ = false

abbrev pub waits_among : Places → (ℕ → Bool) → Status → Bool
waits_among l some (AtGate monitor) = some (l.of_monitor monitor)
waits_among l some (Delayed cell) = some (l.of_cell cell)
waits_among l some _ = false

-- unstarted, ended, or between
abbrev pub stage : Status → ℕ
stage Unstarted = 0
stage Ended = 1
stage _ = 2

-- Two machines have the same in a place: cells, what is bound, statuses of components, monitors, who waits there, and of a process all but whether
-- it is ready or waits.
pub record HaveSame (l : Places) (place : ℕ) (m n : Machine) : Type 0 where
  pub cells : (k : ℕ) → l.of_cell k ≡ place → slice_index_or n.permanents k (pos 0) ≡ slice_index_or m.permanents k (pos 0)
  pub bindings : (k : ℕ) → l.of_cell k ≡ place → slice_index_or n.bindings k 0 ≡ slice_index_or m.bindings k 0
  pub phases : (k : ℕ) → l.of_component k ≡ place → phase_at n k ≡ phase_at m k
  pub monitors : (k : ℕ) → l.of_monitor k ≡ place → monitor_at n k ≡ monitor_at m k
  pub waiting : (q : ℕ) → waits_in l place (status_at m q) ≡ true → status_at n q ≡ status_at m q
  pub others_wait : (q : ℕ) → waits_in l place (status_at n q) ≡ true → status_at n q ≡ status_at m q
  pub bodies : (q : ℕ) → l.of_process q ≡ place → body_at n q ≡ body_at m q
  pub stages : (q : ℕ) → l.of_process q ≡ place → stage (status_at n q) ≡ stage (status_at m q)

-- what a process may touch in a machine, whose steps touch no other places than these: of statuses its own, of those who wait there, and of those there that are not started
abbrev pub footprint_of : Places → (ℕ → Bool) → Machine → (pid : ℕ) → Footprint
footprint_of l some m pid =
    record {
      cells = λ k. some (l.of_cell k);
      components = λ k. some (l.of_component k);
      monitors = λ k. some (l.of_monitor k);
      statuses = λ q. (q == pid) || ((some (l.of_process q) && is_unstarted (status_at m q)) || waits_among l some (status_at m q));
      bodies = λ q. q == pid;
    }

-- a status that a process may have after a leg of process `pid` that had another one before
abbrev pub IsSettled : Places → (ℕ → Bool) → (pid q : ℕ) → Status → Type 0
IsSettled l some pid q Ready = Unit {0}
IsSettled l some pid q (AtGate monitor) = some (l.of_monitor monitor) ≡ true
IsSettled l some pid q (Delayed cell) = some (l.of_cell cell) ≡ true
IsSettled l some pid q Ended = q ≡ pid
IsSettled l some pid q Unstarted = ⊥

abbrev pub AreSettled : Places → (ℕ → Bool) → (pid : ℕ) → (before after : Machine) → Type 0
AreSettled l some pid before after = (q : ℕ) → (status_at after q ≡ status_at before q) ⊎ IsSettled l some pid q (status_at after q)

-- what the leg of machine n comes to, where that of m comes to `last`
pub record DoesSame (l : Places) (r : Tables) (some : ℕ → Bool) (m n : Machine) (pid k : ℕ) (last other : Stepped) : Type 0 where
  pub leg : Leg r n pid k other
  pub event : other.event ≡ last.event
  pub output : other.machine.output ≡ last.machine.output
  pub pending : other.machine.pending ≡ last.machine.pending
  -- each process has the status that it has there, where it had the same before; or the one that it had, where it stays there
  pub statuses : (q : ℕ) →
      ((status_at other.machine q ≡ status_at last.machine q) × (status_at n q ≡ status_at m q)) ⊎
      ((status_at other.machine q ≡ status_at n q) × (status_at last.machine q ≡ status_at m q))
  pub touched : (place : ℕ) → some place ≡ true → HaveSame l place last.machine other.machine
  pub rest : (place : ℕ) → some place ≡ false → HaveSame l place n other.machine

-- A leg that touches no other places than these does the same in each machine that has the same there; the rest is as it was.
abbrev pub EffectLaw : Type 0
EffectLaw =
    (l : Places) (r : Tables) (some : ℕ → Bool) (m n : Machine) (pid k : ℕ) (last : Stepped) → IsToStep r m pid → IsToStep r n pid →
    n.output ≡ m.output → n.discipline ≡ m.discipline → some (l.of_process pid) ≡ true →
    ((place : ℕ) → some place ≡ true → HaveSame l place m n) →
    LegWithin (footprint_of l some m pid) r m pid k last → AreSettled l some pid m last.machine →
    (other : Stepped) × DoesSame l r some m n pid k last other
