-- A process waits on names where it waits on slots.
use Rattle.std.proofs.Common.{◌≡◌, ◌∙◌, ◌⊎◌, ⊎_elim, ℕ, zero, suc, ◌<◌, ◌≤◌, List, [], ◌∷◌, length, refl, sym, ap, arith}
use Rattle.cp_endless_laws.proofs.Words.{cases_order, Program, Layouts, Ground, waits_on_names, waits_on_slots}
use Rattle.cp_machine.specs.Machine.{Machine, Thread, thread_at, no_thread, is_waiting}
use Rattle.cp_meaning.specs.State.{State, Process, unstarted, ready, at_gate, delayed, ended, no_process}
use Rattle.cp_machine_laws.specs.Represents.{StatusIs, Represents}
use Rattle.cp_machine.specs.declared.process.Status as slot_status
use Rattle.cp_machine.specs.declared.process.Status.TheVariants as status
use Rattle.cp_meaning.specs.State as named
use Rattle.cp_meaning.specs.Readings as named_readings

-- a process waits on names where it waits on slots
status_waits : (g : Ground) (p : Program) (l : Layouts) (q : ℕ) (x : Process) (t : Thread) (s : named.Status) (u : slot_status.Status) → StatusIs g p l q x t s u → named_readings.is_waiting s ≡ is_waiting u
status_waits g p l q x t unstarted status.Unstarted h = refl
status_waits g p l q x t ready status.Ready h = refl
status_waits g p l q x t (at_gate m) (status.AtGate n) h = refl
status_waits g p l q x t (delayed m) (status.Delayed cell) h = refl
status_waits g p l q x t ended status.Ended h = refl
status_waits g p l q x t s u h = absurd h

pub no_process_there : (ps : List Process) (q : ℕ) → length ps ≤ q → named.process_at ps q ≡ no_process
no_process_there [] q le = refl
no_process_there (p ∷ ps) zero le = absurd (omega (arith, le))
no_process_there (p ∷ ps) (suc q) le = no_process_there ps q (omega (arith, le))

pub no_thread_there : (ts : List Thread) (q : ℕ) → length ts ≤ q → thread_at ts q ≡ no_thread
no_thread_there [] q le = refl
no_thread_there (t ∷ ts) zero le = absurd (omega (arith, le))
no_thread_there (t ∷ ts) (suc q) le = no_thread_there ts q (omega (arith, le))

pub waits_so : (g : Ground) (p : Program) (l : Layouts) (s : State) (m : Machine) (q : ℕ) → Represents g p l s m → waits_on_names s q ≡ waits_on_slots m q
waits_so g p l s m q h =
    ⊎_elim
    (λ (same : q ≡ length s.processes). beyond (omega (arith, same)))
    (λ (apart : (q < length s.processes) ⊎ (length s.processes < q)).
    ⊎_elim
    (λ (less : q < length s.processes). status_waits g p l q (named.process_at s.processes q) (thread_at m.threads q) (named.process_at s.processes q).status (thread_at m.threads q).status (h.processes q less).status)
    (λ (more : length s.processes < q). beyond (omega (arith, more)))
    apart)
    (cases_order q (length s.processes))
  where
    beyond : length s.processes ≤ q → waits_on_names s q ≡ waits_on_slots m q
    beyond le =
        let count = h.process_count in
        ap (λ (x : Process). named_readings.is_waiting x.status) (no_process_there s.processes q le) ∙ sym (ap (λ (t : Thread). is_waiting t.status) (no_thread_there m.threads q (omega (arith, count, le))))
