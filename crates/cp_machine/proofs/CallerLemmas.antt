-- What the crates above need of the machine.
use Rattle.std.proofs.Common.{◌≡◌, ◌∙◌, ℕ, ◌<◌, ◌≤◌, Bool, true, false, List, length, is_some as std_is_some, Option, None, Some, refl, sym, ap, arith, filter}
use Rattle.cp_machine.proofs.Words.{range_with_len, Tables, Discipline, State, Status, Ready, admit_at, still, unstarted_thread}
use Rattle.std.proofs.lemmas.List.{length-map, get_or-set_same}
use Rattle.cp_machine.specs.Machine.{thread_of, Thread, thread_at, no_thread, is_at_gate, is_ready_status, in_line_of, is_some}
use Rattle.cp_machine.specs.System.{Machine, machine_of, opening, is_ready, in_line, waiting_of, is_pending, admit_waiting, IsStateOf}
use Rattle.cp_machine.proofs.ListLemmas.{passes_within}
use Rattle.cp_machine.proofs.lines.KernelLines.{gate_within, pending_at_gate}
pub use Rattle.cp_machine.proofs.LocalReady.{local_ready}

-- a state has the program's processes
pub threads_count : (r : Tables) (s : State) → IsStateOf r s → length (machine_of s).threads ≡ length r.processes
threads_count r s own = own.fits.threads

-- who is ready is one of the threads
pub ready_thread : (m : Machine) (p : ℕ) → is_ready m p ≡ true → p < length m.threads
ready_thread m p h = passes_within (λ (t : Thread). is_ready_status t.status) m.threads p no_thread refl h

-- who is ready is one of the processes
pub ready_within : (s : State) (p : ℕ) → is_ready (machine_of s) p ≡ true → p < length s.processes.items
ready_within s p h = let lt = ready_thread (machine_of s) p h in omega (arith, lt, length-map s.processes.items thread_of)

pub in_line_within : (pending : Option ℕ) (ts : List Thread) (p : ℕ) → in_line_of pending (thread_at ts p).status ≡ true → p < length ts
in_line_within None ts p h = absurd (cc)
in_line_within (Some monitor) ts p h = gate_within monitor ts p h

-- who is in the line is one of the processes
pub line_within : (s : State) (p : ℕ) → in_line (machine_of s) p ≡ true → p < length s.processes.items
line_within s p h = let lt = in_line_within (machine_of s).pending (machine_of s).threads p h in omega (arith, lt, length-map s.processes.items thread_of)

-- who waits at the gate of the pending monitor is in the line
pub line_pending : (m : Machine) (monitor : ℕ) → m.pending ≡ Some monitor → waiting_of m monitor ≡ filter (in_line m) (range_with_len 0 (length m.threads))
line_pending m monitor e = ap (λ o. filter (λ pid. in_line_of o (thread_at m.threads pid).status) (range_with_len 0 (length m.threads))) (sym e)

-- after an admission its process is ready, and nothing is pending
admitted_at_ready : (pending : Option ℕ) (m : Machine) (p : ℕ) → p < length m.threads → in_line_of pending (thread_at m.threads p).status ≡ true → is_ready (admit_at pending m p) p ≡ true
admitted_at_ready None m p lt h = absurd (cc)
admitted_at_ready (Some monitor) m p lt h = ap (λ t. is_ready_status t.status) (get_or-set_same m.threads p (record (thread_at m.threads p) { status = Ready }) no_thread lt)

admitted_at_free : (pending : Option ℕ) (m : Machine) (p : ℕ) (status : Status) → in_line_of pending status ≡ true → is_pending (admit_at pending m p) ≡ false
admitted_at_free None m p status h = absurd (cc)
admitted_at_free (Some monitor) m p status h = refl

pub admitted_ready : (m n : Machine) (p : ℕ) → in_line m p ≡ true → n ≡ admit_waiting m p → is_ready n p ≡ true
admitted_ready m n p h e = ap (λ x. is_ready x p) e ∙ admitted_at_ready m.pending m p (in_line_within m.pending m.threads p h) h

pub admitted_free : (m n : Machine) (p : ℕ) → in_line m p ≡ true → n ≡ admit_waiting m p → is_pending n ≡ false
admitted_free m n p h e = ap is_pending e ∙ admitted_at_free m.pending m p (thread_at m.threads p).status h

-- in the opening state process 0 is ready
pub opening_ready : (r : Tables) (discipline : Discipline) (m : Machine) → 1 ≤ length r.processes → m ≡ opening r discipline → is_ready m 0 ≡ true
opening_ready r discipline m some e =
    let n : 0 < length (still r discipline).threads = omega (arith, some, length-map r.processes (unstarted_thread r)) in
    ap (λ x. is_ready x 0) e ∙ ap (λ t. is_ready_status t.status) (get_or-set_same (still r discipline).threads 0 (record (thread_at (still r discipline).threads 0) { status = Ready }) no_thread n)

-- whether a monitor is pending, by the answer of a reading
pending_as : (o : Option ℕ) (b : Bool) → std_is_some o ≡ b → is_some o ≡ b
pending_as None b h = h
pending_as (Some monitor) b h = h

pub pending_is : (m : Machine) (o : Option ℕ) (b : Bool) → o ≡ m.pending → std_is_some o ≡ b → is_pending m ≡ b
pending_is m o b e h = ap is_some (sym e) ∙ pending_as o b h

-- where a monitor is pending, a process is at its gate
pub pending_waits : (r : Tables) (s : State) (monitor : ℕ) → IsStateOf r s → (machine_of s).pending ≡ Some monitor → (p : ℕ) × (p < length (machine_of s).threads) × (is_at_gate monitor (thread_at (machine_of s).threads p).status ≡ true)
pending_waits r s monitor own e = pending_at_gate (machine_of s) monitor own.lines e
