-- The machines of a program's states.
use Rattle.cp_key.proofs.Words.{◌≡◌, ◌∙◌, ℕ, ◌<◌, ◌≤◌, length, sym, arith, length-map, ProcessState}
use Rattle.std.specs.Prelude.{slice_index_or, vec_capacity, vec_len}
use Rattle.std.specs.declared.vec.Vec.{Vec}
use Rattle.std.specs.declared.alloc.Global.{Global}
use Rattle.std.proofs.lemmas.Map.Steps.{length-le_from_distinct_below}
use Rattle.cp_slots.specs.Tables.{Tables}
use Rattle.cp_machine.specs.declared.state.State.{State}
use Rattle.cp_machine.specs.Fits.{IsStateOf, LinesFit}
use Rattle.cp_machine.specs.Machine.{Machine, machine_of, monitor_at, monitor_of, no_thread, thread_of}
use Rattle.cp_machine.proofs.lines.KernelLines.{gate_within}
use Rattle.cp_machine.proofs.CopyLemmas.{thread_within}
use Rattle.cp_key.specs.Room.{HasMachineRoom, HasThreadRoom, IsMachineOf}

-- each state of the program is a machine of the program's
pub machine_own : (r : Tables) (s : State) → IsStateOf r s → IsMachineOf r (machine_of s)
machine_own r s own =
    let len : vec_len s.output ≡ length s.output.items = s.output.ok.0 in
    record { fits = own.fits; lines = own.lines; reach = own.reach; shown = omega (arith, own.reserved.shown, len) }

-- no line is longer than the list of processes
pub line_within : (m : Machine) (g : ℕ) → LinesFit m → length (monitor_at m g).line ≤ length m.threads
line_within m g h = length-le_from_distinct_below (monitor_at m g).line (length m.threads) (h.once g) (λ q e. gate_within g m.threads q (h.gate g q ∙ e))

kept : {X : Type 0} (v : Vec X Global) (n : ℕ) → n ≡ length v.items → n ≤ vec_capacity v
kept v n e =
    let len : vec_len v ≡ length v.items = v.ok.0 in
    let few : vec_len v ≤ vec_capacity v = v.ok.1 in
    omega (arith, e, len, few)

-- a state of the program has room for each machine of the program's
pub machine_room : (r : Tables) (s : State) (m : Machine) → IsStateOf r s → IsMachineOf r m → HasMachineRoom s m
machine_room r s m own its =
    record {
      permanents = kept s.permanents _ (its.fits.permanents ∙ sym own.fits.permanents);
      bindings = kept s.bindings _ (its.fits.bindings ∙ sym own.fits.bindings);
      phases = kept s.phases _ (its.fits.phases ∙ sym own.fits.phases);
      threads = record { count = count; each = room };
      monitors = its.fits.monitors ∙ sym own.fits.monitors ∙ length-map s.guards.items monitor_of;
      short = λ g. omega (arith, line_within m g its.lines, count, s.few);
      output = omega (arith, its.shown, own.reserved.output);
    }
  where
    count : length m.threads ≡ length s.processes.items
    count = its.fits.threads ∙ sym own.fits.threads ∙ length-map s.processes.items thread_of

    room : (q : ℕ) (d : ProcessState) → q < length s.processes.items → HasThreadRoom (slice_index_or s.processes.items q d) (slice_index_or m.threads q no_thread)
    room q d lt =
        let few = thread_within r (slice_index_or m.threads q no_thread) own.sound (its.fits.each q (omega (arith, count, lt))) in
        record {
          stack = omega (arith, few.0, own.reserved.stacks q d lt);
          cells = omega (arith, few.1, own.reserved.cells q d lt);
          references = omega (arith, few.2, own.reserved.references q d lt);
        }
