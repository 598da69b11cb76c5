-- The meaning of a program and the slot machine of its tables go in step.
use Rattle.std.proofs.Common.{◌≡◌, ◌∙◌, ℕ, ◌<◌, true, false, Option, Some, None, ap, sym, refl, arith, length}
use Rattle.cp_machine_laws.proofs.Words.{Tree, Program, Tables, IsAccepted, slots, System, line_of, Discipline, State, is_member, Layouts, Stands, CanGo, CanEnter, GoInStep}
use Rattle.cp_machine_laws.proofs.Words.{ground_of, Simulates, Prepared, AllKnown, IsSound, step_of, line_at, by_step, by_admission, admitted, admitted_to}
use Rattle.cp_machine.specs.declared.event.Event.TheVariants.{Local}
use Rattle.cp_machine.specs.Machine.{Machine, is_ready, in_line}
use Rattle.cp_machine.specs.Machine as slot_machine
use Rattle.cp_machine.specs.Opening as machine
use Rattle.cp_machine.specs.Step.{step_at, is_local}
use Rattle.cp_machine.proofs.rooms.KeepingAct.{step_fits}
use Rattle.cp_machine.proofs.rooms.KernelFits.{admitted_fits}
use Rattle.cp_machine.proofs.lines.KernelLines.{admitted_lines}
use Rattle.cp_machine.proofs.LocalReady.{local_ready}
use Rattle.cp_machine.proofs.frames.ReachingKept.{step_reaches, admitted_reaches}
use Rattle.cp_machine.proofs.lines.StepLines.{step_lines}
use Rattle.cp_machine_laws.specs.Named as own
use Rattle.cp_machine_laws.specs.Named.{discipline_of, is_some, in_line_of}
use Rattle.cp_machine_laws.proofs.gates.Admitting.{admits}
use Rattle.cp_machine_laws.proofs.steps.Beginning.{opening_simulates, process_count, first_goes, same_count, looks_alike}
use Rattle.cp_machine_laws.proofs.control.Control.{StepIs}
use Rattle.cp_machine_laws.proofs.steps.Going.{Going, going}
use Rattle.cp_machine_laws.proofs.HoldsInReached.{reached_stands}
use Rattle.cp_machine_laws.proofs.reached.ReadyInReached.{ReadyInReached, ready_in_reached}
use Rattle.cp_machine_laws.proofs.steps.StepOfProcess.{process_so}

none_pending : (o : Option ℕ) → is_some o ≡ false → o ≡ None
none_pending None e = refl
none_pending (Some n) e = absurd (cc)

some_pending : (o : Option ℕ) → is_some o ≡ true → (n : ℕ) × (o ≡ Some n)
some_pending (Some n) e = (n, refl)
some_pending None e = absurd (cc)

module _ (t : Tree) (r : Tables) (l : Layouts) (g : Discipline) (ok : IsAccepted t) (stands : Stands (ground_of t r) t l) (sound : IsSound r) (asked : AllKnown t r l g) where
  abbrev p : Program
  p = t.program

  abbrev on_names : System State
  on_names = own.named t g

  abbrev on_slots : System Machine
  on_slots = slots r (discipline_of g)

  pub prepared : Prepared t r l
  prepared = record { stands = stands; sound = sound; program = asked.program }

  -- ---- a step

  module _ (s : State) (m : Machine) (q : ℕ) (sim : Simulates t r l g s m) (may : CanGo on_names s q) where
    pub there : q < length s.processes
    there = let a = same_count t r l g prepared s m sim in let b = may.below in omega (arith, a, b)

    many : q < length m.threads
    many = let a = sim.represents.process_count in let b = there in omega (arith, a, b)

    pub goes_now : Going (ground_of t r) p l s m q
    goes_now = going (ground_of t r) p l s m q sim.represents there may.ready

    pub still : s.pending ≡ None
    still = none_pending s.pending may.free

    ready_slot : is_ready m q ≡ true
    ready_slot = sym ((looks_alike t r l g prepared s m sim).ready q may.below) ∙ may.ready

    still_slot : slot_machine.is_pending m ≡ false
    still_slot = sym (looks_alike t r l g prepared s m sim).pending ∙ may.free

    stepped : StepIs (ground_of t r) p l q (line_at t s q) (step_of p s q) (step_at r m q)
    stepped =
        process_so t r l prepared s (reached_stands t ok g s sim.reached) m (ready_in_reached t r l g s m ok stands sound.typed sim) sim.fits sim.reach (asked.states s m sim) q goes_now

    step_simulates : Simulates t r l g (step_of p s q).state (step_at r m q).machine
    step_simulates =
        record {
          reached = by_step s q sim.reached still there goes_now.was;
          fits = step_fits r m q many sound sim.fits;
          lines = step_lines r m q sound sim.fits sim.lines ready_slot still_slot;
          reach = step_reaches r m q many sound sound.typed sim.fits sim.lines ready_slot sim.reach;
          represents = stepped.state;
        }

    still_ready : on_names.event s q ≡ Local → on_names.is_ready (on_names.step s q) q ≡ true
    still_ready e =
        (looks_alike t r l g prepared (step_of p s q).state (step_at r m q).machine step_simulates).ready q may.below
        ∙ local_ready r m (step_at r m q).machine q (step_at r m q).event many ready_slot refl (ap is_local (sym stepped.event ∙ e))

  -- ---- an admission

  module _ (s : State) (m : Machine) (q : ℕ) (sim : Simulates t r l g s m) (may : CanEnter on_names s q) where
    pending : (n : ℕ) × (s.pending ≡ Some n)
    pending = some_pending s.pending may.due

    lined : is_member q (line_of s pending.0) ≡ true
    lined = sym (ap (λ o. in_line_of o s q) pending.1) ∙ may.lined

    lined_slot : in_line m q ≡ true
    lined_slot = sym ((looks_alike t r l g prepared s m sim).lined q may.below) ∙ may.lined

    ready_to : ReadyInReached (ground_of t r) p s m
    ready_to = ready_in_reached t r l g s m ok stands sound.typed sim

    admit_simulates : Simulates t r l g (admitted s q) (machine.admit_waiting m q)
    admit_simulates =
        record {
          reached = by_admission s pending.0 q sim.reached pending.1 lined;
          fits = admitted_fits r m q sim.fits;
          lines = admitted_lines m q sim.lines lined_slot;
          reach = admitted_reaches r m q lined_slot sim.reach;
          represents = admits (ground_of t r) p l s m q sim.represents ready_to.own pending.0 pending.1 (ready_to.go_in pending.0 q pending.1 lined);
        }

    none_after : is_some (admitted s q).pending ≡ false
    none_after = ap (λ o. is_some (admitted_to o s q).pending) pending.1

  pub in_step : GoInStep on_names on_slots (Simulates t r l g)
  in_step =
      record {
        processes = process_count t r l g prepared;
        monitors = sym stands.monitor_count;
        start = opening_simulates t r l g prepared;
        begins = λ e. first_goes t r l g prepared;
        alike = looks_alike t r l g prepared;
        step = step_simulates;
        event = λ s m q sim may. (stepped s m q sim may).event;
        stays = still_ready;
        admit = admit_simulates;
        admitted = none_after;
      }
