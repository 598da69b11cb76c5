-- The step with which the initial statement of a class or monitor ends: the caller goes on, and the component is initialised.
use Rattle.cp_machine_laws.proofs.Words.{◌≡◌, ◌∙◌, ℕ, ◌^◌, ◌<◌, ◌==◌, false, List, ◌∷◌, None, ap, sym, refl, subst, length, ◌&&◌, ◌||◌, slice_set, Program}
use Rattle.cp_machine_laws.proofs.Words.{ComponentKind, component_at, Frame, Entry, InitEnd, Phase, StackFits, ThreadFits, Machine, Thread, is_uninitialised, phase_at}
use Rattle.cp_machine_laws.proofs.Words.{thread_at, with_thread, take_top, step_at, view_of, step_of, settled, Layouts, RoutineIs, Ground, takes, finished}
use Rattle.cp_slots.specs.declared.tables.ComponentKind.TheVariants as kind
use Rattle.cp_machine.specs.declared.process.Status.TheVariants as status
use Rattle.cp_machine.specs.declared.state.Phase.TheVariants as phase
use Rattle.cp_machine.specs.Calls as calls
use Rattle.cp_meaning.specs.State as named
use Rattle.cp_meaning.specs.State.{ready, ComponentStatus, uninitialised, initialised, CallKind, Call, callers, Item, init_end, Process, State, has_entry, is_entry_kind}
use Rattle.cp_machine_laws.specs.Represents.{StackIs, PhaseIs, HasBegun, Runs, CallsHold, frames_of, own_memory, Represents}
use Rattle.cp_machine_laws.proofs.control.Control.{StepIs}
use Rattle.cp_machine_laws.proofs.calls.GivenUp.{closed_calls}
use Rattle.cp_machine_laws.proofs.control.Moving.{runs_now, goes_ready}
use Rattle.cp_machine_laws.proofs.starts.Phases.{phase_changed}

-- a process whose next item is the end of an initial statement
pub record EndsInitial (g : Ground) (p : Program) (l : Layouts) (s : State) (m : Machine) (q : ℕ) (caller : Frame) (n : ℕ) (es : List Entry) : Type 0 where
  pub rep : Represents g p l s m
  pub there : q < length s.processes
  pub was : (named.process_at s.processes q).status ≡ ready
  pub was_slot : (thread_at m.threads q).status ≡ status.Ready
  pub stack : (thread_at m.threads q).stack ≡ InitEnd caller n ∷ es
  pub fits : ThreadFits g.tables (thread_at m.threads q)
  pub few : length (thread_at m.threads q).cells < 2 ^ 64
  pub routines : (k : ℕ) → k < length g.tables.routines → RoutineIs g p l k
  -- the component is a class or a monitor, and its initial statement has begun
  pub component : n < length s.components
  pub phases : n < length m.phases
  pub class : (j : ℕ) → (component_at g.tables n).kind ≡ kind.Process j → ⊥
  pub begun : is_uninitialised (phase_at m n) ≡ false

module _ (g : Ground) (p : Program) (l : Layouts) (s : State) (m : Machine) (q : ℕ) (caller : Frame) (n : ℕ) (es : List Entry) (k : EndsInitial g p l s m q caller n es) where
  abbrev before : Process
  before = named.process_at s.processes q

  abbrev thread : Thread
  thread = thread_at m.threads q

  runs_before : Runs g p l before thread
  runs_before = runs_now g p l s m q k.rep k.there k.was k.was_slot

  stack_before : StackIs g p l thread.frame before.calls before.items (InitEnd caller n ∷ es)
  stack_before = subst (λ (fs : List Entry). StackIs g p l thread.frame before.calls before.items fs) k.stack runs_before.stack

  abbrev call : Call
  call = stack_before.0

  abbrev calls_around : List Call
  calls_around = stack_before.1

  abbrev items_after : List Item
  items_after = stack_before.2

  calls_were : before.calls ≡ call ∷ calls_around
  calls_were = stack_before.3

  items_were : before.items ≡ init_end n ∷ items_after
  items_were = stack_before.4

  fits_before : StackFits g.tables thread.frame (InitEnd caller n ∷ es)
  fits_before = subst (λ (fs : List Entry). StackFits g.tables thread.frame fs) k.stack k.fits.stack

  held_before : CallsHold g.tables l (own_memory thread) (call ∷ calls_around) (thread.frame ∷ frames_of caller es)
  held_before =
      subst (λ cs. CallsHold g.tables l (own_memory thread) cs (thread.frame ∷ frames_of caller es)) calls_were
      (subst (λ (fs : List Entry). CallsHold g.tables l (own_memory thread) before.calls (frames_of thread.frame fs)) k.stack runs_before.calls)

  abbrev thread_back : Thread
  thread_back = calls.give_up_frame g.tables thread caller None es

  abbrev process_back : Process
  process_back = record { component = before.component; status = ready; calls = calls_around; items = items_after }

  back : Represents g p l (record s { processes = slice_set s.processes q process_back }) (with_thread m q thread_back)
  back =
      goes_ready g p l s m q k.rep k.there k.was k.was_slot calls_around items_after thread_back refl
      (record { stack = stack_before.6; calls = closed_calls g p l k.routines thread caller es call calls_around fits_before.2 fits_before.0.cells fits_before.0.references k.fits.cells k.few held_before })
      (λ i j e. sym (ap (has_entry i) calls_were ∙ ap (λ (c : CallKind). (is_entry_kind c && call.component == i) || has_entry i calls_around) stack_before.5))

  -- the component has begun
  phase_agrees : (c : ComponentKind) → PhaseIs c initialised phase.Initialised
  phase_agrees (kind.Process j) = tt
  phase_agrees _ = tt

  has_begun : (c : ComponentKind) → ((j : ℕ) → c ≡ kind.Process j → ⊥) → (u : ComponentStatus) (f : Phase) → PhaseIs c u f → is_uninitialised f ≡ false → HasBegun (record s { processes = slice_set s.processes q process_back }) c u
  has_begun (kind.Process j) never u f h b = absurd (never j refl)
  has_begun (kind.Monitor j) never uninitialised phase.Uninitialised h b = absurd (cc)
  has_begun (kind.Monitor j) never uninitialised f h b = absurd h
  has_begun kind.Class never uninitialised phase.Uninitialised h b = absurd (cc)
  has_begun kind.Class never uninitialised f h b = absurd h
  has_begun _ never _ f h b = tt

  pub initial_end_step : (line : ℕ) → StepIs g p l q line (step_of p s q) (step_at g.tables m q)
  initial_end_step line =
      subst (λ (is : List Item). StepIs g p l q line (settled p s q (takes (view_of p s q) q is)) (step_at g.tables m q)) (sym items_were)
      (subst (λ (fs : List Entry). StepIs g p l q line (settled p s q (takes (view_of p s q) q (init_end n ∷ items_after))) (take_top g.tables m q fs)) (sym k.stack)
      (record {
        state = subst (λ cs. Represents g p l (record s { processes = slice_set s.processes q (record { component = before.component; status = ready; calls = callers cs; items = items_after }); components = (finished (view_of p s q) n items_after).components }) (calls.end_init g.tables m q caller n es).machine) (sym calls_were)
            (phase_changed g p l (record s { processes = slice_set s.processes q process_back }) (with_thread m q thread_back) back n k.component k.phases initialised phase.Initialised (phase_agrees (component_at g.tables n).kind)
            (λ b. has_begun (component_at g.tables n).kind k.class (named.component_at s.components n).status (phase_at m n) (k.rep.components n k.component).phase k.begun));
        event = refl;
      }))
