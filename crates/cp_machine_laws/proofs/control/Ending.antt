-- The step of a process that has done all its items: it has ended.
use Rattle.cp_machine_laws.proofs.Words.{◌≡◌, ℕ, ◌<◌, not, List, [], ◌∷◌, ap, sym, refl, subst, length, ◌&&◌, slice_set, Program, component_at, Entry}
use Rattle.cp_machine_laws.proofs.Words.{Machine, Thread, thread_at, with_thread, take_top, step_at, takes, view_of, step_of, settled, Layouts, Ground, StackIs, Runs}
use Rattle.cp_machine_laws.proofs.Words.{Represents, ready, ended, Status, Item, end, Process, State, has_entry, waits_at}
use Rattle.cp_machine.specs.declared.process.Status.TheVariants as status
use Rattle.cp_meaning.specs.State as named
use Rattle.cp_machine_laws.proofs.control.Control.{StepIs}
use Rattle.cp_machine_laws.proofs.control.Moving.{inside_same, monitor_from, ready_awake, moved, runs_now}

module _ (g : Ground) (p : Program) (l : Layouts) (s : State) (m : Machine) (q : ℕ) (rep : Represents g p l s m) (there : q < length s.processes)
    (was : (named.process_at s.processes q).status ≡ ready) (was_slot : (thread_at m.threads q).status ≡ status.Ready) (empty : (thread_at m.threads q).stack ≡ []) where
  abbrev before : Process
  before = named.process_at s.processes q

  abbrev thread : Thread
  thread = thread_at m.threads q

  abbrev ended_process : Process
  ended_process = record { component = before.component; status = ended; calls = before.calls; items = [] }

  abbrev ended_thread : Thread
  ended_thread = record thread { status = status.Ended }

  runs : Runs g p l before thread
  runs = runs_now g p l s m q rep there was was_slot

  -- the own call of the process alone, and no item
  over : StackIs g p l thread.frame before.calls before.items []
  over = subst (λ (es : List Entry). StackIs g p l thread.frame before.calls before.items es) empty runs.stack

  pub end_step : (line : ℕ) → StepIs g p l q line (step_of p s q) (step_at g.tables m q)
  end_step line =
      subst (λ (is : List Item). StepIs g p l q line (settled p s q (takes (view_of p s q) q is)) (step_at g.tables m q)) (sym over.2)
      (subst (λ (es : List Entry). StepIs g p l q line (settled p s q (takes (view_of p s q) q (end ∷ []))) (take_top g.tables m q es)) (sym empty)
      (record {
        state =
            moved g p l s m q ended_process ended_thread s.components m.monitors s.pending m.pending rep
            (record {
              there = there;
              was_awake = ready_awake before.status was;
              awake = (λ e. cc, λ n e. cc);
              stands = record { component = (rep.processes q there).component; status = (over.0, over.1, refl, over.3, empty) };
              count = refl;
              same_status = λ n. refl;
              same_environment = λ n. refl;
              -- it is inside of what it was inside before
              monitors = λ n h. monitor_from s (record s { processes = slice_set s.processes q ended_process }) m (with_thread m q ended_thread) n (component_at g.tables n).kind refl refl
                  (λ j e. inside_same n q ended_process s.processes (sym (ap (λ (u : Status). has_entry n before.calls && not (waits_at n u)) was)) there) (rep.monitors n h);
              pending = rep.pending;
            });
        event = refl;
      }))
