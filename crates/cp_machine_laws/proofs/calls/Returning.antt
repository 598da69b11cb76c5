-- The step with which a call returns: the caller goes on, with the result of a function; the return from an entry of a monitor leaves it.
use Rattle.std.proofs.Common.{◌≡◌, ◌≢◌, ◌∙◌, ℕ, ◌^◌, ◌<◌, ◌==◌, Bool, true, false, if◌then◌else◌, List, [], ◌∷◌, Option, Some, None, ap, sym, refl, subst, arith, length, length-set}
use Rattle.cp_machine_laws.proofs.Words.{◌&&◌, ◌||◌, slice_set, eqb-true, SystemKind, Program, ComponentKind, component_at, Frame, Entry, Return, StackFits, ThreadFits}
use Rattle.cp_machine_laws.proofs.Words.{take_top, step_at, Name, Range, Ty, ordinal, stays, with_items, with_move, View, view_of, step_of, settled, Layouts, here, RoutineIs}
use Rattle.cp_machine_laws.proofs.Words.{Ground, result_cell, ResultGoes, SameKind, KindsAgree, First, Any, takes, with_result, leaving_move, return_move}
use Rattle.cp_tree.specs.declared.declaration.SystemKind.TheVariants as system_kind
use Rattle.cp_slots.specs.declared.tables.ComponentKind.TheVariants as kind
use Rattle.cp_machine.specs.declared.discipline.Gates as slot_gates
use Rattle.cp_machine.specs.declared.process.Status.TheVariants as status
use Rattle.cp_machine.specs.Calls as calls
use Rattle.cp_machine.specs.Kernel as machine
use Rattle.cp_machine.specs.Machine.{Machine, Monitor, Thread, no_monitor, monitor_at, thread_at, with_thread}
use Rattle.cp_machine.specs.Statements as statements
use Rattle.cp_meaning.specs.State as named
use Rattle.cp_meaning.specs.State.{ready, at_gate, Component, CallKind, entry_routine, Call, current, callers, Item, return, Process, no_process, State, has_entry, is_entry_kind, is_inside}
use Rattle.cp_meaning.specs.Kernel as meaning
use Rattle.cp_meaning.specs.Kernel.{kernel_step, local_event, leave_event}
use Rattle.cp_machine_laws.specs.Represents.{StackIs, ProcessIs, Runs, ReturnIs, monitor_left, CallsHold, frames_of, own_memory, Represents}
use Rattle.cp_machine_laws.proofs.assignments.Assigning.{entries_kept, stack_kept, set_set}
use Rattle.cp_machine_laws.proofs.control.Control.{StepIs}
use Rattle.cp_machine_laws.proofs.gates.Gates as gates
use Rattle.cp_machine_laws.proofs.gates.Gates.{OwnNumbers, OthersOutside, HasReturned, none_left}
use Rattle.cp_machine_laws.proofs.calls.GivenUp.{calls_back, view_with, calls_are, components_same, calls_given_up}
use Rattle.cp_machine_laws.proofs.gates.LettingIn.{FirstWaits, lets_in}
use Rattle.cp_machine_laws.proofs.control.Moving.{set_here, set_there, runs_now, stands_ready, goes_ready}
use Rattle.cp_machine_laws.proofs.expressions.Members.{not_equal as differs}

-- ---- a monitor that is left, and then lets its line in

-- that nobody is inside is written twice
first_freed : (m : Machine) (j : ℕ) (a : Monitor) (line : List ℕ) → machine.first_in (record m { monitors = slice_set m.monitors j a }) j line ≡ machine.first_in m j line
first_freed m j a [] = ap (λ (ms : List Monitor). record m { monitors = ms }) (set_set m.monitors j a (record { holder = None; line = [] }))
first_freed m j a (q ∷ line) = ap (λ (ms : List Monitor). record (machine.goes_in m j q line) { monitors = ms }) (set_set m.monitors j a (record { holder = Some q; line = line }))

one_freed : (m : Machine) (j : ℕ) (a : Monitor) (line : List ℕ) → machine.one_in (record m { monitors = slice_set m.monitors j a }) j line ≡ machine.one_in m j line
one_freed m j a [] = ap (λ (ms : List Monitor). record m { monitors = ms }) (set_set m.monitors j a (record { holder = None; line = [] }))
one_freed m j a (q ∷ []) = ap (λ (ms : List Monitor). record (machine.goes_in m j q []) { monitors = ms }) (set_set m.monitors j a (record { holder = Some q; line = [] }))
one_freed m j a (q ∷ r ∷ line) = ap (λ (ms : List Monitor). record m { monitors = ms; pending = Some j }) (set_set m.monitors j a (record { holder = None; line = q ∷ r ∷ line }))

pub let_in_freed : (m : Machine) (j : ℕ) → j < length m.monitors → machine.let_in (record m { monitors = slice_set m.monitors j (record { holder = None; line = (monitor_at m j).line }) }) j ≡ machine.let_in m j
let_in_freed m j less =
    let a : Monitor = record { holder = None; line = (monitor_at m j).line } in
    ap (λ (w : Monitor). machine.let_in_by m.discipline.gates (record m { monitors = slice_set m.monitors j a }) j w.line) (set_here m.monitors j a no_monitor less) ∙ go a m.discipline.gates (monitor_at m j).line
  where
    go : (a : Monitor) (c : slot_gates.Gates) (line : List ℕ) → machine.let_in_by c (record m { monitors = slice_set m.monitors j a }) j line ≡ machine.let_in_by c m j line
    go a First line = first_freed m j a line
    go a Any line = one_freed m j a line

-- who is first in the line is not the process that goes on
pub first_waits_kept : (s : State) (q n : ℕ) (x : Process) (line : List ℕ) → (named.process_at s.processes q).status ≡ ready → FirstWaits s n line → FirstWaits (record s { processes = slice_set s.processes q x }) n line
first_waits_kept s q n x [] was w = tt
first_waits_kept s q n x (r ∷ line) was w =
    let other : r ≢ q = (λ e. absurd (let a : at_gate n ≡ ready = sym w.1 ∙ (ap (λ k. (named.process_at s.processes k).status) e ∙ was) in cc)) in
    let same : named.process_at (slice_set s.processes q x) r ≡ named.process_at s.processes r = set_there s.processes q r x no_process other in
    let count = length-set s.processes q x in
    (let a = w.0 in omega (arith, a, count), ap (λ (y : Process). y.status) same ∙ w.1, ap (λ (y : Process). has_entry n y.calls) same ∙ w.2)

-- ---- a process whose next item is the end of a call

pub record Returns (g : Ground) (p : Program) (l : Layouts) (s : State) (m : Machine) (q : ℕ) (caller : Frame) (slot monitor : Option ℕ) (es : List Entry) : Type 0 where
  pub rep : Represents g p l s m
  pub there : q < length s.processes
  pub was : (named.process_at s.processes q).status ≡ ready
  pub was_slot : (thread_at m.threads q).status ≡ status.Ready
  pub stack : (thread_at m.threads q).stack ≡ Return caller slot monitor ∷ es
  pub fits : ThreadFits g.tables (thread_at m.threads q)
  pub few : length (thread_at m.threads q).cells < 2 ^ 64
  pub routines : (n : ℕ) → n < length g.tables.routines → RoutineIs g p l n
  -- a function's result is an ordinal
  pub simple : (n : ℕ) (u : Ty) → (l.meanings n).result ≡ Some u → (r : Range) × (u ≡ ordinal r)

-- the monitor may be left: the process alone is inside, by this one entry call, and who is first in its line waits there
pub record MayLeave (g : Ground) (s : State) (m : Machine) (q n : ℕ) : Type 0 where
  pub own : OwnNumbers g
  pub known : (j : ℕ) → (component_at g.tables n).kind ≡ kind.Monitor j → j < length m.monitors
  pub exclusive : OthersOutside n q s.processes
  pub once : has_entry n (callers (named.process_at s.processes q).calls) ≡ false
  pub line : FirstWaits s n (meaning.line_of s n)

module _ (g : Ground) (p : Program) (l : Layouts) (s : State) (m : Machine) (q : ℕ) (caller : Frame) (slot monitor : Option ℕ) (es : List Entry) (k : Returns g p l s m q caller slot monitor es) where
  abbrev pub before : Process
  before = named.process_at s.processes q

  abbrev pub thread : Thread
  thread = thread_at m.threads q

  runs_before : Runs g p l before thread
  runs_before = runs_now g p l s m q k.rep k.there k.was k.was_slot

  pub stack_before : StackIs g p l thread.frame before.calls before.items (Return caller slot monitor ∷ es)
  stack_before = subst (λ (fs : List Entry). StackIs g p l thread.frame before.calls before.items fs) k.stack runs_before.stack

  abbrev pub call : Call
  call = stack_before.0

  abbrev pub calls_around : List Call
  calls_around = stack_before.1

  abbrev pub goes_to : Option Name
  goes_to = stack_before.2

  abbrev pub items_after : List Item
  items_after = stack_before.3

  pub calls_were : before.calls ≡ call ∷ calls_around
  calls_were = stack_before.4

  pub items_were : before.items ≡ return goes_to ∷ items_after
  items_were = stack_before.5

  pub return_is : ReturnIs g p l call thread.frame caller slot monitor goes_to
  return_is = stack_before.6

  stack_around : StackIs g p l caller calls_around items_after es
  stack_around = stack_before.7

  held_before : CallsHold g.tables l (own_memory thread) (call ∷ calls_around) (thread.frame ∷ frames_of caller es)
  held_before =
      subst (λ cs. CallsHold g.tables l (own_memory thread) cs (thread.frame ∷ frames_of caller es)) calls_were
      (subst (λ (fs : List Entry). CallsHold g.tables l (own_memory thread) before.calls (frames_of thread.frame fs)) k.stack runs_before.calls)

  fits_before : StackFits g.tables thread.frame (Return caller slot monitor ∷ es)
  fits_before = subst (λ (fs : List Entry). StackFits g.tables thread.frame fs) k.stack k.fits.stack

  -- the frame is given up, and this result goes to the caller
  pub held_after : (o : Option Name) → ResultGoes (here p l caller.routine) o (l.meanings thread.frame.routine).result →
      CallsHold g.tables l (own_memory (calls.give_up_frame g.tables thread caller (result_cell (here p l caller.routine) o) es)) (calls_back o call calls_around) (frames_of caller es)
  held_after o goes =
      calls_given_up g p l k.routines thread caller es call calls_around fits_before.3 fits_before.0.cells fits_before.0.references k.fits.cells k.few held_before o (λ u e. k.simple thread.frame.routine u e) goes

  stack_back : (o : Option Name) → StackIs g p l caller (calls_back o call calls_around) items_after es
  stack_back None = stack_around
  stack_back (Some x) = stack_kept g p l _ _ caller calls_around items_after es stack_around

  -- the process after it, and the thread
  abbrev pub process_back : Option Name → Process
  process_back o = record { component = before.component; status = ready; calls = calls_back o call calls_around; items = items_after }

  abbrev pub thread_back : Option ℕ → Thread
  thread_back r = calls.give_up_frame g.tables thread caller r es

  runs_back : (o : Option Name) → ResultGoes (here p l caller.routine) o (l.meanings thread.frame.routine).result → Runs g p l (process_back o) (thread_back (result_cell (here p l caller.routine) o))
  runs_back o goes = record { stack = stack_back o; calls = held_after o goes }

  pub stands_back : (o : Option Name) → ResultGoes (here p l caller.routine) o (l.meanings thread.frame.routine).result → ProcessIs g p l q (process_back o) (thread_back (result_cell (here p l caller.routine) o))
  stands_back o goes = stands_ready g p l s m q k.rep k.there k.was k.was_slot (calls_back o call calls_around) items_after (thread_back (result_cell (here p l caller.routine) o)) refl (runs_back o goes)

  entries_back : (o : Option Name) (n : ℕ) → has_entry n (calls_back o call calls_around) ≡ has_entry n calls_around
  entries_back None n = refl
  entries_back (Some x) n = entries_kept n _ _ calls_around

  entries_were : (n : ℕ) → has_entry n before.calls ≡ ((is_entry_kind call.kind && call.component == n) || has_entry n calls_around)
  entries_were n = ap (has_entry n) calls_were

  -- ---- a call that was no entry of a monitor

  not_inside : (n j : ℕ) (c : CallKind) → call.kind ≡ c → (d : ComponentKind) → (component_at g.tables call.component).kind ≡ d → monitor_left g.tables call c d ≡ None → (component_at g.tables n).kind ≡ kind.Monitor j → (is_entry_kind c && call.component == n) ≡ false
  not_inside n j entry_routine e d f none is = go (call.component == n) refl
    where
      go : (b : Bool) → call.component == n ≡ b → call.component == n ≡ false
      go true w =
          let monitor : d ≡ kind.Monitor j = sym f ∙ (ap (λ i. (component_at g.tables i).kind) (eqb-true call.component n w) ∙ is) in
          let some : Some j ≡ None = subst (λ c. monitor_left g.tables call entry_routine c ≡ None) monitor none in
          absurd (cc)
      go false w = w
  not_inside n j _ e d f none is = refl

  pub stays_back : (o : Option Name) → ResultGoes (here p l caller.routine) o (l.meanings thread.frame.routine).result → monitor_left g.tables call call.kind (component_at g.tables call.component).kind ≡ None →
      Represents g p l (record s { processes = slice_set s.processes q (process_back o) }) (with_thread m q (thread_back (result_cell (here p l caller.routine) o)))
  stays_back o goes none =
      goes_ready g p l s m q k.rep k.there k.was k.was_slot (calls_back o call calls_around) items_after (thread_back (result_cell (here p l caller.routine) o)) refl (runs_back o goes)
      (λ n j e. entries_back o n ∙ sym (entries_were n ∙ ap (λ b. b || has_entry n calls_around) (not_inside n j call.kind refl (component_at g.tables call.component).kind refl none e)))

  -- ---- an entry of a monitor

  module _ (o : Option Name) (goes : ResultGoes (here p l caller.routine) o (l.meanings thread.frame.routine).result) (n j : ℕ) (is : (component_at g.tables n).kind ≡ kind.Monitor j) (there_n : n < length s.components)
      (entry : call.kind ≡ entry_routine) (same : call.component ≡ n) (may : MayLeave g s m q n) where
    pub has_returned : HasReturned n (process_back o) before
    has_returned =
        record {
          out = entries_back o n ∙ (sym (ap (λ cs. has_entry n (callers cs)) calls_were) ∙ may.once);
          others = λ i d. entries_back o i ∙ sym (entries_were i ∙ ap (λ b. b || has_entry i calls_around) (ap (λ (c : CallKind). is_entry_kind c && call.component == i) entry ∙ differs call.component i (λ e. d (sym e ∙ same))));
        }

    -- nobody is inside, and the line is not let in yet
    abbrev pub state_out : State
    state_out = record s { processes = slice_set s.processes q (process_back o) }

    abbrev pub machine_out : Machine
    machine_out = with_thread m q (thread_back (result_cell (here p l caller.routine) o))

    abbrev pub machine_freed : Machine
    machine_freed = record machine_out { monitors = slice_set m.monitors j (record { holder = None; line = (monitor_at m j).line }) }

    pub left_free : Represents g p l state_out machine_freed
    left_free = gates.leaves g p l s m q (process_back o) (thread_back (result_cell (here p l caller.routine) o)) n j k.rep may.own is (may.known j is) there_n k.there k.was has_returned may.exclusive refl (stands_back o goes)

    pub outside : is_inside n (process_back o) ≡ false
    outside = ap (λ b. b && true) has_returned.out

    pub lets_line_in : Represents g p l (meaning.let_in s.discipline.gates state_out n) (machine.let_in machine_out j)
    lets_line_in =
        subst (λ w. Represents g p l (meaning.let_in s.discipline.gates state_out n) w) (let_in_freed machine_out j (may.known j is))
        (lets_in g p l state_out machine_freed n j left_free may.own is (let e = length-set m.monitors j (record { holder = None; line = (monitor_at m j).line }) in let w = may.known j is in omega (arith, e, w)) there_n
        (none_left n q (process_back o) s.processes k.there may.exclusive outside)
        (first_waits_kept s q n (process_back o) (meaning.line_of s n) k.was may.line))

  -- ---- the step

  abbrev done : View
  done = with_result (view_of p s q) goes_to

  done_calls : done.calls ≡ calls_back goes_to call calls_around
  done_calls = ap (λ cs. (with_result (view_with p cs s.components) goes_to).calls) calls_were ∙ calls_are p goes_to call calls_around s.components

  done_components : done.components ≡ s.components
  done_components = ap (λ cs. (with_result (view_with p cs s.components) goes_to).components) calls_were ∙ components_same p goes_to call calls_around s.components

  -- the state in which the call is given up, and what is kept of it
  abbrev state_back : List Call → List Component → State
  state_back cs ds = record s { processes = slice_set s.processes q (record { component = before.component; status = ready; calls = cs; items = items_after }); components = ds }

  as_done : (P : State → Type 0) → P (record s { processes = slice_set s.processes q (process_back goes_to) }) → P (state_back done.calls done.components)
  as_done P h = subst (λ cs. P (state_back cs done.components)) (sym done_calls) (subst (λ ds. P (state_back (calls_back goes_to call calls_around) ds)) (sym done_components) h)

  as_slot : (P : Option ℕ → Type 0) → P (result_cell (here p l caller.routine) goes_to) → P slot
  as_slot P h = subst P (sym return_is.0) h

  there_call : call.component < length g.tables.components
  there_call = subst (λ n. n < length g.tables.components) (sym held_before.0.component) held_before.0.there

  local_back : (line : ℕ) → monitor_left g.tables call call.kind (component_at g.tables call.component).kind ≡ None →
      StepIs g p l q line (record { state = state_back done.calls done.components; event = local_event }) (statements.local (calls.leave_frame g.tables m q caller slot es))
  local_back line none =
      record {
        state = as_done (λ w. Represents g p l w (with_thread m q (thread_back slot))) (as_slot (λ r. Represents g p l (record s { processes = slice_set s.processes q (process_back goes_to) }) (with_thread m q (thread_back r))) (stays_back goes_to return_is.1 none));
        event = refl;
      }

  leave_back : (line j : ℕ) → (component_at g.tables call.component).kind ≡ kind.Monitor j → call.kind ≡ entry_routine → MayLeave g s m q call.component →
      StepIs g p l q line (record { state = meaning.let_in s.discipline.gates (state_back done.calls done.components) call.component; event = leave_event }) (calls.return_to g.tables m q caller slot (Some j) es)
  leave_back line j is entry may =
      record {
        state = as_done (λ w. Represents g p l (meaning.let_in s.discipline.gates w call.component) (machine.let_in (with_thread m q (thread_back slot)) j))
            (as_slot (λ r. Represents g p l (meaning.let_in s.discipline.gates (record s { processes = slice_set s.processes q (process_back goes_to) }) call.component) (machine.let_in (with_thread m q (thread_back r)) j))
            (lets_line_in goes_to return_is.1 call.component j is (let e = k.rep.component_count in let w = there_call in omega (arith, e, w)) entry refl may));
        event = refl;
      }

  -- what the kernel does by the kind of the call and of the component
  by_kind : (line : ℕ) → (call.kind ≡ entry_routine → (j : ℕ) → (component_at g.tables call.component).kind ≡ kind.Monitor j → MayLeave g s m q call.component) →
      (c : CallKind) → call.kind ≡ c → (d : ComponentKind) → (component_at g.tables call.component).kind ≡ d → (e : SystemKind) → SameKind e d →
      StepIs g p l q line (kernel_step p s q (with_move (with_items done items_after) (if is_entry_kind c then leaving_move e call.component else stays)) (if is_entry_kind c then leaving_move e call.component else stays)) (calls.return_to g.tables m q caller slot (monitor_left g.tables call c d) es)
  by_kind line may entry_routine a (kind.Monitor j) b system_kind.Monitor w = leave_back line j b a (may a j b)
  by_kind line may entry_routine a (kind.Process j) b system_kind.Process w = local_back line (ap (λ c. monitor_left g.tables call c (component_at g.tables call.component).kind) a ∙ ap (monitor_left g.tables call entry_routine) b)
  by_kind line may entry_routine a kind.Class b system_kind.Class w = local_back line (ap (λ c. monitor_left g.tables call c (component_at g.tables call.component).kind) a ∙ ap (monitor_left g.tables call entry_routine) b)
  by_kind line may entry_routine a d b e w = absurd w
  by_kind line may _ a d b e w = local_back line (ap (λ c. monitor_left g.tables call c (component_at g.tables call.component).kind) a)

  -- the whole step
  pub return_step : (line : ℕ) → KindsAgree g.tables s → (call.kind ≡ entry_routine → (j : ℕ) → (component_at g.tables call.component).kind ≡ kind.Monitor j → MayLeave g s m q call.component) → StepIs g p l q line (step_of p s q) (step_at g.tables m q)
  return_step line kinds may =
      subst (λ (is : List Item). StepIs g p l q line (settled p s q (takes (view_of p s q) q is)) (step_at g.tables m q)) (sym items_were)
      (subst (λ (fs : List Entry). StepIs g p l q line (settled p s q (takes (view_of p s q) q (return goes_to ∷ items_after))) (take_top g.tables m q fs)) (sym k.stack)
      (subst (λ w. StepIs g p l q line (settled p s q (takes (view_of p s q) q (return goes_to ∷ items_after))) (calls.return_to g.tables m q caller slot w es)) (sym return_is.2)
      (subst (λ (c : Call). StepIs g p l q line (kernel_step p s q (with_move (with_items done items_after) (return_move s.components c)) (return_move s.components c)) (calls.return_to g.tables m q caller slot (monitor_left g.tables call call.kind (component_at g.tables call.component).kind) es)) (sym (ap current calls_were))
      (by_kind line may call.kind refl (component_at g.tables call.component).kind refl (named.component_at s.components call.component).kind (kinds call.component there_call)))))
