-- The whole step of `continue`, in an entry procedure of a monitor, under each discipline.
use Rattle.std.proofs.Common.{◌≡◌, ◌∙◌, ℕ, ◌<◌, List, ◌∷◌, ◌++◌, Option, Some, None, ap, sym, refl, subst, length}
use Rattle.cp_machine_laws.proofs.Words.{Result, Ok, Err, slice_index, slice_set, Program, Expression, Expressions, more_expressions, Designator, invoke, Action, component_at}
use Rattle.cp_machine_laws.proofs.Words.{item_at, Address, Permanent, Entry, Return, Machine, Thread, thread_at, with_stack, memory_at, rest_of, act, step_at, Outcome, ◌>>=◌, queue_type, Value}
use Rattle.cp_machine_laws.proofs.Words.{queue_value, waiting_in, Meaning, standard_meaning, continue_procedure, find, View, Target, this_component, content_of, value_held}
use Rattle.cp_machine_laws.proofs.Words.{Stepped, Doing, target_value, name_of, view_of, step_of, settled, Layouts, here, Ground, QueueItem, InvokedBy, TargetAgrees}
use Rattle.cp_machine_laws.proofs.Words.{plain_address, further, PlaceAt, monitor_left, frames_of, Represents, after_return, continued_from, in_place_of, invoked}
use Rattle.cp_slots.specs.declared.item.Action.TheVariants as action
use Rattle.cp_slots.specs.declared.place.Place as code_place
use Rattle.cp_slots.specs.declared.tables.ComponentKind.TheVariants as kind
use Rattle.cp_slots.specs.Code as code
use Rattle.cp_store.specs.declared.error.ErrorName as slots
use Rattle.cp_machine.specs.declared.discipline.Discipline as slot_discipline
use Rattle.cp_machine.specs.declared.discipline.Signals as slot_signals
use Rattle.cp_machine.specs.declared.event.Event.TheVariants as event
use Rattle.cp_machine.specs.declared.event.Kernel.TheVariants as event_call
use Rattle.cp_machine.specs.Calls as slot_calls
use Rattle.cp_machine.specs.Kernel as machine
use Rattle.cp_machine.specs.Statements as statements
use Rattle.cp_meaning.specs.State as named
use Rattle.cp_meaning.specs.State.{Holder, in_component, Place, ready, return_signals, continue_signals, wait_signals, CallKind, entry_routine, Call, current, callers, Item, statement_item, Process, State}
use Rattle.cp_meaning.specs.Kernel as meaning
use Rattle.cp_machine_laws.proofs.assignments.Assigning.{set_set}
use Rattle.cp_machine_laws.proofs.queues.Continuing as continuing
use Rattle.cp_machine_laws.proofs.queues.Continuing.{MayContinue, EndsWith, ends, no_return, returns, process_ends, state_ends, here_process, call_is, machine_ends, state_left, machine_left, old_queue, continues_on}
use Rattle.cp_machine_laws.specs.Named.{signals_of}
use Rattle.cp_machine_laws.proofs.control.Control.{Taken, Goes, StepIs, goes, takes_item, acts, fails, scope_is, stack_after}
use Rattle.cp_machine_laws.proofs.control.Lists.{frames_rest}
use Rattle.cp_machine_laws.proofs.queues.Delaying.{QueueNamed, place_with, queue_is, frame_kind}
use Rattle.cp_machine_laws.proofs.queues.GoingOn.{MaySignal, notifies_by, yields_by}
use Rattle.cp_machine_laws.proofs.expressions.Parts.{part_stands}
use Rattle.cp_machine_laws.proofs.calls.Returning.{Returns, process_back, calls_were, items_were, return_is}
use Rattle.cp_machine_laws.proofs.expressions.Views.{views_agree}

is_continue : (a : Action) (p : code.Place) → code.action_seen a ≡ code.continue_at p → (x : code_place.Place) × (a ≡ action.Continue x) × (code.place_seen x ≡ p)
is_continue (action.Continue x) p e = (x, refl, cc)
is_continue a p e = absurd (cc)

-- what follows the item, and its stack, end as the item and its stack do
module _ (g : Ground) (p : Program) (l : Layouts) (s : State) (m : Machine) (q at token : ℕ) (d : Designator) (e : Expression) (more : Expressions) (mid : Option ℕ) (es : List Entry) (xs ys : List Item) (k : Taken g p l s m q at (statement_item (invoke token d (more_expressions e more))) mid es xs ys)
    (j : ℕ) (may : MayContinue g p l s m q (this_component (view_of p s q)) j es)
    (c : Call) (cs : List Call) (calls_are : (named.process_at s.processes q).calls ≡ c ∷ cs) (entry : c.kind ≡ entry_routine) where
  abbrev item_here : Item
  item_here = statement_item (invoke token d (more_expressions e more))

  abbrev line : ℕ
  line = slice_index g.lines token

  abbrev view : View
  view = view_of p s q

  abbrev n : ℕ
  n = this_component view

  abbrev before : Process
  before = named.process_at s.processes q

  abbrev thread : Thread
  thread = thread_at m.threads q

  pub component_is : c.component ≡ n
  component_is = sym (ap (λ (a : List Call). (current a).component) calls_are)

  abbrev going : Goes g p l s m q es
  going = goes g p l s m q at item_here mid es xs ys k

  abbrev pub Ends : EndsWith g p l thread.frame (c ∷ cs) ys es
  Ends = ends g p l s m q es (goes g p l s m q at item_here mid es xs ys k) n j may c cs calls_are entry component_is ys k.below

  -- the same of the monitor for a caller that goes on
  may_signal : MaySignal g l s m q n j
  may_signal =
      record {
        delay = record { apart = may.apart; parts_apart = may.parts_apart; own = may.leave.own; is = may.is; known = may.leave.known j may.is; exclusive = may.leave.exclusive; line = may.leave.line };
        monitor = may.monitor;
        called = may.called;
      }

  -- the state in which the call is given up is that of the meaning
  abbrev process_after : Process
  process_after = record { component = before.component; status = ready; calls = callers before.calls; items = after_return (xs ++ ys) }

  abbrev Returning : Returns g p l (state_ends g p l s m q es going n j may c cs calls_are entry component_is ys k.below) (machine_ends g p l s m q es going n j may c cs calls_are entry component_is ys k.below) q Ends.caller Ends.slot Ends.monitor Ends.entries
  Returning = returns g p l s m q es going n j may c cs calls_are entry component_is ys k.below

  abbrev with_parts : ℕ → List Call → List Item → Process
  with_parts component calls items = record { component = component; status = ready; calls = calls; items = items }

  abbrev ended : Process
  ended = named.process_at (state_ends g p l s m q es going n j may c cs calls_are entry component_is ys k.below).processes q

  ended_is : ended ≡ process_ends g p l s m q es going n j may c cs calls_are entry component_is ys k.below
  ended_is = here_process g p l s m q es going n j may c cs calls_are entry component_is ys k.below

  abbrev back : Process
  back = process_back g p l (state_ends g p l s m q es going n j may c cs calls_are entry component_is ys k.below) (machine_ends g p l s m q es going n j may c cs calls_are entry component_is ys k.below) q Ends.caller Ends.slot Ends.monitor Ends.entries Returning None

  back_calls : back.calls ≡ callers before.calls
  back_calls = ap callers (sym (calls_were g p l (state_ends g p l s m q es going n j may c cs calls_are entry component_is ys k.below) (machine_ends g p l s m q es going n j may c cs calls_are entry component_is ys k.below) q Ends.caller Ends.slot Ends.monitor Ends.entries Returning)) ∙ ap (λ (x : Process). callers x.calls) ended_is

  back_items : back.items ≡ after_return (xs ++ ys)
  back_items =
      ap after_return (sym (items_were g p l (state_ends g p l s m q es going n j may c cs calls_are entry component_is ys k.below) (machine_ends g p l s m q es going n j may c cs calls_are entry component_is ys k.below) q Ends.caller Ends.slot Ends.monitor Ends.entries Returning))
      ∙ (ap (λ (x : Process). after_return x.items) ended_is ∙ (sym Ends.items_are ∙ sym (no_return g (here p l thread.frame.routine) mid None xs ys k.after)))

  back_is : back ≡ process_after
  back_is = ap (λ i. with_parts i back.calls back.items) (ap (λ (x : Process). x.component) ended_is) ∙ (ap (λ a. with_parts before.component a back.items) back_calls ∙ ap (λ a. with_parts before.component (callers before.calls) a) back_items)

  processes_same : (state_left g p l s m q es going n j may c cs calls_are entry component_is ys k.below).processes ≡ slice_set s.processes q process_after
  processes_same = set_set s.processes q (process_ends g p l s m q es going n j may c cs calls_are entry component_is ys k.below) back ∙ ap (λ (x : Process). slice_set s.processes q x) back_is

  -- the monitor of the entry
  monitor_is : Ends.monitor ≡ Some j
  monitor_is =
      (return_is g p l (state_ends g p l s m q es going n j may c cs calls_are entry component_is ys k.below) (machine_ends g p l s m q es going n j may c cs calls_are entry component_is ys k.below) q Ends.caller Ends.slot Ends.monitor Ends.entries Returning).2
      ∙ (ap (λ (b : Call). monitor_left g.tables b b.kind (component_at g.tables b.component).kind) (call_is g p l s m q es going n j may c cs calls_are entry component_is ys k.below)
      ∙ (ap (λ i. monitor_left g.tables c c.kind (component_at g.tables i).kind) component_is ∙ (ap (monitor_left g.tables c c.kind) may.is ∙ ap (λ b. monitor_left g.tables c b (kind.Monitor j)) entry)))

  -- ---- a queue of the component

  module _ (procedure : Ends.slot ≡ None) (pl : Place) (a : Address) (h : PlaceAt g.tables l (frames_of thread.frame es) (record { holder = in_component n; name = pl.name; choices = pl.choices }) queue_type a) where
    abbrev place : Place
    place = record { holder = in_component n; name = pl.name; choices = pl.choices }

    abbrev cell : ℕ
    cell = continuing.at g p l s m q es going n j may c cs calls_are entry component_is ys k.below pl.name h.whole pl.choices h.offset h.begins.there h.begins.known h.chosen

    abbrev held : Value
    held = old_queue g p l s m q es going n j may c cs calls_are entry component_is ys k.below pl.name h.whole pl.choices h.offset h.begins.there h.begins.known h.chosen

    there_component : n < length s.components
    there_component = subst (λ i. n < i) (sym k.rep.component_count) h.begins.there

    queue : (o : Option ℕ) × (held ≡ queue_value o)
    queue =
        queue_is held
        (part_stands h.whole (value_held (content_of pl.name (named.component_at s.components n).environment)) pl.choices (h.offset, queue_type) ((k.rep.components n there_component).variables pl.name h.whole h.begins.known).typed h.chosen).typed

    address_is : a ≡ Permanent cell
    address_is = h.address ∙ ap (λ b. further b h.offset) h.begins.address

    abbrev doing : Doing
    doing = continued_from view entry_routine (xs ++ ys) place

    goes_on : (o : Option ℕ) → held ≡ queue_value o → Represents g p l (meaning.continuing (meaning.moved_to ready s q doing) n o) (machine.resume (machine_left g p l s m q es going n j may c cs calls_are entry component_is ys k.below) j cell)
    goes_on o w =
        subst (λ (ps : List Process). Represents g p l (meaning.continuing (record s { processes = ps; components = doing.components }) n o) (machine.resume (machine_left g p l s m q es going n j may c cs calls_are entry component_is ys k.below) j cell)) processes_same
        (continues_on g p l s m q es going n j may c cs calls_are entry component_is ys k.below pl.name h.whole pl.choices h.offset h.begins.there h.begins.known h.chosen o w)

    continued : StepIs g p l q line (record { state = meaning.continuing (meaning.moved_to ready s q doing) n (waiting_in held); event = meaning.continue_event }) (record { machine = machine.resume (slot_calls.leave_frame g.tables (machine_ends g p l s m q es going n j may c cs calls_are entry component_is ys k.below) q Ends.caller Ends.slot Ends.entries) j cell; event = event.Kernel event_call.Continue })
    continued =
        record {
          state = subst (λ r. Represents g p l (meaning.continuing (meaning.moved_to ready s q doing) n (waiting_in held)) (machine.resume (slot_calls.leave_frame g.tables (machine_ends g p l s m q es going n j may c cs calls_are entry component_is ys k.below) q Ends.caller r Ends.entries) j cell)) (sym procedure)
              (subst (λ (v : Value). Represents g p l (meaning.continuing (meaning.moved_to ready s q doing) n (waiting_in v)) (machine.resume (machine_left g p l s m q es going n j may c cs calls_are entry component_is ys k.below) j cell)) (sym queue.1) (goes_on queue.0 queue.1));
          event = refl;
        }

    -- ---- by the discipline

    signals_same : m.discipline.signals ≡ signals_of s.discipline.signals
    signals_same = ap (λ (w : slot_discipline.Discipline). w.signals) k.rep.discipline

    abbrev state_by : named.Signals → State
    state_by w = meaning.signalling w s q doing n (waiting_in held) before.calls (xs ++ ys)

    abbrev machine_by : Machine
    machine_by = machine.signal (with_stack m q (rest_of mid es)) q j cell

    abbrev ByRule : named.Signals → Type 0
    ByRule w = StepIs g p l q line (record { state = state_by w; event = meaning.continue_event }) (slot_calls.continue_by (signals_of w) g.tables m q cell mid es)

    -- the caller goes on: the kernel does it in the monitor that the process executes
    in_monitor : (w : named.Signals) → Represents g p l (state_by w) machine_by →
        StepIs g p l q line (record { state = state_by w; event = meaning.continue_event }) (slot_calls.continue_in m q cell (component_at g.tables thread.frame.component).kind (rest_of mid es))
    in_monitor w rep =
        subst (λ b. StepIs g p l q line (record { state = state_by w; event = meaning.continue_event }) (slot_calls.continue_in m q cell b (rest_of mid es))) (sym (frame_kind g p l s m q at token d e more mid es xs ys k j may_signal.delay))
        (record { state = rep; event = refl })

    by_signals : (w : named.Signals) → s.discipline.signals ≡ w → ByRule w
    by_signals return_signals rule =
        subst (λ (fs : List Entry). StepIs g p l q line (record { state = state_by return_signals; event = meaning.continue_event }) (slot_calls.continue_from g.tables (machine_ends g p l s m q es going n j may c cs calls_are entry component_is ys k.below) q cell fs)) (sym Ends.stack)
        (subst (λ w. StepIs g p l q line (record { state = state_by return_signals; event = meaning.continue_event }) (slot_calls.continue_from g.tables (machine_ends g p l s m q es going n j may c cs calls_are entry component_is ys k.below) q cell (Return Ends.caller Ends.slot w ∷ Ends.entries))) (sym monitor_is) continued)
    by_signals continue_signals rule =
        in_monitor continue_signals
        (subst (λ (v : Value). Represents g p l (meaning.notifying (meaning.moved_to ready s q (meaning.going_on doing before.calls (xs ++ ys))) n (waiting_in v)) machine_by) (sym queue.1)
        (notifies_by g p l s m q es going (xs ++ ys) (rest_of mid es) (stack_after g p l s m q at item_here mid es xs ys k) (frames_rest thread.frame mid es) n j may_signal pl.name h.whole pl.choices h.offset h.begins.there h.begins.known h.chosen (signals_same ∙ ap signals_of rule) queue.0 queue.1))
    by_signals wait_signals rule =
        in_monitor wait_signals
        (subst (λ (v : Value). Represents g p l (meaning.yielding s q n (meaning.going_on doing before.calls (xs ++ ys)) (waiting_in v)) machine_by) (sym queue.1)
        (yields_by g p l s m q es going (xs ++ ys) (rest_of mid es) (stack_after g p l s m q at item_here mid es xs ys k) (frames_rest thread.frame mid es) n j may_signal pl.name h.whole pl.choices h.offset h.begins.there h.begins.known h.chosen doing.move (signals_same ∙ ap signals_of rule) queue.0 queue.1))

    in_queue : StepIs g p l q line (settled p s q (Ok doing)) (slot_calls.continue_at g.tables m q mid es a)
    in_queue =
        subst (λ b. StepIs g p l q line (settled p s q (Ok doing)) (slot_calls.continue_at g.tables m q mid es b)) (sym address_is)
        (subst (λ (w : slot_signals.Signals). StepIs g p l q line (settled p s q (Ok doing)) (slot_calls.continue_by w g.tables m q cell mid es)) (sym signals_same) (by_signals s.discipline.signals refl))

  -- ---- the outcomes

  by_target : Ends.slot ≡ None → (t : Outcome Target) → ((x : Target) → t ≡ Ok x → x.place.holder ≡ in_component n) → (r : Result Address slots.ErrorName) → TargetAgrees g.tables l (frames_of thread.frame es) t queue_type r →
      StepIs g p l q line (settled p s q (t >>= λ x. Ok (continued_from view entry_routine (xs ++ ys) x.place))) (statements.with_value r (statements.fault m q line) (slot_calls.continue_at g.tables m q mid es))
  by_target procedure (Err b) own (Err f) h = fails g p l s m q at item_here mid es xs ys k line b f h
  by_target procedure (Ok x) own (Ok a) h =
      let same : x.place ≡ record { holder = in_component n; name = x.place.name; choices = x.place.choices } = ap (λ (w : Holder). place_with x.place w) (own x refl) in
      subst (λ (w : Place). StepIs g p l q line (settled p s q (Ok (continued_from view entry_routine (xs ++ ys) w))) (slot_calls.continue_at g.tables m q mid es a)) (sym same)
      (in_queue procedure x.place a (subst (λ (w : Place). PlaceAt g.tables l (frames_of thread.frame es) w queue_type a) same h.1))
  by_target procedure _ own _ h = absurd h

  module _ (standard : find (name_of d) (l.meanings thread.frame.routine).scope ≡ Some (standard_meaning continue_procedure)) where
    -- what the item does
    abbrev pub own_continue : QueueItem g (here p l thread.frame.routine) at token e mid code.continue_at
    own_continue = subst (λ (w : Option Meaning). InvokedBy g (here p l thread.frame.routine) at token w d (more_expressions e more) mid) standard k.own

    -- the entry is a procedure, so that its end takes no result
    pub continue_step : QueueNamed g p l s m q es e own_continue.place → Ends.slot ≡ None → StepIs g p l q line (step_of p s q) (step_at g.tables m q)
    continue_step named_queue procedure =
        takes_item g p l s m q at item_here mid es xs ys k line
        (subst (λ (w : Option Meaning). StepIs g p l q line (settled p s q (invoked view q w d (more_expressions e more) (xs ++ ys))) (act g.tables m q at (item_at g.tables at) (item_at g.tables at).action es))
        (sym (ap (find (name_of d)) (scope_is g p l s m q at item_here mid es xs ys k) ∙ standard))
        (subst (λ (w : Option Designator). StepIs g p l q line (settled p s q (in_place_of view w (λ x. Ok (continued_from view (current before.calls).kind (xs ++ ys) x)) (xs ++ ys))) (act g.tables m q at (item_at g.tables at) (item_at g.tables at).action es)) (sym named_queue.is)
        (subst (λ (b : CallKind). StepIs g p l q line (settled p s q (target_value view named_queue.designator >>= λ x. Ok (continued_from view b (xs ++ ys) x.place))) (act g.tables m q at (item_at g.tables at) (item_at g.tables at).action es)) (sym (ap (λ (a : List Call). (current a).kind) calls_are ∙ entry))
        (let a = is_continue (item_at g.tables at).action own_continue.place own_continue.item.action in
        acts g p l s m q at item_here mid es xs ys k line token (code.continue_at own_continue.place) (action.Continue a.0) _ own_continue.item a.1
        (λ item o w.
        subst (λ (i : ℕ). StepIs g p l q line result (slot_calls.continue g.tables m q i a.0 item.next es)) (sym w)
        (subst (λ (i : Option ℕ). StepIs g p l q line result (slot_calls.continue g.tables m q line a.0 i es)) (sym o)
        (subst (λ (r : Result Address slots.ErrorName). StepIs g p l q line result (statements.with_value r (statements.fault m q line) (slot_calls.continue_at g.tables m q mid es)))
        (sym (views_agree.place (memory_at m q) thread.frame a.0 ∙ ap (plain_address (memory_at m q) thread.frame) a.2))
        (by_target procedure (target_value view named_queue.designator) named_queue.own (plain_address (memory_at m q) thread.frame own_continue.place) named_queue.agrees))))))))
      where
        result : Stepped
        result = settled p s q (target_value view named_queue.designator >>= λ x. Ok (continued_from view entry_routine (xs ++ ys) x.place))
