-- The steps of `delay` and `continue`: they go on slots as on names.
use Rattle.std.proofs.Common.{◌≡◌, ◌∙◌, ℕ, ◌+◌, ◌<◌, true, List, [], ◌∷◌, ◌++◌, Option, Some, None, ap, sym, refl, subst, length}
use Rattle.cp_machine_laws.proofs.Words.{Result, Ok, Err, slice_index, SystemKind, ComponentKind, Tables, component_at, Entry, MachineFits, Machine, thread_at, Reaches}
use Rattle.cp_machine_laws.proofs.Words.{step_at, Address, Permanent, Name, name_of, target_value, expression_calls, expressions_calls, designator_calls, Outcome, Target}
use Rattle.cp_machine_laws.proofs.Words.{this_component, value_at, Meaning, standard_meaning, delay_procedure, continue_procedure, find, view_of, step_of, system_of, Ty}
use Rattle.cp_machine_laws.proofs.Words.{queue_type, Value, queue_value, waiting_in, Layouts, Here, here, as_place, expression_form, Ground, InvokedBy, QueueItem, result_cell}
use Rattle.cp_machine_laws.proofs.Words.{ResultGoes, memory_at, TargetAgrees, SameKind, ground_of, plain_address, Prepared, PlaceAt, frames_of, QueueKnown}
use Rattle.cp_tree.specs.declared.declaration.SystemKind.TheVariants as system_kind
use Rattle.cp_tree.specs.Syntax.{Tree, Program, Expression, Expressions, more_expressions, Designator, invoke}
use Rattle.cp_slots.specs.declared.tables.ComponentKind.TheVariants as kind
use Rattle.cp_store.specs.declared.error.ErrorName as slots
use Rattle.cp_machine_laws.specs.Followed.{IsQueueNamed, WaitsThere}
use Rattle.cp_meaning.specs.State as named
use Rattle.cp_meaning.specs.State.{Place, in_component, delayed, entry_routine, Call, current, Item, statement_item, State, has_entry}
use Rattle.cp_slots.specs.Code as code
use Rattle.cp_machine_laws.proofs.expressions.ComponentsNow.{executed_there, executed_system, current_component}
use Rattle.cp_machine_laws.proofs.queues.Continuing.{MayContinue}
use Rattle.cp_machine_laws.proofs.queues.ContinueSteps.{Ends, own_continue, continue_step}
use Rattle.cp_machine_laws.proofs.control.Control.{Taken, StepIs, scope_is}
use Rattle.cp_meaning.specs.Kernel.{waits_inside}
use Rattle.cp_machine_laws.proofs.queues.Delayed.{MayDelay}
use Rattle.cp_machine_laws.proofs.queues.Delaying.{QueueNamed, place_with, own_delay, delay_step}
use Rattle.cp_machine_laws.proofs.steps.Executed.{executes, few_cells, variables_of_components}
use Rattle.cp_machine_laws.proofs.steps.Going.{Going}
use Rattle.cp_machine_laws.proofs.HoldsInReached.{HoldsInReached}
use Rattle.cp_machine_laws.proofs.calls.Kept.{kept_left, kept_right}
use Rattle.cp_machine_laws.proofs.queues.GoingOn.{inside_so}
use Rattle.cp_machine_laws.proofs.queues.QueueNames.{queue_named}
use Rattle.cp_machine_laws.proofs.reached.ReadyInReached.{ReadyInReached}
use Rattle.cp_machine_laws.proofs.calls.Returning.{MayLeave}
use Rattle.cp_machine_laws.proofs.control.Running.{Executes}
use Rattle.cp_machine_laws.proofs.steps.StepOfStatement.{below_fits}
use Rattle.cp_machine_laws.proofs.reached.SystemKinds.{kind_is}

monitor_number : (a : SystemKind) (c : ComponentKind) → SameKind a c → a ≡ system_kind.Monitor → (j : ℕ) × (c ≡ kind.Monitor j)
monitor_number system_kind.Monitor (kind.Monitor j) h e = (j, refl)
monitor_number system_kind.Process (kind.Process j) h e = absurd (cc)
monitor_number system_kind.Class kind.Class h e = absurd (cc)
monitor_number a c h e = absurd h

-- a procedure gives its caller no result
no_result : (h : Here) (o : Option Name) (c : Option Ty) → c ≡ None → ResultGoes h o c → result_cell h o ≡ None
no_result h None c e w = refl
no_result h (Some x) None e w = absurd w
no_result h (Some x) (Some u) e w = absurd (cc)

-- the value of a queue in which a process waits
queue_from : (w : Value) (i : ℕ) → waiting_in w ≡ Some i → w ≡ queue_value (Some i)
queue_from (queue_value o) i e = ap queue_value e
queue_from x i e = absurd (cc)

module _ (t : Tree) (r : Tables) (l : Layouts) (prepared : Prepared t r l) (s : State) (known : HoldsInReached t.program s) (m : Machine) (ready : ReadyInReached (ground_of t r) t.program s m) (fits : MachineFits r m) (reach : Reaches r m) (q : ℕ) (going : Going (ground_of t r) t.program l s m q) (at : ℕ) (mid : Option ℕ) (es : List Entry) (xs ys : List Item)
    (token : ℕ) (d : Designator) (e : Expression) (more : Expressions) (k : Taken (ground_of t r) t.program l s m q at (statement_item (invoke token d (more_expressions e more))) mid es xs ys) (rules : QueueKnown (here t.program l (thread_at m.threads q).frame.routine) e) where
  abbrev g : Ground
  g = ground_of t r

  abbrev p : Program
  p = t.program

  abbrev this : Here
  this = here p l (thread_at m.threads q).frame.routine

  abbrev item_now : Item
  item_now = statement_item (invoke token d (more_expressions e more))

  -- the component that is executed, a monitor
  abbrev n : ℕ
  n = this_component (view_of p s q)

  ex : Executes g p l m q
  ex = executes t r l prepared m q fits going.many

  this_is : n ≡ (thread_at m.threads q).frame.component
  this_is = current_component t r l prepared s known m ready fits reach q going

  there : n < length r.components
  there = subst (λ c. c < length r.components) (sym this_is) (executed_there t r l prepared s known m ready fits reach q going)

  is_monitor_here : (named.component_at s.components n).kind ≡ system_kind.Monitor
  is_monitor_here =
      kind_is t r l prepared s known m ready n there ∙ (ap (λ c. (system_of p (component_at r c).system).kind) this_is ∙ (ap (λ a. (system_of p a).kind) (executed_system t r l prepared s known m ready fits reach q going) ∙ rules.monitor))

  monitor : (j : ℕ) × ((component_at r n).kind ≡ kind.Monitor j)
  monitor = monitor_number (named.component_at s.components n).kind (component_at r n).kind (ready.kinds n there) is_monitor_here

  queue_is : (spot : code.Place) → expression_form this e ≡ Some (record { ty = queue_type; form = as_place spot }) → QueueNamed g p l s m q es e spot
  queue_is spot formed =
      queue_named g p l s m q at item_now mid es xs ys k ex e spot
      (kept_left this (expression_calls this.scope e) (expressions_calls this.scope more) (kept_right this (designator_calls this.scope d) (expression_calls this.scope e ++ expressions_calls this.scope more) k.kept)) formed
      rules.designator rules.ty rules.is (ap (find (name_of rules.designator)) (scope_is g p l s m q at item_now mid es xs ys k) ∙ rules.permanent)

  -- ---- both are by the rules

  pub delay_follows : IsQueueNamed (more_expressions e more) (λ x. Unit {0})
  delay_follows = (rules.designator, rules.is, tt)

  -- a place of the component itself does not rest on frames
  without_frames : (pl : Place) (a : Address) → PlaceAt r l (frames_of (thread_at m.threads q).frame es) (record { holder = in_component n; name = pl.name; choices = pl.choices }) queue_type a →
      (cell : ℕ) × PlaceAt r l [] (record { holder = in_component n; name = pl.name; choices = pl.choices }) queue_type (Permanent cell)
  without_frames pl a h = (
    (component_at r n).base + (l.systems (component_at r n).system).slots pl.name + h.offset,
    record { whole = h.whole; first = Permanent ((component_at r n).base + (l.systems (component_at r n).system).slots pl.name); offset = h.offset; begins = record { there = h.begins.there; known = h.begins.known; address = refl }; chosen = h.chosen; address = refl },
  )

  module _ (delayed_inside : (i : ℕ) → i < length s.processes → (named.process_at s.processes i).status ≡ delayed n → has_entry n (named.process_at s.processes i).calls ≡ true) where
    -- who is in a queue of the component is delayed in it, in an entry of it
    is_waiting : (pl : Place) (a : Address) (i : ℕ) → pl.holder ≡ in_component n → PlaceAt r l (frames_of (thread_at m.threads q).frame es) pl queue_type a → waiting_in (value_at (view_of p s q) pl) ≡ Some i → waits_inside s n i ≡ true
    is_waiting pl a i own h w =
        let same : pl ≡ record { holder = in_component n; name = pl.name; choices = pl.choices } = ap (place_with pl) own in
        let stands = without_frames pl a (subst (λ (x : Place). PlaceAt r l (frames_of (thread_at m.threads q).frame es) x queue_type a) same h) in
        let value = queue_from (value_at (view_of p s q) (record { holder = in_component n; name = pl.name; choices = pl.choices })) i (subst (λ (x : Place). waiting_in (value_at (view_of p s q) x) ≡ Some i) same w) in
        let found = going.rep.queues.queued (record { holder = in_component n; name = pl.name; choices = pl.choices }) i n stands.0 (view_of p s q) refl refl stands.1 value in
        inside_so n (named.component_at s.components n).kind (has_entry n (named.process_at s.processes i).calls) (named.process_at s.processes i).status is_monitor_here (delayed_inside i found.0 found.1) found.1

    by_target : (o : Outcome Target) → ((x : Target) → o ≡ Ok x → x.place.holder ≡ in_component n) → (b : Result Address slots.ErrorName) → TargetAgrees r l (frames_of (thread_at m.threads q).frame es) o queue_type b → (x : Target) → o ≡ Ok x → (i : ℕ) → waiting_in (value_at (view_of p s q) x.place) ≡ Some i → waits_inside s n i ≡ true
    by_target (Ok u) own (Ok a) h x f i w =
        let same : x ≡ u = cc in
        is_waiting u.place a i (own u refl) h.1 (subst (λ (z : Target). waiting_in (value_at (view_of p s q) z.place) ≡ Some i) same w)
    by_target (Ok u) own (Err b) h x f i w = absurd h
    by_target (Err b) own c h x f i w = absurd (cc)

    pub continue_follows : find (name_of d) this.scope ≡ Some (standard_meaning continue_procedure) → IsQueueNamed (more_expressions e more) (WaitsThere s (view_of p s q))
    continue_follows standard =
        let own : QueueItem g this at token e mid code.continue_at = subst (λ (w : Option Meaning). InvokedBy g this at token w d (more_expressions e more) mid) standard k.own in
        let queue = queue_is own.place own.formed in
        (queue.designator, queue.is, by_target (target_value (view_of p s q) queue.designator) queue.own (plain_address (memory_at m q) (thread_at m.threads q).frame own.place) queue.agrees)

  -- ---- `delay`

  may_delay : MayDelay g l s m q n monitor.0
  may_delay =
      record {
        apart = variables_of_components t r l prepared;
        parts_apart = prepared.program.systems.apart;
        own = ready.own;
        is = monitor.1;
        known = ready.monitors n monitor.0 monitor.1;
        exclusive = ready.alone q monitor.0 going.there going.was monitor.1;
        line = ready.waits n;
      }

  pub delay_so : find (name_of d) this.scope ≡ Some (standard_meaning delay_procedure) → StepIs g p l q (slice_index t.lines token) (step_of p s q) (step_at r m q)
  delay_so standard =
      let own = own_delay g p l s m q at token d e more mid es xs ys k monitor.0 may_delay standard in
      delay_step g p l s m q at token d e more mid es xs ys k monitor.0 may_delay standard (queue_is own.place own.formed)

  -- ---- `continue`

  module _ (entry : (current (named.process_at s.processes q).calls).kind ≡ entry_routine) (delayed_inside : (i : ℕ) → i < length s.processes → (named.process_at s.processes i).status ≡ delayed n → has_entry n (named.process_at s.processes i).calls ≡ true) where
    open_now : (c : Call) × (cs : List Call) × ((named.process_at s.processes q).calls ≡ c ∷ cs)
    open_now = known.open_call q going.there (λ h. (let w = going.was in cc))

    top_entry : open_now.0.kind ≡ entry_routine
    top_entry = sym (ap (λ (cs : List Call). (current cs).kind) open_now.2) ∙ entry

    top_component : open_now.0.component ≡ n
    top_component = sym (ap (λ (cs : List Call). (current cs).component) open_now.2)

    may_continue : MayContinue g p l s m q n monitor.0 es
    may_continue =
        record {
          apart = variables_of_components t r l prepared;
          parts_apart = prepared.program.systems.apart;
          there = there;
          is = monitor.1;
          leave = subst (MayLeave g s m q) top_component (ready.leave q open_now.0 open_now.1 monitor.0 going.there going.was open_now.2 top_entry (ap (λ c. (component_at r c).kind) top_component ∙ monitor.1));
          fits = fits.each q going.many;
          fits_below = below_fits t r l prepared s m q at fits going.many mid es xs ys k.stack;
          few = few_cells t r l prepared m q fits going.many;
          routines = prepared.stands.routines;
          simple = prepared.program.results;
          monitor = is_monitor_here;
          called = delayed_inside;
        }

    pub continue_so : find (name_of d) this.scope ≡ Some (standard_meaning continue_procedure) → (l.meanings (thread_at m.threads q).frame.routine).result ≡ None → StepIs g p l q (slice_index t.lines token) (step_of p s q) (step_at r m q)
    continue_so standard procedure =
        let own = own_continue g p l s m q at token d e more mid es xs ys k monitor.0 may_continue open_now.0 open_now.1 open_now.2 top_entry standard in
        let ends = Ends g p l s m q at token d e more mid es xs ys k monitor.0 may_continue open_now.0 open_now.1 open_now.2 top_entry in
        continue_step g p l s m q at token d e more mid es xs ys k monitor.0 may_continue open_now.0 open_now.1 open_now.2 top_entry standard (queue_is own.place own.formed)
        (ends.is.6.0 ∙ no_result (here p l ends.caller.routine) ends.is.2 (l.meanings (thread_at m.threads q).frame.routine).result procedure ends.is.6.1)
