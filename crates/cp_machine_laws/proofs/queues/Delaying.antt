-- The whole step of `delay`: the caller waits in the queue, unless another process does.
use Rattle.cp_machine_laws.proofs.Words.{◌≡◌, ◌∙◌, ℕ, ◌+◌, ◌<◌, if◌then◌else◌, List, ◌++◌, Option, Some, None, ap, sym, refl, subst, arith, length, ℤ, pos, Result, Ok, Err}
use Rattle.cp_machine_laws.proofs.Words.{slice_index, slice_index_or, slice_set, Program, Expression, Expressions, more_expressions, Designator, invoke, Action, component_at}
use Rattle.cp_machine_laws.proofs.Words.{item_at, Address, Permanent, Entry, Machine, Thread, no_thread, thread_at, with_stack, memory_at, rest_of, act, step_at, queue_type}
use Rattle.cp_machine_laws.proofs.Words.{Value, queue_value, part_at, waiting_in, Meaning, standard_meaning, delay_procedure, find, Holder, in_component, Place, Item}
use Rattle.cp_machine_laws.proofs.Words.{statement_item, State, Stepped, delays, Doing, with_items, with_move, View, Target, this_component, stored, target_value, variable_in}
use Rattle.cp_machine_laws.proofs.Words.{name_of, view_of, step_of, settled, Layouts, here, HasType, flag_of, Ground, QueueItem, InvokedBy, TargetAgrees, plain_address}
use Rattle.cp_machine_laws.proofs.Words.{queue_free, delayed_in, in_place_of, invoked, further, LiesAt, PlaceAt, CallsHold, all_permanents, own_memory, frames_of, Represents}
use Rattle.cp_slots.specs.declared.item.Action.TheVariants as action
use Rattle.cp_slots.specs.declared.place.Place as code_place
use Rattle.cp_slots.specs.declared.tables.ComponentKind.TheVariants as kind
use Rattle.cp_slots.specs.Code as code
use Rattle.cp_store.specs.declared.error.ErrorName as slots
use Rattle.cp_store.specs.declared.error.ErrorName.TheVariants as error
use Rattle.cp_store.specs.Values.{is_true}
use Rattle.cp_machine.specs.declared.event.Event.TheVariants as event
use Rattle.cp_machine.specs.declared.event.Kernel.TheVariants as event_call
use Rattle.cp_machine.specs.declared.process.Status.TheVariants as status
use Rattle.cp_machine.specs.Calls as calls
use Rattle.cp_machine.specs.Kernel as machine
use Rattle.cp_machine.specs.Statements as statements
use Rattle.cp_meaning.specs.Outcome.{Outcome, ◌>>=◌, queue_in_use}
use Rattle.cp_meaning.specs.State as named
use Rattle.cp_meaning.specs.Kernel as meaning
use Rattle.cp_machine_laws.proofs.assignments.Assigning.{set_set}
use Rattle.cp_machine_laws.proofs.calls.CallSteps.{call_component}
use Rattle.cp_machine_laws.proofs.control.Control.{Taken, StepIs, goes, takes_item, acts, fails, scope_is, stack_after, top_frame}
use Rattle.cp_machine_laws.proofs.queues.Delayed.{MayDelay, delayed_out}
use Rattle.cp_machine_laws.proofs.control.Lists.{frames_rest}
use Rattle.cp_machine_laws.proofs.control.Moving.{set_here}
use Rattle.cp_machine_laws.proofs.queues.QueueWriting.{old, old_lies, cell}
use Rattle.cp_machine_laws.proofs.expressions.Reading.{part_lies}
use Rattle.cp_machine_laws.proofs.expressions.Views.{views_agree}

is_delay : (a : Action) (p : code.Place) → code.action_seen a ≡ code.delay p → (x : code_place.Place) × (a ≡ action.Delay x) × (code.place_seen x ≡ p)
is_delay (action.Delay x) p e = (x, refl, cc)
is_delay a p e = absurd (cc)

pub queue_is : (w : Value) → HasType queue_type w → (o : Option ℕ) × (w ≡ queue_value o)
queue_is (queue_value o) h = (o, refl)
queue_is w h = absurd h

-- what has to be known of the queue that is named
pub record QueueNamed (g : Ground) (p : Program) (l : Layouts) (s : State) (m : Machine) (q : ℕ) (es : List Entry) (e : Expression) (place : code.Place) : Type 0 where
  pub designator : Designator
  pub is : variable_in e ≡ Some designator
  pub agrees : TargetAgrees g.tables l (frames_of (thread_at m.threads q).frame es) (target_value (view_of p s q) designator) queue_type (plain_address (memory_at m q) (thread_at m.threads q).frame place)
  -- it is one of the component whose statement names it
  pub own : (t : Target) → target_value (view_of p s q) designator ≡ Ok t → t.place.holder ≡ in_component (this_component (view_of p s q))

abbrev pub place_with : Place → Holder → Place
place_with x h = record { holder = h; name = x.name; choices = x.choices }

module _ (g : Ground) (p : Program) (l : Layouts) (s : State) (m : Machine) (q at token : ℕ) (d : Designator) (e : Expression) (more : Expressions) (mid : Option ℕ) (es : List Entry) (xs ys : List Item) (k : Taken g p l s m q at (statement_item (invoke token d (more_expressions e more))) mid es xs ys)
    (j : ℕ) (may : MayDelay g l s m q (this_component (view_of p s q)) j) where
  abbrev item_here : Item
  item_here = statement_item (invoke token d (more_expressions e more))

  abbrev line : ℕ
  line = slice_index g.lines token

  abbrev view : View
  view = view_of p s q

  abbrev n : ℕ
  n = this_component view

  abbrev thread : Thread
  thread = thread_at m.threads q

  this_is : n ≡ thread.frame.component
  this_is =
      let top = top_frame thread.frame es in
      call_component g.tables l (own_memory thread) (named.process_at s.processes q).calls thread.frame top.0 (subst (λ fs. CallsHold g.tables l (own_memory thread) (named.process_at s.processes q).calls fs) top.1 k.calls)

  pub frame_kind : (component_at g.tables thread.frame.component).kind ≡ kind.Monitor j
  frame_kind = ap (λ i. (component_at g.tables i).kind) (sym this_is) ∙ may.is

  -- ---- a queue of the component

  module _ (pl : Place) (a : Address) (h : PlaceAt g.tables l (frames_of thread.frame es) (record { holder = in_component n; name = pl.name; choices = pl.choices }) queue_type a) where
    abbrev place : Place
    place = record { holder = in_component n; name = pl.name; choices = pl.choices }

    abbrev at_cell : ℕ
    at_cell = cell g p l s m k.rep may.apart may.parts_apart n pl.name h.whole pl.choices h.offset (Some q) h.begins.there h.begins.known h.chosen

    abbrev old_variable : Value
    old_variable = old g p l s m k.rep may.apart may.parts_apart n pl.name h.whole pl.choices h.offset (Some q) h.begins.there h.begins.known h.chosen

    lies : LiesAt (all_permanents m) queue_type (part_at old_variable pl.choices) (Permanent at_cell)
    lies = part_lies (all_permanents m) h.whole old_variable (Permanent ((component_at g.tables n).base + (l.systems (component_at g.tables n).system).slots pl.name)) pl.choices (h.offset, queue_type) (old_lies g p l s m k.rep may.apart may.parts_apart n pl.name h.whole pl.choices h.offset (Some q) h.begins.there h.begins.known h.chosen) h.chosen

    queue : (o : Option ℕ) × (part_at old_variable pl.choices ≡ queue_value o)
    queue = queue_is (part_at old_variable pl.choices) lies.typed

    flag : slice_index_or m.permanents at_cell (pos 0) ≡ flag_of queue.0
    flag =
        let block = subst (λ (w : Value). LiesAt (all_permanents m) queue_type w (Permanent at_cell)) queue.1 lies in
        ap (λ c. slice_index_or m.permanents c (pos 0)) (let z : at_cell ≡ at_cell + 0 = omega arith in z) ∙ block.block 0 (omega arith)

    address_is : a ≡ Permanent at_cell
    address_is = h.address ∙ ap (λ b. further b h.offset) h.begins.address

    there_thread : q < length m.threads
    there_thread = let b = k.rep.process_count in let c = k.there in omega (arith, b, c)

    abbrev rest : List Entry
    rest = rest_of mid es

    machine_is : (record (with_stack m q rest) { permanents = slice_set m.permanents at_cell (pos 1); threads = slice_set (with_stack m q rest).threads q (record (thread_at (with_stack m q rest).threads q) { status = status.Delayed at_cell }) })
        ≡ record m { permanents = slice_set m.permanents at_cell (pos 1); threads = slice_set m.threads q (record thread { stack = rest; status = status.Delayed at_cell }) }
    machine_is =
        ap (λ (w : Thread). record m { permanents = slice_set m.permanents at_cell (pos 1); threads = slice_set (slice_set m.threads q (record thread { stack = rest })) q (record w { status = status.Delayed at_cell }) }) (set_here m.threads q (record thread { stack = rest }) no_thread there_thread)
        ∙ ap (λ (ts : List Thread). record m { permanents = slice_set m.permanents at_cell (pos 1); threads = ts }) (set_set m.threads q (record thread { stack = rest }) (record thread { stack = rest; status = status.Delayed at_cell }))

    abbrev doing : Doing
    doing = with_move (with_items (stored view place (queue_value (Some q))) (xs ++ ys)) (delays n)

    -- nobody waits there: the process does
    waits : part_at old_variable pl.choices ≡ queue_value None → StepIs g p l q line (settled p s q (Ok doing)) (record { machine = machine.delay_caller (with_stack m q rest) q j at_cell; event = event.Kernel event_call.Delay })
    waits free =
        record {
          state = subst (λ w. Represents g p l (meaning.let_in s.discipline.gates (meaning.moved_to (named.delayed n) s q doing) n) (machine.let_in w j)) (sym machine_is)
              (delayed_out g p l s m q es (goes g p l s m q at item_here mid es xs ys k) (xs ++ ys) rest (stack_after g p l s m q at item_here mid es xs ys k) (frames_rest thread.frame mid es) n j may pl.name h.whole pl.choices h.offset h.begins.there h.begins.known h.chosen free);
          event = refl;
        }

    by_queue : (o : Option ℕ) → part_at old_variable pl.choices ≡ queue_value o → slice_index_or m.permanents at_cell (pos 0) ≡ flag_of o →
        StepIs g p l q line (settled p s q (delayed_in view q (xs ++ ys) place)) (calls.delay_in m q line at_cell (kind.Monitor j) rest)
    by_queue o w f =
        subst (λ (v : Value). StepIs g p l q line (settled p s q (queue_free (waiting_in v) >>= λ u. Ok doing)) (calls.delay_in m q line at_cell (kind.Monitor j) rest)) (sym w)
        (subst (λ (z : ℤ). StepIs g p l q line (settled p s q (queue_free o >>= λ u. Ok doing)) (if is_true z then statements.fault m q line error.QueueInUse else record { machine = machine.delay_caller (with_stack m q rest) q j at_cell; event = event.Kernel event_call.Delay })) (sym f) (go o w))
      where
        go : (o : Option ℕ) → part_at old_variable pl.choices ≡ queue_value o → StepIs g p l q line (settled p s q (queue_free o >>= λ u. Ok doing)) (if is_true (flag_of o) then statements.fault m q line error.QueueInUse else record { machine = machine.delay_caller (with_stack m q rest) q j at_cell; event = event.Kernel event_call.Delay })
        go None w = waits w
        go (Some r) w = fails g p l s m q at item_here mid es xs ys k line queue_in_use error.QueueInUse refl

    in_queue : StepIs g p l q line (settled p s q (delayed_in view q (xs ++ ys) place)) (calls.delay_at g.tables m q line rest a)
    in_queue =
        subst (λ b. StepIs g p l q line (settled p s q (delayed_in view q (xs ++ ys) place)) (calls.delay_at g.tables m q line rest b)) (sym address_is)
        (subst (λ c. StepIs g p l q line (settled p s q (delayed_in view q (xs ++ ys) place)) (calls.delay_in m q line at_cell c rest)) (sym frame_kind) (by_queue queue.0 queue.1 flag))

  -- ---- the outcomes

  by_target : (t : Outcome Target) → ((x : Target) → t ≡ Ok x → x.place.holder ≡ in_component n) → (r : Result Address slots.ErrorName) → TargetAgrees g.tables l (frames_of thread.frame es) t queue_type r →
      StepIs g p l q line (settled p s q (t >>= λ x. delayed_in view q (xs ++ ys) x.place)) (statements.with_value r (statements.fault m q line) (calls.delay_at g.tables m q line (rest_of mid es)))
  by_target (Err b) own (Err c) h = fails g p l s m q at item_here mid es xs ys k line b c h
  by_target (Ok x) own (Ok a) h =
      let same : x.place ≡ record { holder = in_component n; name = x.place.name; choices = x.place.choices } = ap (λ (w : Holder). place_with x.place w) (own x refl) in
      subst (λ (w : Place). StepIs g p l q line (settled p s q (delayed_in view q (xs ++ ys) w)) (calls.delay_at g.tables m q line (rest_of mid es) a)) (sym same)
      (in_queue x.place a (subst (λ (w : Place). PlaceAt g.tables l (frames_of thread.frame es) w queue_type a) same h.1))
  by_target _ own _ h = absurd h

  module _ (standard : find (name_of d) (l.meanings thread.frame.routine).scope ≡ Some (standard_meaning delay_procedure)) where
    -- what the item does
    abbrev pub own_delay : QueueItem g (here p l thread.frame.routine) at token e mid code.delay
    own_delay = subst (λ (w : Option Meaning). InvokedBy g (here p l thread.frame.routine) at token w d (more_expressions e more) mid) standard k.own

    pub delay_step : QueueNamed g p l s m q es e own_delay.place → StepIs g p l q line (step_of p s q) (step_at g.tables m q)
    delay_step named_queue =
        takes_item g p l s m q at item_here mid es xs ys k line
        (subst (λ (w : Option Meaning). StepIs g p l q line (settled p s q (invoked view q w d (more_expressions e more) (xs ++ ys))) (act g.tables m q at (item_at g.tables at) (item_at g.tables at).action es))
        (sym (ap (find (name_of d)) (scope_is g p l s m q at item_here mid es xs ys k) ∙ standard))
        (subst (λ (w : Option Designator). StepIs g p l q line (settled p s q (in_place_of view w (delayed_in view q (xs ++ ys)) (xs ++ ys))) (act g.tables m q at (item_at g.tables at) (item_at g.tables at).action es)) (sym named_queue.is)
        (let a = is_delay (item_at g.tables at).action own_delay.place own_delay.item.action in
        acts g p l s m q at item_here mid es xs ys k line token (code.delay own_delay.place) (action.Delay a.0) _ own_delay.item a.1
        (λ item o w.
        subst (λ (i : ℕ). StepIs g p l q line result (calls.delay g.tables m q i a.0 (rest_of item.next es))) (sym w)
        (subst (λ (i : Option ℕ). StepIs g p l q line result (calls.delay g.tables m q line a.0 (rest_of i es))) (sym o)
        (subst (λ (r : Result Address slots.ErrorName). StepIs g p l q line result (statements.with_value r (statements.fault m q line) (calls.delay_at g.tables m q line (rest_of mid es))))
        (sym (views_agree.place (memory_at m q) thread.frame a.0 ∙ ap (plain_address (memory_at m q) thread.frame) a.2))
        (by_target (target_value view named_queue.designator) named_queue.own (plain_address (memory_at m q) thread.frame own_delay.place) named_queue.agrees)))))))
      where
        result : Stepped
        result = settled p s q (target_value view named_queue.designator >>= λ x. delayed_in view q (xs ++ ys) x.place)
