-- A step of the slot machine enters a monitor only where an entry is called, and then its process executes the routine that is called.
use Rattle.std.proofs.Common.{◌≡◌, ◌∙◌, ℕ, ◌<◌, ◌==◌, Bool, true, false, if◌then◌else◌, List, [], ◌∷◌, length, Option, Some, None, Result, Ok, Err, ap, sym, refl, subst, length-set, get_or-set_same}
use Rattle.std.specs.Ordering.{int_eq}
use Rattle.std.specs.Prelude.{ℤ, pos, slice_index_or}
use Rattle.cp_slots.specs.declared.item.Action.{Action}
use Rattle.cp_slots.specs.declared.item.Action.TheVariants.{Empty, Assign, AssignSet, Copy, Block, If, Case, Assert, While, Until, For, Cycle, Call, Start, Delay, Continue, Display}
use Rattle.cp_slots.specs.declared.item.Item.{Item}
use Rattle.cp_slots.specs.declared.place.Argument.{Argument}
use Rattle.cp_slots.specs.declared.tables.ComponentKind.{ComponentKind}
use Rattle.cp_slots.specs.declared.tables.ComponentKind.TheVariants as kind
use Rattle.cp_slots.specs.Code.{action_seen}
use Rattle.cp_slots.specs.Tables.{Tables, component_at, item_at, routine_at}
use Rattle.cp_store.specs.declared.argument.Bound.{Bound}
use Rattle.cp_store.specs.declared.error.ErrorName.{ErrorName}
use Rattle.cp_store.specs.declared.error.ErrorName.TheVariants.{NotInit}
use Rattle.cp_store.specs.declared.memory.Address.{Address}
use Rattle.cp_store.specs.declared.memory.Address.TheVariants as address
use Rattle.cp_store.specs.Arguments.{bind_frame}
use Rattle.cp_store.specs.Memory.{Memory}
use Rattle.cp_store.specs.Sets as sets
use Rattle.cp_store.specs.Values.{is_true, check_range}
use Rattle.cp_machine.specs.declared.discipline.Signals.{Signals}
use Rattle.cp_machine.specs.declared.discipline.Signals.TheVariants as signals
use Rattle.cp_machine.specs.declared.event.Event.{Event}
use Rattle.cp_machine.specs.declared.event.Event.TheVariants.{Kernel}
use Rattle.cp_machine.specs.declared.event.Kernel.TheVariants as kernel
use Rattle.cp_machine.specs.declared.process.Entry.{Entry}
use Rattle.cp_machine.specs.declared.process.Entry.TheVariants.{Rest, Successor, Return, InitEnd}
use Rattle.cp_machine.specs.declared.process.Status.TheVariants.{AtGate}
use Rattle.cp_machine.specs.declared.state.TheConstants.{MOST_SHOWN}
use Rattle.cp_machine.specs.Calls.{open_call, call_in, call_by, frame_behind, start_by, delay_in, delay_at, continue_at, continue_by, continue_from, continue_in}
use Rattle.cp_machine.specs.Kernel.{enter_caller, enter_by}
use Rattle.cp_machine.specs.Machine.{Machine, Thread, is_initialised, is_uninitialised, is_unstarted, monitor_at, no_thread, phase_at, thread_at, with_permanents, with_stack, with_thread}
use Rattle.cp_machine.specs.Memory.{address_of, arguments_of, component_of, add_frame, memory_at, set_of, value_of}
use Rattle.cp_machine.specs.Stack.{from_end, rest_of}
use Rattle.cp_machine.specs.Statements.{Stepped, arm_for, fault, is_beyond, next_value, successor_step, with_value}
use Rattle.cp_machine.specs.Step.{act, step_at, take_top}
use Rattle.cp_resolved.specs.Openings.{Opening}
use Rattle.cp_story_laws.proofs.CalledRoutines.{CallsRoutine, IsCalled}

abbrev is_entered : Event → Bool
is_entered (Kernel kernel.Enter) = true
is_entered _ = false

abbrev is_call : Action → Bool
is_call (Call routine component is_entry arguments result) = true
is_call _ = false

-- the routine that a process executes
abbrev pub executed : Machine → ℕ → ℕ
executed m pid = (thread_at m.threads pid).frame.routine

module _ (r : Tables) (os : List Opening) (m : Machine) (pid : ℕ) (there : pid < length m.threads) where
  -- if it enters, the routine has a name
  abbrev Enters : Stepped → Type 0
  Enters x = is_entered x.event ≡ true → IsCalled os (executed x.machine pid)

  never : (x : Stepped) → is_entered x.event ≡ false → Enters x
  never x h = λ e. absurd (let bad : true ≡ false = sym e ∙ h in cc)

  evaluated : {A : Type 0} (o : Result A ErrorName) (failed : ErrorName → Stepped) (go : A → Stepped) → ((e : ErrorName) → Enters (failed e)) → ((v : A) → Enters (go v)) → Enters (with_value o failed go)
  evaluated (Ok v) failed go f g = g v
  evaluated (Err e) failed go f g = f e

  either : (b : Bool) (x y : Stepped) → Enters x → Enters y → Enters (if b then x else y)
  either true x y h k = h
  either false x y h k = k

  -- ---- the frame of a call

  frame_set : (n : Machine) (t : Thread) → pid < length n.threads → executed (with_thread n pid t) pid ≡ t.frame.routine
  frame_set n t lt = ap (λ (u : Thread). u.frame.routine) (get_or-set_same n.threads pid t no_thread lt)

  entered_frame : (o : Option ℕ) (n : Machine) (monitor : ℕ) → pid < length n.threads → executed (enter_by o n pid monitor) pid ≡ executed n pid
  entered_frame None n monitor lt = refl
  entered_frame (Some q) n monitor lt = frame_set n (record (thread_at n.threads pid) { status = AtGate monitor }) lt

  longer : (n : Machine) (t : Thread) → pid < length n.threads → pid < length (with_thread n pid t).threads
  longer n t lt = subst (λ (k : ℕ). pid < k) (sym (length-set n.threads pid t)) lt

  module _ (routine component : ℕ) (arguments : List Argument) (bounds : List Bound) (result monitor : Option ℕ) (rest : List Entry) where
    abbrev mine : Thread
    mine = thread_at m.threads pid

    abbrev new : Thread
    new = add_frame (record mine { frame = frame_behind r mine routine component; stack = rest_of (routine_at r routine).body (Return mine.frame result monitor ∷ rest) }) (routine_at r routine)

    abbrev begun : Machine
    begun = with_thread m pid new

    abbrev memory : Memory
    memory = bind_frame (memory_at begun pid) (thread_at begun.threads pid).frame arguments bounds

    abbrev bound : Thread
    bound = record (thread_at begun.threads pid) { cells = memory.cells; references = memory.references }

    called_there : pid < length (open_call r m pid routine component arguments bounds result monitor rest).threads
    called_there = longer (with_permanents begun memory.permanents) bound (longer m new there)

    called_frame : executed (open_call r m pid routine component arguments bounds result monitor rest) pid ≡ routine
    called_frame = frame_set (with_permanents begun memory.permanents) bound (longer m new there) ∙ frame_set m new there

  called_enters : (k : ComponentKind) (routine component : ℕ) (arguments : List Argument) (bounds : List Bound) (result : Option ℕ) (rest : List Entry) → IsCalled os routine → Enters (call_in r m pid k routine component arguments bounds result rest)
  called_enters (kind.Monitor monitor) routine component arguments bounds result rest h =
      let n : Machine = open_call r m pid routine component arguments bounds result (Some monitor) rest in
      let same : executed (enter_caller n pid monitor) pid ≡ routine = entered_frame (monitor_at n monitor).holder n monitor (called_there routine component arguments bounds result (Some monitor) rest) ∙ called_frame routine component arguments bounds result (Some monitor) rest in
      λ e. subst (IsCalled os) (sym same) h
  called_enters kind.Class routine component arguments bounds result rest h = never (call_in r m pid kind.Class routine component arguments bounds result rest) refl
  called_enters (kind.Process number) routine component arguments bounds result rest h = never (call_in r m pid (kind.Process number) routine component arguments bounds result rest) refl

  called_by_enters : (line : ℕ) (is_entry : Bool) (routine component : ℕ) (arguments : List Argument) (bounds : List Bound) (result : Option ℕ) (rest : List Entry) → IsCalled os routine → Enters (call_by r m pid line is_entry routine component arguments bounds result rest)
  called_by_enters line false routine component arguments bounds result rest h = never (call_by r m pid line false routine component arguments bounds result rest) refl
  called_by_enters line true routine component arguments bounds result rest h = either (is_initialised (phase_at m component)) _ _ (called_enters (component_at r component).kind routine component arguments bounds result rest h) (never (fault m pid line NotInit) refl)

  -- ---- what else is no entry

  abbrev IsOther : Stepped → Type 0
  IsOther x = is_entered x.event ≡ false

  evaluated_other : {A : Type 0} (o : Result A ErrorName) (failed : ErrorName → Stepped) (go : A → Stepped) → ((e : ErrorName) → IsOther (failed e)) → ((v : A) → IsOther (go v)) → IsOther (with_value o failed go)
  evaluated_other (Ok v) failed go f g = g v
  evaluated_other (Err e) failed go f g = f e

  either_other : (b : Bool) (x y : Stepped) → IsOther x → IsOther y → IsOther (if b then x else y)
  either_other true x y h k = h
  either_other false x y h k = k

  started_other : (line : ℕ) (k : ComponentKind) (routine component : ℕ) (arguments : List Argument) (bounds : List Bound) (rest : List Entry) → IsOther (start_by r m pid line k routine component arguments bounds rest)
  started_other line (kind.Process p) routine component arguments bounds rest = either_other (is_unstarted (thread_at m.threads p).status) _ _ refl refl
  started_other line (kind.Monitor monitor) routine component arguments bounds rest = either_other (is_uninitialised (phase_at m component)) _ _ refl refl
  started_other line kind.Class routine component arguments bounds rest = either_other (is_uninitialised (phase_at m component)) _ _ refl refl

  delayed_other : (line cell : ℕ) (k : ComponentKind) (rest : List Entry) → IsOther (delay_in m pid line cell k rest)
  delayed_other line cell (kind.Monitor monitor) rest = either_other (is_true (slice_index_or m.permanents cell (pos 0))) _ _ refl refl
  delayed_other line cell kind.Class rest = refl
  delayed_other line cell (kind.Process number) rest = refl

  delay_other : (line : ℕ) (rest : List Entry) (a : Address) → IsOther (delay_at r m pid line rest a)
  delay_other line rest (address.Permanent cell) = delayed_other line cell (component_at r (thread_at m.threads pid).frame.component).kind rest
  delay_other line rest (address.Local cell) = refl

  continued_other : (n : Machine) (cell : ℕ) (es : List Entry) → IsOther (continue_from r n pid cell es)
  continued_other n cell (Return caller result (Some monitor) ∷ es) = refl
  continued_other n cell (Return caller result None ∷ es) = refl
  continued_other n cell [] = refl
  continued_other n cell (Rest at ∷ es) = refl
  continued_other n cell (Successor at z last ∷ es) = refl
  continued_other n cell (InitEnd caller component ∷ es) = refl

  in_place_other : (cell : ℕ) (k : ComponentKind) (rest : List Entry) → IsOther (continue_in m pid cell k rest)
  in_place_other cell (kind.Monitor monitor) rest = refl
  in_place_other cell kind.Class rest = refl
  in_place_other cell (kind.Process number) rest = refl

  by_discipline_other : (s : Signals) (cell : ℕ) (next : Option ℕ) (es : List Entry) → IsOther (continue_by s r m pid cell next es)
  by_discipline_other signals.Return cell next es = continued_other (with_stack m pid (from_end es)) cell (from_end es)
  by_discipline_other signals.Continue cell next es = in_place_other cell (component_at r (thread_at m.threads pid).frame.component).kind (rest_of next es)
  by_discipline_other signals.Wait cell next es = in_place_other cell (component_at r (thread_at m.threads pid).frame.component).kind (rest_of next es)

  continue_other : (next : Option ℕ) (es : List Entry) (a : Address) → IsOther (continue_at r m pid next es a)
  continue_other next es (address.Permanent cell) = by_discipline_other m.discipline.signals cell next es
  continue_other next es (address.Local cell) = refl

  act_other : (at : ℕ) (item : Item) (a : Action) (es : List Entry) → is_call a ≡ false → IsOther (act r m pid at item a es)
  act_other at item Empty es plain = refl
  act_other at item (Assign target value low high) es plain =
      (evaluated_other (value_of m pid value) _ _ (λ e. refl) (λ v.
      evaluated_other (address_of m pid target) _ _ (λ e. refl) (λ p.
      evaluated_other (check_range low high v) _ _ (λ e. refl) (λ w. refl))))
  act_other at item (AssignSet target value low high) es plain =
      (evaluated_other (set_of m pid value) _ _ (λ e. refl) (λ v.
      evaluated_other (address_of m pid target) _ _ (λ e. refl) (λ p.
      evaluated_other (sets.check_members low high v) _ _ (λ e. refl) (λ w. refl))))
  act_other at item (Copy target source size) es plain =
      (evaluated_other (address_of m pid source) _ _ (λ e. refl) (λ from.
      evaluated_other (address_of m pid target) _ _ (λ e. refl) (λ to. refl)))
  act_other at item (Block list) es plain = refl
  act_other at item (If test list other) es plain = (evaluated_other (value_of m pid test) _ _ (λ e. refl) (λ v. refl))
  act_other at item (Case selector arms) es plain =
      (evaluated_other (value_of m pid selector) _ _ (λ e. refl) (λ v.
      evaluated_other (arm_for v arms.items) _ _ (λ e. refl) (λ list. refl)))
  act_other at item (Assert test said) es plain = (evaluated_other (value_of m pid test) _ _ (λ e. refl) (λ v. either_other (is_true v) _ _ refl refl))
  act_other at item (While test list again) es plain = (evaluated_other (value_of m pid test) _ _ (λ e. refl) (λ v. refl))
  act_other at item (Until test list again) es plain = (evaluated_other (value_of m pid test) _ _ (λ e. refl) (λ v. refl))
  act_other at item (For variable low high first last down list) es plain =
      (evaluated_other (value_of m pid first) _ _ (λ e. refl) (λ x.
      evaluated_other (value_of m pid last) _ _ (λ e. refl) (λ y.
      either_other (is_beyond down x y) _ _ refl
      (evaluated_other (check_range low high x) _ _ (λ e. refl) (λ z. refl)))))
  act_other at item (Cycle list) es plain = refl
  act_other at item (Call routine component is_entry arguments result) es plain = absurd (cc)
  act_other at item (Start component routine arguments) es plain =
      (evaluated_other (component_of m pid component) _ _ (λ e. refl) (λ c.
      evaluated_other (arguments_of m pid arguments.items) _ _ (λ e. refl) (λ bs. started_other item.line (component_at r c).kind routine c arguments.items bs _)))
  act_other at item (Delay place) es plain = (evaluated_other (address_of m pid place) _ _ (λ e. refl) (λ p. delay_other item.line _ p))
  act_other at item (Display value shown) es plain = (evaluated_other (value_of m pid value) _ _ (λ e. refl) (λ v. either_other (length m.output == MOST_SHOWN) _ _ refl refl))
  act_other at item (Continue place) es plain = evaluated_other (address_of m pid place) _ _ (λ e. refl) (λ p. continue_other item.next es p)

  successor_other : (at : ℕ) (item : Item) (a : Action) (es : List Entry) (z last : ℤ) → IsOther (successor_step m pid at item a es z last)
  successor_other at item (For variable low high first end down list) es z last =
      either_other (int_eq z last) _ _ refl
      (evaluated_other (next_value down low high z) _ _ (λ e. refl) (λ w. refl))
  successor_other at item _ es z last = refl

  -- ---- a step

  act_enters : (at : ℕ) (item : Item) (a : Action) (es : List Entry) → CallsRoutine os (action_seen a) → Enters (act r m pid at item a es)
  act_enters at item (Call routine component is_entry arguments result) es h =
      evaluated (component_of m pid component) _ _ (λ e. never (fault m pid item.line e) refl) (λ c.
      evaluated (arguments_of m pid arguments.items) _ _ (λ e. never (fault m pid item.line e) refl) (λ bs. called_by_enters item.line is_entry routine c arguments.items bs result _ h))
  act_enters at item a es h = never (act r m pid at item a es) (act_other at item a es refl)

  top_enters : (es : List Entry) → ((at : ℕ) → CallsRoutine os (action_seen (item_at r at).action)) → Enters (take_top r m pid es)
  top_enters [] h = never (take_top r m pid []) refl
  top_enters (Rest at ∷ es) h = act_enters at (item_at r at) (item_at r at).action es (h at)
  top_enters (Successor at z last ∷ es) h = never (take_top r m pid (Successor at z last ∷ es)) (successor_other at (item_at r at) (item_at r at).action es z last)
  top_enters (Return caller result None ∷ es) h = never (take_top r m pid (Return caller result None ∷ es)) refl
  top_enters (Return caller result (Some monitor) ∷ es) h = never (take_top r m pid (Return caller result (Some monitor) ∷ es)) refl
  top_enters (InitEnd caller component ∷ es) h = never (take_top r m pid (InitEnd caller component ∷ es)) refl

  pub enters_routine : ((at : ℕ) → CallsRoutine os (action_seen (item_at r at).action)) → (step_at r m pid).event ≡ Kernel kernel.Enter → IsCalled os (executed (step_at r m pid).machine pid)
  enters_routine h e = top_enters (thread_at m.threads pid).stack h (ap is_entered e)
