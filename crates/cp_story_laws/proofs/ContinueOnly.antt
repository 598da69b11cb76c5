-- A step of the slot machine by which a `continue` returns is one only where it is executed in an entry of a monitor.
use Rattle.std.proofs.Common.{◌≡◌, ◌∙◌, ℕ, ◌==◌, Bool, true, false, if◌then◌else◌, List, [], ◌∷◌, length, Option, Some, None, Result, Ok, Err, ap, sym, refl, subst}
use Rattle.std.specs.Ordering.{int_eq}
use Rattle.std.specs.Prelude.{ℤ, pos, slice_index_or}
use Rattle.cp_tree.specs.Syntax.{Tree}
use Rattle.cp_slots.specs.declared.item.Action.{Action}
use Rattle.cp_slots.specs.declared.item.Action.TheVariants.{Empty, Assign, AssignSet, Copy, Block, If, Case, Assert, While, Until, For, Cycle, Call, Start, Delay, Continue, Display}
use Rattle.cp_slots.specs.declared.item.Item.{Item}
use Rattle.cp_slots.specs.declared.place.Argument.{Argument}
use Rattle.cp_slots.specs.declared.tables.ComponentKind.{ComponentKind}
use Rattle.cp_slots.specs.declared.tables.ComponentKind.TheVariants as kind
use Rattle.cp_slots.specs.Tables.{Tables, component_at, item_at}
use Rattle.cp_store.specs.declared.argument.Bound.{Bound}
use Rattle.cp_store.specs.declared.error.ErrorName.{ErrorName}
use Rattle.cp_store.specs.declared.memory.Address.{Address}
use Rattle.cp_store.specs.declared.memory.Address.TheVariants as address
use Rattle.cp_store.specs.declared.memory.Frame.{Frame}
use Rattle.cp_store.specs.Sets as sets
use Rattle.cp_store.specs.Values.{is_true, check_range}
use Rattle.cp_machine.specs.declared.discipline.Signals.{Signals}
use Rattle.cp_machine.specs.declared.discipline.Signals.TheVariants as signals
use Rattle.cp_machine.specs.declared.event.Event.{Event}
use Rattle.cp_machine.specs.declared.event.Event.TheVariants.{Kernel}
use Rattle.cp_machine.specs.declared.event.Kernel.TheVariants as kernel
use Rattle.cp_machine.specs.declared.process.Entry.{Entry}
use Rattle.cp_machine.specs.declared.process.Entry.TheVariants.{Rest, Successor, Return, InitEnd}
use Rattle.cp_machine.specs.declared.state.TheConstants.{MOST_SHOWN}
use Rattle.cp_machine.specs.Calls.{call_in, call_by, start_by, delay_in, delay_at, continue_at, continue_by, continue_from}
use Rattle.cp_machine.specs.Machine.{Machine, is_initialised, is_uninitialised, is_unstarted, phase_at, thread_at, with_stack}
use Rattle.cp_machine.specs.Memory.{address_of, arguments_of, component_of, set_of, value_of}
use Rattle.cp_machine.specs.Stack.{from_end}
use Rattle.cp_machine.specs.Statements.{Stepped, arm_for, fault, is_beyond, next_value, successor_step, with_value}
use Rattle.cp_machine.specs.Step.{act, step_at, take_top}
use Rattle.cp_meaning.specs.State as named
use Rattle.cp_meaning.specs.State.{CallKind, own_statement, initial_statement, local_routine, entry_routine, current}
use Rattle.cp_resolved.specs.Layouts.{Layouts}
use Rattle.cp_machine_laws.specs.Law.{ground_of}
use Rattle.cp_machine_laws.specs.Represents.{StackIs, monitor_left}
use Rattle.cp_story.specs.Aimed.{is_continue}

abbrev is_continued : Event → Bool
is_continued (Kernel kernel.Continue) = true
is_continued _ = false

-- no `continue`
abbrev IsOther : Stepped → Type 0
IsOther x = is_continued x.event ≡ false

-- an entry of a monitor ends there
abbrev pub EndsInMonitor : List Entry → Type 0
EndsInMonitor es = (caller : Frame) × (result : Option ℕ) × (monitor : ℕ) × (rest : List Entry) × (es ≡ Return caller result (Some monitor) ∷ rest)

module _ (r : Tables) (m : Machine) (pid : ℕ) where
  evaluated : {A : Type 0} (o : Result A ErrorName) (failed : ErrorName → Stepped) (go : A → Stepped) → ((e : ErrorName) → IsOther (failed e)) → ((v : A) → IsOther (go v)) → IsOther (with_value o failed go)
  evaluated (Ok v) failed go f g = g v
  evaluated (Err e) failed go f g = f e

  either : (b : Bool) (x y : Stepped) → IsOther x → IsOther y → IsOther (if b then x else y)
  either true x y h k = h
  either false x y h k = k

  called_other : (k : ComponentKind) (routine component : ℕ) (arguments : List Argument) (bounds : List Bound) (result : Option ℕ) (rest : List Entry) → IsOther (call_in r m pid k routine component arguments bounds result rest)
  called_other (kind.Monitor monitor) routine component arguments bounds result rest = refl
  called_other kind.Class routine component arguments bounds result rest = refl
  called_other (kind.Process number) routine component arguments bounds result rest = refl

  called_by_other : (line : ℕ) (is_entry : Bool) (routine component : ℕ) (arguments : List Argument) (bounds : List Bound) (result : Option ℕ) (rest : List Entry) → IsOther (call_by r m pid line is_entry routine component arguments bounds result rest)
  called_by_other line false routine component arguments bounds result rest = refl
  called_by_other line true routine component arguments bounds result rest = either (is_initialised (phase_at m component)) _ _ (called_other (component_at r component).kind routine component arguments bounds result rest) refl

  started_other : (line : ℕ) (k : ComponentKind) (routine component : ℕ) (arguments : List Argument) (bounds : List Bound) (rest : List Entry) → IsOther (start_by r m pid line k routine component arguments bounds rest)
  started_other line (kind.Process p) routine component arguments bounds rest = either (is_unstarted (thread_at m.threads p).status) _ _ refl refl
  started_other line (kind.Monitor monitor) routine component arguments bounds rest = either (is_uninitialised (phase_at m component)) _ _ refl refl
  started_other line kind.Class routine component arguments bounds rest = either (is_uninitialised (phase_at m component)) _ _ refl refl

  delayed_other : (line cell : ℕ) (k : ComponentKind) (rest : List Entry) → IsOther (delay_in m pid line cell k rest)
  delayed_other line cell (kind.Monitor monitor) rest = either (is_true (slice_index_or m.permanents cell (pos 0))) _ _ refl refl
  delayed_other line cell kind.Class rest = refl
  delayed_other line cell (kind.Process number) rest = refl

  delay_other : (line : ℕ) (rest : List Entry) (a : Address) → IsOther (delay_at r m pid line rest a)
  delay_other line rest (address.Permanent cell) = delayed_other line cell (component_at r (thread_at m.threads pid).frame.component).kind rest
  delay_other line rest (address.Local cell) = refl

  abbrev Ends : Stepped → List Entry → Type 0
  Ends x es = is_continued x.event ≡ true → EndsInMonitor (from_end es)

  never : (x : Stepped) (es : List Entry) → IsOther x → Ends x es
  never x es h = λ e. absurd (let bad : true ≡ false = sym e ∙ h in cc)

  continued_ends : (n : Machine) (cell : ℕ) (es : List Entry) → is_continued (continue_from r n pid cell es).event ≡ true → EndsInMonitor es
  continued_ends n cell (Return caller result (Some monitor) ∷ es) = λ e. (caller, result, monitor, es, refl)
  continued_ends n cell [] = λ e. absurd (cc)
  continued_ends n cell (Rest at ∷ es) = λ e. absurd (cc)
  continued_ends n cell (Successor at z last ∷ es) = λ e. absurd (cc)
  continued_ends n cell (InitEnd caller component ∷ es) = λ e. absurd (cc)
  continued_ends n cell (Return caller result None ∷ es) = λ e. absurd (cc)

  abbrev Returns : Type 0
  Returns = m.discipline.signals ≡ signals.Return

  continue_ends : Returns → (line : ℕ) (next : Option ℕ) (es : List Entry) (at : Result Address ErrorName) → Ends (with_value at (fault m pid line) (continue_at r m pid next es)) es
  continue_ends by line next es (Ok (address.Permanent cell)) =
      subst (λ (s : Signals). Ends (continue_by s r m pid cell next es) es) (sym by) (continued_ends (with_stack m pid (from_end es)) cell (from_end es))
  continue_ends by line next es (Ok (address.Local cell)) = λ e. absurd (cc)
  continue_ends by line next es (Err f) = λ e. absurd (cc)

  act_other : (at : ℕ) (item : Item) (a : Action) (es : List Entry) → is_continue a ≡ false → IsOther (act r m pid at item a es)
  act_other at item Empty es plain = refl
  act_other at item (Assign target value low high) es plain =
      (evaluated (value_of m pid value) _ _ (λ e. refl) (λ v.
      evaluated (address_of m pid target) _ _ (λ e. refl) (λ p.
      evaluated (check_range low high v) _ _ (λ e. refl) (λ w. refl))))
  act_other at item (AssignSet target value low high) es plain =
      (evaluated (set_of m pid value) _ _ (λ e. refl) (λ v.
      evaluated (address_of m pid target) _ _ (λ e. refl) (λ p.
      evaluated (sets.check_members low high v) _ _ (λ e. refl) (λ w. refl))))
  act_other at item (Copy target source size) es plain =
      (evaluated (address_of m pid source) _ _ (λ e. refl) (λ from.
      evaluated (address_of m pid target) _ _ (λ e. refl) (λ to. refl)))
  act_other at item (Block list) es plain = refl
  act_other at item (If test list other) es plain = (evaluated (value_of m pid test) _ _ (λ e. refl) (λ v. refl))
  act_other at item (Case selector arms) es plain =
      (evaluated (value_of m pid selector) _ _ (λ e. refl) (λ v.
      evaluated (arm_for v arms.items) _ _ (λ e. refl) (λ list. refl)))
  act_other at item (Assert test said) es plain = (evaluated (value_of m pid test) _ _ (λ e. refl) (λ v. either (is_true v) _ _ refl refl))
  act_other at item (While test list again) es plain = (evaluated (value_of m pid test) _ _ (λ e. refl) (λ v. refl))
  act_other at item (Until test list again) es plain = (evaluated (value_of m pid test) _ _ (λ e. refl) (λ v. refl))
  act_other at item (For variable low high first last down list) es plain =
      (evaluated (value_of m pid first) _ _ (λ e. refl) (λ x.
      evaluated (value_of m pid last) _ _ (λ e. refl) (λ y.
      either (is_beyond down x y) _ _ refl
      (evaluated (check_range low high x) _ _ (λ e. refl) (λ z. refl)))))
  act_other at item (Cycle list) es plain = refl
  act_other at item (Call routine component is_entry arguments result) es plain =
      (evaluated (component_of m pid component) _ _ (λ e. refl) (λ c.
      evaluated (arguments_of m pid arguments.items) _ _ (λ e. refl) (λ bs. called_by_other item.line is_entry routine c arguments.items bs result _)))
  act_other at item (Start component routine arguments) es plain =
      (evaluated (component_of m pid component) _ _ (λ e. refl) (λ c.
      evaluated (arguments_of m pid arguments.items) _ _ (λ e. refl) (λ bs. started_other item.line (component_at r c).kind routine c arguments.items bs _)))
  act_other at item (Delay place) es plain = (evaluated (address_of m pid place) _ _ (λ e. refl) (λ p. delay_other item.line _ p))
  act_other at item (Display value shown) es plain = (evaluated (value_of m pid value) _ _ (λ e. refl) (λ v. either (length m.output == MOST_SHOWN) _ _ refl refl))
  act_other at item (Continue place) es plain = absurd (cc)

  act_ends : Returns → (at : ℕ) (item : Item) (a : Action) (es : List Entry) → Ends (act r m pid at item a es) es
  act_ends by at item (Continue place) es = continue_ends by item.line item.next es (address_of m pid place)
  act_ends by at item a es = never (act r m pid at item a es) es (act_other at item a es refl)

  successor_other : (at : ℕ) (item : Item) (a : Action) (es : List Entry) (z last : ℤ) → IsOther (successor_step m pid at item a es z last)
  successor_other at item (For variable low high first end down list) es z last =
      either (int_eq z last) _ _ refl
      (evaluated (next_value down low high z) _ _ (λ e. refl) (λ w. refl))
  successor_other at item _ es z last = refl

  top_ends : Returns → (es : List Entry) → Ends (take_top r m pid es) es
  top_ends by [] = never (take_top r m pid []) [] refl
  top_ends by (Rest at ∷ es) = act_ends by at (item_at r at) (item_at r at).action es
  top_ends by (Successor at z last ∷ es) = never (take_top r m pid (Successor at z last ∷ es)) (Successor at z last ∷ es) (successor_other at (item_at r at) (item_at r at).action es z last)
  top_ends by (Return caller result None ∷ es) = never (take_top r m pid (Return caller result None ∷ es)) (Return caller result None ∷ es) refl
  top_ends by (Return caller result (Some monitor) ∷ es) = never (take_top r m pid (Return caller result (Some monitor) ∷ es)) (Return caller result (Some monitor) ∷ es) refl
  top_ends by (InitEnd caller component ∷ es) = never (take_top r m pid (InitEnd caller component ∷ es)) (InitEnd caller component ∷ es) refl

  pub continue_in_monitor : Returns → (step_at r m pid).event ≡ Kernel kernel.Continue → EndsInMonitor (from_end (thread_at m.threads pid).stack)
  continue_in_monitor by e = top_ends by (thread_at m.threads pid).stack (ap is_continued e)

-- ---- so it is on names

module _ (t : Tree) (r : Tables) (l : Layouts) where
  left_of_monitor : (c : named.Call) (k : CallKind) (d : ComponentKind) (j : ℕ) → Some j ≡ monitor_left r c k d → d ≡ kind.Monitor j
  left_of_monitor c entry_routine (kind.Monitor n) j e = ap kind.Monitor (let same : Some n ≡ Some j = sym e in let one : n ≡ j = cc in one)
  left_of_monitor c entry_routine kind.Class j e = absurd (cc)
  left_of_monitor c entry_routine (kind.Process n) j e = absurd (cc)
  left_of_monitor c own_statement d j e = absurd (cc)
  left_of_monitor c initial_statement d j e = absurd (cc)
  left_of_monitor c local_routine d j e = absurd (cc)

  same_end : (caller caller' : Frame) (result result' monitor : Option ℕ) (j : ℕ) (es rest : List Entry) → Return caller result monitor ∷ es ≡ Return caller' result' (Some j) ∷ rest → monitor ≡ Some j
  same_end caller caller' result result' monitor j es rest e = cc

  pub executes_monitor : (es : List Entry) (f : Frame) (calls : List named.Call) (items : List named.Item) → StackIs (ground_of t r) t.program l f calls items es → EndsInMonitor (from_end es) → (j : ℕ) × ((component_at r (current calls).component).kind ≡ kind.Monitor j)
  executes_monitor [] f calls items is h = absurd (let bad : [] ≡ Return h.0 h.1 (Some h.2) ∷ h.3 = h.4 in cc)
  executes_monitor (Rest at ∷ es) f calls items is h = executes_monitor es f calls is.1 is.4 h
  executes_monitor (Successor at z last ∷ es) f calls items is h = executes_monitor es f calls is.2 is.5 h
  executes_monitor (Return caller slot monitor ∷ es) f calls items is h = (
    h.2,
    ap (λ (cs : List named.Call). (component_at r (current cs).component).kind) is.4
        ∙ left_of_monitor is.0 is.0.kind (component_at r is.0.component).kind h.2 (sym (same_end caller h.0 slot h.1 monitor h.2 es h.3 h.4) ∙ is.6.2),
  )
  executes_monitor (InitEnd caller n ∷ es) f calls items is h = absurd (let bad : InitEnd caller n ∷ es ≡ Return h.0 h.1 (Some h.2) ∷ h.3 = h.4 in cc)
