-- What the frames of all processes may name stays there in a step.
use Rattle.std.proofs.Common.{◌≡◌, ℕ, ◌<◌, List, [], ◌∷◌, length, Option, Some, None, Result, Ok, Err, if◌then◌else◌, Bool, true, false, sym, refl, subst, arith, get_or-set_same}
use Rattle.cp_machine.proofs.Words.{ℤ, ◌==◌, slice_index_or, ◌&&◌, IsTrue, pos, int_eq, length-set, Tables, item_at, routine_at, component_at, IsSound, ListFits}
use Rattle.cp_machine.proofs.Words.{CallFits, ActionFits, IsOf, IsTyped, Names, ActionNames, Action, Argument, ComponentPlace, PlaceOrigin, ComponentKind, Bound}
use Rattle.cp_machine.proofs.Words.{ErrorName, Address, SetValue, bind_component, put_number, put_copy, check_range, is_true, and_left, and_right, Entry, Rest, Successor}
use Rattle.cp_machine.proofs.Words.{Return, InitEnd, Ready, Ended, MOST_SHOWN, EntryFits, StackFits, MachineFits, size_of, StackReaches, rest_of, from_end, act, take_top}
use Rattle.cp_machine.proofs.Words.{step_at, action_inside, component_inside, arguments_inside, binds_from, result_inside, Empty, Assign, AssignSet, Copy, Block, If}
use Rattle.cp_machine.proofs.Words.{Case, Assert, While, Until, For, Cycle, Call, Start, Delay, Continue, Display, Machine, Thread, thread_at, no_thread, phase_at}
use Rattle.cp_machine.proofs.Words.{is_initialised, is_uninitialised, is_unstarted, with_stack, Stepped, arm_for, is_beyond, next_value, successor_step, with_value, gone_on}
use Rattle.cp_slots.specs.declared.tables.ComponentKind.TheVariants as kind
use Rattle.cp_store.specs.declared.memory.Address.TheVariants as address
use Rattle.cp_store.specs.Sets as sets
use Rattle.cp_machine.specs.Calls.{open_call, leave_frame, call_in, call_by, start_inside, start_by, open_frame, delay_in, delay_at, continue_from, continue_in, continue_by, continue_at}
use Rattle.cp_machine.specs.declared.discipline.Signals.{Signals}
use Rattle.cp_machine.specs.declared.discipline.Signals.TheVariants as signals
use Rattle.cp_machine.specs.Memory.{memory_at, value_of, set_of, address_of, component_of, arguments_of, origin_of, number_put, set_put, set_written, cells_put, parameters_bound}
use Rattle.cp_machine.proofs.frames.Framing.{Framed, rest_reaches, end_reaches, stack_framed, status_framed, memory_framed, let_in_framed, entered_framed, delayed_framed, continued_framed, signalled_framed, names_number, names_set, names_copy, names_component}
use Rattle.cp_machine.proofs.frames.FramingSteps.{left_framed, opened_framed, called_framed}
use Rattle.cp_machine.proofs.rooms.Keeping.{end_fits, rest_fits, stack_fits}
use Rattle.cp_machine.proofs.rooms.KeepingAct.{action_fits, list_fits}

abbrev Good : Tables → Stepped → Type 0
Good r x = Framed r x.machine

value_good : {A : Type 0} (r : Tables) (o : Result A ErrorName) (failed : ErrorName → Stepped) (go : A → Stepped) → ((e : ErrorName) → Good r (failed e)) → ((v : A) → o ≡ Ok v → Good r (go v)) → Good r (with_value o failed go)
value_good r (Ok v) failed go f g = g v refl
value_good r (Err e) failed go f g = f e

either_good : (r : Tables) (b : Bool) (x y : Stepped) → Good r x → Good r y → Good r (if b then x else y)
either_good r true x y h k = h
either_good r false x y h k = k

-- ---- writes

number_framed : (r : Tables) (m : Machine) (pid : ℕ) (at : Address) (v : ℤ) → Framed r m → Framed r (number_put m pid at v)
number_framed r m pid at v h = memory_framed r m pid (put_number (memory_at m pid) at v) (names_number (memory_at m pid) at v) h

set_framed : (r : Tables) (m : Machine) (pid : ℕ) (at : Address) (v : SetValue) → Framed r m → Framed r (set_put m pid at v)
set_framed r m pid at v h = memory_framed r m pid (set_written (memory_at m pid) at v) (names_set (memory_at m pid) at v) h

cells_framed : (r : Tables) (m : Machine) (pid : ℕ) (to from : Address) (size : ℕ) → Framed r m → Framed r (cells_put m pid to from size)
cells_framed r m pid to from size h = memory_framed r m pid (put_copy (memory_at m pid) to from size) (names_copy (memory_at m pid) to from size) h

-- parameters of a component are bound
parameters_framed : (r : Tables) (m : Machine) (pid base : ℕ) (arguments : List Argument) (bounds : List Bound) → Framed r m → Framed r (parameters_bound m pid base arguments bounds)
parameters_framed r m pid base arguments bounds h =
    memory_framed r m pid (bind_component (memory_at m pid) base arguments bounds) (names_component (memory_at m pid) base arguments bounds) h

-- what is known of components: what a statement of the process names is of the system type that it wants
abbrev pub Finds : Tables → Machine → ℕ → Type 0
Finds r m pid = (place : ComponentPlace) (named component : ℕ) → Names r (routine_at r (thread_at m.threads pid).frame.routine).system place named → component_of m pid place ≡ Ok component → IsOf r named component

module _ (r : Tables) (m : Machine) (pid : ℕ) (lt : pid < length m.threads) (sound : IsSound r) (typed : IsTyped r) (fits : MachineFits r m) (framed : Framed r m) (finds : Finds r m pid) where
  abbrev t : Thread
  t = thread_at m.threads pid

  abbrev Below : List Entry → Type 0
  Below es = StackReaches r t.references t.frame es

  with_rest : (list : Option ℕ) (es : List Entry) → Below es → Below (rest_of list es)
  with_rest list es h = rest_reaches r t.references t.frame list es h

  with_entries : (es : List Entry) → Below es → Framed r (with_stack m pid es)
  with_entries es h = stack_framed r m pid es (λ l. h) framed

  either_below : (b : Bool) (es fs : List Entry) → Below es → Below fs → Below (if b then es else fs)
  either_below true es fs h k = h
  either_below false es fs h k = k

  module _ (at : ℕ) (es : List Entry) (below : Below es) (s : StackFits r t.frame (Rest at ∷ es)) (n : ListFits r t.frame.routine (item_at r at).need (item_at r at).next) where
    abbrev next : List Entry
    next = rest_of (item_at r at).next es

    next_below : Below next
    next_below = with_rest (item_at r at).next es below

    next_fits : StackFits r t.frame next
    next_fits = rest_fits r t.frame (item_at r at).next (item_at r at).need es n s.0.deep s.1

    going : Framed r (with_stack m pid next)
    going = with_entries next next_below

    goes : (variable : PlaceOrigin) (list : Option ℕ) (last z : ℤ) → Framed r (gone_on m pid at variable list es last z)
    goes variable list last z =
        number_framed r (with_stack m pid (rest_of list (Successor at z last ∷ es))) pid (origin_of m pid variable) z (with_entries _ (with_rest list (Successor at z last ∷ es) below))

    -- ---- calls

    module _ (routine : ℕ) (arguments : List Argument) (fit : CallFits r t.frame.routine (item_at r at).need routine arguments) (component : ℕ) (of : IsOf r (routine_at r routine).system component) (bounds : List Bound) (given : arguments_of m pid arguments ≡ Ok bounds) where
      module _ (inside : arguments_inside (routine_at r t.frame.routine) (routine_at r routine) (size_of r routine) arguments ≡ true) (ends : binds_from (length (routine_at r routine).extents) 0 arguments ≡ true) (slot : Option ℕ) (takes : result_inside (routine_at r t.frame.routine) (routine_at r routine) slot ≡ true) where
        calls : (monitor : Option ℕ) → Framed r (open_call r m pid routine component arguments bounds slot monitor next)
        calls monitor = called_framed r m pid lt sound typed fits framed routine component (item_at r at).need arguments fit of next next_fits next_below bounds inside ends given slot monitor takes

        calls_in : (k : ComponentKind) → Good r (call_in r m pid k routine component arguments bounds slot next)
        calls_in (kind.Monitor monitor) = entered_framed r (open_call r m pid routine component arguments bounds slot (Some monitor) next) pid monitor (calls (Some monitor))
        calls_in kind.Class = calls None
        calls_in (kind.Process number) = going

        calls_by : (is_entry : Bool) → Good r (call_by r m pid (item_at r at).line is_entry routine component arguments bounds slot next)
        calls_by false = calls None
        calls_by true = either_good r (is_initialised (phase_at m component)) _ _ (calls_in (component_at r component).kind) framed

      module _ (none : (routine_at r routine).references ≡ 0) where
        starts_inside : Good r (start_inside r m pid (item_at r at).line routine component arguments bounds next)
        starts_inside =
            either_good r (is_uninitialised (phase_at m component)) _ _
            (parameters_framed r (open_frame r m pid routine component (InitEnd t.frame component) next) pid (component_at r component).base arguments bounds (opened_framed r m pid lt sound typed fits framed routine component (item_at r at).need arguments fit of next next_fits next_below none)) framed

        starts : (k : ComponentKind) → Good r (start_by r m pid (item_at r at).line k routine component arguments bounds next)
        starts (kind.Process q) =
            either_good r (is_unstarted (thread_at m.threads q).status) _ _
            (status_framed r (parameters_bound (with_stack m pid next) pid (component_at r component).base arguments bounds) q Ready (parameters_framed r (with_stack m pid next) pid (component_at r component).base arguments bounds going)) framed
        starts _ = starts_inside

    -- ---- queues

    delays_in : (cell : ℕ) (k : ComponentKind) → Good r (delay_in m pid (item_at r at).line cell k next)
    delays_in cell (kind.Monitor monitor) = either_good r (is_true (slice_index_or m.permanents cell (pos 0))) _ _ framed (delayed_framed r (with_stack m pid next) pid monitor cell going)
    delays_in cell _ = going

    delays : (a : Address) → Good r (delay_at r m pid (item_at r at).line next a)
    delays (address.Permanent cell) = delays_in cell (component_at r t.frame.component).kind
    delays (address.Local cell) = going

    -- ---- items

    abbrev Facts : Action → Type 0
    Facts a = ActionFits r t.frame.routine (item_at r at).need a × IsTrue (action_inside r (routine_at r t.frame.routine) a) × ActionNames r (routine_at r t.frame.routine).system a

    acts : (a : Action) → Facts a → Good r (act r m pid at (item_at r at) a es)
    acts Empty a = going
    acts (Assign target value low high) a =
        value_good r (value_of m pid value) _ _ (λ e. framed) (λ v is.
        value_good r (address_of m pid target) _ _ (λ e. framed) (λ p is.
        value_good r (check_range low high v) _ _ (λ e. framed) (λ w is. number_framed r (with_stack m pid next) pid p w going)))
    acts (AssignSet target value low high) a =
        value_good r (set_of m pid value) _ _ (λ e. framed) (λ v is.
        value_good r (address_of m pid target) _ _ (λ e. framed) (λ p is.
        value_good r (sets.check_members low high v) _ _ (λ e. framed) (λ w is. set_framed r (with_stack m pid next) pid p w going)))
    acts (Copy target source size) a =
        value_good r (address_of m pid source) _ _ (λ e. framed) (λ from is.
        value_good r (address_of m pid target) _ _ (λ e. framed) (λ to is. cells_framed r (with_stack m pid next) pid to from size going))
    acts (Block list) a = with_entries _ (with_rest list next next_below)
    acts (If test list other) a =
        value_good r (value_of m pid test) _ _ (λ e. framed) (λ v is. with_entries _ (with_rest _ next next_below))
    acts (Case selector arms) a =
        value_good r (value_of m pid selector) _ _ (λ e. framed) (λ v is.
        value_good r (arm_for v arms.items) _ _ (λ e. framed) (λ list is. with_entries _ (with_rest list next next_below)))
    acts (Assert test said) a =
        value_good r (value_of m pid test) _ _ (λ e. framed) (λ v is. either_good r (is_true v) _ _ going framed)
    acts (While test list again) a =
        value_good r (value_of m pid test) _ _ (λ e. framed) (λ v is. with_entries _ (either_below (is_true v) _ _ (with_rest list (Rest again ∷ es) below) next_below))
    acts (Until test list again) a =
        value_good r (value_of m pid test) _ _ (λ e. framed) (λ v is. with_entries _ (either_below (is_true v) _ _ next_below (with_rest list (Rest again ∷ es) below)))
    acts (For variable low high first last down list) a =
        value_good r (value_of m pid first) _ _ (λ e. framed) (λ x is.
        value_good r (value_of m pid last) _ _ (λ e. framed) (λ y is.
        either_good r (is_beyond down x y) _ _ going
        (value_good r (check_range low high x) _ _ (λ e. framed) (λ z is. goes variable list y z))))
    acts (Cycle list) a = with_entries _ (with_rest list (Rest at ∷ es) below)
    acts (Call routine component is_entry arguments slot) a =
        let caller = routine_at r t.frame.routine in
        let callee = routine_at r routine in
        let finds_inside = component_inside caller component in
        let gives = arguments_inside caller callee (length callee.image) arguments.items in
        let binds = binds_from (length callee.extents) 0 arguments.items in
        let takes = result_inside caller callee slot in
        let others = and_right finds_inside (gives && (binds && takes)) a.1 in
        let ends = and_right gives (binds && takes) others in
        value_good r (component_of m pid component) _ _ (λ e. framed) (λ c is.
        value_good r (arguments_of m pid arguments.items) _ _ (λ e. framed) (λ bs given.
        calls_by routine arguments.items a.0 c (finds component callee.system c a.2.0 is) bs given (and_left gives (binds && takes) others) (and_left binds takes ends) slot (and_right binds takes ends) is_entry))
    acts (Start component routine arguments) a =
        value_good r (component_of m pid component) _ _ (λ e. framed) (λ c is.
        value_good r (arguments_of m pid arguments.items) _ _ (λ e. framed) (λ bs given.
        starts routine arguments.items a.0 c (finds component (routine_at r routine).system c a.2.0 is) bs given a.2.2 (component_at r c).kind))
    acts (Delay place) a = value_good r (address_of m pid place) _ _ (λ e. framed) (λ p is. delays p)
    acts (Continue place) a = value_good r (address_of m pid place) _ _ (λ e. framed) (λ p is. continues p)
      where
        continued_good : (n : Machine) (es : List Entry) (cell : ℕ) → pid < length n.threads → MachineFits r n → Framed r n → StackFits r (thread_at n.threads pid).frame es → StackReaches r (thread_at n.threads pid).references (thread_at n.threads pid).frame es → Good r (continue_from r n pid cell es)
        continued_good n [] cell l f h s b = h
        continued_good n (Rest at ∷ es) cell l f h s b = h
        continued_good n (Successor at z last ∷ es) cell l f h s b = h
        continued_good n (InitEnd caller component ∷ es) cell l f h s b = h
        continued_good n (Return caller slot None ∷ es) cell l f h s b = h
        continued_good n (Return caller slot (Some monitor) ∷ es) cell l f h s b = continued_framed r (leave_frame r n pid caller slot es) monitor cell (left_framed r n pid l sound typed f h caller slot es s.0 s.3 b.2)

        goes_on : (cell : ℕ) (k : ComponentKind) → Good r (continue_in m pid cell k (rest_of (item_at r at).next es))
        goes_on cell (kind.Monitor monitor) = signalled_framed r (with_stack m pid (rest_of (item_at r at).next es)) pid monitor cell going
        goes_on cell kind.Class = going
        goes_on cell (kind.Process number) = going

        returns : (cell : ℕ) → Good r (continue_from r (with_stack m pid (from_end es)) pid cell (from_end es))
        returns cell =
            let e = end_fits r t.frame es s.1 in
            let b = end_reaches r t.references t.frame es below in
            let x : Thread = record t { stack = from_end es } in
            let n = with_stack m pid (from_end es) in
            let same : thread_at n.threads pid ≡ x = get_or-set_same m.threads pid x no_thread lt in
            let long : length n.threads ≡ length m.threads = length-set m.threads pid x in
            continued_good n (from_end es) cell (omega (arith, lt, long)) (stack_fits r m pid _ e fits) (with_entries (from_end es) b)
            (subst (λ y. StackFits r y.frame (from_end es)) (sym same) e) (subst (λ y. StackReaches r y.references y.frame (from_end es)) (sym same) b)

        by : (signals : Signals) (cell : ℕ) → Good r (continue_by signals r m pid cell (item_at r at).next es)
        by signals.Return cell = returns cell
        by signals.Continue cell = goes_on cell (component_at r (thread_at m.threads pid).frame.component).kind
        by signals.Wait cell = goes_on cell (component_at r (thread_at m.threads pid).frame.component).kind

        continues : (p : Address) → Good r (continue_at r m pid (item_at r at).next es p)
        continues (address.Local cell) = going
        continues (address.Permanent cell) = by m.discipline.signals cell
    acts (Display value kind) a =
        value_good r (value_of m pid value) _ _ (λ e. framed) (λ v is. either_good r (length m.output == MOST_SHOWN) _ _ framed going)

    succeeds_good : (a : Action) (z last : ℤ) → Good r (successor_step m pid at (item_at r at) a es z last)
    succeeds_good (For variable low high first end down list) z last =
        either_good r (int_eq z last) _ _ going
        (value_good r (next_value down low high z) _ _ (λ e. framed) (λ w is. goes variable list last w))
    succeeds_good _ z last = going

  -- what is known of an item that is on the control stack
  facts_at : (at : ℕ) (below : ℕ) → EntryFits r t.frame at below → ActionFits r t.frame.routine (item_at r at).need (item_at r at).action × IsTrue (action_inside r (routine_at r t.frame.routine) (item_at r at).action) × ActionNames r (routine_at r t.frame.routine).system (item_at r at).action
  facts_at at below e = (
    action_fits r m pid at below sound e,
    subst (λ k. IsTrue (action_inside r (routine_at r k) (item_at r at).action)) e.nests.same (sound.inside at e.nests.place),
    subst (λ k. ActionNames r (routine_at r k).system (item_at r at).action) e.nests.same (typed.actions at e.nests.place),
  )

  top_framed : (es : List Entry) → StackFits r t.frame es → Below es → Good r (take_top r m pid es)
  top_framed [] s b = status_framed r m pid Ended framed
  top_framed (Rest at ∷ es) s b = acts at es b s (list_fits r m pid at (length es) sound s.0) (item_at r at).action (facts_at at (length es) s.0)
  top_framed (Successor at z last ∷ es) s b = succeeds_good at es b s (list_fits r m pid at (length es) sound s.0) (item_at r at).action z last
  top_framed (Return caller slot None ∷ es) s b = left_framed r m pid lt sound typed fits framed caller slot es s.0 s.3 b.2
  top_framed (Return caller slot (Some monitor) ∷ es) s b = let_in_framed r (leave_frame r m pid caller slot es) monitor (left_framed r m pid lt sound typed fits framed caller slot es s.0 s.3 b.2)
  top_framed (InitEnd caller component ∷ es) s b = left_framed r m pid lt sound typed fits framed caller None es s.0 s.2 b.2

  -- a step keeps what the frames of all processes may name
  pub step_framed : Framed r (step_at r m pid).machine
  step_framed = top_framed t.stack (fits.each pid lt).stack (framed pid lt)
