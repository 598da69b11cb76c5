-- In each state of the slot machine a frame that is left by a return executes a routine, which has a name, and not an initial statement.
use Rattle.std.proofs.Common.{◌≡◌, ◌∙◌, ◌⊎◌, inl, inr, ℕ, ◌<◌, ◌≤◌, ◌==◌, Bool, true, false, if◌then◌else◌, List, [], ◌∷◌, length, Option, Some, None, Result, Ok, Err, ap, map, sym, subst, arith}
use Rattle.std.proofs.lemmas.Bool.{cases_lt}
use Rattle.std.proofs.lemmas.List.{get_or-map, get_or_past, length-map}
use Rattle.std.specs.Ordering.{int_eq}
use Rattle.std.specs.Prelude.{ℤ, pos, slice_index_or, slice_set}
use Rattle.cp_slots.specs.declared.item.Action.{Action}
use Rattle.cp_slots.specs.declared.item.Action.TheVariants.{Empty, Assign, AssignSet, Copy, Block, If, Case, Assert, While, Until, For, Cycle, Call, Start, Delay, Continue, Display}
use Rattle.cp_slots.specs.declared.item.Item.{Item}
use Rattle.cp_slots.specs.declared.place.Argument.{Argument}
use Rattle.cp_slots.specs.declared.place.PlaceOrigin.{PlaceOrigin}
use Rattle.cp_slots.specs.declared.tables.ComponentKind.{ComponentKind}
use Rattle.cp_slots.specs.declared.tables.ComponentKind.TheVariants as kind
use Rattle.cp_slots.specs.Code.{action_seen}
use Rattle.cp_slots.specs.Tables.{Tables, component_at, item_at, no_process, routine_at}
use Rattle.cp_store.specs.declared.argument.Bound.{Bound}
use Rattle.cp_store.specs.declared.error.ErrorName.{ErrorName}
use Rattle.cp_store.specs.declared.memory.Address.{Address}
use Rattle.cp_store.specs.declared.memory.Address.TheVariants as address
use Rattle.cp_store.specs.declared.memory.Frame.{Frame}
use Rattle.cp_store.specs.Sets as sets
use Rattle.cp_store.specs.Values.{is_true, check_range}
use Rattle.cp_machine.specs.declared.discipline.Discipline.{Discipline}
use Rattle.cp_machine.specs.declared.discipline.Gates.{Gates}
use Rattle.cp_machine.specs.declared.discipline.Gates.TheVariants.{First, Any}
use Rattle.cp_machine.specs.declared.discipline.Signals.{Signals}
use Rattle.cp_machine.specs.declared.discipline.Signals.TheVariants as signals
use Rattle.cp_machine.specs.declared.process.Entry.{Entry}
use Rattle.cp_machine.specs.declared.process.Entry.TheVariants.{Rest, Successor, Return, InitEnd}
use Rattle.cp_machine.specs.declared.process.Status.{Status}
use Rattle.cp_machine.specs.declared.process.Status.TheVariants.{AtGate, Delayed, Ended, Ready}
use Rattle.cp_machine.specs.declared.state.TheConstants.{MOST_SHOWN}
use Rattle.cp_machine.specs.Calls.{open_call, call_in, call_by, start_by, start_inside, delay_in, delay_at, continue_at, continue_by, continue_from, continue_in, frame_behind, leave_frame, open_frame}
use Rattle.cp_machine.specs.Kernel.{resume, delay_caller, enter_by, first_in, let_in, let_in_by, one_in, go_on_inside, signal, signal_by, waits_in}
use Rattle.cp_machine.specs.Machine.{Machine, Thread, is_initialised, is_uninitialised, is_unstarted, monitor_at, no_thread, phase_at, thread_at, with_stack, with_status}
use Rattle.cp_machine.specs.Memory.{address_of, arguments_of, component_of, parameters_bound, set_of, value_of}
use Rattle.cp_machine.specs.Opening.{admit_waiting, admit_at, opening, still, unstarted_thread}
use Rattle.cp_machine.specs.Stack.{from_end, rest_of}
use Rattle.cp_machine.specs.Statements.{Stepped, arm_for, gone_on, is_beyond, next_value, successor_step, with_value}
use Rattle.cp_machine.specs.Step.{act, step_at, take_top}
use Rattle.cp_meaning.proofs.Frames.{at_set}
use Rattle.cp_meaning.specs.State as named
use Rattle.cp_meaning.specs.State.{current, entry_routine, initial_statement, own_statement}
use Rattle.cp_resolved.specs.Layouts.{Layouts}
use Rattle.cp_resolved.specs.Openings.{Opening}
use Rattle.cp_resolved.specs.Stands.{Ground}
use Rattle.cp_tree.specs.Syntax.{Program}
use Rattle.cp_machine_laws.specs.Represents.{StackIs}
use Rattle.cp_story_laws.proofs.CalledRoutines.{CallsRoutine, IsCalled}

module _ (os : List Opening) where
  -- of a control stack with the frame that is executed
  abbrev pub Named : Frame → List Entry → Type 0
  Named f [] = Unit {0}
  Named f (Rest at ∷ es) = Named f es
  Named f (Successor at z last ∷ es) = Named f es
  Named f (Return caller result monitor ∷ es) = IsCalled os f.routine × Named caller es
  Named f (InitEnd caller component ∷ es) = Named caller es

  abbrev IsNamed : Thread → Type 0
  IsNamed t = Named t.frame t.stack

  abbrev AllNamed : List Thread → Type 0
  AllNamed ts = (q : ℕ) → IsNamed (thread_at ts q)

  abbrev pub AreNamed : Machine → Type 0
  AreNamed m = AllNamed m.threads

  -- an entry call executes a routine with a name
  pub entry_named : (g : Ground) (p : Program) (l : Layouts) (es : List Entry) (f : Frame) (calls : List named.Call) (items : List named.Item) → StackIs g p l f calls items es → (current calls).kind ≡ entry_routine → Named f es → IsCalled os f.routine
  entry_named g p l [] f calls items is e h = absurd (let bad : own_statement ≡ entry_routine = sym is.3 ∙ (sym (ap (λ (cs : List named.Call). (current cs).kind) is.1) ∙ e) in cc)
  entry_named g p l (Rest at ∷ es) f calls items is e h = entry_named g p l es f calls is.1 is.4 e h
  entry_named g p l (Successor at z last ∷ es) f calls items is e h = entry_named g p l es f calls is.2 is.5 e h
  entry_named g p l (Return caller slot monitor ∷ es) f calls items is e h = h.0
  entry_named g p l (InitEnd caller n ∷ es) f calls items is e h = absurd (let bad : initial_statement ≡ entry_routine = sym is.5 ∙ (sym (ap (λ (cs : List named.Call). (current cs).kind) is.3) ∙ e) in cc)

  -- ---- control stacks

  rest_named : (f : Frame) (list : Option ℕ) (es : List Entry) → Named f es → Named f (rest_of list es)
  rest_named f None es h = h
  rest_named f (Some at) es h = h

  end_named : (f : Frame) (es : List Entry) → Named f es → Named f (from_end es)
  end_named f [] h = h
  end_named f (Rest at ∷ es) h = end_named f es h
  end_named f (Successor at z last ∷ es) h = end_named f es h
  end_named f (Return caller result monitor ∷ es) h = h
  end_named f (InitEnd caller component ∷ es) h = h

  either_named : (f : Frame) (b : Bool) (es fs : List Entry) → Named f es → Named f fs → Named f (if b then es else fs)
  either_named f true es fs h k = h
  either_named f false es fs h k = k

  -- ---- parts of a machine

  set_named : (ts : List Thread) (pid : ℕ) (x : Thread) → IsNamed x → AllNamed ts → AllNamed (slice_set ts pid x)
  set_named ts pid x k h q = go (at_set ts pid q x no_thread)
    where
      go : ((q ≡ pid) × (pid < length ts) × (thread_at (slice_set ts pid x) q ≡ x)) ⊎ ((q ≡ pid → length ts ≤ pid) × (thread_at (slice_set ts pid x) q ≡ thread_at ts q)) → IsNamed (thread_at (slice_set ts pid x) q)
      go (inl w) = subst IsNamed (sym w.2) k
      go (inr w) = subst IsNamed (sym w.1) (h q)

  status_named : (m : Machine) (pid : ℕ) (status : Status) → AreNamed m → AreNamed (with_status m pid status)
  status_named m pid status h = set_named m.threads pid (record (thread_at m.threads pid) { status = status }) (h pid) h

  stack_named : (m : Machine) (pid : ℕ) (es : List Entry) → Named (thread_at m.threads pid).frame es → AreNamed m → AreNamed (with_stack m pid es)
  stack_named m pid es k h = set_named m.threads pid (record (thread_at m.threads pid) { stack = es }) k h

  memory_named : (ts : List Thread) (pid : ℕ) (cells : List ℤ) (references : List Address) → AllNamed ts → AllNamed (slice_set ts pid (record (thread_at ts pid) { cells = cells; references = references }))
  memory_named ts pid cells references h = set_named ts pid (record (thread_at ts pid) { cells = cells; references = references }) (h pid) h

  -- ---- the kernel

  first_named : (m : Machine) (monitor : ℕ) (line : List ℕ) → AreNamed m → AreNamed (first_in m monitor line)
  first_named m monitor [] h = h
  first_named m monitor (q ∷ line) h = status_named m q Ready h

  one_named : (m : Machine) (monitor : ℕ) (line : List ℕ) → AreNamed m → AreNamed (one_in m monitor line)
  one_named m monitor [] h = h
  one_named m monitor (q ∷ []) h = status_named m q Ready h
  one_named m monitor (p ∷ q ∷ line) h = h

  let_in_by_named : (gates : Gates) (m : Machine) (monitor : ℕ) (line : List ℕ) → AreNamed m → AreNamed (let_in_by gates m monitor line)
  let_in_by_named First m monitor line h = first_named m monitor line h
  let_in_by_named Any m monitor line h = one_named m monitor line h

  let_in_named : (m : Machine) (monitor : ℕ) → AreNamed m → AreNamed (let_in m monitor)
  let_in_named m monitor h = let_in_by_named m.discipline.gates m monitor (monitor_at m monitor).line h

  entered_named : (holder : Option ℕ) (m : Machine) (pid monitor : ℕ) → AreNamed m → AreNamed (enter_by holder m pid monitor)
  entered_named None m pid monitor h = h
  entered_named (Some q) m pid monitor h = status_named m pid (AtGate monitor) h

  delayed_named : (m : Machine) (pid monitor cell : ℕ) → AreNamed m → AreNamed (delay_caller m pid monitor cell)
  delayed_named m pid monitor cell h =
      let marked : Machine = record m { permanents = slice_set m.permanents cell (pos 1) } in
      let_in_named (with_status marked pid (Delayed cell)) monitor (status_named marked pid (Delayed cell) h)

  resumed_named : (waiter : Option ℕ) (m : Machine) (monitor : ℕ) → AreNamed m → AreNamed (go_on_inside waiter m monitor)
  resumed_named None m monitor h = let_in_named m monitor h
  resumed_named (Some q) m monitor h = status_named m q Ready h

  continued_named : (m : Machine) (monitor cell : ℕ) → AreNamed m → AreNamed (resume m monitor cell)
  continued_named m monitor cell h = resumed_named (waits_in m cell) (record m { permanents = slice_set m.permanents cell (pos 0) }) monitor h

  signalled_by_named : (by : Signals) (waiter : Option ℕ) (m : Machine) (pid monitor : ℕ) → AreNamed m → AreNamed (signal_by by waiter m pid monitor)
  signalled_by_named signals.Return None m pid monitor h = h
  signalled_by_named signals.Continue None m pid monitor h = h
  signalled_by_named signals.Wait None m pid monitor h = h
  signalled_by_named signals.Return (Some q) m pid monitor h = status_named m q (AtGate monitor) h
  signalled_by_named signals.Continue (Some q) m pid monitor h = status_named m q (AtGate monitor) h
  signalled_by_named signals.Wait (Some q) m pid monitor h = status_named (with_status m pid (AtGate monitor)) q Ready (status_named m pid (AtGate monitor) h)

  signalled_named : (m : Machine) (pid monitor cell : ℕ) → AreNamed m → AreNamed (signal m pid monitor cell)
  signalled_named m pid monitor cell h = signalled_by_named m.discipline.signals (waits_in m cell) (record m { permanents = slice_set m.permanents cell (pos 0) }) pid monitor h

  pub admitted_named : (m : Machine) (pid : ℕ) → AreNamed m → AreNamed (admit_waiting m pid)
  admitted_named m pid h = go m.pending
    where
      go : (o : Option ℕ) → AreNamed (admit_at o m pid)
      go None = h
      go (Some monitor) = status_named m pid Ready h

  -- ---- the opening

  still_named : (r : Tables) (discipline : Discipline) → AreNamed (still r discipline)
  still_named r discipline q = go (cases_lt q (length r.processes))
    where
      go : (q < length r.processes) ⊎ (length r.processes ≤ q) → IsNamed (thread_at (map (unstarted_thread r) r.processes) q)
      go (inl less) =
          let one = slice_index_or r.processes q no_process in
          subst IsNamed (sym (get_or-map (unstarted_thread r) r.processes q no_process no_thread less)) (rest_named (unstarted_thread r one).frame (routine_at r one.routine).body [] tt)
      go (inr past) = let long = length-map r.processes (unstarted_thread r) in subst IsNamed (sym (get_or_past (map (unstarted_thread r) r.processes) q no_thread (omega (arith, past, long)))) tt

  pub opening_named : (r : Tables) (discipline : Discipline) → AreNamed (opening r discipline)
  opening_named r discipline = status_named (still r discipline) 0 Ready (still_named r discipline)

  -- ---- a step

  module _ (r : Tables) (m : Machine) (pid : ℕ) (h : AreNamed m) where
    abbrev own : Thread
    own = thread_at m.threads pid

    abbrev Fit : Stepped → Type 0
    Fit x = AreNamed x.machine

    evaluated : {A : Type 0} (o : Result A ErrorName) (failed : ErrorName → Stepped) (go : A → Stepped) → ((e : ErrorName) → Fit (failed e)) → ((v : A) → Fit (go v)) → Fit (with_value o failed go)
    evaluated (Ok v) failed go f g = g v
    evaluated (Err e) failed go f g = f e

    either : (b : Bool) (x y : Stepped) → Fit x → Fit y → Fit (if b then x else y)
    either true x y j k = j
    either false x y j k = k

    left_named : (caller : Frame) (result : Option ℕ) (es : List Entry) → Named caller es → AreNamed (leave_frame r m pid caller result es)
    left_named caller result es k = set_named m.threads pid _ k h

    -- what follows the item stands below
    module _ (next : Option ℕ) (es : List Entry) (s : Named own.frame es) where
      abbrev rest : List Entry
      rest = rest_of next es

      below : Named own.frame rest
      below = rest_named own.frame next es s

      going : AreNamed (with_stack m pid rest)
      going = stack_named m pid rest below h

      with_list : (list : Option ℕ) → AreNamed (with_stack m pid (rest_of list rest))
      with_list list = stack_named m pid (rest_of list rest) (rest_named own.frame list rest below) h

      goes : (at : ℕ) (variable : PlaceOrigin) (list : Option ℕ) (z last : ℤ) → AreNamed (gone_on m pid at variable list es last z)
      goes at variable list z last = memory_named (with_stack m pid (rest_of list (Successor at z last ∷ es))).threads pid _ _ (stack_named m pid (rest_of list (Successor at z last ∷ es)) (rest_named own.frame list (Successor at z last ∷ es) s) h)

      called_named : (routine component : ℕ) (arguments : List Argument) (bounds : List Bound) (result monitor : Option ℕ) → IsCalled os routine → AreNamed (open_call r m pid routine component arguments bounds result monitor rest)
      called_named routine component arguments bounds result monitor k =
          memory_named (open_frame r m pid routine component (Return own.frame result monitor) rest).threads pid _ _ (set_named m.threads pid _ (rest_named (frame_behind r own routine component) (routine_at r routine).body (Return own.frame result monitor ∷ rest) (k, below)) h)

      called_in_named : (k : ComponentKind) (routine component : ℕ) (arguments : List Argument) (bounds : List Bound) (result : Option ℕ) → IsCalled os routine → Fit (call_in r m pid k routine component arguments bounds result rest)
      called_in_named (kind.Monitor monitor) routine component arguments bounds result k =
          let n : Machine = open_call r m pid routine component arguments bounds result (Some monitor) rest in
          entered_named (monitor_at n monitor).holder n pid monitor (called_named routine component arguments bounds result (Some monitor) k)
      called_in_named kind.Class routine component arguments bounds result k = called_named routine component arguments bounds result None k
      called_in_named (kind.Process number) routine component arguments bounds result k = going

      called_by_named : (line : ℕ) (is_entry : Bool) (routine component : ℕ) (arguments : List Argument) (bounds : List Bound) (result : Option ℕ) → IsCalled os routine → Fit (call_by r m pid line is_entry routine component arguments bounds result rest)
      called_by_named line false routine component arguments bounds result k = called_named routine component arguments bounds result None k
      called_by_named line true routine component arguments bounds result k = either (is_initialised (phase_at m component)) _ _ (called_in_named (component_at r component).kind routine component arguments bounds result k) h

      inside_named : (line routine component : ℕ) (arguments : List Argument) (bounds : List Bound) → Fit (start_inside r m pid line routine component arguments bounds rest)
      inside_named line routine component arguments bounds =
          either (is_uninitialised (phase_at m component)) _ _ (memory_named (open_frame r m pid routine component (InitEnd own.frame component) rest).threads pid _ _ (set_named m.threads pid _ (rest_named (frame_behind r own routine component) (routine_at r routine).body (InitEnd own.frame component ∷ rest) below) h)) h

      started_named : (line : ℕ) (k : ComponentKind) (routine component : ℕ) (arguments : List Argument) (bounds : List Bound) → Fit (start_by r m pid line k routine component arguments bounds rest)
      started_named line (kind.Process q) routine component arguments bounds = either (is_unstarted (thread_at m.threads q).status) _ _ (status_named (parameters_bound (with_stack m pid rest) pid (component_at r component).base arguments bounds) q Ready (memory_named (with_stack m pid rest).threads pid _ _ going)) h
      started_named line (kind.Monitor monitor) routine component arguments bounds = inside_named line routine component arguments bounds
      started_named line kind.Class routine component arguments bounds = inside_named line routine component arguments bounds

      delayed_in_named : (line cell : ℕ) (k : ComponentKind) → Fit (delay_in m pid line cell k rest)
      delayed_in_named line cell (kind.Monitor monitor) = either (is_true (slice_index_or m.permanents cell (pos 0))) _ _ h (delayed_named (with_stack m pid rest) pid monitor cell going)
      delayed_in_named line cell kind.Class = going
      delayed_in_named line cell (kind.Process number) = going

      delay_named : (line : ℕ) (a : Address) → Fit (delay_at r m pid line rest a)
      delay_named line (address.Permanent cell) = delayed_in_named line cell (component_at r own.frame.component).kind
      delay_named line (address.Local cell) = going

    continued_from_named : (n : Machine) (cell : ℕ) (es : List Entry) → AreNamed n → Named (thread_at n.threads pid).frame es → Fit (continue_from r n pid cell es)
    continued_from_named n cell (Return caller result (Some monitor) ∷ es) k s = continued_named (leave_frame r n pid caller result es) monitor cell (set_named n.threads pid _ s.1 k)
    continued_from_named n cell (Return caller result None ∷ es) k s = k
    continued_from_named n cell (Rest at ∷ es) k s = k
    continued_from_named n cell (Successor at z last ∷ es) k s = k
    continued_from_named n cell (InitEnd caller component ∷ es) k s = k
    continued_from_named n cell [] k s = k

    -- the frame stays, where the process is there
    frame_kept : (es : List Entry) → Named own.frame es → Named (thread_at (with_stack m pid es).threads pid).frame es
    frame_kept es s = go (at_set m.threads pid pid (record own { stack = es }) no_thread)
      where
        go : ((pid ≡ pid) × (pid < length m.threads) × (thread_at (with_stack m pid es).threads pid ≡ record own { stack = es })) ⊎ ((pid ≡ pid → length m.threads ≤ pid) × (thread_at (with_stack m pid es).threads pid ≡ own)) → Named (thread_at (with_stack m pid es).threads pid).frame es
        go (inl w) = subst (λ (t : Thread). Named t.frame es) (sym w.2) s
        go (inr w) = subst (λ (t : Thread). Named t.frame es) (sym w.1) s

    continued_in_named : (cell : ℕ) (k : ComponentKind) (next : Option ℕ) (es : List Entry) → Named own.frame es → Fit (continue_in m pid cell k (rest_of next es))
    continued_in_named cell (kind.Monitor monitor) next es s = signalled_named (with_stack m pid (rest_of next es)) pid monitor cell (going next es s)
    continued_in_named cell kind.Class next es s = going next es s
    continued_in_named cell (kind.Process number) next es s = going next es s

    by_discipline_named : (by : Signals) (cell : ℕ) (next : Option ℕ) (es : List Entry) → Named own.frame es → Fit (continue_by by r m pid cell next es)
    by_discipline_named signals.Return cell next es s =
        let e : Named own.frame (from_end es) = end_named own.frame es s in
        continued_from_named (with_stack m pid (from_end es)) cell (from_end es) (stack_named m pid (from_end es) e h) (frame_kept (from_end es) e)
    by_discipline_named signals.Continue cell next es s = continued_in_named cell (component_at r own.frame.component).kind next es s
    by_discipline_named signals.Wait cell next es s = continued_in_named cell (component_at r own.frame.component).kind next es s

    continue_named : (next : Option ℕ) (es : List Entry) → Named own.frame es → (a : Address) → Fit (continue_at r m pid next es a)
    continue_named next es s (address.Permanent cell) = by_discipline_named m.discipline.signals cell next es s
    continue_named next es s (address.Local cell) = going next es s

    act_named : (at : ℕ) (item : Item) (a : Action) (es : List Entry) → CallsRoutine os (action_seen a) → Named own.frame es → Fit (act r m pid at item a es)
    act_named at item Empty es k s = going item.next es s
    act_named at item (Assign target value low high) es k s =
        (evaluated (value_of m pid value) _ _ (λ e. h) (λ v.
        evaluated (address_of m pid target) _ _ (λ e. h) (λ p.
        evaluated (check_range low high v) _ _ (λ e. h) (λ w. memory_named (with_stack m pid (rest_of item.next es)).threads pid _ _ (going item.next es s)))))
    act_named at item (AssignSet target value low high) es k s =
        (evaluated (set_of m pid value) _ _ (λ e. h) (λ v.
        evaluated (address_of m pid target) _ _ (λ e. h) (λ p.
        evaluated (sets.check_members low high v) _ _ (λ e. h) (λ w. memory_named (with_stack m pid (rest_of item.next es)).threads pid _ _ (going item.next es s)))))
    act_named at item (Copy target source size) es k s =
        (evaluated (address_of m pid source) _ _ (λ e. h) (λ from.
        evaluated (address_of m pid target) _ _ (λ e. h) (λ to. memory_named (with_stack m pid (rest_of item.next es)).threads pid _ _ (going item.next es s))))
    act_named at item (Block list) es k s = with_list item.next es s list
    act_named at item (If test list other) es k s = (evaluated (value_of m pid test) _ _ (λ e. h) (λ v. with_list item.next es s (if is_true v then list else other)))
    act_named at item (Case selector arms) es k s =
        (evaluated (value_of m pid selector) _ _ (λ e. h) (λ v.
        evaluated (arm_for v arms.items) _ _ (λ e. h) (λ list. with_list item.next es s list)))
    act_named at item (Assert test said) es k s = (evaluated (value_of m pid test) _ _ (λ e. h) (λ v. either (is_true v) _ _ (going item.next es s) h))
    act_named at item (While test list again) es k s =
        (evaluated (value_of m pid test) _ _ (λ e. h) (λ v.
        stack_named m pid _ (either_named own.frame (is_true v) _ _ (rest_named own.frame list (Rest again ∷ es) s) (below item.next es s)) h))
    act_named at item (Until test list again) es k s =
        (evaluated (value_of m pid test) _ _ (λ e. h) (λ v.
        stack_named m pid _ (either_named own.frame (is_true v) _ _ (below item.next es s) (rest_named own.frame list (Rest again ∷ es) s)) h))
    act_named at item (For variable low high first last down list) es k s =
        (evaluated (value_of m pid first) _ _ (λ e. h) (λ x.
        evaluated (value_of m pid last) _ _ (λ e. h) (λ y.
        either (is_beyond down x y) _ _ (going item.next es s)
        (evaluated (check_range low high x) _ _ (λ e. h) (λ z. goes item.next es s at variable list z y)))))
    act_named at item (Cycle list) es k s = stack_named m pid _ (rest_named own.frame list (Rest at ∷ es) s) h
    act_named at item (Call routine component is_entry arguments result) es k s =
        (evaluated (component_of m pid component) _ _ (λ e. h) (λ c.
        evaluated (arguments_of m pid arguments.items) _ _ (λ e. h) (λ bs. called_by_named item.next es s item.line is_entry routine c arguments.items bs result k)))
    act_named at item (Start component routine arguments) es k s =
        (evaluated (component_of m pid component) _ _ (λ e. h) (λ c.
        evaluated (arguments_of m pid arguments.items) _ _ (λ e. h) (λ bs. started_named item.next es s item.line (component_at r c).kind routine c arguments.items bs)))
    act_named at item (Delay place) es k s = evaluated (address_of m pid place) _ _ (λ e. h) (λ p. delay_named item.next es s item.line p)
    act_named at item (Continue place) es k s = evaluated (address_of m pid place) _ _ (λ e. h) (λ p. continue_named item.next es s p)
    act_named at item (Display value shown) es k s = evaluated (value_of m pid value) _ _ (λ e. h) (λ v. either (length m.output == MOST_SHOWN) _ _ h (going item.next es s))

    successor_named : (at : ℕ) (item : Item) (a : Action) (es : List Entry) (z last : ℤ) → Named own.frame es → Fit (successor_step m pid at item a es z last)
    successor_named at item (For variable low high first end down list) es z last s =
        either (int_eq z last) _ _ (going item.next es s)
        (evaluated (next_value down low high z) _ _ (λ e. h) (λ w. goes item.next es s at variable list w last))
    successor_named at item _ es z last s = going item.next es s

    top_named : (es : List Entry) → ((at : ℕ) → CallsRoutine os (action_seen (item_at r at).action)) → Named own.frame es → Fit (take_top r m pid es)
    top_named [] calls s = status_named m pid Ended h
    top_named (Rest at ∷ es) calls s = act_named at (item_at r at) (item_at r at).action es (calls at) s
    top_named (Successor at z last ∷ es) calls s = successor_named at (item_at r at) (item_at r at).action es z last s
    top_named (Return caller result None ∷ es) calls s = left_named caller result es s.1
    top_named (Return caller result (Some monitor) ∷ es) calls s = let_in_named (leave_frame r m pid caller result es) monitor (left_named caller result es s.1)
    top_named (InitEnd caller component ∷ es) calls s = left_named caller None es s

    pub step_named : ((at : ℕ) → CallsRoutine os (action_seen (item_at r at).action)) → AreNamed (step_at r m pid).machine
    step_named calls = top_named own.stack calls (h pid)
