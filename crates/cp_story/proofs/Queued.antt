-- Who is delayed does not leave its queue by a step of another process, but for the one who waits in the queue that is continued.
use Rattle.std.proofs.Common.{◌≡◌, ◌∙◌, ℕ, ◌⊎◌, inl, inr, Bool, true, false, if◌then◌else◌, List, [], ◌∷◌, length, Option, Some, None, Result, Ok, Err, ap, sym, subst, refl, get_or-set_other}
use Rattle.std.proofs.lemmas.Bool.{cases_eq, eqb-false}
use Rattle.std.specs.Prelude.{eqb, ◌==◌, ◌||◌, ℤ, pos, slice_set, slice_index_or}
use Rattle.std.specs.List.{list_any}
use Rattle.std.specs.Ordering.{int_eq}
use Rattle.cp_slots.specs.declared.item.Action.{Action}
use Rattle.cp_slots.specs.declared.item.Action.TheVariants.{Empty, Assign, AssignSet, Copy, Block, If, Case, Assert, While, Until, For, Cycle, Call, Start, Delay, Continue, Display}
use Rattle.cp_slots.specs.declared.item.Item.{Item}
use Rattle.cp_slots.specs.declared.place.Argument.{Argument}
use Rattle.cp_slots.specs.declared.tables.ComponentKind.{ComponentKind}
use Rattle.cp_slots.specs.declared.tables.ComponentKind.TheVariants as kind
use Rattle.cp_slots.specs.Tables.{Tables, component_at, item_at}
use Rattle.cp_store.specs.declared.argument.Bound.{Bound}
use Rattle.cp_store.specs.declared.error.ErrorName.{ErrorName}
use Rattle.cp_store.specs.declared.error.ErrorName.TheVariants.{InitTwice}
use Rattle.cp_store.specs.declared.memory.Address.{Address}
use Rattle.cp_store.specs.declared.memory.Address.TheVariants as address
use Rattle.cp_store.specs.declared.memory.Frame.{Frame}
use Rattle.cp_store.specs.Sets as sets
use Rattle.cp_store.specs.Values.{is_true, check_range}
use Rattle.cp_machine.specs.declared.discipline.Gates.{Gates}
use Rattle.cp_machine.specs.declared.discipline.Gates.TheVariants.{First, Any}
use Rattle.cp_machine.specs.declared.discipline.Signals.{Signals}
use Rattle.cp_machine.specs.declared.discipline.Signals.TheVariants as signals
use Rattle.cp_machine.specs.declared.process.Entry.{Entry}
use Rattle.cp_machine.specs.declared.process.Entry.TheVariants.{Rest, Successor, Return, InitEnd}
use Rattle.cp_machine.specs.declared.process.Status.{Status}
use Rattle.cp_machine.specs.declared.process.Status.TheVariants.{Unstarted, Ready, AtGate, Delayed, Ended}
use Rattle.cp_machine.specs.declared.state.TheConstants.{MOST_SHOWN}
use Rattle.cp_machine.specs.Calls.{open_call, call_in, call_by, start_process, start_inside, start_by, return_to, delay_in, delay_at, continue_at, continue_by, continue_from, continue_in, leave_frame, open_frame}
use Rattle.cp_machine.specs.Kernel.{enter_caller, enter_by, first_in, goes_in, join_line, let_in, let_in_by, one_in, go_on_inside, signal_by, waits_in}
use Rattle.cp_machine.specs.Machine.{Machine, Monitor, Thread, is_at_gate, is_initialised, is_ready, is_ready_status, is_uninitialised, is_unstarted, monitor_at, no_monitor, no_thread, phase_at, thread_at, with_stack, with_status, with_thread}
use Rattle.cp_machine.specs.Memory.{address_of, arguments_of, component_of, parameters_bound, set_of, value_of}
use Rattle.cp_machine.specs.Stack.{from_end, rest_of}
use Rattle.cp_machine.specs.Statements.{Stepped, arm_for, fault, is_beyond, local, next_value, successor_step, with_value}
use Rattle.cp_machine.specs.Step.{act, step_at, take_top}
use Rattle.cp_machine.specs.declared.event.Event.TheVariants.{Kernel}
use Rattle.cp_machine.specs.declared.event.Kernel.TheVariants.{StartProcess}
use Rattle.cp_machine.specs.Fits.{LinesFit}
use Rattle.cp_story.specs.Aimed.{aim_in, aim_of_top, is_continue, permanent_cell, queue_of, waiter_in, woken_by}
use Rattle.cp_story.specs.Story.{is_queued}
use Rattle.cp_story.proofs.Woken.{still_waits}

abbrev sleeps : Machine → ℕ → Bool
sleeps m q = is_queued (thread_at m.threads q).status

-- of a process that is delayed: it is in no line
record Sleeps (q : ℕ) (threads : List Thread) (monitors : List Monitor) : Type 0 where
  queued : is_queued (thread_at threads q).status ≡ true
  lines : (monitor : ℕ) → list_any (eqb q) (slice_index_or monitors monitor no_monitor).line ≡ false

queued_started : (u : Status) → is_queued u ≡ true → is_unstarted u ≡ false
queued_started (Delayed cell) e = refl
queued_started u e = absurd (cc)

queued_waits : (u : Status) → is_queued u ≡ true → is_ready_status u ≡ false
queued_waits (Delayed cell) e = refl
queued_waits u e = absurd (cc)

or_left : (a b : Bool) → (a || b) ≡ false → a ≡ false
or_left false b e = refl
or_left true b e = absurd (cc)

not_equal : (q p : ℕ) (line : List ℕ) → list_any (eqb q) (p ∷ line) ≡ false → q ≡ p → ⊥
not_equal q p line none e = eqb-false q p (or_left (eqb q p) (list_any (eqb q) line) none) e

-- what happens in a step of process `pid`, which is another one
module _ (pid q : ℕ) (other : q ≡ pid → ⊥) where
  abbrev Asleep : Machine → Type 0
  Asleep m = Sleeps q m.threads m.monitors

  abbrev StaysAsleep : Stepped → Type 0
  StaysAsleep x = sleeps x.machine q ≡ true

  thread_asleep : (m : Machine) (x : Thread) → Asleep m → Sleeps q (slice_set m.threads pid x) m.monitors
  thread_asleep m x h =
      let same = get_or-set_other m.threads pid q x no_thread other in
      record { queued = ap (λ (t : Thread). is_queued t.status) same ∙ h.queued; lines = h.lines }

  value_asleep : {A : Type 0} (o : Result A ErrorName) (failed : ErrorName → Stepped) (go : A → Stepped) → ((e : ErrorName) → StaysAsleep (failed e)) → ((v : A) → StaysAsleep (go v)) → StaysAsleep (with_value o failed go)
  value_asleep (Ok v) failed go f g = g v
  value_asleep (Err e) failed go f g = f e

  either_asleep : (b : Bool) (x y : Stepped) → StaysAsleep x → StaysAsleep y → StaysAsleep (if b then x else y)
  either_asleep true x y h k = h
  either_asleep false x y h k = k

  -- ---- the kernel

  goes_in_asleep : (m : Machine) (monitor p : ℕ) (line : List ℕ) → (q ≡ p → ⊥) → sleeps m q ≡ true → sleeps (goes_in m monitor p line) q ≡ true
  goes_in_asleep m monitor p line ne h = ap (λ (t : Thread). is_queued t.status) (get_or-set_other m.threads p q (record (thread_at m.threads p) { status = Ready }) no_thread ne) ∙ h

  let_in_by_asleep : (gates : Gates) (m : Machine) (monitor : ℕ) (line : List ℕ) → list_any (eqb q) line ≡ false → sleeps m q ≡ true → sleeps (let_in_by gates m monitor line) q ≡ true
  let_in_by_asleep First m monitor [] none h = h
  let_in_by_asleep First m monitor (p ∷ line) none h = goes_in_asleep m monitor p line (not_equal q p line none) h
  let_in_by_asleep Any m monitor [] none h = h
  let_in_by_asleep Any m monitor (p ∷ []) none h = goes_in_asleep m monitor p [] (not_equal q p [] none) h
  let_in_by_asleep Any m monitor (p ∷ r ∷ line) none h = h

  let_in_asleep : (m : Machine) (monitor : ℕ) → Asleep m → sleeps (let_in m monitor) q ≡ true
  let_in_asleep m monitor h = let_in_by_asleep m.discipline.gates m monitor (monitor_at m monitor).line (h.lines monitor) h.queued

  entered_by_asleep : (holder : Option ℕ) (m : Machine) (monitor : ℕ) → Asleep m → sleeps (enter_by holder m pid monitor) q ≡ true
  entered_by_asleep None m monitor h = h.queued
  entered_by_asleep (Some p) m monitor h = (thread_asleep m (record (thread_at m.threads pid) { status = AtGate monitor }) h).queued

  -- ---- calls and ends

  called_asleep : (r : Tables) (m : Machine) (routine component : ℕ) (arguments : List Argument) (bounds : List Bound) (result monitor : Option ℕ) (rest : List Entry) → Asleep m → Asleep (open_call r m pid routine component arguments bounds result monitor rest)
  called_asleep r m routine component arguments bounds result monitor rest h =
      let end : Entry = Return (thread_at m.threads pid).frame result monitor in
      thread_asleep (open_frame r m pid routine component end rest) _ (thread_asleep m _ h)

  called_in_asleep : (r : Tables) (m : Machine) (k : ComponentKind) (routine component : ℕ) (arguments : List Argument) (bounds : List Bound) (result : Option ℕ) (rest : List Entry) → Asleep m → StaysAsleep (call_in r m pid k routine component arguments bounds result rest)
  called_in_asleep r m (kind.Monitor monitor) routine component arguments bounds result rest h =
      let n = open_call r m pid routine component arguments bounds result (Some monitor) rest in
      entered_by_asleep (monitor_at n monitor).holder n monitor (called_asleep r m routine component arguments bounds result (Some monitor) rest h)
  called_in_asleep r m kind.Class routine component arguments bounds result rest h = (called_asleep r m routine component arguments bounds result None rest h).queued
  called_in_asleep r m (kind.Process number) routine component arguments bounds result rest h = (thread_asleep m _ h).queued

  called_by_asleep : (r : Tables) (m : Machine) (line : ℕ) (is_entry : Bool) (routine component : ℕ) (arguments : List Argument) (bounds : List Bound) (result : Option ℕ) (rest : List Entry) → Asleep m → StaysAsleep (call_by r m pid line is_entry routine component arguments bounds result rest)
  called_by_asleep r m line false routine component arguments bounds result rest h = (called_asleep r m routine component arguments bounds result None rest h).queued
  called_by_asleep r m line true routine component arguments bounds result rest h =
      either_asleep (is_initialised (phase_at m component)) _ _ (called_in_asleep r m (component_at r component).kind routine component arguments bounds result rest h) h.queued

  -- who is started was not yet
  start_process_asleep : (r : Tables) (m : Machine) (line p component : ℕ) (arguments : List Argument) (bounds : List Bound) (rest : List Entry) → Asleep m → StaysAsleep (start_process r m pid line p component arguments bounds rest)
  start_process_asleep r m line p component arguments bounds rest h = go (is_unstarted (thread_at m.threads p).status) refl
    where
      n : Machine
      n = parameters_bound (with_stack m pid rest) pid (component_at r component).base arguments bounds

      given : Sleeps q n.threads m.monitors
      given = thread_asleep (with_stack m pid rest) _ (thread_asleep m _ h)

      go : (b : Bool) → is_unstarted (thread_at m.threads p).status ≡ b → StaysAsleep (if b then record { machine = with_status n p Ready; event = Kernel StartProcess } else fault m pid line InitTwice)
      go true new = goes_in_asleep n 0 p [] (λ same. absurd (cc (ap (λ k. is_unstarted (thread_at m.threads k).status) same, queued_started (thread_at m.threads q).status h.queued))) given.queued
      go false new = h.queued

  start_inside_asleep : (r : Tables) (m : Machine) (line routine component : ℕ) (arguments : List Argument) (bounds : List Bound) (rest : List Entry) → Asleep m → StaysAsleep (start_inside r m pid line routine component arguments bounds rest)
  start_inside_asleep r m line routine component arguments bounds rest h =
      let end : Entry = InitEnd (thread_at m.threads pid).frame component in
      either_asleep (is_uninitialised (phase_at m component)) _ _ (thread_asleep (open_frame r m pid routine component end rest) _ (thread_asleep m _ h)).queued h.queued

  started_asleep : (r : Tables) (m : Machine) (line : ℕ) (k : ComponentKind) (routine component : ℕ) (arguments : List Argument) (bounds : List Bound) (rest : List Entry) → Asleep m → StaysAsleep (start_by r m pid line k routine component arguments bounds rest)
  started_asleep r m line (kind.Process p) routine component arguments bounds rest h = start_process_asleep r m line p component arguments bounds rest h
  started_asleep r m line (kind.Monitor monitor) routine component arguments bounds rest h = start_inside_asleep r m line routine component arguments bounds rest h
  started_asleep r m line kind.Class routine component arguments bounds rest h = start_inside_asleep r m line routine component arguments bounds rest h

  returned_asleep : (r : Tables) (m : Machine) (caller : Frame) (result monitor : Option ℕ) (es : List Entry) → Asleep m → StaysAsleep (return_to r m pid caller result monitor es)
  returned_asleep r m caller result None es h = (thread_asleep m _ h).queued
  returned_asleep r m caller result (Some monitor) es h = let_in_asleep (leave_frame r m pid caller result es) monitor (thread_asleep m _ h)

  -- ---- delay and continue

  delayed_in_asleep : (m : Machine) (line cell : ℕ) (k : ComponentKind) (rest : List Entry) → Asleep m → StaysAsleep (delay_in m pid line cell k rest)
  delayed_in_asleep m line cell (kind.Monitor monitor) rest h =
      let n : Machine = with_status (record (with_stack m pid rest) { permanents = slice_set m.permanents cell (pos 1) }) pid (Delayed cell) in
      either_asleep (is_true (slice_index_or m.permanents cell (pos 0))) _ _ h.queued (let_in_asleep n monitor (thread_asleep (with_stack m pid rest) _ (thread_asleep m _ h)))
  delayed_in_asleep m line cell kind.Class rest h = (thread_asleep m _ h).queued
  delayed_in_asleep m line cell (kind.Process number) rest h = (thread_asleep m _ h).queued

  delay_at_asleep : (r : Tables) (m : Machine) (line : ℕ) (rest : List Entry) (a : Address) → Asleep m → StaysAsleep (delay_at r m pid line rest a)
  delay_at_asleep r m line rest (address.Permanent cell) h = delayed_in_asleep m line cell (component_at r (thread_at m.threads pid).frame.component).kind rest h
  delay_at_asleep r m line rest (address.Local cell) h = (thread_asleep m _ h).queued

  -- after the step the process is no longer delayed only if it is woken
  abbrev IsWoken : Option ℕ → Stepped → Type 0
  IsWoken w x = sleeps x.machine q ≡ false → w ≡ Some q

  not_woken : (w : Option ℕ) (x : Stepped) → StaysAsleep x → IsWoken w x
  not_woken w x h = λ e. absurd (cc)

  resumed_woken : (w : Option ℕ) (m : Machine) (monitor : ℕ) → Asleep m → sleeps (go_on_inside w m monitor) q ≡ false → w ≡ Some q
  resumed_woken None m monitor h e = absurd (cc (let_in_asleep m monitor h))
  resumed_woken (Some p) m monitor h e = go (cases_eq q p)
    where
      go : (q ≡ p) ⊎ (q ≡ p → ⊥) → Some p ≡ Some q
      go (inl same) = cc
      go (inr ne) = absurd (cc (goes_in_asleep m monitor p (monitor_at m monitor).line ne h.queued))

  -- where the caller does not return
  joined_woken : (m : Machine) (monitor p : ℕ) → Asleep m → sleeps (join_line m monitor p) q ≡ false → Some p ≡ Some q
  joined_woken m monitor p h e = go (cases_eq q p)
    where
      go : (q ≡ p) ⊎ (q ≡ p → ⊥) → Some p ≡ Some q
      go (inl same) = cc
      go (inr ne) = absurd (cc (ap (λ (t : Thread). is_queued t.status) (get_or-set_other m.threads p q (record (thread_at m.threads p) { status = AtGate monitor }) no_thread ne) ∙ h.queued))

  signalled_woken : (s : Signals) (w : Option ℕ) (m : Machine) (monitor : ℕ) → Asleep m → sleeps (signal_by s w m pid monitor) q ≡ false → w ≡ Some q
  signalled_woken signals.Return None m monitor h e = absurd (cc)
  signalled_woken signals.Continue None m monitor h e = absurd (cc)
  signalled_woken signals.Wait None m monitor h e = absurd (cc)
  signalled_woken signals.Wait (Some p) m monitor h e = go (cases_eq q p)
    where
      go : (q ≡ p) ⊎ (q ≡ p → ⊥) → Some p ≡ Some q
      go (inl same) = cc
      go (inr ne) = absurd (cc (goes_in_asleep (with_status m pid (AtGate monitor)) monitor p (pid ∷ (monitor_at m monitor).line) ne (thread_asleep m _ h).queued))
  signalled_woken signals.Return (Some p) m monitor h e = joined_woken m monitor p h e
  signalled_woken signals.Continue (Some p) m monitor h e = joined_woken m monitor p h e

  signal_woken : (m : Machine) (cell : ℕ) (k : ComponentKind) (rest : List Entry) → Asleep m → IsWoken (waits_in m cell) (continue_in m pid cell k rest)
  signal_woken m cell (kind.Monitor monitor) rest h = λ e.
      let n : Machine = with_stack m pid rest in
      sym (still_waits m pid _ cell refl) ∙ signalled_woken m.discipline.signals (waits_in n cell) (record n { permanents = slice_set n.permanents cell (pos 0) }) monitor (thread_asleep m _ h) e
  signal_woken m cell kind.Class rest h = not_woken (waits_in m cell) (local (with_stack m pid rest)) (thread_asleep m _ h).queued
  signal_woken m cell (kind.Process number) rest h = not_woken (waits_in m cell) (local (with_stack m pid rest)) (thread_asleep m _ h).queued

  continued_woken : (r : Tables) (m : Machine) (cell : ℕ) (es : List Entry) → Asleep m → IsWoken (waits_in m cell) (continue_from r m pid cell es)
  continued_woken r m cell (Return caller result (Some monitor) ∷ es) h = λ e.
      let gone = leave_frame r m pid caller result es in
      sym (still_waits m pid _ cell refl) ∙ resumed_woken (waits_in gone cell) (record gone { permanents = slice_set gone.permanents cell (pos 0) }) monitor (thread_asleep m _ h) e
  continued_woken r m cell [] h = not_woken (waits_in m cell) (local m) h.queued
  continued_woken r m cell (Rest at ∷ es) h = not_woken (waits_in m cell) (local m) h.queued
  continued_woken r m cell (Successor at z last ∷ es) h = not_woken (waits_in m cell) (local m) h.queued
  continued_woken r m cell (InitEnd caller component ∷ es) h = not_woken (waits_in m cell) (local m) h.queued
  continued_woken r m cell (Return caller result None ∷ es) h = not_woken (waits_in m cell) (local m) h.queued

  by_discipline_woken : (s : Signals) (r : Tables) (m : Machine) (cell : ℕ) (next : Option ℕ) (es : List Entry) → Asleep m → IsWoken (waits_in m cell) (continue_by s r m pid cell next es)
  by_discipline_woken signals.Return r m cell next es h = λ e. sym (still_waits m pid _ cell refl) ∙ continued_woken r (with_stack m pid (from_end es)) cell (from_end es) (thread_asleep m _ h) e
  by_discipline_woken signals.Continue r m cell next es h = signal_woken m cell (component_at r (thread_at m.threads pid).frame.component).kind (rest_of next es) h
  by_discipline_woken signals.Wait r m cell next es h = signal_woken m cell (component_at r (thread_at m.threads pid).frame.component).kind (rest_of next es) h

  continue_woken : (r : Tables) (m : Machine) (line : ℕ) (next : Option ℕ) (es : List Entry) (at : Result Address ErrorName) → Asleep m → IsWoken (waiter_in m (permanent_cell at)) (with_value at (fault m pid line) (continue_at r m pid next es))
  continue_woken r m line next es (Ok (address.Permanent cell)) h = by_discipline_woken m.discipline.signals r m cell next es h
  continue_woken r m line next es (Ok (address.Local cell)) h = not_woken None (local (with_stack m pid (rest_of next es))) (thread_asleep m _ h).queued
  continue_woken r m line next es (Err e) h = not_woken None (fault m pid line e) h.queued

-- ---- a step

module _ (r : Tables) (m : Machine) (pid q : ℕ) (other : q ≡ pid → ⊥) (h : Sleeps q m.threads m.monitors) where
  abbrev Kept : Stepped → Type 0
  Kept x = sleeps x.machine q ≡ true

  going : (stack : List Entry) → sleeps (with_stack m pid stack) q ≡ true
  going stack = (thread_asleep pid q other m _ h).queued

  -- the control stack changes, and then cells do
  writing : (stack : List Entry) (x : Thread) → sleeps (with_thread (with_stack m pid stack) pid x) q ≡ true
  writing stack x = (thread_asleep pid q other (with_stack m pid stack) x (thread_asleep pid q other m _ h)).queued

  evaluated : {A : Type 0} (o : Result A ErrorName) (failed : ErrorName → Stepped) (go : A → Stepped) → ((e : ErrorName) → Kept (failed e)) → ((v : A) → Kept (go v)) → Kept (with_value o failed go)
  evaluated o failed go f g = value_asleep pid q other o failed go f g

  either : (b : Bool) (x y : Stepped) → Kept x → Kept y → Kept (if b then x else y)
  either b x y k l = either_asleep pid q other b x y k l

  act_asleep : (at : ℕ) (item : Item) (a : Action) (es : List Entry) → is_continue a ≡ false → Kept (act r m pid at item a es)
  act_asleep at item Empty es plain = going _
  act_asleep at item (Assign target value low high) es plain =
      evaluated (value_of m pid value) _ _ (λ e. h.queued) (λ v.
      evaluated (address_of m pid target) _ _ (λ e. h.queued) (λ p.
      evaluated (check_range low high v) _ _ (λ e. h.queued) (λ w. writing _ _)))
  act_asleep at item (AssignSet target value low high) es plain =
      evaluated (set_of m pid value) _ _ (λ e. h.queued) (λ v.
      evaluated (address_of m pid target) _ _ (λ e. h.queued) (λ p.
      evaluated (sets.check_members low high v) _ _ (λ e. h.queued) (λ w. writing _ _)))
  act_asleep at item (Copy target source size) es plain =
      evaluated (address_of m pid source) _ _ (λ e. h.queued) (λ from.
      evaluated (address_of m pid target) _ _ (λ e. h.queued) (λ to. writing _ _))
  act_asleep at item (Block list) es plain = going _
  act_asleep at item (If test list other) es plain = evaluated (value_of m pid test) _ _ (λ e. h.queued) (λ v. going _)
  act_asleep at item (Case selector arms) es plain =
      evaluated (value_of m pid selector) _ _ (λ e. h.queued) (λ v.
      evaluated (arm_for v arms.items) _ _ (λ e. h.queued) (λ list. going _))
  act_asleep at item (Assert test said) es plain = evaluated (value_of m pid test) _ _ (λ e. h.queued) (λ v. either (is_true v) _ _ (going _) h.queued)
  act_asleep at item (While test list again) es plain = evaluated (value_of m pid test) _ _ (λ e. h.queued) (λ v. going _)
  act_asleep at item (Until test list again) es plain = evaluated (value_of m pid test) _ _ (λ e. h.queued) (λ v. going _)
  act_asleep at item (For variable low high first last down list) es plain =
      evaluated (value_of m pid first) _ _ (λ e. h.queued) (λ x.
      evaluated (value_of m pid last) _ _ (λ e. h.queued) (λ y.
      either (is_beyond down x y) _ _ (going _)
      (evaluated (check_range low high x) _ _ (λ e. h.queued) (λ z. writing _ _))))
  act_asleep at item (Cycle list) es plain = going _
  act_asleep at item (Call routine component is_entry arguments result) es plain =
      evaluated (component_of m pid component) _ _ (λ e. h.queued) (λ c.
      evaluated (arguments_of m pid arguments.items) _ _ (λ e. h.queued) (λ bs. called_by_asleep pid q other r m item.line is_entry routine c arguments.items bs result _ h))
  act_asleep at item (Start component routine arguments) es plain =
      evaluated (component_of m pid component) _ _ (λ e. h.queued) (λ c.
      evaluated (arguments_of m pid arguments.items) _ _ (λ e. h.queued) (λ bs. started_asleep pid q other r m item.line (component_at r c).kind routine c arguments.items bs _ h))
  act_asleep at item (Delay place) es plain = evaluated (address_of m pid place) _ _ (λ e. h.queued) (λ p. delay_at_asleep pid q other r m item.line _ p h)
  act_asleep at item (Continue place) es plain = absurd (cc)
  act_asleep at item (Display value shown) es plain =
      evaluated (value_of m pid value) _ _ (λ e. h.queued) (λ v. either (length m.output == MOST_SHOWN) _ _ h.queued (going _))

  act_woken : (at : ℕ) (item : Item) (a : Action) (es : List Entry) → IsWoken pid q other (woken_by m a (queue_of m pid a)) (act r m pid at item a es)
  act_woken at item (Continue place) es = continue_woken pid q other r m item.line item.next es (address_of m pid place) h
  act_woken at item a es = not_woken pid q other None (act r m pid at item a es) (act_asleep at item a es refl)

  successor_asleep : (at : ℕ) (item : Item) (a : Action) (es : List Entry) (z last : ℤ) → Kept (successor_step m pid at item a es z last)
  successor_asleep at item (For variable low high first end down list) es z last =
      either (int_eq z last) _ _ (going _)
      (evaluated (next_value down low high z) _ _ (λ e. h.queued) (λ w. writing _ _))
  successor_asleep at item _ es z last = going _

  top_woken : (es : List Entry) → IsWoken pid q other (aim_of_top r m pid es).wakes (take_top r m pid es)
  top_woken [] = not_woken pid q other None (take_top r m pid []) (thread_asleep pid q other m _ h).queued
  top_woken (Rest at ∷ es) = act_woken at (item_at r at) (item_at r at).action es
  top_woken (Successor at z last ∷ es) = not_woken pid q other None (take_top r m pid (Successor at z last ∷ es)) (successor_asleep at (item_at r at) (item_at r at).action es z last)
  top_woken (Return caller result None ∷ es) = not_woken pid q other None (take_top r m pid (Return caller result None ∷ es)) (returned_asleep pid q other r m caller result None es h)
  top_woken (Return caller result (Some monitor) ∷ es) = not_woken pid q other None (take_top r m pid (Return caller result (Some monitor) ∷ es)) (returned_asleep pid q other r m caller result (Some monitor) es h)
  top_woken (InitEnd caller component ∷ es) = not_woken pid q other None (take_top r m pid (InitEnd caller component ∷ es)) (thread_asleep pid q other m _ h).queued

-- ---- who is delayed

delayed_sleeps : (q : ℕ) (m : Machine) (status : Status) → LinesFit m → status ≡ (thread_at m.threads q).status → is_queued status ≡ true → Sleeps q m.threads m.monitors
delayed_sleeps q m (Delayed cell) fit is queued =
    record {
      queued = ap is_queued (sym is);
      lines = λ monitor. sym (fit.gate monitor q) ∙ ap (is_at_gate monitor) (sym is);
    }
delayed_sleeps q m _ fit is queued = absurd (cc)

pub delayed_woken : (r : Tables) (m : Machine) (pid q : ℕ) → LinesFit m → is_ready m pid ≡ true → is_queued (thread_at m.threads q).status ≡ true → is_queued (thread_at (step_at r m pid).machine.threads q).status ≡ false → (aim_in r m pid).wakes ≡ Some q
delayed_woken r m pid q fit ready queued goes =
    let asleep = delayed_sleeps q m (thread_at m.threads q).status fit refl queued in
    top_woken r m pid q (λ same. absurd (cc (ap (is_ready m) same, ready, queued_waits (thread_at m.threads q).status queued))) asleep (thread_at m.threads pid).stack goes
