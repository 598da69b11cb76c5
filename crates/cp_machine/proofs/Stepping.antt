-- One walk through a step, for all that is proved of every step: of one, or of that of a machine and that of the same machine with another output,
-- which `display` alone looks at, at how long it is.
use Rattle.std.proofs.Common.{◌≡◌, ℕ, List, [], ◌∷◌, ◌++◌, length, Option, Some, None, Result, Ok, Err, if◌then◌else◌, Bool, true, false, refl}
use Rattle.cp_machine.proofs.Words.{ℤ, pos, slice_index_or, ◌==◌, int_eq, Tables, item_at, component_at, Action, Item, Argument, ComponentKind, Bound, ErrorName, Address}
use Rattle.cp_machine.proofs.Words.{Frame, is_true, check_range, Event, Kernel, Entry, Rest, Successor, Return, InitEnd, Ready, Ended, Phase, Initialised, MOST_SHOWN, rest_of}
use Rattle.cp_machine.proofs.Words.{from_end, Stepped, local, fault, with_value, arm_for, is_beyond, next_value, successor_step, act, take_top, step_at, Assign, AssignSet}
use Rattle.cp_machine.proofs.Words.{Copy, If, Case, Assert, While, Until, For, Call, Start, Delay, Continue, Display, Shown, let_in, enter_caller, delay_caller, resume, Machine, Thread}
use Rattle.cp_machine.proofs.Words.{thread_at, phase_at, is_initialised, is_uninitialised, is_unstarted, with_thread, with_stack, with_status, with_permanents}
use Rattle.cp_machine.proofs.Words.{with_phase, with_output, value_of, set_of, address_of, component_of, arguments_of, parameters_bound}
use Rattle.cp_slots.specs.declared.tables.ComponentKind.TheVariants as kind
use Rattle.cp_store.specs.declared.memory.Address.TheVariants as address
use Rattle.cp_store.specs.Sets as sets
use Rattle.cp_machine.specs.declared.event.Event.TheVariants.{Ended as Over, OutputFull}
use Rattle.cp_machine.specs.declared.event.Kernel.{Kernel as KernelCall}
use Rattle.cp_machine.specs.declared.event.Kernel.TheVariants as call
use Rattle.cp_machine.specs.Calls.{open_frame, leave_frame, open_call, call_in, call_by, start_inside, start_by, return_to, delay_in, delay_at, continue_from, continue_in, continue_by, continue_at}
use Rattle.cp_machine.specs.declared.discipline.Signals.{Signals}
use Rattle.cp_machine.specs.declared.discipline.Signals.TheVariants as signals
use Rattle.cp_machine.specs.Kernel.{signal}
use Rattle.cp_machine.specs.Statements.{show, shown_as}

-- ---- what is shown of a step

-- `S` of two machines to which the same is done, of which the other has output `o`; and where that is a kernel call
abbrev pub Does : (S : Stepped → Stepped → Type 0) (o : List Shown) → (Machine → Stepped) → Machine → Type 0
Does S o f n = S (f n) (f (with_output n o))

abbrev pub Calls : (S : Stepped → Stepped → Type 0) (o : List Shown) → KernelCall → (Machine → Machine) → Machine → Type 0
Calls S o k f n = S (record { machine = f n; event = Kernel k }) (record { machine = f (with_output n o); event = Kernel k })

-- What has to be shown so that `S` holds of a step of process `pid`, whatever it does, but for starts. `Q` is what is known while nothing more has changed
-- than what a local step may change: the thread, but not its status, permanent cells, and whether the component of an initial statement is initialised.
pub record Walking (r : Tables) (m : Machine) (pid : ℕ) (o : List Shown) (S : Stepped → Stepped → Type 0) (Q : Machine → Type 0) : Type 0 where
  pub begins : Q m
  pub changed : (n : Machine) (permanents : List ℤ) (x : Thread) → x.status ≡ (thread_at n.threads pid).status → Q n → Q (with_thread (with_permanents n permanents) pid x)
  pub initialised : (n : Machine) (component : ℕ) → Q n → Q (with_phase n component Initialised)
  -- a local step is done; a run error leaves all as it was
  pub goes : (n : Machine) → Q n → Does S o local n
  pub fails : (event : Event) → Does S o (λ x. record { machine = x; event = event }) m
  pub enters : (component monitor : ℕ) → (component_at r component).kind ≡ kind.Monitor monitor → (n : Machine) → Q n → Calls S o call.Enter (λ x. enter_caller x pid monitor) n
  pub leaves : (monitor : ℕ) (n : Machine) → Q n → Calls S o call.Leave (λ x. let_in x monitor) n
  pub delays : (monitor cell : ℕ) (n : Machine) → Q n → Calls S o call.Delay (λ x. delay_caller x pid monitor cell) n
  pub continues : (monitor cell : ℕ) (n : Machine) → Q n → Calls S o call.Continue (λ x. resume x monitor cell) n
  pub signals : (component monitor : ℕ) → (component_at r component).kind ≡ kind.Monitor monitor → (cell : ℕ) (n : Machine) → Q n → Calls S o call.Continue (λ x. signal x pid monitor cell) n
  pub ends : Does S o (λ x. record { machine = with_status x pid Ended; event = Over }) m
  pub shows : (rest : List Entry) (v : Shown) → Does S o (λ x. show x pid rest v) m

-- ---- the walk

module _ (r : Tables) (m : Machine) (pid : ℕ) (o : List Shown) (S : Stepped → Stepped → Type 0) (Q : Machine → Type 0) (w : Walking r m pid o S Q) where
  abbrev Both : (Machine → Stepped) → Machine → Type 0
  Both f n = Does S o f n

  either_both : (b : Bool) {x y x' y' : Stepped} → (b ≡ true → S x x') → S y y' → S (if b then x else y) (if b then x' else y')
  either_both true h k = h refl
  either_both false h k = k

  -- ---- what is known while nothing more has changed

  stack_known : (stack : List Entry) → Q (with_stack m pid stack)
  stack_known stack = w.changed m m.permanents (record (thread_at m.threads pid) { stack = stack }) refl w.begins

  -- the control stack changes, and then cells do
  writing : (stack : List Entry) (permanents : List ℤ) (x : Thread) → x.status ≡ (thread_at (with_stack m pid stack).threads pid).status → Q (with_thread (with_permanents (with_stack m pid stack) permanents) pid x)
  writing stack permanents x is = w.changed (with_stack m pid stack) permanents x is (stack_known stack)

  opened_known : (routine component : ℕ) (end : Entry) (rest : List Entry) → Q (open_frame r m pid routine component end rest)
  opened_known routine component end rest = w.changed m m.permanents _ refl w.begins

  left_known : (n : Machine) (caller : Frame) (result : Option ℕ) (es : List Entry) → Q n → Q (leave_frame r n pid caller result es)
  left_known n caller result es h = w.changed n n.permanents _ refl h

  called_known : (routine component : ℕ) (arguments : List Argument) (bounds : List Bound) (result monitor : Option ℕ) (rest : List Entry) → Q (open_call r m pid routine component arguments bounds result monitor rest)
  called_known routine component arguments bounds result monitor rest =
      let end : Entry = Return (thread_at m.threads pid).frame result monitor in
      w.changed (open_frame r m pid routine component end rest) _ _ refl (opened_known routine component end rest)

  -- ---- calls, `delay` and `continue`

  called_in_both : (k : ComponentKind) (routine component : ℕ) (arguments : List Argument) (bounds : List Bound) (result : Option ℕ) (rest : List Entry)
      → (component_at r component).kind ≡ k → Both (λ x. call_in r x pid k routine component arguments bounds result rest) m
  called_in_both (kind.Monitor monitor) routine component arguments bounds result rest is = w.enters component monitor is _ (called_known routine component arguments bounds result (Some monitor) rest)
  called_in_both kind.Class routine component arguments bounds result rest is = w.goes _ (called_known routine component arguments bounds result None rest)
  called_in_both (kind.Process number) routine component arguments bounds result rest is = w.goes _ (stack_known rest)

  called_by_both : (line : ℕ) (is_entry : Bool) (routine component : ℕ) (arguments : List Argument) (bounds : List Bound) (result : Option ℕ) (rest : List Entry)
      → Both (λ x. call_by r x pid line is_entry routine component arguments bounds result rest) m
  called_by_both line false routine component arguments bounds result rest = w.goes _ (called_known routine component arguments bounds result None rest)
  called_by_both line true routine component arguments bounds result rest =
      either_both (is_initialised (phase_at m component)) (λ is. called_in_both (component_at r component).kind routine component arguments bounds result rest refl) (w.fails _)

  returned_both : (caller : Frame) (result monitor : Option ℕ) (es : List Entry) → Both (λ x. return_to r x pid caller result monitor es) m
  returned_both caller result None es = w.goes _ (left_known m caller result es w.begins)
  returned_both caller result (Some monitor) es = w.leaves monitor _ (left_known m caller result es w.begins)

  delayed_in_both : (line cell : ℕ) (k : ComponentKind) (rest : List Entry) → Both (λ x. delay_in x pid line cell k rest) m
  delayed_in_both line cell (kind.Monitor monitor) rest = either_both (is_true (slice_index_or m.permanents cell (pos 0))) (λ is. w.fails _) (w.delays monitor cell _ (stack_known rest))
  delayed_in_both line cell _ rest = w.goes _ (stack_known rest)

  delay_at_both : (line : ℕ) (rest : List Entry) (a : Address) → Both (λ x. delay_at r x pid line rest a) m
  delay_at_both line rest (address.Permanent cell) = delayed_in_both line cell (component_at r (thread_at m.threads pid).frame.component).kind rest
  delay_at_both line rest (address.Local cell) = w.goes _ (stack_known rest)

  continued_from_both : (n : Machine) (cell : ℕ) (es : List Entry) → Q n → Both (λ x. continue_from r x pid cell es) n
  continued_from_both n cell (Return caller result (Some monitor) ∷ es) h = w.continues monitor cell (leave_frame r n pid caller result es) (left_known n caller result es h)
  continued_from_both n cell _ h = w.goes n h

  continued_in_both : (cell component : ℕ) (k : ComponentKind) (rest : List Entry) → (component_at r component).kind ≡ k → Both (λ x. continue_in x pid cell k rest) m
  continued_in_both cell component (kind.Monitor monitor) rest is = w.signals component monitor is cell _ (stack_known rest)
  continued_in_both cell component kind.Class rest is = w.goes _ (stack_known rest)
  continued_in_both cell component (kind.Process number) rest is = w.goes _ (stack_known rest)

  continue_by_both : (signals : Signals) (cell : ℕ) (next : Option ℕ) (es : List Entry) → Both (λ x. continue_by signals r x pid cell next es) m
  continue_by_both signals.Return cell next es = continued_from_both (with_stack m pid (from_end es)) cell (from_end es) (stack_known (from_end es))
  continue_by_both signals.Continue cell next es = continued_in_both cell (thread_at m.threads pid).frame.component _ (rest_of next es) refl
  continue_by_both signals.Wait cell next es = continued_in_both cell (thread_at m.threads pid).frame.component _ (rest_of next es) refl

  continue_at_both : (next : Option ℕ) (es : List Entry) (a : Address) → Both (λ x. continue_at r x pid next es a) m
  continue_at_both next es (address.Permanent cell) = continue_by_both m.discipline.signals cell next es
  continue_at_both next es (address.Local cell) = w.goes _ (stack_known _)

  -- ---- a step, where it is shown of starts

  module _ (starts : (line : ℕ) (k : ComponentKind) (routine component : ℕ) (arguments : List Argument) (bounds : List Bound) (rest : List Entry) → Both (λ x. start_by r x pid line k routine component arguments bounds rest) m) where
    going : (stack : List Entry) → Both (λ x. local (with_stack x pid stack)) m
    going stack = w.goes _ (stack_known stack)

    -- the same value goes into both, or the same run error ends both
    evaluated : {A : Type 0} (line : ℕ) (x : Result A ErrorName) {go go_too : A → Stepped} → ((v : A) → S (go v) (go_too v))
        → S (with_value x (fault m pid line) go) (with_value x (fault (with_output m o) pid line) go_too)
    evaluated line (Ok v) f = f v
    evaluated line (Err e) f = w.fails _

    act_both : (at : ℕ) (item : Item) (a : Action) (es : List Entry) → Both (λ x. act r x pid at item a es) m
    act_both at item (Assign target value low high) es =
        evaluated item.line (value_of m pid value) (λ v.
        evaluated item.line (address_of m pid target) (λ p.
        evaluated item.line (check_range low high v) (λ u. w.goes _ (writing _ _ _ refl))))
    act_both at item (AssignSet target value low high) es =
        evaluated item.line (set_of m pid value) (λ v.
        evaluated item.line (address_of m pid target) (λ p.
        evaluated item.line (sets.check_members low high v) (λ u. w.goes _ (writing _ _ _ refl))))
    act_both at item (Copy target source size) es =
        evaluated item.line (address_of m pid source) (λ from.
        evaluated item.line (address_of m pid target) (λ to. w.goes _ (writing _ _ _ refl)))
    act_both at item (If test list other) es = evaluated item.line (value_of m pid test) (λ v. going _)
    act_both at item (Case selector arms) es =
        evaluated item.line (value_of m pid selector) (λ v.
        evaluated item.line (arm_for v arms.items) (λ list. going _))
    act_both at item (Assert test said) es = evaluated item.line (value_of m pid test) (λ v. either_both (is_true v) (λ is. going _) (w.fails _))
    act_both at item (While test list again) es = evaluated item.line (value_of m pid test) (λ v. going _)
    act_both at item (Until test list again) es = evaluated item.line (value_of m pid test) (λ v. going _)
    act_both at item (For variable low high first last down list) es =
        evaluated item.line (value_of m pid first) (λ x.
        evaluated item.line (value_of m pid last) (λ y.
        either_both (is_beyond down x y) (λ is. going _)
        (evaluated item.line (check_range low high x) (λ z. w.goes _ (writing _ _ _ refl)))))
    act_both at item (Call routine component is_entry arguments result) es =
        evaluated item.line (component_of m pid component) (λ c.
        evaluated item.line (arguments_of m pid arguments.items) (λ bs. called_by_both item.line is_entry routine c arguments.items bs result (rest_of item.next es)))
    act_both at item (Start component routine arguments) es =
        evaluated item.line (component_of m pid component) (λ c.
        evaluated item.line (arguments_of m pid arguments.items) (λ bs. starts item.line (component_at r c).kind routine c arguments.items bs (rest_of item.next es)))
    act_both at item (Delay place) es = evaluated item.line (address_of m pid place) (λ p. delay_at_both item.line (rest_of item.next es) p)
    act_both at item (Continue place) es = evaluated item.line (address_of m pid place) (λ p. continue_at_both item.next es p)
    act_both at item (Display value kind) es = evaluated item.line (value_of m pid value) (λ v. w.shows (rest_of item.next es) (shown_as kind v))
    act_both at item _ es = going _

    successor_both : (at : ℕ) (item : Item) (a : Action) (es : List Entry) (z last : ℤ) → Both (λ x. successor_step x pid at item a es z last) m
    successor_both at item (For variable low high first end down list) es z last =
        either_both (int_eq z last) (λ is. going _)
        (evaluated item.line (next_value down low high z) (λ v. w.goes _ (writing _ _ _ refl)))
    successor_both at item _ es z last = going _

    top_both : (es : List Entry) → Both (λ x. take_top r x pid es) m
    top_both [] = w.ends
    top_both (Rest at ∷ es) = act_both at (item_at r at) (item_at r at).action es
    top_both (Successor at z last ∷ es) = successor_both at (item_at r at) (item_at r at).action es z last
    top_both (Return caller result monitor ∷ es) = returned_both caller result monitor es
    top_both (InitEnd caller component ∷ es) = w.goes _ (w.initialised (leave_frame r m pid caller None es) component (left_known m caller None es w.begins))

    pub step_walked : Both (λ x. step_at r x pid) m
    step_walked = top_both (thread_at m.threads pid).stack

  -- ---- and where `Q` does not look at phases and bindings

  module _ (blind : (n : Machine) (phases : List Phase) (bindings : List ℕ) → Q n → Q (record n { phases = phases; bindings = bindings }))
      (process : (q : ℕ) → is_unstarted (thread_at m.threads q).status ≡ true → (n : Machine) → Q n → Calls S o call.StartProcess (λ x. with_status x q Ready) n) where
    start_inside_both : (line routine component : ℕ) (arguments : List Argument) (bounds : List Bound) (rest : List Entry) → Both (λ x. start_inside r x pid line routine component arguments bounds rest) m
    start_inside_both line routine component arguments bounds rest =
        let end : Entry = InitEnd (thread_at m.threads pid).frame component in
        let entry : Machine = open_frame r m pid routine component end rest in
        either_both (is_uninitialised (phase_at m component))
        (λ is. w.goes _ (blind (with_thread (with_permanents entry _) pid _) _ _ (w.changed entry _ _ refl (opened_known routine component end rest)))) (w.fails _)

    started_both : (line : ℕ) (k : ComponentKind) (routine component : ℕ) (arguments : List Argument) (bounds : List Bound) (rest : List Entry) → Both (λ x. start_by r x pid line k routine component arguments bounds rest) m
    started_both line (kind.Process q) routine component arguments bounds rest =
        let given : Machine = parameters_bound (with_stack m pid rest) pid (component_at r component).base arguments bounds in
        let known : Q given = blind (with_thread (with_permanents (with_stack m pid rest) _) pid _) _ _ (writing rest _ _ refl) in
        either_both (is_unstarted (thread_at m.threads q).status) (λ is. process q is given known) (w.fails _)
    started_both line _ routine component arguments bounds rest = start_inside_both line routine component arguments bounds rest

    pub step_blind : Both (λ x. step_at r x pid) m
    step_blind = step_walked started_both

-- a value is displayed, or the output is full
pub show_either : (S : Stepped → Type 0) (m : Machine) (pid : ℕ) (rest : List Entry) (v : Shown) → S (record { machine = m; event = OutputFull })
    → S (record { machine = with_output (with_stack m pid rest) (m.output ++ v ∷ []); event = Kernel call.Display }) → S (show m pid rest v)
show_either S m pid rest v h k = go (length m.output == MOST_SHOWN)
  where
    go : (b : Bool) → S (if b then record { machine = m; event = OutputFull } else record { machine = with_output (with_stack m pid rest) (m.output ++ v ∷ []); event = Kernel call.Display })
    go true = h
    go false = k
