-- A step keeps what is known of components: calls, queues and starts.
use Rattle.std.proofs.Common.{◌≡◌, ◌∙◌, ℕ, ◌+◌, ◌<◌, ◌≤◌, ◌⊎◌, List, [], ◌∷◌, length, Option, Some, None, Result, Ok, Err, Bool, true, false, sym, refl, subst, arith, if◌then◌else◌}
use Rattle.cp_machine.proofs.Words.{ℤ, pos, slice_index_or, Tables, component_at, parameter_at, routine_at, Argument, ComponentPlace, PlaceOrigin, ComponentKind}
use Rattle.cp_machine.proofs.Words.{bindings_after, bind_component, bind_frame, Memory, put_number, is_true, Bound, ErrorName, Address, Frame, Entry, Rest}
use Rattle.cp_machine.proofs.Words.{Successor, Return, InitEnd, Phase, Uninitialised, Initialising, LinesFit, MachineFits, arguments_of, component_of, memory_at}
use Rattle.cp_machine.proofs.Words.{origin_of, with_memory, EndsBegun, Executes, ExecutesAs, FrameReaches, StackExecutes, from_end, rest_of, Stepped, gone_on, with_value}
use Rattle.cp_slots.specs.Systems.{Hands, IsOf, IsOwn, IsTyped, StaysInside, own_of, parameter_count}
use Rattle.cp_slots.specs.declared.place.ComponentPlace.TheVariants.{Own}
use Rattle.cp_slots.specs.declared.tables.ComponentKind.TheVariants as kind
use Rattle.cp_store.specs.declared.memory.Address.TheVariants as address
use Rattle.cp_machine.specs.Calls.{open_call, call_by, call_in, continue_at, continue_by, continue_from, continue_in, delay_at, delay_in, frame_behind, leave_frame, open_frame, start_inside, start_process, start_by}
use Rattle.cp_machine.specs.Machine.{Machine, Thread, is_initialised, is_ready, is_uninitialised, is_unstarted, monitor_at, phase_at, thread_at, with_bindings, with_phase, with_stack, with_thread}
use Rattle.cp_machine.specs.declared.discipline.Signals.{Signals}
use Rattle.cp_machine.specs.declared.discipline.Signals.TheVariants as signals
use Rattle.cp_machine.proofs.parameters.Executing.{HasStarted, KeepsPhases, LineStarted, continued_executes, delayed_executes, ends_later, entered_executes, line_started, memory_executes, signalled_executes, stack_executes, stack_later, thread_executes}
use Rattle.cp_machine.proofs.parameters.ExecutingHanded.{handed}
use Rattle.cp_machine.proofs.parameters.ExecutingLemmas.{Executing, named_component, ok_is, ready_started}
use Rattle.cp_machine.proofs.parameters.ExecutingStarts.{initialising_begun, initialising_keeps, inside_begins, process_begins}
use Rattle.cp_machine.proofs.lines.KernelLines.{read_set}

-- ---- control stacks

-- the entries that stand in a frame
abbrev pub Runs : Tables → Machine → (pid : ℕ) → Frame → List Entry → Type 0
Runs r m pid f es = StackExecutes r m pid f es × EndsBegun m es

pub rest_runs : (r : Tables) (m : Machine) (pid : ℕ) (f : Frame) (list : Option ℕ) (es : List Entry) → Runs r m pid f es → Runs r m pid f (rest_of list es)
rest_runs r m pid f None es h = h
rest_runs r m pid f (Some at) es h = h

end_runs : (r : Tables) (m : Machine) (pid : ℕ) (f : Frame) (es : List Entry) → Runs r m pid f es → Runs r m pid f (from_end es)
end_runs r m pid f (Rest at ∷ es) h = end_runs r m pid f es h
end_runs r m pid f (Successor at z last ∷ es) h = end_runs r m pid f es h
end_runs r m pid f _ h = h

pub top_executes : (r : Tables) (m : Machine) (pid : ℕ) (f : Frame) (es : List Entry) → StackExecutes r m pid f es → Executes r m pid f.component
top_executes r m pid f [] h = h
top_executes r m pid f (Rest at ∷ es) h = top_executes r m pid f es h
top_executes r m pid f (Successor at z last ∷ es) h = top_executes r m pid f es h
top_executes r m pid f _ h = h.0

-- ---- choices

abbrev pub Going : Tables → Stepped → Type 0
Going r x = Executing r x.machine

pub value_going : {A : Type 0} (r : Tables) (o : Result A ErrorName) (failed : ErrorName → Stepped) (go : A → Stepped) → ((e : ErrorName) → Going r (failed e)) → ((v : A) → o ≡ Ok v → Going r (go v)) → Going r (with_value o failed go)
value_going r (Ok v) failed go f g = g v refl
value_going r (Err e) failed go f g = f e

pub either_going : (r : Tables) (b : Bool) (x y : Stepped) → (b ≡ true → Going r x) → Going r y → Going r (if b then x else y)
either_going r true x y h k = h refl
either_going r false x y h k = k

pub either_runs : (r : Tables) (m : Machine) (pid : ℕ) (f : Frame) (b : Bool) (es fs : List Entry) → Runs r m pid f es → Runs r m pid f fs → Runs r m pid f (if b then es else fs)
either_runs r m pid f true es fs h k = h
either_runs r m pid f false es fs h k = k

initialised_begun : (p : Phase) → is_initialised p ≡ true → is_uninitialised p ≡ false
initialised_begun Uninitialised h = absurd (cc)
initialised_begun _ h = refl

-- what is named by itself alone is the component that is executed
stays : (m : Machine) (pid : ℕ) (place : ComponentPlace) (c : ℕ) → IsOwn place → component_of m pid place ≡ Ok c → (thread_at m.threads pid).frame.component ≡ c
stays m pid Own c own is = ok_is is
stays m pid _ c own is = absurd own

-- statuses stay where a process writes, or goes on in its own thread
abbrev pub Calm : Machine → Machine → Type 0
Calm m n = (q : ℕ) → is_unstarted (thread_at n.threads q).status ≡ is_unstarted (thread_at m.threads q).status

pub thread_calm : (m : Machine) (pid : ℕ) (x : Thread) → is_unstarted x.status ≡ is_unstarted (thread_at m.threads pid).status → Calm m (with_thread m pid x)
thread_calm m pid x same = read_set (λ (u : Thread). is_unstarted u.status) m.threads pid x same

module _ (r : Tables) (m : Machine) (pid : ℕ) (typed : IsTyped r) (fits : MachineFits r m) (lines : LinesFit m) (ready : is_ready m pid ≡ true) (reaches : FrameReaches r (thread_at m.threads pid).references (thread_at m.threads pid).frame) (h : Executing r m) where
  abbrev own : Thread
  own = thread_at m.threads pid

  pub has_started : HasStarted m pid
  has_started = ready_started own.status ready

  pub calm_line : (n : Machine) (monitor : ℕ) → Calm m n → LineStarted n (monitor_at m monitor).line
  calm_line n monitor calm q there = calm q ∙ line_started m monitor lines q there

  pub stack_going : (stack : List Entry) → Runs r m pid own.frame stack → Executing r (with_stack m pid stack)
  stack_going stack s = stack_executes r m pid stack (λ lt. s) h

  pub memory_going : (stack : List Entry) (x : Memory) → Runs r m pid own.frame stack → Executing r (with_memory (with_stack m pid stack) pid x)
  memory_going stack x s = memory_executes r (with_stack m pid stack) pid x (stack_going stack s)

  pub gone_going : (at : ℕ) (variable : PlaceOrigin) (list : Option ℕ) (es : List Entry) (last z : ℤ) → Runs r m pid own.frame es → Executing r (gone_on m pid at variable list es last z)
  gone_going at variable list es last z s =
      let stack = rest_of list (Successor at z last ∷ es) in
      memory_going stack (put_number (memory_at (with_stack m pid stack) pid) (origin_of m pid variable) z) (rest_runs r m pid own.frame list (Successor at z last ∷ es) s)

  -- ---- calls

  called_going : (routine c : ℕ) (arguments : List Argument) (bounds : List Bound) (slot monitor : Option ℕ) (rest : List Entry) → Executes r m pid c → Runs r m pid own.frame rest → Executing r (open_call r m pid routine c arguments bounds slot monitor rest)
  called_going routine c arguments bounds slot monitor rest executes s =
      let end = Return own.frame slot monitor in
      let n = open_frame r m pid routine c end rest in
      let runs = rest_runs r m pid (frame_behind r own routine c) (routine_at r routine).body (end ∷ rest) ((executes, s.0), s.1) in
      memory_executes r n pid (bind_frame (memory_at n pid) (thread_at n.threads pid).frame arguments bounds) (thread_executes r m pid _ (λ lt. runs) refl h)

  called_in_going : (k : ComponentKind) (routine c : ℕ) (arguments : List Argument) (bounds : List Bound) (slot : Option ℕ) (rest : List Entry) → (component_at r c).kind ≡ k → is_uninitialised (phase_at m c) ≡ false → Runs r m pid own.frame rest → Going r (call_in r m pid k routine c arguments bounds slot rest)
  called_in_going (kind.Monitor monitor) routine c arguments bounds slot rest is begun s =
      let n = open_frame r m pid routine c (Return own.frame slot (Some monitor)) rest in
      let o = open_call r m pid routine c arguments bounds slot (Some monitor) rest in
      let entering : HasStarted n pid = thread_calm m pid _ refl pid ∙ has_started in
      let inside : HasStarted o pid = thread_calm n pid _ refl pid ∙ entering in
      let executes : Executes r m pid c = subst (ExecutesAs m pid c) (sym is) begun in
      entered_executes r o pid monitor inside (called_going routine c arguments bounds slot (Some monitor) rest executes s)
  called_in_going kind.Class routine c arguments bounds slot rest is begun s =
      called_going routine c arguments bounds slot None rest (subst (ExecutesAs m pid c) (sym is) begun) s
  called_in_going (kind.Process number) routine c arguments bounds slot rest is begun s = stack_going rest s

  pub called_by_going : (line : ℕ) (is_entry : Bool) (routine c : ℕ) (place : ComponentPlace) (arguments : List Argument) (bounds : List Bound) (slot : Option ℕ) (rest : List Entry) → StaysInside is_entry place → component_of m pid place ≡ Ok c → Executes r m pid own.frame.component → Runs r m pid own.frame rest → Going r (call_by r m pid line is_entry routine c arguments bounds slot rest)
  called_by_going line false routine c place arguments bounds slot rest inside is executes s =
      called_going routine c arguments bounds slot None rest (subst (Executes r m pid) (stays m pid place c inside is) executes) s
  called_by_going line true routine c place arguments bounds slot rest inside is executes s =
      either_going r (is_initialised (phase_at m c)) _ _ (λ e. called_in_going (component_at r c).kind routine c arguments bounds slot rest refl (initialised_begun (phase_at m c) e) s) h

  -- ---- queues

  delayed_in_going : (line cell : ℕ) (k : ComponentKind) (rest : List Entry) → Runs r m pid own.frame rest → Going r (delay_in m pid line cell k rest)
  delayed_in_going line cell (kind.Monitor monitor) rest s =
      let n = with_stack m pid rest in
      let calm : Calm m n = thread_calm m pid _ refl in
      either_going r (is_true (slice_index_or m.permanents cell (pos 0))) _ _ (λ e. h)
      (delayed_executes r n pid monitor cell (calm pid ∙ has_started) (calm_line n monitor calm) (stack_going rest s))
  delayed_in_going line cell _ rest s = stack_going rest s

  pub delay_at_going : (line : ℕ) (rest : List Entry) (a : Address) → Runs r m pid own.frame rest → Going r (delay_at r m pid line rest a)
  delay_at_going line rest (address.Permanent cell) s = delayed_in_going line cell (component_at r own.frame.component).kind rest s
  delay_at_going line rest (address.Local cell) s = stack_going rest s

  -- the innermost frame is given up
  pub left_going : (n : Machine) (caller : Frame) (slot : Option ℕ) (es : List Entry) → Executing r n → Runs r n pid caller es → Executing r (leave_frame r n pid caller slot es)
  left_going n caller slot es k s = thread_executes r n pid _ (λ lt. s) refl k

  continued_from_going : (n : Machine) → Executing r n → ((monitor : ℕ) → LineStarted n (monitor_at n monitor).line) → (cell : ℕ) (f : Frame) (es : List Entry) → Runs r n pid f es → Going r (continue_from r n pid cell es)
  continued_from_going n k line cell f (Return caller slot (Some monitor) ∷ es) s =
      let o = leave_frame r n pid caller slot es in
      let later : Calm n o = thread_calm n pid _ refl in
      continued_executes r o monitor cell (λ q there. (later q ∙ line monitor q there)) (left_going n caller slot es k (s.0.1, s.1))
  continued_from_going n k line cell f _ s = k

  continued_in_going : (cell : ℕ) (k : ComponentKind) (rest : List Entry) → Runs r m pid own.frame rest → Going r (continue_in m pid cell k rest)
  continued_in_going cell (kind.Monitor monitor) rest s =
      let n = with_stack m pid rest in
      let calm : Calm m n = thread_calm m pid _ refl in
      signalled_executes r n pid monitor cell (calm pid ∙ has_started) (stack_going rest s)
  continued_in_going cell kind.Class rest s = stack_going rest s
  continued_in_going cell (kind.Process number) rest s = stack_going rest s

  continue_by_going : (signals : Signals) (cell : ℕ) (next : Option ℕ) (es : List Entry) → Runs r m pid own.frame es → Going r (continue_by signals r m pid cell next es)
  continue_by_going signals.Return cell next es s =
      let end = end_runs r m pid own.frame es s in
      let n = with_stack m pid (from_end es) in
      let calm : Calm m n = thread_calm m pid _ refl in
      let later : Runs r n pid own.frame (from_end es) = (stack_later r m n pid own.frame (from_end es) (λ c b. b) end.0, ends_later m n (from_end es) (λ c b. b) end.1) in
      continued_from_going n (stack_going (from_end es) end) (λ monitor. calm_line n monitor calm) cell own.frame (from_end es) later
  continue_by_going signals.Continue cell next es s = continued_in_going cell (component_at r own.frame.component).kind (rest_of next es) (rest_runs r m pid own.frame next es s)
  continue_by_going signals.Wait cell next es s = continued_in_going cell (component_at r own.frame.component).kind (rest_of next es) (rest_runs r m pid own.frame next es s)

  pub continue_at_going : (next : Option ℕ) (es : List Entry) (a : Address) → Runs r m pid own.frame es → Going r (continue_at r m pid next es a)
  continue_at_going next es (address.Permanent cell) s = continue_by_going m.discipline.signals cell next es s
  continue_at_going next es (address.Local cell) s = stack_going (rest_of next es) (rest_runs r m pid own.frame next es s)

  -- ---- starts, of a component whose system type is the routine's

  module _ (routine c : ℕ) (arguments : List Argument) (bounds : List Bound) (rest : List Entry) (of : IsOf r (routine_at r routine).system c) (hands : Hands r (routine_at r own.frame.routine).system (routine_at r routine).system 0 arguments) (given : arguments_of m pid arguments ≡ Ok bounds) (executes : Executes r m pid own.frame.component) (s : Runs r m pid own.frame rest) where
    abbrev base : ℕ
    base = (component_at r c).base

    abbrev after : List ℕ
    after = bindings_after m.bindings base arguments bounds

    abbrev IsBound : List ℕ → Type 0
    IsBound bindings = (number : ℕ) → number < parameter_count r (component_at r c).system → IsOf r (parameter_at r (component_at r c).system number).system (slice_index_or bindings (base + (parameter_at r (component_at r c).system number).slot) 0)

    abbrev LeavesOthers : List ℕ → Type 0
    LeavesOthers bindings = (cell : ℕ) → (cell < base) ⊎ (base + own_of r c ≤ cell) → slice_index_or bindings cell 0 ≡ slice_index_or m.bindings cell 0

    all_handed : IsBound after × LeavesOthers after
    all_handed =
        let named = named_component r m typed fits h.bound pid ready own.frame (routine_at r own.frame.routine).system reaches.component reaches.own executes (memory_at m pid) in
        let found = handed r typed (memory_at m pid) m.bindings own.frame (routine_at r own.frame.routine).system named (component_at r c).system base (typed.components c of.0).cells arguments bounds fits.bindings (subst (λ k. Hands r (routine_at r own.frame.routine).system k 0 arguments) (sym of.1) hands) given in
        ((λ number few. found.0 number (omega arith) few), found.1)

    start_process_going : (line q : ℕ) → (component_at r c).kind ≡ kind.Process q → Going r (start_process r m pid line q c arguments bounds rest)
    start_process_going line q is =
        let n = with_stack m pid rest in
        let written : Memory = bind_component (memory_at n pid) base arguments bounds in
        either_going r (is_unstarted (thread_at m.threads q).status) _ _
        (λ e. process_begins r typed (with_memory n pid written) (memory_going rest written s) c of.0 after all_handed.0 all_handed.1 q is)
        h

    abbrev Begun : Machine
    Begun = with_phase (with_bindings m after) c Initialising

    start_inside_going : (line : ℕ) → (is_uninitialised (phase_at Begun c) ≡ false → ExecutesAs Begun pid c (component_at r c).kind) → Going r (start_inside r m pid line routine c arguments bounds rest)
    start_inside_going line inside =
        let end = InitEnd own.frame c in
        let o = open_frame r Begun pid routine c end rest in
        let there : c < length m.phases = omega (arith, of.0, fits.phases) in
        let begun = initialising_begun (with_bindings m after) c there in
        let keeps : KeepsPhases m Begun = initialising_keeps m c in
        let caller : Runs r Begun pid own.frame rest = (stack_later r m Begun pid own.frame rest keeps s.0, ends_later m Begun rest keeps s.1) in
        let runs = rest_runs r Begun pid (frame_behind r own routine c) (routine_at r routine).body (end ∷ rest) ((inside begun, caller.0), (begun, caller.1)) in
        let all = inside_begins r typed m h c of.0 after all_handed.0 all_handed.1 in
        either_going r (is_uninitialised (phase_at m c)) _ _
        (λ e. memory_executes r o pid (bind_component (memory_at o pid) base arguments bounds) (thread_executes r Begun pid _ (λ lt. runs) refl all))
        h

    pub started_going : (line : ℕ) (k : ComponentKind) → (component_at r c).kind ≡ k → Going r (start_by r m pid line k routine c arguments bounds rest)
    started_going line (kind.Process q) is = start_process_going line q is
    started_going line _ is = start_inside_going line (λ begun. subst (ExecutesAs Begun pid c) (sym is) begun)
