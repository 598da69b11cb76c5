-- A step keeps what is known of components.
use Rattle.std.proofs.Common.{◌≡◌, ℕ, ◌<◌, List, [], ◌∷◌, length, Option, Some, None, Ok, IsTrue, true, sym, refl, subst, if◌then◌else◌}
use Rattle.cp_machine.proofs.Words.{ℤ, ◌==◌, int_eq, component_inside, ActionNames, IsOf, IsTyped, Names, Tables, RoutineView, component_at, item_at, routine_at, Action}
use Rattle.cp_machine.proofs.Words.{Item, ComponentPlace, FindsComponent, Memory, put_copy, put_number, is_true, check_range, Frame, Entry, Rest, Successor, Return, InitEnd}
use Rattle.cp_machine.proofs.Words.{Ended, Initialised, MOST_SHOWN, leave_frame, EntryFits, LinesFit, MachineFits, StackFits, Machine, is_ready, thread_at, with_stack, Executes}
use Rattle.cp_machine.proofs.Words.{FrameReaches, ThreadReaches, rest_of, arm_for, is_beyond, next_value, successor_step, act, step_at, take_top}
use Rattle.cp_slots.specs.declared.item.Action.TheVariants.{Empty, Assign, AssignSet, Copy, Block, If, Case, Assert, While, Until, For, Cycle, Call, Start, Delay, Continue, Display}
use Rattle.cp_store.specs.Sets as sets
use Rattle.cp_machine.specs.Memory.{address_of, arguments_of, component_of, memory_at, set_of, set_written, value_of, with_memory}
use Rattle.cp_machine.proofs.frames.Covered.{frame_reaches}
use Rattle.cp_machine.proofs.parameters.Executing.{let_in_executes, phase_executes, same_executes, status_executes}
use Rattle.cp_machine.proofs.parameters.ExecutingLemmas.{Executing, finds_component, named_component}
use Rattle.cp_machine.proofs.parameters.ExecutingSteps.{Calm, Going, Runs, called_by_going, calm_line, continue_at_going, delay_at_going, either_going, either_runs, gone_going, has_started, left_going, memory_going, rest_runs, stack_going, started_going, thread_calm, top_executes, value_going}

module _ (r : Tables) (m : Machine) (pid : ℕ) (typed : IsTyped r) (fits : MachineFits r m) (lines : LinesFit m) (ready : is_ready m pid ≡ true) (reaches : FrameReaches r (thread_at m.threads pid).references (thread_at m.threads pid).frame) (h : Executing r m) (executes : Executes r m pid (thread_at m.threads pid).frame.component) where
  abbrev Stands : List Entry → Type 0
  Stands es = Runs r m pid (thread_at m.threads pid).frame es

  abbrev ItsNames : Action → Type 0
  ItsNames a = ActionNames r (routine_at r (thread_at m.threads pid).frame.routine).system a

  above : (list : Option ℕ) (es : List Entry) → Stands es → Stands (rest_of list es)
  above list es s = rest_runs r m pid (thread_at m.threads pid).frame list es s

  goes : (stack : List Entry) → Stands stack → Executing r (with_stack m pid stack)
  goes stack s = stack_going r m pid typed fits lines ready reaches h stack s

  writes : (stack : List Entry) (x : Memory) → Stands stack → Executing r (with_memory (with_stack m pid stack) pid x)
  writes stack x s = memory_going r m pid typed fits lines ready reaches h stack x s

  act_going : (at : ℕ) (item : Item) (a : Action) (es : List Entry) → ItsNames a → Stands es → Going r (act r m pid at item a es)
  act_going at item Empty es n s = goes _ (above item.next es s)
  act_going at item (Assign target value low high) es n s =
      value_going r (value_of m pid value) _ _ (λ e. h) (λ v of_v.
      value_going r (address_of m pid target) _ _ (λ e. h) (λ p of_p.
      value_going r (check_range low high v) _ _ (λ e. h) (λ w of_w. writes _ (put_number (memory_at (with_stack m pid (rest_of item.next es)) pid) p w) (above item.next es s))))
  act_going at item (AssignSet target value low high) es n s =
      value_going r (set_of m pid value) _ _ (λ e. h) (λ v of_v.
      value_going r (address_of m pid target) _ _ (λ e. h) (λ p of_p.
      value_going r (sets.check_members low high v) _ _ (λ e. h) (λ w of_w. writes _ (set_written (memory_at (with_stack m pid (rest_of item.next es)) pid) p w) (above item.next es s))))
  act_going at item (Copy target source size) es n s =
      value_going r (address_of m pid source) _ _ (λ e. h) (λ from of_from.
      value_going r (address_of m pid target) _ _ (λ e. h) (λ to of_to. writes _ (put_copy (memory_at (with_stack m pid (rest_of item.next es)) pid) to from size) (above item.next es s)))
  act_going at item (Block list) es n s = goes _ (above list (rest_of item.next es) (above item.next es s))
  act_going at item (If test list other) es n s =
      value_going r (value_of m pid test) _ _ (λ e. h) (λ v of_v. goes _ (above (if is_true v then list else other) (rest_of item.next es) (above item.next es s)))
  act_going at item (Case selector arms) es n s =
      value_going r (value_of m pid selector) _ _ (λ e. h) (λ v of_v.
      value_going r (arm_for v arms.items) _ _ (λ e. h) (λ list of_list. goes _ (above list (rest_of item.next es) (above item.next es s))))
  act_going at item (Assert test said) es n s =
      value_going r (value_of m pid test) _ _ (λ e. h) (λ v of_v. either_going r (is_true v) _ _ (λ e. goes _ (above item.next es s)) h)
  act_going at item (While test list again) es n s =
      value_going r (value_of m pid test) _ _ (λ e. h) (λ v of_v. goes _ (either_runs r m pid _ (is_true v) _ _ (above list (Rest again ∷ es) s) (above item.next es s)))
  act_going at item (Until test list again) es n s =
      value_going r (value_of m pid test) _ _ (λ e. h) (λ v of_v. goes _ (either_runs r m pid _ (is_true v) _ _ (above item.next es s) (above list (Rest again ∷ es) s)))
  act_going at item (For variable low high first last down list) es n s =
      value_going r (value_of m pid first) _ _ (λ e. h) (λ x of_x.
      value_going r (value_of m pid last) _ _ (λ e. h) (λ y of_y.
      either_going r (is_beyond down x y) _ _ (λ e. goes _ (above item.next es s))
      (value_going r (check_range low high x) _ _ (λ e. h) (λ v of_v. gone_going r m pid typed fits lines ready reaches h at variable list es y v s))))
  act_going at item (Cycle list) es n s = goes _ (above list (Rest at ∷ es) s)
  act_going at item (Call routine place is_entry arguments slot) es n s =
      value_going r (component_of m pid place) _ _ (λ e. h) (λ c is.
      value_going r (arguments_of m pid arguments.items) _ _ (λ e. h) (λ bs given.
      called_by_going r m pid typed fits lines ready reaches h item.line is_entry routine c place arguments.items bs slot _ n.1 is executes (above item.next es s)))
  act_going at item (Start place routine arguments) es n s =
      value_going r (component_of m pid place) _ _ (λ e. h) (λ c is.
      value_going r (arguments_of m pid arguments.items) _ _ (λ e. h) (λ bs given.
      (let of = named_component r m typed fits h.bound pid ready (thread_at m.threads pid).frame (routine_at r (thread_at m.threads pid).frame.routine).system reaches.component reaches.own executes (memory_at m pid) place (routine_at r routine).system c n.0 is in
      started_going r m pid typed fits lines ready reaches h routine c arguments.items bs _ of n.1 given executes (above item.next es s) item.line (component_at r c).kind refl)))
  act_going at item (Delay place) es n s = value_going r (address_of m pid place) _ _ (λ e. h) (λ p of_p. delay_at_going r m pid typed fits lines ready reaches h item.line _ p (above item.next es s))
  act_going at item (Continue place) es n s = value_going r (address_of m pid place) _ _ (λ e. h) (λ p of_p. continue_at_going r m pid typed fits lines ready reaches h item.next es p s)
  act_going at item (Display value kind) es n s =
      value_going r (value_of m pid value) _ _ (λ e. h) (λ v of_v.
      either_going r (length m.output == MOST_SHOWN) _ _ (λ e. h) (same_executes r (with_stack m pid (rest_of item.next es)) _ refl refl refl (goes _ (above item.next es s))))

  successor_going : (at : ℕ) (item : Item) (a : Action) (es : List Entry) (z last : ℤ) → Stands es → Going r (successor_step m pid at item a es z last)
  successor_going at item (For variable low high first end down list) es z last s =
      either_going r (int_eq z last) _ _ (λ e. goes _ (above item.next es s))
      (value_going r (next_value down low high z) _ _ (λ e. h) (λ v of_v. gone_going r m pid typed fits lines ready reaches h at variable list es last v s))
  successor_going at item _ es z last s = goes _ (above item.next es s)

  leaves : (caller : Frame) (slot : Option ℕ) (es : List Entry) → Runs r m pid caller es → Executing r (leave_frame r m pid caller slot es)
  leaves caller slot es s = left_going r m pid typed fits lines ready reaches h m caller slot es h s

  -- what an item on the control stack names
  item_names : (at below : ℕ) → EntryFits r (thread_at m.threads pid).frame at below → ItsNames (item_at r at).action
  item_names at below e = subst (λ k. ActionNames r (routine_at r k).system (item_at r at).action) e.nests.same (typed.actions at e.nests.place)

  top_going : (es : List Entry) → StackFits r (thread_at m.threads pid).frame es → Stands es → Going r (take_top r m pid es)
  top_going [] f s = status_executes r m pid Ended (sym (has_started r m pid typed fits lines ready reaches h)) h
  top_going (Rest at ∷ es) f s = act_going at (item_at r at) (item_at r at).action es (item_names at (length es) f.0) s
  top_going (Successor at z last ∷ es) f s = successor_going at (item_at r at) (item_at r at).action es z last s
  top_going (Return caller slot None ∷ es) f s = leaves caller slot es (s.0.1, s.1)
  top_going (Return caller slot (Some monitor) ∷ es) f s =
      let n = leave_frame r m pid caller slot es in
      let calm : Calm m n = thread_calm m pid _ refl in
      let_in_executes r n monitor (calm_line r m pid typed fits lines ready reaches h n monitor calm) (leaves caller slot es (s.0.1, s.1))
  top_going (InitEnd caller component ∷ es) f s = phase_executes r (leave_frame r m pid caller None es) component Initialised s.1.0 refl (leaves caller None es (s.0.1, s.1.1))

-- what a process names is a component of the system type that its statement wants
pub process_finds : (r : Tables) (m : Machine) (pid : ℕ) → pid < length m.threads → IsTyped r → MachineFits r m → is_ready m pid ≡ true → ThreadReaches r (thread_at m.threads pid) → Executing r m → (place : ComponentPlace) (named component : ℕ) → Names r (routine_at r (thread_at m.threads pid).frame.routine).system place named → component_of m pid place ≡ Ok component → IsOf r named component
process_finds r m pid lt typed fits ready reaches h place named component n is =
    let t = thread_at m.threads pid in
    let f = frame_reaches r t.references t.frame t.stack reaches in
    named_component r m typed fits h.bound pid ready t.frame (routine_at r t.frame.routine).system f.component f.own (top_executes r m pid t.frame t.stack (h.executes pid lt)) (memory_at m pid) place named component n is

-- .. and it is found
pub process_reads : (r : Tables) (m : Machine) (pid : ℕ) → pid < length m.threads → IsTyped r → MachineFits r m → is_ready m pid ≡ true → ThreadReaches r (thread_at m.threads pid) → Executing r m → (view : RoutineView) (place : ComponentPlace) (named : ℕ) → Names r (routine_at r (thread_at m.threads pid).frame.routine).system place named → IsTrue (component_inside view place) → FindsComponent m.bindings view (thread_at m.threads pid).frame place
process_reads r m pid lt typed fits ready reaches h view place named n inside =
    let t = thread_at m.threads pid in
    let f = frame_reaches r t.references t.frame t.stack reaches in
    finds_component r m typed fits h.bound pid ready t.frame (routine_at r t.frame.routine).system f.component f.own (top_executes r m pid t.frame t.stack (h.executes pid lt)) view place named n inside

-- a step of a ready process keeps what is known of components
pub step_executes : (r : Tables) (m : Machine) (pid : ℕ) → pid < length m.threads → IsTyped r → MachineFits r m → LinesFit m → is_ready m pid ≡ true → ThreadReaches r (thread_at m.threads pid) → Executing r m → Executing r (step_at r m pid).machine
step_executes r m pid lt typed fits lines ready reaches h =
    let t = thread_at m.threads pid in
    top_going r m pid typed fits lines ready (frame_reaches r t.references t.frame t.stack reaches) h (top_executes r m pid t.frame t.stack (h.executes pid lt)) t.stack (fits.each pid lt).stack (h.executes pid lt, h.ends pid lt)
