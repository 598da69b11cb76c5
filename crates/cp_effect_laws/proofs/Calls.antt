-- Calls, starts, their ends, `delay` and `continue` do the same to a machine that lies over another one.
use Rattle.std.proofs.Common.{◌≡◌, ◌∙◌, ℕ, zero, suc, Bool, true, false, List, [], ◌∷◌, length, Option, Some, None, Ok, ap, refl, sym, arith, if◌then◌else◌}
use Rattle.std.specs.Prelude.{pos, IfSome, slice_index_or, slice_set}
use Rattle.cp_slots.specs.Inside.{arguments_inside, component_inside, has, place_room}
use Rattle.cp_slots.specs.Tables.{RoutineView, Tables, component_at, routine_at}
use Rattle.cp_slots.specs.declared.place.Argument.{Argument}
use Rattle.cp_slots.specs.declared.place.ComponentPlace.{ComponentPlace}
use Rattle.cp_slots.specs.declared.place.Place.{Place}
use Rattle.cp_slots.specs.declared.tables.ComponentKind.{ComponentKind}
use Rattle.cp_slots.specs.declared.tables.ComponentKind.TheVariants as kind
use Rattle.cp_store.specs.declared.argument.Bound.{Bound}
use Rattle.cp_store.specs.declared.error.ErrorName.TheVariants.{NotInit, InitTwice, QueueInUse}
use Rattle.cp_store.specs.declared.memory.Address.{Address}
use Rattle.cp_store.specs.declared.memory.Address.TheVariants as address
use Rattle.cp_store.specs.declared.memory.Frame.{Frame}
use Rattle.cp_store.specs.Arguments.{bounds_at}
use Rattle.cp_store.specs.Components as components
use Rattle.cp_store.specs.Values.{is_true}
use Rattle.cp_machine.specs.declared.discipline.Signals.{Signals}
use Rattle.cp_machine.specs.declared.discipline.Signals.TheVariants as signals
use Rattle.cp_machine.specs.declared.event.Event.TheVariants.{Kernel}
use Rattle.cp_machine.specs.declared.event.Kernel.TheVariants.{Enter, Leave, Delay, Continue, StartProcess}
use Rattle.cp_machine.specs.declared.process.Entry.{Entry}
use Rattle.cp_machine.specs.declared.process.Entry.TheVariants.{Return, InitEnd}
use Rattle.cp_machine.specs.declared.process.Status.TheVariants.{Ready}
use Rattle.cp_machine.specs.declared.state.Phase.TheVariants.{Initialising, Initialised}
use Rattle.cp_machine.specs.Calls.{call, open_call, call_by, call_in, continue, continue_at, continue_by, continue_from, continue_in, delay, delay_at, delay_in, end_init, leave_frame, open_frame, return_to, start, start_inside as inside_started, start_process, start_by}
use Rattle.cp_machine.specs.Kernel.{resume, delay_caller, enter_caller, let_in, signal}
use Rattle.cp_machine.specs.Machine.{Machine, Thread, is_delayed_at, is_initialised, is_uninitialised, is_unstarted, monitor_at, phase_at, thread_at, with_phase, with_stack, with_status}
use Rattle.cp_machine.specs.Memory.{address_of, arguments_of, component_of, frame_bound, memory_at, parameters_bound}
use Rattle.cp_machine.specs.Stack.{from_end, rest_of}
use Rattle.cp_machine.specs.Statements.{Stepped, fault, local}
use Rattle.cp_effect_laws.specs.Footprint.{Footprint, laid_over, overlaid}
use Rattle.cp_effect_laws.specs.Touches.{HasComponent, HasEnd, HasKind}
use Rattle.cp_effect_laws.proofs.Arguments.{OwnPlace, OwnValues, all_same, bound_in, found_same}
use Rattle.cp_effect_laws.proofs.Kernel.{AllOwn, continued_laid, delayed_laid, entered_laid, let_in_laid, signalled_laid}
use Rattle.cp_effect_laws.proofs.Lying.{Named}
use Rattle.cp_effect_laws.proofs.Machines.{cell_read, frame_laid, left_laid, memory_of_thread, opened_laid, parameters_laid, phase_laid, phase_read, status_laid, status_read, thread_laid}
use Rattle.cp_effect_laws.proofs.Overlays.{own_read}
use Rattle.cp_effect_laws.proofs.Statements.{Same, address_laid, done, either, evented, spot_at, stacked, valued}
use Rattle.cp_effect_laws.proofs.Writing.{AllInComponent, AllInFrame, Spot}

-- a thread that changes, but not its status
pub status_stays : (ts : List Thread) (p q : ℕ) (t : Thread) → t.status ≡ (thread_at ts p).status → (thread_at (slice_set ts p t) q).status ≡ (thread_at ts q).status
status_stays [] p q t e = refl
status_stays (x ∷ ts) zero zero t e = e
status_stays (x ∷ ts) zero (suc q) t e = refl
status_stays (x ∷ ts) (suc p) zero t e = refl
status_stays (x ∷ ts) (suc p) (suc q) t e = status_stays ts p q t e

module _ (f : Footprint) (r : Tables) (m n : Machine) (p : ℕ) (status : f.statuses p ≡ true) (body : f.bodies p ≡ true) where
  abbrev pub AsBefore : Stepped → Stepped → Type 0
  AsBefore x y = Same f m n p status body x y

  abbrev over_n : Machine → Machine
  over_n k = laid_over f k n

  abbrev frame : Frame
  frame = (thread_at m.threads p).frame

  -- ---- calls

  pub called_laid : (routine component : ℕ) (arguments : List Argument) (bounds : List Bound) (result monitor : Option ℕ) (rest : List Entry) → ((g : Frame) → AllInFrame f.cells g arguments bounds)
      → open_call r (over_n m) p routine component arguments bounds result monitor rest ≡ over_n (open_call r m p routine component arguments bounds result monitor rest)
  called_laid routine component arguments bounds result monitor rest all =
      let end = Return frame result monitor in
      ap (λ (t : Thread). frame_bound (open_frame r (over_n m) p routine component (Return t.frame result monitor) rest) p arguments bounds) (thread_laid f n p status body m)
      ∙ ap (λ x. frame_bound x p arguments bounds) (opened_laid f n p status body r m routine component end rest)
      ∙ frame_laid f n p status body (open_frame r m p routine component end rest) arguments bounds (all (thread_at (open_frame r m p routine component end rest).threads p).frame)

  called_in_laid : (k : ComponentKind) (routine component : ℕ) (arguments : List Argument) (bounds : List Bound) (result : Option ℕ) (rest : List Entry) → HasKind f k → ((g : Frame) → AllInFrame f.cells g arguments bounds)
      → AsBefore (call_in r (over_n m) p k routine component arguments bounds result rest) (call_in r m p k routine component arguments bounds result rest)
  called_in_laid (kind.Monitor monitor) routine component arguments bounds result rest own all =
      evented f m n p status body _ (Kernel Enter)
      (ap (λ x. enter_caller x p monitor) (called_laid routine component arguments bounds result (Some monitor) rest all)
      ∙ entered_laid f n monitor own p status (open_call r m p routine component arguments bounds result (Some monitor) rest))
  called_in_laid kind.Class routine component arguments bounds result rest own all = done f m n p status body _ (called_laid routine component arguments bounds result None rest all)
  called_in_laid (kind.Process number) routine component arguments bounds result rest own all = done f m n p status body _ (stacked f m n p status body rest)

  called_by_laid : (line : ℕ) (is_entry : Bool) (routine component : ℕ) (arguments : List Argument) (bounds : List Bound) (result : Option ℕ) (rest : List Entry) → HasComponent f r component → ((g : Frame) → AllInFrame f.cells g arguments bounds)
      → AsBefore (call_by r (over_n m) p line is_entry routine component arguments bounds result rest) (call_by r m p line is_entry routine component arguments bounds result rest)
  called_by_laid line false routine component arguments bounds result rest own all = done f m n p status body _ (called_laid routine component arguments bounds result None rest all)
  called_by_laid line true routine component arguments bounds result rest own all =
      ap (λ k. if is_initialised k then call_in r (over_n m) p (component_at r component).kind routine component arguments bounds result rest else fault (over_n m) p line NotInit) (phase_read f n m component own.status)
      ∙ either f m n p status body (is_initialised (phase_at m component)) _ _ _ _ (called_in_laid (component_at r component).kind routine component arguments bounds result rest own.kind all) refl

  -- ---- starts

  start_process_laid : (line q component : ℕ) (arguments : List Argument) (bounds : List Bound) (rest : List Entry) → f.statuses q ≡ true → AllInComponent f.cells (component_at r component).base arguments bounds
      → AsBefore (start_process r (over_n m) p line q component arguments bounds rest) (start_process r m p line q component arguments bounds rest)
  start_process_laid line q component arguments bounds rest own all =
      let base = (component_at r component).base in
      let bound = parameters_bound (with_stack m p rest) p base arguments bounds in
      ap (λ k. if is_unstarted k then (let s : Stepped = record { machine = with_status (parameters_bound (with_stack (over_n m) p rest) p base arguments bounds) q Ready; event = Kernel StartProcess } in s) else fault (over_n m) p line InitTwice)
      (status_read f.statuses f.bodies m.threads n.threads q own)
      ∙ either f m n p status body (is_unstarted (thread_at m.threads q).status) _ _ _ _
      (evented f m n p status body _ (Kernel StartProcess)
      (ap (λ x. with_status (parameters_bound x p base arguments bounds) q Ready) (stacked f m n p status body rest)
      ∙ ap (λ x. with_status x q Ready) (parameters_laid f n p status body (with_stack m p rest) base arguments bounds all)
      ∙ status_laid f n bound q Ready own)) refl

  start_inside_laid : (line routine component : ℕ) (arguments : List Argument) (bounds : List Bound) (rest : List Entry) → f.components component ≡ true → AllInComponent f.cells (component_at r component).base arguments bounds
      → AsBefore (inside_started r (over_n m) p line routine component arguments bounds rest) (inside_started r m p line routine component arguments bounds rest)
  start_inside_laid line routine component arguments bounds rest own all =
      let base = (component_at r component).base in
      let end = InitEnd frame component in
      let entered_in = open_frame r m p routine component end rest in
      ap (λ k. if is_uninitialised k then local (with_phase (parameters_bound (open_frame r (over_n m) p routine component (InitEnd (thread_at (over_n m).threads p).frame component) rest) p base arguments bounds) component Initialising) else fault (over_n m) p line InitTwice)
      (phase_read f n m component own)
      ∙ either f m n p status body (is_uninitialised (phase_at m component)) _ _ _ _
      (done f m n p status body _
      (ap (λ (t : Thread). with_phase (parameters_bound (open_frame r (over_n m) p routine component (InitEnd t.frame component) rest) p base arguments bounds) component Initialising) (thread_laid f n p status body m)
      ∙ ap (λ x. with_phase (parameters_bound x p base arguments bounds) component Initialising) (opened_laid f n p status body r m routine component end rest)
      ∙ ap (λ x. with_phase x component Initialising) (parameters_laid f n p status body entered_in base arguments bounds all)
      ∙ phase_laid f n (parameters_bound entered_in p base arguments bounds) component Initialising own)) refl

  started_laid : (line : ℕ) (k : ComponentKind) (routine component : ℕ) (arguments : List Argument) (bounds : List Bound) (rest : List Entry) → HasKind f k → f.components component ≡ true → AllInComponent f.cells (component_at r component).base arguments bounds
      → AsBefore (start_by r (over_n m) p line k routine component arguments bounds rest) (start_by r m p line k routine component arguments bounds rest)
  started_laid line (kind.Process q) routine component arguments bounds rest own phase all = start_process_laid line q component arguments bounds rest own all
  started_laid line (kind.Monitor monitor) routine component arguments bounds rest own phase all = start_inside_laid line routine component arguments bounds rest phase all
  started_laid line kind.Class routine component arguments bounds rest own phase all = start_inside_laid line routine component arguments bounds rest phase all

  -- ---- what is named and given

  module _ (v : RoutineView) (named : Named f.cells (memory_at m p) v frame) where
    agree : (k : ℕ) → f.cells k ≡ true → slice_index_or (overlaid f.cells m.permanents n.permanents) k (pos 0) ≡ slice_index_or m.permanents k (pos 0)
    agree k h = own_read f.cells m.permanents n.permanents k (pos 0) h

    alike : (k : ℕ) → f.cells k ≡ true → slice_index_or (overlaid f.cells m.bindings n.bindings) k 0 ≡ slice_index_or m.bindings k 0
    alike k h = own_read f.cells m.bindings n.bindings k 0 h

    component_laid : (place : ComponentPlace) → component_inside v place ≡ true → OwnPlace f.cells frame place → component_of (over_n m) p place ≡ component_of m p place
    component_laid place i h =
        ap (λ (t : Thread). components.component_at (memory_of_thread f n p status body (over_n m) t) (over_n m).bindings t.frame place) (thread_laid f n p status body m)
        ∙ found_same f.cells (memory_at m p) _ agree m.bindings _ alike v frame named place i h

    arguments_laid : (callee : RoutineView) (extent : ℕ) (xs : List Argument) → arguments_inside v callee extent xs ≡ true → OwnValues f.cells frame xs → arguments_of (over_n m) p xs ≡ arguments_of m p xs
    arguments_laid callee extent xs i h =
        ap (λ (t : Thread). bounds_at (memory_of_thread f n p status body (over_n m) t) (over_n m).bindings t.frame xs) (thread_laid f n p status body m)
        ∙ all_same f.cells (memory_at m p) _ agree m.bindings _ alike v frame named callee extent xs i h

    pub call_laid : (line routine : ℕ) (place : ComponentPlace) (is_entry : Bool) (arguments : List Argument) (result : Option ℕ) (rest : List Entry)
        → component_inside v place ≡ true → arguments_inside v (routine_at r routine) (length (routine_at r routine).image) arguments ≡ true → OwnPlace f.cells frame place → OwnValues f.cells frame arguments
        → ((component : ℕ) → component_of m p place ≡ Ok component → HasComponent f r component)
        → AsBefore (call r (over_n m) p line routine place is_entry arguments result rest) (call r m p line routine place is_entry arguments result rest)
    call_laid line routine place is_entry arguments result rest i j h k target =
        valued f m n p status body line (component_of m p place) (component_of (over_n m) p place) _ _ (component_laid place i h)
        (λ component component_is. valued f m n p status body line (arguments_of m p arguments) (arguments_of (over_n m) p arguments) _ _ (arguments_laid (routine_at r routine) (length (routine_at r routine).image) arguments j k)
        (λ bounds bounds_are. called_by_laid line is_entry routine component arguments bounds result rest (target component component_is)
        (λ g. bound_in f.cells (memory_at m p) m.bindings v (routine_at r routine) frame named (length (routine_at r routine).image) g arguments bounds j bounds_are)))

    pub start_laid : (line routine : ℕ) (place : ComponentPlace) (arguments : List Argument) (rest : List Entry)
        → component_inside v place ≡ true → arguments_inside v (routine_at r routine) (routine_at r routine).own arguments ≡ true → OwnPlace f.cells frame place → OwnValues f.cells frame arguments
        → ((component : ℕ) → component_of m p place ≡ Ok component → HasComponent f r component)
        → ((component : ℕ) (bounds : List Bound) → component_of m p place ≡ Ok component → arguments_of m p arguments ≡ Ok bounds → AllInComponent f.cells (component_at r component).base arguments bounds)
        → AsBefore (start r (over_n m) p line place routine arguments rest) (start r m p line place routine arguments rest)
    start_laid line routine place arguments rest i j h k target all =
        valued f m n p status body line (component_of m p place) (component_of (over_n m) p place) _ _ (component_laid place i h)
        (λ component component_is. valued f m n p status body line (arguments_of m p arguments) (arguments_of (over_n m) p arguments) _ _ (arguments_laid (routine_at r routine) (routine_at r routine).own arguments j k)
        (λ bounds bounds_are. started_laid line (component_at r component).kind routine component arguments bounds rest (target component component_is).kind (target component component_is).status (all component bounds component_is bounds_are)))

  -- ---- ends, `delay` and `continue`: the lines of own monitors, and who waits at own cells

  module _ (lines : (k : ℕ) → f.monitors k ≡ true → AllOwn f.statuses (monitor_at m k).line)
      (mine : (cell : ℕ) → f.cells cell ≡ true → (q : ℕ) → is_delayed_at cell (thread_at m.threads q).status ≡ true → f.statuses q ≡ true)
      (theirs : (cell : ℕ) → f.cells cell ≡ true → (q : ℕ) → is_delayed_at cell (thread_at n.threads q).status ≡ true → f.statuses q ≡ true) where
    pub returned_laid : (caller : Frame) (result monitor : Option ℕ) (es : List Entry) → IfSome monitor (λ k. f.monitors k ≡ true) → AsBefore (return_to r (over_n m) p caller result monitor es) (return_to r m p caller result monitor es)
    returned_laid caller result None es own = done f m n p status body _ (left_laid f n p status body r m caller result es)
    returned_laid caller result (Some k) es own =
        evented f m n p status body _ (Kernel Leave)
        (ap (λ x. let_in x k) (left_laid f n p status body r m caller result es)
        ∙ let_in_laid f n k own (leave_frame r m p caller result es) (lines k own))

    pub init_ended_laid : (caller : Frame) (component : ℕ) (es : List Entry) → f.components component ≡ true → AsBefore (end_init r (over_n m) p caller component es) (end_init r m p caller component es)
    init_ended_laid caller component es own =
        done f m n p status body _
        (ap (λ x. with_phase x component Initialised) (left_laid f n p status body r m caller None es)
        ∙ phase_laid f n (leave_frame r m p caller None es) component Initialised own)

    -- the stack alone is another one
    waits_still : (stack : List Entry) (cell : ℕ) → f.cells cell ≡ true → (q : ℕ) → is_delayed_at cell (thread_at (with_stack m p stack).threads q).status ≡ true → f.statuses q ≡ true
    waits_still stack cell own q h = mine cell own q (sym (ap (is_delayed_at cell) (status_stays m.threads p q (record (thread_at m.threads p) { stack = stack }) refl)) ∙ h)

    delayed_in_laid : (line cell : ℕ) (k : ComponentKind) (rest : List Entry) → HasKind f k → f.cells cell ≡ true → AsBefore (delay_in (over_n m) p line cell k rest) (delay_in m p line cell k rest)
    delayed_in_laid line cell (kind.Monitor k) rest own cell_own =
        ap (λ z. if is_true z then fault (over_n m) p line QueueInUse else (let s : Stepped = record { machine = delay_caller (with_stack (over_n m) p rest) p k cell; event = Kernel Delay } in s)) (cell_read f n m cell cell_own)
        ∙ either f m n p status body (is_true (slice_index_or m.permanents cell (pos 0))) _ _ _ _ refl
        (evented f m n p status body _ (Kernel Delay)
        (ap (λ x. delay_caller x p k cell) (stacked f m n p status body rest) ∙ delayed_laid f n k own p status (with_stack m p rest) cell cell_own (lines k own)))
    delayed_in_laid line cell kind.Class rest own cell_own = done f m n p status body _ (stacked f m n p status body rest)
    delayed_in_laid line cell (kind.Process number) rest own cell_own = done f m n p status body _ (stacked f m n p status body rest)

    delay_at_laid : (line : ℕ) (rest : List Entry) (a : Address) → HasKind f (component_at r frame.component).kind → Spot f.cells a 1 → AsBefore (delay_at r (over_n m) p line rest a) (delay_at r m p line rest a)
    delay_at_laid line rest (address.Permanent cell) own spot =
        ap (λ (t : Thread). delay_in (over_n m) p line cell (component_at r t.frame.component).kind rest) (thread_laid f n p status body m)
        ∙ delayed_in_laid line cell (component_at r frame.component).kind rest own (spot.own_cells cell (omega (arith)) (omega (arith)))
    delay_at_laid line rest (address.Local cell) own spot = done f m n p status body _ (stacked f m n p status body rest)

    continued_from_laid : (stack : List Entry) (cell : ℕ) (es : List Entry) → f.cells cell ≡ true → HasEnd f es → AsBefore (continue_from r (over_n (with_stack m p stack)) p cell es) (continue_from r (with_stack m p stack) p cell es)
    continued_from_laid stack cell (Return caller result (Some k) ∷ es) cell_own own =
        let after = leave_frame r (with_stack m p stack) p caller result es in
        evented f m n p status body _ (Kernel Continue)
        (ap (λ x. resume x k cell) (left_laid f n p status body r (with_stack m p stack) caller result es)
        ∙ continued_laid f n k own after cell cell_own
        (λ q h. waits_still stack cell cell_own q (sym (ap (is_delayed_at cell) (status_stays (with_stack m p stack).threads p q _ refl)) ∙ h))
        (theirs cell cell_own) (lines k own))
    continued_from_laid stack cell _ cell_own own = refl

    continued_in_laid : (cell : ℕ) (k : ComponentKind) (rest : List Entry) → HasKind f k → f.cells cell ≡ true → AsBefore (continue_in (over_n m) p cell k rest) (continue_in m p cell k rest)
    continued_in_laid cell (kind.Monitor k) rest own cell_own =
        evented f m n p status body _ (Kernel Continue)
        (ap (λ x. signal x p k cell) (stacked f m n p status body rest)
        ∙ signalled_laid f n k own (with_stack m p rest) cell cell_own (waits_still rest cell cell_own) (theirs cell cell_own) p status)
    continued_in_laid cell kind.Class rest own cell_own = done f m n p status body _ (stacked f m n p status body rest)
    continued_in_laid cell (kind.Process number) rest own cell_own = done f m n p status body _ (stacked f m n p status body rest)

    continue_by_laid : (g : Signals) (cell : ℕ) (next : Option ℕ) (es : List Entry) → HasKind f (component_at r frame.component).kind → HasEnd f (from_end es) → f.cells cell ≡ true
        → AsBefore (continue_by g r (over_n m) p cell next es) (continue_by g r m p cell next es)
    continue_by_laid signals.Return cell next es own end cell_own =
        ap (λ x. continue_from r x p cell (from_end es)) (stacked f m n p status body (from_end es)) ∙ continued_from_laid (from_end es) cell (from_end es) cell_own end
    continue_by_laid signals.Continue cell next es own end cell_own =
        ap (λ (t : Thread). continue_in (over_n m) p cell (component_at r t.frame.component).kind (rest_of next es)) (thread_laid f n p status body m)
        ∙ continued_in_laid cell (component_at r frame.component).kind (rest_of next es) own cell_own
    continue_by_laid signals.Wait cell next es own end cell_own =
        ap (λ (t : Thread). continue_in (over_n m) p cell (component_at r t.frame.component).kind (rest_of next es)) (thread_laid f n p status body m)
        ∙ continued_in_laid cell (component_at r frame.component).kind (rest_of next es) own cell_own

    continue_at_laid : (next : Option ℕ) (es : List Entry) (a : Address) → HasKind f (component_at r frame.component).kind → HasEnd f (from_end es) → Spot f.cells a 1 → AsBefore (continue_at r (over_n m) p next es a) (continue_at r m p next es a)
    continue_at_laid next es (address.Permanent cell) own end spot = continue_by_laid m.discipline.signals cell next es own end (spot.own_cells cell (omega (arith)) (omega (arith)))
    continue_at_laid next es (address.Local cell) own end spot = done f m n p status body _ (stacked f m n p status body (rest_of next es))

    module _ (v : RoutineView) (named : Named f.cells (memory_at m p) v frame) where
      pub delay_laid : (line : ℕ) (place : Place) (rest : List Entry) → has 1 (place_room v place) ≡ true → HasKind f (component_at r frame.component).kind → AsBefore (delay r (over_n m) p line place rest) (delay r m p line place rest)
      delay_laid line place rest i own =
          valued f m n p status body line (address_of m p place) (address_of (over_n m) p place) _ _ (address_laid f m n p status body v named place 1 i)
          (λ a a_is. delay_at_laid line rest a own (spot_at f m n p status body v named place 1 a i a_is))

      pub continue_laid : (line : ℕ) (place : Place) (next : Option ℕ) (es : List Entry) → has 1 (place_room v place) ≡ true → HasKind f (component_at r frame.component).kind → HasEnd f (from_end es) → AsBefore (continue r (over_n m) p line place next es) (continue r m p line place next es)
      continue_laid line place next es i own end =
          valued f m n p status body line (address_of m p place) (address_of (over_n m) p place) _ _ (address_laid f m n p status body v named place 1 i)
          (λ a a_is. continue_at_laid next es a own end (spot_at f m n p status body v named place 1 a i a_is))
