-- A step does the same to a machine that lies over another one, where the footprint has all that the step may touch.
use Rattle.std.proofs.Common.{◌≡◌, ◌∙◌, ℕ, ◌+◌, ◌^◌, ◌<◌, Bool, true, false, List, [], ◌∷◌, length, Ok, ap, sym, subst, arith, eqb, rules}
use Rattle.std.specs.Prelude.{◌&&◌}
use Rattle.std.specs.List.{list_any}
use Rattle.std.proofs.lemmas.Bool.{eqb-true}
use Rattle.cp_slots.specs.Fits.{ActionFits, IsSound}
use Rattle.cp_slots.specs.Inside.{SET_CELLS, action_inside, arguments_inside, binds_from, component_inside, expression_inside, has, place_room, result_inside, room_from, set_inside}
use Rattle.cp_slots.specs.Systems.{ActionNames, Hands, HandsNone, HandsOne, IsOf, IsTyped, Names, is_component, own_of, parameter_count}
use Rattle.cp_slots.specs.Tables.{RoutineView, Tables, component_at, item_at, parameter_at, routine_at, system_at}
use Rattle.cp_slots.specs.declared.item.Action.{Action}
use Rattle.cp_slots.specs.declared.item.Action.TheVariants.{Empty, Assign, AssignSet, Copy, Block, If, Case, Assert, While, Until, For, Cycle, Call, Start, Delay, Continue, Display}
use Rattle.cp_slots.specs.declared.item.Item.{Item}
use Rattle.cp_slots.specs.declared.place.Argument.{Argument}
use Rattle.cp_slots.specs.declared.place.ArgumentValue.{ArgumentValue}
use Rattle.cp_slots.specs.declared.place.ArgumentValue.TheVariants as value
use Rattle.cp_slots.specs.declared.place.ComponentPlace.{ComponentPlace}
use Rattle.cp_slots.specs.declared.place.ComponentPlace.TheVariants.{Own, Contained, Element, Parameter}
use Rattle.cp_store.specs.declared.argument.Bound.{Bound}
use Rattle.cp_store.specs.declared.memory.Frame.{Frame}
use Rattle.cp_store.specs.Memory.{onward}
use Rattle.cp_store.proofs.Reaches.{and_left, and_right}
use Rattle.cp_machine.specs.declared.event.Event.TheVariants.{Ended as Over}
use Rattle.cp_machine.specs.declared.process.Entry.{Entry}
use Rattle.cp_machine.specs.declared.process.Entry.TheVariants.{Rest, Successor, Return, InitEnd}
use Rattle.cp_machine.specs.declared.process.Status.{Status}
use Rattle.cp_machine.specs.declared.process.Status.TheVariants.{Unstarted, Ready, AtGate, Delayed, Ended}
use Rattle.cp_machine.specs.Fits.{EntryFits, StackFits}
use Rattle.cp_machine.specs.Machine.{Machine, Thread, is_at_gate, is_delayed_at, is_ready, monitor_at, thread_at}
use Rattle.cp_machine.specs.Memory.{arguments_of, component_of, memory_at}
use Rattle.cp_machine.specs.Reach.{FrameReaches}
use Rattle.cp_machine.specs.Stack.{from_end}
use Rattle.cp_machine.specs.Statements.{Stepped}
use Rattle.cp_machine.specs.Step.{act, step_at, take_top}
use Rattle.cp_machine.proofs.frames.Covered.{covered, frame_reaches}
use Rattle.cp_machine.proofs.frames.ReachingKept.{executing_of}
use Rattle.cp_machine.proofs.parameters.ExecutingAct.{process_finds}
use Rattle.cp_machine.proofs.rooms.Keeping.{frame_fits}
use Rattle.cp_effect_laws.specs.Footprint.{Footprint, laid_over, step_over}
use Rattle.cp_effect_laws.specs.Touches.{HasComponent, HasEnd, HasFrom, HasNamed, HasStep, HasTop, HasWaiters, IsKept, waits_there}
use Rattle.cp_effect_laws.proofs.Arguments.{AllFit, OwnPlace, OwnValue, OwnValues, bound_inside}
use Rattle.cp_effect_laws.proofs.Calls.{call_laid, continue_laid, delay_laid, init_ended_laid, returned_laid, start_laid}
use Rattle.cp_effect_laws.proofs.Kernel.{AllOwn}
use Rattle.cp_effect_laws.proofs.Lying.{Named}
use Rattle.cp_effect_laws.proofs.Machines.{status_laid, thread_laid}
use Rattle.cp_effect_laws.proofs.Statements.{assert_laid, assign_laid, assign_set_laid, branch_laid, case_laid, copy_laid, display_laid, done, evented, for_laid, stacked, succeeded_laid, until_laid, while_laid}
use Rattle.cp_effect_laws.proofs.Writing.{AllInComponent}

-- ---- who waits in the footprint

delayed_there : (f : Footprint) (cell : ℕ) (s : Status) → f.cells cell ≡ true → is_delayed_at cell s ≡ true → waits_there f s ≡ true
delayed_there f cell (Delayed queue) own is = ap f.cells (eqb-true queue cell is) ∙ own
delayed_there f cell Unstarted own is = absurd (cc)
delayed_there f cell Ready own is = absurd (cc)
delayed_there f cell (AtGate monitor) own is = absurd (cc)
delayed_there f cell Ended own is = absurd (cc)

gate_there : (f : Footprint) (monitor : ℕ) (s : Status) → f.monitors monitor ≡ true → is_at_gate monitor s ≡ true → waits_there f s ≡ true
gate_there f monitor (AtGate gate) own is = ap f.monitors (eqb-true gate monitor is) ∙ own
gate_there f monitor Unstarted own is = absurd (cc)
gate_there f monitor Ready own is = absurd (cc)
gate_there f monitor (Delayed cell) own is = absurd (cc)
gate_there f monitor Ended own is = absurd (cc)

pub waiters_at : (f : Footprint) (m : Machine) → HasWaiters f m → (cell : ℕ) → f.cells cell ≡ true → (q : ℕ) → is_delayed_at cell (thread_at m.threads q).status ≡ true → f.statuses q ≡ true
waiters_at f m h cell own q is = h q (delayed_there f cell (thread_at m.threads q).status own is)

line_own : (own : ℕ → Bool) (line : List ℕ) → ((q : ℕ) → list_any (eqb q) line ≡ true → own q ≡ true) → AllOwn own line
line_own own [] h = tt
line_own own (q ∷ line) h = (h q (first q), line_own own line (λ p is. h p (later p is)))
  where
    first : (p : ℕ) → list_any (eqb p) (p ∷ line) ≡ true
    first p = search rules

    later : (p : ℕ) → list_any (eqb p) line ≡ true → list_any (eqb p) (q ∷ line) ≡ true
    later p is = search rules

-- ---- what a statement names is own

module _ (f : Footprint) (r : Tables) (g : Frame) (system : ℕ) (typed : IsTyped r) (of : IsOf r system g.component) (own : HasFrom f.cells g.own (own_of r g.component)) (few : g.own + own_of r g.component < 2 ^ 64) where
  own_place : (place : ComponentPlace) (named : ℕ) → Names r system place named → OwnPlace f.cells g place
  own_place (Parameter slot) named (number, lt, slot_is, of_system) =
      let below : (parameter_at r system number).slot < (system_at r system).own = typed.parameters system number lt in
      let same : own_of r g.component ≡ (system_at r system).own = ap (λ s. (system_at r s).own) of.1 in
      own (onward g.own slot) (omega (arith, below, same, slot_is, few)) (omega (arith, below, same, slot_is, few))
  own_place Own named n = tt
  own_place (Contained number) named n = tt
  own_place (Element first low high stride index) named n = tt

  no_values : (xs : List Argument) → HandsNone xs → OwnValues f.cells g xs
  no_values [] h = tt
  no_values (x ∷ xs) h = (one x.value h.0, no_values xs h.1)
    where
      one : (v : ArgumentValue) → is_component v ≡ false → OwnValue f.cells g v
      one (value.Component place) is = absurd (cc)
      one (value.Scalar e low high) is = tt
      one (value.Set e low high) is = tt
      one (value.Copy source size) is = tt
      one (value.Reference place) is = tt

  one_value : (started : ℕ) (v : ArgumentValue) (slot next : ℕ) (others : ℕ → Type 0) → HandsOne r system started v slot next others → OwnValue f.cells g v × ((further : ℕ) × others further)
  one_value started (value.Component place) slot next others h = (own_place place _ h.2, (next + 1, h.3))
  one_value started (value.Scalar e low high) slot next others h = (tt, (next, h))
  one_value started (value.Set e low high) slot next others h = (tt, (next, h))
  one_value started (value.Copy source size) slot next others h = (tt, (next, h))
  one_value started (value.Reference place) slot next others h = (tt, (next, h))

  own_values : (started : ℕ) (xs : List Argument) (next : ℕ) → Hands r system started next xs → OwnValues f.cells g xs
  own_values started [] next h = tt
  own_values started (x ∷ xs) next h =
      let one = one_value started x.value x.slot next (λ further. Hands r system started further xs) h in
      (one.0, own_values started xs one.1.0 one.1.1)

-- the slots of components that are handed over are cells of the component
module _ (r : Tables) (system started slots : ℕ) (below : (k : ℕ) → k < parameter_count r started → (parameter_at r started k).slot < slots) where
  hands_slot : (v : ArgumentValue) (slot next : ℕ) (others : ℕ → Type 0) → HandsOne r system started v slot next others → (is_component v ≡ true → slot < slots) × ((further : ℕ) × others further)
  hands_slot (value.Component place) slot next others h =
      let there = below next h.0 in
      let slot_is : slot ≡ (parameter_at r started next).slot = h.1 in
      ((λ is. subst (λ s. s < slots) (sym slot_is) there), (next + 1, h.3))
  hands_slot _ slot next others h = ((λ is. absurd (cc)), (next, h))

  hands_below : (xs : List Argument) (next : ℕ) → Hands r system started next xs → AllFit (λ a. is_component a.value ≡ true → a.slot < slots) xs
  hands_below [] next h = tt
  hands_below (x ∷ xs) next h =
      let one = hands_slot x.value x.slot next (λ further. Hands r system started further xs) h in
      (one.0, hands_below xs one.1.0 one.1.1)

-- the routine that a start executes is there
abbrev pub Knows : Tables → Action → Type 0
Knows r (Start place routine arguments) = routine < length r.routines
Knows r _ = Unit {0}

knows_of : (r : Tables) (routine need : ℕ) (a : Action) → ActionFits r routine need a → Knows r a
knows_of r routine need (Start place callee arguments) h = h.routine
knows_of r routine need _ h = tt

-- ---- a step

module _ (f : Footprint) (r : Tables) (m n : Machine) (p : ℕ) (there : p < length m.threads) (sound : IsSound r) (kept : IsKept r m) (ready : is_ready m p ≡ true) (has_all : HasStep f r m p) (mine : HasWaiters f m) (theirs : HasWaiters f n) where
  abbrev thread : Thread
  thread = thread_at m.threads p

  abbrev view : RoutineView
  view = routine_at r thread.frame.routine

  typed : IsTyped r
  typed = sound.typed

  fits : StackFits r thread.frame thread.stack
  fits = (kept.fits.each p there).stack

  reaches : FrameReaches r thread.references thread.frame
  reaches = frame_reaches r thread.references thread.frame thread.stack (kept.reach.frames p there)

  of : IsOf r view.system thread.frame.component
  of = reaches.component

  few : thread.frame.own + own_of r thread.frame.component < 2 ^ 64
  few =
      let owns = (typed.components thread.frame.component of.0).cells in
      let words = typed.words.permanents in
      let at = reaches.own in
      omega (arith, owns, words, at)

  named : Named f.cells (memory_at m p) view thread.frame
  named =
      let routine : thread.frame.routine < length r.routines = (frame_fits r thread.frame thread.stack fits).routine in
      let names = (typed.routines thread.frame.routine routine).cells in
      let same : own_of r thread.frame.component ≡ (system_at r view.system).own = ap (λ s. (system_at r s).own) of.1 in
      record {
        covers = covered r m p there sound typed kept.fits (kept.reach.frames p there);
        self = λ k from below. has_all.frame.own k from (omega (arith, below, names, same));
        others = has_all.frame.behind;
      }

  lines : (k : ℕ) → f.monitors k ≡ true → AllOwn f.statuses (monitor_at m k).line
  lines k own = line_own f.statuses (monitor_at m k).line (λ q is. mine q (gate_there f k (thread_at m.threads q).status own (kept.lines.gate k q ∙ is)))

  waits_mine : (cell : ℕ) → f.cells cell ≡ true → (q : ℕ) → is_delayed_at cell (thread_at m.threads q).status ≡ true → f.statuses q ≡ true
  waits_mine = waiters_at f m mine

  waits_theirs : (cell : ℕ) → f.cells cell ≡ true → (q : ℕ) → is_delayed_at cell (thread_at n.threads q).status ≡ true → f.statuses q ≡ true
  waits_theirs = waiters_at f n theirs

  abbrev Does : Stepped → Stepped → Type 0
  Does x y = x ≡ step_over f y n

  abbrev over_n : Machine
  over_n = laid_over f m n

  -- ---- an item that is the topmost entry

  target_all : (place : ComponentPlace) (routine : ℕ) (arguments : List Argument) → routine < length r.routines → Names r view.system place (routine_at r routine).system → Hands r view.system (routine_at r routine).system 0 arguments
      → arguments_inside view (routine_at r routine) (routine_at r routine).own arguments ≡ true → ((component : ℕ) → component_of m p place ≡ Ok component → HasComponent f r component)
      → (component : ℕ) (bounds : List Bound) → component_of m p place ≡ Ok component → arguments_of m p arguments ≡ Ok bounds → AllInComponent f.cells (component_at r component).base arguments bounds
  target_all place routine arguments known names hands i target component bounds found given =
      let callee = routine_at r routine in
      let owner : IsOf r callee.system component = process_finds r m p there typed kept.fits ready (kept.reach.frames p there) (executing_of r m kept.reach) place callee.system component names found in
      let owns = (typed.components component owner.0).cells in
      let words = typed.words.permanents in
      let same : own_of r component ≡ (system_at r callee.system).own = ap (λ s. (system_at r s).own) owner.1 in
      let less = (typed.routines routine known).cells in
      bound_inside f.cells (memory_at m p) m.bindings view callee thread.frame named callee.own (component_at r component).base (own_of r component) (target component found).cells (omega (arith, owns, words)) (omega (arith, less, same))
      arguments bounds (hands_below r view.system callee.system (own_of r component) (λ k lt. let under = typed.parameters callee.system k lt in omega (arith, under, same)) arguments 0 hands) i given

  act_laid : (at : ℕ) (item : Item) (a : Action) (es : List Entry) → action_inside r view a ≡ true → ActionNames r view.system a → Knows r a → HasNamed f r m p a → HasEnd f (from_end es)
      → Does (act r over_n p at item a es) (act r m p at item a es)
  act_laid at item Empty es i names known target end = done f m n p has_all.status has_all.body _ (stacked f m n p has_all.status has_all.body _)
  act_laid at item (Assign to value low high) es i names known target end =
      assign_laid f m n p has_all.status has_all.body view named item.line to value low high _ (and_left (expression_inside view value) (has 1 (place_room view to)) i) (and_right (expression_inside view value) (has 1 (place_room view to)) i)
  act_laid at item (AssignSet to value low high) es i names known target end =
      assign_set_laid f m n p has_all.status has_all.body view named item.line to value low high _ (and_left (set_inside view value) (has SET_CELLS (place_room view to)) i) (and_right (set_inside view value) (has SET_CELLS (place_room view to)) i)
  act_laid at item (Copy to from size) es i names known target end =
      copy_laid f m n p has_all.status has_all.body view named item.line to from size _ (and_left (has size (place_room view from)) (has size (place_room view to)) i) (and_right (has size (place_room view from)) (has size (place_room view to)) i)
  act_laid at item (Block list) es i names known target end = done f m n p has_all.status has_all.body _ (stacked f m n p has_all.status has_all.body _)
  act_laid at item (If test list other) es i names known target end = branch_laid f m n p has_all.status has_all.body view named item.line test list other _ i
  act_laid at item (Case selector arms) es i names known target end = case_laid f m n p has_all.status has_all.body view named item.line selector arms.items _ i
  act_laid at item (Assert test said) es i names known target end = assert_laid f m n p has_all.status has_all.body view named item.line test said _ i
  act_laid at item (While test list again) es i names known target end = while_laid f m n p has_all.status has_all.body view named item.line test list again item.next es i
  act_laid at item (Until test list again) es i names known target end = until_laid f m n p has_all.status has_all.body view named item.line test list again item.next es i
  act_laid at item (For variable low high first last down list) es i names known target end =
      let bounds = and_right (has 1 (room_from view variable)) (expression_inside view first && expression_inside view last) i in
      for_laid f m n p has_all.status has_all.body view named item.line at variable low high first last down list item.next es
      (and_left (has 1 (room_from view variable)) (expression_inside view first && expression_inside view last) i)
      (and_left (expression_inside view first) (expression_inside view last) bounds) (and_right (expression_inside view first) (expression_inside view last) bounds)
  act_laid at item (Cycle list) es i names known target end = done f m n p has_all.status has_all.body _ (stacked f m n p has_all.status has_all.body _)
  act_laid at item (Call routine place is_entry arguments result) es i names known target end =
      let callee = routine_at r routine in
      let xs = arguments.items in
      let c = component_inside view place in
      let reads = arguments_inside view callee (length callee.image) xs in
      let binds = binds_from (length callee.extents) 0 xs in
      let others = and_right c (reads && (binds && result_inside view callee result)) i in
      call_laid f r m n p has_all.status has_all.body view named item.line routine place is_entry xs result _
      (and_left c (reads && (binds && result_inside view callee result)) i) (and_left reads (binds && result_inside view callee result) others)
      (own_place f r thread.frame view.system typed of has_all.frame.own few place callee.system names.0)
      (no_values f r thread.frame view.system typed of has_all.frame.own few xs names.2) target
  act_laid at item (Start place routine arguments) es i names known target end =
      let callee = routine_at r routine in
      let xs = arguments.items in
      let c = component_inside view place in
      let reads = arguments_inside view callee callee.own xs in
      let binds = binds_from (length callee.extents) 0 xs in
      let read = and_left reads binds (and_right c (reads && binds) i) in
      start_laid f r m n p has_all.status has_all.body view named item.line routine place xs _
      (and_left c (reads && binds) i) read
      (own_place f r thread.frame view.system typed of has_all.frame.own few place callee.system names.0)
      (own_values f r thread.frame view.system typed of has_all.frame.own few callee.system xs 0 names.1) target
      (target_all place routine xs known names.0 names.1 read target)
  act_laid at item (Delay place) es i names known target end = delay_laid f r m n p has_all.status has_all.body lines waits_mine waits_theirs view named item.line place _ i has_all.here
  act_laid at item (Continue place) es i names known target end = continue_laid f r m n p has_all.status has_all.body lines waits_mine waits_theirs view named item.line place item.next es i has_all.here end
  act_laid at item (Display value kind) es i names known target end = display_laid f m n p has_all.status has_all.body view named item.line value kind _ i

  module _ (at below : ℕ) (stands : EntryFits r thread.frame at below) where
    item_inside : action_inside r view (item_at r at).action ≡ true
    item_inside = subst (λ k. action_inside r (routine_at r k) (item_at r at).action ≡ true) stands.nests.same (sound.inside at stands.nests.place)

    item_names : ActionNames r view.system (item_at r at).action
    item_names = subst (λ k. ActionNames r (routine_at r k).system (item_at r at).action) stands.nests.same (typed.actions at stands.nests.place)

    item_knows : Knows r (item_at r at).action
    item_knows = knows_of r _ _ (item_at r at).action (sound.items at stands.nests.place).action

  -- ---- the topmost entry

  top_laid : (es : List Entry) → StackFits r thread.frame es → HasEnd f (from_end es) → HasTop f r m p es → Does (take_top r over_n p es) (take_top r m p es)
  top_laid [] stands end top = evented f m n p has_all.status has_all.body _ Over (status_laid f n m p Ended has_all.status)
  top_laid (Rest at ∷ es) stands end top = act_laid at (item_at r at) (item_at r at).action es (item_inside at _ stands.0) (item_names at _ stands.0) (item_knows at _ stands.0) top end
  top_laid (Successor at z last ∷ es) stands end top = succeeded_laid f m n p has_all.status has_all.body view named r at (item_at r at) (item_at r at).action es z last (item_inside at _ stands.0)
  top_laid (Return caller result monitor ∷ es) stands end top = returned_laid f r m n p has_all.status has_all.body lines waits_mine waits_theirs caller result monitor es end
  top_laid (InitEnd caller component ∷ es) stands end top = init_ended_laid f r m n p has_all.status has_all.body lines waits_mine waits_theirs caller component es end

  pub step_laid : step_at r (laid_over f m n) p ≡ step_over f (step_at r m p) n
  step_laid = ap (λ (t : Thread). take_top r over_n p t.stack) (thread_laid f n p has_all.status has_all.body m) ∙ top_laid thread.stack fits has_all.end has_all.top
