-- What a process starts next in a reached state: its arguments for components are of the parameters' types, and what is copied lies outside the cells of the
-- component that is started.
use Rattle.cp_machine_laws.proofs.Words.{◌≡◌, ◌∙◌, ℕ, ◌<◌, ◌≤◌, List, [], ◌∷◌, ◌++◌, length, Option, Some, ap, sym, refl, subst, IsRead, Designator, designator, init, Program}
use Rattle.cp_machine_laws.proofs.Words.{Start, Statement, Tree, plain, laid, Argument, ComponentPlace, ActionFits, CallFits, Tables, component_at, item_at, routine_at}
use Rattle.cp_machine_laws.proofs.Words.{system_at, Frame, Entry, Rest, Successor, Return, InitEnd, Machine, thread_at, IsAccepted, well_formed, RoutineMeaning, target_value}
use Rattle.cp_machine_laws.proofs.Words.{designator_calls, expressions_calls, Name, View, Target, component_there, is_ready, Scope, local_variable, find, Discipline, Item}
use Rattle.cp_machine_laws.proofs.Words.{start_item, return, init_end, end, ready, State, current, view_of, program_system, system_of, Ty, a_component, designator_form}
use Rattle.cp_machine_laws.proofs.Words.{tokens_of, Here, here, Layouts, SystemIs, Ground, layouts_of, placed_law, ItemStands, ground_of, Simulates, Prepared, StackIs}
use Rattle.cp_machine_laws.proofs.Words.{frames_of, Traits, scope_of, body_of, RoutinesKnown, ItemsFit, ActionNames, Hands, IsOf, Names, StartNames, meaning_at}
use Rattle.std.specs.Global.{Global}
use Rattle.std.specs.Prelude.{map, Ok, Vec}
use Rattle.cp_slots.specs.Code as code
use Rattle.cp_slots.specs.declared.item.Action.TheVariants as action
use Rattle.cp_machine.specs.Memory.{memory_at, component_of}
use Rattle.cp_meaning.specs.State as named
use Rattle.cp_resolved.specs.FormedStatements.{StartFormed, StatementFormed}
use Rattle.cp_resolved.specs.Headed.{EntranceFits}
use Rattle.cp_resolved.proofs.declarations.FramedOfTrees.{accepted_framed}
use Rattle.cp_resolved.proofs.systems.HandedOfTrees.{entrance_fits}
use Rattle.cp_resolved.proofs.statements.InitialsKnown.{formed_somewhere, no_local}
use Rattle.cp_resolved.proofs.statements.KnownOfTrees.{here_in, KnownFor, known_law, number_below}
use Rattle.cp_resolved.proofs.statements.KnownStatements as statements
use Rattle.cp_machine_laws.specs.StatesKnown.{AreHandedSo, IsStarting}
use Rattle.cp_machine_laws.proofs.expressions.ComponentPlaces.{ComponentsKnown}
use Rattle.cp_machine_laws.proofs.expressions.ComponentsNow.{components_now}
use Rattle.cp_machine_laws.proofs.control.Control.{Taken, scope_is, top_frame}
use Rattle.cp_machine_laws.proofs.steps.Executed.{executes}
use Rattle.cp_machine_laws.proofs.steps.Found.{action_fits_here, action_names, found_of}
use Rattle.cp_machine_laws.proofs.steps.Going.{Going, going, takes_one}
use Rattle.cp_machine_laws.proofs.HoldsInReached.{HoldsInReached, reached_stands}
use Rattle.cp_machine_laws.proofs.calls.Kept.{kept_right}
use Rattle.cp_machine_laws.proofs.reached.KnownItems.{start_in, within_one}
use Rattle.cp_machine_laws.proofs.reached.NextInReached.{Executed, executed}
use Rattle.cp_machine_laws.proofs.starts.Starting.{is_start}
use Rattle.cp_machine_laws.proofs.trees.ProgramOfTree.{prepared_of_tree}
use Rattle.cp_machine_laws.proofs.reached.ReadyInReached.{ReadyInReached, ready_in_reached}
use Rattle.cp_machine_laws.proofs.control.Running.{Executes, frames_below, sees_now}
use Rattle.cp_machine_laws.proofs.starts.StartComponents.{all_handed_so, found_there}
use Rattle.cp_machine_laws.proofs.starts.StartNames.{start_component}
use Rattle.cp_machine_laws.proofs.starts.StartsOutside.{lower, outside_started}

-- ---- the item of a start

record TakesStart (g : Ground) (p : Program) (l : Layouts) (s : State) (m : Machine) (q : ℕ) (x : Start) : Type 0 where
  pub at : ℕ
  pub mid : Option ℕ
  pub es : List Entry
  pub xs : List Item
  pub ys : List Item
  pub taken : Taken g p l s m q at (start_item x) mid es xs ys

first_item : (i j : Item) (is js : List Item) → i ∷ is ≡ j ∷ js → i ≡ j
first_item i j is js e = cc

takes_start : (g : Ground) (p : Program) (l : Layouts) (s : State) (m : Machine) (q : ℕ) → Going g p l s m q → (x : Start) (items : List Item) → (named.process_at s.processes q).items ≡ start_item x ∷ items → TakesStart g p l s m q x
takes_start g p l s m q k x items is = by_stack (thread_at m.threads q).stack refl k.stack
  where
    next : (i : Item) (js : List Item) → (named.process_at s.processes q).items ≡ i ∷ js → i ≡ start_item x
    next i js e = first_item i (start_item x) js items (sym e ∙ is)

    by_stack : (es : List Entry) → (thread_at m.threads q).stack ≡ es → StackIs g p l (thread_at m.threads q).frame (named.process_at s.processes q).calls (named.process_at s.processes q).items es → TakesStart g p l s m q x
    by_stack [] e h = absurd (let bad = next end [] h.2 in cc)
    by_stack (Rest at ∷ es) e h =
        let one = takes_one g p l s m q k at es e in
        record { at = at; mid = one.mid; es = es; xs = one.xs; ys = one.ys; taken = subst (λ (i : Item). Taken g p l s m q at i one.mid es one.xs one.ys) (next one.item (one.xs ++ one.ys) one.taken.items) one.taken }
    by_stack (Successor at z last ∷ es) e h = absurd (let bad = sym h.4.same ∙ next h.0 (h.1 ++ h.2) h.3 in cc)
    by_stack (Return caller slot monitor ∷ es) e h = absurd (let bad = next (return h.2) h.3 h.5 in cc)
    by_stack (InitEnd caller n ∷ es) e h = absurd (let bad = next (init_end n) h.2 h.4 in cc)

module _ (t : Tree) (r : Tables) (read : IsRead t.program) (ok : IsAccepted t) (same : plain r ≡ laid t) (f : Traits) (routines : RoutinesKnown t.program (layouts_of t) f) where
  abbrev p : Program
  p = t.program

  abbrev l : Layouts
  l = layouts_of t

  abbrev g : Ground
  g = ground_of t r

  prepared : Prepared t r l
  prepared = prepared_of_tree t r read ok same

  -- ---- where a start stands

  -- in an initial statement: its names are used as the rules want it, and no local variable is visible
  record StandsSo (scope : Scope) (x : Start) : Type 0 where
    pub place : Here
    pub scope_is : place.scope ≡ scope
    pub formed : StartFormed place x
    pub never : (y : Name) (u : Ty) → find y scope ≡ Some (local_variable u) → ⊥
    pub below : (system routine : ℕ) (part : code.ComponentPlace) (n : ℕ) → designator_form (here_in t system routine scope) x.target ≡ Some (a_component part n) → n ≤ program_system p

  stands_so : (n : ℕ) (x : Start) → ItemStands (scope_of l n) (body_of l n) (start_item x) → StandsSo (scope_of l n) x
  stands_so n x w =
      let k = known_law t read ok n in
      let bare = k.owned.initial (within_one (Known k 0 0) (body_of l n) (init w.0 w.1) (k.each 0 0) w.2).0 in
      let somewhere = formed_somewhere t read ok n in
      record {
        place = somewhere.place;
        scope_is = somewhere.scope;
        formed = start_in (StartFormed somewhere.place) x w.1 (within_one (StatementFormed somewhere.place) (body_of l n) (init w.0 w.1) somewhere.each w.2) w.3;
        never = no_local t read ok n (sym (ap (λ (m : RoutineMeaning). m.parameters) k.same) ∙ bare.0) (sym (ap (λ (m : RoutineMeaning). m.variables) k.same) ∙ bare.1);
        below = λ i j part c form. number_below t read ok c (start_in (statements.StartKnown (tokens_of p) (here_in t i j (scope_of l n))) x w.1 (within_one (Known k i j) (body_of l n) (init w.0 w.1) (k.each i j) w.2).1 w.3 part c form);
      }
    where
      Known : KnownFor t (meaning_at p n) → (i j : ℕ) → Statement → Type 0
      Known k i j = statements.StatementKnown (tokens_of p) (here_in t i j (scope_of l n)) k.place.context

  -- ---- a process that goes on with a start

  module _ (discipline : Discipline) (s : State) (m : Machine) (sim : Simulates t r l discipline s m) (q : ℕ) (less : q < length s.processes) (was : (named.process_at s.processes q).status ≡ ready) where
    abbrev v : View
    v = view_of p s q

    abbrev frame : Frame
    frame = (thread_at m.threads q).frame

    abbrev this : Here
    this = here p l frame.routine

    holds : HoldsInReached p s
    holds = reached_stands t ok discipline s sim.reached

    ready_to : ReadyInReached g p s m
    ready_to = ready_in_reached t r l discipline s m ok prepared.stands prepared.sound.typed sim

    goes_now : Going g p l s m q
    goes_now = going g p l s m q sim.represents less (ap is_ready was)

    names_here : ComponentsKnown v frame this m.bindings
    names_here = components_now t r l prepared s holds m ready_to sim.fits sim.reach q goes_now

    ex : Executes g p l m q
    ex = executes t r l prepared m q sim.fits goes_now.many

    module _ (x : Start) (at : ℕ) (mid : Option ℕ) (es : List Entry) (xs ys : List Item) (k : Taken g p l s m q at (start_item x) mid es xs ys) where
      abbrev routine : ℕ
      routine = (l.systems k.own.system).initial

      scope_here : (current v.calls).scope ≡ this.scope
      scope_here = scope_is g p l s m q at (start_item x) mid es xs ys k

      stands : StandsSo this.scope x
      stands =
          let e : Executed t ok l f routines discipline s sim.reached q (named.process_at s.processes q).items = executed t ok l f routines discipline s sim.reached q less was in
          let fit = subst (λ (is : List Item). ItemsFit l (e.number ∷ e.numbers) is) k.items e.remains in
          subst (λ (c : Scope). StandsSo c x) (sym e.scope ∙ scope_here) (stands_so e.number x fit.0)

      -- the system type of what is started
      type_below : k.own.system ≤ program_system p
      type_below = stands.below (l.owners frame.routine) frame.routine k.own.part k.own.system k.own.target

      system_is : SystemIs g p l k.own.system
      system_is = prepared.stands.systems k.own.system type_below

      act_is : (c : ComponentPlace) × (as' : Vec Argument Global) × ((item_at r at).action ≡ action.Start c routine as') × (code.component_seen c ≡ k.own.part) × (map code.argument_seen as'.items ≡ k.own.arguments)
      act_is = is_start (item_at r at).action k.own.part routine k.own.arguments k.own.item.action

      room : CallFits r frame.routine (item_at r at).need routine act_is.1.items
      room = subst (λ a. ActionFits r frame.routine (item_at r at).need a) act_is.2 (action_fits_here r m q prepared.sound sim.fits sim.reach goes_now.many goes_now.was_slot at es k.stack)

      item_names : StartNames r (routine_at r frame.routine).system routine act_is.0 act_is.1.items
      item_names = subst (λ a. ActionNames r (routine_at r frame.routine).system a) act_is.2 (action_names r m q prepared.sound sim.fits sim.reach goes_now.many goes_now.was_slot at es k.stack)

      started_is : (routine_at r routine).system ≡ k.own.system
      started_is = (prepared.stands.routines routine room.routine).system ∙ system_is.owner

      -- what the tables find
      found_is : (place : ComponentPlace) (n d : ℕ) → Names r (routine_at r frame.routine).system place n → component_of m q place ≡ Ok d → IsOf r n d
      found_is place n d names is = found_of r m q prepared.sound sim.fits sim.reach goes_now.many goes_now.was_slot at es k.stack place place n d refl names is

      typed : (place : ComponentPlace) (n d : ℕ) → Names r (routine_at r frame.routine).system place n → component_of m q place ≡ Ok d → (named.component_at s.components d).system ≡ n
      typed place n d names is = (let w = found_is place n d names is in ready_to.systems d w.0 ∙ w.1)

      module _ (target : Target) (found : target_value v x.target ≡ Ok target) where
        abbrev d : ℕ
        d = component_there v target.place

        component_is : IsOf r k.own.system d
        component_is =
            let leads = start_component g p l s m q at x mid es xs ys k ex names_here act_is.0 act_is.3 in
            subst (λ n. IsOf r n d) started_is (found_is act_is.0 (routine_at r routine).system d item_names.0 (found_there v (target_value v x.target) (component_of m q act_is.0) target found leads))

        low : (component_at r d).system < (component_at r frame.component).system
        low = by_name x.target k.own.target found
          where
            by_name : (name : Designator) → designator_form this name ≡ Some (a_component k.own.part k.own.system) → target_value v name ≡ Ok target → (component_at r d).system < (component_at r frame.component).system
            by_name (designator i ss) formed is = lower t r l prepared s holds m ready_to sim.fits sim.reach q goes_now (well_formed t ok) scope_here i ss k.own.part k.own.system formed target is component_is.0 component_is.1

        abbrev frames : List Frame
        frames = frame ∷ frames_below g p l s m q at (start_item x) mid es xs ys k ex

        abbrev Handed : List Frame → ℕ → Type 0
        Handed fs n = AreHandedSo r l fs v (component_at r d).base (system_at r (component_at r d).system).own (system_of p n).parameters x.arguments

        never_local : (y : Name) (u : Ty) → find y (current v.calls).scope ≡ Some (local_variable u) → ⊥
        never_local y u e = stands.never y u (ap (find y) (sym scope_here) ∙ e)

        handed : Handed frames k.own.system
        handed =
            let enters : EntranceFits r k.own.system (l.systems k.own.system).slots (system_of p k.own.system).parameters = entrance_fits t r same (placed_law t read ok).plain (accepted_framed t read ok) k.own.system type_below in
            all_handed_so r l frames v (memory_at m q) frame this (sees_now g p l s m q at (start_item x) mid es xs ys k ex) m.bindings names_here (component_at r d).base (system_at r (component_at r d).system).own
            (λ u name y a is place. outside_started t r l prepared s holds m ready_to sim.fits sim.reach q goes_now (well_formed t ok) d component_is.0 low never_local frames u name y a is place)
            (routine_at r frame.routine).system typed stands.place stands.scope_is k.own.system (l.systems k.own.system).slots
            0 (system_of p k.own.system).parameters x.arguments k.own.arguments act_is.1.items act_is.4 k.own.given enters.values stands.formed.used (kept_right this (designator_calls this.scope x.target) (expressions_calls this.scope x.arguments) k.kept)
            enters.handed (subst (λ n. Hands r (routine_at r frame.routine).system n 0 act_is.1.items) started_is item_names.1)

        pub handed_now : Handed (frames_of frame (thread_at m.threads q).stack) (component_at r d).system
        handed_now =
            subst (λ (us : List Entry). Handed (frames_of frame us) (component_at r d).system) (sym k.stack)
            (subst (λ fs. Handed fs (component_at r d).system) (sym (top_frame frame es).1) (subst (λ n. Handed frames n) (sym component_is.1) handed))

  pub starts_known : (discipline : Discipline) (s : State) (m : Machine) → Simulates t r l discipline s m → (q d : ℕ) (x : Start) → IsStarting p s q x d →
      AreHandedSo r l (frames_of (thread_at m.threads q).frame (thread_at m.threads q).stack) (view_of p s q) (component_at r d).base (system_at r (component_at r d).system).own (system_of p (component_at r d).system).parameters x.arguments
  starts_known discipline s m sim q d x h =
      let now = goes_now discipline s m sim q h.there h.ready_now in
      let w = takes_start g p l s m q now x h.items h.next in
      subst (λ n. AreHandedSo r l (frames_of (thread_at m.threads q).frame (thread_at m.threads q).stack) (view_of p s q) (component_at r n).base (system_at r (component_at r n).system).own (system_of p (component_at r n).system).parameters x.arguments) h.component
      (handed_now discipline s m sim q h.there h.ready_now x w.at w.mid w.es w.xs w.ys w.taken h.target h.found)
