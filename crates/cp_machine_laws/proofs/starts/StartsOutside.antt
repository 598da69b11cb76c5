-- A start leads to a component of an earlier system type than the one that is executed, and nothing that a name designates lies in its cells.
use Rattle.std.proofs.Common.{◌≡◌, ◌≢◌, ◌∙◌, ℕ, ◌+◌, ◌<◌, ◌≤◌, ◌⊎◌, inl, inr, Bool, true, false, if◌then◌else◌, List, [], ◌∷◌, ◌++◌, length, Option, Some, None, Ok, ap, sym, refl, subst, arith}
use Rattle.std.proofs.lemmas.Bool.{eq-eqb}
use Rattle.cp_machine_laws.proofs.Words.{some_same, Identifier, Tree, Program, Designator, designator, Selectors, Tables, component_at, system_at, Copy, Address, Permanent, Frame}
use Rattle.cp_machine_laws.proofs.Words.{MachineFits, Machine, thread_at, Reaches, Name, same_name, Parameter, target_value, Meaning, local_variable, permanent_variable, find}
use Rattle.cp_machine_laws.proofs.Words.{Holder, in_call, in_component, Place, State, current, parameter_variables, view_of, system_of, Ty, array_over, component_of, Choice}
use Rattle.cp_machine_laws.proofs.Words.{a_component, designator_form, chosen_at, cells_of, Here, here, is_parameter, Layouts, look, SystemIs, NamesKnown, IsOutside, ground_of}
use Rattle.cp_machine_laws.proofs.Words.{Prepared, PathStep, Path, step_down}
use Rattle.cp_slots.specs.Code as code
use Rattle.cp_meaning.specs.Places.{View, Target, target_meant, content_of, this_component, component_with, element_chosen, around_of, component_known, component_by, component_there}
use Rattle.cp_meaning.specs.State as named
use Rattle.cp_meaning.specs.WellFormed.{HasEarlier, IsWellFormed}
use Rattle.cp_machine_laws.specs.Represents.{further, InFrame, InComponent, BeginsAt, PlaceAt, frame_above}
use Rattle.cp_machine_laws.proofs.expressions.ComponentPlaces.{ComponentsKnown, own_component}
use Rattle.cp_machine_laws.proofs.expressions.ComponentsNow.{components_now, current_component, executed_there, executed_system}
use Rattle.cp_machine_laws.proofs.expressions.DesignatedPlaces.{IsPartOf, IsOwnHolder, IsNamedAs, designated_own, name_designates, component_meant}
use Rattle.cp_machine_laws.proofs.steps.Executed.{own_frame, systems_stand}
use Rattle.cp_machine_laws.proofs.steps.Going.{Going}
use Rattle.cp_machine_laws.proofs.HoldsInReached.{HoldsInReached}
use Rattle.cp_machine_laws.proofs.assignments.Overlaps.{part_ends}
use Rattle.cp_machine_laws.proofs.reached.ReachedNames.{found_path}
use Rattle.cp_machine_laws.proofs.reached.ReadyInReached.{ReadyInReached}
use Rattle.cp_machine_laws.proofs.assignments.Writing.{side as below_or_above}

-- ---- earlier system types

-- a parameter that is a component is of an earlier type
earlier_parameter : (k j : ℕ) (x : Name) (qs : List Parameter) → HasEarlier k qs → look x (parameter_variables qs) ≡ Some (component_of j) → j < k
earlier_parameter k j x [] h e = absurd (cc)
earlier_parameter k j x (q ∷ qs) h e = go (same_name x q.name) e (earlier_parameter k j x qs h.1)
  where
    go : (b : Bool) → (if b then Some q.ty else look x (parameter_variables qs)) ≡ Some (component_of j) → (look x (parameter_variables qs) ≡ Some (component_of j) → j < k) → j < k
    go true f rest = h.0 j (some_same q.ty (component_of j) f)
    go false f rest = rest f

-- a place of the component that is executed, at a name without a content
contained_there : (v : View) (q : Place) → q.holder ≡ in_component (this_component v) → content_of q.name (own_component v).environment ≡ None → component_there v q ≡ component_with (step_down (own_component v).path q.name (element_chosen q.choices)) v.components
contained_there v q holder none =
    ap (component_by v q) holder
    ∙ (ap (λ (b : Bool). if b then component_known v q (content_of q.name (own_component v).environment) else length v.components) (eq-eqb (this_component v) (this_component v) refl)
    ∙ (ap (component_known v q) none ∙ ap (λ (w : Holder). component_with (step_down (around_of v w) q.name (element_chosen q.choices)) v.components) holder))

-- ---- what is started

module _ (t : Tree) (r : Tables) (l : Layouts) (prepared : Prepared t r l) (s : State) (known : HoldsInReached t.program s) (m : Machine) (ready : ReadyInReached (ground_of t r) t.program s m) (fits : MachineFits r m) (reach : Reaches r m) (q : ℕ) (going : Going (ground_of t r) t.program l s m q) (ok : IsWellFormed t.program) where
  abbrev p : Program
  p = t.program

  abbrev v : View
  v = view_of p s q

  abbrev frame : Frame
  frame = (thread_at m.threads q).frame

  abbrev this : Here
  this = here p l frame.routine

  names_here : ComponentsKnown v frame this m.bindings
  names_here = components_now t r l prepared s known m ready fits reach q going

  own_is : this_component v ≡ frame.component
  own_is = current_component t r l prepared s known m ready fits reach q going

  own_there : frame.component < length r.components
  own_there = executed_there t r l prepared s known m ready fits reach q going

  own_system : (component_at r frame.component).system ≡ l.owners frame.routine
  own_system = executed_system t r l prepared s known m ready fits reach q going

  routine_names : NamesKnown p l frame.routine (l.owners frame.routine)
  routine_names = (prepared.program.routines frame.routine (own_frame t r l prepared m q fits going.many).routine).components

  same_count : length s.components ≡ length r.components
  same_count = going.rep.component_count

  -- what a component contains is of an earlier type
  contained : (n d : ℕ) (x : Name) (o : Option ℕ) → n < length s.components → d < length s.components → d ≡ component_with (step_down (named.component_at s.components n).path x o) s.components → (named.component_at s.components d).system < (named.component_at s.components n).system
  contained n d x o a b is =
      let step : PathStep = record { name = x; element = o } in
      let path : (named.component_at s.components d).path ≡ (named.component_at s.components n).path ++ step ∷ [] = ap (λ j. (named.component_at s.components j).path) is ∙ found_path (step_down (named.component_at s.components n).path x o) s.components (subst (λ j. j < length s.components) is b) in
      let c = known.count in
      let low = ok.contained_earlier n d step (omega (arith, a, c)) (omega (arith, b, c)) (sym (known.path d) ∙ (path ∙ ap (λ (w : Path). w ++ step ∷ []) (known.path n))) in
      let u = known.system d in
      let w = known.system n in
      omega (arith, low, u, w)

  -- of an earlier system type
  abbrev IsLower : ℕ → Type 0
  IsLower d = (component_at r d).system < (component_at r frame.component).system

  module _ (scope : (current v.calls).scope ≡ this.scope) (i : Identifier) (ss : Selectors) (part : code.ComponentPlace) (n : ℕ) (formed : designator_form this (designator i ss) ≡ Some (a_component part n)) (target : Target) (found : target_value v (designator i ss) ≡ Ok target) (there : component_there v target.place < length r.components) (of : (component_at r (component_there v target.place)).system ≡ n) where
    abbrev d : ℕ
    d = component_there v target.place

    in_own : (u : Ty) → find i.name this.scope ≡ Some (permanent_variable u) → (target.place.holder ≡ in_component (this_component v)) × (target.place.name ≡ i.name)
    in_own u e = subst (λ w. IsPartOf (target_meant v i.name w).place target.place) (ap (find i.name) scope ∙ e) (name_designates v i ss target found)

    from_none : (u : Ty) → find i.name this.scope ≡ Some (permanent_variable u) → content_of i.name (own_component v).environment ≡ None → IsLower d
    from_none u e none =
        let w = in_own u e in
        let is : d ≡ component_with (step_down (own_component v).path target.place.name (element_chosen target.place.choices)) s.components = contained_there v target.place w.0 (ap (λ x. content_of x (own_component v).environment) w.1 ∙ none) in
        let c = same_count in
        let at = own_is in
        let own = own_there in
        let low = contained (this_component v) d target.place.name (element_chosen target.place.choices) (omega (arith, c, at, own)) (omega (arith, c, there)) is in
        let x = ready.systems d there in
        let y : (named.component_at s.components (this_component v)).system ≡ (component_at r frame.component).system = ap (λ j. (named.component_at s.components j).system) own_is ∙ ready.systems frame.component own_there in
        omega (arith, low, x, y)

    from_parameter : find i.name this.scope ≡ Some (permanent_variable (component_of n)) → is_parameter i.name (system_of p this.system).parameters ≡ true → IsLower d
    from_parameter e is =
        let part = routine_names.parameter i.name n e is in
        let low : n < l.owners frame.routine = earlier_parameter (l.owners frame.routine) n i.name (system_of p (l.owners frame.routine)).parameters (ok.parameters_earlier (l.owners frame.routine)) (prepared.program.systems.closed (l.owners frame.routine) i.name (component_of n) part) in
        let x = of in
        let y = own_system in
        omega (arith, low, x, y)

    pub lower : (component_at r (component_there v target.place)).system < (component_at r frame.component).system
    lower = go (find i.name this.scope) refl (component_meant this i ss part n formed)
      where
        alone : (j : ℕ) → find i.name this.scope ≡ Some (permanent_variable (component_of j)) → j ≡ n → (b : Bool) → is_parameter i.name (system_of p this.system).parameters ≡ b → IsLower d
        alone j e same true is = from_parameter (e ∙ ap (λ z. Some (permanent_variable (component_of z))) same) is
        alone j e same false is = from_none (component_of j) e (names_here.variables i.name j e is).0

        go : (w : Option Meaning) → find i.name this.scope ≡ w → IsNamedAs w n → IsLower d
        go (Some (permanent_variable (component_of j))) e same = alone j e same (is_parameter i.name (system_of p this.system).parameters) refl
        go (Some (permanent_variable (array_over z (component_of j)))) e same = from_none (array_over z (component_of j)) e (names_here.arrays i.name z j e).0
        go _ e same = absurd same

  -- ---- places

  -- the cells of another component
  module _ (d : ℕ) (there : d < length r.components) (low : (component_at r d).system < (component_at r frame.component).system) where
    abbrev Outside : Address → ℕ → Type 0
    Outside a size = IsOutside (component_at r d).base (system_at r (component_at r d).system).own (Copy a size)

    other : frame.component ≢ d
    other e = (let same : (component_at r frame.component).system ≡ (component_at r d).system = ap (λ j. (component_at r j).system) e in omega (arith, same, low))

    permanent_outside : (fs : List Frame) (name : Name) (whole u : Ty) (first : Address) (choices : List Choice) (offset : ℕ) → InComponent r l frame.component name whole first → chosen_at whole choices ≡ Some (offset, u) → Outside (further first offset) (cells_of u)
    permanent_outside fs name whole u first choices offset begins chosen =
        let stands : SystemIs (ground_of t r) p l (component_at r frame.component).system = systems_stand t r l prepared frame.component own_there in
        let inner : offset + cells_of u ≤ cells_of whole = part_ends whole _ choices (offset, u) (stands.typed name whole begins.known) chosen in
        let outer = stands.cells name whole begins.known in
        subst (λ a. Outside (further a offset) (cells_of u)) (sym begins.address) (side inner outer (below_or_above frame.component d other))
      where
        side : offset + cells_of u ≤ cells_of whole → (l.systems (component_at r frame.component).system).slots name + cells_of whole ≤ (system_at r (component_at r frame.component).system).own → (frame.component < d) ⊎ (d < frame.component) →
            Outside (further (Permanent ((component_at r frame.component).base + (l.systems (component_at r frame.component).system).slots name)) offset) (cells_of u)
        side inner outer (inl less) = (let w = prepared.sound.typed.apart frame.component d less there in inl (omega (arith, inner, outer, w)))
        side inner outer (inr less) = (let w = prepared.sound.typed.apart d frame.component less own_there in inr (omega (arith, w)))

    -- what a name designates where no local variable is visible
    pub outside_started : ((x : Name) (u : Ty) → find x (current v.calls).scope ≡ Some (local_variable u) → ⊥) → (fs : List Frame) (u : Ty) (name : Designator) (x : Target) (a : Address) → target_value v name ≡ Ok x → PlaceAt r l fs x.place u a →
        IsOutside (component_at r d).base (system_at r (component_at r d).system).own (Copy a (cells_of u))
    outside_started never fs u name x a found place = subst (λ b. Outside b (cells_of u)) (sym place.address) (by_holder x.place.holder (designated_own v never name x found) place.begins)
      where
        local : (o : Option Frame) → InFrame l o x.place.name place.whole place.first → Outside (further place.first place.offset) (cells_of u)
        local None i = absurd i
        local (Some f) i = subst (λ b. Outside (further b place.offset) (cells_of u)) (sym i.1) tt

        by_holder : (w : Holder) → IsOwnHolder v w → BeginsAt r l fs w x.place.name place.whole place.first → Outside (further place.first place.offset) (cells_of u)
        by_holder (in_call below) own begins = local (frame_above fs below) begins
        by_holder (in_component n) own begins = permanent_outside fs x.place.name place.whole u place.first x.place.choices place.offset (subst (λ j. InComponent r l j x.place.name place.whole place.first) (own ∙ own_is) begins) place.chosen
