-- What a process names: a component of the system type that its statement wants.
use Rattle.std.proofs.Common.{◌≡◌, ◌∙◌, ℕ, ◌+◌, ◌*◌, ◌<◌, ◌≤◌, length, Result, Ok, Err, Bool, true, false, IsTrue, ap, sym, refl, subst, arith, if◌then◌else◌}
use Rattle.std.specs.Prelude.{ℤ, ◌-ℤ◌, ◌&&◌, int_le, slice_index_or, unsigned_abs}
use Rattle.std.proofs.lemmas.Int.{ints}
use Rattle.cp_machine.proofs.Words.{component_inside, IsOf, IsTyped, Names, parameter_count, Tables, RoutineView, component_at, parameter_at, system_at, ComponentPlace}
use Rattle.cp_machine.proofs.Words.{ComponentKind, FindsComponent, ErrorName, Frame, Status, Ready, MachineFits, Machine, is_ready, is_ready_status, is_unstarted}
use Rattle.cp_machine.proofs.Words.{thread_at, AreBound, EndsBegun, Executes, ExecutesAs, HasBegunAs, StackExecutes}
use Rattle.cp_slots.specs.declared.place.ComponentPlace.TheVariants.{Own, Contained, Element, Parameter}
use Rattle.cp_slots.specs.declared.tables.ComponentKind.TheVariants as kind
use Rattle.cp_store.specs.Components as components
use Rattle.cp_store.specs.Memory.{Memory, onward, stretch}
use Rattle.cp_store.specs.Places.{element_offset, value_at}
use Rattle.cp_store.specs.Values.{is_within, then_with}
use Rattle.cp_store.specs.declared.error.ErrorName.TheVariants.{Range}

-- what is known of the components of a machine
pub record Executing (r : Tables) (m : Machine) : Type 0 where
  pub executes : (q : ℕ) → q < length m.threads → StackExecutes r m q (thread_at m.threads q).frame (thread_at m.threads q).stack
  pub ends : (q : ℕ) → q < length m.threads → EndsBegun m (thread_at m.threads q).stack
  pub bound : AreBound r m

pub ready_started : (s : Status) → is_ready_status s ≡ true → is_unstarted s ≡ false
ready_started Ready h = refl
ready_started _ h = absurd (cc)

pub ok_is : {A : Type 0} {x y : A} → ◌≡◌ {A = Result A ErrorName} (Ok x) (Ok y) → x ≡ y
ok_is {A = A} {x = x} {y = y} same = ap (ok_or x) same
  where
    ok_or : A → Result A ErrorName → A
    ok_or d (Err e) = d
    ok_or d (Ok z) = z

and_left : (a b : Bool) → (a && b) ≡ true → a ≡ true
and_left true b h = refl
and_left false b h = h

and_right : (a b : Bool) → (a && b) ≡ true → b ≡ true
and_right true b h = h
and_right false b h = absurd (cc)

between : (low high z : ℤ) → int_le low z ≡ true → int_le z high ≡ true → unsigned_abs (z -ℤ low) ≤ unsigned_abs (high -ℤ low)
between low high z above below = grind (arith, ints)

-- a component that is executed has begun
begun_as : (m : Machine) (pid component : ℕ) (k : ComponentKind) → is_ready m pid ≡ true → ExecutesAs m pid component k → HasBegunAs m component k
begun_as m pid component (kind.Process number) ready e =
    subst (λ q. is_unstarted (thread_at m.threads q).status ≡ false) (sym e) (ready_started (thread_at m.threads pid).status ready)
begun_as m pid component _ ready e = e

module _ (r : Tables) (m : Machine) (typed : IsTyped r) (fits : MachineFits r m) (bound : AreBound r m) (pid : ℕ) (ready : is_ready m pid ≡ true) (f : Frame) (system : ℕ) (of : IsOf r system f.component) (own : f.own ≡ (component_at r f.component).base) (executes : Executes r m pid f.component) where
  -- the permanent cells of the component that is executed
  cells_there : (component_at r f.component).base + (system_at r system).own ≤ length r.permanents
  cells_there = subst (λ s. (component_at r f.component).base + (system_at r s).own ≤ length r.permanents) of.1 (typed.components f.component of.0).cells

  slot_below : (slot named : ℕ) → Names r system (Parameter slot) named → slot < (system_at r system).own
  slot_below slot named n = subst (λ k. k < (system_at r system).own) n.2 (typed.parameters system n.0 n.1)

  bound_to : (number : ℕ) → number < parameter_count r system → IsOf r (parameter_at r system number).system (slice_index_or m.bindings ((component_at r f.component).base + (parameter_at r system number).slot) 0)
  bound_to number lt =
      let Bound : ℕ → Type 0 = λ s. (number < parameter_count r s → IsOf r (parameter_at r s number).system (slice_index_or m.bindings ((component_at r f.component).base + (parameter_at r s number).slot) 0)) in
      subst Bound of.1 (bound f.component number of.0 (begun_as m pid f.component (component_at r f.component).kind ready executes)) lt

  parameter_named : (slot named c : ℕ) → Names r system (Parameter slot) named → slice_index_or m.bindings (onward f.own slot) 0 ≡ c → IsOf r named c
  parameter_named slot named c n is =
      let exact : onward f.own slot ≡ (component_at r f.component).base + (parameter_at r system n.0).slot = omega (arith, own, n.2, slot_below slot named n, cells_there, typed.words.permanents) in
      let found : slice_index_or m.bindings ((component_at r f.component).base + (parameter_at r system n.0).slot) 0 ≡ c = ap (λ k. slice_index_or m.bindings k 0) (sym exact) ∙ is in
      subst (λ s. IsOf r s c) n.3 (subst (IsOf r (parameter_at r system n.0).system) found (bound_to n.0 n.1))

  element_named : (first : ℕ) (low high : ℤ) (stride named c : ℕ) (z : ℤ) → ((k : ℕ) → k ≤ unsigned_abs (high -ℤ low) → IsOf r named (f.component + first + k * stride)) → then_with (element_offset low high stride z) (λ further. Ok (onward (onward f.component first) further)) ≡ Ok c → IsOf r named c
  element_named first low high stride named c z each is = go (is_within low high z) refl is
    where
      go : (w : Bool) → is_within low high z ≡ w → then_with (then_with (if w then Ok z else Err Range) (λ i. Ok (stretch (unsigned_abs (i -ℤ low)) stride))) (λ further. Ok (onward (onward f.component first) further)) ≡ Ok c → IsOf r named c
      go true within is =
          let near = between low high z (and_left (int_le low z) (int_le z high) within) (and_right (int_le low z) (int_le z high) within) in
          let there = each (unsigned_abs (z -ℤ low)) near in
          let exact : f.component + first + unsigned_abs (z -ℤ low) * stride ≡ onward (onward f.component first) (stretch (unsigned_abs (z -ℤ low)) stride) = omega (arith, there.0, typed.words.components) in
          subst (IsOf r named) (exact ∙ ok_is is) there
      go false within is = absurd (cc)

  -- what a statement names is a component of the system type that it wants
  pub named_component : (x : Memory) (place : ComponentPlace) (named c : ℕ) → Names r system place named → components.component_at x m.bindings f place ≡ Ok c → IsOf r named c
  named_component x Own named c n is = subst (λ s. IsOf r s c) n (subst (IsOf r system) (ok_is is) of)
  named_component x (Contained number) named c n is =
      let there = n f.component of in
      let exact : f.component + number ≡ onward f.component number = omega (arith, there.0, typed.words.components) in
      subst (IsOf r named) (exact ∙ ok_is is) there
  named_component x (Element first low high stride index) named c n is = go (value_at x f index.value) is
    where
      go : (v : Result ℤ ErrorName) → then_with v (λ i. then_with (element_offset low high stride i) (λ further. Ok (onward (onward f.component first) further))) ≡ Ok c → IsOf r named c
      go (Ok z) is = element_named first low high stride named c z (λ k le. n f.component k of le) is
      go (Err e) is = absurd (cc)
  named_component x (Parameter slot) named c n is = parameter_named slot named c n (ok_is is)

  -- and it is found
  pub finds_component : (v : RoutineView) (place : ComponentPlace) (named : ℕ) → Names r system place named → IsTrue (component_inside v place) → FindsComponent m.bindings v f place
  finds_component v Own named n inside = tt
  finds_component v (Contained number) named n inside = let there = n f.component of in omega (arith, there.0, typed.words.components)
  finds_component v (Element first low high stride index) named n inside =
      let le : unsigned_abs (high -ℤ low) ≤ unsigned_abs (high -ℤ low) = omega arith in
      let there = n f.component (unsigned_abs (high -ℤ low)) of le in
      (inside, omega (arith, there.0, typed.words.components))
  finds_component v (Parameter slot) named n inside = omega (arith, own, slot_below slot named n, cells_there, fits.bindings)
