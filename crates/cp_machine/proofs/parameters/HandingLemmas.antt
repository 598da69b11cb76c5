-- The components that a start hands over are found, and their parameters have cells.
use Rattle.std.proofs.Common.{◌≡◌, ℕ, ◌+◌, ◌<◌, ◌≤◌, true, false, List, [], ◌∷◌, length, subst, sym, arith}
use Rattle.cp_machine.proofs.Words.{Argument, ComponentPlace, RoutineView, Tables, parameter_at, Bound, Frame, Memory, and_left, and_right, ArgumentValue}
use Rattle.cp_slots.specs.declared.place.ArgumentValue.TheVariants as value
use Rattle.cp_slots.specs.Inside.{argument_inside, arguments_inside, component_inside}
use Rattle.cp_slots.specs.Systems.{Hands, HandsNone, HandsOne, Names, is_component, parameter_count}
use Rattle.cp_store.specs.declared.argument.Bound.TheVariants.{Copy, Reference, Component}
use Rattle.cp_store.specs.Inside.{AllFitComponent, BindsBelow, FindsAll, FindsArgument, FindsComponent, FitsComponent}
use Rattle.cp_store.proofs.Alike.{has_more}

-- a call hands none over
none_finds : (bindings : List ℕ) (r : RoutineView) (f : Frame) (v : ArgumentValue) → is_component v ≡ false → FindsArgument bindings r f v
none_finds bindings r f (value.Component place) h = absurd (cc)
none_finds bindings r f _ h = tt

pub none_find : (bindings : List ℕ) (r : RoutineView) (f : Frame) (xs : List Argument) → HandsNone xs → FindsAll bindings r f xs
none_find bindings r f [] h = tt
none_find bindings r f (x ∷ xs) h = (none_finds bindings r f x.value h.0, none_find bindings r f xs h.1)

module _ (t : Tables) (system started : ℕ) (bindings : List ℕ) (caller callee : RoutineView) (extent : ℕ) (f : Frame) (finds : (place : ComponentPlace) (named : ℕ) → Names t system place named → component_inside caller place ≡ true → FindsComponent bindings caller f place) where
  hands_finds : (v : ArgumentValue) (slot next : ℕ) (others : ℕ → Type 0) → argument_inside caller callee extent slot v ≡ true → HandsOne t system started v slot next others → FindsArgument bindings caller f v × ((further : ℕ) × others further)
  hands_finds (value.Component place) slot next others i h = (finds place _ h.2 i, (next + 1, h.3))
  hands_finds _ slot next others i h = (tt, (next, h))

  pub hands_find : (xs : List Argument) (next : ℕ) → arguments_inside caller callee extent xs ≡ true → Hands t system started next xs → FindsAll bindings caller f xs
  hands_find [] next i h = tt
  hands_find (x ∷ xs) next i h =
      let one = hands_finds x.value x.slot next (λ further. Hands t system started further xs) (and_left (argument_inside caller callee extent x.slot x.value) (arguments_inside caller callee extent xs) i) h in
      (one.0, hands_find xs one.1.0 (and_right (argument_inside caller callee extent x.slot x.value) (arguments_inside caller callee extent xs) i) one.1.1)

module _ (t : Tables) (system started slots : ℕ) (below : (k : ℕ) → k < parameter_count t started → (parameter_at t started k).slot < slots) where
  hands_slot : (v : ArgumentValue) (slot next : ℕ) (others : ℕ → Type 0) → HandsOne t system started v slot next others → (is_component v ≡ true → slot < slots) × ((further : ℕ) × others further)
  hands_slot (value.Component place) slot next others h =
      let there = below next h.0 in
      let slot_is : slot ≡ (parameter_at t started next).slot = h.1 in
      ((λ is. subst (λ s. s < slots) (sym slot_is) there), (next + 1, h.3))
  hands_slot _ slot next others h = ((λ is. absurd (cc)), (next, h))

  pub hands_below : (xs : List Argument) (next : ℕ) → Hands t system started next xs → BindsBelow slots xs
  hands_below [] next h = tt
  hands_below (x ∷ xs) next h =
      let one = hands_slot x.value x.slot next (λ further. Hands t system started further xs) h in
      (one.0, hands_below xs one.1.0 one.1.1)

-- ---- what fits a component still fits where there are more cells

component_grows : (x y : Memory) (bindings : List ℕ) (base slot : ℕ) (b : Bound) → length x.permanents ≤ length y.permanents → length x.cells ≤ length y.cells → FitsComponent x bindings base slot b → FitsComponent y bindings base slot b
component_grows x y bindings base slot (Copy from size) p c h = (omega (arith, h.0, p), has_more x y from size p c h.1)
component_grows x y bindings base slot (Reference place) p c h = absurd h
component_grows x y bindings base slot (Component number) p c h = h
component_grows x y bindings base slot _ p c h = omega (arith, h, p)

pub components_grow : (x y : Memory) (bindings : List ℕ) (base : ℕ) (xs : List Argument) (bs : List Bound) → length x.permanents ≤ length y.permanents → length x.cells ≤ length y.cells → AllFitComponent x bindings base xs bs → AllFitComponent y bindings base xs bs
components_grow x y bindings base [] bs p c h = tt
components_grow x y bindings base (a ∷ xs) [] p c h = absurd h
components_grow x y bindings base (a ∷ xs) (b ∷ bs) p c h = (component_grows x y bindings base a.slot b p c h.0, components_grow x y bindings base xs bs p c h.1)
