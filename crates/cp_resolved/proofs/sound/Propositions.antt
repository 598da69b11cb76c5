-- Tables are sound in one way at most, so that their soundness may be taken from what is only known to be there.
use Rattle.cp_resolved.proofs.Words.{◌≡◌, ℕ, ◌<◌, Bool, true, false, List, [], ◌∷◌, Option, Some, None, ap, arith, subst, ComponentKind, Process, Tables, parameter_at}
use Rattle.std.proofs.Props.{props}
use Rattle.cp_slots.specs.declared.item.Action.{Action}
use Rattle.cp_slots.specs.declared.item.Action.TheVariants.{Block, If, Case, While, Until, For, Cycle, Call, Start}
use Rattle.cp_slots.specs.declared.item.Item.{Item}
use Rattle.cp_slots.specs.declared.place.Argument.{Argument}
use Rattle.cp_slots.specs.declared.place.ArgumentValue.{ArgumentValue}
use Rattle.cp_slots.specs.declared.place.ArgumentValue.TheVariants as value
use Rattle.cp_slots.specs.declared.place.ComponentPlace.{ComponentPlace}
use Rattle.cp_slots.specs.declared.place.ComponentPlace.TheVariants.{Own, Parameter}
use Rattle.cp_slots.specs.declared.tables.ComponentKind.TheVariants as kind
use Rattle.cp_slots.specs.Fits.{ListFits, InnerFits, ActionFits, ItemFits, KindFits, ProcessFits, IsSound}
use Rattle.cp_slots.specs.Systems.{parameter_count, Names, HandsNone, HandsOne, Hands, IsOwn, StaysInside, ActionNames, IsItself, ComponentOwns, IsTyped}

-- ---- lists of items

list_fits_once : (t : Tables) (routine need : ℕ) (o : Option ℕ) → IsProp (ListFits t routine need o)
list_fits_once t routine need None = hlevel props
list_fits_once t routine need (Some at) = hlevel props

inner_fits_once : (t : Tables) (routine need : ℕ) (o : Option ℕ) → IsProp (InnerFits t routine need o)
inner_fits_once t routine need None = hlevel props
inner_fits_once t routine need (Some at) = hlevel props

action_fits_once : (t : Tables) (routine need : ℕ) (a : Action) → IsProp (ActionFits t routine need a)
action_fits_once t routine need (Block list) = hlevel (props, inner_fits_once)
action_fits_once t routine need (If test then otherwise) = hlevel (props, inner_fits_once)
action_fits_once t routine need (Case selector arms) = hlevel (props, inner_fits_once)
action_fits_once t routine need (While test body again) = hlevel (props, inner_fits_once)
action_fits_once t routine need (Until test body again) = hlevel (props, inner_fits_once)
action_fits_once t routine need (For variable low high from to down body) = hlevel (props, inner_fits_once)
action_fits_once t routine need (Cycle list) = hlevel (props, inner_fits_once)
action_fits_once t routine need (Call callee component is_entry arguments result) = hlevel (props, list_fits_once)
action_fits_once t routine need (Start component callee arguments) = hlevel (props, list_fits_once)
action_fits_once t routine need _ = hlevel props

item_fits_once : (t : Tables) (item : Item) → IsProp (ItemFits t item)
item_fits_once t item = hlevel (props, action_fits_once, list_fits_once)

kind_fits_once : (t : Tables) (k : ComponentKind) → IsProp (KindFits t k)
kind_fits_once t (kind.Process number) = hlevel props
kind_fits_once t _ = hlevel props

process_fits_once : (t : Tables) (p : Process) → IsProp (ProcessFits t p)
process_fits_once t p = hlevel (props, list_fits_once)

itself_once : (t : Tables) (k : ComponentKind) (component : ℕ) → IsProp (IsItself t k component)
itself_once t (kind.Process number) component = hlevel props
itself_once t _ component = hlevel props

component_owns_once : (t : Tables) (component : ℕ) → IsProp (ComponentOwns t component)
component_owns_once t component = hlevel (props, itself_once)

-- ---- what statements name

-- the cells of a system type's parameters rise with their numbers
abbrev AreRising : Tables → Type 0
AreRising t = (system j k : ℕ) → j < k → k < parameter_count t system → (parameter_at t system j).slot < (parameter_at t system k).slot

-- the parameter of a number has this cell and wants this system type
abbrev HasCell : Tables → (system slot named number : ℕ) → Type 0
HasCell t system slot named number = (number < parameter_count t system) × ((parameter_at t system number).slot ≡ slot) × ((parameter_at t system number).system ≡ named)

module _ (t : Tables) (rising : AreRising t) where
  -- a cell is that of one parameter at most
  one_parameter : (system slot a b : ℕ) → a < parameter_count t system → b < parameter_count t system → (parameter_at t system a).slot ≡ slot → (parameter_at t system b).slot ≡ slot → a ≡ b
  one_parameter system slot a b p q e f =
      let up : a < b → ⊥ = λ less. (let w = rising system a b less q in omega arith) in
      let down : b < a → ⊥ = λ less. (let w = rising system b a less p in omega arith) in
      omega (arith, up, down)

  names_once : (system : ℕ) (place : ComponentPlace) (named : ℕ) → IsProp (Names t system place named)
  names_once system (Parameter slot) named =
      λ u v. subst (λ (b : ℕ). (w : HasCell t system slot named b) → u ≡ (b, w.0, w.1, w.2)) (one_parameter system slot u.0 v.0 u.1 v.1 u.2 v.2)
      (λ w. (let once : IsProp (HasCell t system slot named u.0) = hlevel props in ap (λ (x : HasCell t system slot named u.0). (u.0, x.0, x.1, x.2)) (once (u.1, u.2, u.3) w))) (v.1, v.2, v.3)
  names_once system _ named = hlevel props

  hands_none_once : (xs : List Argument) → IsProp (HandsNone xs)
  hands_none_once [] = hlevel props
  hands_none_once (x ∷ xs) = hlevel (props, hands_none_once xs)

  hands_one_once : (system started : ℕ) (v : ArgumentValue) (slot next : ℕ) (others : ℕ → Type 0) → ((n : ℕ) → IsProp (others n)) → IsProp (HandsOne t system started v slot next others)
  hands_one_once system started (value.Component place) slot next others once = hlevel (props, names_once, once)
  hands_one_once system started _ slot next others once = once next

  hands_once : (system started next : ℕ) (xs : List Argument) → IsProp (Hands t system started next xs)
  hands_once system started next [] = hlevel props
  hands_once system started next (x ∷ xs) = hands_one_once system started x.value x.slot next (λ further. Hands t system started further xs) (λ further. hands_once system started further xs)

  own_once : (place : ComponentPlace) → IsProp (IsOwn place)
  own_once Own = hlevel props
  own_once _ = hlevel props

  stays_once : (is_entry : Bool) (place : ComponentPlace) → IsProp (StaysInside is_entry place)
  stays_once true place = hlevel props
  stays_once false place = own_once place

  action_names_once : (system : ℕ) (a : Action) → IsProp (ActionNames t system a)
  action_names_once system (Call callee place is_entry arguments result) = hlevel (props, names_once, stays_once, hands_none_once)
  action_names_once system (Start place callee arguments) = hlevel (props, names_once, hands_once)
  action_names_once system _ = hlevel props

typed_once : (t : Tables) → IsProp (IsTyped t)
typed_once t x y = let once : IsProp (IsTyped t) = hlevel (props, component_owns_once, action_names_once t x.rising) in once x y

pub sound_once : (t : Tables) → IsProp (IsSound t)
sound_once t = hlevel (props, item_fits_once, kind_fits_once, process_fits_once, typed_once)
