-- What an action reads, writes and names, seen on plain data: it is inside what the action names, and the components are of the types that it wants, exactly where the test of the code says so.
use Rattle.std.proofs.Common.{◌≡◌, ℕ, ◌+◌, ◌*◌, ◌<◌, ◌≤◌, ◌==◌, nat_lt, Bool, true, false, ◌&&◌, if◌then◌else◌, List, [], ◌∷◌, map, length, Option, Some, None, ◌-ℤ◌, unsigned_abs, slice_index_or, refl, ap, ◌∙◌}
use Rattle.cp_slots.specs.declared.item.Action as code_action
use Rattle.cp_slots.specs.declared.item.Action.TheVariants as action
use Rattle.cp_slots.specs.declared.place.Argument as code_argument
use Rattle.cp_slots.specs.declared.place.ArgumentValue as code_value
use Rattle.cp_slots.specs.declared.place.ArgumentValue.TheVariants as value
use Rattle.cp_slots.specs.declared.place.ComponentPlace as code_component
use Rattle.cp_slots.specs.declared.place.ComponentPlace.TheVariants as component
use Rattle.cp_slots.specs.Code as code
use Rattle.cp_slots.specs.Inside.{has, SET_CELLS, is_within, room_from, result_inside, binds_on, component_inside, argument_inside, arguments_inside, follows, binds_from, action_inside}
use Rattle.cp_slots.specs.Systems.{parameter_count, IsOf, Names, is_component, HandsNone, HandsOne, Hands, StaysInside, ActionNames}
use Rattle.cp_slots.specs.Tables.{Tables, RoutineView, routine_at, parameter_at}
use Rattle.cp_resolved.proofs.inside.InsideViews.{expression_views, set_views, place_views, both_same as both}
use Rattle.cp_resolved.proofs.inside.PlainInside.{expression_in, set_in, place_in}

-- ---- inside

abbrev pub component_in : RoutineView → code.ComponentPlace → Bool
component_in r (code.element first low high stride e) = expression_in r e
component_in r _ = true

abbrev pub argument_in : (caller callee : RoutineView) → (extent slot : ℕ) → code.ArgumentValue → Bool
argument_in r callee extent slot (code.scalar e low high) = expression_in r e && is_within slot 1 extent
argument_in r callee extent slot (code.set e low high) = set_in r e && is_within slot SET_CELLS extent
argument_in r callee extent slot (code.copy source size) = has size (place_in r source) && is_within slot size extent
argument_in r callee extent slot (code.reference p) = has (slice_index_or callee.extents slot 0) (place_in r p)
argument_in r callee extent slot (code.component_of c) = component_in r c

abbrev pub arguments_in : (caller callee : RoutineView) → (extent : ℕ) → List code.Argument → Bool
arguments_in r callee extent [] = true
arguments_in r callee extent (x ∷ xs) = argument_in r callee extent x.slot x.value && arguments_in r callee extent xs

abbrev pub follows_in : code.ArgumentValue → (count slot next : ℕ) → Option ℕ
follows_in (code.reference p) count slot next = if nat_lt next count && slot == next then Some (next + 1) else None
follows_in _ count slot next = Some next

abbrev pub binds_in : (count next : ℕ) → List code.Argument → Bool
binds_in count next [] = next == count
binds_in count next (x ∷ xs) = binds_on (follows_in x.value count x.slot next) (λ further. binds_in count further xs)

abbrev pub action_in : Tables → RoutineView → code.Action → Bool
action_in t r (code.assign p e low high) = expression_in r e && has 1 (place_in r p)
action_in t r (code.assign_set p e low high) = set_in r e && has SET_CELLS (place_in r p)
action_in t r (code.copy_cells p q size) = has size (place_in r q) && has size (place_in r p)
action_in t r (code.choose e list other) = expression_in r e
action_in t r (code.select e arms) = expression_in r e
action_in t r (code.assert_that e said) = expression_in r e
action_in t r (code.while_do e list again) = expression_in r e
action_in t r (code.until e list again) = expression_in r e
action_in t r (code.for_do variable low high from to down list) = has 1 (room_from r variable) && (expression_in r from && expression_in r to)
action_in t r (code.call callee part is_entry xs result) =
    component_in r part && (arguments_in r (routine_at t callee) (length (routine_at t callee).image) xs && (binds_in (length (routine_at t callee).extents) 0 xs && result_inside r (routine_at t callee) result))
action_in t r (code.start part callee xs) = component_in r part && (arguments_in r (routine_at t callee) (routine_at t callee).own xs && binds_in (length (routine_at t callee).extents) 0 xs)
action_in t r (code.delay p) = has 1 (place_in r p)
action_in t r (code.continue_at p) = has 1 (place_in r p)
action_in t r (code.display e kind) = expression_in r e
action_in t r _ = true

component_views : (r : RoutineView) (c : code_component.ComponentPlace) → component_inside r c ≡ component_in r (code.component_seen c)
component_views r (component.Element first low high stride e) = expression_views r e.value
component_views r _ = refl

argument_views : (r callee : RoutineView) (extent slot : ℕ) (x : code_value.ArgumentValue) → argument_inside r callee extent slot x ≡ argument_in r callee extent slot (code.value_seen x)
argument_views r callee extent slot (value.Scalar e low high) = ap (λ b. b && is_within slot 1 extent) (expression_views r e)
argument_views r callee extent slot (value.Set e low high) = ap (λ b. b && is_within slot SET_CELLS extent) (set_views r e)
argument_views r callee extent slot (value.Copy p size) = ap (λ o. has size o && is_within slot size extent) (place_views r p)
argument_views r callee extent slot (value.Reference p) = ap (has (slice_index_or callee.extents slot 0)) (place_views r p)
argument_views r callee extent slot (value.Component c) = component_views r c

arguments_views : (r callee : RoutineView) (extent : ℕ) (xs : List code_argument.Argument) → arguments_inside r callee extent xs ≡ arguments_in r callee extent (map code.argument_seen xs)
arguments_views r callee extent [] = refl
arguments_views r callee extent (x ∷ xs) = both _ _ _ _ (argument_views r callee extent x.slot x.value) (arguments_views r callee extent xs)

follows_views : (x : code_value.ArgumentValue) (count slot next : ℕ) → follows x count slot next ≡ follows_in (code.value_seen x) count slot next
follows_views (value.Scalar e low high) count slot next = refl
follows_views _ count slot next = refl

binds_views : (count next : ℕ) (xs : List code_argument.Argument) → binds_from count next xs ≡ binds_in count next (map code.argument_seen xs)
binds_views count next [] = refl
binds_views count next (x ∷ xs) = go (follows x.value count x.slot next) (λ n. binds_views count n xs) ∙ ap (λ o. binds_on o (λ further. binds_in count further (map code.argument_seen xs))) (follows_views x.value count x.slot next)
  where
    go : (o : Option ℕ) → ((n : ℕ) → binds_from count n xs ≡ binds_in count n (map code.argument_seen xs)) → binds_on o (λ further. binds_from count further xs) ≡ binds_on o (λ further. binds_in count further (map code.argument_seen xs))
    go None f = refl
    go (Some n) f = f n

pub action_views : (t : Tables) (r : RoutineView) (a : code_action.Action) → action_inside t r a ≡ action_in t r (code.action_seen a)
action_views t r (action.Assign p e low high) = both _ _ _ _ (expression_views r e) (ap (has 1) (place_views r p))
action_views t r (action.AssignSet p e low high) = both _ _ _ _ (set_views r e) (ap (has SET_CELLS) (place_views r p))
action_views t r (action.Copy p q size) = both _ _ _ _ (ap (has size) (place_views r q)) (ap (has size) (place_views r p))
action_views t r (action.If e list other) = expression_views r e
action_views t r (action.Case e arms) = expression_views r e
action_views t r (action.Assert e said) = expression_views r e
action_views t r (action.While e list again) = expression_views r e
action_views t r (action.Until e list again) = expression_views r e
action_views t r (action.For v low high e f down list) = ap (λ b. has 1 (room_from r v) && b) (both _ _ _ _ (expression_views r e) (expression_views r f))
action_views t r (action.Call callee part is_entry xs result) =
    both _ _ _ _ (component_views r part) (both _ _ _ _ (arguments_views r (routine_at t callee) (length (routine_at t callee).image) xs.items) (ap (λ b. b && result_inside r (routine_at t callee) result) (binds_views (length (routine_at t callee).extents) 0 xs.items)))
action_views t r (action.Start part callee xs) =
    both _ _ _ _ (component_views r part) (both _ _ _ _ (arguments_views r (routine_at t callee) (routine_at t callee).own xs.items) (binds_views (length (routine_at t callee).extents) 0 xs.items))
action_views t r (action.Delay p) = ap (has 1) (place_views r p)
action_views t r (action.Continue p) = ap (has 1) (place_views r p)
action_views t r (action.Display e kind) = expression_views r e
action_views t r _ = refl

-- ---- components

abbrev pub PlainNames : Tables → (system : ℕ) → code.ComponentPlace → (named : ℕ) → Type 0
PlainNames t system code.own named = system ≡ named
PlainNames t system (code.contained number) named = (c : ℕ) → IsOf t system c → IsOf t named (c + number)
PlainNames t system (code.element first low high stride e) named = (c k : ℕ) → IsOf t system c → k ≤ unsigned_abs (high -ℤ low) → IsOf t named (c + first + k * stride)
PlainNames t system (code.parameter slot) named = (number : ℕ) × (number < parameter_count t system) × ((parameter_at t system number).slot ≡ slot) × ((parameter_at t system number).system ≡ named)

abbrev pub PlainOne : Tables → (system started : ℕ) → code.ArgumentValue → (slot next : ℕ) → (ℕ → Type 0) → Type 0
PlainOne t system started (code.component_of c) slot next others =
    (next < parameter_count t started) × (slot ≡ (parameter_at t started next).slot) × PlainNames t system c (parameter_at t started next).system × others (next + 1)
PlainOne t system started _ slot next others = others next

abbrev pub PlainHands : Tables → (system started : ℕ) → (next : ℕ) → List code.Argument → Type 0
PlainHands t system started next [] = next ≡ parameter_count t started
PlainHands t system started next (x ∷ xs) = PlainOne t system started x.value x.slot next (λ further. PlainHands t system started further xs)

abbrev pub IsNoComponent : code.ArgumentValue → Type 0
IsNoComponent (code.component_of c) = ⊥
IsNoComponent _ = Unit {0}

abbrev pub PlainNone : List code.Argument → Type 0
PlainNone [] = Unit {0}
PlainNone (x ∷ xs) = IsNoComponent x.value × PlainNone xs

abbrev pub PlainStays : Bool → code.ComponentPlace → Type 0
PlainStays true c = Unit {0}
PlainStays false c = c ≡ code.own

abbrev pub PlainActionNames : Tables → (system : ℕ) → code.Action → Type 0
PlainActionNames t system (code.call callee part is_entry xs result) = PlainNames t system part (routine_at t callee).system × PlainStays is_entry part × PlainNone xs
PlainActionNames t system (code.start part callee xs) = PlainNames t system part (routine_at t callee).system × PlainHands t system (routine_at t callee).system 0 xs × ((routine_at t callee).references ≡ 0)
PlainActionNames t system _ = Unit {0}

module _ (t : Tables) where
  names_seen : (system : ℕ) (c : code_component.ComponentPlace) (named : ℕ) → PlainNames t system (code.component_seen c) named → Names t system c named
  names_seen system component.Own named h = h
  names_seen system _ named h = h

  stays_seen : (is_entry : Bool) (c : code_component.ComponentPlace) → PlainStays is_entry (code.component_seen c) → StaysInside is_entry c
  stays_seen true c h = tt
  stays_seen false component.Own h = tt
  stays_seen false x h = absurd (cc)

  none_seen : (xs : List code_argument.Argument) → PlainNone (map code.argument_seen xs) → HandsNone xs
  none_seen [] h = tt
  none_seen (x ∷ xs) h = (go x.value h.0, none_seen xs h.1)
    where
      go : (v : code_value.ArgumentValue) → IsNoComponent (code.value_seen v) → (is_component v) ≡ false
      go (value.Component c) k = absurd k
      go (value.Scalar e low high) k = refl
      go (value.Set e low high) k = refl
      go (value.Copy p size) k = refl
      go (value.Reference p) k = refl

  one_seen : (system started : ℕ) (v : code_value.ArgumentValue) (slot next : ℕ) (P O : ℕ → Type 0) → ((n : ℕ) → P n → O n) → PlainOne t system started (code.value_seen v) slot next P → HandsOne t system started v slot next O
  one_seen system started (value.Component c) slot next P O f h = (h.0, h.1, names_seen system c (parameter_at t started next).system h.2, f (next + 1) h.3)
  one_seen system started _ slot next P O f h = f next h

  hands_seen : (system started next : ℕ) (xs : List code_argument.Argument) → PlainHands t system started next (map code.argument_seen xs) → Hands t system started next xs
  hands_seen system started next [] h = h
  hands_seen system started next (x ∷ xs) h = one_seen system started x.value x.slot next (λ n. PlainHands t system started n (map code.argument_seen xs)) (λ n. Hands t system started n xs) (λ n k. hands_seen system started n xs k) h

  pub action_names : (system : ℕ) (a : code_action.Action) → PlainActionNames t system (code.action_seen a) → ActionNames t system a
  action_names system (action.Call callee part is_entry xs result) h = (names_seen system part (routine_at t callee).system h.0, stays_seen is_entry part h.1, none_seen xs.items h.2)
  action_names system (action.Start part callee xs) h = (names_seen system part (routine_at t callee).system h.0, hands_seen system (routine_at t callee).system 0 xs.items h.1, h.2)
  action_names system _ h = tt
