-- When what an item reads and writes is inside what it names: the permanent cells of its component, its frame, or the cells of a `var` parameter.
use Rattle.std.specs.Prelude.{ℕ, ◌-◌, ◌+◌, ◌*◌, nat_le, nat_lt, ◌==◌, Bool, true, false, ◌&&◌, if◌then◌else◌, List, [], ◌∷◌, length, map, Option, Some, None, ◌-ℤ◌, slice_index_or, unsigned_abs}
use Rattle.cp_slots.specs.declared.item.Action.{Action}
use Rattle.cp_slots.specs.declared.item.Action.TheVariants.{Empty, Assign, AssignSet, Copy, Block, If, Case, Assert, While, Until, For, Cycle, Call, Start, Delay, Continue, Display}
use Rattle.cp_slots.specs.declared.place.Argument.{Argument}
use Rattle.cp_slots.specs.declared.place.ArgumentValue.{ArgumentValue}
use Rattle.cp_slots.specs.declared.place.ArgumentValue.TheVariants as value
use Rattle.cp_slots.specs.declared.place.ComponentPlace.{ComponentPlace}
use Rattle.cp_slots.specs.declared.place.ComponentPlace.TheVariants.{Element}
use Rattle.cp_slots.specs.declared.place.PlaceOrigin.{PlaceOrigin}
use Rattle.cp_slots.specs.declared.place.PlaceOrigin.TheVariants as origin
use Rattle.cp_slots.specs.declared.place.Place as code_place
use Rattle.cp_slots.specs.declared.place.Index as code_index
use Rattle.cp_slots.specs.declared.place.OrdinalExpression as code_expression
use Rattle.cp_slots.specs.declared.place.SetExpression as code_set
use Rattle.cp_slots.specs.declared.place.OrdinalExpression.TheOpen.{OrdinalExpression-F, SetExpression-F, Index-F, Place-F}
use Rattle.cp_slots.specs.Tables.{Tables, RoutineView, routine_at}

-- what is left of this many cells after the first ones, if there are that many
abbrev pub behind : (first cells : ℕ) → Option ℕ
behind first cells = if nat_le first cells then Some (cells - first) else None

abbrev pub then_some : {A B : Type 0} → Option A → (A → Option B) → Option B
then_some None go = None
then_some (Some x) go = go x

-- an expression, as it stands in a routine: whether all that it reads is inside
abbrev pub ToInside : Type 0
ToInside = RoutineView → Bool

-- a place: how many cells there are from it on at least, whatever its indices are
abbrev pub ToRoom : Type 0
ToRoom = RoutineView → Option ℕ

-- an index: how many cells there are from the element on, where there are this many from the array on
abbrev pub ToRoomBehind : Type 0
ToRoomBehind = RoutineView → ℕ → Option ℕ

-- the cells of a set
abbrev pub SET_CELLS : ℕ
SET_CELLS = 8

abbrev pub extent_at : List ℕ → ℕ → Option ℕ
extent_at extents number = if nat_lt number (length extents) then Some (slice_index_or extents number 0) else None

-- the cells from the beginning of a variable on
abbrev pub room_from : RoutineView → PlaceOrigin → Option ℕ
room_from r (origin.Permanent slot) = behind slot r.own
room_from r (origin.Local slot) = behind slot (length r.image)
room_from r (origin.Reference number) = extent_at r.extents number

abbrev pub room_through : List ToRoomBehind → RoutineView → ℕ → Option ℕ
room_through [] r left = Some left
room_through (i ∷ is) r left = then_some (i r left) (λ inner. room_through is r inner)

-- there are this many cells
abbrev pub has : ℕ → Option ℕ → Bool
has cells None = false
has cells (Some left) = nat_le cells left

-- ---- one level

abbrev pub place_step : Place-F ToInside ToInside ToRoomBehind ToRoom → ToRoom
place_step p = λ r. then_some (room_from r p.origin) (λ cells. then_some (behind p.offset cells) (λ left. room_through p.indices.items r left))

abbrev pub index_step : Index-F ToInside ToInside ToRoomBehind ToRoom → ToRoomBehind
index_step i = λ r left. if i.at r then behind (unsigned_abs (i.high -ℤ i.low) * i.size) left else None

abbrev pub expression_step : OrdinalExpression-F ToInside ToInside ToRoomBehind ToRoom → ToInside
expression_step (OrdinalExpression-F.Number z) = λ r. true
expression_step (OrdinalExpression-F.«OrdinalExpression::Load» p) = λ r. has 1 (p r)
expression_step (OrdinalExpression-F.Negate e) = λ r. e.value r
expression_step (OrdinalExpression-F.Absolute e) = λ r. e.value r
expression_step (OrdinalExpression-F.Not e) = λ r. e.value r
expression_step (OrdinalExpression-F.Successor e last) = λ r. e.value r
expression_step (OrdinalExpression-F.Predecessor e first) = λ r. e.value r
expression_step (OrdinalExpression-F.Character e) = λ r. e.value r
expression_step (OrdinalExpression-F.Arithmetic o a b) = λ r. a.value r && b.value r
expression_step (OrdinalExpression-F.Logic o a b) = λ r. a.value r && b.value r
expression_step (OrdinalExpression-F.Compare o a b) = λ r. a.value r && b.value r
expression_step (OrdinalExpression-F.SameSet wanted a b) = λ r. a.value r && b.value r
expression_step (OrdinalExpression-F.Member e a) = λ r. e.value r && a.value r
expression_step (OrdinalExpression-F.IsEmpty p) = λ r. has 1 (p r)

abbrev pub set_step : SetExpression-F ToInside ToInside ToRoomBehind ToRoom → ToInside
set_step (SetExpression-F.«SetExpression::Load» p) = λ r. has SET_CELLS (p r)
set_step SetExpression-F.Empty = λ r. true
set_step (SetExpression-F.With a e) = λ r. a.value r && e.value r
set_step (SetExpression-F.Combine o a b) = λ r. a.value r && b.value r

-- ---- all levels

abbrev pub expression_inside : RoutineView → code_expression.OrdinalExpression → Bool
expression_inside r e = code_expression.fold-OrdinalExpression ToInside ToInside ToRoomBehind ToRoom expression_step set_step index_step place_step e r

abbrev pub set_inside : RoutineView → code_set.SetExpression → Bool
set_inside r e = code_set.fold-SetExpression ToInside ToInside ToRoomBehind ToRoom expression_step set_step index_step place_step e r

abbrev pub place_room : RoutineView → code_place.Place → Option ℕ
place_room r p = code_place.fold-Place ToInside ToInside ToRoomBehind ToRoom expression_step set_step index_step place_step p r

abbrev pub index_room : code_index.Index → ToRoomBehind
index_room = code_index.fold-Index ToInside ToInside ToRoomBehind ToRoom expression_step set_step index_step place_step

abbrev pub indices_room : RoutineView → ℕ → List code_index.Index → Option ℕ
indices_room r left is = room_through (map index_room is) r left

-- ---- statements

-- this many cells from a slot on are inside an extent
abbrev pub is_within : (slot cells extent : ℕ) → Bool
is_within slot cells extent = has cells (behind slot extent)

-- the index of a component in an array
abbrev pub component_inside : RoutineView → ComponentPlace → Bool
component_inside r (Element first low high stride index) = expression_inside r index.value
component_inside r _ = true

-- an argument that a routine gives to a parameter: its value is inside, and its cells are inside those of the parameters' owner
abbrev pub argument_inside : (caller callee : RoutineView) → (extent slot : ℕ) → ArgumentValue → Bool
argument_inside r callee extent slot (value.Scalar e low high) = expression_inside r e && is_within slot 1 extent
argument_inside r callee extent slot (value.Set e low high) = set_inside r e && is_within slot SET_CELLS extent
argument_inside r callee extent slot (value.Copy source size) = has size (place_room r source) && is_within slot size extent
argument_inside r callee extent slot (value.Reference place) = has (slice_index_or callee.extents slot 0) (place_room r place)
argument_inside r callee extent slot (value.Component place) = component_inside r place

abbrev pub arguments_inside : (caller callee : RoutineView) → (extent : ℕ) → List Argument → Bool
arguments_inside r callee extent [] = true
arguments_inside r callee extent (x ∷ xs) = argument_inside r callee extent x.slot x.value && arguments_inside r callee extent xs

-- the arguments name a place for each of this many `var` parameters from a number on, in their order
abbrev pub follows : ArgumentValue → (count slot next : ℕ) → Option ℕ
follows (value.Reference place) count slot next = if nat_lt next count && slot == next then Some (next + 1) else None
follows _ count slot next = Some next

abbrev pub binds_on : Option ℕ → (ℕ → Bool) → Bool
binds_on None go = false
binds_on (Some next) go = go next

abbrev pub binds_from : (count next : ℕ) → List Argument → Bool
binds_from count next [] = next == count
binds_from count next (x ∷ xs) = binds_on (follows x.value count x.slot next) (λ further. binds_from count further xs)

-- a function's result lies in the frame of the function, and is put into that of its caller
abbrev pub result_inside : (caller callee : RoutineView) → Option ℕ → Bool
result_inside r callee None = true
result_inside r callee (Some slot) = nat_lt slot (length r.image) && nat_lt callee.result (length callee.image)

-- a call, whose parameters lie in the frame of the callee
abbrev pub call_inside : (caller callee : RoutineView) → ComponentPlace → List Argument → Option ℕ → Bool
call_inside r callee component arguments result =
    component_inside r component && (arguments_inside r callee (length callee.image) arguments && (binds_from (length callee.extents) 0 arguments && result_inside r callee result))

-- a start, whose parameters are permanent cells of the component
abbrev pub start_inside : (caller callee : RoutineView) → ComponentPlace → List Argument → Bool
start_inside r callee component arguments =
    component_inside r component && (arguments_inside r callee callee.own arguments && binds_from (length callee.extents) 0 arguments)

abbrev pub action_inside : Tables → RoutineView → Action → Bool
action_inside t r Empty = true
action_inside t r (Assign target value low high) = expression_inside r value && has 1 (place_room r target)
action_inside t r (AssignSet target value low high) = set_inside r value && has SET_CELLS (place_room r target)
action_inside t r (Copy target source size) = has size (place_room r source) && has size (place_room r target)
action_inside t r (Block list) = true
action_inside t r (If test list other) = expression_inside r test
action_inside t r (Case selector arms) = expression_inside r selector
action_inside t r (Assert test said) = expression_inside r test
action_inside t r (While test body again) = expression_inside r test
action_inside t r (Until test body again) = expression_inside r test
action_inside t r (For variable low high from to down body) = has 1 (room_from r variable) && (expression_inside r from && expression_inside r to)
action_inside t r (Cycle list) = true
action_inside t r (Call callee component is_entry arguments result) = call_inside r (routine_at t callee) component arguments.items result
action_inside t r (Start component callee arguments) = start_inside r (routine_at t callee) component arguments.items
action_inside t r (Delay place) = has 1 (place_room r place)
action_inside t r (Continue place) = has 1 (place_room r place)
action_inside t r (Display value kind) = expression_inside r value
