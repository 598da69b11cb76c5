-- Why nothing outside the cells is read: in a memory that covers the frame of a routine, a place that is inside has its cells.
use Rattle.std.specs.Prelude.{◌≡◌, true, ℕ, ◌+◌, ◌*◌, ◌^◌, ◌<◌, ◌≤◌, ◌-ℤ◌, IsTrue, List, [], ◌∷◌, length, Some, Ok, slice_index_or, unsigned_abs}
use Rattle.std.specs.List.{All}
use Rattle.cp_slots.specs.declared.place.Argument.{Argument}
use Rattle.cp_slots.specs.declared.place.ArgumentValue.{ArgumentValue}
use Rattle.cp_slots.specs.declared.place.ArgumentValue.TheVariants as value
use Rattle.cp_slots.specs.declared.place.ComponentPlace.{ComponentPlace}
use Rattle.cp_slots.specs.declared.place.ComponentPlace.TheVariants.{Own, Contained, Element, Parameter}
use Rattle.cp_slots.specs.declared.place.OrdinalExpression.{OrdinalExpression}
use Rattle.cp_slots.specs.declared.place.Index.{Index}
use Rattle.cp_slots.specs.declared.place.PlaceOrigin.{PlaceOrigin}
use Rattle.cp_slots.specs.declared.place.PlaceOrigin.TheVariants as origin
use Rattle.cp_slots.specs.declared.place.Place.{Place}
use Rattle.cp_slots.specs.declared.place.SetExpression.{SetExpression}
use Rattle.cp_slots.specs.Inside.{SET_CELLS, arguments_inside, binds_from, expression_inside, has, indices_room, place_room, room_from, set_inside}
use Rattle.cp_slots.specs.Systems.{HandsNone, is_component}
use Rattle.cp_slots.specs.Tables.{RoutineView}
use Rattle.cp_store.specs.declared.argument.Bound.{Bound}
use Rattle.cp_store.specs.declared.argument.Bound.TheVariants.{Scalar, Set, Copy, Reference, Component}
use Rattle.cp_store.specs.declared.memory.Address.{Address}
use Rattle.cp_store.specs.declared.memory.Address.TheVariants.{Permanent, Local}
use Rattle.cp_store.specs.declared.memory.Frame.{Frame}
use Rattle.cp_store.specs.Arguments.{bind_frame, bounds_at, put_value}
use Rattle.cp_store.specs.Memory.{Memory, open_frame}
use Rattle.cp_store.specs.Places.{address_at, origin_address, reference_at}

-- this many cells from an address on are cells of the memory
abbrev pub HasCells : Memory → Address → ℕ → Type 0
HasCells m (Permanent number) cells = number + cells ≤ length m.permanents
HasCells m (Local number) cells = number + cells ≤ length m.cells

-- The memory has what a routine may name in a frame: the permanent cells of its component, its own cells, and the cells of
-- each of its `var` parameters. Memories are not larger than a machine word can number.
pub record Covers (m : Memory) (r : RoutineView) (f : Frame) : Type 0 where
  pub own : f.own + r.own ≤ length m.permanents
  pub cells : f.base + length r.image ≤ length m.cells
  pub references : f.references + length r.extents ≤ length m.references
  pub behind : (k : ℕ) → k < length r.extents → HasCells m (reference_at m.references (f.references + k)) (slice_index_or r.extents k 0)
  pub permanents_few : length m.permanents < 2 ^ 64
  pub cells_few : length m.cells < 2 ^ 64
  pub references_few : length m.references < 2 ^ 64

-- ---- what is read is there

-- all that an expression, or a set, reads is inside for a routine whose frame the memory covers
abbrev pub CanRead : Memory → Frame → OrdinalExpression → Type 0
CanRead m f e = (r : RoutineView) × Covers m r f × IsTrue (expression_inside r e)

abbrev pub CanReadSet : Memory → Frame → SetExpression → Type 0
CanReadSet m f e = (r : RoutineView) × Covers m r f × IsTrue (set_inside r e)

-- and there are this many cells from a place on
abbrev pub CanReach : Memory → Frame → Place → (cells : ℕ) → Type 0
CanReach m f p cells = (r : RoutineView) × Covers m r f × IsTrue (has cells (place_room r p))

-- the indices lead from an address on to this many cells
abbrev pub CanGoThrough : Memory → Frame → Address → List Index → (cells : ℕ) → Type 0
CanGoThrough m f at is cells =
    (r : RoutineView) × Covers m r f × ((left : ℕ) × HasCells m at left × IsTrue (has cells (indices_room r left is)))

-- a machine word numbers the address this many cells further on
abbrev pub MovesBy : Address → (cells : ℕ) → Type 0
MovesBy (Permanent number) cells = number + cells < 2 ^ 64
MovesBy (Local number) cells = number + cells < 2 ^ 64

-- a variable begins at an address that a machine word numbers, or at one that is there
abbrev pub Begins : (references : List Address) → Frame → PlaceOrigin → Type 0
Begins references f (origin.Permanent slot) = f.own + slot < 2 ^ 64
Begins references f (origin.Local slot) = f.base + slot < 2 ^ 64
Begins references f (origin.Reference number) = f.references + number < length references

-- the place of a component is found: by an index inside, or in the cell of a parameter
abbrev pub FindsComponent : (bindings : List ℕ) → RoutineView → Frame → ComponentPlace → Type 0
FindsComponent bindings r f Own = Unit {0}
FindsComponent bindings r f (Contained number) = f.component + number < 2 ^ 64
FindsComponent bindings r f (Element first low high stride index) =
    IsTrue (expression_inside r index.value) × (f.component + first + unsigned_abs (high -ℤ low) * stride < 2 ^ 64)
FindsComponent bindings r f (Parameter slot) = f.own + slot < length bindings

-- a component that is named can be found
abbrev pub CanFind : Memory → (bindings : List ℕ) → Frame → ComponentPlace → Type 0
CanFind m bindings f c = (r : RoutineView) × Covers m r f × FindsComponent bindings r f c

-- what an argument reads is there
abbrev pub CanGive : Memory → (bindings : List ℕ) → Frame → ArgumentValue → Type 0
CanGive m bindings f (value.Scalar e low high) = CanRead m f e
CanGive m bindings f (value.Set e low high) = CanReadSet m f e
CanGive m bindings f (value.Copy source size) = CanReach m f source size
CanGive m bindings f (value.Reference place) = (cells : ℕ) × CanReach m f place cells
CanGive m bindings f (value.Component c) = CanFind m bindings f c

abbrev pub CanGiveAll : Memory → (bindings : List ℕ) → Frame → List Argument → Type 0
CanGiveAll m bindings f xs = All (λ x. CanGive m bindings f x.value) xs

-- the components among arguments are found, ..
abbrev pub FindsArgument : (bindings : List ℕ) → RoutineView → Frame → ArgumentValue → Type 0
FindsArgument bindings r f (value.Component c) = FindsComponent bindings r f c
FindsArgument bindings r f _ = Unit {0}

abbrev pub FindsAll : (bindings : List ℕ) → RoutineView → Frame → List Argument → Type 0
FindsAll bindings r f [] = Unit {0}
FindsAll bindings r f (x ∷ xs) = FindsArgument bindings r f x.value × FindsAll bindings r f xs

-- .. and bound below a slot
abbrev pub BindsBelow : (slots : ℕ) → List Argument → Type 0
BindsBelow slots [] = Unit {0}
BindsBelow slots (x ∷ xs) = (is_component x.value ≡ true → x.slot < slots) × BindsBelow slots xs

-- ---- what is bound fits

-- a value has the cells that it is put into, and those that it is copied from
abbrev pub HasBound : Memory → Address → Bound → Type 0
HasBound m at (Scalar z) = HasCells m at 1
HasBound m at (Set s) = HasCells m at SET_CELLS
HasBound m at (Copy from size) = HasCells m at size × HasCells m from size
HasBound m at (Reference place) = ⊥
HasBound m at (Component number) = ⊥

-- a parameter of a frame is a place, or a value in cells of the process
abbrev pub FitsFrame : Memory → Frame → (slot : ℕ) → Bound → Type 0
FitsFrame m f slot (Reference place) = f.references + slot < length m.references
FitsFrame m f slot b = HasBound m (Local (f.base + slot)) b

abbrev pub AllFitFrame : Memory → Frame → List Argument → List Bound → Type 0
AllFitFrame m f [] bs = Unit {0}
AllFitFrame m f (x ∷ xs) [] = ⊥
AllFitFrame m f (x ∷ xs) (b ∷ bs) = FitsFrame m f x.slot b × AllFitFrame m f xs bs

-- a parameter of a component is another one, or a value in permanent cells
abbrev pub FitsComponent : Memory → (bindings : List ℕ) → (base slot : ℕ) → Bound → Type 0
FitsComponent m bindings base slot (Component number) = base + slot < length bindings
FitsComponent m bindings base slot b = HasBound m (Permanent (base + slot)) b

abbrev pub AllFitComponent : Memory → (bindings : List ℕ) → (base : ℕ) → List Argument → List Bound → Type 0
AllFitComponent m bindings base [] bs = Unit {0}
AllFitComponent m bindings base (x ∷ xs) [] = ⊥
AllFitComponent m bindings base (x ∷ xs) (b ∷ bs) = FitsComponent m bindings base x.slot b × AllFitComponent m bindings base xs bs

-- ---- laws

-- where a place leaves room for this many cells, whatever its indices are, its address has these
abbrev pub PlacesHaveTheirCells : Type 0
PlacesHaveTheirCells =
    (m : Memory) (r : RoutineView) (f : Frame) (p : Place) (cells : ℕ) (a : Address) →
    Covers m r f → place_room r p ≡ Some cells → address_at m f p ≡ Ok a → HasCells m a cells

-- where there are this many cells from the beginning of a variable on, it begins at an address that has these
abbrev pub VariablesHaveTheirCells : Type 0
VariablesHaveTheirCells =
    (m : Memory) (r : RoutineView) (f : Frame) (o : PlaceOrigin) (cells : ℕ) →
    Covers m r f → IsTrue (has cells (room_from r o)) → Begins m.references f o × HasCells m (origin_address m.references f o) cells

-- what is written leaves all that a frame covers
abbrev pub WritesKeepCells : Type 0
WritesKeepCells =
    (m : Memory) (r : RoutineView) (f : Frame) (at : Address) (b : Bound) →
    Covers m r f → Covers (put_value m at b) r f

-- A call whose arguments are inside covers the frame that it opens after all others, once the parameters are bound: each `var`
-- parameter names a place that has its cells. Two things are left to whoever opens the frame: that the component has the
-- permanent cells of the routine, and that all sums stay numbers of a machine word.
abbrev pub CallsCoverTheirFrames : Type 0
CallsCoverTheirFrames =
    (m : Memory) (bindings : List ℕ) (caller callee : RoutineView) (f g : Frame) (arguments : List Argument) (bounds : List Bound) →
    Covers m caller f →
    IsTrue (arguments_inside caller callee (length callee.image) arguments) → IsTrue (binds_from (length callee.extents) 0 arguments) →
    bounds_at m bindings f arguments ≡ Ok bounds →
    length callee.extents ≡ callee.references →
    g.own + callee.own ≤ length m.permanents → g.base ≡ length m.cells → g.references ≡ length m.references →
    length m.cells + length callee.image < 2 ^ 64 → length m.references + callee.references < 2 ^ 64 →
    Covers (bind_frame (open_frame m callee.image callee.references) g arguments bounds) callee g

-- what arguments read is there, where they are inside and their components are found
abbrev pub ArgumentsAreRead : Type 0
ArgumentsAreRead =
    (m : Memory) (bindings : List ℕ) (caller callee : RoutineView) (extent : ℕ) (f : Frame) (arguments : List Argument) →
    Covers m caller f → IsTrue (arguments_inside caller callee extent arguments) → FindsAll bindings caller f arguments →
    CanGiveAll m bindings f arguments

-- what the arguments of a call give fits into the frame that is opened after all others
abbrev pub CallsFit : Type 0
CallsFit =
    (m : Memory) (bindings : List ℕ) (caller callee : RoutineView) (f g : Frame) (arguments : List Argument) (bounds : List Bound) →
    Covers m caller f →
    IsTrue (arguments_inside caller callee (length callee.image) arguments) → IsTrue (binds_from (length callee.extents) 0 arguments) →
    HandsNone arguments → bounds_at m bindings f arguments ≡ Ok bounds →
    length callee.extents ≡ callee.references → g.base ≡ length m.cells → g.references ≡ length m.references →
    AllFitFrame (open_frame m callee.image callee.references) g arguments bounds

-- what the arguments of a start give fits into the cells of the component
abbrev pub StartsFit : Type 0
StartsFit =
    (m : Memory) (bindings : List ℕ) (caller callee : RoutineView) (f : Frame) (base slots : ℕ) (arguments : List Argument) (bounds : List Bound) →
    Covers m caller f →
    IsTrue (arguments_inside caller callee callee.own arguments) → IsTrue (binds_from (length callee.extents) 0 arguments) →
    length callee.extents ≡ 0 → BindsBelow slots arguments → bounds_at m bindings f arguments ≡ Ok bounds →
    base + callee.own ≤ length m.permanents → base + slots ≤ length bindings →
    AllFitComponent m bindings base arguments bounds
