-- What arguments give fits where it is bound, since they are inside.
use Rattle.std.proofs.Common.{◌≡◌, ℕ, ◌+◌, ◌<◌, ◌≤◌, Bool, true, false, List, [], ◌∷◌, length, replicate, Option, Some, None, Result, Ok, Err, refl, subst, arith, if◌then◌else◌}
use Rattle.std.specs.Prelude.{ℤ, ◌&&◌, nat_lt, ◌==◌}
use Rattle.std.proofs.lemmas.Bool.{ltb-true, eqb-true}
use Rattle.std.proofs.lemmas.List.{length-append, length-replicate}
use Rattle.std.proofs.lemmas.List.Elements.{All-cons, All-nil}
use Rattle.cp_slots.specs.declared.place.Argument.{Argument}
use Rattle.cp_slots.specs.declared.place.ArgumentValue.{ArgumentValue}
use Rattle.cp_slots.specs.declared.place.ArgumentValue.TheVariants as value
use Rattle.cp_slots.specs.declared.place.Place.{Place}
use Rattle.cp_slots.specs.Inside.{SET_CELLS, argument_inside, arguments_inside, behind, binds_from, binds_on, expression_inside, follows, has, is_within, place_room, set_inside}
use Rattle.cp_slots.specs.Systems.{HandsNone, is_component}
use Rattle.cp_slots.specs.Tables.{RoutineView}
use Rattle.cp_store.specs.declared.argument.Bound.{Bound}
use Rattle.cp_store.specs.declared.argument.Bound.TheVariants.{Scalar, Set, Copy, Reference, Component}
use Rattle.cp_store.specs.declared.error.ErrorName.{ErrorName}
use Rattle.cp_store.specs.declared.memory.Address.{Address}
use Rattle.cp_store.specs.declared.memory.Address.TheVariants.{Permanent, Local}
use Rattle.cp_store.specs.declared.memory.Frame.{Frame}
use Rattle.cp_store.specs.declared.set.SetValue.{SetValue}
use Rattle.cp_store.specs.Arguments.{evaluate_argument}
use Rattle.cp_store.specs.Components.{component_at}
use Rattle.cp_store.specs.Inside.{AllFitComponent, AllFitFrame, ArgumentsAreRead, BindsBelow, CallsFit, CanGive, CanGiveAll, Covers, FindsAll, FindsArgument, FitsComponent, FitsFrame, HasBound, HasCells, StartsFit}
use Rattle.cp_store.specs.Memory.{Memory, nowhere, open_frame}
use Rattle.cp_store.specs.Places.{address_at, set_at, value_at}
use Rattle.cp_store.specs.Sets as sets
use Rattle.cp_store.specs.Values.{check_range, then_with}
use Rattle.cp_store.proofs.Alike.{has_more}
use Rattle.cp_store.proofs.Opened.{bounds_are, fine, given_all, given_by}
use Rattle.cp_store.proofs.Reaches.{and_left, and_right, behind_is, have_cells, has_fewer, some_has}

-- ---- what is read

module _ (m : Memory) (bindings : List ℕ) (caller callee : RoutineView) (extent : ℕ) (f : Frame) (covers : Covers m caller f) where
  gives : (slot : ℕ) (v : ArgumentValue) → argument_inside caller callee extent slot v ≡ true → FindsArgument bindings caller f v → CanGive m bindings f v
  gives slot (value.Scalar e low high) inside finds = (caller, covers, and_left (expression_inside caller e) (is_within slot 1 extent) inside)
  gives slot (value.Set e low high) inside finds = (caller, covers, and_left (set_inside caller e) (is_within slot SET_CELLS extent) inside)
  gives slot (value.Copy source size) inside finds = (caller, covers, and_left (has size (place_room caller source)) (is_within slot size extent) inside)
  gives slot (value.Reference place) inside finds = (_, (caller, covers, inside))
  gives slot (value.Component c) inside finds = (caller, covers, finds)

  all_give : (xs : List Argument) → arguments_inside caller callee extent xs ≡ true → FindsAll bindings caller f xs → CanGiveAll m bindings f xs
  all_give [] inside finds = All-nil (λ x. CanGive m bindings f x.value)
  all_give (a ∷ xs) inside finds =
      let first = gives a.slot a.value (and_left (argument_inside caller callee extent a.slot a.value) (arguments_inside caller callee extent xs) inside) finds.0 in
      let others = all_give xs (and_right (argument_inside caller callee extent a.slot a.value) (arguments_inside caller callee extent xs) inside) finds.1 in
      All-cons (λ x. CanGive m bindings f x.value) a xs first others

pub arguments_read : ArgumentsAreRead
arguments_read m bindings caller callee extent f arguments covers inside finds = all_give m bindings caller callee extent f covers arguments inside finds

-- ---- what is given

given : {A : Type 0} (P : Bound → Type 0) (b : Bound) (r : Result A ErrorName) (go : A → Result Bound ErrorName) → ((x : A) → r ≡ Ok x → go x ≡ Ok b → P b) → then_with r go ≡ Ok b → P b
given P b (Ok x) go each is = each x refl is
given P b (Err e) go each is = absurd (cc)

same_bound : (P : Bound → Type 0) (x y : Bound) → ◌≡◌ {A = Result Bound ErrorName} (Ok x) (Ok y) → P x → P y
same_bound P x y same h = let is : x ≡ y = cc in subst P is h

within : (slot cells extent : ℕ) → is_within slot cells extent ≡ true → slot + cells ≤ extent
within slot cells extent h =
    let left = some_has cells (behind slot extent) h in
    let is = behind_is slot extent left.0 left.1 in
    let enough = left.2 in
    omega (arith, is, enough)

-- a value fits into cells that are as many as its slot leaves
module _ (m : Memory) (bindings : List ℕ) (caller callee : RoutineView) (f : Frame) (covers : Covers m caller f) (extent slot : ℕ) (y : Memory) (at : Address) (p : length m.permanents ≤ length y.permanents) (c : length m.cells ≤ length y.cells) (room : (n : ℕ) → slot + n ≤ extent → HasCells y at n) where
  scalar_fits : (v : Result ℤ ErrorName) (low high : ℤ) (b : Bound) → is_within slot 1 extent ≡ true → then_with v (λ z. then_with (check_range low high z) (λ n. Ok (Scalar n))) ≡ Ok b → HasBound y at b
  scalar_fits v low high b inside is =
      given (HasBound y at) b v (λ z. then_with (check_range low high z) (λ n. Ok (Scalar n)))
      (λ z z_is. given (HasBound y at) b (check_range low high z) (λ n. Ok (Scalar n)) (λ n n_is same. same_bound (HasBound y at) (Scalar n) b same (room 1 (within slot 1 extent inside)))) is

  set_fits : (v : Result SetValue ErrorName) (low high : ℕ) (b : Bound) → is_within slot SET_CELLS extent ≡ true → then_with v (λ s. then_with (sets.check_members low high s) (λ n. Ok (Set n))) ≡ Ok b → HasBound y at b
  set_fits v low high b inside is =
      given (HasBound y at) b v (λ s. then_with (sets.check_members low high s) (λ n. Ok (Set n)))
      (λ s s_is. given (HasBound y at) b (sets.check_members low high s) (λ n. Ok (Set n)) (λ n n_is same. same_bound (HasBound y at) (Set n) b same (room SET_CELLS (within slot SET_CELLS extent inside)))) is

  copy_fits : (source : Place) (size : ℕ) (b : Bound) → has size (place_room caller source) ≡ true → is_within slot size extent ≡ true → then_with (address_at m f source) (λ from. Ok (Copy from size)) ≡ Ok b → HasBound y at b
  copy_fits source size b reads inside is =
      given (HasBound y at) b (address_at m f source) (λ from. Ok (Copy from size))
      (λ from found same.
      let left = some_has size (place_room caller source) reads in
      let cells = has_fewer m from left.0 size left.2 (have_cells m caller f source left.0 from covers left.1 found) in
      same_bound (HasBound y at) (Copy from size) b same (room size (within slot size extent inside), has_more m y from size p c cells)) is

-- ---- a call

in_frame : (y : Memory) (g : Frame) (slot : ℕ) (b : Bound) → HasBound y (Local (g.base + slot)) b → FitsFrame y g slot b
in_frame y g slot (Scalar z) h = h
in_frame y g slot (Set s) h = h
in_frame y g slot (Copy from size) h = h
in_frame y g slot (Reference place) h = absurd h
in_frame y g slot (Component number) h = absurd h

-- the fits of an argument, and of the others, make up those of all
module _ (count : ℕ) (m : Memory) (bindings : List ℕ) (caller callee : RoutineView) (extent : ℕ) (f : Frame) (Fits : ℕ → Bound → Type 0) (AllFit : List Argument → List Bound → Type 0) where
  abbrev Fit : Argument → Type 0
  Fit a = (b : Bound) (next further : ℕ) → argument_inside caller callee extent a.slot a.value ≡ true → follows a.value count a.slot next ≡ Some further → evaluate_argument m bindings f a.value ≡ Ok b → Fits a.slot b

  step : (a : Argument) (xs : List Argument) (bs : List Bound) (next : ℕ) → Fit a
      → ((rest : List Bound) (further : ℕ) → binds_from count further xs ≡ true → given_by m bindings f xs ≡ fine rest → AllFit xs rest)
      → ((b : Bound) (rest : List Bound) → Fits a.slot b → AllFit xs rest → AllFit (a ∷ xs) (b ∷ rest))
      → argument_inside caller callee extent a.slot a.value ≡ true → binds_from count next (a ∷ xs) ≡ true → given_by m bindings f (a ∷ xs) ≡ fine bs → AllFit (a ∷ xs) bs
  step a xs bs next fit others both inside ends given =
      go (evaluate_argument m bindings f a.value) refl (follows a.value count a.slot next) refl (given_by m bindings f xs) refl ends given
    where
      go : (r : Result Bound ErrorName) → evaluate_argument m bindings f a.value ≡ r → (o : Option ℕ) → follows a.value count a.slot next ≡ o → (t : Result (List Bound) ErrorName) → given_by m bindings f xs ≡ t
          → binds_on o (λ further. binds_from count further xs) ≡ true → then_with r (λ b. then_with t (λ rest. fine (b ∷ rest))) ≡ fine bs → AllFit (a ∷ xs) bs
      go (Ok b) found (Some further) next_is (Ok rest) rest_is ends given =
          subst (λ l. AllFit (a ∷ xs) l) (bounds_are given) (both b rest (fit b next further inside next_is found) (others rest further ends rest_is))
      go (Ok b) found (Some further) next_is (Err e) rest_is ends given = absurd (cc)
      go (Ok b) found None next_is t rest_is ends given = absurd (cc)
      go (Err e) found o next_is t rest_is ends given = absurd (cc)

module _ (m : Memory) (bindings : List ℕ) (caller callee : RoutineView) (f g : Frame) (covers : Covers m caller f) (extents : length callee.extents ≡ callee.references) (base_is : g.base ≡ length m.cells) (names_are : g.references ≡ length m.references) where
  many_cells : length (open_frame m callee.image callee.references).cells ≡ length m.cells + length callee.image
  many_cells = length-append m.cells callee.image

  many_names : length (open_frame m callee.image callee.references).references ≡ length m.references + callee.references
  many_names = let long = length-append m.references (replicate callee.references nowhere) in let count = length-replicate callee.references nowhere in omega (arith, long, count)

  frame_room : (slot n : ℕ) → slot + n ≤ length callee.image → HasCells (open_frame m callee.image callee.references) (Local (g.base + slot)) n
  frame_room slot n le = let many = many_cells in omega (arith, many, base_is, le)

  wider : length m.cells ≤ length (open_frame m callee.image callee.references).cells
  wider = let many = many_cells in omega (arith, many)

  name_fits : (place : Place) (slot next further : ℕ) (b : Bound) → follows (value.Reference place) (length callee.extents) slot next ≡ Some further → evaluate_argument m bindings f (value.Reference place) ≡ Ok b → FitsFrame (open_frame m callee.image callee.references) g slot b
  name_fits place slot next further b next_is is = go (nat_lt next (length callee.extents) && slot == next) refl next_is
    where
      go : (w : Bool) → (nat_lt next (length callee.extents) && slot == next) ≡ w → (if w then Some (next + 1) else None) ≡ Some further → FitsFrame (open_frame m callee.image callee.references) g slot b
      go true test next_is =
          let there = ltb-true next (length callee.extents) (and_left (nat_lt next (length callee.extents)) (slot == next) test) in
          let slot_is = eqb-true slot next (and_right (nat_lt next (length callee.extents)) (slot == next) test) in
          let many = many_names in
          given (FitsFrame (open_frame m callee.image callee.references) g slot) b (address_at m f place) (λ at. Ok (Reference at))
          (λ at found same. same_bound (FitsFrame (open_frame m callee.image callee.references) g slot) (Reference at) b same (omega (arith, there, slot_is, many, names_are, extents))) is
      go false test next_is = absurd (cc)

  frame_one : (v : ArgumentValue) (slot : ℕ) → is_component v ≡ false → (b : Bound) (next further : ℕ) → argument_inside caller callee (length callee.image) slot v ≡ true → follows v (length callee.extents) slot next ≡ Some further → evaluate_argument m bindings f v ≡ Ok b → FitsFrame (open_frame m callee.image callee.references) g slot b
  frame_one (value.Scalar e low high) slot plain b next further inside next_is is =
      in_frame _ g slot b (scalar_fits m bindings caller callee f covers (length callee.image) slot (open_frame m callee.image callee.references) (Local (g.base + slot)) (omega arith) wider (frame_room slot) (value_at m f e) low high b (and_right (expression_inside caller e) (is_within slot 1 (length callee.image)) inside) is)
  frame_one (value.Set e low high) slot plain b next further inside next_is is =
      in_frame _ g slot b (set_fits m bindings caller callee f covers (length callee.image) slot (open_frame m callee.image callee.references) (Local (g.base + slot)) (omega arith) wider (frame_room slot) (set_at m f e) low high b (and_right (set_inside caller e) (is_within slot SET_CELLS (length callee.image)) inside) is)
  frame_one (value.Copy source size) slot plain b next further inside next_is is =
      in_frame _ g slot b (copy_fits m bindings caller callee f covers (length callee.image) slot (open_frame m callee.image callee.references) (Local (g.base + slot)) (omega arith) wider (frame_room slot) source size b
      (and_left (has size (place_room caller source)) (is_within slot size (length callee.image)) inside) (and_right (has size (place_room caller source)) (is_within slot size (length callee.image)) inside) is)
  frame_one (value.Reference place) slot plain b next further inside next_is is = name_fits place slot next further b next_is is
  frame_one (value.Component c) slot plain b next further inside next_is is = absurd (cc)

  frame_all : (xs : List Argument) (bs : List Bound) (next : ℕ) → arguments_inside caller callee (length callee.image) xs ≡ true → binds_from (length callee.extents) next xs ≡ true → HandsNone xs → given_by m bindings f xs ≡ fine bs → AllFitFrame (open_frame m callee.image callee.references) g xs bs
  frame_all [] bs next inside ends none given = tt
  frame_all (a ∷ xs) bs next inside ends none given =
      step (length callee.extents) m bindings caller callee (length callee.image) f (FitsFrame (open_frame m callee.image callee.references) g) (AllFitFrame (open_frame m callee.image callee.references) g) a xs bs next
      (frame_one a.value a.slot none.0)
      (λ rest further ends given. frame_all xs rest further (and_right (argument_inside caller callee (length callee.image) a.slot a.value) (arguments_inside caller callee (length callee.image) xs) inside) ends none.1 given)
      (λ b rest first others. (first, others))
      (and_left (argument_inside caller callee (length callee.image) a.slot a.value) (arguments_inside caller callee (length callee.image) xs) inside) ends given

pub calls_fit : CallsFit
calls_fit m bindings caller callee f g xs bs covers inside ends none given extents base_is names_are =
    frame_all m bindings caller callee f g covers extents base_is names_are xs bs 0 inside ends none (given_all m bindings f xs bs given)

-- ---- a start

in_component : (m : Memory) (bindings : List ℕ) (base slot : ℕ) (b : Bound) → HasBound m (Permanent (base + slot)) b → FitsComponent m bindings base slot b
in_component m bindings base slot (Scalar z) h = h
in_component m bindings base slot (Set s) h = h
in_component m bindings base slot (Copy from size) h = h
in_component m bindings base slot (Reference place) h = absurd h
in_component m bindings base slot (Component number) h = absurd h

module _ (m : Memory) (bindings : List ℕ) (caller callee : RoutineView) (f : Frame) (base slots : ℕ) (covers : Covers m caller f) (own_is : base + callee.own ≤ length m.permanents) (bound_is : base + slots ≤ length bindings) where
  own_room : (slot n : ℕ) → slot + n ≤ callee.own → HasCells m (Permanent (base + slot)) n
  own_room slot n le = omega (arith, own_is, le)

  component_one : (v : ArgumentValue) (slot : ℕ) → (is_component v ≡ true → slot < slots) → (b : Bound) (next further : ℕ) → argument_inside caller callee callee.own slot v ≡ true → follows v 0 slot next ≡ Some further → evaluate_argument m bindings f v ≡ Ok b → FitsComponent m bindings base slot b
  component_one (value.Scalar e low high) slot below b next further inside next_is is =
      in_component m bindings base slot b (scalar_fits m bindings caller callee f covers callee.own slot m (Permanent (base + slot)) (omega arith) (omega arith) (own_room slot) (value_at m f e) low high b (and_right (expression_inside caller e) (is_within slot 1 callee.own) inside) is)
  component_one (value.Set e low high) slot below b next further inside next_is is =
      in_component m bindings base slot b (set_fits m bindings caller callee f covers callee.own slot m (Permanent (base + slot)) (omega arith) (omega arith) (own_room slot) (set_at m f e) low high b (and_right (set_inside caller e) (is_within slot SET_CELLS callee.own) inside) is)
  component_one (value.Copy source size) slot below b next further inside next_is is =
      in_component m bindings base slot b (copy_fits m bindings caller callee f covers callee.own slot m (Permanent (base + slot)) (omega arith) (omega arith) (own_room slot) source size b
      (and_left (has size (place_room caller source)) (is_within slot size callee.own) inside) (and_right (has size (place_room caller source)) (is_within slot size callee.own) inside) is)
  component_one (value.Reference place) slot below b next further inside next_is is = none (nat_lt next 0 && slot == next) refl next_is
    where
      none : (w : Bool) → (nat_lt next 0 && slot == next) ≡ w → (if w then Some (next + 1) else None) ≡ Some further → FitsComponent m bindings base slot b
      none true test next_is = let there = ltb-true next 0 (and_left (nat_lt next 0) (slot == next) test) in absurd (omega (arith, there))
      none false test next_is = absurd (cc)
  component_one (value.Component c) slot below b next further inside next_is is =
      let there = below refl in
      given (FitsComponent m bindings base slot) b (component_at m bindings f c) (λ n. Ok (Component n)) (λ n found same. same_bound (FitsComponent m bindings base slot) (Component n) b same (omega (arith, there, bound_is))) is

  component_all : (xs : List Argument) (bs : List Bound) (next : ℕ) → arguments_inside caller callee callee.own xs ≡ true → binds_from 0 next xs ≡ true → BindsBelow slots xs → given_by m bindings f xs ≡ fine bs → AllFitComponent m bindings base xs bs
  component_all [] bs next inside ends below given = tt
  component_all (a ∷ xs) bs next inside ends below given =
      step 0 m bindings caller callee callee.own f (FitsComponent m bindings base) (AllFitComponent m bindings base) a xs bs next
      (component_one a.value a.slot below.0)
      (λ rest further ends given. component_all xs rest further (and_right (argument_inside caller callee callee.own a.slot a.value) (arguments_inside caller callee callee.own xs) inside) ends below.1 given)
      (λ b rest first others. (first, others))
      (and_left (argument_inside caller callee callee.own a.slot a.value) (arguments_inside caller callee callee.own xs) inside) ends given

pub starts_fit : StartsFit
starts_fit m bindings caller callee f base slots xs bs covers inside ends none below given own_is bound_is =
    component_all m bindings caller callee f base slots covers own_is bound_is xs bs 0 inside (subst (λ n. binds_from n 0 xs ≡ true) none ends) below (given_all m bindings f xs bs given)
