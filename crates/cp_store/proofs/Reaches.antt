-- Addresses stay inside: what an index adds is at most what its place leaves room for.
use Rattle.std.proofs.Common.{add-one, drop, get_or, ◌≡◌, ℕ, ◌+◌, ◌-◌, ◌*◌, ◌^◌, ◌<◌, ◌≤◌, Bool, true, false, List, [], ◌∷◌, length, Option, Some, None, Result, Ok, Err, ap, refl, sym, subst, ◌∙◌, arith, if◌then◌else◌}
use Rattle.std.specs.Prelude.{IfOk, ℤ, ◌-ℤ◌, int_le, ◌&&◌, nat_le, nat_lt, unsigned_abs, slice_index_or}
use Rattle.std.proofs.lemmas.Bool.{le-leb, leb-true, ltb-true}
use Rattle.std.proofs.lemmas.Int.{ints}
use Rattle.std.proofs.Math.Nat.{mul-le-mul_right}
use Rattle.std.proofs.Math.Seq.{drop-cons}
use Rattle.cp_slots.specs.declared.place.Index.{Index, out-Index}
use Rattle.cp_slots.specs.declared.place.Place.{Place, out-Place}
use Rattle.cp_slots.specs.declared.place.PlaceOrigin.{PlaceOrigin}
use Rattle.cp_slots.specs.declared.place.PlaceOrigin.TheVariants as origin
use Rattle.cp_slots.specs.declared.place.OrdinalExpression.TheFolds.{fold_out-Index, fold_out-Place}
use Rattle.cp_slots.specs.Inside as inside
use Rattle.cp_slots.specs.Inside.{ToInside, ToRoom, ToRoomBehind, behind, has, then_some, room_from, expression_inside, index_room, indices_room, place_room}
use Rattle.cp_slots.specs.Tables.{RoutineView}
use Rattle.cp_store.specs.declared.error.ErrorName.{ErrorName}
use Rattle.cp_store.specs.declared.error.ErrorName.TheVariants.{Range}
use Rattle.cp_store.specs.declared.memory.Address.{Address}
use Rattle.cp_store.specs.declared.memory.Address.TheVariants.{Permanent, Local}
use Rattle.cp_store.specs.declared.memory.Frame.{Frame}
use Rattle.cp_store.specs.Inside.{HasCells, Covers, CanRead, CanReach, CanGoThrough, MovesBy, Begins, PlacesHaveTheirCells, VariablesHaveTheirCells}
use Rattle.cp_store.specs.Memory.{Memory, address_onward, nowhere, onward, stretch}
use Rattle.cp_store.specs.Places as places
use Rattle.cp_store.specs.Places.{ToValue, ToSet, ToElement, ToAddress, address_at, origin_address, element_offset, element_at, element_address, value_at}
use Rattle.cp_store.specs.Values.{is_within, check_range, then_with}

pub some_is : {x y : ℕ} → Some x ≡ Some y → x ≡ y
some_is {x = x} {y = y} same = ap (some_or x) same
  where
    some_or : ℕ → Option ℕ → ℕ
    some_or d None = d
    some_or d (Some z) = z

ok_is : {x y : Address} → ◌≡◌ {A = Result Address ErrorName} (Ok x) (Ok y) → x ≡ y
ok_is {x = x} {y = y} same = ap (ok_or x) same
  where
    ok_or : Address → Result Address ErrorName → Address
    ok_or d (Err e) = d
    ok_or d (Ok z) = z

pub and_left : (a b : Bool) → (a && b) ≡ true → a ≡ true
and_left true b h = refl
and_left false b h = h

pub and_right : (a b : Bool) → (a && b) ≡ true → b ≡ true
and_right true b h = h
and_right false b h = absurd (cc)

pub behind_is : (first cells left : ℕ) → behind first cells ≡ Some left → first + left ≡ cells
behind_is first cells left is = go (nat_le first cells) refl is
  where
    go : (b : Bool) → nat_le first cells ≡ b → (if b then Some (cells - first) else None) ≡ Some left → first + left ≡ cells
    go true fits is = let within = leb-true first cells fits in let same : cells - first ≡ left = some_is is in omega (arith, within, same)
    go false fits is = absurd (cc)

-- the cells further on
has_moved : (m : Memory) (at : Address) (further cells : ℕ) → HasCells m at (further + cells) → HasCells m (address_onward at further) cells
has_moved m (Permanent number) further cells h = omega (arith, h)
has_moved m (Local number) further cells h = omega (arith, h)

-- the sum is a number of a machine word
moves_by : (m : Memory) (at : Address) (further cells : ℕ) → length m.permanents < 2 ^ 64 → length m.cells < 2 ^ 64 → HasCells m at (further + cells) → MovesBy at further
moves_by m (Permanent number) further cells p c h = omega (arith, h, p)
moves_by m (Local number) further cells p c h = omega (arith, h, c)

-- no address has as many cells as a machine word numbers
few_cells : (m : Memory) (at : Address) (cells : ℕ) → length m.permanents < 2 ^ 64 → length m.cells < 2 ^ 64 → HasCells m at cells → cells < 2 ^ 64
few_cells m (Permanent number) cells p c h = omega (arith, h, p)
few_cells m (Local number) cells p c h = omega (arith, h, c)

-- fewer cells
pub has_fewer : (m : Memory) (at : Address) (more cells : ℕ) → cells ≤ more → HasCells m at more → HasCells m at cells
has_fewer m (Permanent number) more cells le h = omega (arith, le, h)
has_fewer m (Local number) more cells le h = omega (arith, le, h)

between : (low high z : ℤ) → int_le low z ≡ true → int_le z high ≡ true → unsigned_abs (z -ℤ low) ≤ unsigned_abs (high -ℤ low)
between low high z above below = grind (arith, ints)

-- sums and products that a machine word numbers
pub onward_exact : (number cells : ℕ) → number + cells < 2 ^ 64 → onward number cells ≡ number + cells
onward_exact number cells few = omega (arith, few)

pub stretch_exact : (elements size : ℕ) → elements * size < 2 ^ 64 → stretch elements size ≡ elements * size
stretch_exact elements size few = omega (arith, few)

-- an index within its bounds is not further from the low one than the high one is
pub nearer : (low high z i : ℤ) (size : ℕ) → check_range low high z ≡ Ok i → unsigned_abs (i -ℤ low) * size ≤ unsigned_abs (high -ℤ low) * size
nearer low high z i size is = go (is_within low high z) refl is
  where
    value_is : {x y : ℤ} → ◌≡◌ {A = Result ℤ ErrorName} (Ok x) (Ok y) → x ≡ y
    value_is same = cc

    go : (w : Bool) → is_within low high z ≡ w → (if w then Ok z else Err Range) ≡ Ok i → unsigned_abs (i -ℤ low) * size ≤ unsigned_abs (high -ℤ low) * size
    go true within is =
        subst (λ j. unsigned_abs (j -ℤ low) * size ≤ unsigned_abs (high -ℤ low) * size) (value_is is)
        (mul-le-mul_right {m = unsigned_abs (z -ℤ low)} {n = unsigned_abs (high -ℤ low)} size (between low high z (and_left (int_le low z) (int_le z high) within) (and_right (int_le low z) (int_le z high) within)))
    go false within is = absurd (cc)

pub distance_is : (low high z i : ℤ) (size elements : ℕ) → check_range low high z ≡ Ok i → elements ≡ unsigned_abs (i -ℤ low) → elements * size < 2 ^ 64 → ◌≡◌ {A = Result ℕ ErrorName} (Ok (elements * size)) (element_offset low high size z)
distance_is low high z i size elements ranged_is elements_are few =
    let exact : stretch (unsigned_abs (i -ℤ low)) size ≡ elements * size = subst (λ e. stretch e size ≡ elements * size) elements_are (stretch_exact elements size few) in
    sym (ap (λ r. then_with r (λ j. Ok (stretch (unsigned_abs (j -ℤ low)) size))) ranged_is ∙ ap Ok exact)

pub not_further : (low high z : ℤ) (size far : ℕ) → element_offset low high size z ≡ Ok far → far ≤ unsigned_abs (high -ℤ low) * size
not_further low high z size far is = go (check_range low high z) refl is
  where
    go : (r : Result ℤ ErrorName) → check_range low high z ≡ r → then_with r (λ i. Ok (stretch (unsigned_abs (i -ℤ low)) size)) ≡ Ok far → far ≤ unsigned_abs (high -ℤ low) * size
    go (Ok i) ranged_is is = let near = nearer low high z i size ranged_is in let same : stretch (unsigned_abs (i -ℤ low)) size ≡ far = cc in omega (arith, near, same)
    go (Err e) ranged_is is = absurd (cc)

-- the element of an index, by what its parts are
module _ (m : Memory) (low high : ℤ) (size : ℕ) where
  far_inside : (at b : Address) (left inner : ℕ) (z : ℤ) → HasCells m at left → unsigned_abs (high -ℤ low) * size + inner ≡ left → then_with (element_offset low high size z) (λ far. Ok (address_onward at far)) ≡ Ok b → HasCells m b inner
  far_inside at b left inner z h room is = go (is_within low high z) refl is
    where
      go : (w : Bool) → is_within low high z ≡ w → then_with (then_with (if w then Ok z else Err Range) (λ i. Ok (stretch (unsigned_abs (i -ℤ low)) size))) (λ far. Ok (address_onward at far)) ≡ Ok b → HasCells m b inner
      go true within is =
          let near = between low high z (and_left (int_le low z) (int_le z high) within) (and_right (int_le low z) (int_le z high) within) in
          let product = mul-le-mul_right {m = unsigned_abs (z -ℤ low)} {n = unsigned_abs (high -ℤ low)} size near in
          subst (λ x. HasCells m x inner) (ok_is is) (has_moved m at _ inner (has_fewer m at left _ (omega (arith, room, product)) h))
      go false within is = absurd (cc)

  step_inside : (x : Bool) (v : Result ℤ ErrorName) (at b : Address) (left inner : ℕ) → HasCells m at left → (if x then behind (unsigned_abs (high -ℤ low) * size) left else None) ≡ Some inner → then_with v (λ z. then_with (element_offset low high size z) (λ far. Ok (address_onward at far))) ≡ Ok b → HasCells m b inner
  step_inside true (Ok z) at b left inner h room is = far_inside at b left inner z h (behind_is _ left inner room) is
  step_inside true (Err e) at b left inner h room is = absurd (cc)
  step_inside false v at b left inner h room is = absurd (cc)

module _ (m : Memory) (r : RoutineView) (f : Frame) (covers : Covers m r f) where
  element_inside : (i : Index) (at b : Address) (left inner : ℕ) → HasCells m at left → index_room i r left ≡ Some inner → element_at i m f at ≡ Ok b → HasCells m b inner
  element_inside i at b left inner h room is =
      step_inside m (out-Index i).low (out-Index i).high (out-Index i).size (expression_inside r (out-Index i).at) (value_at m f (out-Index i).at) at b left inner h (sym room_is ∙ room) (sym element_is ∙ is)
    where
      room_is : index_room i r left ≡ (if expression_inside r (out-Index i).at then behind (unsigned_abs ((out-Index i).high -ℤ (out-Index i).low) * (out-Index i).size) left else None)
      room_is = ap (λ go. go r left) (fold_out-Index ToInside ToInside ToRoomBehind ToRoom inside.expression_step inside.set_step inside.index_step inside.place_step i)

      element_is : element_at i m f at ≡ then_with (value_at m f (out-Index i).at) (λ z. then_with (element_offset (out-Index i).low (out-Index i).high (out-Index i).size z) (λ far. Ok (address_onward at far)))
      element_is = ap (λ go. go m f at) (fold_out-Index ToValue ToSet ToElement ToAddress places.expression_step places.set_step places.index_step places.place_step i)

  through_inside : (is : List Index) (at b : Address) (left cells : ℕ) → HasCells m at left → indices_room r left is ≡ Some cells → element_address m f at is ≡ Ok b → HasCells m b cells
  through_inside [] at b left cells h room found = subst (HasCells m b) (some_is room) (subst (λ x. HasCells m x left) (ok_is found) h)
  through_inside (i ∷ is) at b left cells h room found = go (λ further inner. through_inside is further b inner cells) (index_room i r left) (element_at i m f at) refl refl room found
    where
      go : ((further : Address) (inner : ℕ) → HasCells m further inner → indices_room r inner is ≡ Some cells → element_address m f further is ≡ Ok b → HasCells m b cells)
          → (o : Option ℕ) (e : Result Address ErrorName) → index_room i r left ≡ o → element_at i m f at ≡ e
          → then_some o (λ inner. indices_room r inner is) ≡ Some cells → then_with e (λ inner. element_address m f inner is) ≡ Ok b → HasCells m b cells
      go rest (Some inner) (Ok further) has found room reached = rest further inner (element_inside i at further left inner h has found) room reached
      go rest (Some inner) (Err e) has found room reached = absurd (cc)
      go rest None e has found room reached = absurd (cc)

  begun_inside : (o : PlaceOrigin) (cells : ℕ) → room_from r o ≡ Some cells → HasCells m (origin_address m.references f o) cells
  begun_inside (origin.Permanent slot) cells room = let is = behind_is slot r.own cells room in omega (arith, is, covers.own, covers.permanents_few)
  begun_inside (origin.Local slot) cells room = let is = behind_is slot (length r.image) cells room in omega (arith, is, covers.cells, covers.cells_few)
  begun_inside (origin.Reference number) cells room = go (nat_lt number (length r.extents)) refl room
    where
      go : (b : Bool) → nat_lt number (length r.extents) ≡ b → (if b then Some (slice_index_or r.extents number 0) else None) ≡ Some cells → HasCells m (origin_address m.references f (origin.Reference number)) cells
      go true lt is =
          let there = ltb-true number (length r.extents) lt in
          let exact : onward f.references number ≡ f.references + number = omega (arith, there, covers.references, covers.references_few) in
          subst (λ k. HasCells m (slice_index_or m.references k nowhere) cells) (sym exact) (subst (HasCells m _) (some_is is) (covers.behind number there))
      go false lt is = absurd (cc)

origin_begins : (m : Memory) (r : RoutineView) (f : Frame) → Covers m r f → (o : PlaceOrigin) (cells : ℕ) → room_from r o ≡ Some cells → Begins m.references f o
origin_begins m r f covers (origin.Permanent slot) cells room = let is = behind_is slot r.own cells room in omega (arith, is, covers.own, covers.permanents_few)
origin_begins m r f covers (origin.Local slot) cells room = let is = behind_is slot (length r.image) cells room in omega (arith, is, covers.cells, covers.cells_few)
origin_begins m r f covers (origin.Reference number) cells room = go (nat_lt number (length r.extents)) refl room
  where
    go : (b : Bool) → nat_lt number (length r.extents) ≡ b → (if b then Some (slice_index_or r.extents number 0) else None) ≡ Some cells → f.references + number < length m.references
    go true lt is = let there = ltb-true number (length r.extents) lt in omega (arith, there, covers.references)
    go false lt is = absurd (cc)

-- a place by its parts
record Parts (r : RoutineView) (p : Place) (cells : ℕ) : Type 0 where
  pub whole : ℕ
  pub left : ℕ
  pub begins : room_from r (out-Place p).origin ≡ Some whole
  pub offset : (out-Place p).offset + left ≡ whole
  pub indices : indices_room r left (out-Place p).indices.items ≡ Some cells

parts : (r : RoutineView) (p : Place) (cells : ℕ) → place_room r p ≡ Some cells → Parts r p cells
parts r p cells room = go (room_from r (out-Place p).origin) refl (sym room_is ∙ room)
  where
    room_is : place_room r p ≡ then_some (room_from r (out-Place p).origin) (λ whole. then_some (behind (out-Place p).offset whole) (λ left. indices_room r left (out-Place p).indices.items))
    room_is = ap (λ at. at r) (fold_out-Place ToInside ToInside ToRoomBehind ToRoom inside.expression_step inside.set_step inside.index_step inside.place_step p)

    go : (o : Option ℕ) → room_from r (out-Place p).origin ≡ o → then_some o (λ whole. then_some (behind (out-Place p).offset whole) (λ left. indices_room r left (out-Place p).indices.items)) ≡ Some cells → Parts r p cells
    go (Some whole) starts room' = further (behind (out-Place p).offset whole) refl room'
      where
        further : (o : Option ℕ) → behind (out-Place p).offset whole ≡ o → then_some o (λ left. indices_room r left (out-Place p).indices.items) ≡ Some cells → Parts r p cells
        further (Some left) is last = record { whole = whole; left = left; begins = starts; offset = behind_is _ whole left is; indices = last }
        further None is last = absurd (cc)
    go None starts room' = absurd (cc)

module _ (m : Memory) (r : RoutineView) (f : Frame) (covers : Covers m r f) (p : Place) (cells : ℕ) (room : place_room r p ≡ Some cells) where
  start_has : HasCells m (origin_address m.references f (out-Place p).origin) ((out-Place p).offset + (parts r p cells room).left)
  start_has = let k = parts r p cells room in subst (HasCells m (origin_address m.references f (out-Place p).origin)) (sym k.offset) (begun_inside m r f covers (out-Place p).origin k.whole k.begins)

  offset_has : HasCells m (address_onward (origin_address m.references f (out-Place p).origin) (out-Place p).offset) (parts r p cells room).left
  offset_has = has_moved m _ (out-Place p).offset (parts r p cells room).left start_has

pub address_by : (m : Memory) (f : Frame) (p : Place) → address_at m f p ≡ element_address m f (address_onward (origin_address m.references f (out-Place p).origin) (out-Place p).offset) (out-Place p).indices.items
address_by m f p = ap (λ at. at m f) (fold_out-Place ToValue ToSet ToElement ToAddress places.expression_step places.set_step places.index_step places.place_step p)

-- the address, as it is computed: from the beginning to the offset, and through the indices
module _ (m : Memory) (f : Frame) (p : Place) (first start : Address) (is : List Index) (first_is : first ≡ origin_address m.references f (out-Place p).origin) (start_is : start ≡ address_onward first (out-Place p).offset) (is_are : is ≡ (out-Place p).indices.items) where
  pub start_by : start ≡ address_onward (origin_address m.references f (out-Place p).origin) (out-Place p).offset
  start_by = start_is ∙ ap (λ a. address_onward a (out-Place p).offset) first_is

  pub address_through : element_address m f start is ≡ address_at m f p
  address_through = ap (λ l. element_address m f start l) is_are ∙ ap (λ a. element_address m f a (out-Place p).indices.items) start_by ∙ sym (address_by m f p)

  pub address_there : length is < 1 → ◌≡◌ {A = Result Address ErrorName} (Ok start) (address_at m f p)
  address_there short = none is short ∙ address_through
    where
      none : (l : List Index) → length l < 1 → ◌≡◌ {A = Result Address ErrorName} (Ok start) (element_address m f start l)
      none [] short = refl
      none (i ∷ l) short = absurd (omega (arith, short))

pub have_cells : PlacesHaveTheirCells
have_cells m r f p cells a covers room found =
    let k = parts r p cells room in
    through_inside m r f covers (out-Place p).indices.items _ a k.left cells (offset_has m r f covers p cells room) k.indices (sym (address_by m f p) ∙ found)

-- ---- what can be reached

has_some : (cells left : ℕ) (o : Option ℕ) → o ≡ Some left → cells ≤ left → has cells o ≡ true
has_some cells left o is le = subst (λ o. has cells o ≡ true) (sym is) (le-leb cells left le)

pub some_has : (cells : ℕ) (o : Option ℕ) → has cells o ≡ true → (left : ℕ) × (o ≡ Some left) × (cells ≤ left)
some_has cells (Some left) h = (left, refl, leb-true cells left h)
some_has cells None h = absurd (cc)

pub variables_have : VariablesHaveTheirCells
variables_have m r f o cells covers room =
    let left = some_has cells (room_from r o) room in
    (origin_begins m r f covers o left.0 left.1, has_fewer m (origin_address m.references f o) left.0 cells left.2 (begun_inside m r f covers o left.0 left.1))

module _ (m : Memory) (f : Frame) (p : Place) (cells : ℕ) (can : CanReach m f p cells) where
  left : (left : ℕ) × (place_room can.0 p ≡ Some left) × (cells ≤ left)
  left = some_has cells (place_room can.0 p) can.2

  pub reached : (a : Address) → address_at m f p ≡ Ok a → HasCells m a cells
  reached a found = has_fewer m a left.0 cells left.2 (have_cells m can.0 f p left.0 a can.1 left.1 found)

  pub reached_in : (r : Result Address ErrorName) → r ≡ address_at m f p → IfOk r (λ at. HasCells m at cells)
  reached_in (Ok a) found = reached a (sym found)
  reached_in (Err e) found = tt

  pub begins : Begins m.references f (out-Place p).origin
  begins = let k = parts can.0 p left.0 left.1 in origin_begins m can.0 f can.1 (out-Place p).origin k.whole k.begins

  pub moves : MovesBy (origin_address m.references f (out-Place p).origin) (out-Place p).offset
  moves = moves_by m _ (out-Place p).offset (parts can.0 p left.0 left.1).left can.1.permanents_few can.1.cells_few (start_has m can.0 f can.1 p left.0 left.1)

  goes : CanGoThrough m f (address_onward (origin_address m.references f (out-Place p).origin) (out-Place p).offset) (out-Place p).indices.items cells
  goes = let k = parts can.0 p left.0 left.1 in (can.0, can.1, (k.left, offset_has m can.0 f can.1 p left.0 left.1, has_some cells left.0 (indices_room can.0 k.left (out-Place p).indices.items) k.indices left.2))

pub goes_on : (m : Memory) (f : Frame) (p : Place) (cells : ℕ) → CanReach m f p cells → (first start : Address) (is : List Index) → first ≡ origin_address m.references f (out-Place p).origin → start ≡ address_onward first (out-Place p).offset → is ≡ (out-Place p).indices.items → CanGoThrough m f start is cells
goes_on m f p cells can first start is first_is start_is is_are =
    subst (λ l. CanGoThrough m f start l cells) (sym is_are)
    (subst (λ a. CanGoThrough m f a (out-Place p).indices.items cells) (sym (start_by m f p first start is first_is start_is is_are)) (goes m f p cells can))

-- the first of some indices
record First (r : RoutineView) (i : Index) (is : List Index) (left cells : ℕ) : Type 0 where
  pub inner : ℕ
  pub reads : expression_inside r (out-Index i).at ≡ true
  pub spans : unsigned_abs ((out-Index i).high -ℤ (out-Index i).low) * (out-Index i).size + inner ≡ left
  pub further : has cells (indices_room r inner is) ≡ true

first_of : (r : RoutineView) (i : Index) (is : List Index) (left cells : ℕ) → has cells (indices_room r left (i ∷ is)) ≡ true → First r i is left cells
first_of r i is left cells h = go (index_room i r left) refl h
  where
    span : ℕ
    span = unsigned_abs ((out-Index i).high -ℤ (out-Index i).low) * (out-Index i).size

    room_is : index_room i r left ≡ (if expression_inside r (out-Index i).at then behind span left else None)
    room_is = ap (λ go. go r left) (fold_out-Index ToInside ToInside ToRoomBehind ToRoom inside.expression_step inside.set_step inside.index_step inside.place_step i)

    go : (o : Option ℕ) → index_room i r left ≡ o → has cells (then_some o (λ inner. indices_room r inner is)) ≡ true → First r i is left cells
    go None is_none further = absurd (cc)
    go (Some inner) is_some further = open_test (expression_inside r (out-Index i).at) refl (sym room_is ∙ is_some)
      where
        open_test : (b : Bool) → expression_inside r (out-Index i).at ≡ b → (if b then behind span left else None) ≡ Some inner → First r i is left cells
        open_test true reads room = record { inner = inner; reads = reads; spans = behind_is span left inner room; further = further }
        open_test false reads room = absurd (cc)

module _ (m : Memory) (f : Frame) (at : Address) (xs : List Index) (k : ℕ) (x : Index) (in_xs : k < length xs) (x_is : x ≡ get_or xs k x) where
  rest_are : drop k xs ≡ x ∷ drop (k + 1) xs
  rest_are = rw (add-one, drop-cons xs k x, ← x_is) refl

  element_is : element_at x m f at ≡ then_with (value_at m f (out-Index x).at) (λ z. then_with (element_offset (out-Index x).low (out-Index x).high (out-Index x).size z) (λ far. Ok (address_onward at far)))
  element_is = ap (λ go. go m f at) (fold_out-Index ToValue ToSet ToElement ToAddress places.expression_step places.set_step places.index_step places.place_step x)

  -- the loop over the indices, where the value and the offset are known
  pub index_steps : (z : ℤ) (far : ℕ) → value_at m f (out-Index x).at ≡ Ok z → element_offset (out-Index x).low (out-Index x).high (out-Index x).size z ≡ Ok far → element_address m f at (drop k xs) ≡ element_address m f (address_onward at far) (drop (k + 1) xs)
  index_steps z far value_is far_is =
      ap (λ l. element_address m f at l) rest_are
      ∙ ap (λ e. then_with e (λ inner. element_address m f inner (drop (k + 1) xs)))
      (element_is ∙ ap (λ v. then_with v (λ z. then_with (element_offset (out-Index x).low (out-Index x).high (out-Index x).size z) (λ far. Ok (address_onward at far)))) value_is ∙ ap (λ d. then_with d (λ far. Ok (address_onward at far))) far_is)

  pub index_fails : (z : ℤ) (e : ErrorName) → value_at m f (out-Index x).at ≡ Ok z → element_offset (out-Index x).low (out-Index x).high (out-Index x).size z ≡ Err e → element_address m f at (drop k xs) ≡ Err e
  index_fails z e value_is far_is =
      ap (λ l. element_address m f at l) rest_are
      ∙ ap (λ e. then_with e (λ inner. element_address m f inner (drop (k + 1) xs)))
      (element_is ∙ ap (λ v. then_with v (λ z. then_with (element_offset (out-Index x).low (out-Index x).high (out-Index x).size z) (λ far. Ok (address_onward at far)))) value_is ∙ ap (λ d. then_with d (λ far. Ok (address_onward at far))) far_is)

module _ (m : Memory) (f : Frame) (at : Address) (xs : List Index) (k : ℕ) (x : Index) (in_xs : k < length xs) (x_is : x ≡ get_or xs k x) (can : (cells : ℕ) × CanGoThrough m f at (drop k xs) cells) where
  xs_are : drop k xs ≡ x ∷ drop (k + 1) xs
  xs_are = rw (add-one, drop-cons xs k x, ← x_is) refl

  first : First can.1.0 x (drop (k + 1) xs) can.1.2.0 can.0
  first = first_of can.1.0 x (drop (k + 1) xs) can.1.2.0 can.0 (subst (λ l. has can.0 (indices_room can.1.0 can.1.2.0 l) ≡ true) xs_are can.1.2.2)

  pub index_reads : CanRead m f (out-Index x).at
  index_reads = (can.1.0, can.1.1, first.reads)

  pub index_spans : unsigned_abs ((out-Index x).high -ℤ (out-Index x).low) * (out-Index x).size < 2 ^ 64
  index_spans = let few = few_cells m at can.1.2.0 can.1.1.permanents_few can.1.1.cells_few can.1.2.1 in let spans = first.spans in omega (arith, few, spans)

  module _ (z : ℤ) (far : ℕ) (far_is : element_offset (out-Index x).low (out-Index x).high (out-Index x).size z ≡ Ok far) where
    far_has : HasCells m at (far + first.inner)
    far_has =
        let near = not_further (out-Index x).low (out-Index x).high z (out-Index x).size far far_is in
        let spans = first.spans in
        has_fewer m at can.1.2.0 (far + first.inner) (omega (arith, near, spans)) can.1.2.1

    pub index_moves : MovesBy at far
    index_moves = moves_by m at far first.inner can.1.1.permanents_few can.1.1.cells_few far_has

    pub index_goes : (cells : ℕ) × CanGoThrough m f (address_onward at far) (drop (k + 1) xs) cells
    index_goes = (can.0, (can.1.0, can.1.1, (first.inner, has_moved m at far first.inner far_has, first.further)))
