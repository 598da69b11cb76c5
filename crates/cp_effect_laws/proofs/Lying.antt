-- Addresses that a frame comes to lie in what it may name.
use Rattle.std.proofs.Common.{◌≡◌, ◌∙◌, ℕ, ◌+◌, ◌*◌, ◌^◌, ◌<◌, ◌≤◌, Bool, true, false, List, [], ◌∷◌, length, Option, Some, None, Result, Ok, Err, ap, refl, sym, subst, arith, if◌then◌else◌}
use Rattle.std.specs.Prelude.{ℤ, ◌-ℤ◌, nat_lt, unsigned_abs, slice_index_or}
use Rattle.std.proofs.lemmas.Bool.{ltb-true}
use Rattle.cp_slots.specs.declared.place.Index.{Index, out-Index}
use Rattle.cp_slots.specs.declared.place.Place.{Place, out-Place}
use Rattle.cp_slots.specs.declared.place.PlaceOrigin.{PlaceOrigin}
use Rattle.cp_slots.specs.declared.place.PlaceOrigin.TheVariants as origin
use Rattle.cp_slots.specs.declared.place.OrdinalExpression.TheFolds.{fold_out-Index, fold_out-Place}
use Rattle.cp_slots.specs.Inside as inside
use Rattle.cp_slots.specs.Inside.{ToInside, ToRoom, ToRoomBehind, behind, has, then_some, room_from, expression_inside, index_room, indices_room, place_room}
use Rattle.cp_slots.specs.Tables.{RoutineView}
use Rattle.cp_store.specs.declared.error.ErrorName.{ErrorName}
use Rattle.cp_store.specs.declared.memory.Address.{Address}
use Rattle.cp_store.specs.declared.memory.Address.TheVariants.{Permanent, Local}
use Rattle.cp_store.specs.declared.memory.Frame.{Frame}
use Rattle.cp_store.specs.Inside.{HasCells, Covers}
use Rattle.cp_store.specs.Memory.{Memory, address_onward, nowhere, onward}
use Rattle.cp_store.specs.Places as places
use Rattle.cp_store.specs.Places.{ToValue, ToSet, ToElement, ToAddress, address_at, origin_address, element_offset, element_at, element_address, reference_at, value_at}
use Rattle.cp_store.specs.Values.{then_with}
use Rattle.cp_store.proofs.Reaches.{address_by, behind_is, has_fewer, not_further, some_has, some_is}
use Rattle.cp_effect_laws.specs.Touches.{HasAt, HasFrom}

-- these cells are there, and are own ones
pub record Lies (own : ℕ → Bool) (m : Memory) (at : Address) (cells : ℕ) : Type 0 where
  pub there : HasCells m at cells
  pub own_cells : HasAt own at cells

fewer_own : (own : ℕ → Bool) (at : Address) (more cells : ℕ) → cells ≤ more → HasAt own at more → HasAt own at cells
fewer_own own (Permanent number) more cells le h = λ k from below. h k from (omega (arith, below, le))
fewer_own own (Local number) more cells le h = tt

pub lies_fewer : (own : ℕ → Bool) (m : Memory) (at : Address) (more cells : ℕ) → cells ≤ more → Lies own m at more → Lies own m at cells
lies_fewer own m at more cells le h = record { there = has_fewer m at more cells le h.there; own_cells = fewer_own own at more cells le h.own_cells }

further_own : (own : ℕ → Bool) (m : Memory) (at : Address) (further cells : ℕ) → length m.permanents < 2 ^ 64 → HasCells m at (further + cells) → HasAt own at (further + cells) → HasAt own (address_onward at further) cells
further_own own m (Permanent number) further cells few there h =
    λ k from below. h k (omega (arith, from, below, there, few)) (omega (arith, from, below, there, few))
further_own own m (Local number) further cells few there h = tt

further_there : (m : Memory) (at : Address) (further cells : ℕ) → HasCells m at (further + cells) → HasCells m (address_onward at further) cells
further_there m (Permanent number) further cells h = omega (arith, h)
further_there m (Local number) further cells h = omega (arith, h)

pub lies_further : (own : ℕ → Bool) (m : Memory) (at : Address) (further cells : ℕ) → length m.permanents < 2 ^ 64 → Lies own m at (further + cells) → Lies own m (address_onward at further) cells
lies_further own m at further cells few h = record { there = further_there m at further cells h.there; own_cells = further_own own m at further cells few h.there h.own_cells }

pub ok_is : {x y : Address} → ◌≡◌ {A = Result Address ErrorName} (Ok x) (Ok y) → x ≡ y
ok_is {x = x} {y = y} same = ap (ok_or x) same
  where
    ok_or : Address → Result Address ErrorName → Address
    ok_or d (Err e) = d
    ok_or d (Ok z) = z

-- what a frame may name, where it executes a routine
pub record Named (own : ℕ → Bool) (m : Memory) (r : RoutineView) (f : Frame) : Type 0 where
  pub covers : Covers m r f
  pub self : HasFrom own f.own r.own
  pub others : (k : ℕ) → k < length r.extents → HasAt own (reference_at m.references (f.references + k)) (slice_index_or r.extents k 0)

module _ (own : ℕ → Bool) (m : Memory) (r : RoutineView) (f : Frame) (named : Named own m r f) where
  far_lies : (low high : ℤ) (size : ℕ) (at b : Address) (left inner : ℕ) (z : ℤ) (o : Result ℕ ErrorName) → element_offset low high size z ≡ o → Lies own m at left → unsigned_abs (high -ℤ low) * size + inner ≡ left → then_with o (λ far. Ok (address_onward at far)) ≡ Ok b → Lies own m b inner
  far_lies low high size at b left inner z (Ok far) far_is h room is =
      let near = not_further low high z size far far_is in
      subst (λ x. Lies own m x inner) (ok_is is) (lies_further own m at far inner named.covers.permanents_few (lies_fewer own m at left (far + inner) (omega (arith, room, near)) h))
  far_lies low high size at b left inner z (Err e) far_is h room is = absurd (cc)

  step_lies : (low high : ℤ) (size : ℕ) (x : Bool) (v : Result ℤ ErrorName) (at b : Address) (left inner : ℕ) → Lies own m at left → (if x then behind (unsigned_abs (high -ℤ low) * size) left else None) ≡ Some inner → then_with v (λ z. then_with (element_offset low high size z) (λ far. Ok (address_onward at far))) ≡ Ok b → Lies own m b inner
  step_lies low high size true (Ok z) at b left inner h room is = far_lies low high size at b left inner z (element_offset low high size z) refl h (behind_is _ left inner room) is
  step_lies low high size true (Err e) at b left inner h room is = absurd (cc)
  step_lies low high size false v at b left inner h room is = absurd (cc)

  element_lies : (i : Index) (at b : Address) (left inner : ℕ) → Lies own m at left → index_room i r left ≡ Some inner → element_at i m f at ≡ Ok b → Lies own m b inner
  element_lies i at b left inner h room is =
      step_lies (out-Index i).low (out-Index i).high (out-Index i).size (expression_inside r (out-Index i).at) (value_at m f (out-Index i).at) at b left inner h (sym room_is ∙ room) (sym element_is ∙ is)
    where
      room_is : index_room i r left ≡ (if expression_inside r (out-Index i).at then behind (unsigned_abs ((out-Index i).high -ℤ (out-Index i).low) * (out-Index i).size) left else None)
      room_is = ap (λ go. go r left) (fold_out-Index ToInside ToInside ToRoomBehind ToRoom inside.expression_step inside.set_step inside.index_step inside.place_step i)

      element_is : element_at i m f at ≡ then_with (value_at m f (out-Index i).at) (λ z. then_with (element_offset (out-Index i).low (out-Index i).high (out-Index i).size z) (λ far. Ok (address_onward at far)))
      element_is = ap (λ go. go m f at) (fold_out-Index ToValue ToSet ToElement ToAddress places.expression_step places.set_step places.index_step places.place_step i)

  through_lies : (is : List Index) (at b : Address) (left cells : ℕ) → Lies own m at left → indices_room r left is ≡ Some cells → element_address m f at is ≡ Ok b → Lies own m b cells
  through_lies [] at b left cells h room found = subst (Lies own m b) (some_is room) (subst (λ x. Lies own m x left) (ok_is found) h)
  through_lies (i ∷ is) at b left cells h room found = go (λ further inner. through_lies is further b inner cells) (index_room i r left) (element_at i m f at) refl refl room found
    where
      go : ((further : Address) (inner : ℕ) → Lies own m further inner → indices_room r inner is ≡ Some cells → element_address m f further is ≡ Ok b → Lies own m b cells)
          → (o : Option ℕ) (e : Result Address ErrorName) → index_room i r left ≡ o → element_at i m f at ≡ e
          → then_some o (λ inner. indices_room r inner is) ≡ Some cells → then_with e (λ inner. element_address m f inner is) ≡ Ok b → Lies own m b cells
      go rest (Some inner) (Ok further) has found room reached = rest further inner (element_lies i at further left inner h has found) room reached
      go rest (Some inner) (Err e) has found room reached = absurd (cc)
      go rest None e has found room reached = absurd (cc)

  pub begun_lies : (o : PlaceOrigin) (cells : ℕ) → room_from r o ≡ Some cells → Lies own m (origin_address m.references f o) cells
  begun_lies (origin.Permanent slot) cells room =
      let is = behind_is slot r.own cells room in
      let c = named.covers in
      record {
        there = omega (arith, is, c.own, c.permanents_few);
        own_cells = λ k from below. named.self k (omega (arith, from, below, is, c.own, c.permanents_few)) (omega (arith, from, below, is, c.own, c.permanents_few));
      }
  begun_lies (origin.Local slot) cells room = let is = behind_is slot (length r.image) cells room in let c = named.covers in record { there = omega (arith, is, c.cells, c.cells_few); own_cells = tt }
  begun_lies (origin.Reference number) cells room = go (nat_lt number (length r.extents)) refl room
    where
      go : (b : Bool) → nat_lt number (length r.extents) ≡ b → (if b then Some (slice_index_or r.extents number 0) else None) ≡ Some cells → Lies own m (origin_address m.references f (origin.Reference number)) cells
      go true lt is =
          let below = ltb-true number (length r.extents) lt in
          let c = named.covers in
          let exact : onward f.references number ≡ f.references + number = omega (arith, below, c.references, c.references_few) in
          let here : Lies own m (reference_at m.references (f.references + number)) (slice_index_or r.extents number 0) = record { there = c.behind number below; own_cells = named.others number below } in
          subst (λ k. Lies own m (slice_index_or m.references k nowhere) cells) (sym exact) (subst (Lies own m _) (some_is is) here)
      go false lt is = absurd (cc)

  -- a place by its parts
  place_lies_by : (p : Place) (a : Address) (cells : ℕ) (o : Option ℕ) → room_from r (out-Place p).origin ≡ o
      → then_some o (λ whole. then_some (behind (out-Place p).offset whole) (λ left. indices_room r left (out-Place p).indices.items)) ≡ Some cells
      → element_address m f (address_onward (origin_address m.references f (out-Place p).origin) (out-Place p).offset) (out-Place p).indices.items ≡ Ok a → Lies own m a cells
  place_lies_by p a cells (Some whole) starts room found = further (behind (out-Place p).offset whole) refl room
    where
      further : (o : Option ℕ) → behind (out-Place p).offset whole ≡ o → then_some o (λ left. indices_room r left (out-Place p).indices.items) ≡ Some cells → Lies own m a cells
      further (Some left) is last =
          let sum = behind_is (out-Place p).offset whole left is in
          let begun = begun_lies (out-Place p).origin whole starts in
          let moved_on = lies_further own m _ (out-Place p).offset left named.covers.permanents_few (subst (Lies own m (origin_address m.references f (out-Place p).origin)) (sym sum) begun) in
          through_lies (out-Place p).indices.items _ a left cells moved_on last found
      further None is last = absurd (cc)
  place_lies_by p a cells None starts room found = absurd (cc)

  pub place_lies : (p : Place) (a : Address) (cells : ℕ) → has cells (place_room r p) ≡ true → address_at m f p ≡ Ok a → Lies own m a cells
  place_lies p a cells enough found =
      let left = some_has cells (place_room r p) enough in
      lies_fewer own m a left.0 cells left.2 (place_lies_by p a left.0 (room_from r (out-Place p).origin) refl (sym room_is ∙ left.1) (sym (address_by m f p) ∙ found))
    where
      room_is : place_room r p ≡ then_some (room_from r (out-Place p).origin) (λ whole. then_some (behind (out-Place p).offset whole) (λ left. indices_room r left (out-Place p).indices.items))
      room_is = ap (λ at. at r) (fold_out-Place ToInside ToInside ToRoomBehind ToRoom inside.expression_step inside.set_step inside.index_step inside.place_step p)
