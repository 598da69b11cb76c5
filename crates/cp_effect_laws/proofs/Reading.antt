-- What a process reads in its frame is the same where other cells are others.
use Rattle.std.proofs.Common.{◌≡◌, ◌∙◌, ℕ, ◌+◌, ◌*◌, ◌^◌, ◌<◌, Bool, true, false, List, [], ◌∷◌, length, map, Option, Some, None, Result, Ok, Err, ap, refl, sym, subst, arith, if◌then◌else◌}
use Rattle.std.specs.Prelude.{ℤ, pos, not, slice_index_or}
use Rattle.std.specs.Int.{cast_unsigned, w16}
use Rattle.cp_slots.specs.declared.place.OrdinalExpression.{OrdinalExpression}
use Rattle.cp_slots.specs.declared.place.SetExpression.{SetExpression}
use Rattle.cp_slots.specs.declared.place.Index.{Index}
use Rattle.cp_slots.specs.declared.place.Place.{Place}
use Rattle.cp_slots.specs.declared.place.OrdinalExpression.TheOpen.{OrdinalExpression-F, SetExpression-F, Index-F, Place-F}
use Rattle.cp_slots.specs.declared.place.OrdinalExpression.TheFolds.{fold-roll-OrdinalExpression, fold-roll-SetExpression, fold-roll-Index, fold-roll-Place, ind-OrdinalExpression, ind-SetExpression, ind-Place, map-OrdinalExpression, map-SetExpression, map-Index, map-Place}
use Rattle.cp_slots.specs.declared.place.OrdinalExpression.TheViews.{roll-OrdinalExpression, roll-SetExpression, roll-Index, roll-Place}
use Rattle.cp_slots.specs.Inside as inside
use Rattle.cp_slots.specs.Inside.{ToInside, ToRoom, ToRoomBehind, behind, has, then_some, room_from, expression_inside, set_inside, index_room, place_room, room_through, SET_CELLS}
use Rattle.cp_slots.specs.Tables.{RoutineView}
use Rattle.cp_store.specs.declared.error.ErrorName.{ErrorName}
use Rattle.cp_store.specs.declared.memory.Address.{Address}
use Rattle.cp_store.specs.declared.memory.Address.TheVariants.{Permanent, Local}
use Rattle.cp_store.specs.declared.memory.Frame.{Frame}
use Rattle.cp_store.specs.Memory.{Memory, cell_at, address_onward}
use Rattle.cp_store.specs.Places as places
use Rattle.cp_store.specs.Places.{ToValue, ToSet, ToElement, ToAddress, origin_address, load_value, value_at, set_at, address_at, element_at, through}
use Rattle.cp_store.specs.Sets as sets
use Rattle.cp_store.specs.Values.{then_with, check_range, truth, is_true, negate, absolute, successor, predecessor, calculate, apply_logic, compare}
use Rattle.cp_store.proofs.Reaches.{and_left, and_right}
use Rattle.cp_effect_laws.proofs.Lying.{Lies, Named, lies_fewer, lies_further, place_lies}

module _ (own : ℕ → Bool) (x : Memory) (others : List ℤ) (same : (k : ℕ) → own k ≡ true → slice_index_or others k (pos 0) ≡ slice_index_or x.permanents k (pos 0)) where
  abbrev y : Memory
  y = record x { permanents = others }

  pub cell_same : (at : Address) → Lies own x at 1 → cell_at y at ≡ cell_at x at
  cell_same (Permanent number) h = same number (h.own_cells number (omega (arith)) (omega (arith)))
  cell_same (Local number) h = refl

  module _ (few : length x.permanents < 2 ^ 64) where
    word_same : (at : Address) → Lies own x at 1 → sets.word_at y at ≡ sets.word_at x at
    word_same at h = ap (cast_unsigned w16) (cell_same at h)

    pair_same : (at : Address) → Lies own x at 2 → sets.pair_at y at ≡ sets.pair_at x at
    pair_same at h =
        ap (λ a. a + sets.word_at y (address_onward at 1) * 2 ^ 16) (word_same at (lies_fewer own x at 2 1 (omega (arith)) h))
        ∙ ap (λ a. sets.word_at x at + a * 2 ^ 16) (word_same (address_onward at 1) (lies_further own x at 1 1 few h))

    quad_same : (at : Address) → Lies own x at 4 → sets.quad_at y at ≡ sets.quad_at x at
    quad_same at h =
        ap (λ a. a + sets.pair_at y (address_onward at 2) * 2 ^ 32) (pair_same at (lies_fewer own x at 4 2 (omega (arith)) h))
        ∙ ap (λ a. sets.pair_at x at + a * 2 ^ 32) (pair_same (address_onward at 2) (lies_further own x at 2 2 few h))

    members_same : (at : Address) → Lies own x at 8 → sets.quad_at y at + sets.quad_at y (address_onward at 4) * 2 ^ 64 ≡ sets.quad_at x at + sets.quad_at x (address_onward at 4) * 2 ^ 64
    members_same at h =
        ap (λ a. a + sets.quad_at y (address_onward at 4) * 2 ^ 64) (quad_same at (lies_fewer own x at 8 4 (omega (arith)) h))
        ∙ ap (λ a. sets.quad_at x at + a * 2 ^ 64) (quad_same (address_onward at 4) (lies_further own x at 4 4 few h))

    pub stored_same : (at : Address) → Lies own x at 8 → sets.load_set y at ≡ sets.load_set x at
    stored_same at h = ap (λ k. record { members = k }) (members_same at h)

  module _ (r : RoutineView) (f : Frame) (named : Named own x r f) where
    abbrev IsValue : OrdinalExpression → Type 0
    IsValue e = expression_inside r e ≡ true → value_at y f e ≡ value_at x f e

    abbrev IsSet : SetExpression → Type 0
    IsSet e = set_inside r e ≡ true → set_at y f e ≡ set_at x f e

    abbrev IsIndex : Index → Type 0
    IsIndex i = (left inner : ℕ) (at : Address) → index_room i r left ≡ Some inner → element_at i y f at ≡ element_at i x f at

    abbrev IsPlace : Place → Type 0
    IsPlace p = (cells : ℕ) → has cells (place_room r p) ≡ true → address_at y f p ≡ address_at x f p

    -- ---- one layer, whose parts are read the same

    abbrev Values : Type 0
    Values = (e : OrdinalExpression) × IsValue e

    abbrev Sets : Type 0
    Sets = (e : SetExpression) × IsSet e

    abbrev Elements : Type 0
    Elements = (i : Index) × IsIndex i

    abbrev Variables : Type 0
    Variables = (p : Place) × IsPlace p

    abbrev bare_expression : OrdinalExpression-F Values Sets Elements Variables → OrdinalExpression-F OrdinalExpression SetExpression Index Place
    bare_expression = map-OrdinalExpression Values Sets Elements Variables OrdinalExpression SetExpression Index Place (λ e. e.0) (λ e. e.0) (λ e. e.0) (λ e. e.0)

    abbrev bare_set : SetExpression-F Values Sets Elements Variables → SetExpression-F OrdinalExpression SetExpression Index Place
    bare_set = map-SetExpression Values Sets Elements Variables OrdinalExpression SetExpression Index Place (λ e. e.0) (λ e. e.0) (λ e. e.0) (λ e. e.0)

    abbrev bare_index : Index-F Values Sets Elements Variables → Index-F OrdinalExpression SetExpression Index Place
    bare_index = map-Index Values Sets Elements Variables OrdinalExpression SetExpression Index Place (λ e. e.0) (λ e. e.0) (λ e. e.0) (λ e. e.0)

    abbrev bare_place : Place-F Values Sets Elements Variables → Place-F OrdinalExpression SetExpression Index Place
    bare_place = map-Place Values Sets Elements Variables OrdinalExpression SetExpression Index Place (λ e. e.0) (λ e. e.0) (λ e. e.0) (λ e. e.0)

    abbrev to_value : OrdinalExpression → ToValue
    to_value e = λ m f. value_at m f e

    abbrev to_set : SetExpression → ToSet
    to_set e = λ m f. set_at m f e

    abbrev to_address : Place → ToAddress
    to_address p = λ m f. address_at m f p

    abbrev in_expression : OrdinalExpression → ToInside
    in_expression e = λ r. expression_inside r e

    abbrev in_set : SetExpression → ToInside
    in_set e = λ r. set_inside r e

    abbrev in_place : Place → ToRoom
    in_place p = λ r. place_room r p

    abbrev given_expression : OrdinalExpression-F OrdinalExpression SetExpression Index Place → OrdinalExpression-F ToValue ToSet ToElement ToAddress
    given_expression = map-OrdinalExpression OrdinalExpression SetExpression Index Place ToValue ToSet ToElement ToAddress to_value to_set element_at to_address

    abbrev given_set : SetExpression-F OrdinalExpression SetExpression Index Place → SetExpression-F ToValue ToSet ToElement ToAddress
    given_set = map-SetExpression OrdinalExpression SetExpression Index Place ToValue ToSet ToElement ToAddress to_value to_set element_at to_address

    abbrev given_index : Index-F OrdinalExpression SetExpression Index Place → Index-F ToValue ToSet ToElement ToAddress
    given_index = map-Index OrdinalExpression SetExpression Index Place ToValue ToSet ToElement ToAddress to_value to_set element_at to_address

    abbrev given_place : Place-F OrdinalExpression SetExpression Index Place → Place-F ToValue ToSet ToElement ToAddress
    given_place = map-Place OrdinalExpression SetExpression Index Place ToValue ToSet ToElement ToAddress to_value to_set element_at to_address

    abbrev told_expression : OrdinalExpression-F OrdinalExpression SetExpression Index Place → OrdinalExpression-F ToInside ToInside ToRoomBehind ToRoom
    told_expression = map-OrdinalExpression OrdinalExpression SetExpression Index Place ToInside ToInside ToRoomBehind ToRoom in_expression in_set index_room in_place

    abbrev told_set : SetExpression-F OrdinalExpression SetExpression Index Place → SetExpression-F ToInside ToInside ToRoomBehind ToRoom
    told_set = map-SetExpression OrdinalExpression SetExpression Index Place ToInside ToInside ToRoomBehind ToRoom in_expression in_set index_room in_place

    abbrev told_index : Index-F OrdinalExpression SetExpression Index Place → Index-F ToInside ToInside ToRoomBehind ToRoom
    told_index = map-Index OrdinalExpression SetExpression Index Place ToInside ToInside ToRoomBehind ToRoom in_expression in_set index_room in_place

    abbrev told_place : Place-F OrdinalExpression SetExpression Index Place → Place-F ToInside ToInside ToRoomBehind ToRoom
    told_place = map-Place OrdinalExpression SetExpression Index Place ToInside ToInside ToRoomBehind ToRoom in_expression in_set index_room in_place

    value_by : (z : OrdinalExpression-F OrdinalExpression SetExpression Index Place) → (inside.expression_step (told_expression z) r ≡ true → places.expression_step (given_expression z) y f ≡ places.expression_step (given_expression z) x f) → IsValue (roll-OrdinalExpression z)
    value_by z e i =
        ap (λ go. go y f) (fold-roll-OrdinalExpression ToValue ToSet ToElement ToAddress places.expression_step places.set_step places.index_step places.place_step z)
        ∙ (e (sym (ap (λ go. go r) (fold-roll-OrdinalExpression ToInside ToInside ToRoomBehind ToRoom inside.expression_step inside.set_step inside.index_step inside.place_step z)) ∙ i)
        ∙ sym (ap (λ go. go x f) (fold-roll-OrdinalExpression ToValue ToSet ToElement ToAddress places.expression_step places.set_step places.index_step places.place_step z)))

    set_by : (z : SetExpression-F OrdinalExpression SetExpression Index Place) → (inside.set_step (told_set z) r ≡ true → places.set_step (given_set z) y f ≡ places.set_step (given_set z) x f) → IsSet (roll-SetExpression z)
    set_by z e i =
        ap (λ go. go y f) (fold-roll-SetExpression ToValue ToSet ToElement ToAddress places.expression_step places.set_step places.index_step places.place_step z)
        ∙ (e (sym (ap (λ go. go r) (fold-roll-SetExpression ToInside ToInside ToRoomBehind ToRoom inside.expression_step inside.set_step inside.index_step inside.place_step z)) ∙ i)
        ∙ sym (ap (λ go. go x f) (fold-roll-SetExpression ToValue ToSet ToElement ToAddress places.expression_step places.set_step places.index_step places.place_step z)))

    index_by : (z : Index-F OrdinalExpression SetExpression Index Place) → ((left inner : ℕ) (at : Address) → inside.index_step (told_index z) r left ≡ Some inner → places.index_step (given_index z) y f at ≡ places.index_step (given_index z) x f at) → IsIndex (roll-Index z)
    index_by z e left inner at i =
        ap (λ go. go y f at) (fold-roll-Index ToValue ToSet ToElement ToAddress places.expression_step places.set_step places.index_step places.place_step z)
        ∙ (e left inner at (sym (ap (λ go. go r left) (fold-roll-Index ToInside ToInside ToRoomBehind ToRoom inside.expression_step inside.set_step inside.index_step inside.place_step z)) ∙ i)
        ∙ sym (ap (λ go. go x f at) (fold-roll-Index ToValue ToSet ToElement ToAddress places.expression_step places.set_step places.index_step places.place_step z)))

    place_by : (z : Place-F OrdinalExpression SetExpression Index Place) → ((cells : ℕ) → has cells (inside.place_step (told_place z) r) ≡ true → places.place_step (given_place z) y f ≡ places.place_step (given_place z) x f) → IsPlace (roll-Place z)
    place_by z e cells i =
        ap (λ go. go y f) (fold-roll-Place ToValue ToSet ToElement ToAddress places.expression_step places.set_step places.index_step places.place_step z)
        ∙ (e cells (sym (ap (λ go. has cells (go r)) (fold-roll-Place ToInside ToInside ToRoomBehind ToRoom inside.expression_step inside.set_step inside.index_step inside.place_step z)) ∙ i)
        ∙ sym (ap (λ go. go x f) (fold-roll-Place ToValue ToSet ToElement ToAddress places.expression_step places.set_step places.index_step places.place_step z)))

    both_same : {A B C : Type 0} (go : A → B → Result C ErrorName) (a b : Result A ErrorName) (c d : Result B ErrorName) → a ≡ b → c ≡ d → then_with a (λ v. then_with c (λ w. go v w)) ≡ then_with b (λ v. then_with d (λ w. go v w))
    both_same go a b c d e k = ap (λ o. then_with o (λ v. then_with c (λ w. go v w))) e ∙ ap (λ o. then_with b (λ v. then_with o (λ w. go v w))) k

    loaded_same : (p : Place) → IsPlace p → has 1 (place_room r p) ≡ true → load_value y (address_at y f p) ≡ load_value x (address_at x f p)
    loaded_same p place room = ap (load_value y) (place 1 room) ∙ go (address_at x f p) refl
      where
        go : (o : Result Address ErrorName) → address_at x f p ≡ o → load_value y o ≡ load_value x o
        go (Ok a) found = ap Ok (cell_same a (place_lies own x r f named p a 1 room found))
        go (Err e) found = refl

    stored_place : (p : Place) → IsPlace p → has SET_CELLS (place_room r p) ≡ true → then_with (address_at y f p) (λ at. Ok (sets.load_set y at)) ≡ then_with (address_at x f p) (λ at. Ok (sets.load_set x at))
    stored_place p place room = ap (λ o. then_with o (λ at. Ok (sets.load_set y at))) (place SET_CELLS room) ∙ go (address_at x f p) refl
      where
        go : (o : Result Address ErrorName) → address_at x f p ≡ o → then_with o (λ at. Ok (sets.load_set y at)) ≡ then_with o (λ at. Ok (sets.load_set x at))
        go (Ok a) found = ap Ok (stored_same named.covers.permanents_few a (place_lies own x r f named p a SET_CELLS room found))
        go (Err e) found = refl

    value_layer : (z : OrdinalExpression-F Values Sets Elements Variables) → IsValue (roll-OrdinalExpression (bare_expression z))
    value_layer (OrdinalExpression-F.Number n) = value_by (OrdinalExpression-F.Number n) (λ i. refl)
    value_layer (OrdinalExpression-F.«OrdinalExpression::Load» p) = value_by (bare_expression (OrdinalExpression-F.«OrdinalExpression::Load» p)) (λ i. loaded_same p.0 p.1 i)
    value_layer (OrdinalExpression-F.Negate e) = value_by (bare_expression (OrdinalExpression-F.Negate e)) (λ i. ap (λ o. then_with o negate) (e.value.1 i))
    value_layer (OrdinalExpression-F.Absolute e) = value_by (bare_expression (OrdinalExpression-F.Absolute e)) (λ i. ap (λ o. then_with o absolute) (e.value.1 i))
    value_layer (OrdinalExpression-F.Not e) = value_by (bare_expression (OrdinalExpression-F.Not e)) (λ i. ap (λ o. then_with o (λ v. Ok (truth (not (is_true v))))) (e.value.1 i))
    value_layer (OrdinalExpression-F.Successor e last) = value_by (bare_expression (OrdinalExpression-F.Successor e last)) (λ i. ap (λ o. then_with o (successor last)) (e.value.1 i))
    value_layer (OrdinalExpression-F.Predecessor e first) = value_by (bare_expression (OrdinalExpression-F.Predecessor e first)) (λ i. ap (λ o. then_with o (predecessor first)) (e.value.1 i))
    value_layer (OrdinalExpression-F.Character e) = value_by (bare_expression (OrdinalExpression-F.Character e)) (λ i. ap (λ o. then_with o (check_range (pos 0) (pos 127))) (e.value.1 i))
    value_layer (OrdinalExpression-F.Arithmetic o a b) = value_by (bare_expression (OrdinalExpression-F.Arithmetic o a b)) (λ i. both_same (calculate o) _ _ _ _ (a.value.1 (and_left _ _ i)) (b.value.1 (and_right _ _ i)))
    value_layer (OrdinalExpression-F.Logic o a b) = value_by (bare_expression (OrdinalExpression-F.Logic o a b)) (λ i. both_same (λ v w. Ok (apply_logic o v w)) _ _ _ _ (a.value.1 (and_left _ _ i)) (b.value.1 (and_right _ _ i)))
    value_layer (OrdinalExpression-F.Compare o a b) = value_by (bare_expression (OrdinalExpression-F.Compare o a b)) (λ i. both_same (λ v w. Ok (compare o v w)) _ _ _ _ (a.value.1 (and_left _ _ i)) (b.value.1 (and_right _ _ i)))
    value_layer (OrdinalExpression-F.SameSet wanted a b) = value_by (bare_expression (OrdinalExpression-F.SameSet wanted a b)) (λ i. both_same (λ s t. Ok (sets.compare_sets wanted s t)) _ _ _ _ (a.value.1 (and_left _ _ i)) (b.value.1 (and_right _ _ i)))
    value_layer (OrdinalExpression-F.Member e a) = value_by (bare_expression (OrdinalExpression-F.Member e a)) (λ i. both_same (λ v s. Ok (truth (sets.is_member s v))) _ _ _ _ (e.value.1 (and_left _ _ i)) (a.value.1 (and_right _ _ i)))
    value_layer (OrdinalExpression-F.IsEmpty p) = value_by (bare_expression (OrdinalExpression-F.IsEmpty p)) (λ i. ap (λ o. then_with o (λ v. Ok (truth (not (is_true v))))) (loaded_same p.0 p.1 i))

    set_layer : (z : SetExpression-F Values Sets Elements Variables) → IsSet (roll-SetExpression (bare_set z))
    set_layer (SetExpression-F.«SetExpression::Load» p) = set_by (bare_set (SetExpression-F.«SetExpression::Load» p)) (λ i. stored_place p.0 p.1 i)
    set_layer SetExpression-F.Empty = set_by SetExpression-F.Empty (λ i. refl)
    set_layer (SetExpression-F.With a e) = set_by (bare_set (SetExpression-F.With a e)) (λ i. both_same (λ s v. sets.with_element s v) _ _ _ _ (a.value.1 (and_left _ _ i)) (e.value.1 (and_right _ _ i)))
    set_layer (SetExpression-F.Combine o a b) = set_by (bare_set (SetExpression-F.Combine o a b)) (λ i. both_same (λ s t. Ok (sets.combine_sets o s t)) _ _ _ _ (a.value.1 (and_left _ _ i)) (b.value.1 (and_right _ _ i)))

    if_some : (b : Bool) (o : Option ℕ) (inner : ℕ) → (if b then o else None) ≡ Some inner → b ≡ true
    if_some true o inner h = refl
    if_some false o inner h = absurd (cc)

    index_layer : (z : Index-F Values Sets Elements Variables) → IsIndex (roll-Index (bare_index z))
    index_layer z = index_by (bare_index z) (λ left inner at i. ap (λ o. then_with o (λ v. then_with (places.element_offset z.low z.high z.size v) (λ far. Ok (address_onward at far)))) (z.at.1 (if_some _ _ inner i)))

    -- one index after the other
    indexed_layer : (is : List Elements) (left cells : ℕ) (at : Address) → has cells (room_through (map index_room (map (λ i. i.0) is)) r left) ≡ true → through (map element_at (map (λ i. i.0) is)) y f at ≡ through (map element_at (map (λ i. i.0) is)) x f at
    indexed_layer [] left cells at room = refl
    indexed_layer (i ∷ is) left cells at room = first (λ inner enough a. indexed_layer is inner cells a enough) (index_room i.0 r left) refl room
      where
        rest : ((a : Address) → through (map element_at (map (λ i. i.0) is)) y f a ≡ through (map element_at (map (λ i. i.0) is)) x f a) → (o : Result Address ErrorName) → then_with o (λ a. through (map element_at (map (λ i. i.0) is)) y f a) ≡ then_with o (λ a. through (map element_at (map (λ i. i.0) is)) x f a)
        rest each (Ok a) = each a
        rest each (Err e) = refl

        first : ((inner : ℕ) → has cells (room_through (map index_room (map (λ i. i.0) is)) r inner) ≡ true → (a : Address) → through (map element_at (map (λ i. i.0) is)) y f a ≡ through (map element_at (map (λ i. i.0) is)) x f a)
            → (o : Option ℕ) → index_room i.0 r left ≡ o → has cells (then_some o (λ inner. room_through (map index_room (map (λ i. i.0) is)) r inner)) ≡ true → through (map element_at (map (λ i. i.0) (i ∷ is))) y f at ≡ through (map element_at (map (λ i. i.0) (i ∷ is))) x f at
        first each (Some inner) is_some enough = ap (λ o. then_with o (λ a. through (map element_at (map (λ i. i.0) is)) y f a)) (i.1 left inner at is_some) ∙ rest (each inner enough) (element_at i.0 x f at)
        first each None is_none enough = absurd (cc)

    place_layer : (z : Place-F Values Sets Elements Variables) → IsPlace (roll-Place (bare_place z))
    place_layer z = place_by (bare_place z) (λ cells i. from (room_from r z.origin) refl cells i)
      where
        from : (o : Option ℕ) → room_from r z.origin ≡ o → (cells : ℕ) → has cells (then_some o (λ whole. then_some (behind z.offset whole) (λ left. room_through (map index_room (map (λ i. i.0) z.indices.items)) r left))) ≡ true →
            through (map element_at (map (λ i. i.0) z.indices.items)) y f (address_onward (origin_address x.references f z.origin) z.offset) ≡ through (map element_at (map (λ i. i.0) z.indices.items)) x f (address_onward (origin_address x.references f z.origin) z.offset)
        from (Some whole) starts cells i = on (behind z.offset whole) i
          where
            on : (o : Option ℕ) → has cells (then_some o (λ left. room_through (map index_room (map (λ i. i.0) z.indices.items)) r left)) ≡ true →
                through (map element_at (map (λ i. i.0) z.indices.items)) y f (address_onward (origin_address x.references f z.origin) z.offset) ≡ through (map element_at (map (λ i. i.0) z.indices.items)) x f (address_onward (origin_address x.references f z.origin) z.offset)
            on (Some left) i = indexed_layer z.indices.items left cells _ i
            on None i = absurd (cc)
        from None starts cells i = absurd (cc)

    -- ---- all layers

    values : (z : OrdinalExpression-F OrdinalExpression SetExpression Index Place) (l : OrdinalExpression-F Values Sets Elements Variables) → bare_expression l ≡ z → IsValue (roll-OrdinalExpression z)
    values z l e = subst (λ k. IsValue (roll-OrdinalExpression k)) e (value_layer l)

    sets_are : (z : SetExpression-F OrdinalExpression SetExpression Index Place) (l : SetExpression-F Values Sets Elements Variables) → bare_set l ≡ z → IsSet (roll-SetExpression z)
    sets_are z l e = subst (λ k. IsSet (roll-SetExpression k)) e (set_layer l)

    indices : (z : Index-F OrdinalExpression SetExpression Index Place) (l : Index-F Values Sets Elements Variables) → bare_index l ≡ z → IsIndex (roll-Index z)
    indices z l e = subst (λ k. IsIndex (roll-Index k)) e (index_layer l)

    variables : (z : Place-F OrdinalExpression SetExpression Index Place) (l : Place-F Values Sets Elements Variables) → bare_place l ≡ z → IsPlace (roll-Place z)
    variables z l e = subst (λ k. IsPlace (roll-Place k)) e (place_layer l)

    pub value_same : (e : OrdinalExpression) → expression_inside r e ≡ true → value_at y f e ≡ value_at x f e
    value_same e = ind-OrdinalExpression IsValue IsSet IsIndex IsPlace values sets_are indices variables e

    pub set_same : (e : SetExpression) → set_inside r e ≡ true → set_at y f e ≡ set_at x f e
    set_same e = ind-SetExpression IsValue IsSet IsIndex IsPlace values sets_are indices variables e

    pub place_same : (p : Place) (cells : ℕ) → has cells (place_room r p) ≡ true → address_at y f p ≡ address_at x f p
    place_same p = ind-Place IsValue IsSet IsIndex IsPlace values sets_are indices variables p
