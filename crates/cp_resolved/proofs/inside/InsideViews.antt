-- What is inside of the code's expressions, sets and places is what is inside of their views.
use Rattle.std.proofs.Common.{◌≡◌, ◌∙◌, ℕ, Bool, ◌&&◌, if◌then◌else◌, List, [], ◌∷◌, map, Option, Some, None, ◌*◌, ◌-ℤ◌, unsigned_abs, ap, sym, refl, subst}
use Rattle.cp_slots.specs.declared.place.OrdinalExpression.{OrdinalExpression}
use Rattle.cp_slots.specs.declared.place.SetExpression.{SetExpression}
use Rattle.cp_slots.specs.declared.place.Index.{Index}
use Rattle.cp_slots.specs.declared.place.Place.{Place}
use Rattle.cp_slots.specs.declared.place.OrdinalExpression.TheOpen.{OrdinalExpression-F, SetExpression-F, Index-F, Place-F}
use Rattle.cp_slots.specs.declared.place.OrdinalExpression.TheFolds.{fold-roll-OrdinalExpression, fold-roll-SetExpression, fold-roll-Index, fold-roll-Place, ind-OrdinalExpression, ind-SetExpression, ind-Place, map-OrdinalExpression, map-SetExpression, map-Index, map-Place}
use Rattle.cp_slots.specs.declared.place.OrdinalExpression.TheViews.{roll-OrdinalExpression, roll-SetExpression, roll-Index, roll-Place}
use Rattle.cp_slots.specs.Code as code
use Rattle.cp_slots.specs.Inside as inside
use Rattle.cp_slots.specs.Inside.{ToInside, ToRoom, ToRoomBehind, SET_CELLS, behind, has, then_some, room_from, room_through, expression_inside, set_inside, place_room, index_room}
use Rattle.cp_slots.specs.Tables.{RoutineView}
use Rattle.cp_resolved.proofs.inside.PlainInside.{expression_in, set_in, place_in, indices_in, index_in}

abbrev IsValue : OrdinalExpression → Type 0
IsValue e = (r : RoutineView) → expression_inside r e ≡ expression_in r (code.expression_seen e)

abbrev IsSet : SetExpression → Type 0
IsSet e = (r : RoutineView) → set_inside r e ≡ set_in r (code.set_seen e)

abbrev IsIndex : Index → Type 0
IsIndex i = (r : RoutineView) (left : ℕ) → index_room i r left ≡ index_in r (code.index_seen i) left

abbrev IsPlace : Place → Type 0
IsPlace p = (r : RoutineView) → place_room r p ≡ place_in r (code.place_seen p)

-- ---- one layer, whose parts are what their views are

abbrev Values : Type 0
Values = (e : OrdinalExpression) × IsValue e

abbrev Sets : Type 0
Sets = (e : SetExpression) × IsSet e

abbrev Elements : Type 0
Elements = (i : Index) × IsIndex i

abbrev Variables : Type 0
Variables = (p : Place) × IsPlace p

abbrev bare_expression : OrdinalExpression-F Values Sets Elements Variables → OrdinalExpression-F OrdinalExpression SetExpression Index Place
bare_expression = map-OrdinalExpression Values Sets Elements Variables OrdinalExpression SetExpression Index Place (λ e. e.0) (λ e. e.0) (λ e. e.0) (λ e. e.0)

abbrev bare_set : SetExpression-F Values Sets Elements Variables → SetExpression-F OrdinalExpression SetExpression Index Place
bare_set = map-SetExpression Values Sets Elements Variables OrdinalExpression SetExpression Index Place (λ e. e.0) (λ e. e.0) (λ e. e.0) (λ e. e.0)

abbrev bare_index : Index-F Values Sets Elements Variables → Index-F OrdinalExpression SetExpression Index Place
bare_index = map-Index Values Sets Elements Variables OrdinalExpression SetExpression Index Place (λ e. e.0) (λ e. e.0) (λ e. e.0) (λ e. e.0)

abbrev bare_place : Place-F Values Sets Elements Variables → Place-F OrdinalExpression SetExpression Index Place
bare_place = map-Place Values Sets Elements Variables OrdinalExpression SetExpression Index Place (λ e. e.0) (λ e. e.0) (λ e. e.0) (λ e. e.0)

-- what parts stand for, and their views

abbrev to_inside : OrdinalExpression → ToInside
to_inside e = λ r. expression_inside r e

abbrev to_set : SetExpression → ToInside
to_set e = λ r. set_inside r e

abbrev to_room : Place → ToRoom
to_room p = λ r. place_room r p

abbrev given_expression : OrdinalExpression-F OrdinalExpression SetExpression Index Place → OrdinalExpression-F ToInside ToInside ToRoomBehind ToRoom
given_expression = map-OrdinalExpression OrdinalExpression SetExpression Index Place ToInside ToInside ToRoomBehind ToRoom to_inside to_set index_room to_room

abbrev given_set : SetExpression-F OrdinalExpression SetExpression Index Place → SetExpression-F ToInside ToInside ToRoomBehind ToRoom
given_set = map-SetExpression OrdinalExpression SetExpression Index Place ToInside ToInside ToRoomBehind ToRoom to_inside to_set index_room to_room

abbrev given_index : Index-F OrdinalExpression SetExpression Index Place → Index-F ToInside ToInside ToRoomBehind ToRoom
given_index = map-Index OrdinalExpression SetExpression Index Place ToInside ToInside ToRoomBehind ToRoom to_inside to_set index_room to_room

abbrev given_place : Place-F OrdinalExpression SetExpression Index Place → Place-F ToInside ToInside ToRoomBehind ToRoom
given_place = map-Place OrdinalExpression SetExpression Index Place ToInside ToInside ToRoomBehind ToRoom to_inside to_set index_room to_room

abbrev seen_expression : OrdinalExpression-F OrdinalExpression SetExpression Index Place → OrdinalExpression-F code.OrdinalExpression code.SetExpression code.Index code.Place
seen_expression = map-OrdinalExpression OrdinalExpression SetExpression Index Place code.OrdinalExpression code.SetExpression code.Index code.Place code.expression_seen code.set_seen code.index_seen code.place_seen

abbrev seen_set : SetExpression-F OrdinalExpression SetExpression Index Place → SetExpression-F code.OrdinalExpression code.SetExpression code.Index code.Place
seen_set = map-SetExpression OrdinalExpression SetExpression Index Place code.OrdinalExpression code.SetExpression code.Index code.Place code.expression_seen code.set_seen code.index_seen code.place_seen

abbrev seen_index : Index-F OrdinalExpression SetExpression Index Place → Index-F code.OrdinalExpression code.SetExpression code.Index code.Place
seen_index = map-Index OrdinalExpression SetExpression Index Place code.OrdinalExpression code.SetExpression code.Index code.Place code.expression_seen code.set_seen code.index_seen code.place_seen

abbrev seen_place : Place-F OrdinalExpression SetExpression Index Place → Place-F code.OrdinalExpression code.SetExpression code.Index code.Place
seen_place = map-Place OrdinalExpression SetExpression Index Place code.OrdinalExpression code.SetExpression code.Index code.Place code.expression_seen code.set_seen code.index_seen code.place_seen

value_by : (x : OrdinalExpression-F OrdinalExpression SetExpression Index Place) (r : RoutineView) → inside.expression_step (given_expression x) r ≡ expression_in r (code.expression_step (seen_expression x)) → expression_inside r (roll-OrdinalExpression x) ≡ expression_in r (code.expression_seen (roll-OrdinalExpression x))
value_by x r e =
    ap (λ go. go r) (fold-roll-OrdinalExpression ToInside ToInside ToRoomBehind ToRoom inside.expression_step inside.set_step inside.index_step inside.place_step x) ∙
    (e ∙ sym (ap (expression_in r) (fold-roll-OrdinalExpression code.OrdinalExpression code.SetExpression code.Index code.Place code.expression_step code.set_step code.index_step code.place_step x)))

set_by : (x : SetExpression-F OrdinalExpression SetExpression Index Place) (r : RoutineView) → inside.set_step (given_set x) r ≡ set_in r (code.set_step (seen_set x)) → set_inside r (roll-SetExpression x) ≡ set_in r (code.set_seen (roll-SetExpression x))
set_by x r e =
    ap (λ go. go r) (fold-roll-SetExpression ToInside ToInside ToRoomBehind ToRoom inside.expression_step inside.set_step inside.index_step inside.place_step x) ∙
    (e ∙ sym (ap (set_in r) (fold-roll-SetExpression code.OrdinalExpression code.SetExpression code.Index code.Place code.expression_step code.set_step code.index_step code.place_step x)))

room_by : (x : Place-F OrdinalExpression SetExpression Index Place) (r : RoutineView) → inside.place_step (given_place x) r ≡ place_in r (code.place_step (seen_place x)) → place_room r (roll-Place x) ≡ place_in r (code.place_seen (roll-Place x))
room_by x r e =
    ap (λ go. go r) (fold-roll-Place ToInside ToInside ToRoomBehind ToRoom inside.expression_step inside.set_step inside.index_step inside.place_step x) ∙
    (e ∙ sym (ap (place_in r) (fold-roll-Place code.OrdinalExpression code.SetExpression code.Index code.Place code.expression_step code.set_step code.index_step code.place_step x)))

index_by : (x : Index-F OrdinalExpression SetExpression Index Place) (r : RoutineView) (left : ℕ) → inside.index_step (given_index x) r left ≡ index_in r (code.index_step (seen_index x)) left → index_room (roll-Index x) r left ≡ index_in r (code.index_seen (roll-Index x)) left
index_by x r left e =
    ap (λ go. go r left) (fold-roll-Index ToInside ToInside ToRoomBehind ToRoom inside.expression_step inside.set_step inside.index_step inside.place_step x) ∙
    (e ∙ sym (ap (λ i. index_in r i left) (fold-roll-Index code.OrdinalExpression code.SetExpression code.Index code.Place code.expression_step code.set_step code.index_step code.place_step x)))

-- ---- operands that are what their views are

pub both_same : (a b c d : Bool) → a ≡ b → c ≡ d → (a && c) ≡ (b && d)
both_same a b c d e k = ap (λ x. x && c) e ∙ ap (λ x. b && x) k

value_layer : (y : OrdinalExpression-F Values Sets Elements Variables) → IsValue (roll-OrdinalExpression (bare_expression y))
value_layer (OrdinalExpression-F.Number z) r = value_by (OrdinalExpression-F.Number z) r refl
value_layer (OrdinalExpression-F.«OrdinalExpression::Load» p) r = value_by (bare_expression (OrdinalExpression-F.«OrdinalExpression::Load» p)) r (ap (has 1) (p.1 r))
value_layer (OrdinalExpression-F.Negate e) r = value_by (bare_expression (OrdinalExpression-F.Negate e)) r (e.value.1 r)
value_layer (OrdinalExpression-F.Absolute e) r = value_by (bare_expression (OrdinalExpression-F.Absolute e)) r (e.value.1 r)
value_layer (OrdinalExpression-F.Not e) r = value_by (bare_expression (OrdinalExpression-F.Not e)) r (e.value.1 r)
value_layer (OrdinalExpression-F.Successor e last) r = value_by (bare_expression (OrdinalExpression-F.Successor e last)) r (e.value.1 r)
value_layer (OrdinalExpression-F.Predecessor e first) r = value_by (bare_expression (OrdinalExpression-F.Predecessor e first)) r (e.value.1 r)
value_layer (OrdinalExpression-F.Character e) r = value_by (bare_expression (OrdinalExpression-F.Character e)) r (e.value.1 r)
value_layer (OrdinalExpression-F.Arithmetic o a b) r = value_by (bare_expression (OrdinalExpression-F.Arithmetic o a b)) r (both_same _ _ _ _ (a.value.1 r) (b.value.1 r))
value_layer (OrdinalExpression-F.Logic o a b) r = value_by (bare_expression (OrdinalExpression-F.Logic o a b)) r (both_same _ _ _ _ (a.value.1 r) (b.value.1 r))
value_layer (OrdinalExpression-F.Compare o a b) r = value_by (bare_expression (OrdinalExpression-F.Compare o a b)) r (both_same _ _ _ _ (a.value.1 r) (b.value.1 r))
value_layer (OrdinalExpression-F.SameSet wanted a b) r = value_by (bare_expression (OrdinalExpression-F.SameSet wanted a b)) r (both_same _ _ _ _ (a.value.1 r) (b.value.1 r))
value_layer (OrdinalExpression-F.Member e a) r = value_by (bare_expression (OrdinalExpression-F.Member e a)) r (both_same _ _ _ _ (e.value.1 r) (a.value.1 r))
value_layer (OrdinalExpression-F.IsEmpty p) r = value_by (bare_expression (OrdinalExpression-F.IsEmpty p)) r (ap (has 1) (p.1 r))

set_layer : (y : SetExpression-F Values Sets Elements Variables) → IsSet (roll-SetExpression (bare_set y))
set_layer (SetExpression-F.«SetExpression::Load» p) r = set_by (bare_set (SetExpression-F.«SetExpression::Load» p)) r (ap (has SET_CELLS) (p.1 r))
set_layer SetExpression-F.Empty r = set_by SetExpression-F.Empty r refl
set_layer (SetExpression-F.With a e) r = set_by (bare_set (SetExpression-F.With a e)) r (both_same _ _ _ _ (a.value.1 r) (e.value.1 r))
set_layer (SetExpression-F.Combine o a b) r = set_by (bare_set (SetExpression-F.Combine o a b)) r (both_same _ _ _ _ (a.value.1 r) (b.value.1 r))

index_layer : (y : Index-F Values Sets Elements Variables) → IsIndex (roll-Index (bare_index y))
index_layer y r left = index_by (bare_index y) r left (ap (λ b. if b then behind (unsigned_abs (y.high -ℤ y.low) * y.size) left else None) (y.at.1 r))

-- one index after the other
through_layer : (is : List Elements) (r : RoutineView) (left : ℕ) → room_through (map index_room (map (λ i. i.0) is)) r left ≡ indices_in r (code.indices_of (map code.index_seen (map (λ i. i.0) is))) left
through_layer [] r left = refl
through_layer (i ∷ is) r left = go (λ inner. through_layer is r inner) (index_room i.0 r left) ∙ ap (λ o. then_some o (λ inner. indices_in r (code.indices_of (map code.index_seen (map (λ i. i.0) is))) inner)) (i.1 r left)
  where
    go : ((inner : ℕ) → room_through (map index_room (map (λ i. i.0) is)) r inner ≡ indices_in r (code.indices_of (map code.index_seen (map (λ i. i.0) is))) inner) → (o : Option ℕ) → then_some o (λ inner. room_through (map index_room (map (λ i. i.0) is)) r inner) ≡ then_some o (λ inner. indices_in r (code.indices_of (map code.index_seen (map (λ i. i.0) is))) inner)
    go rest (Some inner) = rest inner
    go rest None = refl

place_layer : (y : Place-F Values Sets Elements Variables) → IsPlace (roll-Place (bare_place y))
place_layer y r = room_by (bare_place y) r (outer (room_from r y.origin))
  where
    inner : (o : Option ℕ) → then_some o (λ left. room_through (map index_room (map (λ i. i.0) y.indices.items)) r left) ≡ then_some o (λ left. indices_in r (code.indices_of (map code.index_seen (map (λ i. i.0) y.indices.items))) left)
    inner (Some left) = through_layer y.indices.items r left
    inner None = refl

    outer : (o : Option ℕ) → then_some o (λ cells. then_some (behind y.offset cells) (λ left. room_through (map index_room (map (λ i. i.0) y.indices.items)) r left)) ≡ then_some o (λ cells. then_some (behind y.offset cells) (λ left. indices_in r (code.indices_of (map code.index_seen (map (λ i. i.0) y.indices.items))) left))
    outer (Some cells) = inner (behind y.offset cells)
    outer None = refl

-- ---- all layers

values : (x : OrdinalExpression-F OrdinalExpression SetExpression Index Place) (y : OrdinalExpression-F Values Sets Elements Variables) → bare_expression y ≡ x → IsValue (roll-OrdinalExpression x)
values x y e = subst (λ z. IsValue (roll-OrdinalExpression z)) e (value_layer y)

sets_are : (x : SetExpression-F OrdinalExpression SetExpression Index Place) (y : SetExpression-F Values Sets Elements Variables) → bare_set y ≡ x → IsSet (roll-SetExpression x)
sets_are x y e = subst (λ z. IsSet (roll-SetExpression z)) e (set_layer y)

indices : (x : Index-F OrdinalExpression SetExpression Index Place) (y : Index-F Values Sets Elements Variables) → bare_index y ≡ x → IsIndex (roll-Index x)
indices x y e = subst (λ z. IsIndex (roll-Index z)) e (index_layer y)

variables : (x : Place-F OrdinalExpression SetExpression Index Place) (y : Place-F Values Sets Elements Variables) → bare_place y ≡ x → IsPlace (roll-Place x)
variables x y e = subst (λ z. IsPlace (roll-Place z)) e (place_layer y)

pub expression_views : (r : RoutineView) (e : OrdinalExpression) → expression_inside r e ≡ expression_in r (code.expression_seen e)
expression_views r e = ind-OrdinalExpression IsValue IsSet IsIndex IsPlace values sets_are indices variables e r

pub set_views : (r : RoutineView) (e : SetExpression) → set_inside r e ≡ set_in r (code.set_seen e)
set_views r e = ind-SetExpression IsValue IsSet IsIndex IsPlace values sets_are indices variables e r

pub place_views : (r : RoutineView) (p : Place) → place_room r p ≡ place_in r (code.place_seen p)
place_views r p = ind-Place IsValue IsSet IsIndex IsPlace values sets_are indices variables p r
