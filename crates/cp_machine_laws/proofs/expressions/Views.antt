-- The code's expressions, sets and places are what their views are.
use Rattle.cp_machine_laws.proofs.Words.{◌≡◌, ◌∙◌, List, [], ◌∷◌, map, not, ap, sym, refl, subst, pos, Result, Ok, Err, Address, Frame, Memory, address_onward}
use Rattle.cp_slots.specs.declared.place.OrdinalExpression.{OrdinalExpression}
use Rattle.cp_slots.specs.declared.place.SetExpression.{SetExpression}
use Rattle.cp_slots.specs.declared.place.Index.{Index}
use Rattle.cp_slots.specs.declared.place.Place.{Place}
use Rattle.cp_slots.specs.declared.place.OrdinalExpression.TheOpen.{OrdinalExpression-F, SetExpression-F, Index-F, Place-F}
use Rattle.cp_slots.specs.declared.place.OrdinalExpression.TheFolds.{fold-roll-OrdinalExpression, fold-roll-SetExpression, fold-roll-Index, fold-roll-Place, ind-OrdinalExpression, ind-SetExpression, ind-Place, map-OrdinalExpression, map-SetExpression, map-Index, map-Place}
use Rattle.cp_slots.specs.declared.place.OrdinalExpression.TheViews.{roll-OrdinalExpression, roll-SetExpression, roll-Index, roll-Place}
use Rattle.cp_slots.specs.Code as code
use Rattle.cp_store.specs.declared.error.ErrorName.{ErrorName}
use Rattle.cp_store.specs.Places as places
use Rattle.cp_store.specs.Places.{ToValue, ToSet, ToElement, ToAddress, origin_address, load_value, value_at, set_at, address_at, element_at}
use Rattle.cp_store.specs.Sets as sets
use Rattle.cp_store.specs.Values.{then_with, check_range, truth, is_true, negate, absolute, successor, predecessor, calculate, apply_logic, compare}
use Rattle.cp_machine_laws.specs.PlainValues.{plain_value, plain_set, plain_address, plain_indexed, ViewsAgree}

abbrev IsValue : OrdinalExpression → Type 0
IsValue e = (m : Memory) (f : Frame) → value_at m f e ≡ plain_value m f (code.expression_seen e)

abbrev IsSet : SetExpression → Type 0
IsSet e = (m : Memory) (f : Frame) → set_at m f e ≡ plain_set m f (code.set_seen e)

-- an index before others
abbrev IsIndex : Index → Type 0
IsIndex i = (m : Memory) (f : Frame) (is : code.Indices) (at : Address) → then_with (element_at i m f at) (λ inner. plain_indexed m f is inner) ≡ plain_indexed m f (code.more_indices (code.index_seen i) is) at

abbrev IsPlace : Place → Type 0
IsPlace p = (m : Memory) (f : Frame) → address_at m f p ≡ plain_address m f (code.place_seen p)

-- ---- one layer, whose parts are what their views are

abbrev Values : Type 0
Values = (e : OrdinalExpression) × IsValue e

abbrev Sets : Type 0
Sets = (e : SetExpression) × IsSet e

abbrev Elements : Type 0
Elements = (i : Index) × IsIndex i

abbrev Variables : Type 0
Variables = (p : Place) × IsPlace p

abbrev bare_expression : OrdinalExpression-F Values Sets Elements Variables → OrdinalExpression-F OrdinalExpression SetExpression Index Place
bare_expression = map-OrdinalExpression Values Sets Elements Variables OrdinalExpression SetExpression Index Place (λ e. e.0) (λ e. e.0) (λ e. e.0) (λ e. e.0)

abbrev bare_set : SetExpression-F Values Sets Elements Variables → SetExpression-F OrdinalExpression SetExpression Index Place
bare_set = map-SetExpression Values Sets Elements Variables OrdinalExpression SetExpression Index Place (λ e. e.0) (λ e. e.0) (λ e. e.0) (λ e. e.0)

abbrev bare_index : Index-F Values Sets Elements Variables → Index-F OrdinalExpression SetExpression Index Place
bare_index = map-Index Values Sets Elements Variables OrdinalExpression SetExpression Index Place (λ e. e.0) (λ e. e.0) (λ e. e.0) (λ e. e.0)

abbrev bare_place : Place-F Values Sets Elements Variables → Place-F OrdinalExpression SetExpression Index Place
bare_place = map-Place Values Sets Elements Variables OrdinalExpression SetExpression Index Place (λ e. e.0) (λ e. e.0) (λ e. e.0) (λ e. e.0)

-- what parts stand for, and their views

abbrev to_value : OrdinalExpression → ToValue
to_value e = λ m f. value_at m f e

abbrev to_set : SetExpression → ToSet
to_set e = λ m f. set_at m f e

abbrev to_address : Place → ToAddress
to_address p = λ m f. address_at m f p

abbrev given_expression : OrdinalExpression-F OrdinalExpression SetExpression Index Place → OrdinalExpression-F ToValue ToSet ToElement ToAddress
given_expression = map-OrdinalExpression OrdinalExpression SetExpression Index Place ToValue ToSet ToElement ToAddress to_value to_set element_at to_address

abbrev given_set : SetExpression-F OrdinalExpression SetExpression Index Place → SetExpression-F ToValue ToSet ToElement ToAddress
given_set = map-SetExpression OrdinalExpression SetExpression Index Place ToValue ToSet ToElement ToAddress to_value to_set element_at to_address

abbrev given_index : Index-F OrdinalExpression SetExpression Index Place → Index-F ToValue ToSet ToElement ToAddress
given_index = map-Index OrdinalExpression SetExpression Index Place ToValue ToSet ToElement ToAddress to_value to_set element_at to_address

abbrev given_place : Place-F OrdinalExpression SetExpression Index Place → Place-F ToValue ToSet ToElement ToAddress
given_place = map-Place OrdinalExpression SetExpression Index Place ToValue ToSet ToElement ToAddress to_value to_set element_at to_address

abbrev seen_expression : OrdinalExpression-F OrdinalExpression SetExpression Index Place → OrdinalExpression-F code.OrdinalExpression code.SetExpression code.Index code.Place
seen_expression = map-OrdinalExpression OrdinalExpression SetExpression Index Place code.OrdinalExpression code.SetExpression code.Index code.Place code.expression_seen code.set_seen code.index_seen code.place_seen

abbrev seen_set : SetExpression-F OrdinalExpression SetExpression Index Place → SetExpression-F code.OrdinalExpression code.SetExpression code.Index code.Place
seen_set = map-SetExpression OrdinalExpression SetExpression Index Place code.OrdinalExpression code.SetExpression code.Index code.Place code.expression_seen code.set_seen code.index_seen code.place_seen

abbrev seen_index : Index-F OrdinalExpression SetExpression Index Place → Index-F code.OrdinalExpression code.SetExpression code.Index code.Place
seen_index = map-Index OrdinalExpression SetExpression Index Place code.OrdinalExpression code.SetExpression code.Index code.Place code.expression_seen code.set_seen code.index_seen code.place_seen

abbrev seen_place : Place-F OrdinalExpression SetExpression Index Place → Place-F code.OrdinalExpression code.SetExpression code.Index code.Place
seen_place = map-Place OrdinalExpression SetExpression Index Place code.OrdinalExpression code.SetExpression code.Index code.Place code.expression_seen code.set_seen code.index_seen code.place_seen

value_by : (x : OrdinalExpression-F OrdinalExpression SetExpression Index Place) (m : Memory) (f : Frame) → places.expression_step (given_expression x) m f ≡ plain_value m f (code.expression_step (seen_expression x)) → value_at m f (roll-OrdinalExpression x) ≡ plain_value m f (code.expression_seen (roll-OrdinalExpression x))
value_by x m f e =
    ap (λ go. go m f) (fold-roll-OrdinalExpression ToValue ToSet ToElement ToAddress places.expression_step places.set_step places.index_step places.place_step x) ∙
    (e ∙ sym (ap (plain_value m f) (fold-roll-OrdinalExpression code.OrdinalExpression code.SetExpression code.Index code.Place code.expression_step code.set_step code.index_step code.place_step x)))

set_by : (x : SetExpression-F OrdinalExpression SetExpression Index Place) (m : Memory) (f : Frame) → places.set_step (given_set x) m f ≡ plain_set m f (code.set_step (seen_set x)) → set_at m f (roll-SetExpression x) ≡ plain_set m f (code.set_seen (roll-SetExpression x))
set_by x m f e =
    ap (λ go. go m f) (fold-roll-SetExpression ToValue ToSet ToElement ToAddress places.expression_step places.set_step places.index_step places.place_step x) ∙
    (e ∙ sym (ap (plain_set m f) (fold-roll-SetExpression code.OrdinalExpression code.SetExpression code.Index code.Place code.expression_step code.set_step code.index_step code.place_step x)))

address_by : (x : Place-F OrdinalExpression SetExpression Index Place) (m : Memory) (f : Frame) → places.place_step (given_place x) m f ≡ plain_address m f (code.place_step (seen_place x)) → address_at m f (roll-Place x) ≡ plain_address m f (code.place_seen (roll-Place x))
address_by x m f e =
    ap (λ go. go m f) (fold-roll-Place ToValue ToSet ToElement ToAddress places.expression_step places.set_step places.index_step places.place_step x) ∙
    (e ∙ sym (ap (plain_address m f) (fold-roll-Place code.OrdinalExpression code.SetExpression code.Index code.Place code.expression_step code.set_step code.index_step code.place_step x)))

element_by : (x : Index-F OrdinalExpression SetExpression Index Place) (m : Memory) (f : Frame) (is : code.Indices) (at : Address) → then_with (places.index_step (given_index x) m f at) (λ inner. plain_indexed m f is inner) ≡ plain_indexed m f (code.more_indices (code.index_step (seen_index x)) is) at →
    then_with (element_at (roll-Index x) m f at) (λ inner. plain_indexed m f is inner) ≡ plain_indexed m f (code.more_indices (code.index_seen (roll-Index x)) is) at
element_by x m f is at e =
    ap (λ go. then_with (go m f at) (λ inner. plain_indexed m f is inner)) (fold-roll-Index ToValue ToSet ToElement ToAddress places.expression_step places.set_step places.index_step places.place_step x) ∙
    (e ∙ sym (ap (λ i. plain_indexed m f (code.more_indices i is) at) (fold-roll-Index code.OrdinalExpression code.SetExpression code.Index code.Place code.expression_step code.set_step code.index_step code.place_step x)))

-- ---- operands that are what their views are

both_same : {A B C : Type 0} (go : A → B → Result C ErrorName) (a b : Result A ErrorName) (c d : Result B ErrorName) → a ≡ b → c ≡ d → then_with a (λ x. then_with c (λ y. go x y)) ≡ then_with b (λ x. then_with d (λ y. go x y))
both_same go a b c d e k = ap (λ r. then_with r (λ x. then_with c (λ y. go x y))) e ∙ ap (λ r. then_with b (λ x. then_with r (λ y. go x y))) k

value_layer : (y : OrdinalExpression-F Values Sets Elements Variables) → IsValue (roll-OrdinalExpression (bare_expression y))
value_layer (OrdinalExpression-F.Number z) m f = value_by (OrdinalExpression-F.Number z) m f refl
value_layer (OrdinalExpression-F.«OrdinalExpression::Load» p) m f = value_by (bare_expression (OrdinalExpression-F.«OrdinalExpression::Load» p)) m f (ap (load_value m) (p.1 m f))
value_layer (OrdinalExpression-F.Negate e) m f = value_by (bare_expression (OrdinalExpression-F.Negate e)) m f (ap (λ r. then_with r negate) (e.value.1 m f))
value_layer (OrdinalExpression-F.Absolute e) m f = value_by (bare_expression (OrdinalExpression-F.Absolute e)) m f (ap (λ r. then_with r absolute) (e.value.1 m f))
value_layer (OrdinalExpression-F.Not e) m f = value_by (bare_expression (OrdinalExpression-F.Not e)) m f (ap (λ r. then_with r (λ x. Ok (truth (not (is_true x))))) (e.value.1 m f))
value_layer (OrdinalExpression-F.Successor e last) m f = value_by (bare_expression (OrdinalExpression-F.Successor e last)) m f (ap (λ r. then_with r (successor last)) (e.value.1 m f))
value_layer (OrdinalExpression-F.Predecessor e first) m f = value_by (bare_expression (OrdinalExpression-F.Predecessor e first)) m f (ap (λ r. then_with r (predecessor first)) (e.value.1 m f))
value_layer (OrdinalExpression-F.Character e) m f = value_by (bare_expression (OrdinalExpression-F.Character e)) m f (ap (λ r. then_with r (check_range (pos 0) (pos 127))) (e.value.1 m f))
value_layer (OrdinalExpression-F.Arithmetic o a b) m f = value_by (bare_expression (OrdinalExpression-F.Arithmetic o a b)) m f (both_same (calculate o) _ _ _ _ (a.value.1 m f) (b.value.1 m f))
value_layer (OrdinalExpression-F.Logic o a b) m f = value_by (bare_expression (OrdinalExpression-F.Logic o a b)) m f (both_same (λ x y. Ok (apply_logic o x y)) _ _ _ _ (a.value.1 m f) (b.value.1 m f))
value_layer (OrdinalExpression-F.Compare o a b) m f = value_by (bare_expression (OrdinalExpression-F.Compare o a b)) m f (both_same (λ x y. Ok (compare o x y)) _ _ _ _ (a.value.1 m f) (b.value.1 m f))
value_layer (OrdinalExpression-F.SameSet wanted a b) m f = value_by (bare_expression (OrdinalExpression-F.SameSet wanted a b)) m f (both_same (λ s t. Ok (sets.compare_sets wanted s t)) _ _ _ _ (a.value.1 m f) (b.value.1 m f))
value_layer (OrdinalExpression-F.Member e a) m f = value_by (bare_expression (OrdinalExpression-F.Member e a)) m f (both_same (λ x s. Ok (truth (sets.is_member s x))) _ _ _ _ (e.value.1 m f) (a.value.1 m f))
value_layer (OrdinalExpression-F.IsEmpty p) m f = value_by (bare_expression (OrdinalExpression-F.IsEmpty p)) m f (ap (λ r. then_with (load_value m r) (λ x. Ok (truth (not (is_true x))))) (p.1 m f))

set_layer : (y : SetExpression-F Values Sets Elements Variables) → IsSet (roll-SetExpression (bare_set y))
set_layer (SetExpression-F.«SetExpression::Load» p) m f = set_by (bare_set (SetExpression-F.«SetExpression::Load» p)) m f (ap (λ r. then_with r (λ at. Ok (sets.load_set m at))) (p.1 m f))
set_layer SetExpression-F.Empty m f = set_by SetExpression-F.Empty m f refl
set_layer (SetExpression-F.With a e) m f = set_by (bare_set (SetExpression-F.With a e)) m f (both_same (λ s x. sets.with_element s x) _ _ _ _ (a.value.1 m f) (e.value.1 m f))
set_layer (SetExpression-F.Combine o a b) m f = set_by (bare_set (SetExpression-F.Combine o a b)) m f (both_same (λ s t. Ok (sets.combine_sets o s t)) _ _ _ _ (a.value.1 m f) (b.value.1 m f))

index_layer : (y : Index-F Values Sets Elements Variables) → IsIndex (roll-Index (bare_index y))
index_layer y m f is at = element_by (bare_index y) m f is at (ap (λ r. then_with (then_with r (λ v. then_with (places.element_offset y.low y.high y.size v) (λ far. Ok (address_onward at far)))) (λ inner. plain_indexed m f is inner)) (y.at.1 m f))

-- one index after the other
indexed_layer : (is : List Elements) (m : Memory) (f : Frame) (at : Address) → places.through (map element_at (map (λ i. i.0) is)) m f at ≡ plain_indexed m f (code.indices_of (map code.index_seen (map (λ i. i.0) is))) at
indexed_layer [] m f at = refl
indexed_layer (i ∷ is) m f at = go (λ inner. indexed_layer is m f inner) (element_at i.0 m f at) ∙ i.1 m f (code.indices_of (map code.index_seen (map (λ i. i.0) is))) at
  where
    go : ((inner : Address) → places.through (map element_at (map (λ i. i.0) is)) m f inner ≡ plain_indexed m f (code.indices_of (map code.index_seen (map (λ i. i.0) is))) inner) → (r : Result Address ErrorName) → then_with r (λ inner. places.through (map element_at (map (λ i. i.0) is)) m f inner) ≡ then_with r (λ inner. plain_indexed m f (code.indices_of (map code.index_seen (map (λ i. i.0) is))) inner)
    go rest (Ok inner) = rest inner
    go rest (Err e) = refl

place_layer : (y : Place-F Values Sets Elements Variables) → IsPlace (roll-Place (bare_place y))
place_layer y m f = address_by (bare_place y) m f (indexed_layer y.indices.items m f (address_onward (origin_address m.references f y.origin) y.offset))

-- ---- all layers

pub views_agree : ViewsAgree
views_agree =
    record {
      value = λ m f e. ind-OrdinalExpression IsValue IsSet IsIndex IsPlace values sets_are indices variables e m f;
      set = λ m f e. ind-SetExpression IsValue IsSet IsIndex IsPlace values sets_are indices variables e m f;
      place = λ m f p. ind-Place IsValue IsSet IsIndex IsPlace values sets_are indices variables p m f;
    }
  where
    values : (x : OrdinalExpression-F OrdinalExpression SetExpression Index Place) (y : OrdinalExpression-F Values Sets Elements Variables) → bare_expression y ≡ x → IsValue (roll-OrdinalExpression x)
    values x y e = subst (λ z. IsValue (roll-OrdinalExpression z)) e (value_layer y)

    sets_are : (x : SetExpression-F OrdinalExpression SetExpression Index Place) (y : SetExpression-F Values Sets Elements Variables) → bare_set y ≡ x → IsSet (roll-SetExpression x)
    sets_are x y e = subst (λ z. IsSet (roll-SetExpression z)) e (set_layer y)

    indices : (x : Index-F OrdinalExpression SetExpression Index Place) (y : Index-F Values Sets Elements Variables) → bare_index y ≡ x → IsIndex (roll-Index x)
    indices x y e = subst (λ z. IsIndex (roll-Index z)) e (index_layer y)

    variables : (x : Place-F OrdinalExpression SetExpression Index Place) (y : Place-F Values Sets Elements Variables) → bare_place y ≡ x → IsPlace (roll-Place x)
    variables x y e = subst (λ z. IsPlace (roll-Place z)) e (place_layer y)
