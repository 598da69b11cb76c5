-- A part of a variable stands as many cells further on as a field or an index says, on names and on slots.
use Rattle.std.proofs.Common.{◌≡◌, ◌∙◌, ℕ, ◌+◌, ◌-◌, ◌*◌, ◌^◌, ◌<◌, ◌≤◌, Bool, true, false, if◌then◌else◌, List, [], ◌∷◌, ◌++◌, Option, Some, None, ap, sym, refl, subst, arith}
use Rattle.cp_machine_laws.proofs.Words.{some_same, ℤ, pos, negsuc, ◌+ℤ◌, ◌-ℤ◌, neg_ℤ, int_le, int_lt, ◌&&◌, min, unsigned_abs, Result, Ok, Err, ints, lt-ltb, Tables, Address, Permanent}
use Rattle.cp_machine_laws.proofs.Words.{Local, Frame, HasCells, then_with, Name, same_name, Outcome, ◌>>=◌, out_of_range, number_of, Choice, the_field, the_element, Place}
use Rattle.cp_machine_laws.proofs.Words.{Typed, View, Target, with_choice, value_at, cells_of, Layouts, Here, further, PlaceAt, Memory, address_onward, onward, stretch, origin_address}
use Rattle.cp_machine_laws.proofs.Words.{element_offset, with_field, with_index, with_element_of, Chosen, further_chosen, field_chosen, one_chosen, then_chosen, chosen_at}
use Rattle.cp_machine_laws.proofs.Words.{plain_value, plain_address, plain_indexed, OrdinalAgrees, FormAgrees, TargetAgrees, DesignatedAgrees, Sees}
use Rattle.cp_slots.specs.Code as code
use Rattle.cp_store.specs.declared.error.ErrorName as slots
use Rattle.cp_store.specs.declared.error.ErrorName.TheVariants.{Range as Outside}
use Rattle.cp_meaning.specs.Types.{Range, Ty, ordinal, array_over, record_with, FieldTypes, no_field_types, more_field_types, natural_of, length_of_range, field_type, field_type_in, is_within}
use Rattle.cp_resolved.specs.Compiled as compiled
use Rattle.cp_resolved.specs.Compiled.{Form, as_ordinal, as_set, as_place, as_component, Formed, Designated, a_variable, some_components, a_component, then_form, part_of_form, with_field_form, with_element_form, with_index_form}
use Rattle.cp_machine_laws.proofs.expressions.Parts.{encode_length, one_part, some_chosen}
use Rattle.cp_machine_laws.proofs.expressions.Reading.{further_further}
use Rattle.cp_machine_laws.proofs.expressions.SetCells.{moved_on as moved_is}

-- ---- addresses that move

onward_onward : (n j k : ℕ) → onward (onward n j) k ≡ onward n (j + k)
onward_onward n j k = omega arith

moved_moved : (a : Address) (j k : ℕ) → address_onward (address_onward a j) k ≡ address_onward a (j + k)
moved_moved (Permanent n) j k = ap Permanent (onward_onward n j k)
moved_moved (Local n) j k = ap Local (onward_onward n j k)

moved_either : (a : Address) (j k : ℕ) → address_onward (address_onward a j) k ≡ address_onward (address_onward a k) j
moved_either a j k = moved_moved a j k ∙ (ap (address_onward a) (let e : j + k ≡ k + j = omega arith in e) ∙ sym (moved_moved a k j))

-- ---- indices

module _ (m : Memory) (f : Frame) where
  -- cells before or after the indices are the same
  indexed_further : (is : code.Indices) (a : Address) (k : ℕ) → plain_indexed m f is (address_onward a k) ≡ then_with (plain_indexed m f is a) (λ b. Ok (address_onward b k))
  indexed_further code.no_indices a k = refl
  indexed_further (code.more_indices (code.index c low high size) is) a k = by_value (λ b. indexed_further is b k) (plain_value m f c)
    where
      by_distance : ((b : Address) → plain_indexed m f is (address_onward b k) ≡ then_with (plain_indexed m f is b) (λ b. Ok (address_onward b k))) → (r : Result ℕ slots.ErrorName) →
          then_with (then_with r (λ far. Ok (address_onward (address_onward a k) far))) (λ inner. plain_indexed m f is inner) ≡ then_with (then_with (then_with r (λ far. Ok (address_onward a far))) (λ inner. plain_indexed m f is inner)) (λ b. Ok (address_onward b k))
      by_distance rest (Ok far) = ap (plain_indexed m f is) (moved_either a k far) ∙ rest (address_onward a far)
      by_distance rest (Err e) = refl

      by_value : ((b : Address) → plain_indexed m f is (address_onward b k) ≡ then_with (plain_indexed m f is b) (λ b. Ok (address_onward b k))) → (r : Result ℤ slots.ErrorName) →
          then_with (then_with r (λ v. then_with (element_offset low high size v) (λ far. Ok (address_onward (address_onward a k) far)))) (λ inner. plain_indexed m f is inner) ≡
          then_with (then_with (then_with r (λ v. then_with (element_offset low high size v) (λ far. Ok (address_onward a far)))) (λ inner. plain_indexed m f is inner)) (λ b. Ok (address_onward b k))
      by_value rest (Ok v) = by_distance rest (element_offset low high size v)
      by_value rest (Err e) = refl

  -- what the last index does
  abbrev last_index : code.OrdinalExpression → Range → ℕ → Address → Result Address slots.ErrorName
  last_index c r size b = then_with (plain_value m f c) (λ v. then_with (element_offset r.low r.high size v) (λ far. Ok (address_onward b far)))

  then_ok : (r : Result Address slots.ErrorName) → then_with r (λ inner. Ok inner) ≡ r
  then_ok (Ok a) = refl
  then_ok (Err e) = refl

  indexed_last : (is : code.Indices) (c : code.OrdinalExpression) (r : Range) (size : ℕ) (a : Address) → plain_indexed m f (compiled.with_index is c r size) a ≡ then_with (plain_indexed m f is a) (last_index c r size)
  indexed_last code.no_indices c r size a = then_ok (last_index c r size a)
  indexed_last (code.more_indices (code.index d low high n) is) c r size a = go (λ b. indexed_last is c r size b) (then_with (plain_value m f d) (λ v. then_with (element_offset low high n v) (λ far. Ok (address_onward a far))))
    where
      go : ((b : Address) → plain_indexed m f (compiled.with_index is c r size) b ≡ then_with (plain_indexed m f is b) (last_index c r size)) → (x : Result Address slots.ErrorName) → then_with x (λ inner. plain_indexed m f (compiled.with_index is c r size) inner) ≡ then_with (then_with x (λ inner. plain_indexed m f is inner)) (last_index c r size)
      go rest (Ok b) = rest b
      go rest (Err e) = refl

-- ---- choices with one more

pub chosen_more : (t : Ty) (cs : List Choice) (c : Choice) (o k : ℕ) (u w : Ty) → chosen_at t cs ≡ Some (o, u) → one_chosen u c ≡ Some (k, w) → chosen_at t (cs ++ c ∷ []) ≡ Some (o + k, w)
chosen_more t [] c o k u w e d =
    let same = some_chosen (0, t) (o, u) e in
    let here : one_chosen t c ≡ Some (k, w) = subst (λ (b : Chosen). one_chosen b.1 c ≡ Some (k, w)) (sym same) d in
    ap (λ x. then_chosen x (λ u. Some (0, u))) here ∙ ap (λ n. Some (n, w)) (let z : k + 0 ≡ o + k = (let b : 0 ≡ o = ap (λ (b : Chosen). b.0) same in omega (arith, b)) in z)
chosen_more t (x ∷ cs) c o k u w e d = go (one_chosen t x) e (λ b n i. chosen_more b.1 cs c n.0 k n.1 w i)
  where
    last : (b : Chosen) (r : Option Chosen) → further_chosen b.0 r ≡ Some (o, u) → ((n : Chosen) → r ≡ Some n → one_chosen n.1 c ≡ Some (k, w) → chosen_at b.1 (cs ++ c ∷ []) ≡ Some (n.0 + k, w)) → further_chosen b.0 (chosen_at b.1 (cs ++ c ∷ [])) ≡ Some (o + k, w)
    last b None i ih = absurd (cc)
    last b (Some n) i ih =
        let same = some_chosen (b.0 + n.0, n.1) (o, u) i in
        let there : one_chosen n.1 c ≡ Some (k, w) = subst (λ (y : Chosen). one_chosen y.1 c ≡ Some (k, w)) (sym same) d in
        ap (further_chosen b.0) (ih n refl there) ∙ ap (λ j. Some (j, w)) (let z : b.0 + (n.0 + k) ≡ o + k = (let y : b.0 + n.0 ≡ o = ap (λ (y : Chosen). y.0) same in omega (arith, y)) in z)

    go : (r : Option Chosen) → then_chosen r (λ u. chosen_at u cs) ≡ Some (o, u) → ((b n : Chosen) → chosen_at b.1 cs ≡ Some n → one_chosen n.1 c ≡ Some (k, w) → chosen_at b.1 (cs ++ c ∷ []) ≡ Some (n.0 + k, w)) → then_chosen r (λ u. chosen_at u (cs ++ c ∷ [])) ≡ Some (o + k, w)
    go None i ih = absurd (cc)
    go (Some b) i ih = last b (chosen_at b.1 cs) i (λ n j i. ih b n j i)

-- the type of a field
field_named : (ts : FieldTypes) (x : Name) (c : Chosen) → field_chosen ts x ≡ Some c → field_type_in ts x ≡ c.1
field_named no_field_types x c e = absurd (cc)
field_named (more_field_types y t ts) x c e = go (same_name x y) (λ b d. field_named ts x b d) e
  where
    next : (o : Option Chosen) → ((b : Chosen) → o ≡ Some b → field_type_in ts x ≡ b.1) → further_chosen (cells_of t) o ≡ Some c → field_type_in ts x ≡ c.1
    next None ih e = absurd (cc)
    next (Some b) ih e = ih b refl ∙ ap (λ (y : Chosen). y.1) (some_chosen (cells_of t + b.0, b.1) c e)

    go : (b : Bool) → ((b : Chosen) → field_chosen ts x ≡ Some b → field_type_in ts x ≡ b.1) → (if b then Some (0, t) else further_chosen (cells_of t) (field_chosen ts x)) ≡ Some c → (if b then t else field_type_in ts x) ≡ c.1
    go true ih e = ap (λ (y : Chosen). y.1) (some_chosen (0, t) c e)
    go false ih e = next (field_chosen ts x) ih e

-- ---- how many elements are before one

pub natural_is : (d : ℤ) → int_le (pos 0) d ≡ true → unsigned_abs d ≡ natural_of d
natural_is (pos n) h = grind (arith, ints)
natural_is (negsuc n) h = absurd (grind (arith, ints))

pub natural_less : (d e : ℤ) → int_le (pos 0) d ≡ true → int_lt d e ≡ true → natural_of d < natural_of e
natural_less (pos n) (pos k) h i = grind (arith, ints)
natural_less x y h i = absurd (grind (arith, ints))

pub above_low : (low high z : ℤ) → (int_le low z && int_le z high) ≡ true → int_le (pos 0) (z +ℤ neg_ℤ low) ≡ true
above_low low high z h = grind (arith, ints)

pub below_all : (low high z : ℤ) → (int_le low z && int_le z high) ≡ true → int_lt (z +ℤ neg_ℤ low) ((high +ℤ neg_ℤ low) +ℤ pos 1) ≡ true
below_all low high z h = grind (arith, ints)

-- ---- parts of places

module _ (r : Tables) (l : Layouts) (fs : List Frame) (v : View) (m : Memory) (f : Frame) (h : Here) (sees : Sees r l fs v m f h) where
  part_inside : (q : Place) (u w : Ty) (a : Address) (c : Choice) (k : ℕ) → PlaceAt r l fs q u a → one_chosen u c ≡ Some (k, w) → k + cells_of w ≤ cells_of u
  part_inside q u w a c k place e =
      let lies = sees.lies q u a place in
      let part = one_part u (value_at v q) c (k, w) lies.typed e in
      let n = encode_length u (value_at v q) lies.typed in
      let i = part.inside in
      omega (arith, i, n)

  place_further : (q : Place) (u w : Ty) (a : Address) (c : Choice) (k : ℕ) → PlaceAt r l fs q u a → one_chosen u c ≡ Some (k, w) → PlaceAt r l fs (with_choice q c) w (address_onward a k)
  place_further q u w a c k place e =
      let lies = sees.lies q u a place in
      let within = part_inside q u w a c k place e in
      let le : k ≤ cells_of u = omega (arith, within) in
      record {
        whole = place.whole;
        first = place.first;
        offset = place.offset + k;
        begins = place.begins;
        chosen = chosen_more place.whole q.choices c place.offset k u w place.chosen e;
        address = moved_is m a (cells_of u) k sees.few lies.cells le ∙ (ap (λ b. further b k) place.address ∙ further_further place.first place.offset k);
      }

  -- ---- a field

  field_target : (ts : FieldTypes) (x : Name) (c : Chosen) → field_chosen ts x ≡ Some c → (o : Outcome Target) (a : Result Address slots.ErrorName) → TargetAgrees r l fs o (record_with ts) a → TargetAgrees r l fs (o >>= λ t. Ok (with_field t x)) c.1 (then_with a (λ b. Ok (address_onward b c.0)))
  field_target ts x c e (Ok y) (Ok a) i = (ap (λ t. field_type t x) i.0 ∙ field_named ts x c e, place_further y.place (record_with ts) c.1 a (the_field x) c.0 i.1 e)
  field_target ts x c e (Err a) (Err b) i = i
  field_target ts x c e _ _ i = absurd i

  pub field_ok : (d e : Designated) (o : Outcome Target) (x : Name) → DesignatedAgrees r l fs m f o d → with_field_form d x ≡ Some e → DesignatedAgrees r l fs m f (o >>= λ t. Ok (with_field t x)) e
  field_ok (a_component c k) e o x i j = subst (DesignatedAgrees r l fs m f (o >>= λ t. Ok (with_field t x))) (some_same (a_component c k) e j) tt
  field_ok (a_variable p (record_with ts)) e o x i j = go p i (field_chosen ts x) refl j
    where
      go : (p : code.Place) → TargetAgrees r l fs o (record_with ts) (plain_address m f p) → (w : Option Chosen) → field_chosen ts x ≡ w → then_form w (λ c. Some (part_of_form p c)) ≡ Some e → DesignatedAgrees r l fs m f (o >>= λ t. Ok (with_field t x)) e
      go p i None k j = absurd (cc)
      go (code.place b offset is) i (Some c) k j =
          subst (DesignatedAgrees r l fs m f (o >>= λ t. Ok (with_field t x))) (some_same (a_variable (code.place b (offset + c.0) is) c.1) e j)
          (subst (TargetAgrees r l fs (o >>= λ t. Ok (with_field t x)) c.1) (sym (ap (plain_indexed m f is) (sym (moved_moved (origin_address m.references f b) offset c.0)) ∙ indexed_further m f is (address_onward (origin_address m.references f b) offset) c.0))
          (field_target ts x c k o (plain_indexed m f is (address_onward (origin_address m.references f b) offset)) i))
  field_ok y e o x i j = absurd (cc)

  -- ---- an element

  element_chosen : (q : Range) (u : Ty) (z : ℤ) → is_within q z ≡ true → one_chosen (array_over q u) (the_element (natural_of (z +ℤ neg_ℤ q.low))) ≡ Some (natural_of (z +ℤ neg_ℤ q.low) * cells_of u, u)
  element_chosen q u z e = ap (λ b. if b then Some (natural_of (z +ℤ neg_ℤ q.low) * cells_of u, u) else None) (lt-ltb (natural_of (z +ℤ neg_ℤ q.low)) (length_of_range q) (natural_less (z +ℤ neg_ℤ q.low) ((q.high +ℤ neg_ℤ q.low) +ℤ pos 1) (above_low q.low q.high z e) (below_all q.low q.high z e)))

  room_of : (a : Address) (n : ℕ) → HasCells m a n → n < 2 ^ 64
  room_of (Permanent j) n i = let p = sees.few.permanents in omega (arith, p, i)
  room_of (Local j) n i = let p = sees.few.cells in omega (arith, p, i)

  -- how far the element is
  element_far : (place : Place) (q : Range) (u : Ty) (a : Address) (z : ℤ) → is_within q z ≡ true → PlaceAt r l fs place (array_over q u) a → stretch (unsigned_abs (z -ℤ q.low)) (cells_of u) ≡ natural_of (z +ℤ neg_ℤ q.low) * cells_of u
  element_far place q u a z e i =
      let within = part_inside place (array_over q u) u a (the_element (natural_of (z +ℤ neg_ℤ q.low))) (natural_of (z +ℤ neg_ℤ q.low) * cells_of u) i (element_chosen q u z e) in
      let few = room_of a (cells_of (array_over q u)) (sees.lies place (array_over q u) a i).cells in
      ap (λ n. stretch n (cells_of u)) (natural_is (z +ℤ neg_ℤ q.low) (above_low q.low q.high z e)) ∙ exact (natural_of (z +ℤ neg_ℤ q.low) * cells_of u) (cells_of u) (cells_of (array_over q u)) within few
    where
      exact : (n size all : ℕ) → n + size ≤ all → all < 2 ^ 64 → min n (2 ^ 64 - 1) ≡ n
      exact n size all within few = omega (arith, within, few)

  element_target : (q : Range) (u : Ty) (y : Target) (a : Address) (z : ℤ) → y.ty ≡ array_over q u → PlaceAt r l fs y.place (array_over q u) a → (b : Bool) → is_within q z ≡ b →
      TargetAgrees r l fs (if b then Ok (record { place = with_choice y.place (the_element (natural_of (z +ℤ neg_ℤ q.low))); ty = u }) else Err out_of_range) u
      (then_with (then_with (if b then Ok z else Err Outside) (λ i. Ok (stretch (unsigned_abs (i -ℤ q.low)) (cells_of u)))) (λ far. Ok (address_onward a far)))
  element_target q u y a z e i true w = (
    refl,
    subst (λ n. PlaceAt r l fs (with_choice y.place (the_element (natural_of (z +ℤ neg_ℤ q.low)))) u (address_onward a n)) (sym (element_far y.place q u a z w i))
        (place_further y.place (array_over q u) u a (the_element (natural_of (z +ℤ neg_ℤ q.low))) (natural_of (z +ℤ neg_ℤ q.low) * cells_of u) i (element_chosen q u z w)),
  )
  element_target q u y a z e i false w = refl

  indexed_target : (q : Range) (u t : Ty) (c : code.OrdinalExpression) (o : Outcome Target) (a : Result Address slots.ErrorName) (i : Outcome Typed) (x : Result ℤ slots.ErrorName) → TargetAgrees r l fs o (array_over q u) a → OrdinalAgrees i t x →
      TargetAgrees r l fs (o >>= λ t. i >>= λ a. with_index t a) u (then_with a (λ b. then_with x (λ v. then_with (element_offset q.low q.high (cells_of u) v) (λ far. Ok (address_onward b far)))))
  indexed_target q u t c (Err e) (Err d) i x j k = j
  indexed_target q u t c (Ok y) (Ok a) (Err e) (Err d) j k = k
  indexed_target q u t c (Ok y) (Ok a) (Ok w) (Err d) j k = absurd k
  indexed_target q u t c (Ok y) (Ok a) (Err e) (Ok z) j k = absurd k
  indexed_target q u t c (Ok y) (Ok a) (Ok w) (Ok z) j k =
      subst (λ (n : ℤ). TargetAgrees r l fs (with_element_of y.ty y n) u (then_with (element_offset q.low q.high (cells_of u) z) (λ far. Ok (address_onward a far)))) (sym (ap number_of k.1))
      (subst (λ (s : Ty). TargetAgrees r l fs (with_element_of s y z) u (then_with (element_offset q.low q.high (cells_of u) z) (λ far. Ok (address_onward a far)))) (sym j.0)
      (element_target q u y a z j.0 j.1 (is_within q z) refl))
  indexed_target q u t c _ _ i x j k = absurd j

  element_ok : (d e : Designated) (o : Outcome Target) (t : Ty) (c : code.OrdinalExpression) (i : Outcome Typed) → DesignatedAgrees r l fs m f o d → OrdinalAgrees i t (plain_value m f c) → with_element_form h d c ≡ Some e → DesignatedAgrees r l fs m f (o >>= λ t. i >>= λ a. with_index t a) e
  element_ok (some_components first q k) e o t c i j n w = subst (DesignatedAgrees r l fs m f (o >>= λ t. i >>= λ a. with_index t a)) (some_same (a_component (code.element first q.low q.high (h.layouts.systems k).count c) k) e w) tt
  element_ok (a_variable (code.place b offset is) (array_over q u)) e o t c i j n w =
      subst (DesignatedAgrees r l fs m f (o >>= λ t. i >>= λ a. with_index t a)) (some_same (a_variable (code.place b offset (compiled.with_index is c q (cells_of u))) u) e w)
      (subst (TargetAgrees r l fs (o >>= λ t. i >>= λ a. with_index t a) u) (sym (indexed_last m f is c q (cells_of u) (address_onward (origin_address m.references f b) offset)))
      (indexed_target q u t c o (plain_indexed m f is (address_onward (origin_address m.references f b) offset)) i (plain_value m f c) j n))
  element_ok (a_variable p (ordinal q)) e o t c i j n w = absurd (cc)
  element_ok x e o t c i j n w = absurd (cc)

  pub index_ok : (d e : Designated) (o : Outcome Target) (x : Formed) (i : Outcome Typed) → DesignatedAgrees r l fs m f o d → FormAgrees m f i x.ty x.form → with_index_form h d x ≡ Some e → DesignatedAgrees r l fs m f (o >>= λ t. i >>= λ a. with_index t a) e
  index_ok d e o x i j n w = go x.form n w
    where
      go : (g : Form) → FormAgrees m f i x.ty g → then_form (compiled.ordinal_form g) (with_element_form h d) ≡ Some e → DesignatedAgrees r l fs m f (o >>= λ t. i >>= λ a. with_index t a) e
      go (as_ordinal c) n w = element_ok d e o x.ty c i j n w
      go (as_set b) n w = absurd (cc)
      go (as_place p) n w = absurd (cc)
      go (as_component c) n w = absurd (cc)
