-- A part of a value lies where its choices lead to.
use Rattle.std.proofs.Common.{◌≡◌, ◌∙◌, ℕ, zero, suc, ◌+◌, ◌*◌, ◌<◌, ◌≤◌, Bool, true, false, if◌then◌else◌, List, [], ◌∷◌, ◌++◌, Option, Some, None, ap, refl, subst, arith, length, length-append, get_or}
use Rattle.cp_machine_laws.proofs.Words.{ℤ, pos, nat_lt, ltb-true, get_or-append-add, get_or_append_left, suc-mul, Name, same_name}
use Rattle.cp_meaning.specs.Types.{Ty, ordinal, queue_type, set_over, array_over, record_with, component_of, FieldTypes, no_field_types, more_field_types, length_of_range}
use Rattle.cp_meaning.specs.Values.{Value, number_value, array_value, record_value, set_value, queue_value, Values, no_values, more_values, FieldValues, no_field_values, more_field_values, Choice, the_field, the_element, element_at, field_at, part_of, part_at}
use Rattle.cp_resolved.specs.Layouts.{cells_of, cells_in}
use Rattle.cp_resolved.specs.Encoded.{encode, encode_all, encode_fields, HasType, AllHave, HaveTypes, Chosen, further_chosen, field_chosen, one_chosen, then_chosen, chosen_at}

-- ---- a value has the cells of its type

all_length : (c : ℕ) (Has : Value → Type 0) → ((v : Value) → Has v → length (encode v) ≡ c) → (n : ℕ) (vs : Values) → AllHave Has n vs → length (encode_all vs) ≡ n * c
all_length c Has e zero no_values h = omega arith
all_length c Has e (suc n) (more_values v vs) h =
    let a = e v h.0 in
    let b = all_length c Has e n vs h.1 in
    let d = length-append (encode v) (encode_all vs) in
    let k = suc-mul n c in
    omega (arith, a, b, d, k)
all_length c Has e _ _ h = absurd h

mutual
  pub encode_length : (t : Ty) (w : Value) → HasType t w → length (encode w) ≡ cells_of t
  encode_length (ordinal r) (number_value z) h = refl
  encode_length queue_type (queue_value o) h = refl
  encode_length (set_over r) (set_value ns) h = refl
  encode_length (array_over r t) (array_value vs) h = all_length (cells_of t) (HasType t) (λ v k. encode_length t v k) (length_of_range r) vs h
  encode_length (record_with ts) (record_value fs) h = fields_length ts fs h
  encode_length _ _ h = absurd h

  fields_length : (ts : FieldTypes) (fs : FieldValues) → HaveTypes ts fs → length (encode_fields fs) ≡ cells_in ts
  fields_length no_field_types no_field_values h = refl
  fields_length (more_field_types x t ts) (more_field_values y v fs) h =
      let a = encode_length t v h.1 in
      let b = fields_length ts fs h.2 in
      let c = length-append (encode v) (encode_fields fs) in
      omega (arith, a, b, c)
  fields_length _ _ h = absurd h

-- ---- the cells of a part

-- these cells stand in others from a place on
pub record PartAt (u : Ty) (w : Value) (cells : List ℤ) (offset : ℕ) : Type 0 where
  pub typed : HasType u w
  pub inside : offset + cells_of u ≤ length cells
  pub same : (k : ℕ) → k < cells_of u → get_or cells (offset + k) (pos 0) ≡ get_or (encode w) k (pos 0)

part_further : (u : Ty) (w : Value) (xs ys : List ℤ) (offset : ℕ) → PartAt u w ys offset → PartAt u w (xs ++ ys) (length xs + offset)
part_further u w xs ys offset h =
    record {
      typed = h.typed;
      inside = (let a = h.inside in let b = length-append xs ys in omega (arith, a, b));
      same = λ k less. (let e : (length xs + offset) + k ≡ length xs + (offset + k) = omega arith in ap (λ j. get_or (xs ++ ys) j (pos 0)) e ∙ (get_or-append-add xs ys (offset + k) (pos 0) ∙ h.same k less));
    }

part_first : (u : Ty) (w : Value) (ys : List ℤ) → HasType u w → PartAt u w (encode w ++ ys) 0
part_first u w ys h =
    let n = encode_length u w h in
    record {
      typed = h;
      inside = (let b = length-append (encode w) ys in omega (arith, n, b));
      same = λ k less. (let e : 0 + k ≡ k = omega arith in ap (λ j. get_or (encode w ++ ys) j (pos 0)) e ∙ get_or_append_left (encode w) ys (pos 0) k (omega (arith, n)));
    }

element_part : (t : Ty) (n : ℕ) (vs : Values) (i : ℕ) → AllHave (HasType t) n vs → i < n → PartAt t (element_at vs i) (encode_all vs) (i * cells_of t)
element_part t zero vs i h less = absurd (omega arith)
element_part t (suc n) no_values i h less = absurd h
element_part t (suc n) (more_values v vs) zero h less = subst (λ o. PartAt t v (encode v ++ encode_all vs) o) (let z : 0 ≡ 0 * cells_of t = omega arith in z) (part_first t v (encode_all vs) h.0)
element_part t (suc n) (more_values v vs) (suc i) h less =
    let e = encode_length t v h.0 in
    let m = suc-mul i (cells_of t) in
    subst (λ o. PartAt t (element_at vs i) (encode v ++ encode_all vs) o) (let z : length (encode v) + i * cells_of t ≡ suc i * cells_of t = omega (arith, e, m) in z)
    (part_further t (element_at vs i) (encode v) (encode_all vs) (i * cells_of t) (element_part t n vs i h.1 (omega arith)))

pub some_chosen : (a b : Chosen) → Some a ≡ Some b → a ≡ b
some_chosen a b e = cc

field_part : (ts : FieldTypes) (fs : FieldValues) (x : Name) (c : Chosen) → HaveTypes ts fs → field_chosen ts x ≡ Some c → PartAt c.1 (field_at fs x) (encode_fields fs) c.0
field_part no_field_types fs x c h e = absurd (cc)
field_part (more_field_types y t ts) no_field_values x c h e = absurd h
field_part (more_field_types y t ts) (more_field_values z v fs) x c h e =
    subst (λ n. PartAt c.1 (if same_name x n then v else field_at fs x) (encode v ++ encode_fields fs) c.0) h.0 (go (same_name x y) (λ b d. field_part ts fs x b h.2 d) e)
  where
    next : (o : Option Chosen) → ((b : Chosen) → o ≡ Some b → PartAt b.1 (field_at fs x) (encode_fields fs) b.0) → further_chosen (cells_of t) o ≡ Some c → PartAt c.1 (field_at fs x) (encode v ++ encode_fields fs) c.0
    next None ih e = absurd (cc)
    next (Some b) ih e =
        let same = some_chosen (cells_of t + b.0, b.1) c e in
        let n = encode_length t v h.1 in
        subst (λ (k : Chosen). PartAt k.1 (field_at fs x) (encode v ++ encode_fields fs) k.0) same
        (subst (λ o. PartAt b.1 (field_at fs x) (encode v ++ encode_fields fs) o) (let z : length (encode v) + b.0 ≡ cells_of t + b.0 = omega (arith, n) in z)
        (part_further b.1 (field_at fs x) (encode v) (encode_fields fs) b.0 (ih b refl)))

    go : (s : Bool) → ((b : Chosen) → field_chosen ts x ≡ Some b → PartAt b.1 (field_at fs x) (encode_fields fs) b.0) → (if s then Some (0, t) else further_chosen (cells_of t) (field_chosen ts x)) ≡ Some c → PartAt c.1 (if s then v else field_at fs x) (encode v ++ encode_fields fs) c.0
    go true ih e = subst (λ (k : Chosen). PartAt k.1 v (encode v ++ encode_fields fs) k.0) (some_chosen (0, t) c e) (part_first t v (encode_fields fs) h.1)
    go false ih e = next (field_chosen ts x) ih e

-- one choice
pub one_part : (t : Ty) (w : Value) (x : Choice) (c : Chosen) → HasType t w → one_chosen t x ≡ Some c → PartAt c.1 (part_of w x) (encode w) c.0
one_part (record_with ts) (record_value fs) (the_field x) c h e = field_part ts fs x c h e
one_part (array_over r t) (array_value vs) (the_element n) c h e = go (nat_lt n (length_of_range r)) refl e
  where
    go : (b : Bool) → nat_lt n (length_of_range r) ≡ b → (if b then Some (n * cells_of t, t) else None) ≡ Some c → PartAt c.1 (element_at vs n) (encode_all vs) c.0
    go true d e = subst (λ (k : Chosen). PartAt k.1 (element_at vs n) (encode_all vs) k.0) (some_chosen (n * cells_of t, t) c e) (element_part t (length_of_range r) vs n h (ltb-true n (length_of_range r) d))
    go false d e = absurd (cc)
one_part (ordinal r) w x c h e = absurd (cc)
one_part queue_type w x c h e = absurd (cc)
one_part (set_over r) w x c h e = absurd (cc)
one_part (component_of k) w x c h e = absurd (cc)
one_part (record_with ts) w (the_element n) c h e = absurd (cc)
one_part (array_over r t) w (the_field x) c h e = absurd (cc)
one_part _ _ _ c h e = absurd h

-- a part of a part
part_in_part : (u v : Ty) (w x : Value) (ys : List ℤ) (o n : ℕ) → PartAt u w ys o → PartAt v x (encode w) n → PartAt v x ys (o + n)
part_in_part u v w x ys o n h k =
    let len = encode_length u w h.typed in
    record {
      typed = k.typed;
      inside = (let a = h.inside in let b = k.inside in omega (arith, a, b, len));
      same = λ i less.
          (let b = k.inside in
          let e : (o + n) + i ≡ o + (n + i) = omega arith in
          let within : n + i < cells_of u = omega (arith, b, len) in
          ap (λ j. get_or ys j (pos 0)) e ∙ (h.same (n + i) within ∙ k.same i less));
    }

whole_part : (t : Ty) (w : Value) → HasType t w → PartAt t w (encode w) 0
whole_part t w h = (let n = encode_length t w h in record { typed = h; inside = omega (arith, n); same = λ k less. (let e : 0 + k ≡ k = omega arith in ap (λ j. get_or (encode w) j (pos 0)) e) })

pub part_stands : (t : Ty) (w : Value) (cs : List Choice) (c : Chosen) → HasType t w → chosen_at t cs ≡ Some c → PartAt c.1 (part_at w cs) (encode w) c.0
part_stands t w [] c h e = subst (λ (k : Chosen). PartAt k.1 w (encode w) k.0) (some_chosen (0, t) c e) (whole_part t w h)
part_stands t w (x ∷ cs) c h e = go (one_chosen t x) (λ b d. one_part t w x b h d) (λ b k d. part_stands b.1 (part_of w x) cs k (one_part t w x b h d).typed) e
  where
    go : (o : Option Chosen) → ((b : Chosen) → o ≡ Some b → PartAt b.1 (part_of w x) (encode w) b.0) → ((b k : Chosen) → o ≡ Some b → chosen_at b.1 cs ≡ Some k → PartAt k.1 (part_at (part_of w x) cs) (encode (part_of w x)) k.0) → then_chosen o (λ u. chosen_at u cs) ≡ Some c → PartAt c.1 (part_at (part_of w x) cs) (encode w) c.0
    go None one more e = absurd (cc)
    go (Some b) one more e = last (chosen_at b.1 cs) (λ k d. more b k refl d) e
      where
        last : (o : Option Chosen) → ((k : Chosen) → o ≡ Some k → PartAt k.1 (part_at (part_of w x) cs) (encode (part_of w x)) k.0) → further_chosen b.0 o ≡ Some c → PartAt c.1 (part_at (part_of w x) cs) (encode w) c.0
        last None m e = absurd (cc)
        last (Some k) m e =
            subst (λ (j : Chosen). PartAt j.1 (part_at (part_of w x) cs) (encode w) j.0) (some_chosen (b.0 + k.0, k.1) c e)
            (part_in_part b.1 k.1 (part_of w x) (part_at (part_of w x) cs) (encode w) b.0 k.0 (one b refl) (m k refl))
