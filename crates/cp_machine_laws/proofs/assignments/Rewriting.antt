-- A value with another part has the cells of that part where it lies, and its own elsewhere.
use Rattle.std.proofs.Common.{◌≡◌, ◌∙◌, ℕ, zero, suc, ◌+◌, ◌*◌, ◌-◌, ◌<◌, ◌≤◌, ◌⊎◌, inl, inr, Bool, true, false, if◌then◌else◌, List, [], ◌∷◌, ◌++◌, Option, Some, None, ap, sym, refl, subst, arith, length, get_or}
use Rattle.cp_machine_laws.proofs.Words.{ℤ, pos, nat_lt, ltb-true, get_or-append-add, get_or_append_left, suc-mul, Name, same_name, cells_of}
use Rattle.cp_meaning.specs.Types.{Ty, ordinal, queue_type, set_over, array_over, record_with, component_of, FieldTypes, no_field_types, more_field_types, length_of_range}
use Rattle.cp_meaning.specs.Values.{Value, array_value, record_value, Values, no_values, more_values, FieldValues, no_field_values, more_field_values, Choice, the_field, the_element, part_of, part_at, with_element, with_field, with_one_part, with_part}
use Rattle.cp_resolved.specs.Encoded.{encode, encode_all, encode_fields, HasType, AllHave, HaveTypes, Chosen, further_chosen, field_chosen, one_chosen, then_chosen, chosen_at}
use Rattle.cp_machine_laws.proofs.expressions.Parts.{encode_length, PartAt, one_part, part_stands, some_chosen}

-- outside these cells
abbrev pub Outside : (first cells j : ℕ) → Type 0
Outside first cells j = (j < first) ⊎ (first + cells ≤ j)

-- cells that are new from a place on, and old elsewhere
pub record NewAt (olds news block : List ℤ) (first : ℕ) : Type 0 where
  pub inner : (k : ℕ) → k < length block → get_or news (first + k) (pos 0) ≡ get_or block k (pos 0)
  pub outer : (j : ℕ) → Outside first (length block) j → get_or news j (pos 0) ≡ get_or olds j (pos 0)

-- below a number, or not
split : (j n : ℕ) → (j < n) ⊎ ((i : ℕ) × (j ≡ n + i))
split j zero = inr (j, omega arith)
split zero (suc n) = inl (omega arith)
split (suc j) (suc n) = go (split j n)
  where
    go : (j < n) ⊎ ((i : ℕ) × (j ≡ n + i)) → (suc j < suc n) ⊎ ((i : ℕ) × (suc j ≡ suc n + i))
    go (inl less) = inl (omega (arith, less))
    go (inr more) = inr (more.0, (let e = more.1 in omega (arith, e)))

-- after cells that stay
new_after : (xs olds news block : List ℤ) (first : ℕ) → NewAt olds news block first → NewAt (xs ++ olds) (xs ++ news) block (length xs + first)
new_after xs olds news block first h =
    record {
      inner = λ k less. (let e : (length xs + first) + k ≡ length xs + (first + k) = omega arith in ap (λ j. get_or (xs ++ news) j (pos 0)) e ∙ (get_or-append-add xs news (first + k) (pos 0) ∙ h.inner k less));
      outer = λ j out. go j out (split j (length xs));
    }
  where
    go : (j : ℕ) → Outside (length xs + first) (length block) j → (j < length xs) ⊎ ((i : ℕ) × (j ≡ length xs + i)) → get_or (xs ++ news) j (pos 0) ≡ get_or (xs ++ olds) j (pos 0)
    go j out (inl less) = get_or_append_left xs news (pos 0) j less ∙ sym (get_or_append_left xs olds (pos 0) j less)
    go j out (inr more) =
        let e = more.1 in
        ap (λ n. get_or (xs ++ news) n (pos 0)) more.1 ∙ (get_or-append-add xs news more.0 (pos 0) ∙ (h.outer more.0 (nearer more.0 j more.1 out) ∙ (sym (get_or-append-add xs olds more.0 (pos 0)) ∙ ap (λ n. get_or (xs ++ olds) n (pos 0)) (sym more.1))))
      where
        nearer : (i j : ℕ) → j ≡ length xs + i → Outside (length xs + first) (length block) j → Outside first (length block) i
        nearer i j e (inl less) = inl (omega (arith, e, less))
        nearer i j e (inr more) = inr (omega (arith, e, more))

-- before cells that stay
new_before : (old new ys : List ℤ) → length old ≡ length new → NewAt (old ++ ys) (new ++ ys) new 0
new_before old new ys same =
    record {
      inner = λ k less. (let e : 0 + k ≡ k = omega arith in ap (λ j. get_or (new ++ ys) j (pos 0)) e ∙ get_or_append_left new ys (pos 0) k less);
      outer = λ j out. go j out;
    }
  where
    go : (j : ℕ) → Outside 0 (length new) j → get_or (new ++ ys) j (pos 0) ≡ get_or (old ++ ys) j (pos 0)
    go j (inl less) = absurd (omega (arith, less))
    go j (inr more) =
        let e : j ≡ length new + (j - length new) = omega (arith, more) in
        let d : j ≡ length old + (j - length new) = omega (arith, more, same) in
        ap (λ n. get_or (new ++ ys) n (pos 0)) e ∙ (get_or-append-add new ys (j - length new) (pos 0) ∙ (sym (get_or-append-add old ys (j - length new) (pos 0)) ∙ ap (λ n. get_or (old ++ ys) n (pos 0)) (sym d)))

-- ---- one choice

element_typed : (t : Ty) (n : ℕ) (vs : Values) (i : ℕ) (y : Value) → AllHave (HasType t) n vs → HasType t y → AllHave (HasType t) n (with_element vs i y)
element_typed t zero no_values i y h k = tt
element_typed t (suc n) (more_values v vs) zero y h k = (k, h.1)
element_typed t (suc n) (more_values v vs) (suc i) y h k = (h.0, element_typed t n vs i y h.1 k)
element_typed t _ _ i y h k = absurd h

element_new : (t : Ty) (n : ℕ) (vs : Values) (i : ℕ) (y : Value) → AllHave (HasType t) n vs → HasType t y → i < n → NewAt (encode_all vs) (encode_all (with_element vs i y)) (encode y) (i * cells_of t)
element_new t zero vs i y h k less = absurd (omega arith)
element_new t (suc n) no_values i y h k less = absurd h
element_new t (suc n) (more_values v vs) zero y h k less =
    subst (λ o. NewAt (encode v ++ encode_all vs) (encode y ++ encode_all vs) (encode y) o) (let z : 0 ≡ 0 * cells_of t = omega arith in z) (new_before (encode v) (encode y) (encode_all vs) (encode_length t v h.0 ∙ sym (encode_length t y k)))
element_new t (suc n) (more_values v vs) (suc i) y h k less =
    let e = encode_length t v h.0 in
    let m = suc-mul i (cells_of t) in
    subst (λ o. NewAt (encode v ++ encode_all vs) (encode v ++ encode_all (with_element vs i y)) (encode y) o) (let z : length (encode v) + i * cells_of t ≡ suc i * cells_of t = omega (arith, e, m) in z)
    (new_after (encode v) (encode_all vs) (encode_all (with_element vs i y)) (encode y) (i * cells_of t) (element_new t n vs i y h.1 k (omega arith)))

-- typed, and new where the choice leads to
pub record OneNew (t : Ty) (w : Value) (x : Choice) (c : Chosen) (y : Value) : Type 0 where
  pub typed : HasType t (with_one_part w x y)
  pub cells : NewAt (encode w) (encode (with_one_part w x y)) (encode y) c.0

-- ---- fields

pub record FieldsNew (ts : FieldTypes) (fs new : FieldValues) (c : Chosen) (y : Value) : Type 0 where
  pub typed : HaveTypes ts new
  pub cells : NewAt (encode_fields fs) (encode_fields new) (encode y) c.0

field_new : (ts : FieldTypes) (fs : FieldValues) (x : Name) (c : Chosen) (y : Value) → HaveTypes ts fs → field_chosen ts x ≡ Some c → HasType c.1 y → FieldsNew ts fs (with_field fs x y) c y
field_new no_field_types fs x c y h e k = absurd (cc)
field_new (more_field_types n t ts) no_field_values x c y h e k = absurd h
field_new (more_field_types n t ts) (more_field_values z v fs) x c y h e k =
    subst (λ (b : Bool). FieldsNew (more_field_types n t ts) (more_field_values z v fs) (if b then more_field_values z y fs else more_field_values z v (with_field fs x y)) c y) (ap (same_name x) h.0)
    (go (same_name x n) (λ b d j. field_new ts fs x b y h.2 d j) e)
  where
    next : (o : Option Chosen) → ((b : Chosen) → o ≡ Some b → HasType b.1 y → FieldsNew ts fs (with_field fs x y) b y) → further_chosen (cells_of t) o ≡ Some c → FieldsNew (more_field_types n t ts) (more_field_values z v fs) (more_field_values z v (with_field fs x y)) c y
    next None ih e = absurd (cc)
    next (Some b) ih e =
        let same = some_chosen (cells_of t + b.0, b.1) c e in
        let len = encode_length t v h.1 in
        let r = ih b refl (subst (λ (d : Chosen). HasType d.1 y) (sym same) k) in
        record {
          typed = (h.0, h.1, r.typed);
          cells = subst (λ o. NewAt (encode v ++ encode_fields fs) (encode v ++ encode_fields (with_field fs x y)) (encode y) o)
              (let z : length (encode v) + b.0 ≡ c.0 = (let a : cells_of t + b.0 ≡ c.0 = ap (λ (d : Chosen). d.0) same in omega (arith, len, a)) in z)
              (new_after (encode v) (encode_fields fs) (encode_fields (with_field fs x y)) (encode y) b.0 r.cells);
        }

    go : (s : Bool) → ((b : Chosen) → field_chosen ts x ≡ Some b → HasType b.1 y → FieldsNew ts fs (with_field fs x y) b y) → (if s then Some (0, t) else further_chosen (cells_of t) (field_chosen ts x)) ≡ Some c → FieldsNew (more_field_types n t ts) (more_field_values z v fs) (if s then more_field_values z y fs else more_field_values z v (with_field fs x y)) c y
    go false ih e = next (field_chosen ts x) ih e
    go true ih e =
        let same = some_chosen (0, t) c e in
        let j : HasType t y = subst (λ (d : Chosen). HasType d.1 y) (sym same) k in
        record {
          typed = (h.0, j, h.2);
          cells = subst (λ (d : Chosen). NewAt (encode v ++ encode_fields fs) (encode y ++ encode_fields fs) (encode y) d.0) same (new_before (encode v) (encode y) (encode_fields fs) (encode_length t v h.1 ∙ sym (encode_length t y j)));
        }

one_new : (t : Ty) (w : Value) (x : Choice) (c : Chosen) (y : Value) → HasType t w → one_chosen t x ≡ Some c → HasType c.1 y → OneNew t w x c y
one_new (record_with ts) (record_value fs) (the_field x) c y h e k = (let r = field_new ts fs x c y h e k in record { typed = r.typed; cells = r.cells })
one_new (array_over r t) (array_value vs) (the_element n) c y h e k = go (nat_lt n (length_of_range r)) refl e
  where
    go : (b : Bool) → nat_lt n (length_of_range r) ≡ b → (if b then Some (n * cells_of t, t) else None) ≡ Some c → OneNew (array_over r t) (array_value vs) (the_element n) c y
    go true d e =
        let same = some_chosen (n * cells_of t, t) c e in
        let j : HasType t y = subst (λ (b : Chosen). HasType b.1 y) (sym same) k in
        record {
          typed = element_typed t (length_of_range r) vs n y h j;
          cells = subst (λ (b : Chosen). NewAt (encode_all vs) (encode_all (with_element vs n y)) (encode y) b.0) same (element_new t (length_of_range r) vs n y h j (ltb-true n (length_of_range r) d));
        }
    go false d e = absurd (cc)
one_new (ordinal r) w x c y h e k = absurd (cc)
one_new queue_type w x c y h e k = absurd (cc)
one_new (set_over r) w x c y h e k = absurd (cc)
one_new (component_of n) w x c y h e k = absurd (cc)
one_new (record_with ts) w (the_element n) c y h e k = absurd (cc)
one_new (array_over r t) w (the_field x) c y h e k = absurd (cc)
one_new _ _ _ c y h e k = absurd h

-- ---- all choices

pub record PartNew (t : Ty) (w new : Value) (c : Chosen) (y : Value) : Type 0 where
  pub typed : HasType t new
  pub cells : NewAt (encode w) (encode new) (encode y) c.0

-- new cells in a part that is itself new
new_in_new : (olds news part_old part_new block : List ℤ) (o n : ℕ) → length part_new ≡ length part_old → n + length block ≤ length part_new → NewAt olds news part_new o → NewAt part_old part_new block n → ((k : ℕ) → k < length part_old → get_or olds (o + k) (pos 0) ≡ get_or part_old k (pos 0)) → NewAt olds news block (o + n)
new_in_new olds news part_old part_new block o n len fit a b is =
    record {
      inner = λ k less. (let e : (o + n) + k ≡ o + (n + k) = omega arith in ap (λ j. get_or news j (pos 0)) e ∙ (a.inner (n + k) (omega (arith, fit, less)) ∙ b.inner k less));
      outer = λ j out. go j out (split j o);
    }
  where
    within : (j i : ℕ) → j ≡ o + i → Outside (o + n) (length block) j → (i < length part_new) ⊎ (length part_new ≤ i) → get_or news j (pos 0) ≡ get_or olds j (pos 0)
    within j i e out (inl less) =
        ap (λ x. get_or news x (pos 0)) e ∙ (a.inner i less ∙ (b.outer i (nearer out) ∙ (sym (is i (omega (arith, less, len))) ∙ ap (λ x. get_or olds x (pos 0)) (sym e))))
      where
        nearer : Outside (o + n) (length block) j → Outside n (length block) i
        nearer (inl l) = inl (omega (arith, e, l))
        nearer (inr l) = inr (omega (arith, e, l))
    within j i e out (inr more) = a.outer j (inr (omega (arith, e, more)))

    order : (i k : ℕ) → (i < k) ⊎ (k ≤ i)
    order i k = half (split i k)
      where
        half : (i < k) ⊎ ((x : ℕ) × (i ≡ k + x)) → (i < k) ⊎ (k ≤ i)
        half (inl l) = inl l
        half (inr l) = inr (let e = l.1 in omega (arith, e))

    go : (j : ℕ) → Outside (o + n) (length block) j → (j < o) ⊎ ((i : ℕ) × (j ≡ o + i)) → get_or news j (pos 0) ≡ get_or olds j (pos 0)
    go j out (inl less) = a.outer j (inl less)
    go j out (inr more) = within j more.0 more.1 out (order more.0 (length part_new))

whole_new : (olds block : List ℤ) → length olds ≡ length block → (j : ℕ) → Outside 0 (length block) j → get_or block j (pos 0) ≡ get_or olds j (pos 0)
whole_new olds block same j (inl less) = absurd (omega (arith, less))
whole_new olds block same j (inr more) = past block j (omega (arith, more)) ∙ sym (past olds j (omega (arith, more, same)))
  where
    past : (xs : List ℤ) (j : ℕ) → length xs ≤ j → get_or xs j (pos 0) ≡ pos 0
    past [] j h = refl
    past (x ∷ xs) zero h = absurd (omega arith)
    past (x ∷ xs) (suc j) h = past xs j (omega arith)

pub part_new : (t : Ty) (w : Value) (cs : List Choice) (c : Chosen) (y : Value) → HasType t w → chosen_at t cs ≡ Some c → HasType c.1 y → PartNew t w (with_part w cs y) c y
part_new t w [] c y h e k =
    let same = some_chosen (0, t) c e in
    let j : HasType t y = subst (λ (b : Chosen). HasType b.1 y) (sym same) k in
    subst (λ (b : Chosen). PartNew t w y b y) same
    (record {
      typed = j;
      cells = record { inner = λ i less. (let z : 0 + i ≡ i = omega arith in ap (λ n. get_or (encode y) n (pos 0)) z); outer = λ i out. whole_new (encode w) (encode y) (encode_length t w h ∙ sym (encode_length t y j)) i out };
    })
part_new t w (x ∷ cs) c y h e k = go (one_chosen t x) (λ b d j. one_new t w x b (with_part (part_of w x) cs y) h d j) (λ b d. one_part t w x b h d) (λ b n d j i. part_new b.1 (part_of w x) cs n y j d i) e
  where
    last : (b : Chosen) (o : Option Chosen) → (HasType b.1 (with_part (part_of w x) cs y) → OneNew t w x b (with_part (part_of w x) cs y)) → PartAt b.1 (part_of w x) (encode w) b.0 → ((n : Chosen) → o ≡ Some n → HasType n.1 y → PartNew b.1 (part_of w x) (with_part (part_of w x) cs y) n y) → ((n : Chosen) → o ≡ Some n → PartAt n.1 (part_at (part_of w x) cs) (encode (part_of w x)) n.0) → further_chosen b.0 o ≡ Some c → PartNew t w (with_one_part w x (with_part (part_of w x) cs y)) c y
    last b None one part more at e = absurd (cc)
    last b (Some n) one part more at e =
        let same = some_chosen (b.0 + n.0, n.1) c e in
        let inner = more n refl (subst (λ (d : Chosen). HasType d.1 y) (sym same) k) in
        let outer = one inner.typed in
        let len_new = encode_length b.1 (with_part (part_of w x) cs y) inner.typed in
        let len_old = encode_length b.1 (part_of w x) part.typed in
        subst (λ (d : Chosen). PartNew t w (with_one_part w x (with_part (part_of w x) cs y)) d y) same
        (record {
          typed = outer.typed;
          cells = new_in_new (encode w) (encode (with_one_part w x (with_part (part_of w x) cs y))) (encode (part_of w x)) (encode (with_part (part_of w x) cs y)) (encode y) b.0 n.0 (len_new ∙ sym len_old) (let f = (at n refl).inside in let d = encode_length n.1 y (subst (λ (d : Chosen). HasType d.1 y) (sym same) k) in omega (arith, f, d, len_new, len_old))
              outer.cells inner.cells (λ i less. part.same i (omega (arith, less, len_old)));
        })

    go : (o : Option Chosen) → ((b : Chosen) → o ≡ Some b → HasType b.1 (with_part (part_of w x) cs y) → OneNew t w x b (with_part (part_of w x) cs y)) → ((b : Chosen) → o ≡ Some b → PartAt b.1 (part_of w x) (encode w) b.0) → ((b n : Chosen) → chosen_at b.1 cs ≡ Some n → HasType b.1 (part_of w x) → HasType n.1 y → PartNew b.1 (part_of w x) (with_part (part_of w x) cs y) n y) → then_chosen o (λ u. chosen_at u cs) ≡ Some c → PartNew t w (with_one_part w x (with_part (part_of w x) cs y)) c y
    go None one part more e = absurd (cc)
    go (Some b) one part more e = last b (chosen_at b.1 cs) (λ j. one b refl j) (part b refl) (λ n d j. more b n d (part b refl).typed j) (λ n d. part_stands b.1 (part_of w x) cs n (part b refl).typed d) e
