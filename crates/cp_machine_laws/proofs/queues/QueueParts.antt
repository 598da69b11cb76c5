-- A queue that is written is read as it was written, and every other queue of the same variable as it was.
use Rattle.std.proofs.Common.{◌≡◌, ◌≢◌, ◌∙◌, ℕ, zero, suc, ◌+◌, ◌*◌, ◌<◌, ◌⊎◌, inl, inr, Bool, true, false, if◌then◌else◌, List, [], ◌∷◌, Option, Some, None, ap, sym, refl, subst, arith}
use Rattle.cp_machine_laws.proofs.Words.{nat_lt, ltb-true, bytes_eq-Decides, Name, same_name, cells_of}
use Rattle.cp_meaning.specs.Types.{Ty, ordinal, queue_type, set_over, array_over, record_with, component_of, FieldTypes, no_field_types, more_field_types, length_of_range}
use Rattle.cp_meaning.specs.Values.{Value, number_value, array_value, record_value, set_value, queue_value, Values, no_values, more_values, FieldValues, no_field_values, more_field_values, Choice, the_field, the_element, element_at, field_at, part_of, part_at, with_element, with_field, with_one_part, with_part}
use Rattle.cp_resolved.specs.Encoded.{HasType, AllHave, HaveTypes, Chosen, further_chosen, field_chosen, one_chosen, then_chosen, chosen_at}
use Rattle.cp_machine_laws.proofs.control.Moving.{same_or_other}
use Rattle.cp_machine_laws.proofs.expressions.Parts.{one_part, some_chosen as chosen_is}

-- ---- one choice

element_written : (t : Ty) (n : ℕ) (vs : Values) (i : ℕ) (v : Value) → AllHave (HasType t) n vs → i < n → element_at (with_element vs i v) i ≡ v
element_written t zero vs i v h less = absurd (omega arith)
element_written t (suc n) no_values i v h less = absurd h
element_written t (suc n) (more_values w vs) zero v h less = refl
element_written t (suc n) (more_values w vs) (suc i) v h less = element_written t n vs i v h.1 (omega arith)

element_other : (vs : Values) (i j : ℕ) (v : Value) → j ≢ i → element_at (with_element vs i v) j ≡ element_at vs j
element_other (more_values w vs) zero zero v d = absurd (d refl)
element_other (more_values w vs) (suc i) (suc j) v d = element_other vs i j v (λ e. d (ap suc e))
element_other _ _ _ v d = refl

field_written : (ts : FieldTypes) (fs : FieldValues) (x : Name) (c : Chosen) (v : Value) → HaveTypes ts fs → field_chosen ts x ≡ Some c → field_at (with_field fs x v) x ≡ v
field_written no_field_types fs x c v h e = absurd (cc)
field_written (more_field_types n t ts) no_field_values x c v h e = absurd h
field_written (more_field_types n t ts) (more_field_values y w fs) x c v h e =
    go (same_name x y) refl (λ b d. field_written ts fs x b v h.2 d) (subst (λ z. (if same_name x z then Some (0, t) else further_chosen (cells_of t) (field_chosen ts x)) ≡ Some c) h.0 e)
  where
    next : (o : Option Chosen) → ((b : Chosen) → o ≡ Some b → field_at (with_field fs x v) x ≡ v) → further_chosen (cells_of t) o ≡ Some c → field_at (with_field fs x v) x ≡ v
    next None ih d = absurd (cc)
    next (Some b) ih d = ih b refl

    go : (b : Bool) → same_name x y ≡ b → ((c : Chosen) → field_chosen ts x ≡ Some c → field_at (with_field fs x v) x ≡ v) → (if b then Some (0, t) else further_chosen (cells_of t) (field_chosen ts x)) ≡ Some c →
        field_at (if b then more_field_values y v fs else more_field_values y w (with_field fs x v)) x ≡ v
    go true s ih d = ap (λ (b : Bool). if b then v else field_at fs x) s
    go false s ih d = ap (λ (b : Bool). if b then w else field_at (with_field fs x v) x) s ∙ next (field_chosen ts x) ih d

field_other : (fs : FieldValues) (x z : Name) (v : Value) → same_name z x ≡ false → field_at (with_field fs x v) z ≡ field_at fs z
field_other no_field_values x z v d = refl
field_other (more_field_values y w fs) x z v d = go (same_name x y) refl (field_other fs x z v d)
  where
    go : (b : Bool) → same_name x y ≡ b → field_at (with_field fs x v) z ≡ field_at fs z → field_at (if b then more_field_values y v fs else more_field_values y w (with_field fs x v)) z ≡ field_at (more_field_values y w fs) z
    go true s ih =
        let other : same_name z y ≡ false = ap (same_name z) (sym ((bytes_eq-Decides x y).0 s)) ∙ d in
        ap (λ (b : Bool). if b then v else field_at fs z) other ∙ sym (ap (λ (b : Bool). if b then w else field_at fs z) other)
    go false s ih = ap (λ (o : Value). if same_name z y then w else o) ih

one_written : (t : Ty) (w : Value) (x : Choice) (c : Chosen) (v : Value) → HasType t w → one_chosen t x ≡ Some c → part_of (with_one_part w x v) x ≡ v
one_written (record_with ts) (record_value fs) (the_field x) c v h e = field_written ts fs x c v h e
one_written (array_over r t) (array_value vs) (the_element n) c v h e = go (nat_lt n (length_of_range r)) refl e
  where
    go : (b : Bool) → nat_lt n (length_of_range r) ≡ b → (if b then Some (n * cells_of t, t) else None) ≡ Some c → element_at (with_element vs n v) n ≡ v
    go true d e = element_written t (length_of_range r) vs n v h (ltb-true n (length_of_range r) d)
    go false d e = absurd (cc)
one_written (ordinal r) w x c v h e = absurd (cc)
one_written queue_type w x c v h e = absurd (cc)
one_written (set_over r) w x c v h e = absurd (cc)
one_written (component_of n) w x c v h e = absurd (cc)
one_written (record_with ts) w (the_element n) c v h e = absurd (cc)
one_written (array_over r t) w (the_field x) c v h e = absurd (cc)
one_written _ _ _ c v h e = absurd h

-- the same choice, or one whose part stays
one_other : (t : Ty) (w : Value) (x z : Choice) (c d : Chosen) (v : Value) → one_chosen t x ≡ Some c → one_chosen t z ≡ Some d → HasType t w → (x ≡ z) ⊎ (part_of (with_one_part w x v) z ≡ part_of w z)
one_other (record_with ts) (record_value fs) (the_field x) (the_field z) c d v e f h = go (same_name z x) refl
  where
    go : (b : Bool) → same_name z x ≡ b → (the_field x ≡ the_field z) ⊎ (field_at (with_field fs x v) z ≡ field_at fs z)
    go true s = inl (ap the_field (sym ((bytes_eq-Decides z x).0 s)))
    go false s = inr (field_other fs x z v s)
one_other (array_over r t) (array_value vs) (the_element n) (the_element k) c d v e f h = go (same_or_other k n)
  where
    go : (k ≡ n) ⊎ (k ≢ n) → (the_element n ≡ the_element k) ⊎ (element_at (with_element vs n v) k ≡ element_at vs k)
    go (inl s) = inl (ap the_element (sym s))
    go (inr s) = inr (element_other vs n k v s)
one_other (record_with ts) w (the_element n) z c d v e f h = absurd (cc)
one_other (record_with ts) w x (the_element n) c d v e f h = absurd (cc)
one_other (array_over r t) w (the_field x) z c d v e f h = absurd (cc)
one_other (array_over r t) w x (the_field z) c d v e f h = absurd (cc)
one_other (record_with ts) (number_value n) (the_field x) (the_field z) c d v e f h = absurd h
one_other (record_with ts) (array_value vs) (the_field x) (the_field z) c d v e f h = absurd h
one_other (record_with ts) (set_value ns) (the_field x) (the_field z) c d v e f h = absurd h
one_other (record_with ts) (queue_value o) (the_field x) (the_field z) c d v e f h = absurd h
one_other (array_over r t) (number_value n) (the_element i) (the_element k) c d v e f h = absurd h
one_other (array_over r t) (record_value fs) (the_element i) (the_element k) c d v e f h = absurd h
one_other (array_over r t) (set_value ns) (the_element i) (the_element k) c d v e f h = absurd h
one_other (array_over r t) (queue_value o) (the_element i) (the_element k) c d v e f h = absurd h
one_other y w x z c d v e f h = absurd (cc)

-- ---- all choices

pub record Leads (t : Ty) (x : Choice) (cs : List Choice) (c : Chosen) : Type 0 where
  pub first : Chosen
  pub one : one_chosen t x ≡ Some first
  pub offset : ℕ
  pub rest : chosen_at first.1 cs ≡ Some (offset, c.1)

type_of : (n c : Chosen) (j : ℕ) → Some (j + n.0, n.1) ≡ Some c → n.1 ≡ c.1
type_of n c j s = ap (λ (b : Chosen). b.1) (chosen_is (j + n.0, n.1) c s)

leads : (t : Ty) (x : Choice) (cs : List Choice) (c : Chosen) → chosen_at t (x ∷ cs) ≡ Some c → Leads t x cs c
leads t x cs c e = go (one_chosen t x) refl e
  where
    last : (b : Chosen) → one_chosen t x ≡ Some b → (o : Option Chosen) → chosen_at b.1 cs ≡ o → further_chosen b.0 o ≡ Some c → Leads t x cs c
    last b d None f k = absurd (cc)
    last b d (Some n) f k = record { first = b; one = d; offset = n.0; rest = f ∙ ap (λ (u : Ty). Some (n.0, u)) (type_of n c b.0 k) }

    go : (o : Option Chosen) → one_chosen t x ≡ o → then_chosen o (λ u. chosen_at u cs) ≡ Some c → Leads t x cs c
    go None d k = absurd (cc)
    go (Some b) d k = last b d (chosen_at b.1 cs) refl k

pub part_written : (t : Ty) (w : Value) (cs : List Choice) (c : Chosen) (y : Value) → HasType t w → chosen_at t cs ≡ Some c → part_at (with_part w cs y) cs ≡ y
part_written t w [] c y h e = refl
part_written t w (x ∷ cs) c y h e =
    let k = leads t x cs c e in
    ap (λ v. part_at v cs) (one_written t w x k.first (with_part (part_of w x) cs y) h k.one) ∙ part_written k.first.1 (part_of w x) cs (k.offset, c.1) y (one_part t w x k.first h k.one).typed k.rest

no_parts : (t : Ty) (c : Chosen) (x : Choice) (cs : List Choice) → Some (0, t) ≡ Some c → c.1 ≡ queue_type → (d : Chosen) → chosen_at t (x ∷ cs) ≡ Some d → ⊥
no_parts t c x cs e q d k = let same : t ≡ queue_type = type_is t c e ∙ q in none (subst (λ u. chosen_at u (x ∷ cs) ≡ Some d) same k)
  where
    type_is : (t : Ty) (c : Chosen) → Some (0, t) ≡ Some c → t ≡ c.1
    type_is t c e = cc

    none : None ≡ Some d → ⊥
    none k = cc

-- the same queue, or one that stays as it is
pub part_other : (t : Ty) (w : Value) (cs ds : List Choice) (c d : Chosen) (y : Value) → HasType t w → chosen_at t cs ≡ Some c → c.1 ≡ queue_type → chosen_at t ds ≡ Some d → d.1 ≡ queue_type → (cs ≡ ds) ⊎ (part_at (with_part w cs y) ds ≡ part_at w ds)
part_other t w [] [] c d y h e q f r = inl refl
part_other t w [] (z ∷ ds) c d y h e q f r = absurd (no_parts t c z ds e q d f)
part_other t w (x ∷ cs) [] c d y h e q f r = absurd (no_parts t d x cs f r c e)
part_other t w (x ∷ cs) (z ∷ ds) c d y h e q f r =
    let k = leads t x cs c e in
    let j = leads t z ds d f in
    go k j
    (λ (a : Leads t x cs c) (b : Leads t x ds d).
    part_other a.first.1 (part_of w x) cs ds (a.offset, c.1) (b.offset, d.1) y (one_part t w x a.first h a.one).typed a.rest q (subst (λ (u : Chosen). chosen_at u.1 ds ≡ Some (b.offset, d.1)) (sym (chosen_is a.first b.first (sym a.one ∙ b.one))) b.rest) r)
    (one_other t w x z k.first j.first (with_part (part_of w x) cs y) k.one j.one h)
  where
    inner : Leads t x cs c → (cs ≡ ds) ⊎ (part_at (with_part (part_of w x) cs y) ds ≡ part_at (part_of w x) ds) → (x ∷ cs ≡ x ∷ ds) ⊎ (part_at (with_part w (x ∷ cs) y) (x ∷ ds) ≡ part_at w (x ∷ ds))
    inner k (inl m) = inl (ap (λ u. x ∷ u) m)
    inner k (inr m) = inr (ap (λ v. part_at v ds) (one_written t w x k.first (with_part (part_of w x) cs y) h k.one) ∙ m)

    go : Leads t x cs c → Leads t z ds d → (Leads t x cs c → Leads t x ds d → (cs ≡ ds) ⊎ (part_at (with_part (part_of w x) cs y) ds ≡ part_at (part_of w x) ds)) →
        (x ≡ z) ⊎ (part_of (with_one_part w x (with_part (part_of w x) cs y)) z ≡ part_of w z) → (x ∷ cs ≡ z ∷ ds) ⊎ (part_at (with_part w (x ∷ cs) y) (z ∷ ds) ≡ part_at w (z ∷ ds))
    go k j ih (inr s) = inr (ap (λ v. part_at v ds) s)
    go k j ih (inl s) = subst (λ v. (x ∷ cs ≡ v ∷ ds) ⊎ (part_at (with_part w (x ∷ cs) y) (v ∷ ds) ≡ part_at w (v ∷ ds))) s (inner k (ih k (subst (λ v. Leads t v ds d) (sym s) j)))
