-- Two places of one type are the same, or have no cell in common; so that a copy reads no cell that it has written.
use Rattle.std.proofs.Common.{◌≡◌, ◌≢◌, ◌∙◌, ℕ, suc, ◌+◌, ◌*◌, ◌<◌, ◌≤◌, ◌⊎◌, inl, inr, Bool, true, false, if◌then◌else◌, List, [], ◌∷◌, Option, Some, None, ap, sym, refl, subst, arith}
use Rattle.cp_machine_laws.proofs.Words.{nat_lt, bytes_eq-Decides, Address, Permanent, Local, Memory, Name, same_name, Value, Choice, the_field, the_element, part_of, cells_of}
use Rattle.cp_machine_laws.proofs.Words.{further, LiesAt, HasType, Chosen, further_chosen, field_chosen, one_chosen, then_chosen, chosen_at}
use Rattle.std.proofs.lemmas.Bool.{cases_order}
use Rattle.std.proofs.Math.Nat.{suc-mul, mul-le-mul_right}
use Rattle.cp_meaning.specs.Types.{Ty, array_over, record_with, FieldTypes, no_field_types, more_field_types, length_of_range}
use Rattle.cp_machine_laws.proofs.assignments.Blocks.{ReadsFirst}
use Rattle.cp_machine_laws.proofs.expressions.Parts.{encode_length, one_part, part_stands, some_chosen}
use Rattle.cp_machine_laws.proofs.assignments.Writing.{further_apart}

-- ---- parts of one value

-- cells from one number on, and from another, are the same or apart
abbrev Beside : (o n j k : ℕ) → Type 0
Beside o n j k = (o + n ≤ j) ⊎ (j + k ≤ o)

field_beside : (ts : FieldTypes) (x y : Name) (b c : Chosen) → field_chosen ts x ≡ Some b → field_chosen ts y ≡ Some c → (x ≡ y) ⊎ Beside b.0 (cells_of b.1) c.0 (cells_of c.1)
field_beside no_field_types x y b c e d = absurd (cc)
field_beside (more_field_types z t ts) x y b c e d = go (same_name x z) (same_name y z) refl refl (λ u w i j. field_beside ts x y u w i j) e d
  where
    after : (o : Option Chosen) (w : Chosen) → further_chosen (cells_of t) o ≡ Some w → (u : Chosen) × (o ≡ Some u) × ((cells_of t + u.0, u.1) ≡ w)
    after None w k = absurd (cc)
    after (Some u) w k = (u, refl, some_chosen (cells_of t + u.0, u.1) w k)

    moved_on : (u w : Chosen) → (x ≡ y) ⊎ Beside u.0 (cells_of u.1) w.0 (cells_of w.1) → (x ≡ y) ⊎ Beside (cells_of t + u.0) (cells_of u.1) (cells_of t + w.0) (cells_of w.1)
    moved_on u w (inl same) = inl same
    moved_on u w (inr (inl less)) = inr (inl (omega (arith, less)))
    moved_on u w (inr (inr more)) = inr (inr (omega (arith, more)))

    first : (w : Chosen) → further_chosen (cells_of t) (field_chosen ts y) ≡ Some w → Beside 0 (cells_of t) w.0 (cells_of w.1)
    first w k = (let a = after (field_chosen ts y) w k in inl (let s = ap (λ (n : Chosen). n.0) a.2 in omega (arith, s)))

    last : (w : Chosen) → further_chosen (cells_of t) (field_chosen ts x) ≡ Some w → Beside w.0 (cells_of w.1) 0 (cells_of t)
    last w k = (let a = after (field_chosen ts x) w k in inr (let s = ap (λ (n : Chosen). n.0) a.2 in omega (arith, s)))

    go : (p q : Bool) → same_name x z ≡ p → same_name y z ≡ q → ((u w : Chosen) → field_chosen ts x ≡ Some u → field_chosen ts y ≡ Some w → (x ≡ y) ⊎ Beside u.0 (cells_of u.1) w.0 (cells_of w.1)) →
        (if p then Some (0, t) else further_chosen (cells_of t) (field_chosen ts x)) ≡ Some b → (if q then Some (0, t) else further_chosen (cells_of t) (field_chosen ts y)) ≡ Some c → (x ≡ y) ⊎ Beside b.0 (cells_of b.1) c.0 (cells_of c.1)
    go true true i j ih e d = inl ((bytes_eq-Decides x z).0 i ∙ sym ((bytes_eq-Decides y z).0 j))
    go true false i j ih e d = inr (subst (λ (w : Chosen). Beside w.0 (cells_of w.1) c.0 (cells_of c.1)) (some_chosen (0, t) b e) (first c d))
    go false true i j ih e d = inr (subst (λ (w : Chosen). Beside b.0 (cells_of b.1) w.0 (cells_of w.1)) (some_chosen (0, t) c d) (last b e))
    go false false i j ih e d =
        let u = after (field_chosen ts x) b e in
        let w = after (field_chosen ts y) c d in
        subst (λ (n : Chosen). (x ≡ y) ⊎ Beside n.0 (cells_of n.1) c.0 (cells_of c.1)) u.2
        (subst (λ (n : Chosen). (x ≡ y) ⊎ Beside (cells_of t + u.0.0) (cells_of u.0.1) n.0 (cells_of n.1)) w.2 (moved_on u.0 w.0 (ih u.0 w.0 u.1 w.1)))

element_beside : (size n k : ℕ) → n < k → n * size + size ≤ k * size
element_beside size n k less =
    let a = suc-mul n size in
    let up : suc n ≤ k = omega (arith, less) in
    let b : suc n * size ≤ k * size = mul-le-mul_right size up in
    omega (arith, a, b)

one_beside : (u : Ty) (x y : Choice) (b c : Chosen) → one_chosen u x ≡ Some b → one_chosen u y ≡ Some c → (x ≡ y) ⊎ Beside b.0 (cells_of b.1) c.0 (cells_of c.1)
one_beside (record_with ts) (the_field x) (the_field y) b c e d = named (field_beside ts x y b c e d)
  where
    named : (x ≡ y) ⊎ Beside b.0 (cells_of b.1) c.0 (cells_of c.1) → (the_field x ≡ the_field y) ⊎ Beside b.0 (cells_of b.1) c.0 (cells_of c.1)
    named (inl same) = inl (ap the_field same)
    named (inr other) = inr other
one_beside (array_over r t) (the_element n) (the_element k) b c e d = go (cases_order n k) (nat_lt n (length_of_range r)) (nat_lt k (length_of_range r)) e d
  where
    go : (n ≡ k) ⊎ ((n < k) ⊎ (k < n)) → (p q : Bool) → (if p then Some (n * cells_of t, t) else None) ≡ Some b → (if q then Some (k * cells_of t, t) else None) ≡ Some c → (the_element n ≡ the_element k) ⊎ Beside b.0 (cells_of b.1) c.0 (cells_of c.1)
    go (inl same) p q e d = inl (ap the_element same)
    go (inr o) false q e d = absurd (cc)
    go (inr o) true false e d = absurd (cc)
    go (inr (inl less)) true true e d =
        inr (subst (λ (w : Chosen). Beside w.0 (cells_of w.1) c.0 (cells_of c.1)) (some_chosen (n * cells_of t, t) b e) (subst (λ (w : Chosen). Beside (n * cells_of t) (cells_of t) w.0 (cells_of w.1)) (some_chosen (k * cells_of t, t) c d) (inl (element_beside (cells_of t) n k less))))
    go (inr (inr more)) true true e d =
        inr (subst (λ (w : Chosen). Beside w.0 (cells_of w.1) c.0 (cells_of c.1)) (some_chosen (n * cells_of t, t) b e) (subst (λ (w : Chosen). Beside (n * cells_of t) (cells_of t) w.0 (cells_of w.1)) (some_chosen (k * cells_of t, t) c d) (inr (element_beside (cells_of t) k n more))))
one_beside x y z b c e d = absurd (cc)

-- the first choice, and the others
record FirstChosen (u : Ty) (x : Choice) (cs : List Choice) (c : Chosen) : Type 0 where
  one : Chosen
  rest : Chosen
  first : one_chosen u x ≡ Some one
  others : chosen_at one.1 cs ≡ Some rest
  offset : c.0 ≡ one.0 + rest.0
  type_is : c.1 ≡ rest.1

first_chosen : (u : Ty) (x : Choice) (cs : List Choice) (c : Chosen) → chosen_at u (x ∷ cs) ≡ Some c → FirstChosen u x cs c
first_chosen u x cs c e = go (one_chosen u x) refl e
  where
    last : (b : Chosen) → one_chosen u x ≡ Some b → (o : Option Chosen) → chosen_at b.1 cs ≡ o → further_chosen b.0 o ≡ Some c → FirstChosen u x cs c
    last b i None k e = absurd (cc)
    last b i (Some n) k e = record { one = b; rest = n; first = i; others = k; offset = ap (λ (w : Chosen). w.0) (sym (some_chosen (b.0 + n.0, n.1) c e)); type_is = ap (λ (w : Chosen). w.1) (sym (some_chosen (b.0 + n.0, n.1) c e)) }

    go : (o : Option Chosen) → one_chosen u x ≡ o → then_chosen o (λ t. chosen_at t cs) ≡ Some c → FirstChosen u x cs c
    go None i e = absurd (cc)
    go (Some b) i e = last b i (chosen_at b.1 cs) refl e

-- a part ends where its value does
pub part_ends : (u : Ty) (w : Value) (cs : List Choice) (c : Chosen) → HasType u w → chosen_at u cs ≡ Some c → c.0 + cells_of c.1 ≤ cells_of u
part_ends u w cs c h e = (let k = (part_stands u w cs c h e).inside in let n = encode_length u w h in omega (arith, k, n))

abbrev SameOrBeside : (o j n : ℕ) → Type 0
SameOrBeside o j n = (o ≡ j) ⊎ Beside o n j n

-- parts with as many cells are one part, or beside one another
chosen_beside : (u : Ty) (w : Value) (cs ds : List Choice) (b c : Chosen) → HasType u w → cells_of b.1 ≡ cells_of c.1 → chosen_at u cs ≡ Some b → chosen_at u ds ≡ Some c → SameOrBeside b.0 c.0 (cells_of c.1)
chosen_beside u w [] ds b c h same e d =
    let k = part_ends u w ds c h d in
    let zero_is : 0 ≡ b.0 = ap (λ (n : Chosen). n.0) (some_chosen (0, u) b e) in
    let type_is : cells_of u ≡ cells_of b.1 = ap (λ (n : Chosen). cells_of n.1) (some_chosen (0, u) b e) in
    inl (omega (arith, k, zero_is, type_is, same))
chosen_beside u w (x ∷ cs) [] b c h same e d =
    let k = part_ends u w (x ∷ cs) b h e in
    let zero_is : 0 ≡ c.0 = ap (λ (n : Chosen). n.0) (some_chosen (0, u) c d) in
    let type_is : cells_of u ≡ cells_of c.1 = ap (λ (n : Chosen). cells_of n.1) (some_chosen (0, u) c d) in
    inl (omega (arith, k, zero_is, type_is, same))
chosen_beside u w (x ∷ cs) (y ∷ ds) b c h same e d =
    go (first_chosen u x cs b e) (first_chosen u y ds c d) (λ n i j k p q. chosen_beside n.1 (part_of w x) cs ds i j k p q)
  where
    go : FirstChosen u x cs b → FirstChosen u y ds c → ((n i j : Chosen) → HasType n.1 (part_of w x) → cells_of i.1 ≡ cells_of j.1 → chosen_at n.1 cs ≡ Some i → chosen_at n.1 ds ≡ Some j → SameOrBeside i.0 j.0 (cells_of j.1)) → SameOrBeside b.0 c.0 (cells_of c.1)
    go i j ih = by_choice (one_beside u x y i.one j.one i.first j.first)
      where
        sizes : cells_of i.rest.1 ≡ cells_of j.rest.1
        sizes = ap cells_of (sym i.type_is) ∙ (same ∙ ap cells_of j.type_is)

        i_ends : i.rest.0 + cells_of i.rest.1 ≤ cells_of i.one.1
        i_ends = part_ends i.one.1 (part_of w x) cs i.rest (one_part u w x i.one h i.first).typed i.others

        j_ends : j.rest.0 + cells_of j.rest.1 ≤ cells_of j.one.1
        j_ends = part_ends j.one.1 (part_of w y) ds j.rest (one_part u w y j.one h j.first).typed j.others

        j_type : cells_of c.1 ≡ cells_of j.rest.1
        j_type = ap cells_of j.type_is

        shifted : (n : ℕ) → b.0 ≡ n + i.rest.0 → c.0 ≡ n + j.rest.0 → SameOrBeside i.rest.0 j.rest.0 (cells_of j.rest.1) → SameOrBeside b.0 c.0 (cells_of c.1)
        shifted n p q (inl s) = inl (omega (arith, p, q, s))
        shifted n p q (inr (inl s)) = inr (inl (omega (arith, p, q, s, j_type)))
        shifted n p q (inr (inr s)) = inr (inr (omega (arith, p, q, s, j_type)))

        by_choice : (x ≡ y) ⊎ Beside i.one.0 (cells_of i.one.1) j.one.0 (cells_of j.one.1) → SameOrBeside b.0 c.0 (cells_of c.1)
        by_choice (inl s) =
            let one_same : i.one ≡ j.one = some_chosen i.one j.one (sym i.first ∙ (ap (one_chosen u) s ∙ j.first)) in
            shifted i.one.0 i.offset (j.offset ∙ ap (λ (n : Chosen). n.0 + j.rest.0) (sym one_same))
            (ih i.one i.rest j.rest (one_part u w x i.one h i.first).typed sizes i.others (subst (λ (n : Chosen). chosen_at n.1 ds ≡ Some j.rest) (sym one_same) j.others))
        by_choice (inr (inl s)) = (let p = i.offset in let q = j.offset in inr (inl (omega (arith, s, p, q, i_ends, sizes, j_type))))
        by_choice (inr (inr s)) = (let p = i.offset in let q = j.offset in inr (inr (omega (arith, s, p, q, j_ends, sizes, j_type))))

-- ---- addresses

abbrev pub SameOrApart : (a b : Address) → ℕ → Type 0
SameOrApart a b n = (a ≡ b) ⊎ ((i k : ℕ) → i < n → k < n → further a i ≢ further b k)

pub reads_first : (from to : Address) (n : ℕ) → SameOrApart from to n → ReadsFirst from to n
reads_first from to n (inl same) i k less small = (λ e. further_apart from k i (λ d. omega (arith, d, less)) (e ∙ ap (λ b. further b i) (sym same)))
reads_first from to n (inr apart) i k less small = apart k i small (omega (arith, less, small))

-- of one variable
pub parts_apart : (m : Memory) (u : Ty) (w : Value) (a : Address) (cs ds : List Choice) (o j : ℕ) (t : Ty) → LiesAt m u w a → chosen_at u cs ≡ Some (o, t) → chosen_at u ds ≡ Some (j, t) → SameOrApart (further a o) (further a j) (cells_of t)
parts_apart m u w a cs ds o j t h e d = go (chosen_beside u w cs ds (o, t) (j, t) h.typed refl e d)
  where
    further_is : (a : Address) (o i j k : ℕ) → further (further a o) i ≡ further (further a j) k → o + i ≡ j + k
    further_is (Permanent n) o i j k e = (let s : (n + o) + i ≡ (n + j) + k = cc in omega (arith, s))
    further_is (Local n) o i j k e = (let s : (n + o) + i ≡ (n + j) + k = cc in omega (arith, s))

    go : SameOrBeside o j (cells_of t) → SameOrApart (further a o) (further a j) (cells_of t)
    go (inl same) = inl (ap (further a) same)
    go (inr (inl s)) = inr (λ i k less small e. (let same = further_is a o i j k e in omega (arith, same, s, less)))
    go (inr (inr s)) = inr (λ i k less small e. (let same = further_is a o i j k e in omega (arith, same, s, small)))
