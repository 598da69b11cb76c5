-- Parts of variables whose types stand: ordinals are within their bases, and no variable has both ordinals and queues.
use Rattle.std.proofs.Common.{◌≡◌, ℕ, ◌+◌, ◌*◌, ℤ, Bool, true, false, ◌&&◌, if◌then◌else◌, List, [], ◌∷◌, Option, Some, None, refl, ap, subst, arith, ◌∙◌}
use Rattle.std.specs.Prelude.{int_le, nat_lt}
use Rattle.cp_resolved.proofs.Words.{Name, same_name, range_of_base, cells_of, cells_in, is_bounded, are_few, is_indexed, is_free, are_free}
use Rattle.cp_meaning.specs.Types.{Range, Ty, ordinal, array_over, record_with, FieldTypes, no_field_types, more_field_types, length_of_range, is_within}
use Rattle.cp_meaning.specs.Values.{Choice, the_field, the_element, number_value}
use Rattle.cp_resolved.specs.Encoded.{Chosen, further_chosen, field_chosen, one_chosen, then_chosen, chosen_at, HasType}
use Rattle.cp_resolved.proofs.names.Alike.{same_inside as some_same}
use Rattle.cp_resolved.proofs.frames.LeastCells.{right_true as second_true}
use Rattle.cp_resolved.proofs.counts.FewCells.{left_of as first_true}

-- ---- ranges

at_most : (a b c : ℤ) → int_le a b ≡ true → int_le b c ≡ true → int_le a c ≡ true
at_most a b c h g = search (arith, h, g)

pub both_of : (a b : Bool) → a ≡ true → b ≡ true → (a && b) ≡ true
both_of a b h g = ap (λ c. c && b) h ∙ g

-- a value in a range is one of its base
pub within_base : (r : Range) → is_bounded r ≡ true → (z : ℤ) → is_within r z ≡ true → HasType (ordinal r) (number_value z)
within_base r b z h =
    let after : Bool = is_within (range_of_base r.base) r.high && int_le r.low r.high in
    let low : is_within (range_of_base r.base) r.low ≡ true = first_true (is_within (range_of_base r.base) r.low) after b in
    let high : is_within (range_of_base r.base) r.high ≡ true = first_true (is_within (range_of_base r.base) r.high) (int_le r.low r.high) (second_true (is_within (range_of_base r.base) r.low) after b) in
    both_of (int_le (range_of_base r.base).low z) (int_le z (range_of_base r.base).high)
    (at_most (range_of_base r.base).low r.low z (first_true (int_le (range_of_base r.base).low r.low) (int_le r.low (range_of_base r.base).high) low) (first_true (int_le r.low z) (int_le z r.high) h))
    (at_most z r.high (range_of_base r.base).high (second_true (int_le r.low z) (int_le z r.high) h) (second_true (int_le (range_of_base r.base).low r.high) (int_le r.high (range_of_base r.base).high) high))

-- ---- parts

-- a part further on is the same part
record Further (o : Option Chosen) (t : Ty) : Type 0 where
  pub part : Chosen
  pub is : o ≡ Some part
  pub same : part.1 ≡ t

further_some : (n : ℕ) (o : Option Chosen) (c : Chosen) → further_chosen n o ≡ Some c → Further o c.1
further_some n None c h = absurd (let bad : None ≡ Some c = h in cc)
further_some n (Some d) c h = record { part = d; is = refl; same = ap (λ (e : Chosen). e.1) (some_same (n + d.0, d.1) c h) }

field_free : (ts : FieldTypes) (x : Name) (c : Chosen) → are_free ts ≡ true → field_chosen ts x ≡ Some c → is_free c.1 ≡ true
field_free no_field_types x c f h = absurd (let bad : None ≡ Some c = h in cc)
field_free (more_field_types y t ts) x c f h = go (same_name x y) h (λ d g. field_free ts x d (second_true (is_free t) (are_free ts) f) g)
  where
    go : (b : Bool) → (if b then Some (0, t) else further_chosen (cells_of t) (field_chosen ts x)) ≡ Some c → ((d : Chosen) → field_chosen ts x ≡ Some d → is_free d.1 ≡ true) → is_free c.1 ≡ true
    go true e rest = subst (λ (u : Ty). is_free u ≡ true) (ap (λ (d : Chosen). d.1) (some_same (0, t) c e)) (first_true (is_free t) (are_free ts) f)
    go false e rest = let d = further_some (cells_of t) (field_chosen ts x) c e in subst (λ (u : Ty). is_free u ≡ true) d.same (rest d.part d.is)

pub element_is : (n : ℕ) (r : Range) (t : Ty) (c : Chosen) → one_chosen (array_over r t) (the_element n) ≡ Some c → t ≡ c.1
element_is n r t c h = go (nat_lt n (length_of_range r)) h
  where
    go : (b : Bool) → (if b then Some (n * cells_of t, t) else None) ≡ Some c → t ≡ c.1
    go true e = ap (λ (d : Chosen). d.1) (some_same (n * cells_of t, t) c e)
    go false e = absurd (let bad : None ≡ Some c = e in cc)

pub no_part : (c : Chosen) → None ≡ Some c → ⊥
no_part c h = let bad : None ≡ Some c = h in absurd cc

one_free : (t : Ty) (i : Choice) (c : Chosen) → is_free t ≡ true → one_chosen t i ≡ Some c → is_free c.1 ≡ true
one_free (record_with ts) (the_field x) c f h = field_free ts x c (second_true (are_few (cells_in ts)) (are_free ts) f) h
one_free (array_over r t) (the_element n) c f h = subst (λ (u : Ty). is_free u ≡ true) (element_is n r t c h) (second_true (is_indexed r t) (is_free t) f)
one_free _ _ c f h = absurd (no_part c h)

-- a part of what has neither queues nor components has none
pub free_part : (t : Ty) (cs : List Choice) (c : Chosen) → is_free t ≡ true → chosen_at t cs ≡ Some c → is_free c.1 ≡ true
free_part t [] c f h = subst (λ (u : Ty). is_free u ≡ true) (ap (λ (d : Chosen). d.1) (some_same (0, t) c h)) f
free_part t (i ∷ cs) c f h = go (one_chosen t i) refl h (λ u d g k. free_part u cs d g k)
  where
    go : (o : Option Chosen) → one_chosen t i ≡ o → then_chosen o (λ u. chosen_at u cs) ≡ Some c → ((u : Ty) (d : Chosen) → is_free u ≡ true → chosen_at u cs ≡ Some d → is_free d.1 ≡ true) → is_free c.1 ≡ true
    go None e g rest = absurd (no_part c g)
    go (Some d) e g rest = let k = further_some d.0 (chosen_at d.1 cs) c g in subst (λ (u : Ty). is_free u ≡ true) k.same (rest d.1 k.part (one_free t i d f e) k.is)
