-- Types that stand have few cells, and none of their arrays is without elements.
use Rattle.cp_resolved.proofs.Words.{◌≡◌, ◌*◌, ◌≤◌, ℤ, pos, negsuc, Bool, true, false, ◌&&◌, arith, leb-true, range_of_base, cells_of, cells_in, IsFull, AreFull}
use Rattle.cp_resolved.proofs.Words.{or_left, or_right, ◌+ℤ◌, ◌-ℤ◌, int_le, int_lt, ◌||◌, is_bounded, are_few, is_indexed, is_free, are_free, is_element, is_standing}
use Rattle.cp_meaning.specs.Types.{Range, Ty, array_over, record_with, FieldTypes, no_field_types, more_field_types, is_within, all_characters, natural_of, length_of_range}
use Rattle.cp_resolved.proofs.frames.LeastCells.{right_true as right_of}
pub use Rattle.cp_resolved.proofs.frames.LeastCells.{left_true as left_of}

-- ---- ranges

pub in_order : (r : Range) → is_bounded r ≡ true → int_le r.low r.high ≡ true
in_order r h =
    right_of (is_within (range_of_base r.base) r.high) (int_le r.low r.high) (right_of (is_within (range_of_base r.base) r.low) (is_within (range_of_base r.base) r.high && int_le r.low r.high) h)

pub not_negative : (a b : ℤ) → int_le a b ≡ true → int_le (pos 0) (b -ℤ a) ≡ true
not_negative a b h = search (arith, h)

one_more : (z : ℤ) → int_le (pos 0) z ≡ true → 1 ≤ natural_of (z +ℤ pos 1)
one_more (pos n) h = omega arith
one_more (negsuc n) h = absurd (let bad : false ≡ true = h in cc)

some_values : (r : Range) → is_bounded r ≡ true → 1 ≤ length_of_range r
some_values r h = one_more (r.high -ℤ r.low) (not_negative r.low r.high (in_order r h))

-- the first is not below 0 and the last not above 127
pub characters_within : (a b : ℤ) → (int_lt a (pos 0) || int_lt (pos 127) b) ≡ false → int_le a b ≡ true → (is_within all_characters a ≡ true) × (is_within all_characters b ≡ true)
characters_within a b e h =
    let low : int_lt a (pos 0) ≡ false = or_left (int_lt a (pos 0)) (int_lt (pos 127) b) e in
    let high : int_lt (pos 127) b ≡ false = or_right (int_lt a (pos 0)) (int_lt (pos 127) b) e in
    (one a b low high h, other a b low high h)
  where
    one : (a b : ℤ) → int_lt a (pos 0) ≡ false → int_lt (pos 127) b ≡ false → int_le a b ≡ true → is_within all_characters a ≡ true
    one a b l u h = search (arith, l, u, h)

    other : (a b : ℤ) → int_lt a (pos 0) ≡ false → int_lt (pos 127) b ≡ false → int_le a b ≡ true → is_within all_characters b ≡ true
    other a b l u h = search (arith, l, u, h)

-- ---- cells

indexed_few : (r : Range) (t : Ty) (b : Bool) → (is_indexed r t && b) ≡ true → length_of_range r * cells_of t ≤ 8192
indexed_few r t b h = leb-true (length_of_range r * cells_of t) 8192 (right_of (is_bounded r) (are_few (length_of_range r * cells_of t)) (left_of (is_indexed r t) b h))

pub few_free : (t : Ty) → is_free t ≡ true → cells_of t ≤ 8192
few_free (array_over r t) h = indexed_few r t (is_free t) h
few_free (record_with ts) h = leb-true (cells_in ts) 8192 (left_of (are_few (cells_in ts)) (are_free ts) h)
few_free x h = omega arith

pub few_element : (t : Ty) → is_element t ≡ true → cells_of t ≤ 8192
few_element (array_over r t) h = few_free (array_over r t) h
few_element (record_with ts) h = few_free (record_with ts) h
few_element x h = omega arith

pub few_standing : (t : Ty) → is_standing t ≡ true → cells_of t ≤ 8192
few_standing (array_over r t) h = indexed_few r t (is_element t) h
few_standing (record_with ts) h = few_free (record_with ts) h
few_standing x h = omega arith

-- ---- arrays

indexed_some : (r : Range) (t : Ty) (b : Bool) → (is_indexed r t && b) ≡ true → 1 ≤ length_of_range r
indexed_some r t b h = some_values r (left_of (is_bounded r) (are_few (length_of_range r * cells_of t)) (left_of (is_indexed r t) b h))

mutual
  pub full_free : (t : Ty) → is_free t ≡ true → IsFull t
  full_free (array_over r t) h = (indexed_some r t (is_free t) h, full_free t (right_of (is_indexed r t) (is_free t) h))
  full_free (record_with ts) h = all_full ts (right_of (are_few (cells_in ts)) (are_free ts) h)
  full_free _ h = tt

  all_full : (ts : FieldTypes) → are_free ts ≡ true → AreFull ts
  all_full no_field_types h = tt
  all_full (more_field_types x t ts) h = (full_free t (left_of (is_free t) (are_free ts) h), all_full ts (right_of (is_free t) (are_free ts) h))

full_element : (t : Ty) → is_element t ≡ true → IsFull t
full_element (array_over r t) h = full_free (array_over r t) h
full_element (record_with ts) h = full_free (record_with ts) h
full_element _ h = tt

pub full_standing : (t : Ty) → is_standing t ≡ true → IsFull t
full_standing (array_over r t) h = (indexed_some r t (is_element t) h, full_element t (right_of (is_indexed r t) (is_element t) h))
full_standing (record_with ts) h = full_free (record_with ts) h
full_standing _ h = tt
