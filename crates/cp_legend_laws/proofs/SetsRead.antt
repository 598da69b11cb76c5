-- A set is read from its eight cells as its members, in rising order: each of them has its bit in the words, and no other number has.
use Rattle.std.proofs.Common.{◌≡◌, ◌∙◌, ℕ, zero, suc, ◌+◌, ◌*◌, ◌<◌, ◌≤◌, ◌==◌, ◌⊎◌, inl, inr, ℤ, pos, Bool, true, false, if◌then◌else◌, List, [], ◌∷◌, ◌++◌, map, ap, ap₂, sym, refl, arith, le-ltb, lt-ltb}
use Rattle.std.specs.Prelude.{◌-◌, ◌/◌, ◌%◌, ◌^◌, ◌||◌, nat_lt, slice_index_or}
use Rattle.std.specs.Int.{bit_at, cast_unsigned, w16}
use Rattle.std.proofs.lemmas.Bool.{cases_lt, cases_eq}
use Rattle.std.proofs.lemmas.Bool.Decides.{Decides-eqb}
use Rattle.std.proofs.lemmas.Int.{of_z-to_z}
use Rattle.std.proofs.lemmas.Nat.{pow-add, pow_pos, pow_below, shr-shr}
use Rattle.std.proofs.lemmas.Nat.Bits.{bit_at-zero, bit_at-pow_same, bit_at-pow_other, bit_at_cat_low, bit_at_cat_high}
use Rattle.std.proofs.Math.Nat.{add-mul, mul_assoc, mod-add-div'}
use Rattle.cp_legend_laws.proofs.Words.{map-append, Name}
use Rattle.cp_symbols.specs.declared.kinds.CellBase.{CellBase}
use Rattle.cp_symbols.specs.Kinds.{most, plus}
use Rattle.cp_meaning.specs.Values.{is_member}
use Rattle.cp_resolved.specs.Encoded.{AreMembers, bits_of, set_cells, word_of}
use Rattle.cp_legend.specs.Values.{Value, cell, has_member, members_below, ordinal_value}

-- ---- bits

abbrev has_bit : ℕ → ℕ → Bool
has_bit x k = bit_at x k == 1

not_equal : (k n : ℕ) → (k ≡ n → ⊥) → (k == n) ≡ false
not_equal k n d = grind (arith, d)

pow_split : (low n : ℕ) → low ≤ n → 2 ^ n ≡ 2 ^ (n - low) * 2 ^ low
pow_split low n h = let e : n ≡ (n - low) + low = omega arith in ap (λ k. 2 ^ k) e ∙ pow-add 2 (n - low) low

-- what has no member below a number is a multiple of its power
multiple : (low : ℕ) (ns : List ℕ) → AreMembers low ns → (c : ℕ) × (bits_of ns ≡ c * 2 ^ low)
multiple low [] h = (0, omega arith)
multiple low (n ∷ ns) h =
    let more = multiple (suc n) ns h.2 in
    let less = h.0 in
    let a = pow_split low n (omega (arith, less)) in
    let b = pow_split low (suc n) (omega (arith, less)) in (
      2 ^ (n - low) + more.0 * 2 ^ (suc n - low),
      ap (λ k. 2 ^ n + k) more.1 ∙ (ap (λ k. k + more.0 * 2 ^ suc n) a ∙ (ap (λ k. 2 ^ (n - low) * 2 ^ low + more.0 * k) b
          ∙ (ap (λ k. 2 ^ (n - low) * 2 ^ low + k) (sym (mul_assoc more.0 (2 ^ (suc n - low)) (2 ^ low))) ∙ sym (add-mul (2 ^ (n - low)) (more.0 * 2 ^ (suc n - low)) (2 ^ low))))),
    )

-- one number, as a set
bit_of_power : (n k : ℕ) → has_bit (2 ^ n) k ≡ (k == n)
bit_of_power n k = go (cases_eq k n)
  where
    go : (k ≡ n) ⊎ (k ≡ n → ⊥) → has_bit (2 ^ n) k ≡ (k == n)
    go (inl e) = ap (λ j. has_bit (2 ^ n) j) e ∙ (ap (λ b. b == 1) (bit_at-pow_same n) ∙ sym ((Decides-eqb k n).1 e))
    go (inr d) = ap (λ b. b == 1) (bit_at-pow_other n k d) ∙ sym (not_equal k n d)

-- one more member below the others
bit_first : (n c k : ℕ) → has_bit (2 ^ n + c * 2 ^ suc n) k ≡ (k == n || has_bit (c * 2 ^ suc n) k)
bit_first n c k = go (cases_lt k (suc n))
  where
    turned : 2 ^ n + c * 2 ^ suc n ≡ c * 2 ^ suc n + 2 ^ n
    turned = omega arith

    nothing : c * 2 ^ suc n ≡ c * 2 ^ suc n + 0
    nothing = omega arith

    small : 2 ^ n < 2 ^ suc n
    small = pow_below n (suc n) (omega arith)

    or_nothing : (b : Bool) → b ≡ (b || false)
    or_nothing true = refl
    or_nothing false = refl

    go : (k < suc n) ⊎ (suc n ≤ k) → has_bit (2 ^ n + c * 2 ^ suc n) k ≡ (k == n || has_bit (c * 2 ^ suc n) k)
    go (inl less) =
        ap (λ x. has_bit x k) turned ∙ (ap (λ b. b == 1) (bit_at_cat_low c (suc n) (2 ^ n) k less) ∙ (bit_of_power n k
        ∙ (or_nothing (k == n) ∙ ap (λ b. k == n || b) (sym (ap (λ x. has_bit x k) nothing ∙ (ap (λ b. b == 1) (bit_at_cat_low c (suc n) 0 k less) ∙ ap (λ b. b == 1) (bit_at-zero k)))))))
    go (inr more) =
        ap (λ x. has_bit x k) turned ∙ (ap (λ b. b == 1) (bit_at_cat_high c (suc n) (2 ^ n) k small more) ∙ (sym (ap (λ x. has_bit x k) nothing ∙ ap (λ b. b == 1) (bit_at_cat_high c (suc n) 0 k (pow_pos (suc n)) more))
        ∙ ap (λ b. b || has_bit (c * 2 ^ suc n) k) (sym (not_equal k n (λ e. omega (arith, e, more))))))

-- a number is a member where the bits have its bit
bits_are : (low : ℕ) (ns : List ℕ) (k : ℕ) → AreMembers low ns → has_bit (bits_of ns) k ≡ is_member k ns
bits_are low [] k h = ap (λ b. b == 1) (bit_at-zero k)
bits_are low (n ∷ ns) k h =
    let more = multiple (suc n) ns h.2 in
    ap (λ x. has_bit (2 ^ n + x) k) more.1 ∙ (bit_first n more.0 k ∙ ap (λ b. k == n || b) (ap (λ x. has_bit x k) (sym more.1) ∙ bits_are (suc n) ns k h.2))

-- ---- words

-- the low bits of a number are those of its lowest word
low_bit : (x j : ℕ) → j < 16 → bit_at (x % 2 ^ 16) j ≡ bit_at x j
low_bit x j less =
    let e : x ≡ (x / 2 ^ 16) * 2 ^ 16 + x % 2 ^ 16 = (let a = mod-add-div' x (2 ^ 16) in omega (arith, a)) in
    sym (ap (λ y. bit_at y j) e ∙ bit_at_cat_low (x / 2 ^ 16) 16 (x % 2 ^ 16) j less)

word_bit : (b n : ℕ) → bit_at ((b / 2 ^ (16 * (n / 16))) % 2 ^ 16) (n % 16) ≡ bit_at b n
word_bit b n =
    let e : 16 * (n / 16) + n % 16 ≡ n = omega arith in
    low_bit (b / 2 ^ (16 * (n / 16))) (n % 16) (omega arith) ∙ ap (λ x. x % 2) (shr-shr b (16 * (n / 16)) (n % 16)) ∙ ap (bit_at b) e

-- a word as it is stored has the bits that it had
stored_bit : (b n : ℕ) → bit_at (cast_unsigned w16 (word_of b (n / 16))) (n % 16) ≡ bit_at b n
stored_bit b n = ap (λ w. bit_at w (n % 16)) (of_z-to_z w16 ((b / 2 ^ (16 * (n / 16))) % 2 ^ 16) (omega arith)) ∙ word_bit b n

pub word_there : (b k : ℕ) → k < 8 → slice_index_or (set_cells b) k (pos 0) ≡ word_of b k
word_there b zero h = refl
word_there b (suc zero) h = refl
word_there b (suc (suc zero)) h = refl
word_there b (suc (suc (suc zero))) h = refl
word_there b (suc (suc (suc (suc zero)))) h = refl
word_there b (suc (suc (suc (suc (suc zero))))) h = refl
word_there b (suc (suc (suc (suc (suc (suc zero)))))) h = refl
word_there b (suc (suc (suc (suc (suc (suc (suc zero))))))) h = refl
word_there b (suc (suc (suc (suc (suc (suc (suc (suc k)))))))) h = absurd (omega (arith, h))

-- ---- the members below a number

abbrev below : ℕ → List ℕ → List ℕ
below m [] = []
below m (n ∷ ns) = if nat_lt n m then n ∷ below m ns else below m ns

abbrev one_if : Bool → ℕ → List ℕ
one_if b m = if b then m ∷ [] else []

none_low : (low m : ℕ) (ns : List ℕ) → AreMembers low ns → m ≤ low → below m ns ≡ []
none_low low m [] h le = refl
none_low low m (n ∷ ns) h le =
    let less = h.0 in
    ap (λ (b : Bool). if b then n ∷ below m ns else below m ns) (le-ltb n m (omega (arith, less, le))) ∙ none_low (suc n) m ns h.2 (omega (arith, less, le))

none_among : (low m : ℕ) (ns : List ℕ) → AreMembers low ns → m < low → is_member m ns ≡ false
none_among low m [] h lt = refl
none_among low m (n ∷ ns) h lt =
    let less = h.0 in
    ap (λ (b : Bool). b || is_member m ns) (not_equal m n (λ e. omega (arith, e, less, lt))) ∙ none_among (suc n) m ns h.2 (omega (arith, less, lt))

below_more : (low m : ℕ) (ns : List ℕ) → AreMembers low ns → below (suc m) ns ≡ below m ns ++ one_if (is_member m ns) m
below_more low m [] h = refl
below_more low m (n ∷ ns) h = go (cases_lt n m) (below_more (suc n) m ns h.2)
  where
    Goal : Bool → Bool → Bool → Type 0
    Goal a b c = (if a then n ∷ below (suc m) ns else below (suc m) ns) ≡ (if b then n ∷ below m ns else below m ns) ++ one_if (c || is_member m ns) m

    by : (a b c : Bool) → nat_lt n (suc m) ≡ a → nat_lt n m ≡ b → (m == n) ≡ c → Goal a b c → Goal (nat_lt n (suc m)) (nat_lt n m) (m == n)
    by a b c e f g goal = rw (e, f, g) goal

    go : (n < m) ⊎ (m ≤ n) → below (suc m) ns ≡ below m ns ++ one_if (is_member m ns) m → Goal (nat_lt n (suc m)) (nat_lt n m) (m == n)
    go (inl lt) ih = by true true false (lt-ltb n (suc m) (omega (arith, lt))) (lt-ltb n m lt) (not_equal m n (λ e. omega (arith, e, lt))) (ap (λ (xs : List ℕ). n ∷ xs) ih)
    go (inr le) ih = last (cases_eq m n) ih
      where
        last : (m ≡ n) ⊎ (m ≡ n → ⊥) → below (suc m) ns ≡ below m ns ++ one_if (is_member m ns) m → Goal (nat_lt n (suc m)) (nat_lt n m) (m == n)
        last (inl e) ih =
            by true false true (lt-ltb n (suc m) (omega (arith, e))) (le-ltb n m le) ((Decides-eqb m n).1 e)
            (ap₂ (λ (x : ℕ) (xs : List ℕ). x ∷ xs) (sym e) (none_low (suc n) (suc m) ns h.2 (omega (arith, e))) ∙ ap (λ (xs : List ℕ). xs ++ m ∷ []) (sym (none_low (suc n) m ns h.2 (omega (arith, e)))))
        last (inr d) ih = by false false false (le-ltb n (suc m) (omega (arith, le, d))) (le-ltb n m le) (not_equal m n d) ih

all_below : (low : ℕ) (ns : List ℕ) → AreMembers low ns → below 128 ns ≡ ns
all_below low [] h = refl
all_below low (n ∷ ns) h = ap (λ (b : Bool). if b then n ∷ below 128 ns else below 128 ns) (lt-ltb n 128 h.1) ∙ ap (λ (xs : List ℕ). n ∷ xs) (all_below (suc n) ns h.2)

-- ---- what is read

module _ (cs : List Name) (b : CellBase) (cells : List ℤ) (at : ℕ) (ns : List ℕ) (are : AreMembers 0 ns) (inside : at + 8 ≤ most) (there : (k : ℕ) → k < 8 → cell cells (at + k) ≡ word_of (bits_of ns) k) where
  abbrev told : ℕ → Value
  told n = ordinal_value cs b (pos n)

  one_read : (n : ℕ) → n < 128 → has_member cells at n ≡ is_member n ns
  one_read n less =
      let k : n / 16 < 8 = omega arith in
      let e : plus at (n / 16) ≡ at + n / 16 = omega (arith, inside, k) in
      ap (λ z. bit_at (cast_unsigned w16 z) (n % 16) == 1) (ap (cell cells) e ∙ there (n / 16) k) ∙ ap (λ x. x == 1) (stored_bit (bits_of ns) n) ∙ bits_are 0 ns n are

  member_read : (n : ℕ) (c : Bool) → (if c then told n ∷ [] else []) ≡ map told (one_if c n)
  member_read n true = refl
  member_read n false = refl

  some_read : (m : ℕ) → m ≤ 128 → members_below cs b cells at m ≡ map told (below m ns)
  unfolding members_below
  some_read zero le = ap (map told) (sym (none_low 0 0 ns are (omega arith)))
  some_read (suc m) le =
      ap₂ (λ (xs ys : List Value). xs ++ ys) (some_read m (omega (arith, le))) (ap (λ (c : Bool). if c then told m ∷ [] else []) (one_read m (omega (arith, le))) ∙ member_read m (is_member m ns))
      ∙ sym (map-append told (below m ns) (one_if (is_member m ns) m))
      ∙ ap (map told) (sym (below_more 0 m ns are))

  pub members_read : members_below cs b cells at 128 ≡ map told ns
  members_read = some_read 128 (omega arith) ∙ ap (map told) (all_below 0 ns are)
