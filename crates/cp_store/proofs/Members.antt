-- Sets by their members.
use Rattle.std.proofs.Common.{◌≡◌, ◌≢◌, ℕ, ◌+◌, ◌%◌, ◌^◌, ◌<◌, ◌≤◌, ◌==◌, ◌⊎◌, inl, inr, zero, suc, min, max, Bool, true, false, not, ◌&&◌, ◌||◌, nat_lt, if◌then◌else◌, Ok, Err, ℤ, pos, negsuc, ap, refl, sym, ◌∙◌, arith}
use Rattle.std.specs.Prelude.{bit_and, bit_or, bit_xor, unsigned_abs}
use Rattle.std.specs.Ordering.{int_eq}
use Rattle.std.specs.Int.{bit_at}
use Rattle.std.proofs.lemmas.Bool.{cases_lt}
use Rattle.std.proofs.lemmas.Bool.Decides.{Decides-eqb, Decides-int_eq, same_from_decides, nat_tests}
use Rattle.std.proofs.lemmas.Nat.Bits.{bit_at_and, bit_at_or, bit_at_xor, bit_at-lt, bit_at-pow_same, bit_at-pow_other}
use Rattle.cp_slots.specs.declared.place.SetOperation.TheVariants.{Union, Difference, Intersection}
use Rattle.cp_store.specs.declared.error.ErrorName.TheVariants.{Range}
use Rattle.cp_store.specs.declared.set.SetValue.{SetValue}
use Rattle.cp_store.specs.Sets.{has_bit, is_member, are_within}
use Rattle.cp_store.specs.SetLaws.{CombinationsJoinMembers, ElementsBecomeMembers, RangedMembersAreWithin}
use Rattle.cp_store.specs.Values.{is_within}

-- ---- on single bits

bit_or_one : (x y : ℕ) → x < 2 → y < 2 → (max x y == 1) ≡ ((x == 1) || (y == 1))
bit_or_one zero zero f g = refl
bit_or_one zero (suc zero) f g = refl
bit_or_one (suc zero) zero f g = refl
bit_or_one (suc zero) (suc zero) f g = refl
bit_or_one zero (suc (suc y)) f g = absurd (omega arith)
bit_or_one (suc zero) (suc (suc y)) f g = absurd (omega arith)
bit_or_one (suc (suc x)) y f g = absurd (omega arith)

bit_and_one : (x y : ℕ) → x < 2 → y < 2 → (min x y == 1) ≡ ((x == 1) && (y == 1))
bit_and_one zero zero f g = refl
bit_and_one zero (suc zero) f g = refl
bit_and_one (suc zero) zero f g = refl
bit_and_one (suc zero) (suc zero) f g = refl
bit_and_one zero (suc (suc y)) f g = absurd (omega arith)
bit_and_one (suc zero) (suc (suc y)) f g = absurd (omega arith)
bit_and_one (suc (suc x)) y f g = absurd (omega arith)

bit_less_one : (x y : ℕ) → x < 2 → y < 2 → (min x ((x + y) % 2) == 1) ≡ ((x == 1) && not (y == 1))
bit_less_one zero zero f g = refl
bit_less_one zero (suc zero) f g = refl
bit_less_one (suc zero) zero f g = refl
bit_less_one (suc zero) (suc zero) f g = refl
bit_less_one zero (suc (suc y)) f g = absurd (omega arith)
bit_less_one (suc zero) (suc (suc y)) f g = absurd (omega arith)
bit_less_one (suc (suc x)) y f g = absurd (omega arith)

-- ---- on all bits

pub bits_of_union : (a b k : ℕ) → has_bit (bit_or a b) k ≡ (has_bit a k || has_bit b k)
bits_of_union a b k = ap (λ n. n == 1) (bit_at_or a b k) ∙ bit_or_one (bit_at a k) (bit_at b k) (bit_at-lt a k) (bit_at-lt b k)

bits_of_intersection : (a b k : ℕ) → has_bit (bit_and a b) k ≡ (has_bit a k && has_bit b k)
bits_of_intersection a b k = ap (λ n. n == 1) (bit_at_and a b k) ∙ bit_and_one (bit_at a k) (bit_at b k) (bit_at-lt a k) (bit_at-lt b k)

bits_of_difference : (a b k : ℕ) → has_bit (bit_and a (bit_xor a b)) k ≡ (has_bit a k && not (has_bit b k))
bits_of_difference a b k =
    ap (λ n. n == 1) (bit_at_and a (bit_xor a b) k ∙ ap (min (bit_at a k)) (bit_at_xor a b k))
    ∙ bit_less_one (bit_at a k) (bit_at b k) (bit_at-lt a k) (bit_at-lt b k)

-- ---- members

over_or : (w p q : Bool) → (w && (p || q)) ≡ ((w && p) || (w && q))
over_or true p q = refl
over_or false p q = refl

over_and : (w p q : Bool) → (w && (p && q)) ≡ ((w && p) && (w && q))
over_and true p q = refl
over_and false p q = refl

over_less : (w p q : Bool) → (w && (p && not q)) ≡ ((w && p) && not (w && q))
over_less true p q = refl
over_less false p q = refl

pub combinations : CombinationsJoinMembers
combinations Union s t z = ap (λ b. is_within (pos 0) (pos 127) z && b) (bits_of_union s.members t.members (unsigned_abs z)) ∙ over_or (is_within (pos 0) (pos 127) z) _ _
combinations Difference s t z = ap (λ b. is_within (pos 0) (pos 127) z && b) (bits_of_difference s.members t.members (unsigned_abs z)) ∙ over_less (is_within (pos 0) (pos 127) z) _ _
combinations Intersection s t z = ap (λ b. is_within (pos 0) (pos 127) z && b) (bits_of_intersection s.members t.members (unsigned_abs z)) ∙ over_and (is_within (pos 0) (pos 127) z) _ _

-- ---- one element

one_bit : (a b : ℕ) (t : Bool) → (a == b) ≡ t → has_bit (2 ^ b) a ≡ true → a ≡ b
one_bit a b true e h = (Decides-eqb a b).0 e
one_bit a b false e h =
    let other : a ≢ b = λ same. (let equal = (Decides-eqb a b).1 same in cc) in
    let without : bit_at (2 ^ b) a ≡ 0 = bit_at-pow_other b a other in
    let no : has_bit (2 ^ b) a ≡ false = ap (λ n. n == 1) without in
    absurd (cc)

and_left : (a b : Bool) → (a && b) ≡ true → a ≡ true
and_left true b h = refl
and_left false b h = h

and_right : (a b : Bool) → (a && b) ≡ true → b ≡ true
and_right true b h = h
and_right false b h = absurd (cc)

not_negative : (z : ℤ) → is_within (pos 0) (pos 127) z ≡ true → z ≡ pos (unsigned_abs z)
not_negative (pos n) h = refl
not_negative (negsuc n) h = absurd (cc)

is_the_element : (x z : ℤ) → is_within (pos 0) (pos 127) x ≡ true → (is_within (pos 0) (pos 127) z && has_bit (2 ^ unsigned_abs x) (unsigned_abs z)) ≡ true → z ≡ x
is_the_element x z within h =
    let inside = and_left _ _ h in
    let bit = and_right (is_within (pos 0) (pos 127) z) _ h in
    not_negative z inside ∙ ap pos (one_bit (unsigned_abs z) (unsigned_abs x) _ refl bit) ∙ sym (not_negative x within)

is_in : (x z : ℤ) → is_within (pos 0) (pos 127) x ≡ true → z ≡ x → (is_within (pos 0) (pos 127) z && has_bit (2 ^ unsigned_abs x) (unsigned_abs z)) ≡ true
is_in x z within same =
    let bit : has_bit (2 ^ unsigned_abs x) (unsigned_abs x) ≡ true = ap (λ n. n == 1) (bit_at-pow_same (unsigned_abs x)) in
    rw (same, within, bit) refl

alone : (x z : ℤ) → is_within (pos 0) (pos 127) x ≡ true → (is_within (pos 0) (pos 127) z && has_bit (2 ^ unsigned_abs x) (unsigned_abs z)) ≡ int_eq z x
alone x z within = same_from_decides _ _ (is_the_element x z within, is_in x z within) (Decides-int_eq z x)

abbrev added : SetValue → ℤ → SetValue
added s x = record { members = bit_or s.members (2 ^ unsigned_abs x) }

with_one : (s t : SetValue) (x z : ℤ) (w : Bool) → is_within (pos 0) (pos 127) x ≡ w → (if w then Ok (added s x) else Err Range) ≡ Ok t → is_member t z ≡ (is_member s z || int_eq z x)
with_one s t x z false e h = absurd (cc)
with_one s t x z true e h =
    let is : added s x ≡ t = cc in
    ap (λ u. is_member u z) (sym is)
    ∙ ap (λ b. is_within (pos 0) (pos 127) z && b) (bits_of_union s.members (2 ^ unsigned_abs x) (unsigned_abs z))
    ∙ over_or (is_within (pos 0) (pos 127) z) _ _
    ∙ ap (λ b. is_member s z || b) (alone x z e)

pub elements : ElementsBecomeMembers
elements s t x z h = with_one s t x z _ refl h

-- ---- bounds

not_out : (low high k : ℕ) → (nat_lt k low || nat_lt high k) ≡ false → (low ≤ k) × (k ≤ high)
not_out low high k h = (grind (arith, nat_tests), grind (arith, nat_tests))

and_false : (a b : Bool) → (a && b) ≡ false → b ≡ true → a ≡ false
and_false true b h e = absurd (cc)
and_false false b h e = refl

bounded : (low high members n k : ℕ) (rest out : Bool) → ((nat_lt n low || nat_lt high n) && has_bit members n) ≡ out → (if out then false else rest) ≡ true → (rest ≡ true → k < n → (low ≤ k) × (k ≤ high)) → k < suc n → has_bit members k ≡ true → (low ≤ k) × (k ≤ high)
bounded low high members n k rest true e h below lt bit = absurd (cc)
bounded low high members n k rest false e h below lt bit = by_last (cases_lt k n)
  where
    by_last : (k < n) ⊎ (n ≤ k) → (low ≤ k) × (k ≤ high)
    by_last (inl less) = below h less
    by_last (inr more) =
        let last : k ≡ n = omega arith in
        let set : has_bit members n ≡ true = ap (has_bit members) (sym last) ∙ bit in
        let inside = not_out low high n (and_false _ _ e set) in
        (omega (arith, inside.0), omega (arith, inside.1))

all_bounded : (low high members n k : ℕ) → are_within low high members n ≡ true → k < n → has_bit members k ≡ true → (low ≤ k) × (k ≤ high)
unfolding are_within
all_bounded low high members zero k h lt bit = absurd (omega arith)
all_bounded low high members (suc n) k h lt bit =
    bounded low high members n k (are_within low high members n) _ refl h (λ rest less. all_bounded low high members n k rest less bit) lt bit

within_when : (b : Bool) (s t : SetValue) → (if b then Ok s else Err Range) ≡ Ok t → b ≡ true
within_when true s t h = refl
within_when false s t h = absurd (cc)

pub ranges : RangedMembersAreWithin
ranges low high s t h k lt bit = all_bounded low high s.members 128 k (within_when _ s t h) lt bit
