-- The members of a set are within the bounds of a type on slots where they are on names.
use Rattle.std.proofs.Common.{◌≡◌, ◌∙◌, ℕ, zero, suc, ◌<◌, ◌≤◌, ◌==◌, ◌⊎◌, inl, inr, Bool, true, false, if◌then◌else◌, List, [], ◌∷◌, ap, sym, refl, arith}
use Rattle.cp_machine_laws.proofs.Words.{ℤ, pos, negsuc, int_le, ◌&&◌, ◌||◌, nat_lt, Ok, Err, ints, Range, natural_of, is_within, is_member, bits_of, AreMembers}
use Rattle.std.proofs.lemmas.Bool.{and_parts, cases_eq, cases_lt, le-ltb}
use Rattle.std.proofs.lemmas.Bool.Decides.{Decides-eqb}
use Rattle.cp_store.specs.declared.error.ErrorName.TheVariants.{Range as out_of_bounds}
use Rattle.cp_store.specs.Sets as sets
use Rattle.cp_store.specs.Sets.{has_bit, are_within}
use Rattle.cp_store.proofs.Members.{ranges}
use Rattle.cp_meaning.specs.Operations as names
use Rattle.cp_machine_laws.proofs.expressions.Members.{not_equal, none_above, bits_are, set_with}

-- ---- on names

all_within : (r : Range) (ns : List ℕ) → ((k : ℕ) → is_member k ns ≡ true → is_within r (pos k) ≡ true) → names.are_within r ns ≡ true
all_within r [] h = refl
all_within r (n ∷ ns) h =
    ap (λ b. b && names.are_within r ns) (h n (ap (λ b. b || is_member n ns) ((Decides-eqb n n).1 refl)))
    ∙ all_within r ns (λ k e. h k (ap (λ b. k == n || b) e ∙ or_true (k == n)))
  where
    or_true : (b : Bool) → (b || true) ≡ true
    or_true true = refl
    or_true false = refl

one_within : (r : Range) (ns : List ℕ) (k : ℕ) → names.are_within r ns ≡ true → is_member k ns ≡ true → is_within r (pos k) ≡ true
one_within r [] k h e = absurd (cc)
one_within r (n ∷ ns) k h e = go (cases_eq k n) (λ d. one_within r ns k (and_parts (is_within r (pos n)) (names.are_within r ns) h).1 d)
  where
    go : (k ≡ n) ⊎ (k ≡ n → ⊥) → (is_member k ns ≡ true → is_within r (pos k) ≡ true) → is_within r (pos k) ≡ true
    go (inl same) ih = ap (λ j. is_within r (pos j)) same ∙ (and_parts (is_within r (pos n)) (names.are_within r ns) h).0
    go (inr other) ih = ih (sym (ap (λ b. b || is_member k ns) (not_equal k n other)) ∙ e)

-- ---- on slots

bits_within : (low high b n : ℕ) → ((k : ℕ) → k < n → has_bit b k ≡ true → (low ≤ k) × (k ≤ high)) → are_within low high b n ≡ true
unfolding are_within
bits_within low high b zero h = refl
bits_within low high b (suc n) h = go (has_bit b n) (λ e. h n (omega arith) e) (bits_within low high b n (λ k less e. h k (omega (arith, less)) e))
  where
    go : (c : Bool) → (c ≡ true → (low ≤ n) × (n ≤ high)) → are_within low high b n ≡ true → (if (nat_lt n low || nat_lt high n) && c then false else are_within low high b n) ≡ true
    go true w ih = ap (λ x. if (x || nat_lt high n) && true then false else are_within low high b n) (le-ltb n low (w refl).0) ∙ (ap (λ x. if x && true then false else are_within low high b n) (le-ltb high n (w refl).1) ∙ ih)
    go false w ih = ap (λ x. if x then false else are_within low high b n) (and_no (nat_lt n low || nat_lt high n)) ∙ ih
      where
        and_no : (x : Bool) → (x && false) ≡ false
        and_no true = refl
        and_no false = refl

-- ---- both

inside : (low high : ℤ) (k : ℕ) → int_le (pos 0) high ≡ true → natural_of low ≤ k → k ≤ natural_of high → (int_le low (pos k) && int_le (pos k) high) ≡ true
inside (pos a) (pos b) k h i j = grind (arith, ints, i, j)
inside (negsuc a) (pos b) k h i j = grind (arith, ints, j)
inside (pos a) (negsuc b) k h i j = absurd (cc)
inside (negsuc a) (negsuc b) k h i j = absurd (cc)

bounded : (low high : ℤ) (k : ℕ) → (int_le low (pos k) && int_le (pos k) high) ≡ true → (natural_of low ≤ k) × (k ≤ natural_of high)
bounded (pos a) (pos b) k h = (grind (arith, ints, h), grind (arith, ints, h))
bounded (negsuc a) (pos b) k h = (omega arith, grind (arith, ints, h))
bounded (pos a) (negsuc b) k h = absurd (below_nothing (int_le (pos a) (pos k)) h)
  where
    below_nothing : (x : Bool) → (x && false) ≡ true → ⊥
    below_nothing true e = cc
    below_nothing false e = cc
bounded (negsuc a) (negsuc b) k h = absurd (cc)

pub same_truth : (x y : Bool) → (x ≡ true → y ≡ true) → (y ≡ true → x ≡ true) → x ≡ y
same_truth true y f g = sym (f refl)
same_truth false true f g = g refl
same_truth false false f g = refl

small_member : (ns : List ℕ) (k : ℕ) → AreMembers 0 ns → is_member k ns ≡ true → k < 128
small_member ns k h e = go (cases_lt k 128)
  where
    go : (k < 128) ⊎ (128 ≤ k) → k < 128
    go (inl less) = less
    go (inr more) = (let w = none_above 0 ns k h more in absurd (cc))

-- the greatest value of a set's base is no negative number
pub set_range_same : (r : Range) (ns : List ℕ) → AreMembers 0 ns → int_le (pos 0) r.high ≡ true → names.are_within r ns ≡ are_within (natural_of r.low) (natural_of r.high) (bits_of ns) 128
set_range_same r ns h base =
    same_truth (names.are_within r ns) (are_within (natural_of r.low) (natural_of r.high) (bits_of ns) 128)
    (λ e. bits_within (natural_of r.low) (natural_of r.high) (bits_of ns) 128 (λ k less bit. bounded r.low r.high k (one_within r ns k e (sym (bits_are 0 ns k h) ∙ bit))))
    (λ e. all_within r ns (λ k is. (let w = ranges (natural_of r.low) (natural_of r.high) (set_with (bits_of ns)) (set_with (bits_of ns)) (ranged_is e) k (small_member ns k h is) (bits_are 0 ns k h ∙ is) in inside r.low r.high k base w.0 w.1)))
  where
    ranged_is : are_within (natural_of r.low) (natural_of r.high) (bits_of ns) 128 ≡ true → sets.check_members (natural_of r.low) (natural_of r.high) (set_with (bits_of ns)) ≡ Ok (set_with (bits_of ns))
    ranged_is e = ap (λ b. if b then Ok (set_with (bits_of ns)) else Err out_of_bounds) e
