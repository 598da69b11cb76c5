-- Bits of sets of processes.
use Rattle.std.proofs.Common.{◌≡◌, ◌<◌, ◌≤◌, ◌^◌, ◌*◌, ◌%◌, ◌+◌, ◌&&◌, ◌||◌, ℕ, zero, suc, Bool, true, false, not, nat_eq, nat_lt, if◌then◌else◌, min, max, refl, arith, bit_and, bit_or, bit_xor, ap, ◌∙◌, sym, zero-mul}
use Rattle.std.specs.Int.{bit_at}
use Rattle.std.proofs.lemmas.Bool.{eqb-true, eqb-false, ltb-true, ltb-false}
use Rattle.std.proofs.Math.Dec.{eqb-suc-zero}
use Rattle.std.proofs.lemmas.Nat.{pow_pos, and_le_r}
use Rattle.std.proofs.lemmas.Nat.Bits.{bit_at_or, bit_at_and, bit_at_xor, bit_at-lt, bit_at-zero, bit_at-pow_same, bit_at-pow_other, bit_at_above, and_pow, same_from_bits}

one_of_both : (x y : ℕ) → x < 2 → y < 2 → nat_eq (max x y) 1 ≡ (nat_eq x 1 || nat_eq y 1)
one_of_both (suc (suc x)) y h k = absurd (omega arith)
one_of_both x (suc (suc y)) h k = absurd (omega arith)
one_of_both _ _ h k = refl

both_one : (x y : ℕ) → x < 2 → y < 2 → nat_eq (min x y) 1 ≡ (nat_eq x 1 && nat_eq y 1)
both_one (suc (suc x)) y h k = absurd (omega arith)
both_one x (suc (suc y)) h k = absurd (omega arith)
both_one _ _ h k = refl

one_alone : (x y : ℕ) → x < 2 → y < 2 → nat_eq ((x + min x y) % 2) 1 ≡ (nat_eq x 1 && not (nat_eq y 1))
one_alone (suc (suc x)) y h k = absurd (omega arith)
one_alone x (suc (suc y)) h k = absurd (omega arith)
one_alone _ _ h k = refl

-- a process is in the union, in the intersection, in the difference
pub or_has : (a b q : ℕ) → nat_eq (bit_at (bit_or a b) q) 1 ≡ (nat_eq (bit_at a q) 1 || nat_eq (bit_at b q) 1)
or_has a b q = ap (λ x. nat_eq x 1) (bit_at_or a b q) ∙ one_of_both (bit_at a q) (bit_at b q) (bit_at-lt a q) (bit_at-lt b q)

pub and_has : (a b q : ℕ) → nat_eq (bit_at (bit_and a b) q) 1 ≡ (nat_eq (bit_at a q) 1 && nat_eq (bit_at b q) 1)
and_has a b q = ap (λ x. nat_eq x 1) (bit_at_and a b q) ∙ both_one (bit_at a q) (bit_at b q) (bit_at-lt a q) (bit_at-lt b q)

pub but_has : (a b q : ℕ) → nat_eq (bit_at (bit_xor a (bit_and a b)) q) 1 ≡ (nat_eq (bit_at a q) 1 && not (nat_eq (bit_at b q) 1))
but_has a b q =
    ap (λ x. nat_eq x 1) (bit_at_xor a (bit_and a b) q) ∙ (ap (λ x. nat_eq ((bit_at a q + x) % 2) 1) (bit_at_and a b q) ∙ one_alone (bit_at a q) (bit_at b q) (bit_at-lt a q) (bit_at-lt b q))

-- the number that has the bit of a process alone
abbrev pub alone : ℕ → ℕ
alone p = if nat_lt p 16 then 2 ^ p else 0

no_bit : (q : ℕ) → nat_eq (bit_at 0 q) 1 ≡ false
no_bit q = ap (λ x. nat_eq x 1) (bit_at-zero q)

pow_has : (p q : ℕ) (b : Bool) → nat_eq q p ≡ b → nat_eq (bit_at (2 ^ p) q) 1 ≡ b
pow_has p q true e = ap (λ x. nat_eq (bit_at (2 ^ p) x) 1) (eqb-true q p e) ∙ ap (λ x. nat_eq x 1) (bit_at-pow_same p)
pow_has p q false e = ap (λ x. nat_eq x 1) (bit_at-pow_other p q (eqb-false q p e))

apart : (p q : ℕ) (b : Bool) → nat_eq q p ≡ b → 16 ≤ q → p < 16 → b ≡ false
apart p q true e k h = let same : q ≡ p = eqb-true q p e in absurd (omega arith)
apart p q false e k h = refl

-- a process from 16 on is in no set of one
alone_below : (p q : ℕ) (b : Bool) → nat_lt q 16 ≡ b → p < 16 → nat_eq q p ≡ (b && nat_eq q p)
alone_below p q true e h = refl
alone_below p q false e h = apart p q (nat_eq q p) refl (ltb-false q 16 e) h

none_from : (p q : ℕ) (b c : Bool) → nat_lt q 16 ≡ b → nat_eq q p ≡ c → 16 ≤ p → false ≡ (b && c)
none_from p q true true e f h = let same : q ≡ p = eqb-true q p f in let less : q < 16 = ltb-true q 16 e in absurd (omega arith)
none_from p q _ _ e f h = refl

alone_by : (p q : ℕ) (b : Bool) → nat_lt p 16 ≡ b → nat_eq (bit_at (if b then 2 ^ p else 0) q) 1 ≡ (nat_lt q 16 && nat_eq q p)
alone_by p q true e = pow_has p q (nat_eq q p) refl ∙ alone_below p q (nat_lt q 16) refl (ltb-true p 16 e)
alone_by p q false e = no_bit q ∙ none_from p q (nat_lt q 16) (nat_eq q p) refl refl (ltb-false p 16 e)

apart_from_zero : (y : ℕ) → 0 < y → nat_eq y 0 ≡ false
apart_from_zero zero h = absurd (omega arith)
apart_from_zero (suc y) h = eqb-suc-zero y

below_one : (y : ℕ) → y ≤ 0 → y ≡ 0
below_one y h = omega arith

pub alone_has : (p q : ℕ) → nat_eq (bit_at (alone p) q) 1 ≡ (nat_lt q 16 && nat_eq q p)
alone_has p q = alone_by p q (nat_lt p 16) refl

bit_is_one : (p x : ℕ) → x < 2 → not (nat_eq (x * 2 ^ p) 0) ≡ nat_eq x 1
bit_is_one p zero h = ap (λ y. not (nat_eq y 0)) (zero-mul (2 ^ p))
bit_is_one p (suc zero) h =
    let pos : 0 < 2 ^ p = pow_pos p in
    let e : 1 * 2 ^ p ≡ 2 ^ p = omega arith in
    ap (λ y. not (nat_eq y 0)) e ∙ ap not (apart_from_zero (2 ^ p) pos)
bit_is_one p (suc (suc x)) h = absurd (omega arith)

-- the test of a bit, for a number of 16 bits
tests_by : (n p : ℕ) (b : Bool) → nat_lt p 16 ≡ b → n < 2 ^ 16 → not (nat_eq (bit_and n (if b then 2 ^ p else 0)) 0) ≡ nat_eq (bit_at n p) 1
tests_by n p true e h = ap (λ x. not (nat_eq x 0)) (and_pow n p) ∙ bit_is_one p (bit_at n p) (bit_at-lt n p)
tests_by n p false e h =
    let none : bit_and n 0 ≡ 0 = below_one (bit_and n 0) (and_le_r n 0) in
    ap (λ x. not (nat_eq x 0)) none ∙ sym (ap (λ x. nat_eq x 1) (bit_at_above n 16 p h (ltb-false p 16 e)))

pub tests_bit : (n p : ℕ) → n < 2 ^ 16 → not (nat_eq (bit_and n (alone p)) 0) ≡ nat_eq (bit_at n p) 1
tests_bit n p h = tests_by n p (nat_lt p 16) refl h

pub nobody_has : (q : ℕ) → nat_eq (bit_at 0 q) 1 ≡ false
nobody_has q = no_bit q

pub empty_has_none : (n : ℕ) → n ≡ 0 → (q : ℕ) → nat_eq (bit_at n q) 1 ≡ false
empty_has_none n e q = ap (λ x. nat_eq (bit_at x q) 1) e ∙ no_bit q

not_one : (x : ℕ) → x < 2 → nat_eq x 1 ≡ false → x ≡ 0
not_one zero h e = refl
not_one (suc zero) h e = absurd (cc)
not_one (suc (suc x)) h e = absurd (omega arith)

pub none_is_empty : (n : ℕ) → ((q : ℕ) → nat_eq (bit_at n q) 1 ≡ false) → n ≡ 0
none_is_empty n none = same_from_bits n 0 (λ i. not_one (bit_at n i) (bit_at-lt n i) (none i) ∙ sym (bit_at-zero i))
