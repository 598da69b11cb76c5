-- Which words are the texts of integers.
use Rattle.std.proofs.Common.{◌≡◌, ◌≢◌, ◌∙◌, ◌<◌, ◌≤◌, ◌==◌, ◌^◌, ℕ, zero, suc, Bool, true, false, ◌&&◌, not, nat_le, length, drop, List, [], ◌∷◌, Result, Ok, Err, codes, decimal, cond, if◌then◌else◌, refl, sym, ap, subst, arith, lit<, pos, neg_ℤ, get_or, w16}
use Rattle.std.specs.Prelude.{is_ok, ℤ, negsuc, nat_lt, FitsSigned}
use Rattle.std.specs.Char.{digit_value, is_ascii_digit}
use Rattle.std.specs.Fmt.{signed_decimal}
use Rattle.std.specs.Int.{IsInRange}
use Rattle.std.specs.Result.{OkIff}
use Rattle.std.specs.Str.{bytes_eq, all_ascii_digits}
use Rattle.std.specs.Str.Parse.{AllDigits, ParsesSigned, digits_value, signed_digits_value, without_leading_sign}
use Rattle.std.proofs.lemmas.Bool.{eqb-true, leb-true, leb-false, ltb-true}
use Rattle.std.proofs.lemmas.Bool.Decides.{Decides-ltb}
use Rattle.std.proofs.lemmas.Fmt.{decimal_digit, decimal_nonempty, first_decimal, digits_decimal, decimal-digits_value, parse-signed_decimal}
use Rattle.std.proofs.lemmas.Str.Parse.{IsNumeralModel, numerals_by_value, tells_all_ascii_digits, digit_from_value, parse_signed_plain, parse_signed_minus}
use Rattle.cp_expectation.specs.Values.{is_plain, is_integer}
use Rattle.cp_expectation.proofs.Valued.{same_words, equal_words, not_integer, no_integer_at_all}

pub own : IsNumeralModel (λ ds. all_ascii_digits ds ≡ true) (digits_value 10)
own = numerals_by_value (λ ds. all_ascii_digits ds ≡ true) tells_all_ascii_digits

pub iff_same : (x y : Bool) → (x ≡ true → y ≡ true) → (y ≡ true → x ≡ true) → x ≡ y
iff_same true y h k = sym (h refl)
iff_same false true h k = k refl
iff_same false false h k = refl

pub parts : (a b : Bool) → (a && b) ≡ true → (a ≡ true) × (b ≡ true)
parts true b h = (refl, h)
parts false b h = absurd (cc)

pub both_true : {a b : Bool} → a ≡ true → b ≡ true → (a && b) ≡ true
both_true p q = cc

le_true : (a b : ℕ) → a ≤ b → nat_le a b ≡ true
le_true a b h = split (nat_le a b) refl
  where
    split : (x : Bool) → nat_le a b ≡ x → x ≡ true
    split true e = refl
    split false e = absurd (omega (arith, leb-false a b e))

not_true : (x y : List ℕ) → ¬ (x ≡ y) → not (bytes_eq x y) ≡ true
not_true x y h = split (bytes_eq x y) refl
  where
    split : (b : Bool) → bytes_eq x y ≡ b → not b ≡ true
    split true e = absurd (h (same_words x y e))
    split false e = refl

ok_fact : {E P : Type 0} (v : ℤ) (r : Result ℤ E) → is_ok r ≡ true → OkIff r P v → P
ok_fact v (Ok x) k h = h.0
ok_fact v (Err e) k h = absurd (cc (k))

-- ---- digits without a zero before them

abbrev pub IsPlain : List ℕ → Type 0
IsPlain ds = (all_ascii_digits ds ≡ true) × (0 < length ds) × (get_or ds 0 0 ≡ 48 → length ds ≡ 1)

pub plain_is : (ds : List ℕ) → is_plain ds ≡ true → IsPlain ds
plain_is [] h = absurd (cc)
plain_is (c ∷ cs) h = split (c == 48) refl h
  where
    split : (b : Bool) → (c == 48) ≡ b → (if b then length cs == 0 else all_ascii_digits (c ∷ cs)) ≡ true → IsPlain (c ∷ cs)
    split true e k = zero_alone cs (eqb-true (length cs) 0 k)
      where
        zero_alone : (l : List ℕ) → length l ≡ 0 → IsPlain (c ∷ l)
        zero_alone [] n = (ap (λ d. is_ascii_digit d && true) (eqb-true c 48 e), omega arith, λ _. refl)
        zero_alone (x ∷ xs) n = absurd (omega arith)
    split false e k = (k, omega arith, λ (is : c ≡ 48). absurd (cc (e, ap (λ d. d == 48) is)))

pub is_plain_if : (ds : List ℕ) → IsPlain ds → is_plain ds ≡ true
is_plain_if [] (a, b, c) = absurd (omega arith)
is_plain_if (c ∷ cs) (digits, some, first) = split (c == 48) refl
  where
    split : (b : Bool) → (c == 48) ≡ b → (if b then length cs == 0 else all_ascii_digits (c ∷ cs)) ≡ true
    split true e = none cs (omega (arith, first (eqb-true c 48 e)))
      where
        none : (l : List ℕ) → length l ≡ 0 → (length l == 0) ≡ true
        none [] n = refl
        none (x ∷ xs) n = absurd (omega arith)
    split false e = digits

pub plain_decimal : (n : ℕ) → n < 2 ^ 64 → IsPlain (decimal n)
plain_decimal zero less = (digits_decimal own 0 less, decimal_nonempty 0 less, λ _. ap length (decimal_digit 0 (lit< tt)))
plain_decimal (suc n) less = (digits_decimal own (suc n) less, decimal_nonempty (suc n) less, λ is. absurd (omega (arith, first_decimal (suc n) (omega arith) less, is)))

pub decimal_plain : (ds : List ℕ) → IsPlain ds → digits_value 10 ds < 2 ^ 64 → decimal (digits_value 10 ds) ≡ ds
decimal_plain ds (digits, some, first) less = decimal-digits_value own ds digits some first less

first_digit : (c : ℕ) (cs : List ℕ) → is_plain (c ∷ cs) ≡ true → IsInRange 48 57 c
first_digit c cs h = digit_from_value c (numeral_digits (c ∷ cs) (plain_is (c ∷ cs) h).0).0
  where
    numeral_digits : (ds : List ℕ) → all_ascii_digits ds ≡ true → AllDigits 10 ds
    numeral_digits ds k = own.to ds k

-- ---- without a sign

not_eq : (a b : ℕ) → ¬ (a ≡ b) → (a == b) ≡ false
not_eq a b h = split (a == b) refl
  where
    split : (x : Bool) → (a == b) ≡ x → x ≡ false
    split true e = absurd (h (eqb-true a b e))
    split false e = refl

unsigned_test : (c : ℕ) (cs : List ℕ) → (c == 45) ≡ false → (c == 43) ≡ false → is_integer (c ∷ cs) ≡ (nat_le (digits_value 10 (c ∷ cs)) 32767 && bytes_eq (c ∷ cs) (decimal (digits_value 10 (c ∷ cs))))
unfolding is_integer
unsigned_test c cs minus plus =
    let w = c ∷ cs in
    let rest : without_leading_sign w ≡ w = ap (λ b. cond b (drop 1 w) (drop (cond (c == 43) 1 0) w)) minus ∙ ap (λ b. drop (cond b 1 0) w) plus in
    let value : signed_digits_value 10 w ≡ pos (digits_value 10 w) = ap (λ b. cond b (neg_ℤ (pos (digits_value 10 (without_leading_sign w)))) (pos (digits_value 10 (without_leading_sign w)))) minus ∙ ap (λ l. pos (digits_value 10 l)) rest in
    ap (λ b. nat_le (digits_value 10 (without_leading_sign w)) (if b then 32768 else 32767) && bytes_eq w (signed_decimal (signed_digits_value 10 w))) minus ∙ ap (λ l. nat_le (digits_value 10 l) 32767 && bytes_eq w (signed_decimal (signed_digits_value 10 w))) rest ∙ ap (λ z. nat_le (digits_value 10 w) 32767 && bytes_eq w (signed_decimal z)) value

-- an integer without a sign begins with a digit
unsigned_first : (c : ℕ) (cs : List ℕ) → (c == 45) ≡ false → is_integer (c ∷ cs) ≡ true → digit_value c < 10
unsigned_first c cs minus is = below (nat_lt (digit_value c) 10) refl
  where
    below : (b : Bool) → nat_lt (digit_value c) 10 ≡ b → digit_value c < 10
    below true e = ltb-true (digit_value c) 10 e
    below false e = absurd (cc (is, not_integer c cs minus (λ less. absurd (cc (e, (Decides-ltb (digit_value c) 10).1 less)))))

small_fits : (n : ℕ) → n < 2 ^ 15 → FitsSigned w16 (pos n)
small_fits n h = record { sfits = h }

unsigned_to : {E : Type 0} (c : ℕ) (cs : List ℕ) (r : Result ℤ E) → (c == 45) ≡ false → ParsesSigned w16 10 (c ∷ cs) r → is_plain (c ∷ cs) ≡ true → is_ok r ≡ true → is_integer (c ∷ cs) ≡ true
unsigned_to c cs r minus h p k =
    let w = c ∷ cs in
    let n = digits_value 10 w in
    let digit = first_digit c cs p in
    let is = plain_is w p in
    let less : n < 2 ^ 15 = (ok_fact _ r k (parse_signed_plain own w16 w r h (λ e. omega (arith, digit.0, e)) (λ e. omega (arith, digit.0, e)))).2 in
    unsigned_test c cs minus (not_eq c 43 (λ e. omega (arith, digit.0, e))) ∙ both_true (le_true n 32767 (omega arith)) (equal_words w (decimal n) (sym (decimal_plain w is (omega arith))))

unsigned_from : {E : Type 0} (c : ℕ) (cs : List ℕ) (r : Result ℤ E) → (c == 45) ≡ false → ParsesSigned w16 10 (c ∷ cs) r → is_integer (c ∷ cs) ≡ true → (is_plain (c ∷ cs) && is_ok r) ≡ true
unsigned_from c cs r minus h is =
    let w = c ∷ cs in
    let n = digits_value 10 w in
    let digit = digit_from_value c (unsigned_first c cs minus is) in
    let test = parts (nat_le n 32767) (bytes_eq w (decimal n)) (sym (unsigned_test c cs minus (not_eq c 43 (λ e. omega (arith, digit.0, e)))) ∙ is) in
    let less : n ≤ 32767 = leb-true n 32767 test.0 in
    let text : w ≡ decimal n = same_words w (decimal n) test.1 in
    both_true (is_plain_if w (subst IsPlain (sym text) (plain_decimal n (omega arith)))) (ap is_ok (parse-signed_decimal w16 (pos n) w r (small_fits n (omega arith)) (omega arith) text h))

pub unsigned : {E : Type 0} (w : List ℕ) (r : Result ℤ E) → ((rest : List ℕ) → w ≢ 45 ∷ rest) → ParsesSigned w16 10 w r → (is_plain w && is_ok r) ≡ is_integer w
unsigned [] r none h = sym no_integer_at_all
unsigned (c ∷ cs) r none h =
    let minus = not_eq c 45 (λ e. none cs (ap (λ d. d ∷ cs) e)) in
    iff_same (is_plain (c ∷ cs) && is_ok r) (is_integer (c ∷ cs)) (λ p. let q = parts (is_plain (c ∷ cs)) (is_ok r) p in unsigned_to c cs r minus h q.0 q.1) (unsigned_from c cs r minus h)

-- ---- with a hyphen

no_more : (ds : List ℕ) → ¬ (ds ≡ codes "0") → is_plain ds ≡ true → ¬ (digits_value 10 ds ≡ 0)
no_more ds other p none = other (sym (decimal_plain ds (plain_is ds p) (omega (arith, none))) ∙ ap decimal none ∙ decimal_digit 0 (lit< tt))

neg_text : (n : ℕ) → 0 < n → signed_decimal (neg_ℤ (pos n)) ≡ 45 ∷ decimal n
neg_text zero h = absurd (omega arith)
neg_text (suc n) h = refl

negative_read : {E : Type 0} (n : ℕ) (w : List ℕ) (r : Result ℤ E) → 0 < n → n ≤ 2 ^ 15 → w ≡ signed_decimal (neg_ℤ (pos n)) → ParsesSigned w16 10 w r → is_ok r ≡ true
negative_read zero w r some less e h = absurd (omega arith)
negative_read (suc m) w r some less e h = ap is_ok (parse-signed_decimal w16 (negsuc m) w r (record { sfits = omega arith }) (omega arith) e h)

signed_test : (ds : List ℕ) → is_integer (45 ∷ ds) ≡ (nat_le (digits_value 10 ds) 32768 && bytes_eq (45 ∷ ds) (signed_decimal (neg_ℤ (pos (digits_value 10 ds)))))
unfolding is_integer
signed_test ds = refl

abbrev is_nonzero : List ℕ → Bool
is_nonzero ds = not (bytes_eq ds (codes "0")) && is_plain ds

signed_to : {E : Type 0} (ds : List ℕ) (r : Result ℤ E) → ParsesSigned w16 10 (45 ∷ ds) r → not (bytes_eq ds (codes "0")) ≡ true → is_plain ds ≡ true → is_ok r ≡ true → is_integer (45 ∷ ds) ≡ true
signed_to ds r h other p k =
    let n = digits_value 10 ds in
    let is = plain_is ds p in
    let less : n ≤ 2 ^ 15 = (ok_fact _ r k (parse_signed_minus own w16 (45 ∷ ds) r h refl)).2 in
    let some : ¬ (n ≡ 0) = no_more ds (λ e. absurd (cc (other, equal_words ds (codes "0") e))) p in
    signed_test ds ∙ both_true (le_true n 32768 (omega arith)) (equal_words (45 ∷ ds) (signed_decimal (neg_ℤ (pos n))) (ap (λ l. 45 ∷ l) (sym (decimal_plain ds is (omega arith))) ∙ sym (neg_text n (omega (arith, some)))))

no_zero : (ds : List ℕ) → ¬ (45 ∷ ds ≡ decimal 0)
no_zero ds e = let first : 45 ≡ 48 = ap (λ l. get_or l 0 0) (e ∙ decimal_digit 0 (lit< tt)) in absurd (omega (arith, first))

signed_from : {E : Type 0} (ds : List ℕ) (r : Result ℤ E) → ParsesSigned w16 10 (45 ∷ ds) r → is_integer (45 ∷ ds) ≡ true → (is_nonzero ds && is_ok r) ≡ true
signed_from ds r h is =
    let n = digits_value 10 ds in
    let w = 45 ∷ ds in
    let t = parts (nat_le n 32768) (bytes_eq w (signed_decimal (neg_ℤ (pos n)))) (sym (signed_test ds) ∙ is) in
    let less : n ≤ 32768 = leb-true n 32768 t.0 in
    let text : w ≡ signed_decimal (neg_ℤ (pos n)) = same_words w (signed_decimal (neg_ℤ (pos n))) t.1 in
    let some : ¬ (n ≡ 0) = (λ e. no_zero ds (text ∙ ap (λ m. signed_decimal (neg_ℤ (pos m))) e)) in
    let digits : ds ≡ decimal n = (let e : 45 ∷ ds ≡ 45 ∷ decimal n = text ∙ neg_text n (omega (arith, some)) in cc) in
    both_true (both_true (not_true ds (codes "0") (λ e. some (ap (digits_value 10) e))) (is_plain_if ds (subst IsPlain (sym digits) (plain_decimal n (omega arith))))) (negative_read n w r (omega (arith, some)) (omega arith) text h)

pub signed : {E : Type 0} (w ds : List ℕ) (r : Result ℤ E) → w ≡ 45 ∷ ds → ParsesSigned w16 10 w r → ((not (bytes_eq ds (codes "0")) && is_plain ds) && is_ok r) ≡ is_integer w
signed w ds r is_w h =
    let k = subst (λ l. ParsesSigned w16 10 l r) is_w h in
    iff_same (is_nonzero ds && is_ok r) (is_integer (45 ∷ ds)) (λ p. let q = parts (is_nonzero ds) (is_ok r) p in let o = parts (not (bytes_eq ds (codes "0"))) (is_plain ds) q.0 in signed_to ds r k o.0 o.1 q.1) (signed_from ds r k) ∙ ap is_integer (sym is_w)

pub and_then : (a b r i : Bool) → a ≡ true → r ≡ b → (a && b) ≡ i → r ≡ i
and_then true b r i h e k = e ∙ k
and_then false b r i h e k = absurd (cc)

pub and_else : (a b i : Bool) → a ≡ false → (a && b) ≡ i → a ≡ i
and_else false b i h k = k
and_else true b i h k = absurd (cc)
