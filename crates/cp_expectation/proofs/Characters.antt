-- Which words are the texts of characters.
use Rattle.std.proofs.Common.{◌≡◌, ◌≢◌, ◌∙◌, ◌<◌, ◌≤◌, ◌==◌, ◌+◌, ℕ, zero, suc, Bool, true, false, ◌&&◌, ◌||◌, not, nat_le, drop, List, [], ◌∷◌, ◌++◌, Option, Some, None, Bor, Result, Ok, Err, MatchOption, codes, decimal, if◌then◌else◌, refl, sym, ap, subst, arith}
use Rattle.std.specs.Prelude.{nat_lt}
use Rattle.std.specs.Bool.{Decides}
use Rattle.std.specs.Str.Pattern.{FindsTextPrefix, FindsTextSuffix, StripsPrefix, StripsSuffix}
use Rattle.std.specs.List.{list_any, range_with_len}
use Rattle.std.specs.Str.{bytes_eq}
use Rattle.std.specs.Str.Parse.{ParsesUnsigned, digits_value}
use Rattle.std.proofs.lemmas.Bool.{ltb-true, eqb-true, leb-true, eq-eqb}
use Rattle.std.proofs.lemmas.Bool.Decides.{Decides-ltb}
use Rattle.std.proofs.lemmas.Fmt.{parse-decimal}
use Rattle.std.proofs.lemmas.Str.Parse.{parse_digits}
use Rattle.cp_walk.specs.Text.{char_text}
use Rattle.std.proofs.lemmas.List.{append_cancel_right}
use Rattle.cp_expectation.specs.Values.{is_plain, is_character, is_printable, IsQuoted, IsCoded}
use Rattle.cp_expectation.proofs.Integers.{own, iff_same, parts, both_true, plain_is, is_plain_if, plain_decimal, decimal_plain, IsPlain}
use Rattle.cp_expectation.proofs.Valued.{same_words, equal_words}

any_in : (p : ℕ → Bool) (n a k : ℕ) → a ≤ k → k < a + n → p k ≡ true → list_any p (range_with_len a n) ≡ true
any_in p zero a k low high h = absurd (omega arith)
any_in p (suc n) a k low high h = split (a == k) refl (λ more. any_in p n (a + 1) k more (omega arith) h)
  where
    either : (x y : Bool) → x ≡ true → (x || y) ≡ true
    either x y e = cc

    or_more : (x y : Bool) → y ≡ true → (x || y) ≡ true
    or_more true y e = refl
    or_more false y e = e

    split : (b : Bool) → (a == k) ≡ b → (a + 1 ≤ k → list_any p (range_with_len (a + 1) n) ≡ true) → (p a || list_any p (range_with_len (a + 1) n)) ≡ true
    split true e on = either (p a) (list_any p (range_with_len (a + 1) n)) (ap p (eqb-true a k e) ∙ h)
    split false e on = or_more (p a) (list_any p (range_with_len (a + 1) n)) (on (omega (arith, low, not_same)))
      where
        not_same : ¬ (a ≡ k)
        not_same is = absurd (cc (e, ap (λ x. a == x) (sym is), eq-eqb a a refl))

in_any : (p : ℕ → Bool) (n a : ℕ) → list_any p (range_with_len a n) ≡ true → (k : ℕ) × (k < a + n) × (p k ≡ true)
in_any p zero a h = absurd (cc)
in_any p (suc n) a h = split (p a) refl h (in_any p n (a + 1))
  where
    split : (b : Bool) → p a ≡ b → (b || list_any p (range_with_len (a + 1) n)) ≡ true → (list_any p (range_with_len (a + 1) n) ≡ true → (k : ℕ) × (k < (a + 1) + n) × (p k ≡ true)) → (k : ℕ) × (k < a + suc n) × (p k ≡ true)
    split true e k on = (a, omega arith, e)
    split false e k on = let r = on k in (r.0, omega (arith, r.1), r.2)

character_text : (code : ℕ) (b : Bool) → is_printable code ≡ b → char_text code ≡ (if b then codes "'" ++ code ∷ [] ++ codes "'" else codes "'(:" ++ decimal code ++ codes ":)'")
character_text code b e = ap (λ x. if x then codes "'" ++ code ∷ [] ++ codes "'" else codes "'(:" ++ decimal code ++ codes ":)'") e

printable_small : (code : ℕ) → is_printable code ≡ true → code < 128
printable_small code h = let p = parts (nat_le 33 code) (nat_le code 126 && not (code == 39)) h in omega (arith, leb-true code 126 (parts (nat_le code 126) (not (code == 39)) p.1).0)

is_one : (w : List ℕ) (code : ℕ) → code < 128 → w ≡ char_text code → is_character w ≡ true
unfolding is_character
is_one w code less e = any_in (λ k. bytes_eq w (char_text k)) 128 0 code (omega arith) (omega arith) (equal_words w (char_text code) e)

one_is : (w : List ℕ) → is_character w ≡ true → (code : ℕ) × (code < 128) × (w ≡ char_text code)
unfolding is_character
one_is w h = let r = in_any (λ k. bytes_eq w (char_text k)) 128 0 h in (r.0, omega (arith, r.1), same_words w (char_text r.0) r.2)

pub quoted_is : (w : List ℕ) → IsQuoted w → is_character w ≡ true
quoted_is w (code, h, e) = is_one w code (printable_small code h) (e ∙ sym (character_text code true h))

pub character : (w : List ℕ) (a b : Bool) → Decides a (IsQuoted w) → Decides b (IsCoded w) → (a || b) ≡ is_character w
character w a b quoted coded = iff_same (a || b) (is_character w) (to a b quoted coded) from
  where
    to : (x y : Bool) → Decides x (IsQuoted w) → Decides y (IsCoded w) → (x || y) ≡ true → is_character w ≡ true
    to true y q k h = let r = q.0 refl in is_one w r.0 (printable_small r.0 r.1) (r.2 ∙ sym (character_text r.0 true r.1))
    to false true q k h = let r = k.0 refl in is_one w r.0 r.1 (r.3 ∙ sym (character_text r.0 false r.2))
    to false false q k h = absurd (cc)

    from : is_character w ≡ true → (a || b) ≡ true
    from h = let r = one_is w h in split r.0 r.1 r.2 (is_printable r.0) refl
      where
        left : (x y : Bool) → x ≡ true → (x || y) ≡ true
        left x y e = cc

        right : (x y : Bool) → y ≡ true → (x || y) ≡ true
        right true y e = refl
        right false y e = e

        split : (code : ℕ) → code < 128 → w ≡ char_text code → (x : Bool) → is_printable code ≡ x → (a || b) ≡ true
        split code less e true k = left a b (quoted.1 (code, k, e ∙ character_text code true k))
        split code less e false k = right a b (coded.1 (code, less, k, e ∙ character_text code false k))

-- ---- a code

drop_none : (s : List ℕ) → drop 0 s ≡ s
drop_none [] = refl
drop_none (x ∷ xs) = refl

pub prefix_at : (n s : List ℕ) (r : Option (Bor (List ℕ))) → MatchOption r (FindsTextPrefix n s None) (λ x. StripsPrefix (FindsTextPrefix n) s x.now) → MatchOption r ((rest : List ℕ) → s ≢ n ++ rest) (λ x. s ≡ n ++ x.now)
prefix_at n s None h = λ rest e. h rest (drop_none s ∙ e)
prefix_at n s (Some x) h = h.1.1 ∙ ap (λ l. n ++ l) (sym h.2)

pub suffix_at : (n s : List ℕ) (r : Option (Bor (List ℕ))) → MatchOption r (FindsTextSuffix n s None) (λ x. StripsSuffix (FindsTextSuffix n) s x.now) → MatchOption r ((front : List ℕ) → s ≢ front ++ n) (λ x. s ≡ x.now ++ n)
suffix_at n s None h = h
suffix_at n s (Some x) h = h.1.1 ∙ ap (λ l. l ++ n) (sym h.2)

-- ---- the number is printed so

same_digits : (w ds es : List ℕ) → w ≡ codes "'(:" ++ ds ++ codes ":)'" → w ≡ codes "'(:" ++ es ++ codes ":)'" → ds ≡ es
same_digits w ds es d e =
    let both : 39 ∷ 40 ∷ 58 ∷ (ds ++ codes ":)'") ≡ 39 ∷ 40 ∷ 58 ∷ (es ++ codes ":)'") = sym d ∙ e in
    let inner : ds ++ codes ":)'" ≡ es ++ codes ":)'" = cc in
    append_cancel_right ds es (codes ":)'") inner

not_false : (b : Bool) → not b ≡ true → b ≡ false
not_false true h = absurd (cc)
not_false false h = refl

less_true : (a b : ℕ) → a < b → nat_lt a b ≡ true
less_true a b h = (Decides-ltb a b).1 h

abbrev is_code : ℕ → Bool
is_code n = nat_lt n 128 && not (is_printable n)

code_to : (E : Type 0) (w ds : List ℕ) (n : ℕ) → w ≡ codes "'(:" ++ ds ++ codes ":)'" → ParsesUnsigned {E = E} 8 10 ds (Ok n) → (is_plain ds && is_code n) ≡ true → IsCoded w
code_to E w ds n e h t =
    let p = parts (is_plain ds) (is_code n) t in
    let q = parts (nat_lt n 128) (not (is_printable n)) p.1 in
    let plain = plain_is ds p.0 in
    let value : n ≡ digits_value 10 ds = (parse_digits own {E = E} 8 ds (Ok n) h plain.0).1 in
    let less : n < 128 = ltb-true n 128 q.0 in
    (n, less, not_false (is_printable n) q.1, e ∙ ap (λ l. codes "'(:" ++ l ++ codes ":)'") (sym (decimal_plain ds plain (omega arith)) ∙ ap decimal (sym value)))

code_from : (E : Type 0) (w ds : List ℕ) (n : ℕ) → w ≡ codes "'(:" ++ ds ++ codes ":)'" → ParsesUnsigned {E = E} 8 10 ds (Ok n) → IsCoded w → (is_plain ds && is_code n) ≡ true
code_from E w ds n e h (code, less, hidden, is) =
    let digits = same_digits w ds (decimal code) e is in
    let read = parse-decimal {E = E} 8 code ds (Ok n) (omega arith) (omega arith) digits h in
    let same : n ≡ code = cc read in
    both_true (is_plain_if ds (subst IsPlain (sym digits) (plain_decimal code (omega arith)))) (both_true (less_true n 128 (omega arith)) (ap not (ap is_printable same ∙ hidden)))

pub code_read : {E : Type 0} (w ds : List ℕ) (r : Result ℕ E) (n : ℕ) → r ≡ Ok n → w ≡ codes "'(:" ++ ds ++ codes ":)'" → ParsesUnsigned 8 10 ds r → Decides (is_plain ds && is_code n) (IsCoded w)
code_read {E} w ds r n is e h = let k = subst (λ x. ParsesUnsigned {E = E} 8 10 ds x) is h in (code_to E w ds n e k, code_from E w ds n e k)

pub no_code_read : {E : Type 0} (w ds : List ℕ) (x : E) → w ≡ codes "'(:" ++ ds ++ codes ":)'" → ParsesUnsigned {E = E} 8 10 ds (Err x) → ¬ (IsCoded w)
no_code_read {E} w ds x e h (code, less, hidden, is) =
    let read = parse-decimal {E = E} 8 code ds (Err x) (omega arith) (omega arith) (same_digits w ds (decimal code) e is) h in
    absurd (cc read)

pub decides_then : {P : Type 0} (a b r : Bool) → a ≡ true → r ≡ b → Decides (a && b) P → Decides r P
decides_then a b r h e d = (λ k. d.0 (both_true h (sym e ∙ k)), λ p. e ∙ (parts a b (d.1 p)).1)

pub decides_else : {P : Type 0} (a b r : Bool) → a ≡ false → r ≡ a → Decides (a && b) P → Decides r P
decides_else a b r h e d = (λ k. absurd (cc (h, e, k)), λ p. e ∙ (parts a b (d.1 p)).0)

pub or_false : (a b i : Bool) → a ≡ false → (a || b) ≡ i → b ≡ i
or_false false b i h k = k
or_false true b i h k = absurd (cc)
