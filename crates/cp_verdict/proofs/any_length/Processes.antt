-- Which processes a name means, as the code finds it.
use Rattle.std.proofs.Common.{◌≡◌, ◌≢◌, ◌∙◌, ◌<◌, ◌==◌, ℕ, Bool, true, false, ◌&&◌, ◌||◌, List, [], ◌∷◌, ◌++◌, length, suc, None, Result, Ok, Err, refl, sym, ap, subst, arith}
use Rattle.std.specs.Prelude.{nat_lt, slice_index}
use Rattle.std.specs.Str.{all_ascii_digits}
use Rattle.std.specs.Str.Parse.{ParsesUnsigned, digits_value, without_leading_plus}
use Rattle.std.specs.Str.Pattern.{FindsTextPrefix, StripsPrefix}
use Rattle.std.proofs.lemmas.Bool.{eqb-true, eq-eqb, ltb-true}
use Rattle.std.proofs.lemmas.Bool.Decides.{Decides-ltb}
use Rattle.cp_expectation.proofs.Integers.{own, parts, both_true}
use Rattle.cp_verdict.specs.endless.Naming.{is_number_of, is_path_of}

-- ---- numbers

some_digits : (ds : List ℕ) → 0 < length ds → nat_lt 0 (length ds) ≡ true
some_digits ds h = (Decides-ltb 0 (length ds)).1 h

pub number_read : {E : Type 0} (q : ℕ) (w : List ℕ) (n : ℕ) (r : Result ℕ E) → r ≡ Ok n → ParsesUnsigned 8 10 w r → is_number_of w q ≡ (n == q)
number_read {E} q w n r is h =
    let ds = without_leading_plus w in
    let k = subst (λ x. ParsesUnsigned {E = E} 8 10 w x) is h in
    ap (λ b. b && (digits_value 10 ds == q)) (both_true (some_digits ds k.0.0.0) (own.from ds k.0.0.1)) ∙ ap (λ v. v == q) (sym k.1)

pub no_number : {E : Type 0} (q : ℕ) (w : List ℕ) (x : E) (r : Result ℕ E) → q < 256 → r ≡ Err x → ParsesUnsigned 8 10 w r → is_number_of w q ≡ false
no_number {E} q w x r less is h = split ((nat_lt 0 (length ds) && all_ascii_digits ds) && (digits_value 10 ds == q)) refl
  where
    ds : List ℕ
    ds = without_leading_plus w

    fails : ParsesUnsigned {E = E} 8 10 w (Err x)
    fails = subst (λ y. ParsesUnsigned {E = E} 8 10 w y) is h

    split : (b : Bool) → ((nat_lt 0 (length ds) && all_ascii_digits ds) && (digits_value 10 ds == q)) ≡ b → b ≡ false
    split false e = refl
    split true e =
        let p = parts (nat_lt 0 (length ds) && all_ascii_digits ds) (digits_value 10 ds == q) e in
        let d = parts (nat_lt 0 (length ds)) (all_ascii_digits ds) p.0 in
        absurd (fails ((ltb-true 0 (length ds) d.0, own.to ds d.1), omega (arith, eqb-true (digits_value 10 ds) q p.1, less)))

-- ---- paths

some_length : (n : ℕ) → (suc n == 0) ≡ false
some_length n = split (suc n == 0) refl
  where
    split : (b : Bool) → (suc n == 0) ≡ b → b ≡ false
    split true e = absurd (omega (arith, eqb-true (suc n) 0 e))
    split false e = refl

path_with : (name rest : List ℕ) → is_path_of name (name ++ rest) ≡ ((length rest == 0) || (slice_index rest 0 == 91))
path_with [] [] = refl
path_with [] (c ∷ cs) = sym (ap (λ b. b || (c == 91)) (some_length (length cs)))
path_with (n ∷ ns) rest = ap (λ b. b && is_path_of ns (ns ++ rest)) (eq-eqb n n refl) ∙ path_with ns rest

path_without : (name path : List ℕ) → ((rest : List ℕ) → path ≢ name ++ rest) → is_path_of name path ≡ false
path_without [] path h = absurd (h path refl)
path_without (n ∷ ns) [] h = refl
path_without (n ∷ ns) (c ∷ cs) h = split (n == c) refl (path_without ns cs)
  where
    split : (b : Bool) → (n == c) ≡ b → (((rest : List ℕ) → cs ≢ ns ++ rest) → is_path_of ns cs ≡ false) → (b && is_path_of ns cs) ≡ false
    split false e on = refl
    split true e on = on (λ rest same. h rest (ap (λ l. c ∷ l) same ∙ ap (λ x. x ∷ (ns ++ rest)) (sym (eqb-true n c e))))

path_stripped : (name path rest : List ℕ) → StripsPrefix (FindsTextPrefix name) path rest → is_path_of name path ≡ ((length rest == 0) || (slice_index rest 0 == 91))
path_stripped name path rest h = ap (is_path_of name) (h.1.1 ∙ ap (λ l. name ++ l) (sym h.2)) ∙ path_with name rest

pub whole_path : (name path rest : List ℕ) (b : Bool) → StripsPrefix (FindsTextPrefix name) path rest → b ≡ (length rest == 0) → b ≡ true → b ≡ is_path_of name path
whole_path name path rest b h is t = t ∙ sym (path_stripped name path rest h ∙ ap (λ x. x || (slice_index rest 0 == 91)) (sym is ∙ t))

pub element_path : (name path rest : List ℕ) (b r : Bool) → StripsPrefix (FindsTextPrefix name) path rest → b ≡ (length rest == 0) → b ≡ false → r ≡ (slice_index rest 0 == 91) → r ≡ is_path_of name path
element_path name path rest b r h is f starts = starts ∙ sym (path_stripped name path rest h ∙ ap (λ x. x || (slice_index rest 0 == 91)) (sym is ∙ f))

pub no_path : (name path : List ℕ) → FindsTextPrefix name path None → is_path_of name path ≡ false
no_path name path h = path_without name path h
