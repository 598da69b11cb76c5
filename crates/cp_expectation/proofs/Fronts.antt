-- The character in front of some bytes.
use Rattle.std.proofs.Common.{◌≡◌, ◌∙◌, ◌⊎◌, inl, inr, ◌==◌, Bool, true, false, ◌&&◌, Some, ◌+◌, ◌-◌, ◌<◌, ◌≤◌, ℕ, zero, suc, List, [], ◌∷◌, ◌++◌, length, take, drop, codes, refl, sym, ap, subst, arith}
use Rattle.std.specs.Char.{IsScalar, encode_utf8}
use Rattle.std.specs.List.{slice_range, slice_get}
use Rattle.std.specs.Str.{IsUtf8, chars, all_scalars}
use Rattle.std.proofs.lemmas.Bool.{eqb-true, eq-eqb}
use Rattle.std.proofs.lemmas.List.{append_assoc, append-nil, drop_all, length-append, length-drop, length-take, take-append-drop, take-append-le, take_all}
use Rattle.std.proofs.lemmas.Str.{IsUtf8-encode, chars_from_encodes, length-encode, len_utf8_bounds}
use Rattle.cp_expectation.specs.Readable.{BeginsNone, BeginsWith, IsReadable, ShowsFront, empty, character, other, shown}

-- none of the fronts that are shorter is UTF-8
abbrev pub NoShorter : List ℕ → ℕ → Type 0
NoShorter bytes n = (k : ℕ) → 1 ≤ k → k < n → k ≤ length bytes → ¬ (IsUtf8 (take k bytes))

pub more_lengths : (bytes front : List ℕ) (n : ℕ) → NoShorter bytes n → front ≡ slice_range bytes 0 n → ¬ (IsUtf8 front) → NoShorter bytes (n + 1)
more_lengths bytes front n h is none k low high le utf8 = split (k == n) refl
  where
    split : (b : Bool) → (k == n) ≡ b → ⊥
    split true e = none (let same : k ≡ n - 0 = omega (arith, eqb-true k n e) in subst IsUtf8 (ap (λ l. take l bytes) same ∙ sym is) utf8)
    split false e = h k low (omega (arith, differs)) le utf8
      where
        differs : ¬ (k ≡ n)
        differs same = absurd (cc (e, ap (λ x. k == x) (sym same), eq-eqb k k refl))

width : (c : ℕ) → (1 ≤ length (encode_utf8 c)) × (length (encode_utf8 c) ≤ 4)
width c = (omega (arith, length-encode c, (len_utf8_bounds c).0), omega (arith, length-encode c, (len_utf8_bounds c).1))

own_bytes : (xs rest : List ℕ) → take (length xs) (xs ++ rest) ≡ xs
own_bytes xs rest = take-append-le (length xs) xs rest (omega arith) ∙ take_all (length xs) xs (omega arith)

shorter : (bytes rest : List ℕ) (c n : ℕ) → NoShorter bytes n → length (encode_utf8 c) < n → IsScalar c → bytes ≡ encode_utf8 c ++ rest → ⊥
shorter bytes rest c n h less scalar is =
    let long : length bytes ≡ length (encode_utf8 c) + length rest = ap length is ∙ length-append (encode_utf8 c) rest in
    h (length (encode_utf8 c)) (width c).0 less (omega (arith, long)) (subst IsUtf8 (sym (ap (take (length (encode_utf8 c))) is ∙ own_bytes (encode_utf8 c) rest)) (IsUtf8-encode c scalar))

pub begins_none : (bytes : List ℕ) (n : ℕ) → NoShorter bytes n → (length bytes < n) ⊎ (5 ≤ n) → BeginsNone bytes
begins_none bytes n h far c rest scalar is = shorter bytes rest c n h less scalar is
  where
    less : length (encode_utf8 c) < n
    less =
        let long : length bytes ≡ length (encode_utf8 c) + length rest = ap length is ∙ length-append (encode_utf8 c) rest in
        elim far [ inl e ↦ omega (arith, long, e) | inr e ↦ omega (arith, (width c).1, e) ]

pub begins_with : (bytes front rest : List ℕ) (n c : ℕ) → n ≤ length bytes → NoShorter bytes n → front ≡ slice_range bytes 0 n → IsScalar c → front ≡ encode_utf8 c ++ rest → BeginsWith bytes c n
begins_with bytes front rest n c le h part scalar is = split rest is
  where
    taken : take n bytes ≡ front
    taken = let same : n ≡ n - 0 = omega arith in ap (λ k. take k bytes) same ∙ sym part

    whole : bytes ≡ front ++ drop n bytes
    whole = sym (take-append-drop n bytes) ∙ ap (λ l. l ++ drop n bytes) taken

    long : length front ≡ n
    long = ap length (sym taken) ∙ length-take n bytes ∙ omega (arith, le)

    split : (more : List ℕ) → front ≡ encode_utf8 c ++ more → BeginsWith bytes c n
    split [] e =
        let own : front ≡ encode_utf8 c = e ∙ append-nil (encode_utf8 c) in
        (scalar, whole ∙ ap (λ l. l ++ drop n bytes) own, sym long ∙ ap length own)
    split (x ∷ xs) e =
        let some : length front ≡ length (encode_utf8 c) + length (x ∷ xs) = ap length e ∙ length-append (encode_utf8 c) (x ∷ xs) in
        absurd (shorter bytes ((x ∷ xs) ++ drop n bytes) c n h (omega (arith, some, long)) scalar (whole ∙ ap (λ l. l ++ drop n bytes) e ∙ append_assoc (encode_utf8 c) (x ∷ xs) (drop n bytes)))

and_first : (a b : Bool) → (a && b) ≡ true → a ≡ true
and_first true b h = refl
and_first false b h = absurd (cc)

pub first_scalar : (text : List ℕ) (c : ℕ) → IsUtf8 text → Some c ≡ slice_get (chars text) 0 → IsScalar c
first_scalar text c (cs, (s, e)) h = split cs s (h ∙ ap (λ l. slice_get l 0) (sym (chars_from_encodes cs text (cs, (s, e)) e)))
  where
    split : (ds : List ℕ) → all_scalars ds ≡ true → Some c ≡ slice_get ds 0 → IsScalar c
    split [] k is = absurd (cc)
    split (d ∷ ds) k is = let same : c ≡ d = cc in subst IsScalar (sym same) (and_first _ _ k)

-- ---- what is shown of it

pub shows_character : (bytes before after : List ℕ) (c n : ℕ) → BeginsWith bytes c n → after ≡ before ++ shown c → ShowsFront bytes n before after
shows_character bytes before after c n (scalar, is, len) e =
    (shown c, omega (arith, len, (width c).0), e, λ more r. subst (λ l. IsReadable l (shown c ++ more)) (sym is) (character c (drop n bytes) more scalar r))

pub shows_other : (bytes before after : List ℕ) → 0 < length bytes → BeginsNone bytes → after ≡ before ++ codes "?" → ShowsFront bytes 1 before after
shows_other [] before after some none e = absurd (omega arith)
shows_other (b ∷ bytes) before after some none e = (codes "?", omega arith, e, λ more r. other b bytes more none r)

-- ---- all bytes

drop_drop : (m n : ℕ) (xs : List ℕ) → drop n (drop m xs) ≡ drop (m + n) xs
drop_drop zero n xs = let same : n ≡ 0 + n = omega arith in ap (λ k. drop k xs) same
drop_drop (suc m) n [] = drop_all n [] (omega arith) ∙ sym (drop_all (suc m + n) [] (omega arith))
drop_drop (suc m) n (x ∷ xs) = let same : suc (m + n) ≡ suc m + n = omega arith in drop_drop m n xs ∙ ap (λ k. drop k (x ∷ xs)) same

-- what is said so far, and the bytes from some place on are still to be shown
abbrev pub ShownUpTo : List ℕ → (next : ℕ) → (before after : List ℕ) → Type 0
ShownUpTo bytes next before after = (said : List ℕ) × (after ≡ before ++ said) × ((more : List ℕ) → IsReadable (drop next bytes) more → IsReadable bytes (said ++ more))

pub front_more : (bytes : List ℕ) (at left n next : ℕ) (before middle after : List ℕ) → left ≡ 0 → next ≡ at + n → ShownUpTo bytes (at + left) before middle → ShowsFront (drop at bytes) n middle after → ShownUpTo bytes next before after
front_more bytes at left n next before middle after none is (said, e, h) (some, _, k, g) =
    let here : at + left ≡ at = omega (arith, none) in
    (said ++ some, k ∙ ap (λ l. l ++ some) e ∙ append_assoc before said some, λ more r. subst (IsReadable bytes) (sym (append_assoc said some more)) (h (some ++ more) (subst (λ m. IsReadable (drop m bytes) (some ++ more)) (sym here) (g more (subst (λ l. IsReadable l more) (ap (λ m. drop m bytes) is ∙ sym (drop_drop at n bytes)) r)))))

pub all_shown : (bytes : List ℕ) (next : ℕ) (before after : List ℕ) → length bytes ≤ next → ShownUpTo bytes next before after → (more : List ℕ) × IsReadable bytes more × (after ≡ before ++ more)
all_shown bytes next before after le (said, e, h) = (said, subst (IsReadable bytes) (append-nil said) (h [] (subst (λ l. IsReadable l []) (sym (drop_all next bytes le)) empty)), e)

pub shown_moved : (bytes : List ℕ) (m n : ℕ) (before after new : List ℕ) → n ≡ m → new ≡ after → ShownUpTo bytes m before after → ShownUpTo bytes n before new
shown_moved bytes m n before after new is e h = subst (λ k. ShownUpTo bytes k before new) (sym is) (subst (ShownUpTo bytes m before) (sym e) h)

pub rest_of : (bytes : List ℕ) (at : ℕ) → slice_range bytes at (length bytes) ≡ drop at bytes
rest_of bytes at = take_all (length bytes - at) (drop at bytes) (omega (arith, length-drop at bytes))
