-- What `split_whitespace` gives are the words of a text.
use Rattle.std.proofs.Common.{◌≡◌, ◌∙◌, ◌<◌, ℕ, Bool, true, false, not, ◌&&◌, List, [], ◌∷◌, ◌++◌, map, length, if◌then◌else◌, refl, sym, ap, subst, arith}
use Rattle.std.proofs.lemmas.List.{append_assoc, append-nil, length-append}
use Rattle.std.proofs.lemmas.Iterator.{YieldsList}
use Rattle.std.proofs.lemmas.Iterator.Splits.{YieldsList-from_shown_while}
use Rattle.std.proofs.lemmas.Str.{chars_from_encodes, cons_from_encodes, encode_same, length-encode, len_utf8_bounds}
use Rattle.std.specs.Char.{is_whitespace, is_not_whitespace, encode_utf8}
use Rattle.std.specs.Str.{IsUtf8, NonePass, NoCharPasses, EmptyOrStartsWithPassing, chars, encode_utf8_all, all_scalars}
use Rattle.std.specs.Str.Iter.{split_whitespace_rest, split_whitespace_steps}
use Rattle.cp_expectation.specs.Words.{one_word, words_behind, words_of}

-- ---- characters

is_white : (c : ℕ) → is_not_whitespace c ≡ false → is_whitespace c ≡ true
is_white c h = split (is_whitespace c) h
  where
    split : (b : Bool) → not b ≡ false → b ≡ true
    split true k = refl
    split false k = absurd (cc)

gap_skipped : (gs cs : List ℕ) → NonePass is_not_whitespace gs → words_behind [] (gs ++ cs) ≡ words_behind [] cs
gap_skipped [] cs h = refl
gap_skipped (g ∷ gs) cs h = ap (λ b. if b then words_behind [] (gs ++ cs) else words_behind (g ∷ []) (gs ++ cs)) (is_white g h.0) ∙ gap_skipped gs cs h.1

all_white : (gs : List ℕ) → NonePass is_not_whitespace gs → words_behind [] gs ≡ []
all_white gs h = ap (words_behind []) (sym (append-nil gs)) ∙ gap_skipped gs [] h

gathered : (word ws cs : List ℕ) → NonePass is_whitespace ws → words_behind word (ws ++ cs) ≡ words_behind (word ++ ws) cs
gathered word [] cs h = ap (λ l. words_behind l cs) (sym (append-nil word))
gathered word (w ∷ ws) cs h =
    ap (λ b. if b then one_word word ++ words_behind [] (ws ++ cs) else words_behind (word ++ w ∷ []) (ws ++ cs)) h.0 ∙ gathered (word ++ w ∷ []) ws cs h.1 ∙ ap (λ l. words_behind l cs) (append_assoc word (w ∷ []) ws)

-- the first, if there is one, is white space
abbrev pub EndsWord : List ℕ → Type 0
EndsWord [] = Unit {0}
EndsWord (c ∷ cs) = is_whitespace c ≡ true

ended : (w : ℕ) (ws cs : List ℕ) → EndsWord cs → words_behind (w ∷ ws) cs ≡ (w ∷ ws) ∷ words_behind [] cs
ended w ws [] h = refl
ended w ws (c ∷ cs) h =
    ap (λ b. if b then (w ∷ ws) ∷ words_behind [] cs else words_behind ((w ∷ ws) ++ c ∷ []) cs) h ∙ ap (λ b. (w ∷ ws) ∷ (if b then words_behind [] cs else words_behind (c ∷ []) cs)) (sym h)

cut : (gs ws cs : List ℕ) → NonePass is_not_whitespace gs → NonePass is_whitespace ws → 0 < length ws → EndsWord cs → words_behind [] (gs ++ (ws ++ cs)) ≡ ws ∷ words_behind [] cs
cut gs [] cs g w some e = absurd (omega arith)
cut gs (w ∷ ws) cs g h some e = gap_skipped gs ((w ∷ ws) ++ cs) g ∙ gathered [] (w ∷ ws) cs h ∙ ended w ws cs e

-- ---- their bytes

and_second : (a b : Bool) → (a && b) ≡ true → b ≡ true
and_second true b h = h
and_second false b h = absurd (cc)

-- characters, and then those of the rest
parted : (cs ds rest : List ℕ) → all_scalars ds ≡ true → encode_utf8_all ds ≡ encode_utf8_all cs ++ rest → (es : List ℕ) × (ds ≡ cs ++ es) × (encode_utf8_all es ≡ rest) × (all_scalars es ≡ true)
parted [] ds rest s h = (ds, refl, h, s)
parted (c ∷ cs) ds rest s h =
    let front = cons_from_encodes ds (encode_utf8_all cs ++ rest) c (h ∙ append_assoc (encode_utf8 c) (encode_utf8_all cs) rest) in
    let scalar : all_scalars (c ∷ front.0) ≡ true = ap all_scalars (sym front.1) ∙ s in
    let more = parted cs front.0 rest (and_second _ _ scalar) front.2 in
    (more.0, front.1 ∙ ap (λ l. c ∷ l) more.1, more.2, more.3)

some_bytes : (c : ℕ) (cs : List ℕ) → 0 < length (encode_utf8_all (c ∷ cs))
some_bytes c cs = omega (arith, length-append (encode_utf8 c) (encode_utf8_all cs), length-encode c, (len_utf8_bounds c).0)

ends_word : (es rest more : List ℕ) → encode_utf8_all es ≡ rest → EmptyOrStartsWithPassing is_whitespace rest more → EndsWord es
ends_word [] rest more e h = tt
ends_word (c ∷ es) rest more e h =
    let (d, white, is, scalar) = h (subst (λ l. 0 < length l) e (some_bytes c es)) in
    let same = encode_same c d (encode_utf8_all es) more (e ∙ is) in
    ap is_whitespace same.0 ∙ white

-- ---- the words

no_more : (text : List ℕ) → IsUtf8 text → NoCharPasses is_not_whitespace text → length (words_of text) ≡ 0
no_more text u (gs, e, none) = ap (λ l. length (map encode_utf8_all (words_behind [] l))) (sym (chars_from_encodes gs text u e)) ∙ ap (λ l. length (map encode_utf8_all l)) (all_white gs none)

some_character : (ws : List ℕ) → 0 < length (encode_utf8_all ws) → 0 < length ws
some_character [] h = h
some_character (w ∷ ws) h = omega arith

one_more : (text x rest gap more : List ℕ) → IsUtf8 text → text ≡ gap ++ (x ++ rest) → 0 < length x → NoCharPasses is_not_whitespace gap → NoCharPasses is_whitespace x → EmptyOrStartsWithPassing is_whitespace rest more → IsUtf8 rest × (words_of text ≡ x ∷ words_of rest)
one_more text x rest gap more (ds, (s, e)) is some (gs, ge, gw) (ws, we, ww) w =
    let first = parted gs ds (x ++ rest) s (e ∙ is ∙ ap (λ l. l ++ (x ++ rest)) (sym ge)) in
    let second = parted ws first.0 rest first.3 (first.2 ∙ ap (λ l. l ++ rest) (sym we)) in
    let utf8 : IsUtf8 rest = (second.0, (second.3, second.2)) in
    let all : chars text ≡ gs ++ (ws ++ second.0) = sym (chars_from_encodes ds text (ds, (s, e)) e) ∙ first.1 ∙ ap (λ l. gs ++ l) second.1 in
    let left : chars rest ≡ second.0 = sym (chars_from_encodes second.0 rest utf8 second.2) in
    (utf8, ap (λ l. map encode_utf8_all (words_behind [] l)) all ∙ ap (map encode_utf8_all) (cut gs ws second.0 gw ww (some_character ws (subst (λ l. 0 < length l) (sym we) some)) (ends_word second.0 rest more second.2 w)) ∙ ap (λ y. y ∷ map encode_utf8_all (words_behind [] second.0)) we ∙ ap (λ l. x ∷ map encode_utf8_all (words_behind [] l)) (sym left))

pub words_yielded : {s : _} (text : List ℕ) → IsUtf8 text → split_whitespace_rest s ≡ text → YieldsList split_whitespace_steps (λ x. x.now) s (words_of text)
words_yielded {s} text u e =
    subst (λ l. YieldsList split_whitespace_steps (λ x. x.now) s (words_of l)) e (YieldsList-from_shown_while split_whitespace_steps (λ x. x.now) (λ t. words_of (split_whitespace_rest t)) (λ t. IsUtf8 (split_whitespace_rest t)) (λ a b utf8 h. no_more (split_whitespace_rest a) utf8 h.1) (λ a x b utf8 h. one_more (split_whitespace_rest a) x.now (split_whitespace_rest b) h.0 h.5.0 utf8 h.1 h.2 h.3 h.4 h.5.1) s (subst IsUtf8 (sym e) u))
