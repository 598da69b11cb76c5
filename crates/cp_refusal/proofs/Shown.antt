-- How plain bytes are shown: one character after another.
use Rattle.std.proofs.Common.{codes, ◌≡◌, ◌∙◌, ℕ, ◌+◌, ◌-◌, ◌<◌, ◌≤◌, ◌==◌, ◌||◌, Bool, true, false, cond, List, [], ◌∷◌, ◌++◌, ap, arith, drop, get_or, length, map, refl, replicate, subst, sym, take, take_all}
use Rattle.std.specs.Fmt.{decimal}
use Rattle.std.specs.List.{AllPass}
use Rattle.std.specs.Prelude.{encode_utf8}
use Rattle.std.proofs.lemmas.Bool.Decides.{nat_tests}
use Rattle.std.proofs.lemmas.List.{append-nil, get_or-drop, length-drop, map-append, take_more}
use Rattle.std.proofs.lemmas.List.Elements.{All-take}
use Rattle.std.proofs.lemmas.Str.{encode_ascii}
use Rattle.cp_refusal.specs.declared.characters.Look.{Look}
use Rattle.cp_refusal.specs.declared.characters.Look.TheVariants.{Whole, Blank, OneLine}
use Rattle.cp_refusal.specs.Excerpts.{AreShown, IsExcerpt, IsLineShown, IsPlainLine, is_plain, mark_below, seen}
use Rattle.cp_refusal.specs.Lines.{line_in, line_text, text_before}

-- a plain byte is one of ASCII, and so is what is seen of it
plain_is_small : (b : ℕ) → is_plain b ≡ true → b < 128
plain_is_small b plain = grind (arith, nat_tests)

small_either : (b x y : ℕ) → x < 128 → y < 128 → (t : Bool) → cond t x y < 128
small_either b x y xs ys true = xs
small_either b x y xs ys false = ys

seen_is_small : (look : Look) (b : ℕ) → b < 128 → seen look b < 128
seen_is_small Whole b small = small
seen_is_small Blank b small = small_either b 9 32 (omega arith) (omega arith) (b == 9)
seen_is_small OneLine b small = small_either b 32 b (omega arith) small (b == 9)

-- what stands from a place on
abbrev rest_at : List ℕ → ℕ → List ℕ
rest_at bytes at = take (length bytes - at) (drop at bytes)

-- a plain byte is a character of one byte, which is shown as it is
pub plain_front : (bytes : List ℕ) (at shown len : ℕ) → at < length bytes → (0 < length (rest_at bytes at) → is_plain (get_or (rest_at bytes at) 0 0) ≡ true → (shown ≡ get_or (rest_at bytes at) 0 0) × (len ≡ 1)) → AllPass is_plain bytes → (shown ≡ get_or bytes at 0) × (len ≡ 1)
plain_front bytes at shown len lt front all =
    let all_of : rest_at bytes at ≡ drop at bytes = take_all (length bytes - at) (drop at bytes) (simp length-drop (omega arith)) in
    let here : get_or (rest_at bytes at) 0 0 ≡ get_or bytes at 0 = ap (λ (l : List ℕ). get_or l 0 0) all_of ∙ get_or-drop at bytes 0 0 ∙ ap (λ k. get_or bytes k 0) (omega arith) in
    let long : length (rest_at bytes at) ≡ length bytes - at = ap length all_of ∙ simp length-drop in
    let first = front (omega arith) (ap is_plain here ∙ all at 0 lt) in
    (first.0 ∙ here, first.1)

-- one more plain byte
pub one_more_shown : (look : Look) (bytes : List ℕ) (at shown len code old left : ℕ) (piece : List ℕ) → at < length bytes → (0 < length (rest_at bytes at) → is_plain (get_or (rest_at bytes at) 0 0) ≡ true → (shown ≡ get_or (rest_at bytes at) 0 0) × (len ≡ 1)) → (is_plain (get_or bytes at 0) ≡ true → shown ≡ get_or bytes at 0 → code ≡ seen look (get_or bytes at 0)) → left ≡ len - 1 → (AllPass is_plain bytes → (old ≡ 0) × (piece ≡ map (seen look) (take at bytes))) → AllPass is_plain bytes → (left ≡ 0) × (piece ++ encode_utf8 code ≡ map (seen look) (take (at + 1) bytes))
one_more_shown look bytes at shown len code old left piece lt front as_seen last before all =
    let b = get_or bytes at 0 in
    let plain : is_plain b ≡ true = all at 0 lt in
    let first = plain_front bytes at shown len lt front all in
    let is : code ≡ seen look b = as_seen plain first.0 in
    let one : encode_utf8 code ≡ seen look b ∷ [] = ap encode_utf8 is ∙ encode_ascii (seen look b) (seen_is_small look b (plain_is_small b plain)) in
    let more : map (seen look) (take (at + 1) bytes) ≡ map (seen look) (take at bytes) ++ seen look b ∷ [] = ap (map (seen look)) (take_more bytes at 0 lt) ∙ map-append (seen look) (take at bytes) (b ∷ []) in
    (omega (arith, first.1), ap (λ (l : List ℕ). l ++ encode_utf8 code) ((before all).1) ∙ ap (λ (l : List ℕ). map (seen look) (take at bytes) ++ l) one ∙ sym more)

-- ---- lines

seen_whole : (bytes : List ℕ) → map (seen Whole) bytes ≡ bytes
seen_whole [] = refl
seen_whole (b ∷ bs) = ap (λ (l : List ℕ). b ∷ l) (seen_whole bs)

-- where nothing is cut off, the bytes are shown
pub whole_shown : (begun goes : Bool) (bytes x p y : List ℕ) → (begun ≡ false → x ≡ []) → AreShown Whole bytes p → (goes ≡ false → y ≡ []) → (begun || goes) ≡ false → AllPass is_plain bytes → x ++ (p ++ y) ≡ bytes
whole_shown true goes bytes x p y hx hp hy none all = absurd (cc none)
whole_shown false true bytes x p y hx hp hy none all = absurd (cc none)
whole_shown false false bytes x p y hx hp hy none all = ap (λ (l : List ℕ). l ++ (p ++ y)) (hx refl) ∙ ap (λ (l : List ℕ). p ++ l) (hy refl) ∙ append-nil p ∙ hp all ∙ seen_whole bytes

-- a part of a plain line is plain
pub plain_part : (bytes : List ℕ) (n : ℕ) → AllPass is_plain bytes → AllPass is_plain (take n bytes)
plain_part bytes n all = All-take (λ b. is_plain b ≡ true) n bytes all

-- where nothing is cut off in front, the mark stands below the place
pub mark_made : (n : ℕ) (blanks shown before : List ℕ) → blanks ≡ replicate n 32 → n ≡ 0 → shown ≡ map (seen Blank) before → codes " | " ++ (blanks ++ (shown ++ codes "^\n")) ≡ mark_below before
mark_made n blanks shown before blanks_are none shown_is = ap (λ (l : List ℕ). codes " | " ++ (l ++ (shown ++ codes "^\n"))) (blanks_are ∙ ap (λ k. replicate k 32) none) ∙ ap (λ (l : List ℕ). codes " | " ++ (l ++ codes "^\n")) shown_is

-- an excerpt, by its number, its line and its mark
pub excerpt_made : (source : List ℕ) (at number : ℕ) (whole before : List ℕ) (begun goes : Bool) (line mark : List ℕ)
    → number ≡ line_in source at
    → (IsPlainLine (line_text source number) → (whole ≡ line_text source number) × (begun ≡ false) × (goes ≡ false) × (at ≤ length source → before ≡ take (length (text_before source at)) (line_text source number)))
    → IsLineShown whole (begun || goes) line
    → (begun ≡ false → AllPass is_plain before → mark ≡ mark_below before)
    → IsExcerpt source at (decimal number ++ (line ++ (replicate (length (decimal number)) 32 ++ mark)))
excerpt_made source at number whole before begun goes line mark number_is shows l marks =
    subst (λ n. IsExcerpt source at (decimal n ++ (line ++ (replicate (length (decimal n)) 32 ++ mark)))) (sym number_is) (record {
      shown = l.shown;
      mark = mark;
      is = ap (λ (t : List ℕ). decimal (line_in source at) ++ (t ++ (replicate (length (decimal (line_in source at))) 32 ++ mark))) l.is;
      line = λ h.
          let f = shows (subst (λ n. IsPlainLine (line_text source n)) (sym number_is) h) in
          let whole_line : whole ≡ line_text source (line_in source at) = f.0 ∙ ap (line_text source) number_is in
          let uncut : (begun || goes) ≡ false = ap (λ b. b || goes) f.1 ∙ f.2 in
          l.whole uncut (subst (λ (bytes : List ℕ). AllPass is_plain bytes) (sym whole_line) h.plain) ∙ whole_line;
      marked = λ within h.
          let f = shows (subst (λ n. IsPlainLine (line_text source n)) (sym number_is) h) in
          let front : before ≡ take (length (text_before source at)) (line_text source (line_in source at)) = f.3 within ∙ ap (λ n. take (length (text_before source at)) (line_text source n)) number_is in
          marks f.1 (subst (λ (bytes : List ℕ). AllPass is_plain bytes) (sym front) (plain_part (line_text source (line_in source at)) (length (text_before source at)) h.plain)) ∙ ap mark_below front;
    })
