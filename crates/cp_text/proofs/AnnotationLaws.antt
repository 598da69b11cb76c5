-- What an annotation is made of: an opening, an inner text and a closing, which ends in the first quote.
use Rattle.std.proofs.Common.{◌≡◌, ℕ, zero, suc, ◌<◌, ◌≤◌, ◌+◌, ◌-◌, Bool, true, false, List, [], ◌∷◌, ◌++◌, length, take, drop, arith, refl, sym, ap, ◌∙◌, subst, Option, Some, None, append_assoc}
use Rattle.std.specs.Prelude.{◌==◌, ◌&&◌, slice_index, slice_range, option_map}
use Rattle.std.specs.List.{AllPass, prefix_len}
use Rattle.std.proofs.lemmas.Bool.{cond_both}
use Rattle.std.proofs.lemmas.List.{take-append-drop, take_more, length-take, drop-drop}
use Rattle.cp_text.specs.declared.annotation.Annotation.{Annotation}
use Rattle.cp_text.specs.declared.token.Mark.{Mark}
use Rattle.cp_text.specs.Bytes.{is_in_comment, is_separator, is_word_byte}
use Rattle.cp_text.specs.Reading.{IsQuoted}
use Rattle.cp_text.specs.Annotations.{Annotated, extents, kept, without_separators, inner, annotated, from_word, before_word, opening_mark, annotation_in, annotation_of}
use Rattle.cp_text.proofs.LexemeLaws.{inside_is}

all_tail : (p : ℕ → Bool) (b : ℕ) (l : List ℕ) → AllPass p (b ∷ l) → AllPass p l
all_tail p b l all = λ k d h. all (suc k) d (omega arith)

all_drop : (p : ℕ → Bool) (n : ℕ) (l : List ℕ) → AllPass p l → AllPass p (drop n l)
all_drop p zero l all = all
all_drop p (suc n) [] all = all
all_drop p (suc n) (b ∷ l) all = all_drop p n l (all_tail p b l all)

-- a run of such bytes before one that is not of them
pub run_is : (p : ℕ → Bool) (l : List ℕ) (q : ℕ) (rest : List ℕ) → AllPass p l → p q ≡ false → prefix_len p (l ++ q ∷ rest) ≡ length l
run_is p [] q rest all stops = rw stops refl
run_is p (b ∷ l) q rest all stops =
    let first : p b ≡ true = all 0 b (omega arith) in
    rw first (omega (arith, run_is p l q rest (all_tail p b l all) stops))

-- the annotation that a comment is
pub record IsMadeOf (comment : List ℕ) (a : Annotated) : Type 0 where
  pub whole : comment ≡ a.before ++ (a.text ++ a.closing)
  pub some : 1 ≤ length a.before
  pub last : List ℕ
  pub closes : a.closing ≡ last ++ 34 ∷ []
  pub inside : AllPass is_in_comment last

-- ---- the inner text is the front of what stands behind the word

front_kept : (b : ℕ) (bs rest : List ℕ) → rest ≡ take (length rest) bs → kept b rest ≡ take (length (kept b rest)) (b ∷ bs)
front_kept b bs [] h = cond_both (is_separator b) [] (b ∷ []) (λ xs. xs ≡ take (length xs) (b ∷ bs)) (λ _. refl) (λ _. refl)
front_kept b bs (c ∷ cs) h = ap (λ xs. b ∷ xs) h

front_without : (text : List ℕ) → without_separators text ≡ take (length (without_separators text)) text
front_without [] = refl
front_without (b ∷ bs) = front_kept b bs (without_separators bs) (front_without bs)

take_take : (n : ℕ) (xs ys : List ℕ) → xs ≡ take (length xs) ys → take n xs ≡ take (length (take n xs)) ys
take_take zero xs ys h = refl
take_take (suc n) [] ys h = refl
take_take (suc n) (x ∷ xs) [] h = let wrong : x ∷ xs ≡ [] = h in cc
take_take (suc n) (x ∷ xs) (y ∷ ys) h =
    let same : x ∷ xs ≡ y ∷ take (length xs) ys = h in
    let first : x ≡ y = cc in
    let more : xs ≡ take (length xs) ys = cc in
    rw first (ap (λ zs. y ∷ zs) (take_take n xs ys more))

all_taken : (text : List ℕ) → text ≡ take (length text) text
all_taken [] = refl
all_taken (b ∷ bs) = ap (λ xs. b ∷ xs) (all_taken bs)

front_inner : (text : List ℕ) → inner text ≡ take (length (inner text)) text
front_inner text =
    let said = without_separators text in
    cond_both (slice_index (without_separators text) (length (without_separators text) - 2) == 42 && slice_index (without_separators text) (length (without_separators text) - 1) == 41)
    (take (length (without_separators text) - 2) (without_separators text)) text (λ xs. xs ≡ take (length xs) text)
    (λ _. take_take (length (without_separators text) - 2) (without_separators text) text (front_without text))
    (λ _. all_taken text)

-- ---- the separators at the end, from the last one back

without_snoc : (xs : List ℕ) (b : ℕ) → is_separator b ≡ true → without_separators (xs ++ b ∷ []) ≡ without_separators xs
without_snoc [] b h = rw h refl
without_snoc (x ∷ xs) b h = ap (kept x) (without_snoc xs b h)

kept_snoc : (x : ℕ) (xs : List ℕ) (b : ℕ) → kept x (xs ++ b ∷ []) ≡ x ∷ (xs ++ b ∷ [])
kept_snoc x [] b = refl
kept_snoc x (y ∷ ys) b = refl

without_other : (xs : List ℕ) (b : ℕ) → is_separator b ≡ false → without_separators (xs ++ b ∷ []) ≡ xs ++ b ∷ []
without_other [] b h = rw h refl
without_other (x ∷ xs) b h = ap (kept x) (without_other xs b h) ∙ kept_snoc x xs b

pub without_all : (text : List ℕ) → without_separators (take (length text) text) ≡ without_separators text
without_all text = ap without_separators (sym (all_taken text))

pub without_last : (text : List ℕ) (n m : ℕ) → m ≡ n + 1 → n < length text → is_separator (slice_index text n) ≡ true → without_separators (take m text) ≡ without_separators (take n text)
without_last text n m next below h =
    ap (λ k. without_separators (take k text)) next ∙ ap without_separators (take_more text n 0 below) ∙ without_snoc (take n text) (slice_index text n) h

pub without_stops : (text : List ℕ) (n m : ℕ) → m ≡ n + 1 → n < length text → is_separator (slice_index text n) ≡ false → without_separators (take m text) ≡ take m text
without_stops text n m next below h =
    let more = ap (λ k. take k text) next ∙ take_more text n 0 below in
    ap without_separators more ∙ without_other (take n text) (slice_index text n) h ∙ sym more

pub without_within : (text : List ℕ) → length (without_separators text) ≤ length text
without_within text = omega (arith, ap length (front_without text), length-take (length (without_separators text)) text)

pub inner_within : (text said : List ℕ) → said ≡ without_separators text → length (take (length said - 2) said) ≤ length text
inner_within text said is = omega (arith, ap length is, length-take (length said - 2) said, without_within text)

-- ---- comments

made_of : (text : List ℕ) (opening : ℕ) (m : Mark) → AllPass is_in_comment text
    → IsMadeOf (34 ∷ (text ++ 34 ∷ [])) (record { mark = m; before = 34 ∷ take opening text; text = inner (drop opening text); closing = drop (opening + length (inner (drop opening text))) text ++ 34 ∷ [] })
made_of text opening m all =
    let rest = drop opening text in
    let n = length (inner (drop opening text)) in
    let behind : drop (opening + length (inner (drop opening text))) text ≡ drop (length (inner (drop opening text))) (drop opening text) = sym (drop-drop (length (inner (drop opening text))) opening text) in
    let parts : inner (drop opening text) ++ drop (opening + length (inner (drop opening text))) text ≡ drop opening text =
    ap (λ xs. inner (drop opening text) ++ xs) behind ∙ ap (λ xs. xs ++ drop (length (inner (drop opening text))) (drop opening text)) (front_inner (drop opening text))
    ∙ take-append-drop (length (inner (drop opening text))) (drop opening text) in
    let inside : take opening text ++ (inner (drop opening text) ++ drop (opening + length (inner (drop opening text))) text) ≡ text = ap (λ xs. take opening text ++ xs) parts ∙ take-append-drop opening text in
    record {
      whole = ap (λ xs. 34 ∷ (xs ++ 34 ∷ [])) (sym inside)
          ∙ ap (λ xs. 34 ∷ xs) (append_assoc (take opening text) (inner (drop opening text) ++ drop (opening + length (inner (drop opening text))) text) (34 ∷ [])
          ∙ ap (λ xs. take opening text ++ xs) (append_assoc (inner (drop opening text)) (drop (opening + length (inner (drop opening text))) text) (34 ∷ [])));
      some = omega arith;
      last = drop (opening + length (inner (drop opening text))) text;
      closes = refl;
      inside = all_drop is_in_comment (opening + length (inner (drop opening text))) text all;
    }

annotated_made : (text : List ℕ) (opening : ℕ) (o : Option Mark) (a : Annotated) → AllPass is_in_comment text → annotated text opening o ≡ Some a → IsMadeOf (34 ∷ (text ++ 34 ∷ [])) a
annotated_made text opening None a all h = cc
annotated_made text opening (Some m) a all h =
    let same : record { mark = m; before = 34 ∷ take opening text; text = inner (drop opening text); closing = drop (opening + length (inner (drop opening text))) text ++ 34 ∷ [] } ≡ a = cc in
    subst (IsMadeOf (34 ∷ (text ++ 34 ∷ []))) same (made_of text opening m all)

from_made : (text : List ℕ) (o : Option ℕ) (a : Annotated) → AllPass is_in_comment text → from_word text o ≡ Some a → IsMadeOf (34 ∷ (text ++ 34 ∷ [])) a
from_made text None a all h = cc
from_made text (Some n) a all h =
    let len = prefix_len is_word_byte (drop n text) in
    annotated_made text (n + prefix_len is_word_byte (drop n text)) (opening_mark (take (prefix_len is_word_byte (drop n text)) (drop n text))) a all h

annotation_made : (text : List ℕ) (a : Annotated) → AllPass is_in_comment text → annotation_in text ≡ Some a → IsMadeOf (34 ∷ (text ++ 34 ∷ [])) a
unfolding annotation_in
annotation_made text a all h = from_made text (before_word text) a all h

pub made_from : (comment : List ℕ) (a : Annotated) → IsQuoted 34 is_in_comment comment → annotation_of comment ≡ Some a → IsMadeOf comment a
made_from comment a q h =
    let e : annotation_in (slice_range (34 ∷ (q.text ++ 34 ∷ [])) 1 (length (34 ∷ (q.text ++ 34 ∷ [])) - 1)) ≡ Some a = subst (λ c. annotation_in (slice_range c 1 (length c - 1)) ≡ Some a) q.is h in
    let inside : annotation_in q.text ≡ Some a = ap annotation_in (sym (inside_is q.text 34)) ∙ e in
    subst (λ c. IsMadeOf c a) (sym q.is) (annotation_made q.text a q.inside inside)

-- ---- the same by lengths, from the word on

pub unmarked : (text : List ℕ) (n len : ℕ) → before_word text ≡ Some n → len ≡ prefix_len is_word_byte (drop n text) → opening_mark (take len (drop n text)) ≡ None → annotation_in text ≡ None
unfolding annotation_in
unmarked text n len before is none =
    let here : opening_mark (take (prefix_len is_word_byte (drop n text)) (drop n text)) ≡ None = subst (λ l. opening_mark (take l (drop n text)) ≡ None) is none in
    ap (from_word text) before ∙ ap (annotated text (n + prefix_len is_word_byte (drop n text))) here

pub marked : (text : List ℕ) (n len : ℕ) (m : Mark) → before_word text ≡ Some n → len ≡ prefix_len is_word_byte (drop n text) → opening_mark (take len (drop n text)) ≡ Some m → n + len ≤ length text
    → Some (record { mark = m; opening = n + len + 1; inner = length (inner (drop len (drop n text))) }) ≡ option_map extents (annotation_in text)
unfolding annotation_in
marked text n len m before is some within =
    let here : opening_mark (take (prefix_len is_word_byte (drop n text)) (drop n text)) ≡ Some m = subst (λ l. opening_mark (take l (drop n text)) ≡ Some m) is some in
    let all : from_word text (before_word text) ≡ annotated text (n + len) (Some m) =
    ap (from_word text) before ∙ ap (annotated text (n + prefix_len is_word_byte (drop n text))) here ∙ ap (λ l. annotated text (n + l) (Some m)) (sym is) in
    let opening : n + len + 1 ≡ suc (length (take (n + len) text)) = omega (arith, length-take (n + len) text) in
    let behind : length (inner (drop len (drop n text))) ≡ length (inner (drop (n + len) text)) = ap (λ t. length (inner t)) (drop-drop len n text) in
    made opening behind ∙ ap (option_map extents) (sym all)
  where
    made : {a b c d : ℕ} → a ≡ b → c ≡ d → let x : Annotation = record { mark = m; opening = a; inner = c } in let y : Annotation = record { mark = m; opening = b; inner = d } in Some x ≡ Some y
    made e f = cc
