-- The comments that are gathered byte by byte are those of the source.
use Rattle.std.proofs.Common.{◌≡◌, ◌∙◌, inl, inr, ◌==◌, ◌+◌, ◌-◌, ◌<◌, ◌≤◌, ℕ, suc, Bool, true, false, not, ◌&&◌, List, [], ◌∷◌, ◌++◌, map, length, take, drop, get_or, codes, if◌then◌else◌, refl, sym, ap, subst, arith}
use Rattle.std.specs.List.{Contains, list_all}
use Rattle.std.proofs.Math.ListN.{get_or-map}
use Rattle.std.proofs.Math.Seq.{drop-cons}
use Rattle.std.proofs.lemmas.Bool.{eqb-true}
use Rattle.std.proofs.lemmas.List.Elements.{All-contains}
use Rattle.std.proofs.lemmas.List.Sums.{AllPass-from_list_all, list_all-from_AllPass}
use Rattle.std.proofs.lemmas.List.{append_assoc, append-nil, append_cancel_left, append_cancel_right, drop_all, length-append, take-append-le, take_all}
use Rattle.cp_text.specs.Bytes.{is_separator, is_digit, is_letter, is_word_byte, is_in_comment, is_in_character}
use Rattle.cp_text.specs.Lexemes.{inside}
use Rattle.cp_text.specs.Reading.{AreCut, Has, IsQuoted, Part, joined, signs}
use Rattle.cp_text.specs.declared.piece.Shape.{Shape}
use Rattle.cp_text.specs.declared.piece.Shape.TheVariants as shape
use Rattle.cp_text.specs.declared.token.Mark.{Mark}
use Rattle.cp_verdict.specs.Comments.{blank_for, comment_in, comments_of, trimmed, IsBare, HoldsNone, AreHeld, and_text}
use Rattle.cp_verdict.specs.Gathering.{Gathered, after, in_code, kept, with_byte, with_bytes, separated, IsGathered}
use Rattle.cp_verdict.specs.declared.comments.Within.TheVariants.{Code, Character, Comment}
use Rattle.cp_expectation.proofs.Integers.{parts, both_true}

-- ---- bytes of code, of a character and of a comment

is_plain : ℕ → Bool
is_plain b = not (b == 34) && not (b == 39)

plain_stays : (b : ℕ) → is_plain b ≡ true → after Code b ≡ Code
unfolding is_plain
plain_stays b h = split (b == 34) (b == 39) h
  where
    split : (x y : Bool) → (not x && not y) ≡ true → (if x then Comment else (if y then Character else Code)) ≡ Code
    split true y k = absurd (cc)
    split false true k = absurd (cc)
    split false false k = refl

plain_read : (done : List (List ℕ)) (piece rest : List ℕ) → list_all is_plain piece ≡ true → with_bytes (in_code done) (piece ++ rest) ≡ with_bytes (in_code done) rest
unfolding with_bytes
plain_read done [] rest h = refl
plain_read done (b ∷ bs) rest h =
    let k = parts (is_plain b) (list_all is_plain bs) h in
    ap (λ w. with_bytes (record { done = done; begun = []; within = w }) (bs ++ rest)) (plain_stays b k.0) ∙ plain_read done bs rest k.1

character_stays : (b : ℕ) → is_in_character b ≡ true → after Character b ≡ Character
character_stays b h = split (b == 39) (b == 10) h
  where
    split : (x y : Bool) → (not x && not y) ≡ true → (if x then Code else (if y then Code else Character)) ≡ Character
    split true y k = absurd (cc)
    split false true k = absurd (cc)
    split false false k = refl

character_read : (done : List (List ℕ)) (text rest : List ℕ) → list_all is_in_character text ≡ true → with_bytes (record { done = done; begun = []; within = Character }) (text ++ 39 ∷ rest) ≡ with_bytes (in_code done) rest
unfolding with_bytes
character_read done [] rest h = refl
character_read done (b ∷ bs) rest h =
    let k = parts (is_in_character b) (list_all is_in_character bs) h in
    ap (λ w. with_bytes (record { done = done; begun = []; within = w }) (bs ++ 39 ∷ rest)) (character_stays b k.0) ∙ character_read done bs rest k.1

comment_stays : (b : ℕ) → is_in_comment b ≡ true → after Comment b ≡ Comment
comment_stays b h = split (b == 34) h
  where
    split : (x : Bool) → not x ≡ true → (if x then Code else Comment) ≡ Comment
    split true k = absurd (cc)
    split false k = refl

comment_read : (done : List (List ℕ)) (begun text rest : List ℕ) → list_all is_in_comment text ≡ true → with_bytes (record { done = done; begun = begun; within = Comment }) (text ++ 34 ∷ rest) ≡ with_bytes (in_code (done ++ (begun ++ map blank_for text) ∷ [])) rest
unfolding with_bytes
comment_read done begun [] rest h = ap (λ l. with_bytes (in_code (done ++ l ∷ [])) rest) (sym (append-nil begun))
comment_read done begun (b ∷ bs) rest h =
    let k = parts (is_in_comment b) (list_all is_in_comment bs) h in
    ap (λ w. with_bytes (kept (record { done = done; begun = begun; within = Comment }) w b) (bs ++ 34 ∷ rest)) (comment_stays b k.0) ∙ comment_read done (begun ++ blank_for b ∷ []) bs rest k.1 ∙ ap (λ l. with_bytes (in_code (done ++ l ∷ [])) rest) (append_assoc begun (blank_for b ∷ []) (map blank_for bs))

-- ---- pieces

other_byte : (p : ℕ → Bool) (b k : ℕ) → p b ≡ true → p k ≡ false → (b == k) ≡ false
other_byte p b k is other = split (b == k) refl
  where
    split : (x : Bool) → (b == k) ≡ x → x ≡ false
    split false e = refl
    split true e = absurd (cc (is, other, ap p (eqb-true b k e)))

plain_if : (p : ℕ → Bool) (b : ℕ) → p b ≡ true → p 34 ≡ false → p 39 ≡ false → is_plain b ≡ true
unfolding is_plain
plain_if p b is q a = ap (λ x. not x && not (b == 39)) (other_byte p b 34 is q) ∙ ap (λ x. not x) (other_byte p b 39 is a)

all_plain : (p : ℕ → Bool) (bs : List ℕ) → p 34 ≡ false → p 39 ≡ false → list_all p bs ≡ true → list_all is_plain bs ≡ true
all_plain p [] q a h = refl
all_plain p (b ∷ bs) q a h =
    let k = parts (p b) (list_all p bs) h in
    both_true (plain_if p b k.0 q a) (all_plain p bs q a k.1)

sign_plain : (x : List ℕ × Mark) → Contains signs x → list_all is_plain x.0 ≡ true
unfolding is_plain
sign_plain x h = All-contains (λ y. list_all is_plain y.0 ≡ true) signs x (AllPass-from_list_all (λ y. list_all is_plain y.0) signs refl) h

-- what stands between two quotes
between : (q : ℕ) (text : List ℕ) → inside (q ∷ (text ++ q ∷ [])) ≡ text
between q text =
    let long : length (q ∷ (text ++ q ∷ [])) - 1 - 1 ≡ length text = omega (arith, length-append text (q ∷ [])) in
    ap (λ n. take n (text ++ q ∷ [])) long ∙ take-append-le (length text) text (q ∷ []) (omega arith) ∙ take_all (length text) text (omega arith)

quoted_comment : (done : List (List ℕ)) (piece rest : List ℕ) → IsQuoted 34 is_in_comment piece → with_bytes (in_code done) (piece ++ rest) ≡ with_bytes (in_code (done ++ map blank_for (inside piece) ∷ [])) rest
unfolding with_bytes
quoted_comment done piece rest h =
    let text = h.text in
    ap (λ l. with_bytes (in_code done) (l ++ rest)) h.is ∙ ap (with_bytes (record { done = done; begun = []; within = Comment })) (append_assoc text (34 ∷ []) rest) ∙ comment_read done [] text rest (list_all-from_AllPass is_in_comment text h.inside) ∙ ap (λ l. with_bytes (in_code (done ++ map blank_for l ∷ [])) rest) (sym (ap inside h.is ∙ between 34 text))

quoted_character : (done : List (List ℕ)) (piece rest : List ℕ) → IsQuoted 39 is_in_character piece → with_bytes (in_code done) (piece ++ rest) ≡ with_bytes (in_code done) rest
unfolding with_bytes
quoted_character done piece rest h =
    let text = h.text in
    ap (λ l. with_bytes (in_code done) (l ++ rest)) h.is ∙ ap (with_bytes (record { done = done; begun = []; within = Character })) (append_assoc text (39 ∷ []) rest) ∙ character_read done text rest (list_all-from_AllPass is_in_character text h.inside)

piece_read : (s : Shape) (done : List (List ℕ)) (piece rest : List ℕ) → Has s piece → with_bytes (in_code done) (piece ++ rest) ≡ with_bytes (in_code (done ++ comment_in s piece)) rest
piece_read shape.Separator done piece rest h =
    ap (λ l. with_bytes (in_code done) (l ++ rest)) h.is ∙ plain_read done (h.byte ∷ []) rest (both_true (plain_if is_separator h.byte h.separates refl refl) refl) ∙ nothing_more done rest
  where
    nothing_more : (ds : List (List ℕ)) (bs : List ℕ) → with_bytes (in_code ds) bs ≡ with_bytes (in_code (ds ++ [])) bs
    nothing_more ds bs = ap (λ l. with_bytes (in_code l) bs) (sym (append-nil ds))
piece_read shape.Comment done piece rest h = quoted_comment done piece rest h
piece_read shape.Number done piece rest h = plain_read done piece rest (all_plain is_digit piece refl refl (list_all-from_AllPass is_digit piece h.1)) ∙ ap (λ l. with_bytes (in_code l) rest) (sym (append-nil done))
piece_read shape.Name done piece rest h =
    ap (λ l. with_bytes (in_code done) (l ++ rest)) h.is ∙ plain_read done (h.first ∷ h.more) rest (both_true (plain_if is_letter h.first h.letter refl refl) (all_plain is_word_byte h.more refl refl (list_all-from_AllPass is_word_byte h.more h.word))) ∙ ap (λ l. with_bytes (in_code l) rest) (sym (append-nil done))
piece_read shape.Character done piece rest h = quoted_character done piece rest h ∙ ap (λ l. with_bytes (in_code l) rest) (sym (append-nil done))
piece_read (shape.Sign m) done piece rest h = plain_read done piece rest (sign_plain (piece, m) h) ∙ ap (λ l. with_bytes (in_code l) rest) (sym (append-nil done))

parts_read : (done : List (List ℕ)) (parts : List Part) → AreCut parts [] → with_bytes (in_code done) (joined parts []) ≡ in_code (done ++ comments_of parts)
unfolding with_bytes
parts_read done [] h = nothing done
  where
    nothing : (ds : List (List ℕ)) → with_bytes (in_code ds) [] ≡ in_code (ds ++ [])
    nothing ds = ap in_code (sym (append-nil ds))
parts_read done (p ∷ ps) h =
    piece_read p.shape done p.text (joined ps []) h.0.shaped ∙ parts_read (done ++ comment_in p.shape p.text) ps h.1 ∙ ap in_code (append_assoc done (comment_in p.shape p.text) (comments_of ps))

pub comments_gathered : (source : List ℕ) (parts : List Part) → AreCut parts [] → source ≡ joined parts [] → (with_bytes (in_code []) source).done ≡ comments_of parts
comments_gathered source parts cut is = ap (λ l. (with_bytes (in_code []) l).done) is ∙ ap (λ (g : Gathered). g.done) (parts_read [] parts cut)

-- ---- one byte more

cut : {A : Type 0} (xs : List A) (i : ℕ) (d : A) → i < length xs → drop i xs ≡ get_or xs i d ∷ drop (i + 1) xs
cut xs i d less = let next : suc i ≡ i + 1 = omega arith in drop-cons xs i d less ∙ ap (λ k. get_or xs i d ∷ drop k xs) next

pub byte_more : (source : List ℕ) (i d : ℕ) (g h whole : Gathered) → i < length source → h ≡ with_byte g g.within (get_or source i d) → with_bytes g (drop i source) ≡ whole → with_bytes h (drop (i + 1) source) ≡ whole
unfolding with_bytes
byte_more source i d g h whole less is e =
    ap (λ x. with_bytes x (drop (i + 1) source)) is ∙ ap (with_bytes g) (sym (cut source i d less)) ∙ e

pub bytes_over : (source : List ℕ) (i : ℕ) (g whole : Gathered) → length source ≤ i → with_bytes g (drop i source) ≡ whole → g ≡ whole
unfolding with_bytes
bytes_over source i g whole le e = ap (with_bytes g) (sym (drop_all i source le)) ∙ e

-- ---- what a comment holds

same_bare : (text a b : List ℕ) → IsBare text a → IsBare text b → a ≡ b
same_bare text a b (inl p) (inl q) = append_cancel_right a b (codes "*)") (sym p ∙ q)
same_bare text a b (inl p) (inr q) = absurd (q.1 a p)
same_bare text a b (inr p) (inl q) = absurd (p.1 b q)
same_bare text a b (inr p) (inr q) = p.0 ∙ sym q.0

pub none_held : (comment behind bare : List ℕ) → trimmed comment ≡ codes "(* expect" ++ behind → IsBare behind bare → ((more : List ℕ) → ¬ (bare ≡ codes " " ++ more)) → HoldsNone comment
none_held comment behind bare is begun none text (b, more, e, k, t) =
    let same : b ≡ behind = append_cancel_left (codes "(* expect") b behind (sym e ∙ is) in
    none more (same_bare behind bare text begun (subst (λ l. IsBare l text) same k) ∙ t)

-- ---- all comments

and_more : (t u : List ℕ) (ts : List (List ℕ)) → and_text ((t ∷ ts) ++ u ∷ []) ≡ and_text (t ∷ ts) ++ codes " and " ++ u
and_more t u [] = refl
and_more t u (v ∷ ts) =
    let front = t ++ codes " and " in
    let middle = and_text (v ∷ ts) in
    ap (λ l. front ++ l) (and_more v u ts) ∙ sym (ap (λ l. l ++ u) (append_assoc front middle (codes " and ")) ∙ append_assoc front (middle ++ codes " and ") u)

-- where there are texts, they are not empty together
abbrev pub IsFilled : List (List ℕ) → List ℕ → Type 0
IsFilled [] joined = Unit {0}
IsFilled (t ∷ ts) joined = 0 < length joined

-- the texts so far, and with them those that the comments which are left hold
abbrev pub HeldUpTo : (comments : List (List ℕ)) → ℕ → (joined : List ℕ) → Type 0
HeldUpTo comments i joined =
    (texts : List (List ℕ)) × (joined ≡ and_text texts) × IsFilled texts joined × ((more : List (List ℕ)) → AreHeld (drop i comments) more → AreHeld comments (texts ++ more))

not_empty : (before : List ℕ) → 0 < length before → separated before ≡ before ++ codes " and "
not_empty before some = split (length before == 0) refl
  where
    split : (b : Bool) → (length before == 0) ≡ b → (if b then before else before ++ codes " and ") ≡ before ++ codes " and "
    split true e = absurd (omega (arith, eqb-true (length before) 0 e))
    split false e = refl

joined_more : (texts : List (List ℕ)) (before now text more : List ℕ) → before ≡ and_text texts → IsFilled texts before → text ≡ codes " " ++ more → now ≡ separated before ++ text → (now ≡ and_text (texts ++ text ∷ [])) × IsFilled (texts ++ text ∷ []) now
joined_more [] before now text more e f blank is =
    let same : now ≡ text = is ∙ ap (λ l. separated l ++ text) e in
    (same, omega (arith, ap length same, ap length blank))
joined_more (t ∷ ts) before now text more e f blank is =
    let whole : now ≡ before ++ codes " and " ++ text = is ∙ ap (λ l. l ++ text) (not_empty before f) in
    (whole ∙ ap (λ l. l ++ codes " and " ++ text) e ∙ sym (and_more t text ts), omega (arith, f, ap length whole, length-append (before ++ codes " and ") text, length-append before (codes " and ")))

pub held_more : (comments : List (List ℕ)) (i : ℕ) (d before now : List ℕ) → i < length comments → HeldUpTo comments i before → IsGathered (get_or comments i d) before now → HeldUpTo comments (i + 1) now
held_more comments i d before now less (texts, e, f, held) (read, readable, inl (text, holds, is)) =
    let j = joined_more texts before now text holds.1 e f holds.4 is in
    (texts ++ text ∷ [], j.0, j.1, λ more k. subst (AreHeld comments) (sym (append_assoc texts (text ∷ []) more)) (held (text ∷ more) (subst (λ l. AreHeld l (text ∷ more)) (sym (cut comments i d less)) (read, readable, inl (text, more, holds, k, refl)))))
held_more comments i d before now less (texts, e, f, held) (read, readable, inr (none, same)) =
    (texts, same ∙ e, subst (IsFilled texts) (sym same) f, λ more k. held more (subst (λ l. AreHeld l more) (sym (cut comments i d less)) (read, readable, inr (none, k))))

pub all_held : (comments : List (List ℕ)) (i : ℕ) (joined : List ℕ) → length comments ≤ i → HeldUpTo comments i joined → (texts : List (List ℕ)) × AreHeld comments texts × (joined ≡ and_text texts)
all_held comments i joined le (texts, e, f, held) = (texts, subst (AreHeld comments) (append-nil texts) (held [] (subst (λ l. AreHeld l []) (sym (drop_all i comments le)) refl)), e)

pub gathered_at : {A : Type 0} (f : A → List ℕ) (items : List A) (i : ℕ) (d : A) (before now : List ℕ) → IsGathered (f (get_or items i d)) before now → IsGathered (get_or (map f items) i (f d)) before now
gathered_at f items i d before now h = subst (λ l. IsGathered l before now) (sym (get_or-map f items i d)) h
