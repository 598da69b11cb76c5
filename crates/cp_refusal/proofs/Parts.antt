-- The line that begins at a place is a part between two line feeds: that of its number.
use Rattle.std.proofs.Common.{◌≡◌, ◌≢◌, ◌∙◌, ℕ, zero, suc, ◌+◌, ◌-◌, ◌<◌, ◌≤◌, ◌==◌, Bool, true, false, cond, not, List, [], ◌∷◌, ap, arith, drop, get_or, inl, inr, length, min, refl, subst, sym, take, take_all}
use Rattle.std.specs.List.{before_first, onto_first, position_or_len, prefix_len, slice_split}
use Rattle.std.specs.Str.Lines.{strip_carriage_return}
use Rattle.std.proofs.lemmas.Bool.Decides.{nat_tests}
use Rattle.std.proofs.lemmas.List.{drop_min, length-drop, take_min}
use Rattle.std.proofs.lemmas.List.Splits.{slice_split-cons_no, slice_split-cons_yes}
use Rattle.std.proofs.lemmas.List.Sums.{position_or_len_is, sum_by-cons}
use Rattle.cp_text.specs.Bytes.{line_feeds}
use Rattle.cp_refusal.specs.Lines.{BeginsLine, line_in, line_text}
use Rattle.cp_refusal.proofs.Lines.{feeds_more}

abbrev feeds : ℕ → Bool
feeds b = b == 10

one_more : (c : ℕ) → 1 + suc c ≡ suc (suc c)
one_more c = omega arith

none_more : (c : ℕ) → 0 + suc c ≡ suc c
none_more c = omega arith

plus_one : (k : ℕ) → k + 1 ≡ suc k
plus_one k = omega arith

-- ---- the first part

front_no : (x : ℕ) (xs : List ℕ) → feeds x ≡ false → before_first feeds (x ∷ xs) ≡ x ∷ before_first feeds xs
front_no x xs ends =
    let n = prefix_len (λ y. not (feeds y)) xs in
    let all : prefix_len (λ y. not (feeds y)) (x ∷ xs) ≡ suc n = ap (λ b. cond (not b) (1 + n) 0) ends ∙ omega arith in
    ap (λ k. take k (x ∷ xs)) all

front_yes : (x : ℕ) (xs : List ℕ) → feeds x ≡ true → before_first feeds (x ∷ xs) ≡ []
front_yes x xs ends =
    let n = prefix_len (λ y. not (feeds y)) xs in
    ap (λ b. take (cond (not b) (1 + n) 0) (x ∷ xs)) ends

first_onto : (x : ℕ) (parts : List (List ℕ)) → get_or (onto_first x parts) 0 [] ≡ x ∷ get_or parts 0 []
first_onto x [] = refl
first_onto x (q ∷ qs) = refl

later_onto : (x k : ℕ) (parts : List (List ℕ)) → get_or (onto_first x parts) (suc k) [] ≡ get_or parts (suc k) []
later_onto x zero [] = refl
later_onto x (suc k) [] = refl
later_onto x k (q ∷ qs) = refl

first_part_of : (x : ℕ) (xs : List ℕ) (b : Bool) → feeds x ≡ b → get_or (slice_split feeds xs) 0 [] ≡ before_first feeds xs → get_or (slice_split feeds (x ∷ xs)) 0 [] ≡ before_first feeds (x ∷ xs)
first_part_of x xs true e h = ap (λ (ps : List (List ℕ)). get_or ps 0 []) (slice_split-cons_yes feeds x xs e) ∙ sym (front_yes x xs e)
first_part_of x xs false e h = ap (λ (ps : List (List ℕ)). get_or ps 0 []) (slice_split-cons_no feeds x xs e) ∙ first_onto x (slice_split feeds xs) ∙ ap (λ (l : List ℕ). x ∷ l) h ∙ sym (front_no x xs e)

first_part : (s : List ℕ) → get_or (slice_split feeds s) 0 [] ≡ before_first feeds s
first_part [] = refl
first_part (x ∷ xs) = first_part_of x xs (feeds x) refl (first_part xs)

-- ---- the part at which a line begins, after a line feed

feed_at : (b : ℕ) → b ≡ 10 → feeds b ≡ true
feed_at b is = grind (arith, nat_tests)

feeds_cons : (x : ℕ) (xs : List ℕ) → line_feeds (x ∷ xs) ≡ cond (feeds x) 1 0 + line_feeds xs
feeds_cons x xs = sum_by-cons (λ y. cond (feeds y) 1 0) x xs

-- one byte more before it
part_after : (x c : ℕ) (xs : List ℕ) (b : Bool) → feeds x ≡ b → 0 < c → get_or (slice_split feeds (x ∷ xs)) (cond b 1 0 + c) [] ≡ get_or (slice_split feeds xs) c []
part_after x zero xs b e pos = absurd (omega arith)
part_after x (suc c) xs true e pos = ap (λ (ps : List (List ℕ)). get_or ps (1 + suc c) []) (slice_split-cons_yes feeds x xs e) ∙ ap (λ k. get_or ([] ∷ slice_split feeds xs) k []) (one_more c)
part_after x (suc c) xs false e pos = ap (λ (ps : List (List ℕ)). get_or ps (0 + suc c) []) (slice_split-cons_no feeds x xs e) ∙ ap (λ k. get_or (onto_first x (slice_split feeds xs)) k []) (none_more c) ∙ later_onto x c (slice_split feeds xs)

part_behind : (s : List ℕ) (k : ℕ) → k < length s → get_or s k 0 ≡ 10 → get_or (slice_split feeds s) (line_feeds (take (suc k) s)) [] ≡ before_first feeds (drop (suc k) s)
part_behind [] k lt is = absurd (omega arith)
part_behind (x ∷ xs) zero lt is = ap (λ (ps : List (List ℕ)). get_or ps (line_feeds (x ∷ [])) []) (slice_split-cons_yes feeds x xs (feed_at x is)) ∙ ap (λ k. get_or ([] ∷ slice_split feeds xs) k []) (feeds_cons x [] ∙ ap (λ b. cond b 1 0 + 0) (feed_at x is)) ∙ first_part xs
part_behind (x ∷ xs) (suc k) lt is =
    let c = line_feeds (take (suc k) xs) in
    let more : c ≡ line_feeds (take k xs) + 1 = ap (λ n. line_feeds (take n xs)) (sym (plus_one k)) ∙ feeds_more xs k (omega arith) is in
    ap (λ n. get_or (slice_split feeds (x ∷ xs)) n []) (feeds_cons x (take (suc k) xs)) ∙ part_after x c xs (feeds x) refl (omega arith) ∙ part_behind xs k (omega arith) is

-- ---- the line of a place

pub part_at : (s : List ℕ) (at : ℕ) → at ≤ length s → BeginsLine s at → get_or (slice_split feeds s) (line_feeds (take at s)) [] ≡ before_first feeds (drop at s)
part_at s at within (inl none) = subst (λ k. get_or (slice_split feeds s) (line_feeds (take k s)) [] ≡ before_first feeds (drop k s)) (sym none) (first_part s)
part_at s zero within (inr is) = first_part s
part_at s (suc k) within (inr is) = part_behind s k (omega arith) (ap (λ n. get_or s n 0) (omega arith) ∙ is)

-- what begins at a line's place is the text of the line of its number
pub line_at_start : (s line : List ℕ) (number at : ℕ) → at ≤ length s → BeginsLine s at → line_in s at ≡ number → line ≡ strip_carriage_return (before_first feeds (drop at s)) → line ≡ line_text s number
line_at_start s line number at within begins is line_is =
    let k : line_feeds (take at s) ≡ number - 1 = omega arith in
    line_is ∙ ap strip_carriage_return (sym (part_at s at within begins) ∙ ap (λ n. get_or (slice_split feeds s) n []) k)

-- ---- the first line feed of a text

no_feed_at : (b : ℕ) → b ≢ 10 → feeds b ≡ false
no_feed_at b is = grind (arith, nat_tests)

pub feed_found : (s : List ℕ) (at : ℕ) → at < length s → ((k : ℕ) → k < at → get_or s k 0 ≢ 10) → get_or s at 0 ≡ 10 → at ≡ position_or_len feeds s
feed_found s at lt none is = sym (position_or_len_is feeds s at 0 (omega arith) (λ k h. no_feed_at (get_or s k 0) (none k h)) (λ _. feed_at (get_or s at 0) is))

pub no_feed_found : (s : List ℕ) (at : ℕ) → at ≡ length s → ((k : ℕ) → k < at → get_or s k 0 ≢ 10) → length s ≡ position_or_len feeds s
no_feed_found s at end none = sym end ∙ sym (position_or_len_is feeds s at 0 (omega arith) (λ k h. no_feed_at (get_or s k 0) (none k h)) (λ lt. absurd (omega arith)))

-- the text from a place to the next line feed
pub cut_before_feed : (s : List ℕ) (start first len cut : ℕ) → first ≡ min start (length s) → len ≡ position_or_len feeds (take (length s - first) (drop first s)) → cut ≡ min len (length (take (length s - first) (drop first s))) → take cut (take (length s - first) (drop first s)) ≡ before_first feeds (drop start s)
cut_before_feed s start first len cut first_is len_is cut_is =
    let rest = take (length s - first) (drop first s) in
    let all_of : rest ≡ drop start s = take_all (length s - first) (drop first s) (simp length-drop (omega arith)) ∙ ap (λ k. drop k s) first_is ∙ drop_min start s in
    ap (λ k. take k rest) cut_is ∙ take_min len rest ∙ ap (λ k. take k rest) len_is ∙ ap (before_first feeds) all_of

no_feed_of : (x : ℕ) (xs : List ℕ) (b : Bool) → feeds x ≡ b → cond (feeds x) 1 0 + line_feeds xs ≡ 0 → (line_feeds xs ≡ 0 → before_first feeds xs ≡ xs) → before_first feeds (x ∷ xs) ≡ x ∷ xs
no_feed_of x xs true e none h = let one : ◌≡◌ {A = ℕ} (cond (feeds x) 1 0) 1 = ap (λ b. cond b 1 0) e in absurd (omega arith)
no_feed_of x xs false e none h = let nothing : ◌≡◌ {A = ℕ} (cond (feeds x) 1 0) 0 = ap (λ b. cond b 1 0) e in front_no x xs e ∙ ap (λ (l : List ℕ). x ∷ l) (h (omega arith))

-- a text without line feeds is its first part
pub no_feed_in : (s : List ℕ) → line_feeds s ≡ 0 → before_first feeds s ≡ s
no_feed_in [] none = refl
no_feed_in (x ∷ xs) none = no_feed_of x xs (feeds x) refl (sym (feeds_cons x xs) ∙ none) (no_feed_in xs)
