-- What stands before a place on its line begins where the line begins.
use Rattle.std.proofs.Common.{◌≡◌, ◌∙◌, ℕ, zero, suc, ◌+◌, ◌-◌, ◌<◌, ◌≤◌, ◌==◌, cond, List, [], Option, Some, None, ap, arith, drop, get_or, inl, inr, length, min, refl, subst, sym, take}
use Rattle.std.specs.Borrow.{Bor}
use Rattle.std.specs.Prelude.{unwrap_or}
use Rattle.std.specs.Slice.{IsGetRangeResult}
use Rattle.std.specs.List.{slice_split}
use Rattle.std.proofs.lemmas.List.{drop-take, get_or-take, length-drop, length-take, take-append-drop, take-take}
use Rattle.std.proofs.lemmas.List.Sums.{sum_by-append, sum_by-take-le}
use Rattle.cp_text.specs.Bytes.{line_feeds}
use Rattle.cp_refusal.specs.Lines.{BeginsLine, IsLineStart, last_line, line_in, text_before}
use Rattle.cp_refusal.proofs.LineShown.{no_later_line}
use Rattle.cp_refusal.proofs.Lines.{feeds_more}
use Rattle.cp_refusal.proofs.Parts.{no_feed_in, part_at}

feeds_up_to : (s : List ℕ) (m n : ℕ) → m ≤ n → line_feeds (take m s) ≤ line_feeds (take n s)
feeds_up_to s m n le = subst (λ (l : List ℕ). line_feeds l ≤ line_feeds (take n s)) (take-take m n s le) (sum_by-take-le (λ b. cond (b == 10) 1 0) (take n s) m)

-- a line after the place would have a greater number
not_after : (s : List ℕ) (at start : ℕ) → start ≤ length s → BeginsLine s start → line_in s start ≡ line_in s at → at < start → ⊥
not_after s at start within (inl none) same lt = omega arith
not_after s at zero within (inr feed) same lt = omega arith
not_after s at (suc k) within (inr feed) same lt =
    let less = feeds_up_to s at k (omega arith) in
    let feed_at : get_or s k 0 ≡ 10 = ap (λ n. get_or s n 0) (omega arith) ∙ feed in
    let more = feeds_more s k (omega arith) feed_at in
    let next : suc k ≡ k + 1 = omega arith in
    let one : line_feeds (take (suc k) s) ≡ line_feeds (take (k + 1) s) = ap (λ n. line_feeds (take n s)) next in
    omega arith

pub start_before : (s : List ℕ) (at start : ℕ) → IsLineStart s (line_in s at) start → start ≤ at
start_before s at start found = let none : at < start → ⊥ = not_after s at start found.within found.begins found.line in omega arith

begins_front : (s : List ℕ) (at start : ℕ) → start ≤ at → BeginsLine s start → BeginsLine (take at s) start
begins_front s at start le (inl none) = inl none
begins_front s at zero le (inr feed) = inl refl
begins_front s at (suc k) le (inr feed) = inr (get_or-take at s (suc k - 1) 0 (omega arith) ∙ feed)

pub front_is : (s : List ℕ) (at start : ℕ) → IsLineStart s (line_in s at) start → drop start (take at s) ≡ text_before s at
front_is s at start found =
    let le = start_before s at start found in
    let front = take at s in
    let long : length front ≡ min at (length s) = length-take at s in
    let same : take start front ≡ take start s = take-take start at s le in
    let of_parts : line_feeds front ≡ line_feeds (take start front) + line_feeds (drop start front) = ap line_feeds (sym (take-append-drop start front)) ∙ sum_by-append (λ b. cond (b == 10) 1 0) (take start front) (drop start front) in
    let feeds_same : line_feeds (take start front) ≡ line_feeds (take start s) = ap line_feeds same in
    let none : line_feeds (drop start front) ≡ 0 = omega (arith, found.line) in
    let part = part_at front start (omega (arith, found.within)) (begins_front s at start le found.begins) in
    sym (no_feed_in (drop start front) none) ∙ sym part ∙ ap (λ n. get_or (slice_split (λ b. b == 10) front) n []) (omega (arith, found.line))

pub length_front : (s : List ℕ) (at start : ℕ) → IsLineStart s (line_in s at) start → length (text_before s at) ≡ min at (length s) - start
length_front s at start found = ap length (sym (front_is s at start found)) ∙ length-drop start (take at s) ∙ ap (λ n. n - start) (length-take at s)

-- where the line of a place begins
pub start_of : (s : List ℕ) (number at first start : ℕ) → number ≡ line_in s at → (1 ≤ number → number ≤ last_line s → IsLineStart s number first) → start ≡ min first (length s) → IsLineStart s (line_in s at) start
start_of s number at first start number_is begins start_is =
    let found = begins (omega arith) (omega (arith, no_later_line s at)) in
    let same : first ≡ start = omega (arith, found.within) in
    subst (λ n. IsLineStart s n start) number_is (subst (λ k. IsLineStart s number k) same found)

-- what is got from there to the place
pub front_got : (s : List ℕ) (at start : ℕ) (got : Option (Bor (List ℕ))) (d r : Bor (List ℕ)) → at ≤ length s → IsLineStart s (line_in s at) start → IsGetRangeResult s start at got → r ≡ unwrap_or got d → r.now ≡ text_before s at
front_got s at start None d r within found h is = let le = start_before s at start found in elim (h.0) [ inl low ↦ absurd (omega arith) | inr high ↦ absurd (omega arith) ]
front_got s at start (Some x) d r within found h is =
    let le = start_before s at start found in
    let to : start + (at - start) ≡ at = omega arith in
    ap (λ (y : Bor (List ℕ)). y.now) is ∙ h.0.2 ∙ sym (drop-take start (at - start) s) ∙ ap (λ n. drop start (take n s)) to ∙ front_is s at start found
