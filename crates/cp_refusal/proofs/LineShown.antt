-- The line that is shown is that of its number.
use Rattle.std.proofs.Common.{◌≡◌, ◌∙◌, ℕ, ◌+◌, ◌-◌, ◌≤◌, ◌==◌, cond, false, List, Option, Some, None, ap, arith, drop, inl, inr, length, min, subst, sym, take, take_all}
use Rattle.std.specs.Borrow.{Bor}
use Rattle.std.specs.Prelude.{nat_lt, unwrap_or}
use Rattle.std.specs.List.{before_first}
use Rattle.std.specs.Slice.{IsGetRangeResult}
use Rattle.std.specs.Str.Lines.{strip_carriage_return}
use Rattle.std.proofs.lemmas.Bool.Decides.{nat_tests}
use Rattle.std.proofs.lemmas.List.{take_min}
use Rattle.std.proofs.lemmas.List.Sums.{sum_by-take-le}
use Rattle.cp_text.specs.Bytes.{line_feeds}
use Rattle.cp_refusal.specs.Excerpts.{IsPlainLine}
use Rattle.cp_refusal.specs.Lines.{IsLineStart, last_line, line_in, line_text, text_before}
use Rattle.cp_refusal.proofs.Parts.{line_at_start}

-- ---- lines are counted up

feeds_of_front : (s : List ℕ) (at : ℕ) → line_feeds (take at s) ≤ line_feeds s
feeds_of_front s at = sum_by-take-le (λ b. cond (b == 10) 1 0) s at

pub no_later_line : (s : List ℕ) (at : ℕ) → line_in s at ≤ last_line s
no_later_line s at =
    let whole : last_line s ≡ line_feeds s + 1 = ap (λ (l : List ℕ). line_feeds l + 1) (take_all (length s) s (omega arith)) in
    omega (arith, feeds_of_front s at)

-- what begins where the line of a place begins is the text of that line
pub line_found : (s line : List ℕ) (number at first start : ℕ) → number ≡ line_in s at → (1 ≤ number → number ≤ last_line s → IsLineStart s number first) → start ≡ min first (length s) → line ≡ strip_carriage_return (before_first (λ b. b == 10) (drop start s)) → line ≡ line_text s number
line_found s line number at first start number_is begins start_is line_is =
    let found = begins (omega arith) (omega (arith, no_later_line s at)) in
    let same : start ≡ first = omega (arith, found.within) in
    line_at_start s line number first found.within found.begins found.line (line_is ∙ ap (λ k. strip_carriage_return (before_first (λ b. b == 10) (drop k s))) same)

-- ---- a short line is shown whole

not_above : (n m : ℕ) → m ≤ n → nat_lt n m ≡ false
not_above n m le = grind (arith, nat_tests)

-- all that is got from the front of a line
of_range : (line : List ℕ) (to : ℕ) (got : Option (Bor (List ℕ))) (d r : Bor (List ℕ)) → to ≤ length line → IsGetRangeResult line 0 to got → r ≡ unwrap_or got d → r.now ≡ take to line
of_range line to None d r le h is = elim (h.0) [ inl low ↦ absurd (omega arith) | inr high ↦ absurd (omega arith) ]
of_range line to (Some x) d r le h is = let all : to - 0 ≡ to = omega arith in ap (λ (y : Bor (List ℕ)). y.now) is ∙ h.0.2 ∙ ap (λ n. take n line) all

pub whole_line : (line : List ℕ) (number : ℕ) (s : List ℕ) (from to : ℕ) (got : Option (Bor (List ℕ))) (d r : Bor (List ℕ)) → line ≡ line_text s number → (length line ≤ 160 → (from ≡ 0) × (to ≡ length line)) → IsGetRangeResult line from to got → r ≡ unwrap_or got d → IsPlainLine (line_text s number) → (r.now ≡ line_text s number) × (nat_lt 0 from ≡ false) × (nat_lt to (length line) ≡ false)
whole_line line number s from to got d r found part lookup is plain =
    let short : length line ≤ 160 = subst (λ (l : List ℕ). length l ≤ 160) (sym found) plain.short in
    let p = part short in
    let range : IsGetRangeResult line 0 (length line) got = subst (λ n. IsGetRangeResult line n (length line) got) p.0 (subst (λ n. IsGetRangeResult line from n got) p.1 lookup) in
    (of_range line (length line) got d r (omega arith) range is ∙ take_all (length line) line (omega arith) ∙ found, not_above 0 from (omega (arith, p.0)), not_above to (length line) (omega (arith, p.1)))

-- what of a short line stands before the place
pub line_before : (line s : List ℕ) (number at start place from to : ℕ) (got : Option (Bor (List ℕ))) (d r : Bor (List ℕ)) → line ≡ line_text s number → at ≤ length s → length (text_before s at) ≡ min at (length s) - start → place ≡ min (at - start) (length line) → (length line ≤ 160 → (from ≡ 0) × (to ≡ length line)) → IsGetRangeResult line from place got → r ≡ unwrap_or got d → IsPlainLine (line_text s number) → r.now ≡ take (length (text_before s at)) (line_text s number)
line_before line s number at start place from to got d r found within long place_is part lookup is plain =
    let short : length line ≤ 160 = subst (λ (l : List ℕ). length l ≤ 160) (sym found) plain.short in
    let range : IsGetRangeResult line 0 place got = subst (λ n. IsGetRangeResult line n place got) (part short).0 lookup in
    let same : at - start ≡ length (text_before s at) = omega arith in
    of_range line place got d r (omega arith) range is ∙ ap (λ n. take n line) place_is ∙ take_min (at - start) line ∙ ap (λ n. take n line) same ∙ ap (take (length (text_before s at))) found
