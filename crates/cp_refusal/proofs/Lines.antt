-- The number of a line grows by one after each line feed.
use Rattle.std.proofs.Common.{◌≡◌, ◌≢◌, ◌∙◌, ℕ, ◌+◌, ◌<◌, ◌≤◌, ◌==◌, List, ap, get_or, inr, length, min, subst, take, take_all, arith}
use Rattle.std.proofs.lemmas.List.Sums.{count_by_more_yes, count_by_more_no}
use Rattle.std.proofs.lemmas.Bool.Decides.{nat_tests}
use Rattle.std.proofs.lemmas.List.{take_min}
use Rattle.cp_text.specs.Bytes.{line_feeds}
use Rattle.cp_refusal.specs.Lines.{BeginsLine, IsLineStart, last_line, line_in}

pub feeds_more : (s : List ℕ) (at : ℕ) → at < length s → get_or s at 0 ≡ 10 → line_feeds (take (at + 1) s) ≡ line_feeds (take at s) + 1
feeds_more s at lt is = count_by_more_yes (λ b. b == 10) s at 0 lt (grind (arith, nat_tests))

pub feeds_same : (s : List ℕ) (at : ℕ) → at < length s → get_or s at 0 ≢ 10 → line_feeds (take (at + 1) s) ≡ line_feeds (take at s)
feeds_same s at lt is = count_by_more_no (λ b. b == 10) s at 0 lt (grind (arith, nat_tests))

-- the number of a line, one place further
pub line_more : (s : List ℕ) (at n m : ℕ) → at < length s → get_or s at 0 ≡ 10 → n ≡ line_in s at → m ≡ n + 1 → m ≡ line_in s (at + 1)
line_more s at n m lt is n_is m_is = let e = feeds_more s at lt is in omega arith

pub line_same : (s : List ℕ) (at n m : ℕ) → at < length s → get_or s at 0 ≢ 10 → n ≡ line_in s at → m ≡ n → m ≡ line_in s (at + 1)
line_same s at n m lt is n_is m_is = let e = feeds_same s at lt is in omega arith

-- the number at the end of what stands before a place
pub line_of_front : (s : List ℕ) (at i m n : ℕ) → m ≡ min at (length s) → length (take m s) ≤ i → n ≡ line_in (take m s) i → n ≡ line_in s at
line_of_front s at i m n m_is ge n_is =
    let whole : take i (take m s) ≡ take m s = take_all i (take m s) ge in
    let front : take m s ≡ take at s = ap (λ k. take k s) m_is ∙ take_min at s in
    n_is ∙ ap (λ t. line_feeds t + 1) (whole ∙ front)

-- a line begins after a line feed
pub begins_after : (s : List ℕ) (at : ℕ) → get_or s at 0 ≡ 10 → BeginsLine s (at + 1)
begins_after s at is = inr (ap (λ k. get_or s k 0) (omega arith) ∙ is)

-- where a search for a line ends
pub start_found : (s : List ℕ) (number line at : ℕ) → at ≤ length s → line ≡ line_in s at → (1 ≤ number → line ≤ number) → (number ≤ line → BeginsLine s at) → number ≤ line → 1 ≤ number → number ≤ last_line s → IsLineStart s number at
start_found s number line at le line_is most begins found low high = let m = most low in record { within = le; begins = begins found; line = omega arith }

pub start_at_end : (s : List ℕ) (number line at : ℕ) → at ≡ length s → line ≡ line_in s at → (1 ≤ number → line ≤ number) → (number ≤ line → BeginsLine s at) → 1 ≤ number → number ≤ last_line s → IsLineStart s number (length s)
start_at_end s number line at end line_is most begins low high =
    let last : line ≡ last_line s = line_is ∙ ap (λ k. line_in s k) end in
    subst (λ k. IsLineStart s number k) end (start_found s number line at (omega arith) line_is most begins (omega arith) low high)
