-- The places of tokens and of faults are places of the source, in their lines.
use Rattle.std.proofs.Common.{◌≡◌, ℕ, zero, suc, ◌-◌, ◌≤◌, List, [], ◌∷◌, Some, None, ap, sym, subst, arith, length, min, take, drop, take_all, refl}
use Rattle.std.specs.Prelude.{slice_get, unwrap_or, ◌==◌, cond}
use Rattle.std.proofs.lemmas.List.{length-map, take-append-drop}
use Rattle.std.proofs.lemmas.List.Sums.{sum_by-append}
use Rattle.cp_text.specs.Bytes.{line_feeds}
use Rattle.cp_text.specs.Lines.{lines, line_of}
use Rattle.cp_text.specs.Places.{IsInLine, StandsAt, ranges}
use Rattle.cp_text.specs.declared.token.ByteRange.{ByteRange}
use Rattle.cp_text.specs.declared.token.Token.{Token}
use Rattle.cp_refusal.specs.Explaining.{IsPlaceIn, token_line}
use Rattle.cp_refusal.specs.Lines.{last_line, line_in}

pub place_is : (source : List ℕ) (line : ℕ) (range : ByteRange) → IsInLine source line range.from → IsPlaceIn source line (Some range)
place_is source line range h = let on = h.on_line in (h.within, omega (arith, on))

-- ---- where there is a token

one_line : (tokens : List Token) (at : ℕ) → line_of tokens at ≡ token_line tokens at
one_line tokens at =
    let same : min at (length tokens - 1) ≡ min (min at (length tokens)) (length tokens - 1) = omega arith in
    ap (λ n. unwrap_or (slice_get (lines tokens) n) 1) same

pub token_place : (source : List ℕ) (tokens : List Token) (at : ℕ) (range : ByteRange) → StandsAt source (line_of tokens at) range → IsPlaceIn source (token_line tokens at) (Some range)
token_place source tokens at range h = subst (λ n. IsPlaceIn source n (Some range)) (one_line tokens at) (place_is source (line_of tokens at) range h.begins)

-- ---- behind the last token

feeds_before : (n : ℕ) (s : List ℕ) → line_feeds (take n s) ≤ line_feeds s
feeds_before n s = omega (arith, ap line_feeds (take-append-drop n s), sum_by-append (λ b. cond (b == 10) 1 0) (take n s) (drop n s))

none_above : {A : Type 0} (xs : List A) (at : ℕ) → None ≡ slice_get xs at → length xs ≤ at
none_above [] at h = omega arith
none_above (x ∷ xs) zero h = absurd cc
none_above (x ∷ xs) (suc at) h = let above = none_above xs at h in omega arith

no_range : (tokens : List Token) (at : ℕ) → None ≡ slice_get (ranges tokens) at → length tokens ≤ at
no_range tokens at h = subst (λ n. n ≤ at) (length-map tokens (λ (t : Token). t.range)) (none_above (ranges tokens) at h)

-- the line of the end is that of the last token
end_line : (tokens : List Token) (at : ℕ) → None ≡ slice_get (ranges tokens) at → token_line tokens at ≡ line_of tokens (length tokens - 1)
end_line tokens at h =
    let above = no_range tokens at h in
    let same : min (min at (length tokens)) (length tokens - 1) ≡ min (length tokens - 1) (length tokens - 1) = omega arith in
    ap (λ n. unwrap_or (slice_get (lines tokens) n) 1) same

pub end_on_a_line : (source : List ℕ) (tokens : List Token) (at : ℕ) (last : ByteRange) → None ≡ slice_get (ranges tokens) at → StandsAt source (line_of tokens (length tokens - 1)) last
    → (1 ≤ token_line tokens at) × (token_line tokens at ≤ last_line source)
end_on_a_line source tokens at last none h =
    let line = end_line tokens at none in
    let on = h.begins.on_line in
    let all = ap line_feeds (take_all (length source) source (omega arith)) in
    (omega (arith, line, on), omega (arith, line, on, all, feeds_before last.from source))

-- a source without tokens is refused where it begins
pub no_tokens : (source : List ℕ) (tokens : List Token) (at : ℕ) (start : ByteRange) → start.from ≡ 0 → None ≡ slice_get (ranges tokens) (length tokens - 1) → IsPlaceIn source (token_line tokens at) (Some start)
no_tokens source [] at start begins none = (omega (arith, begins), subst (λ n. line_in source n ≡ 1) (sym begins) refl)
no_tokens source (t ∷ ts) at start begins none =
    let above = no_range (t ∷ ts) (length (t ∷ ts) - 1) none in
    absurd (omega arith)
