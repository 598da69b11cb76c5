-- One piece more of a text.
use Rattle.std.proofs.Common.{◌≡◌, ◌≢◌, ℕ, zero, suc, ◌<◌, ◌≤◌, ◌+◌, ◌-◌, Bool, true, false, List, [], ◌∷◌, length, take, drop, arith, cond, refl, sym, ap, ◌∙◌, Option, None, Ok, Err, nat_lt}
use Rattle.std.specs.Prelude.{◌==◌}
use Rattle.std.proofs.lemmas.List.Sums.{sum_by-cons}
use Rattle.std.proofs.lemmas.Grind.{common_steps}
use Rattle.cp_text.specs.Bytes.{line_feeds}
use Rattle.cp_text.specs.declared.fault.ScanCause.{ScanCause}
use Rattle.cp_text.specs.declared.fault.ScanCause.TheVariants as cause
use Rattle.cp_text.specs.declared.token.Kind.{Kind}
use Rattle.cp_text.specs.declared.token.Spot.{Spot}
use Rattle.cp_text.specs.declared.token.Token.{Token}
use Rattle.cp_text.specs.Faults.{fault_at, out_of_memory}
use Rattle.cp_text.specs.Fronts.{front_piece}
use Rattle.cp_text.specs.Scanning.{fault, added, after_byte, scan_from, scan}
use Rattle.cp_text.specs.Spots.{after, beginning, nowhere}

pub fault_told : (spot : Spot) (e : ScanCause) → fault spot e ≢ out_of_memory → (e ≢ cause.Memory) × (fault spot e ≡ fault_at spot e)
fault_told spot cause.TooLong h = (λ q. cc, refl)
fault_told spot cause.BadByte h = (λ q. cc, refl)
fault_told spot cause.OpenComment h = (λ q. cc, refl)
fault_told spot cause.OpenChar h = (λ q. cc, refl)
fault_told spot cause.BadChar h = (λ q. cc, refl)
fault_told spot cause.NumberTooLarge h = (λ q. cc, refl)
fault_told spot cause.NameTooLong h = (λ q. cc, refl)
fault_told spot cause.TooManyTokens h = (λ q. cc, refl)
fault_told spot cause.Memory h = absurd (h refl)

line_feeds-cons : (b : ℕ) (text : List ℕ) → line_feeds (b ∷ text) ≡ cond (b == 10) 1 0 + line_feeds text
line_feeds-cons b text = sum_by-cons (λ x. cond (x == 10) 1 0) b text

after_feed : (t : Bool) (line n : ℕ) → cond t (line + 1) line + n ≡ line + (cond t 1 0 + n)
after_feed true line n = omega arith
after_feed false line n = omega arith

-- one byte, and then more
after_more : (b : ℕ) (spot : Spot) (text : List ℕ) → after (after_byte b spot) text ≡ after spot (b ∷ text)
after_more b spot text =
    let feeds : cond (b == 10) (spot.line + 1) spot.line + line_feeds text ≡ spot.line + line_feeds (b ∷ text) =
    after_feed (b == 10) spot.line (line_feeds text) ∙ ap (λ n. spot.line + n) (sym (line_feeds-cons b text)) in
    let bytes : spot.from + 1 + length text ≡ spot.from + length (b ∷ text) = omega arith in
    rw (feeds, bytes) refl

pub after_none : (spot : Spot) → after spot [] ≡ spot
after_none spot = let e : spot.line + 0 ≡ spot.line = omega arith in let f : spot.from + 0 ≡ spot.from = omega arith in rw (e, f) refl

pub scan_from-drop : (n : ℕ) (o : Option ℕ) (spot : Spot) (ts : List Token) (text : List ℕ) → scan_from n o spot ts text ≡ scan_from 0 o (after spot (take n text)) ts (drop n text)
unfolding scan_from
scan_from-drop zero o spot ts text = ap (λ s. scan_from 0 o s ts text) (sym (after_none spot))
scan_from-drop (suc n) o spot ts [] = refl
scan_from-drop (suc n) o spot ts (b ∷ text) =
    scan_from-drop n o (after_byte b spot) ts text ∙ ap (λ s. scan_from 0 o s ts (drop n text)) (after_more b spot (take n text))

pub scan_stops : (o : Option ℕ) (spot : Spot) (ts : List Token) (text : List ℕ) (e : ScanCause) → 0 < length text → front_piece (length ts) o text ≡ Err e → scan_from 0 o spot ts text ≡ Err (fault_at spot e)
unfolding scan_from
scan_stops o spot ts [] e some h = absurd (omega arith)
scan_stops o spot ts (b ∷ text) e some h = rw h refl

pub scan_goes : (o : Option ℕ) (spot : Spot) (ts : List Token) (text : List ℕ) (k : Option Kind) (n : ℕ) (left : Option ℕ) → 1 ≤ n → 0 < length text
    → front_piece (length ts) o text ≡ Ok (record { kind = k; len = n; left = left })
    → scan_from 0 left (after spot (take n text)) (added ts k spot (take n text)) (drop n text) ≡ scan_from 0 o spot ts text
unfolding scan_from
scan_goes o spot ts [] k n left moves some h = absurd (omega arith)
scan_goes o spot ts (b ∷ text) k zero left moves some h = absurd (omega arith)
scan_goes o spot ts (b ∷ text) k (suc n) left moves some h =
    let e : suc n - 1 ≡ n = omega arith in
    sym (scan_from-drop (suc n) left spot (added ts k spot (take (suc n) (b ∷ text))) (b ∷ text)) ∙ rw (h, e) refl

pub scan_ends : (o : Option ℕ) (spot : Spot) (ts : List Token) (text : List ℕ) → length text ≡ 0 → scan_from 0 o spot ts text ≡ Ok ts
unfolding scan_from
scan_ends o spot ts [] h = refl
scan_ends o spot ts (b ∷ text) h = absurd (omega arith)

pub scan_short : (text : List ℕ) → length text ≤ 65535 → scan text ≡ scan_from 0 None beginning [] text
unfolding scan
scan_short text h = let e : nat_lt 65535 (length text) ≡ false = grind (arith, common_steps) in rw e refl

pub scan_long : (text : List ℕ) → 65535 < length text → scan text ≡ Err (fault_at nowhere cause.TooLong)
unfolding scan
scan_long text h = let e : nat_lt 65535 (length text) ≡ true = grind (arith, common_steps) in rw e refl
