-- The parts of the text of a schedule word.
use Rattle.std.proofs.Common.{◌≡◌, ◌∙◌, ap, sym, refl, ℕ, ◌+◌, ◌≤◌, ◌<◌, ◌^◌, suc, false, eqb, List, [], ◌∷◌, ◌++◌, map, take, length, get_or, codes, All, arith}
use Rattle.std.specs.Prelude.{decimal}
use Rattle.std.specs.List.{slice_split}
use Rattle.std.proofs.Math.Seq.{take-length, take-suc}
use Rattle.std.proofs.lemmas.Bool.{ne_eqb}
use Rattle.std.proofs.lemmas.Fmt.{decimal_by_steps, decimal_nonempty}
use Rattle.std.proofs.lemmas.List.{append-nil, get_or_append_left, get_or-map, length-map}
use Rattle.std.proofs.lemmas.List.Elements.{All-cons, All-nil, All-push, All-weaker, All-get_or, All-head, All-tail}
use Rattle.std.proofs.lemmas.List.Splits.{slice_split_at, slice_split_none}
use Rattle.cp_tool.specs.Words.{spelled}

abbrev pub parts_of : List ℕ → List (List ℕ)
parts_of text = slice_split (λ b. eqb b 46) text

abbrev pub Small : List ℕ → Type 0
Small w = All (λ n. n ≤ 15) w

abbrev IsDigit : ℕ → Type 0
IsDigit x = (48 ≤ x) × (x < 58)

word_digits : (n : ℕ) → n < 2 ^ 64 → All IsDigit (decimal n)
word_digits n h = decimal_by_steps (λ _ ds. All IsDigit ds)
    (λ m below. All-cons IsDigit (48 + m) [] (omega arith, omega (arith, below)) (All-nil IsDigit))
    (λ m ds above all. All-push IsDigit ds _ all (omega arith, omega arith)) n h

lacks_period : (n : ℕ) → n < 2 ^ 64 → All (λ x. eqb x 46 ≡ false) (decimal n)
lacks_period n h = All-weaker IsDigit (λ x. eqb x 46 ≡ false) (λ x d. ne_eqb x 46 (λ e. omega (arith, d.0, e))) (decimal n) (word_digits n h)

pub below_wide : (n : ℕ) → n ≤ 15 → n < 2 ^ 64
below_wide n h = omega (arith, h)

first_below : (n : ℕ) (ns : List ℕ) → Small (n ∷ ns) → n < 2 ^ 64
first_below n ns small = below_wide n (All-head (λ n. n ≤ 15) n ns small)

pub parts_of_spelled : (n : ℕ) (ns : List ℕ) → Small (n ∷ ns) → parts_of (spelled (n ∷ ns)) ≡ map decimal (n ∷ ns)
parts_of_spelled n [] small =
    ap parts_of (append-nil (decimal n)) ∙ slice_split_none (λ b. eqb b 46) (decimal n) (lacks_period n (first_below n [] small))
parts_of_spelled n (m ∷ ms) small =
    slice_split_at (λ b. eqb b 46) (decimal n) 46 (spelled (m ∷ ms)) (lacks_period n (first_below n (m ∷ ms) small)) refl
    ∙ ap (λ ps. decimal n ∷ ps) (parts_of_spelled m ms (All-tail (λ n. n ≤ 15) n (m ∷ ms) small))

pub spelled_no_none : (n : ℕ) (ns : List ℕ) → Small (n ∷ ns) → spelled (n ∷ ns) ≡ codes "none" → ⊥
spelled_no_none n ns small e =
    let below = first_below n ns small in
    let some = decimal_nonempty n below in
    let digit = All-get_or IsDigit (decimal n) 0 0 some (word_digits n below) in
    let same : get_or (decimal n) 0 0 ≡ 110 = sym (get_or_append_left (decimal n) _ 0 0 some) ∙ ap (λ t. get_or t 0 0) e in
    omega (arith, digit.1, same)

pub part_at : (i : ℕ) (w : List ℕ) (part : List ℕ) → Small w → i < length w → part ≡ get_or (map decimal w) i part → (get_or w i 0 ≤ 15) × (part ≡ decimal (get_or w i 0)) × (take (suc i) w ≡ take i w ++ get_or w i 0 ∷ [])
part_at i w part small h e = (All-get_or (λ n. n ≤ 15) w i 0 h small, e ∙ get_or-map decimal w i 0 part h, take-suc w i 0 h)

pub parts_from : (text : List ℕ) → (text ≡ codes "none" → ⊥) → (w : List ℕ) → Small w → spelled w ≡ text → parts_of text ≡ map decimal w
parts_from text other [] small e = absurd (other (sym e))
parts_from text other (n ∷ ns) small e = ap parts_of (sym e) ∙ parts_of_spelled n ns small

pub empty_from_none : (w : List ℕ) → Small w → spelled w ≡ codes "none" → w ≡ []
empty_from_none [] small e = refl
empty_from_none (n ∷ ns) small e = absurd (spelled_no_none n ns small e)

-- what the part at i is, where the parts are those of the word w
abbrev pub IsNext : List ℕ → ℕ → List ℕ → Type 0
IsNext w i part =
    (i < length w) × (get_or w i 0 ≤ 15) × (part ≡ decimal (get_or w i 0))
    × (take (i + 1) w ≡ take i w ++ get_or w i 0 ∷ [])

pub next_part : (text : List ℕ) → (text ≡ codes "none" → ⊥) → (i : ℕ) (part : List ℕ) → (i < length (parts_of text)) × (part ≡ get_or (parts_of text) i part) → (w : List ℕ) → Small w → spelled w ≡ text → IsNext w i part
next_part text other i part turn w small e =
    let parts = parts_from text other w small e in
    let inside : i < length w = omega (arith, turn.0, ap length parts, length-map w decimal) in
    let item = part_at i w part small inside (turn.1 ∙ ap (λ ps. get_or ps i part) parts) in
    let next : i + 1 ≡ suc i = omega arith in
    (inside, item.0, item.1, ap (λ j. take j w) next ∙ item.2)

pub all_parts : (text : List ℕ) → (text ≡ codes "none" → ⊥) → (w : List ℕ) → Small w → spelled w ≡ text → (n : ℕ) → n ≡ length (parts_of text) → take n w ≡ w
all_parts text other w small e n all =
    let count : n ≡ length w = all ∙ ap length (parts_from text other w small e) ∙ length-map w decimal in
    ap (λ j. take j w) count ∙ take-length w
