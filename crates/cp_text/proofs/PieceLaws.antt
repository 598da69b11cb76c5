-- The piece that is found at the front of a text is the longest that could stand there.
use Rattle.std.proofs.Common.{◌≡◌, ℕ, zero, suc, ◌≤◌, ◌+◌, Bool, true, false, ◌&&◌, List, [], ◌∷◌, ◌++◌, length, arith, refl, subst, Some, None, Result, Ok, Err, append_assoc}
use Rattle.std.specs.Prelude.{◌==◌, if◌then◌else◌, slice_index, Contains}
use Rattle.std.specs.List.{prefix_len, AllPass, list_all}
use Rattle.std.proofs.lemmas.Grind.{common_steps}
use Rattle.std.proofs.lemmas.List.{length-append}
use Rattle.std.proofs.lemmas.List.Sums.{list_all-from_AllPass}
use Rattle.cp_text.specs.declared.fault.ScanCause.{ScanCause}
use Rattle.cp_text.specs.declared.piece.Piece.{Piece}
use Rattle.cp_text.specs.declared.piece.Shape.{Shape}
use Rattle.cp_text.specs.declared.piece.Shape.TheVariants as shape
use Rattle.cp_text.specs.declared.token.Mark.{Mark}
use Rattle.cp_text.specs.declared.token.Mark.TheVariants as mark
use Rattle.cp_text.specs.Bytes.{is_separator, is_digit, is_letter, is_word_byte, is_in_comment, is_in_character}
use Rattle.cp_text.specs.Pieces.{first_piece, sign_from}
use Rattle.cp_text.specs.Reading.{Has, signs}

both_left : (a b : Bool) → (a && b) ≡ true → a ≡ true
both_left true b e = refl
both_left false b e = e

both_right : (a b : Bool) → (a && b) ≡ true → b ≡ true
both_right true b e = e
both_right false b e = absurd (cc)

run_long_all : (p : ℕ → Bool) (xs ys : List ℕ) → list_all p xs ≡ true → length xs ≤ prefix_len p (xs ++ ys)
run_long_all p [] ys h = omega arith
run_long_all p (x ∷ xs) ys h = rw (both_left (p x) (list_all p xs) h) (omega (arith, run_long_all p xs ys (both_right (p x) (list_all p xs) h)))

pub run_long : (p : ℕ → Bool) (xs ys : List ℕ) → AllPass p xs → length xs ≤ prefix_len p (xs ++ ys)
run_long p xs ys h = run_long_all p xs ys (list_all-from_AllPass p xs h)

run_stops_all : (p : ℕ → Bool) (xs : List ℕ) (q : ℕ) (ys : List ℕ) → list_all p xs ≡ true → p q ≡ false → prefix_len p (xs ++ q ∷ ys) ≡ length xs
run_stops_all p [] q ys h stop = rw stop refl
run_stops_all p (x ∷ xs) q ys h stop = rw (both_left (p x) (list_all p xs) h) (omega (arith, run_stops_all p xs q ys (both_right (p x) (list_all p xs) h) stop))

pub run_stops : (p : ℕ → Bool) (xs : List ℕ) (q : ℕ) (ys : List ℕ) → AllPass p xs → p q ≡ false → prefix_len p (xs ++ q ∷ ys) ≡ length xs
run_stops p xs q ys h stop = run_stops_all p xs q ys (list_all-from_AllPass p xs h) stop

read_behind : (xs : List ℕ) (q : ℕ) (ys : List ℕ) → slice_index (xs ++ q ∷ ys) (length xs) ≡ q
read_behind [] q ys = refl
read_behind (x ∷ xs) q ys = read_behind xs q ys

digit_separates_not : (b : ℕ) → is_digit b ≡ true → is_separator b ≡ false
digit_separates_not b h = grind (arith, common_steps)

letter_separates_not : (b : ℕ) → is_letter b ≡ true → is_separator b ≡ false
letter_separates_not b h = grind (arith, common_steps)

letter_digit_not : (b : ℕ) → is_letter b ≡ true → is_digit b ≡ false
letter_digit_not b h = grind (arith, common_steps)

-- what is found is at least as long as this, and of this shape where it is no longer
abbrev pub Covers : Result Piece ScanCause → Shape → ℕ → Type 0
Covers (Ok q) s n = (n ≤ q.len) × (n ≡ q.len → s ≡ q.shape)
Covers (Err e) s n = ⊥

covers_separator : (b : ℕ) (rest : List ℕ) → is_separator b ≡ true → Covers (first_piece (b ∷ rest)) shape.Separator 1
unfolding first_piece
covers_separator b rest e = rw e (omega arith, λ _. refl)

covers_number : (b : ℕ) (bs rest : List ℕ) → AllPass is_digit (b ∷ bs) → Covers (first_piece (b ∷ (bs ++ rest))) shape.Number (length (b ∷ bs))
unfolding first_piece
covers_number b bs rest h =
    let digit : is_digit b ≡ true = h 0 0 (omega arith) in
    let others : AllPass is_digit bs = λ k d below. h (suc k) d (omega arith) in
    rw (digit_separates_not b digit, digit) (omega (arith, run_long is_digit bs rest others), λ _. refl)

covers_word : (b : ℕ) (bs rest : List ℕ) → is_letter b ≡ true → AllPass is_word_byte bs → Covers (first_piece (b ∷ (bs ++ rest))) shape.Name (length (b ∷ bs))
unfolding first_piece
covers_word b bs rest letter h =
    rw (letter_separates_not b letter, letter_digit_not b letter, letter) (omega (arith, run_long is_word_byte bs rest h), λ _. refl)

covers_comment : (text rest : List ℕ) → AllPass is_in_comment text → Covers (first_piece (34 ∷ (text ++ 34 ∷ rest))) shape.Comment (length text + 2)
unfolding first_piece
covers_comment text rest h = rw (run_stops is_in_comment text 34 rest h refl, read_behind text 34 rest) (omega arith, λ _. refl)

covers_character : (text rest : List ℕ) → AllPass is_in_character text → Covers (first_piece (39 ∷ (text ++ 39 ∷ rest))) shape.Character (length text + 2)
unfolding first_piece
covers_character text rest h = rw (run_stops is_in_character text 39 rest h refl, read_behind text 39 rest) (omega arith, λ _. refl)

-- ---- signs

-- each element of a list passes, written out as a tuple
abbrev pub Each : {X : Type 0} → (X → Type 0) → List X → Type 0
Each P [] = Unit {0}
Each P (x ∷ xs) = P x × Each P xs

pub each_contains : {X : Type 0} (P : X → Type 0) (xs : List X) (x : X) → Each P xs → Contains xs x → P x
each_contains P [] x h (k, below, is) = absurd (omega arith)
each_contains P (y ∷ xs) x h (zero, below, is) = subst P is h.0
each_contains P (y ∷ xs) x h (suc k, below, is) = each_contains P xs x h.1 (k, omega arith, is)

abbrev SignCovered : List ℕ × Mark → Type 0
SignCovered s = (rest : List ℕ) → Covers (first_piece (s.0 ++ rest)) (shape.Sign s.1) (length s.0)

-- a sign of one byte, with two signs that it begins, and with one
covers_two : (m n k : Mark) (t u : Bool) → Covers (sign_from (if t then Some m else (if u then Some n else None)) (Some k)) (shape.Sign k) 1
covers_two m n k true u = (omega arith, λ e. absurd (omega arith))
covers_two m n k false true = (omega arith, λ e. absurd (omega arith))
covers_two m n k false false = (omega arith, λ _. refl)

covers_one : (m k : Mark) (t : Bool) → Covers (sign_from (if t then Some m else None) (Some k)) (shape.Sign k) 1
covers_one m k true = (omega arith, λ e. absurd (omega arith))
covers_one m k false = (omega arith, λ _. refl)

signs_covered : Each SignCovered signs
unfolding first_piece
signs_covered = (
  one,
  (
    one,
    (
      one,
      (
        one,
        (
          two,
          (
            λ rest. covers_two mark.NotEqual mark.AtMost mark.Less (slice_index rest 0 == 62) (slice_index rest 0 == 61),
            (
              λ rest. covers_one mark.AtLeast mark.Greater (slice_index rest 0 == 61),
              (
                two,
                (
                  two,
                  (
                    two,
                    (
                      λ rest. covers_one mark.OpenBracket mark.OpenParenthesis (slice_index rest 0 == 46),
                      (
                        one,
                        (
                          one,
                          (
                            two,
                            (
                              one,
                              (
                                two,
                                (
                                  one,
                                  (
                                    one,
                                    (
                                      λ rest. covers_one mark.Becomes mark.Colon (slice_index rest 0 == 61),
                                      (
                                        λ rest. covers_two mark.DoublePeriod mark.CloseBracket mark.Period (slice_index rest 0 == 46) (slice_index rest 0 == 41),
                                        (two, (one, tt)),
                                      ),
                                    ),
                                  ),
                                ),
                              ),
                            ),
                          ),
                        ),
                      ),
                    ),
                  ),
                ),
              ),
            ),
          ),
        ),
      ),
    ),
  ),
)
  where
    one : {s : Shape} → List ℕ → (1 ≤ 1) × (◌≡◌ {A = ℕ} 1 1 → s ≡ s)
    one rest = (omega arith, λ _. refl)

    two : {s : Shape} → List ℕ → (2 ≤ 2) × (◌≡◌ {A = ℕ} 2 2 → s ≡ s)
    two rest = (omega arith, λ _. refl)

covers_sign : (m : Mark) (piece rest : List ℕ) → Contains signs (piece, m) → Covers (first_piece (piece ++ rest)) (shape.Sign m) (length piece)
covers_sign m piece rest h = each_contains SignCovered signs (piece, m) signs_covered h rest

quoted_length : (text : List ℕ) (q : ℕ) → suc (length (text ++ q ∷ [])) ≡ length text + 2
quoted_length text q = omega (arith, length-append text (q ∷ []))

pub covers : (s : Shape) (piece rest : List ℕ) → Has s piece → Covers (first_piece (piece ++ rest)) s (length piece)
covers shape.Separator piece rest h = rw h.is (covers_separator h.byte rest h.separates)
covers shape.Comment piece rest h = rw (h.is, append_assoc h.text (34 ∷ []) rest, quoted_length h.text 34) (covers_comment h.text rest h.inside)
covers shape.Number [] rest h = absurd (omega arith)
covers shape.Number (b ∷ bs) rest h = covers_number b bs rest h.1
covers shape.Name piece rest h = rw h.is (covers_word h.first h.more rest h.letter h.word)
covers shape.Character piece rest h = rw (h.is, append_assoc h.text (39 ∷ []) rest, quoted_length h.text 39) (covers_character h.text rest h.inside)
covers (shape.Sign m) piece rest h = covers_sign m piece rest h
