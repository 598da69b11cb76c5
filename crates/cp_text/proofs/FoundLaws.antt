-- What is found at the front of a text is a piece, or no piece begins as the text does.
use Rattle.std.proofs.Common.{◌≡◌, ◌≢◌, ℕ, zero, suc, ◌<◌, ◌≤◌, ◌+◌, Bool, true, false, ◌&&◌, List, [], ◌∷◌, ◌++◌, length, take, arith, refl, sym, subst, Option, Some, None, Result, Ok, Err}
use Rattle.std.specs.Prelude.{◌==◌, slice_index, Contains, MatchOption, ⊤}
use Rattle.std.specs.List.{prefix_len, AllPass}
use Rattle.std.proofs.lemmas.Bool.{cond_both, eqb-true, and_parts}
use Rattle.std.proofs.lemmas.Grind.{common_steps}
use Rattle.std.proofs.lemmas.List.{take_more, length-take, get_or-take}
use Rattle.std.proofs.lemmas.List.Folds.{length-prefix_len}
use Rattle.std.proofs.lemmas.List.Sums.{prefix_len-le-length, prefix_len_passes}
use Rattle.cp_text.specs.declared.fault.ScanCause.{ScanCause}
use Rattle.cp_text.specs.declared.fault.ScanCause.TheVariants.{BadByte, OpenComment, OpenChar}
use Rattle.cp_text.specs.declared.piece.Piece.{Piece}
use Rattle.cp_text.specs.declared.piece.Shape.{Shape}
use Rattle.cp_text.specs.declared.piece.Shape.TheVariants as shape
use Rattle.cp_text.specs.declared.token.Mark.{Mark}
use Rattle.cp_text.specs.declared.token.Mark.TheVariants as mark
use Rattle.cp_text.specs.Bytes.{is_separator, is_digit, is_letter, is_word_byte, is_in_comment, is_in_character}
use Rattle.cp_text.specs.Pieces.{first_piece, double_sign, single_sign, sign_from, sign, comment, character, made}
use Rattle.cp_text.specs.Reading.{Has, IsQuoted, signs}

-- why no piece begins as the text does
pub data Unread (b : ℕ) (cause : ScanCause) : Type 0 where
  bad_byte : b ≢ 34 → b ≢ 39 → cause ≡ BadByte → Unread b cause
  open_comment : b ≡ 34 → cause ≡ OpenComment → Unread b cause
  open_char : b ≡ 39 → cause ≡ OpenChar → Unread b cause

abbrev pub Fits : ℕ → List ℕ → Result Piece ScanCause → Type 0
Fits b z (Ok p) = (1 ≤ p.len) × (p.len ≤ length (b ∷ z)) × Has p.shape (take p.len (b ∷ z))
Fits b z (Err e) = Unread b e

run_passes : (p : ℕ → Bool) (text : List ℕ) → AllPass p (take (prefix_len p text) text)
run_passes p text = λ k d h.
    let below : k < prefix_len p text = omega (arith, length-prefix_len p text) in
    rw (get_or-take (prefix_len p text) text k d below) (prefix_len_passes p text k d below)

fits_separator : (b : ℕ) (z : List ℕ) → is_separator b ≡ true → Fits b z (made shape.Separator 1)
fits_separator b z e = (omega arith, omega arith, record { byte = b; is = refl; separates = e })

fits_number : (b : ℕ) (z : List ℕ) → is_digit b ≡ true → Fits b z (made shape.Number (prefix_len is_digit (b ∷ z)))
fits_number b z e =
    let n : ℕ = prefix_len is_digit (b ∷ z) in
    let some : 1 ≤ prefix_len is_digit (b ∷ z) = rw e (omega arith) in
    let within = prefix_len-le-length is_digit (b ∷ z) in
    (some, within, (omega (arith, length-take (prefix_len is_digit (b ∷ z)) (b ∷ z)), run_passes is_digit (b ∷ z)))

letter_word : (b : ℕ) → is_letter b ≡ true → is_word_byte b ≡ true
letter_word b h = grind (arith, common_steps)

fits_word : (b : ℕ) (z : List ℕ) → is_letter b ≡ true → Fits b z (made shape.Name (prefix_len is_word_byte (b ∷ z)))
fits_word b z e =
    let n : prefix_len is_word_byte (b ∷ z) ≡ suc (prefix_len is_word_byte z) = rw (letter_word b e) (omega arith) in
    let within = prefix_len-le-length is_word_byte z in
    subst (λ k. Fits b z (made shape.Name k)) (sym n)
    (omega arith, omega arith, record { first = b; more = take (prefix_len is_word_byte z) z; is = refl; letter = e; word = run_passes is_word_byte z })

within : (z : List ℕ) (n q : ℕ) → slice_index z n ≡ suc q → n < length z
within [] n q e = absurd (omega arith)
within (b ∷ z) zero q e = omega arith
within (b ∷ z) (suc n) q e = omega (arith, within z n q e)

fits_quoted : (s : Shape) (passes : ℕ → Bool) (q : ℕ) (z : List ℕ) (n : ℕ) → ((piece : List ℕ) → IsQuoted (suc q) passes piece → Has s piece)
    → slice_index z n ≡ suc q → AllPass passes (take n z) → Fits (suc q) z (made s (n + 2))
fits_quoted s passes q z n is_one e inside =
    let below = within z n q e in
    let more : n + 2 ≡ suc (n + 1) = omega arith in
    let text : take (n + 2) (suc q ∷ z) ≡ suc q ∷ (take n z ++ suc q ∷ []) = rw (more, take_more z n 0 below, e) refl in
    (omega arith, omega arith, is_one (take (n + 2) (suc q ∷ z)) (record { text = take n z; is = text; inside = inside }))

fits_comment : (z : List ℕ) → Fits 34 z (comment z)
fits_comment z =
    let n : ℕ = prefix_len is_in_comment z in
    cond_both (slice_index z (prefix_len is_in_comment z) == 34) (made shape.Comment (prefix_len is_in_comment z + 2)) (Err OpenComment) (Fits 34 z)
    (λ e. fits_quoted shape.Comment is_in_comment 33 z (prefix_len is_in_comment z) (λ piece h. h) (eqb-true _ 34 e) (run_passes is_in_comment z))
    (λ _. open_comment refl refl)

fits_character : (z : List ℕ) → Fits 39 z (character z)
fits_character z =
    cond_both (slice_index z (prefix_len is_in_character z) == 39) (made shape.Character (prefix_len is_in_character z + 2)) (Err OpenChar) (Fits 39 z)
    (λ e. fits_quoted shape.Character is_in_character 38 z (prefix_len is_in_character z) (λ piece h. h) (eqb-true _ 39 e) (run_passes is_in_character z))
    (λ _. open_char refl refl)

-- ---- signs

-- two bytes are a sign
abbrev IsDouble : ℕ → ℕ → Option Mark → Type 0
IsDouble b next o = MatchOption o ⊤ (λ m. Contains signs (b ∷ next ∷ [], m) × (next ≢ 0))

double : (x y : ℕ) (m : Mark) (b next : ℕ) → Contains signs (x ∷ suc y ∷ [], m) → (b == x && next == suc y) ≡ true → IsDouble b next (Some m)
double x y m b next h e =
    let parts = and_parts (b == x) (next == suc y) e in
    let first : b ≡ x = eqb-true b x parts.0 in
    let second : next ≡ suc y = eqb-true next (suc y) parts.1 in
    (rw (first, second) h, λ zero_next. absurd (omega arith))

is_double : (b next : ℕ) → IsDouble b next (double_sign b next)
is_double b next =
    cond_both (b == 60 && next == 62) _ _ (IsDouble b next) (λ e. double 60 61 mark.NotEqual b next (4, omega arith, refl) e) (λ _.
    cond_both (b == 60 && next == 61) _ _ (IsDouble b next) (λ e. double 60 60 mark.AtMost b next (7, omega arith, refl) e) (λ _.
    cond_both (b == 62 && next == 61) _ _ (IsDouble b next) (λ e. double 62 60 mark.AtLeast b next (8, omega arith, refl) e) (λ _.
    cond_both (b == 58 && next == 61) _ _ (IsDouble b next) (λ e. double 58 60 mark.Becomes b next (9, omega arith, refl) e) (λ _.
    cond_both (b == 46 && next == 46) _ _ (IsDouble b next) (λ e. double 46 45 mark.DoublePeriod b next (20, omega arith, refl) e) (λ _.
    cond_both (b == 40 && next == 46) _ _ (IsDouble b next) (λ e. double 40 45 mark.OpenBracket b next (13, omega arith, refl) e) (λ _.
    cond_both (b == 46 && next == 41) _ _ (IsDouble b next) (λ e. double 46 40 mark.CloseBracket b next (15, omega arith, refl) e) (λ _. tt)))))))

-- a byte is a sign
abbrev IsSingle : ℕ → Option Mark → Type 0
IsSingle b o = MatchOption o ⊤ (λ m. Contains signs (b ∷ [], m))

single : (x : ℕ) (m : Mark) (b : ℕ) → Contains signs (x ∷ [], m) → (b == x) ≡ true → IsSingle b (Some m)
single x m b h e = let first : b ≡ x = eqb-true b x e in rw first h

is_single : (b : ℕ) → IsSingle b (single_sign b)
is_single b =
    cond_both (b == 43) _ _ (IsSingle b) (λ e. single 43 mark.Plus b (0, omega arith, refl) e) (λ _.
    cond_both (b == 45) _ _ (IsSingle b) (λ e. single 45 mark.Minus b (1, omega arith, refl) e) (λ _.
    cond_both (b == 42) _ _ (IsSingle b) (λ e. single 42 mark.Times b (2, omega arith, refl) e) (λ _.
    cond_both (b == 61) _ _ (IsSingle b) (λ e. single 61 mark.Equal b (3, omega arith, refl) e) (λ _.
    cond_both (b == 60) _ _ (IsSingle b) (λ e. single 60 mark.Less b (5, omega arith, refl) e) (λ _.
    cond_both (b == 62) _ _ (IsSingle b) (λ e. single 62 mark.Greater b (6, omega arith, refl) e) (λ _.
    cond_both (b == 40) _ _ (IsSingle b) (λ e. single 40 mark.OpenParenthesis b (10, omega arith, refl) e) (λ _.
    cond_both (b == 41) _ _ (IsSingle b) (λ e. single 41 mark.CloseParenthesis b (11, omega arith, refl) e) (λ _.
    cond_both (b == 91) _ _ (IsSingle b) (λ e. single 91 mark.OpenBracket b (12, omega arith, refl) e) (λ _.
    cond_both (b == 93) _ _ (IsSingle b) (λ e. single 93 mark.CloseBracket b (14, omega arith, refl) e) (λ _.
    cond_both (b == 44) _ _ (IsSingle b) (λ e. single 44 mark.Comma b (16, omega arith, refl) e) (λ _.
    cond_both (b == 59) _ _ (IsSingle b) (λ e. single 59 mark.Semicolon b (17, omega arith, refl) e) (λ _.
    cond_both (b == 58) _ _ (IsSingle b) (λ e. single 58 mark.Colon b (18, omega arith, refl) e) (λ _.
    cond_both (b == 46) _ _ (IsSingle b) (λ e. single 46 mark.Period b (19, omega arith, refl) e) (λ _.
    cond_both (b == 38) _ _ (IsSingle b) (λ e. single 38 mark.And b (21, omega arith, refl) e) (λ _. tt)))))))))))))))

fits_sign_from : (b : ℕ) (z : List ℕ) (d s : Option Mark) → IsDouble b (slice_index z 0) d → IsSingle b s → b ≢ 34 → b ≢ 39 → Fits b z (sign_from d s)
fits_sign_from b [] (Some m) s h g one other = absurd (h.1 refl)
fits_sign_from b (next ∷ z) (Some m) s h g one other = (omega arith, omega arith, h.0)
fits_sign_from b z None (Some m) h g one other = (omega arith, omega arith, g)
fits_sign_from b z None None h g one other = bad_byte one other refl

fits_sign : (b : ℕ) (z : List ℕ) → b ≢ 34 → b ≢ 39 → Fits b z (sign b (slice_index z 0))
fits_sign b z one other = fits_sign_from b z (double_sign b (slice_index z 0)) (single_sign b) (is_double b (slice_index z 0)) (is_single b) one other

pub fits : (b : ℕ) (z : List ℕ) → Fits b z (first_piece (b ∷ z))
unfolding first_piece
fits b z =
    cond_both (is_separator b) _ _ (Fits b z) (fits_separator b z) (λ _.
    cond_both (is_digit b) _ _ (Fits b z) (fits_number b z) (λ _.
    cond_both (is_letter b) _ _ (Fits b z) (fits_word b z) (λ _.
    cond_both (b == 34) _ _ (Fits b z) (λ e. let is : b ≡ 34 = eqb-true b 34 e in rw is (fits_comment z)) (λ one.
    cond_both (b == 39) _ _ (Fits b z) (λ e. let is : b ≡ 39 = eqb-true b 39 e in rw is (fits_character z)) (λ other.
    fits_sign b z (differs b 34 one) (differs b 39 other))))))
  where
    differs : (a c : ℕ) → (a == c) ≡ false → a ≢ c
    differs a c e = λ same. grind (arith, common_steps)
