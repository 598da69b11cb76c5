-- What a piece is by its value, its length or its text: the definitions, and what is computed.
use Rattle.std.proofs.Common.{◌≡◌, ℕ, zero, suc, ◌<◌, ◌≤◌, ◌+◌, ◌-◌, true, false, ◌&&◌, List, [], ◌∷◌, ◌++◌, length, take, arith, refl, sym, ap, ◌∙◌, subst, Option, Some, None, Result, Ok, Err}
use Rattle.std.specs.Prelude.{◌==◌, nat_le, nat_lt, if◌then◌else◌, slice_index, slice_range, MatchOption, ⊤}
use Rattle.std.specs.List.{AllPass, list_all}
use Rattle.std.proofs.lemmas.Bool.{cond_both, eqb-true, and_parts, ne_eqb}
use Rattle.std.proofs.lemmas.Grind.{common_steps}
use Rattle.std.proofs.lemmas.List.{length-append}
use Rattle.std.proofs.lemmas.List.Sums.{list_all-from_AllPass, AllPass-from_list_all}
use Rattle.std.proofs.Math.Seq.{take-append_seam}
use Rattle.cp_text.specs.declared.fault.ScanCause.{ScanCause}
use Rattle.cp_text.specs.declared.fault.ScanCause.TheVariants.{BadChar, NumberTooLarge, NameTooLong}
use Rattle.cp_text.specs.declared.piece.Shape.{Shape}
use Rattle.cp_text.specs.declared.piece.Shape.TheVariants as shape
use Rattle.cp_text.specs.declared.token.Kind.{Kind}
use Rattle.cp_text.specs.declared.token.Kind.TheVariants as kinds
use Rattle.cp_text.specs.Bytes.{is_digit, is_printable}
use Rattle.cp_text.specs.Values.{number_of, word_kind, is_lexeme}
use Rattle.cp_text.specs.Lexemes.{number, small, code, character, inside, word, lexeme, kind, or_fault}
use Rattle.cp_text.specs.Reading.{Has, IsCode, printable, numbered, IsLexeme, Breaks}

pub below_eq : (a b : ℕ) → a ≤ b → nat_le a b ≡ true
below_eq a b h = grind (arith, common_steps)

pub below_of : (a b : ℕ) → nat_le a b ≡ true → a ≤ b
below_of a b h = grind (arith, common_steps)

pub above_of : (a b : ℕ) → nat_le a b ≡ false → b < a
above_of a b h = grind (arith, common_steps)

pub above_eq : (a b : ℕ) → b < a → nat_le a b ≡ false
above_eq a b h = grind (arith, common_steps)

read_behind : (xs : List ℕ) (q : ℕ) (ys : List ℕ) → slice_index (xs ++ q ∷ ys) (length xs) ≡ q
read_behind [] q ys = refl
read_behind (x ∷ xs) q ys = read_behind xs q ys

read_second : (xs : List ℕ) (p q : ℕ) (ys : List ℕ) → slice_index (xs ++ p ∷ q ∷ ys) (suc (length xs)) ≡ q
read_second [] p q ys = refl
read_second (x ∷ xs) p q ys = read_second xs p q ys

front_and_two : (rest : List ℕ) (m x y : ℕ) → length rest ≡ m + 2 → slice_index rest m ≡ x → slice_index rest (suc m) ≡ y → rest ≡ take m rest ++ x ∷ y ∷ []
front_and_two [] m x y long is_x is_y = absurd (omega arith)
front_and_two (a ∷ []) zero x y long is_x is_y = absurd (omega arith)
front_and_two (a ∷ b ∷ []) zero x y long is_x is_y = rw (← is_x, ← is_y) refl
front_and_two (a ∷ b ∷ c ∷ rest) zero x y long is_x is_y = absurd (omega arith)
front_and_two (a ∷ rest) (suc m) x y long is_x is_y = ap (λ ts. a ∷ ts) (front_and_two rest m x y (omega arith) is_x is_y)

-- ---- characters

code_is : (digits : List ℕ) → 0 < length digits → AllPass is_digit digits → number_of digits ≤ 127 → code digits ≡ Some (number_of digits)
unfolding code number
code_is digits some all h =
    let a : nat_lt 0 (length digits) ≡ true = grind (arith, common_steps) in
    rw (a, list_all-from_AllPass is_digit digits all, below_eq (number_of digits) 32767 (omega arith), below_eq (number_of digits) 127 h) refl

numbered_is : (digits : List ℕ) → 0 < length digits → AllPass is_digit digits → number_of digits ≤ 127 → character (40 ∷ 58 ∷ (digits ++ 58 ∷ 41 ∷ [])) ≡ Some (number_of digits)
unfolding character
numbered_is digits some all h =
    let long : suc (suc (length (digits ++ 58 ∷ 41 ∷ []))) ≡ length digits + 4 = omega (arith, length-append digits (58 ∷ 41 ∷ [])) in
    let not_one : (length digits + 4 == 1) ≡ false = ne_eqb (length digits + 4) 1 (λ e. omega arith) in
    let four : nat_le 4 (length digits + 4) ≡ true = below_eq 4 (length digits + 4) (omega arith) in
    let last : length digits + 4 - 1 ≡ suc (suc (suc (length digits))) = omega arith in
    let colon : length digits + 4 - 2 ≡ suc (suc (length digits)) = omega arith in
    let between : suc (suc (length digits)) - 2 ≡ length digits = omega arith in
    rw (long, not_one, four, last, colon, read_behind digits 58 (41 ∷ []), read_second digits 58 41 [], between, take-append_seam digits (58 ∷ 41 ∷ []))
    (code_is digits some all h)

pub character_is : (text : List ℕ) (c : ℕ) → IsCode text c → character text ≡ Some c
unfolding character
character_is text c (printable is passes) = rw (is, passes) refl
character_is text c (numbered digits is some all value bound) = ap character is ∙ numbered_is digits some all (omega arith) ∙ ap Some value

code_tells : (digits : List ℕ) → MatchOption (code digits) ⊤ (λ c. (0 < length digits) × AllPass is_digit digits × (number_of digits ≡ c) × (c ≤ 127))
unfolding code number
code_tells digits =
    let P : Option ℕ → Type 0 = λ o. MatchOption o ⊤ (λ c. (0 < length digits) × AllPass is_digit digits × (number_of digits ≡ c) × (c ≤ 127)) in
    cond_both (nat_lt 0 (length digits) && list_all is_digit digits) _ _ P (λ e.
    let parts = and_parts (nat_lt 0 (length digits)) (list_all is_digit digits) e in
    cond_both (nat_le (number_of digits) 32767) (Some (number_of digits)) None (λ o. P (small o)) (λ _.
    cond_both (nat_le (number_of digits) 127) (Some (number_of digits)) None P (λ below. (grind arith, AllPass-from_list_all is_digit digits parts.1, refl, grind arith)) (λ _. tt))
    (λ _. tt))
    (λ _. tt)

character_one : (text : List ℕ) → length text ≡ 1
    → MatchOption (if is_printable (slice_index text 0) then Some (slice_index text 0) else None) ⊤ (λ c. IsCode text c)
character_one [] h = absurd (omega arith)
character_one (b ∷ []) h =
    let P : Option ℕ → Type 0 = λ o. MatchOption o ⊤ (λ c. IsCode (b ∷ []) c) in
    cond_both (is_printable b) (Some b) None P (λ e. printable refl e) (λ _. tt)
character_one (b ∷ c ∷ text) h = absurd (omega arith)

lifted : (text digits : List ℕ) (o : Option ℕ) → text ≡ 40 ∷ 58 ∷ (digits ++ 58 ∷ 41 ∷ [])
    → MatchOption o ⊤ (λ c. (0 < length digits) × AllPass is_digit digits × (number_of digits ≡ c) × (c ≤ 127)) → MatchOption o ⊤ (λ c. IsCode text c)
lifted text digits None is h = tt
lifted text digits (Some c) is h = numbered digits is h.0 h.1 h.2 h.3

character_many : (text : List ℕ) → 4 ≤ length text → slice_index text 0 ≡ 40 → slice_index text 1 ≡ 58 → slice_index text (length text - 2) ≡ 58 → slice_index text (length text - 1) ≡ 41
    → MatchOption (code (slice_range text 2 (length text - 2))) ⊤ (λ c. IsCode text c)
character_many [] long a b colon close = absurd (omega arith)
character_many (x ∷ []) long a b colon close = absurd (omega arith)
character_many (x ∷ y ∷ rest) long a b colon close =
    let m : ℕ = length rest - 2 in
    let two : length rest ≡ length rest - 2 + 2 = omega arith in
    let at_colon : length (x ∷ y ∷ rest) - 2 ≡ suc (suc (length rest - 2)) = omega arith in
    let at_close : length (x ∷ y ∷ rest) - 1 ≡ suc (suc (suc (length rest - 2))) = omega arith in
    let between : suc (suc (length rest - 2)) - 2 ≡ length rest - 2 = omega arith in
    let is_colon : slice_index rest (length rest - 2) ≡ 58 = rw at_colon at colon in
    let is_close : slice_index rest (suc (length rest - 2)) ≡ 41 = rw at_close at close in
    let is_rest = front_and_two rest (length rest - 2) 58 41 two is_colon is_close in
    let is : x ∷ y ∷ rest ≡ 40 ∷ 58 ∷ (take (length rest - 2) rest ++ 58 ∷ 41 ∷ []) = cc in
    rw (at_colon, between) (lifted (x ∷ y ∷ rest) (take (length rest - 2) rest) (code (take (length rest - 2) rest)) is (code_tells (take (length rest - 2) rest)))

character_found : (text : List ℕ) → MatchOption (character text) ⊤ (λ c. IsCode text c)
unfolding character
character_found text =
    let P : Option ℕ → Type 0 = λ o. MatchOption o ⊤ (λ c. IsCode text c) in
    cond_both (length text == 1) _ _ P (λ e. character_one text (eqb-true (length text) 1 e)) (λ _.
    cond_both (nat_le 4 (length text) && slice_index text 0 == 40 && slice_index text 1 == 58 && slice_index text (length text - 2) == 58 && slice_index text (length text - 1) == 41) _ _ P
    (λ e.
    let last = and_parts _ _ e in
    let colon = and_parts _ _ last.0 in
    let second = and_parts _ _ colon.0 in
    let first = and_parts _ _ second.0 in
    character_many text (below_of 4 (length text) first.0) (eqb-true _ 40 first.1) (eqb-true _ 58 second.1) (eqb-true _ 58 colon.1) (eqb-true _ 41 last.1))
    (λ _. tt))

decided : (text : List ℕ) (o : Option ℕ) → character text ≡ o → MatchOption o ⊤ (λ c. IsCode text c) → MatchOption o ((c : ℕ) → IsCode text c → ⊥) (λ c. IsCode text c)
decided text None e h = λ c is. let wrong = sym e ∙ character_is text c is in cc
decided text (Some c) e h = h

pub character_tells : (text : List ℕ) → MatchOption (character text) ((c : ℕ) → IsCode text c → ⊥) (λ c. IsCode text c)
character_tells text = decided text (character text) refl (character_found text)

-- ---- pieces

pub inside_is : (text : List ℕ) (q : ℕ) → inside (q ∷ (text ++ q ∷ [])) ≡ text
inside_is text q =
    let e : suc (length (text ++ q ∷ [])) - 1 - 1 ≡ length text = omega (arith, length-append text (q ∷ [])) in
    rw e (take-append_seam text (q ∷ []))

none_from : (text : List ℕ) (o : Option ℕ) → character text ≡ o → MatchOption o ⊤ (λ c. IsCode text c) → ((c : ℕ) → IsCode text c → ⊥) → character text ≡ None
none_from text None e h none = e
none_from text (Some c) e h none = absurd (none c h)

lt_eq : (a b : ℕ) → a < b → nat_lt a b ≡ true
lt_eq a b h = grind (arith, common_steps)

ge_eq : (a b : ℕ) → b ≤ a → nat_lt a b ≡ false
ge_eq a b h = grind (arith, common_steps)

lt_of : (a b : ℕ) → nat_lt a b ≡ true → a < b
lt_of a b h = grind (arith, common_steps)

ge_of : (a b : ℕ) → nat_lt a b ≡ false → b ≤ a
ge_of a b h = grind (arith, common_steps)

pub kind_lexeme : (s : Shape) (piece : List ℕ) (k : Kind) → IsLexeme s piece k → kind s piece ≡ Ok (Some k)
unfolding number word
kind_lexeme shape.Separator piece k h = absurd h
kind_lexeme shape.Comment piece k h = absurd h
kind_lexeme shape.Number piece k h = rw (below_eq (number_of piece) 32767 h.0, h.1) refl
kind_lexeme shape.Name piece k h = rw (ge_eq 40 (length piece) h.0, h.1) refl
kind_lexeme shape.Character piece k h =
    ap (λ t. or_fault kinds.Character BadChar (character t)) (ap inside h.is ∙ inside_is h.text 39)
    ∙ ap (or_fault kinds.Character BadChar) (character_is h.text h.code h.stands_for) ∙ ap (λ j. Ok (Some j)) (sym h.kind)
kind_lexeme (shape.Sign m) piece k h = ap (λ j. Ok (Some j)) (sym h)

pub kind_blank : (s : Shape) (piece : List ℕ) → is_lexeme s ≡ false → kind s piece ≡ Ok None
kind_blank shape.Separator piece h = refl
kind_blank shape.Comment piece h = refl
kind_blank shape.Number piece h = absurd (cc)
kind_blank shape.Name piece h = absurd (cc)
kind_blank shape.Character piece h = absurd (cc)
kind_blank (shape.Sign m) piece h = absurd (cc)

pub kind_breaks : (s : Shape) (piece : List ℕ) (e : ScanCause) → Breaks s piece e → kind s piece ≡ Err e
unfolding number word
kind_breaks shape.Separator piece e h = absurd h
kind_breaks shape.Comment piece e h = absurd h
kind_breaks shape.Number piece e h = rw (above_eq (number_of piece) 32767 h.0, h.1) refl
kind_breaks shape.Name piece e h = rw (lt_eq 40 (length piece) h.0, h.1) refl
kind_breaks shape.Character piece e h =
    ap (λ t. or_fault kinds.Character BadChar (character t)) (ap inside h.0.is ∙ inside_is h.0.text 39)
    ∙ ap (or_fault kinds.Character BadChar) (none_from h.0.text (character h.0.text) refl (character_found h.0.text) h.0.none) ∙ ap Err (sym h.1)
kind_breaks (shape.Sign m) piece e h = absurd h

pub breaks_lexeme : (s : Shape) (piece : List ℕ) (e : ScanCause) → Breaks s piece e → is_lexeme s ≡ true
breaks_lexeme shape.Separator piece e h = absurd h
breaks_lexeme shape.Comment piece e h = absurd h
breaks_lexeme shape.Number piece e h = refl
breaks_lexeme shape.Name piece e h = refl
breaks_lexeme shape.Character piece e h = refl
breaks_lexeme (shape.Sign m) piece e h = refl

-- what the outcome says of a piece
abbrev pub KindTells : Shape → List ℕ → Result (Option Kind) ScanCause → Type 0
KindTells s piece (Ok None) = is_lexeme s ≡ false
KindTells s piece (Ok (Some k)) = (is_lexeme s ≡ true) × IsLexeme s piece k
KindTells s piece (Err e) = (is_lexeme s ≡ true) × Breaks s piece e

character_kind : (piece text : List ℕ) → piece ≡ 39 ∷ (text ++ 39 ∷ []) → (o : Option ℕ) → MatchOption o ((c : ℕ) → IsCode text c → ⊥) (λ c. IsCode text c)
    → KindTells shape.Character piece (or_fault kinds.Character BadChar o)
character_kind piece text is None h = (refl, (record { text = text; is = is; none = h }, refl))
character_kind piece text is (Some c) h = (refl, record { text = text; is = is; code = c; stands_for = h; kind = refl })

pub kind_tells : (s : Shape) (piece : List ℕ) → Has s piece → KindTells s piece (kind s piece)
unfolding number word
kind_tells shape.Separator piece h = refl
kind_tells shape.Comment piece h = refl
kind_tells shape.Number piece h =
    cond_both (nat_le (number_of piece) 32767) (Some (number_of piece)) None (λ o. KindTells shape.Number piece (or_fault kinds.Number NumberTooLarge o))
    (λ e. (refl, (below_of (number_of piece) 32767 e, refl))) (λ e. (refl, (above_of (number_of piece) 32767 e, refl)))
kind_tells shape.Name piece h =
    cond_both (nat_lt 40 (length piece)) (Err NameTooLong) (Ok (word_kind piece)) (λ r. KindTells shape.Name piece (lexeme r))
    (λ e. (refl, (lt_of 40 (length piece) e, refl))) (λ e. (refl, (ge_of 40 (length piece) e, refl)))
kind_tells shape.Character piece h =
    let e : character (inside piece) ≡ character h.text = ap (λ t. character (inside t)) h.is ∙ ap character (inside_is h.text 39) in
    subst (λ o. KindTells shape.Character piece (or_fault kinds.Character BadChar o)) (sym e) (character_kind piece h.text h.is (character h.text) (character_tells h.text))
kind_tells (shape.Sign m) piece h = (refl, refl)
