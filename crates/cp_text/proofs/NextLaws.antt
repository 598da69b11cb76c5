-- The next piece of a text, by its definition and as it is computed.
use Rattle.std.proofs.Common.{◌≡◌, ◌≢◌, ℕ, ◌<◌, ◌≤◌, Bool, true, false, ◌&&◌, List, [], ◌∷◌, ◌++◌, length, take, drop, arith, refl, sym, ap, ◌∙◌, subst, Option, Some, None, Result, Ok, Err}
use Rattle.std.specs.Prelude.{nat_le, if◌then◌else◌}
use Rattle.std.proofs.lemmas.Bool.{cond_both, and_parts, and_right}
use Rattle.std.proofs.lemmas.List.{take-append-drop}
use Rattle.std.proofs.Math.Seq.{take-append_seam}
use Rattle.cp_text.specs.declared.fault.ScanCause.{ScanCause}
use Rattle.cp_text.specs.declared.fault.ScanCause.TheVariants.{BadByte, OpenComment, OpenChar, TooManyTokens}
use Rattle.cp_text.specs.declared.piece.Piece.{Piece}
use Rattle.cp_text.specs.declared.piece.Shape.{Shape}
use Rattle.cp_text.specs.declared.token.Kind.{Kind}
use Rattle.cp_text.specs.Values.{is_lexeme}
use Rattle.cp_text.specs.Lexemes.{next, begins_token, kind, with_len, meaning}
use Rattle.cp_text.specs.Pieces.{first_piece}
use Rattle.cp_text.specs.Reading.{Stands, NoneStands, IsLexeme, FaultIn, bad_byte, open_comment, open_char, open_too_many, breaks, too_many}
use Rattle.cp_text.proofs.FoundLaws.{Unread, Fits}
use Rattle.cp_text.proofs.FoundLaws as unread
use Rattle.cp_text.proofs.LexemeLaws.{KindTells, kind_tells, kind_lexeme, kind_blank, kind_breaks, below_eq, above_eq, below_of, above_of}
use Rattle.cp_text.proofs.StandsLaws.{has_bytes, found_fits, stands_found, none_found, stands_is, none_is}

-- ---- where the definition tells the next piece

next_piece : (count : ℕ) (s : Shape) (piece rest : List ℕ) → Stands s piece rest
    → next count (piece ++ rest) ≡ (if nat_le 20000 count && is_lexeme s then Err TooManyTokens else with_len (length piece) (kind s piece))
unfolding next
next_piece count s piece rest h = rw (stands_is s piece rest h, take-append_seam piece rest) refl

pub next_stands : (count : ℕ) (s : Shape) (piece rest : List ℕ) (k : Kind) → Stands s piece rest → IsLexeme s piece k → count < 20000 → next count (piece ++ rest) ≡ Ok (Some k, length piece)
next_stands count s piece rest k h is below = next_piece count s piece rest h ∙ rw (above_eq 20000 count below, kind_lexeme s piece k is) refl

pub next_blank : (count : ℕ) (s : Shape) (piece rest : List ℕ) → Stands s piece rest → is_lexeme s ≡ false → next count (piece ++ rest) ≡ Ok (None, length piece)
next_blank count s piece rest h blank = next_piece count s piece rest h ∙ rw (and_right (nat_le 20000 count) (is_lexeme s) blank, kind_blank s piece blank) refl

next_none : (count b : ℕ) (z : List ℕ) (e : ScanCause) → first_piece (b ∷ z) ≡ Err e → next count (b ∷ z) ≡ (if nat_le 20000 count && begins_token (Err e) then Err TooManyTokens else Err e)
unfolding next
next_none count b z e is = rw is refl

unread_bad : (b : ℕ) (e : ScanCause) → Unread b e → b ≢ 34 → b ≢ 39 → e ≡ BadByte
unread_bad b e (unread.bad_byte one other is) not_comment not_char = is
unread_bad b e (unread.open_comment at is) not_comment not_char = absurd (not_comment at)
unread_bad b e (unread.open_char at is) not_comment not_char = absurd (not_char at)

unread_comment : (b : ℕ) (e : ScanCause) → Unread b e → b ≡ 34 → e ≡ OpenComment
unread_comment b e (unread.bad_byte one other is) at = absurd (one at)
unread_comment b e (unread.open_comment it is) at = is
unread_comment b e (unread.open_char it is) at = absurd (omega arith)

unread_char : (b : ℕ) (e : ScanCause) → Unread b e → b ≡ 39 → e ≡ OpenChar
unread_char b e (unread.bad_byte one other is) at = absurd (other at)
unread_char b e (unread.open_comment it is) at = absurd (omega arith)
unread_char b e (unread.open_char it is) at = is

pub next_fault : (count : ℕ) (text : List ℕ) (e : ScanCause) → FaultIn count text e → next count text ≡ Err e
next_fault count text e (bad_byte b more is none not_comment not_char cause) =
    let u = none_is b more (subst NoneStands is none) in
    let known = unread_bad b u.cause u.reason not_comment not_char in
    ap (next count) is ∙ next_none count b more u.cause u.found ∙ rw (known, cause, and_right (nat_le 20000 count) false refl) refl
next_fault count text e (open_comment more is none cause) =
    let u = none_is 34 more (subst NoneStands is none) in
    let known = unread_comment 34 u.cause u.reason refl in
    ap (next count) is ∙ next_none count 34 more u.cause u.found ∙ rw (known, cause, and_right (nat_le 20000 count) false refl) refl
next_fault count text e (open_char more is none below cause) =
    let u = none_is 39 more (subst NoneStands is none) in
    let known = unread_char 39 u.cause u.reason refl in
    ap (next count) is ∙ next_none count 39 more u.cause u.found ∙ rw (known, cause, above_eq 20000 count below) refl
next_fault count text e (open_too_many more is none full cause) =
    let u = none_is 39 more (subst NoneStands is none) in
    let known = unread_char 39 u.cause u.reason refl in
    ap (next count) is ∙ next_none count 39 more u.cause u.found ∙ rw (known, cause, below_eq 20000 count full) refl
next_fault count text e (breaks s piece rest is stands below broken) =
    ap (next count) is ∙ next_piece count s piece rest stands ∙ rw (above_eq 20000 count below, kind_breaks s piece e broken) refl
next_fault count text e (too_many s piece rest is stands full lexeme cause) =
    ap (next count) is ∙ next_piece count s piece rest stands ∙ rw (below_eq 20000 count full, lexeme, cause) refl

some_rest : (piece rest : List ℕ) → 0 < length piece → 0 < length (piece ++ rest)
some_rest [] rest h = absurd (omega arith)
some_rest (b ∷ bs) rest h = omega arith

pub fault_somewhere : (count : ℕ) (text : List ℕ) (e : ScanCause) → FaultIn count text e → 0 < length text
fault_somewhere count text e (bad_byte b more is none not_comment not_char cause) = rw is (omega arith)
fault_somewhere count text e (open_comment more is none cause) = rw is (omega arith)
fault_somewhere count text e (open_char more is none below cause) = rw is (omega arith)
fault_somewhere count text e (open_too_many more is none full cause) = rw is (omega arith)
fault_somewhere count text e (breaks s piece rest is stands below broken) = rw is (some_rest piece rest (has_bytes s piece stands.shaped))
fault_somewhere count text e (too_many s piece rest is stands full lexeme cause) = rw is (some_rest piece rest (has_bytes s piece stands.shaped))

-- ---- what the next piece tells

-- the kind of a piece's token, if it is a lexeme, after this many tokens
abbrev pub KindAfter : ℕ → Shape → List ℕ → Option Kind → Type 0
KindAfter count s piece None = is_lexeme s ≡ false
KindAfter count s piece (Some k) = IsLexeme s piece k × (count < 20000)

pub record NextPiece (count : ℕ) (text : List ℕ) (k : Option Kind) (n : ℕ) : Type 0 where
  pub shape : Shape
  pub stands : Stands shape (take n text) (drop n text)
  pub some : 1 ≤ n
  pub within : n ≤ length text
  pub kind_is : KindAfter count shape (take n text) k

abbrev pub NextTells : ℕ → List ℕ → Result (Option Kind × ℕ) ScanCause → Type 0
NextTells count text (Ok p) = NextPiece count text p.0 p.1
NextTells count text (Err e) = FaultIn count text e

only_left : (x y : Bool) → (x && y) ≡ false → y ≡ true → x ≡ false
only_left true y e h = sym h ∙ e
only_left false y e h = refl

told_kind : (count b : ℕ) (z : List ℕ) (p : Piece) → first_piece (b ∷ z) ≡ Ok p → (nat_le 20000 count && is_lexeme p.shape) ≡ false
    → (r : Result (Option Kind) ScanCause) → KindTells p.shape (take p.len (b ∷ z)) r → NextTells count (b ∷ z) (with_len p.len r)
told_kind count b z p is few (Ok None) h =
    let f : Fits b z (Ok p) = found_fits b z (Ok p) is in
    record { shape = p.shape; stands = stands_found b z p is; some = f.0; within = f.1; kind_is = h }
told_kind count b z p is few (Ok (Some k)) h =
    let f : Fits b z (Ok p) = found_fits b z (Ok p) is in
    let below : nat_le 20000 count ≡ false = only_left (nat_le 20000 count) (is_lexeme p.shape) few h.0 in
    record { shape = p.shape; stands = stands_found b z p is; some = f.0; within = f.1; kind_is = (h.1, above_of 20000 count below) }
told_kind count b z p is few (Err e) h =
    let below : nat_le 20000 count ≡ false = only_left (nat_le 20000 count) (is_lexeme p.shape) few h.0 in
    breaks p.shape (take p.len (b ∷ z)) (drop p.len (b ∷ z)) (sym (take-append-drop p.len (b ∷ z))) (stands_found b z p is) (above_of 20000 count below) h.1

told_none : (count b : ℕ) (z : List ℕ) (e : ScanCause) → NoneStands (b ∷ z) → Unread b e → NextTells count (b ∷ z) (if nat_le 20000 count && begins_token (Err e) then Err TooManyTokens else Err e)
told_none count b z e none (unread.bad_byte not_comment not_char is) =
    rw (is, and_right (nat_le 20000 count) false refl) (bad_byte b z refl none not_comment not_char refl)
told_none count b z e none (unread.open_comment at is) =
    rw (is, and_right (nat_le 20000 count) false refl) (open_comment z (ap (λ x. x ∷ z) at) none refl)
told_none count b z e none (unread.open_char at is) =
    rw is (cond_both (nat_le 20000 count && true) (Err TooManyTokens) (Err OpenChar) (NextTells count (b ∷ z))
    (λ full. open_too_many z (ap (λ x. x ∷ z) at) none (below_of 20000 count (and_parts (nat_le 20000 count) true full).0) refl)
    (λ few. open_char z (ap (λ x. x ∷ z) at) none (above_of 20000 count (and_true (nat_le 20000 count) few)) refl))
  where
    and_true : (x : Bool) → (x && true) ≡ false → x ≡ false
    and_true true e = e
    and_true false e = refl

next_tells_at : (count b : ℕ) (z : List ℕ) (r : Result Piece ScanCause) → first_piece (b ∷ z) ≡ r
    → NextTells count (b ∷ z) (if nat_le 20000 count && begins_token r then Err TooManyTokens else meaning (b ∷ z) r)
next_tells_at count b z (Ok p) is =
    let f : Fits b z (Ok p) = found_fits b z (Ok p) is in
    cond_both (nat_le 20000 count && is_lexeme p.shape) (Err TooManyTokens) (with_len p.len (kind p.shape (take p.len (b ∷ z)))) (NextTells count (b ∷ z))
    (λ full.
    let parts = and_parts (nat_le 20000 count) (is_lexeme p.shape) full in
    too_many p.shape (take p.len (b ∷ z)) (drop p.len (b ∷ z)) (sym (take-append-drop p.len (b ∷ z))) (stands_found b z p is) (below_of 20000 count parts.0) parts.1 refl)
    (λ few. told_kind count b z p is few (kind p.shape (take p.len (b ∷ z))) (kind_tells p.shape (take p.len (b ∷ z)) f.2))
next_tells_at count b z (Err e) is = told_none count b z e (none_found b z e is) (found_fits b z (Err e) is)

pub next_tells : (count b : ℕ) (z : List ℕ) → NextTells count (b ∷ z) (next count (b ∷ z))
unfolding next
next_tells count b z = next_tells_at count b z (first_piece (b ∷ z)) refl
