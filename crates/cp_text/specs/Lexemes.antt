-- What a lexeme means, as it is computed: its value, its word or its code.
use Rattle.std.specs.Prelude.{◌≡◌, ◌≢◌, ℕ, ◌-◌, ◌==◌, nat_le, nat_lt, Bool, true, false, ◌&&◌, if◌then◌else◌, List, length, take, slice_index, slice_range, Option, Some, None, Result, Ok, Err}
use Rattle.std.specs.List.{list_all}
use Rattle.cp_text.specs.declared.fault.ScanCause.{ScanCause}
use Rattle.cp_text.specs.declared.fault.ScanCause.TheVariants.{BadChar, NumberTooLarge, NameTooLong, TooManyTokens, OpenChar, Memory}
use Rattle.cp_text.specs.declared.piece.Piece.{Piece}
use Rattle.cp_text.specs.declared.piece.Shape.{Shape}
use Rattle.cp_text.specs.declared.piece.Shape.TheVariants as shape
use Rattle.cp_text.specs.declared.token.Kind.{Kind}
use Rattle.cp_text.specs.declared.token.Kind.TheVariants as kinds
use Rattle.cp_text.specs.Bytes.{is_digit, is_printable}
use Rattle.cp_text.specs.Pieces.{first_piece}
use Rattle.cp_text.specs.Values.{number_of, word_kind, is_lexeme}

-- what a function that takes memory ensures: this outcome, unless memory is refused
abbrev pub Reads : {A : Type 0} → Result A ScanCause → Result A ScanCause → Type 0
Reads outcome (Ok x) = outcome ≡ Ok x
Reads outcome (Err e) = e ≢ Memory → outcome ≡ Err e

-- ---- numbers

unfoldable pub number : List ℕ → Option ℕ
number digits = if nat_le (number_of digits) 32767 then Some (number_of digits) else None

-- ---- characters, by the text between the quotes

abbrev pub small : Option ℕ → Option ℕ
small (Some n) = if nat_le n 127 then Some n else None
small None = None

unfoldable pub code : List ℕ → Option ℕ
code digits = if nat_lt 0 (length digits) && list_all is_digit digits then small (number digits) else None

abbrev pub inside : List ℕ → List ℕ
inside text = slice_range text 1 (length text - 1)

unfoldable pub character : List ℕ → Option ℕ
character text =
    if length text == 1 then (if is_printable (slice_index text 0) then Some (slice_index text 0) else None)
    else (if nat_le 4 (length text) && slice_index text 0 == 40 && slice_index text 1 == 58 && slice_index text (length text - 2) == 58 && slice_index text (length text - 1) == 41
    then code (slice_range text 2 (length text - 2)) else None)

-- ---- names and reserved words

unfoldable pub word : List ℕ → Result Kind ScanCause
word text = if nat_lt 40 (length text) then Err NameTooLong else Ok (word_kind text)

-- ---- a piece of this shape and text

abbrev pub or_fault : {A : Type 0} → (A → Kind) → ScanCause → Option A → Result (Option Kind) ScanCause
or_fault made cause (Some x) = Ok (Some (made x))
or_fault made cause None = Err cause

abbrev pub lexeme : Result Kind ScanCause → Result (Option Kind) ScanCause
lexeme (Ok k) = Ok (Some k)
lexeme (Err e) = Err e

abbrev pub kind : Shape → List ℕ → Result (Option Kind) ScanCause
kind shape.Separator text = Ok None
kind shape.Comment text = Ok None
kind shape.Number text = or_fault kinds.Number NumberTooLarge (number text)
kind shape.Name text = lexeme (word text)
kind shape.Character text = or_fault kinds.Character BadChar (character (inside text))
kind (shape.Sign m) text = Ok (Some (kinds.Mark m))

-- ---- the piece at the front of a text

-- a `'` without a closing one is the start of a token too
abbrev pub begins_token : Result Piece ScanCause → Bool
begins_token (Ok p) = is_lexeme p.shape
begins_token (Err OpenChar) = true
begins_token (Err _) = false

abbrev pub with_len : ℕ → Result (Option Kind) ScanCause → Result (Option Kind × ℕ) ScanCause
with_len len (Ok k) = Ok (k, len)
with_len len (Err e) = Err e

abbrev pub meaning : List ℕ → Result Piece ScanCause → Result (Option Kind × ℕ) ScanCause
meaning text (Ok p) = with_len p.len (kind p.shape (take p.len text))
meaning text (Err e) = Err e

-- no token may begin after this many
abbrev pub is_full : ℕ → Bool
is_full count = nat_le 20000 count

-- The piece at the front of a text after `count` tokens: the kind of its token, if it is a lexeme, and its length.
unfoldable pub next : ℕ → List ℕ → Result (Option Kind × ℕ) ScanCause
next count text = if is_full count && begins_token (first_piece text) then Err TooManyTokens else meaning text (first_piece text)
