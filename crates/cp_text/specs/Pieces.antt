-- The piece at the front of a text, as it is computed from the first bytes. A text reads as 0 past its end.
use Rattle.std.specs.Prelude.{ℕ, ◌+◌, ◌==◌, Bool, ◌&&◌, if◌then◌else◌, List, drop, slice_index, Option, Some, None, Result, Ok, Err}
use Rattle.cp_text.specs.Bytes.{is_separator, is_digit, is_letter, is_word_byte, is_in_comment, is_in_character}
use Rattle.std.specs.List.{prefix_len}
use Rattle.cp_text.specs.declared.fault.ScanCause.{ScanCause}
use Rattle.cp_text.specs.declared.fault.ScanCause.TheVariants.{BadByte, OpenComment, OpenChar}
use Rattle.cp_text.specs.declared.piece.Class.{Class}
use Rattle.cp_text.specs.declared.piece.Class.TheVariants as class
use Rattle.cp_text.specs.declared.piece.Piece.{Piece}
use Rattle.cp_text.specs.declared.piece.Shape.{Shape}
use Rattle.cp_text.specs.declared.piece.Shape.TheVariants as shape
use Rattle.cp_text.specs.declared.token.Mark.{Mark}
use Rattle.cp_text.specs.declared.token.Mark.TheVariants as mark

abbrev pub is_in : Class → ℕ → Bool
is_in class.Separator b = is_separator b
is_in class.Digit b = is_digit b
is_in class.Word b = is_word_byte b
is_in class.Comment b = is_in_comment b
is_in class.Character b = is_in_character b

abbrev pub made : Shape → ℕ → Result Piece ScanCause
made s n = Ok (record { shape = s; len = n })

-- a comment and a character, from the text after the opening quote
abbrev pub comment : List ℕ → Result Piece ScanCause
comment text = let inside = prefix_len (is_in class.Comment) text in if slice_index text inside == 34 then made shape.Comment (inside + 2) else Err OpenComment

abbrev pub character : List ℕ → Result Piece ScanCause
character text = let inside = prefix_len (is_in class.Character) text in if slice_index text inside == 39 then made shape.Character (inside + 2) else Err OpenChar

-- ---- signs

abbrev pub double_sign : ℕ → ℕ → Option Mark
double_sign b next =
    if b == 60 && next == 62 then Some mark.NotEqual else (if b == 60 && next == 61 then Some mark.AtMost
    else (if b == 62 && next == 61 then Some mark.AtLeast else (if b == 58 && next == 61 then Some mark.Becomes
    else (if b == 46 && next == 46 then Some mark.DoublePeriod else (if b == 40 && next == 46 then Some mark.OpenBracket
    else (if b == 46 && next == 41 then Some mark.CloseBracket else None))))))

abbrev pub single_sign : ℕ → Option Mark
single_sign b =
    if b == 43 then Some mark.Plus else (if b == 45 then Some mark.Minus else (if b == 42 then Some mark.Times
    else (if b == 61 then Some mark.Equal else (if b == 60 then Some mark.Less else (if b == 62 then Some mark.Greater
    else (if b == 40 then Some mark.OpenParenthesis else (if b == 41 then Some mark.CloseParenthesis
    else (if b == 91 then Some mark.OpenBracket else (if b == 93 then Some mark.CloseBracket
    else (if b == 44 then Some mark.Comma else (if b == 59 then Some mark.Semicolon else (if b == 58 then Some mark.Colon
    else (if b == 46 then Some mark.Period else (if b == 38 then Some mark.And else None))))))))))))))

abbrev pub sign_from : Option Mark → Option Mark → Result Piece ScanCause
sign_from (Some m) single = made (shape.Sign m) 2
sign_from None (Some m) = made (shape.Sign m) 1
sign_from None None = Err BadByte

abbrev pub sign : ℕ → ℕ → Result Piece ScanCause
sign b next = sign_from (double_sign b next) (single_sign b)

-- The piece at the front of a text that is not empty, or why none stands there.
unfoldable pub first_piece : List ℕ → Result Piece ScanCause
first_piece text =
    let b = slice_index text 0 in
    if is_separator b then made shape.Separator 1
    else (if is_digit b then made shape.Number (prefix_len (is_in class.Digit) text)
    else (if is_letter b then made shape.Name (prefix_len (is_in class.Word) text)
    else (if b == 34 then comment (drop 1 text)
    else (if b == 39 then character (drop 1 text)
    else sign b (slice_index text 1)))))
