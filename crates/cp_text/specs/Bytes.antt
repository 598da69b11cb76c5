-- Classes of bytes.
use Rattle.std.specs.Prelude.{ℕ, ◌==◌, Bool, not, ◌&&◌, ◌||◌, nat_le, List, count_by}
use Rattle.std.specs.Char.{is_ascii_digit, is_ascii_alphabetic, is_ascii_alphanumeric}

-- space, tab, carriage return, line feed
abbrev pub is_separator : ℕ → Bool
is_separator b = b == 32 || b == 9 || b == 13 || b == 10

abbrev pub is_digit : ℕ → Bool
is_digit = is_ascii_digit

abbrev pub is_letter : ℕ → Bool
is_letter = is_ascii_alphabetic

-- a letter, a digit or `_`
abbrev pub is_word_byte : ℕ → Bool
is_word_byte b = is_ascii_alphanumeric b || b == 95

-- what stands between the quotes of a comment: no `"`
abbrev pub is_in_comment : ℕ → Bool
is_in_comment b = not (b == 34)

-- what stands between the quotes of a character: no `'` and no line feed
abbrev pub is_in_character : ℕ → Bool
is_in_character b = not (b == 39) && not (b == 10)

abbrev pub is_printable : ℕ → Bool
is_printable b = nat_le 32 b && nat_le b 126

abbrev pub line_feeds : List ℕ → ℕ
line_feeds text = count_by (λ b. b == 10) text
