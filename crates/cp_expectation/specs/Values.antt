-- Words that some report prints as values, and how a value is written among other words.
use Rattle.std.specs.Prelude.{◌≡◌, ℕ, List, [], ◌∷◌, ◌++◌, Bool, true, false, ◌&&◌, ◌||◌, ◌⊎◌, not, ◌==◌, nat_le, length, slice_index, codes, decimal, ◌<◌, if◌then◌else◌}
use Rattle.std.specs.Fmt.{signed_decimal}
use Rattle.std.specs.List.{list_any, list_all, range_with_len}
use Rattle.std.specs.Str.{bytes_eq, all_ascii_digits}
use Rattle.std.specs.Str.Parse.{digits_value, signed_digits_value, starts_with_minus, without_leading_sign}
use Rattle.cp_walk.specs.Text.{char_text}
use Rattle.cp_expectation.specs.Written.{is_doubtful}

-- digits, without a zero before them
abbrev pub is_plain : List ℕ → Bool
is_plain [] = false
is_plain (c ∷ cs) = if c == 48 then length cs == 0 else all_ascii_digits (c ∷ cs)

-- the text of an integer from -32768 to 32767
unfoldable pub is_integer : List ℕ → Bool
is_integer word =
    nat_le (digits_value 10 (without_leading_sign word)) (if starts_with_minus word then 32768 else 32767) && bytes_eq word (signed_decimal (signed_digits_value 10 word))

-- whether a character is printed itself, and not its code
abbrev pub is_printable : ℕ → Bool
is_printable code = nat_le 33 code && (nat_le code 126 && not (code == 39))

abbrev pub IsQuoted : List ℕ → Type 0
IsQuoted word = (code : ℕ) × (is_printable code ≡ true) × (word ≡ 39 ∷ code ∷ 39 ∷ [])

abbrev pub IsCoded : List ℕ → Type 0
IsCoded word = (code : ℕ) × (code < 128) × (is_printable code ≡ false) × (word ≡ codes "'(:" ++ decimal code ++ codes ":)'")

-- the text of one of the 128 characters
unfoldable pub is_character : List ℕ → Bool
is_character word = list_any (λ code. bytes_eq word (char_text code)) (range_with_len 0 128)

-- a lower-case letter, a digit or an underscore
abbrev pub is_letter : ℕ → Bool
is_letter c = (nat_le 97 c && nat_le c 122) || ((nat_le 48 c && nat_le c 57) || c == 95)

-- the words that are the language's own
unfoldable pub reserved : List (List ℕ)
reserved =
    codes "and" ∷ codes "array" ∷ codes "begin" ∷ codes "case" ∷ codes "class" ∷ codes "const" ∷ codes "cycle" ∷ codes "div" ∷ codes "do" ∷ codes "downto" ∷ codes "else" ∷ codes "end" ∷ codes "entry" ∷ codes "for" ∷ codes "function" ∷ codes "if" ∷ codes "in" ∷ codes "init" ∷ codes "mod" ∷ codes "monitor" ∷ codes "not" ∷ codes "of" ∷ codes "or" ∷ codes "procedure" ∷ codes "process" ∷ codes "program" ∷ codes "record" ∷ codes "repeat" ∷ codes "set" ∷ codes "then" ∷ codes "to" ∷ codes "type" ∷ codes "univ" ∷ codes "until" ∷ codes "var" ∷ codes "while" ∷ codes "with" ∷ []

-- the name of a truth value or of a constant: at most 40 of them, the first a letter
unfoldable pub is_name : List ℕ → Bool
is_name word =
    ((nat_le 97 (slice_index word 0) && nat_le (slice_index word 0) 122) && nat_le (length word) 40) && (list_all is_letter word && not (list_any (λ r. bytes_eq r word) reserved))

unfoldable pub is_value : List ℕ → Bool
is_value word = is_integer word || (is_character word || is_name word)

abbrev pub parenthesized : List ℕ → List ℕ
parenthesized value = codes "(" ++ value ++ codes ")"

-- A value stands there as a report prints it, or in parentheses; only so if it could be taken for an outcome.
abbrev pub SpellsValue : (word value : List ℕ) → Type 0
SpellsValue word value = (is_value value ≡ true) × (((word ≡ value) × (is_doubtful value ≡ false)) ⊎ (word ≡ parenthesized value))
