-- The lines of a source as they are shown.
use Rattle.std.specs.Prelude.{◌≡◌, ◌≢◌, ◌⊎◌, ℕ, ◌==◌, nat_lt, ◌||◌, Bool, if◌then◌else◌, List, [], ◌∷◌, ◌++◌, length, Contains}
use Rattle.std.specs.Char.{encode_utf8, IsScalar}
use Rattle.std.specs.Int.{is_in_range}

-- marks that turn or hide text
abbrev pub is_mark : ℕ → Bool
is_mark c = is_in_range 0x200b 0x200f c || is_in_range 0x2028 0x202e c || is_in_range 0x2060 0x206f c || c == 0xfeff

-- a space for a control character of the first 32; `?` for the others and for such marks
abbrev pub shown_character : ℕ → ℕ
shown_character c = if nat_lt c 32 then 32 else (if is_in_range 127 159 c || is_mark c then 63 else c)

-- these bytes begin with no character in UTF-8
abbrev pub IsBroken : List ℕ → Type 0
IsBroken bytes = (c : ℕ) (rest : List ℕ) → IsScalar c → bytes ≢ encode_utf8 c ++ rest

-- The bytes of a line, and the text that is shown for it: its characters, and `?` for a byte with which none begins.
pub data IsLineShown : List ℕ → List ℕ → Type 0 where
  nothing : IsLineShown [] []
  character : (c : ℕ) (bytes text : List ℕ) → IsScalar c → IsLineShown bytes text → IsLineShown (encode_utf8 c ++ bytes) (encode_utf8 (shown_character c) ++ text)
  broken : (byte : ℕ) (bytes text : List ℕ) → IsBroken (byte ∷ bytes) → IsLineShown bytes text → IsLineShown (byte ∷ bytes) (63 ∷ text)

-- A source, and the texts of its lines: a line feed ends each but the last.
pub data AreLinesShown : List ℕ → List (List ℕ) → Type 0 where
  last_line : (bytes text : List ℕ) → (Contains bytes 10 → ⊥) → IsLineShown bytes text → AreLinesShown bytes (text ∷ [])
  line_before : (bytes text source : List ℕ) (texts : List (List ℕ)) → (Contains bytes 10 → ⊥) → IsLineShown bytes text → AreLinesShown source texts → AreLinesShown (bytes ++ 10 ∷ source) (text ∷ texts)

-- the character that bytes begin with, as it is shown, and how many bytes it takes
abbrev pub IsFront : List ℕ → (shown length : ℕ) → Type 0
IsFront bytes shown n = ((c : ℕ) × (rest : List ℕ) × IsScalar c × (bytes ≡ encode_utf8 c ++ rest) × (n ≡ length (encode_utf8 c)) × (shown ≡ shown_character c)) ⊎ (IsBroken bytes × (n ≡ 1) × (shown ≡ 63))
