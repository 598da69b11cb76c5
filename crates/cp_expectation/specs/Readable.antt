-- Bytes as text that changes nothing but what is shown.
use Rattle.std.specs.Prelude.{◌≡◌, ◌≢◌, ◌≤◌, ◌&&◌, ◌||◌, ◌==◌, ℕ, List, [], ◌∷◌, ◌++◌, Bool, codes, drop, length, nat_le, if◌then◌else◌}
use Rattle.std.specs.Char.{IsScalar, encode_utf8}

-- between two characters, or one of them
abbrev pub is_within : (low high c : ℕ) → Bool
is_within low high c = nat_le low c && nat_le c high

-- a character that changes how others are shown, or that nobody sees
abbrev pub is_hidden : ℕ → Bool
is_hidden c = is_within 0 31 c || (is_within 127 159 c || (is_within 8203 8207 c || (is_within 8232 8238 c || (is_within 8288 8303 c || c == 65279))))

abbrev pub shown : ℕ → List ℕ
shown c = if is_hidden c then codes "?" else encode_utf8 c

-- the bytes begin with this character, and so many of them are its own
abbrev pub BeginsWith : List ℕ → (c len : ℕ) → Type 0
BeginsWith bytes c len = IsScalar c × (bytes ≡ encode_utf8 c ++ drop len bytes) × (len ≡ length (encode_utf8 c))

-- no character stands in front
abbrev pub BeginsNone : List ℕ → Type 0
BeginsNone bytes = (c : ℕ) (rest : List ℕ) → IsScalar c → bytes ≢ encode_utf8 c ++ rest

-- Bytes are characters, and others that begin none: a character is shown unless it is hidden, and a question mark stands for all else.
pub data IsReadable : (bytes text : List ℕ) → Type 0 where
  empty : IsReadable [] []
  character : (c : ℕ) (bytes text : List ℕ) → IsScalar c → IsReadable bytes text → IsReadable (encode_utf8 c ++ bytes) (shown c ++ text)
  other : (b : ℕ) (bytes text : List ℕ) → BeginsNone (b ∷ bytes) → IsReadable bytes text → IsReadable (b ∷ bytes) (codes "?" ++ text)

-- behind a text, what is shown of so many bytes at the front: with what is shown of the others it shows them all
abbrev pub ShowsFront : List ℕ → (n : ℕ) → (before after : List ℕ) → Type 0
ShowsFront bytes n before after = (said : List ℕ) × (1 ≤ n) × (after ≡ before ++ said) × ((more : List ℕ) → IsReadable (drop n bytes) more → IsReadable bytes (said ++ more))
