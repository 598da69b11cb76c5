-- Numbers and lists as bytes. No key begins another one of its kind.
use Rattle.std.specs.Prelude.{ℕ, zero, suc, ◌*◌, ◌+◌, ◌/◌, ◌%◌, List, [], ◌∷◌, ◌++◌, length, nat_lt, if◌then◌else◌, ℤ, pos, negsuc}
use Rattle.std.specs.List.{flat_map}

-- the digits of a number to the base 256, the lowest first; the last one is all that is left, however much
abbrev pub digits : ℕ → ℕ → List ℕ
digits zero n = n ∷ []
digits (suc more) n = (n % 256) ∷ digits more (n / 256)

-- a number below 256 is one byte
abbrev pub byte_key : ℕ → List ℕ
byte_key n = n ∷ []

-- a number below 255 is one byte, one below 65536 three
abbrev pub short_key : ℕ → List ℕ
short_key n = if nat_lt n 255 then n ∷ [] else 255 ∷ digits 1 n

-- a number below 254 is one byte, one below 65536 three, one below 2 ^ 64 nine
abbrev pub number_key : ℕ → List ℕ
number_key n = if nat_lt n 254 then n ∷ [] else (if nat_lt n 65536 then 254 ∷ digits 1 n else 255 ∷ digits 7 n)

-- the numbers 0, -1, 1, -2, 2, .. by their places
abbrev pub place_of : ℤ → ℕ
place_of (pos n) = 2 * n
place_of (negsuc n) = 2 * n + 1

-- an integer that is not negative and below 255 is one byte, which is most of them; the others are the digits of their places
abbrev pub integer_key : ℤ → List ℕ
integer_key (pos n) = if nat_lt n 255 then n ∷ [] else 255 ∷ digits 1 (place_of (pos n))
integer_key (negsuc n) = 255 ∷ digits 1 (place_of (negsuc n))

-- a list after its length
abbrev pub list_key : {A : Type 0} → (A → List ℕ) → List A → List ℕ
list_key key xs = number_key (length xs) ++ flat_map key xs
