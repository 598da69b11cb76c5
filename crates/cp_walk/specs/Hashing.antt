-- What is fed to a hasher of an outcome: the numbers of its kind, and one number for each displayed value.
use Rattle.std.specs.Prelude.{ℕ, ◌+◌, ◌-◌, ◌*◌, ◌==◌, List, [], ◌∷◌, ◌++◌, take, drop, if◌then◌else◌}
use Rattle.std.specs.Int.{cast_unsigned}
use mir.Syntax.{w16}
use Rattle.cp_machine.specs.declared.shown.Shown.{Shown}
use Rattle.cp_machine.specs.declared.shown.Shown.TheVariants.{Integer, Char, Truth, Constant}

-- one number for a value; an integer by its 16 bits
abbrev pub shown_code : Shown → ℕ
shown_code (Integer z) = cast_unsigned w16 z
shown_code (Char c) = 131072 + c
shown_code (Truth b) = 196608 + (if b then 1 else 0)
shown_code (Constant n) = 262144 + n

-- the same, from the two numbers of each value, of which 1 stands before the size of a negative integer
abbrev pub codes_of : List ℕ → List ℕ
codes_of [] = []
codes_of (tag ∷ []) = []
codes_of (tag ∷ number ∷ rest) = (if tag == 1 then 65536 - number else tag * 65536 + number) ∷ codes_of rest

-- how many numbers stand for the kind, of the numbers of an outcome
abbrev pub kind_length : List ℕ → ℕ
kind_length [] = 0
kind_length (kind ∷ rest) = if kind == 2 then 4 else 1

-- from the numbers of an outcome
abbrev pub hashed : List ℕ → List ℕ
hashed numbers = take (kind_length numbers) numbers ++ codes_of (drop (kind_length numbers) numbers)
