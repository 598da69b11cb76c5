-- Names, as lists of their letters' codes in lower case.
use Rattle.std.specs.Prelude.{ℕ, Bool, List, [], ◌∷◌, bytes_eq}

abbrev pub Name : Type 0
Name = List ℕ

-- two names are one
abbrev pub same_name : Name → Name → Bool
same_name = bytes_eq

-- the temporary name of the function call with this number of tokens before it; no name of a tree that spells tokens has the code 0
abbrev pub temporary : ℕ → Name
temporary at = 0 ∷ at ∷ []

-- the name under which the environment of a function's call has the result; it has the code 0 too
abbrev pub result_name : Name
result_name = 0 ∷ []
