-- The values of numbers and names.
use Rattle.std.specs.Prelude.{ℕ, ◌+◌, ◌-◌, ◌*◌, Bool, true, false, List, [], ◌∷◌, map, Option, Some, None}
use Rattle.std.specs.Char.{to_ascii_lowercase}
use Rattle.cp_text.specs.declared.piece.Shape.{Shape}
use Rattle.cp_text.specs.declared.piece.Shape.TheVariants as shape
use Rattle.cp_text.specs.declared.token.Kind.{Kind}
use Rattle.cp_text.specs.declared.token.Kind.TheVariants as kinds
use Rattle.cp_text.specs.declared.token.Mark.{Mark}
use Rattle.cp_text.specs.Words.{reserved}

-- the number whose decimal digits are those of a value and then these; 48 is `0`
abbrev pub number_from : ℕ → List ℕ → ℕ
number_from value [] = value
number_from value (b ∷ bs) = number_from (value * 10 + (b - 48)) bs

-- the number that decimal digits spell
abbrev pub number_of : List ℕ → ℕ
number_of = number_from 0

abbrev pub lower_case : List ℕ → List ℕ
lower_case = map to_ascii_lowercase

abbrev pub named : Option Mark → List ℕ → Kind
named (Some m) spelling = kinds.Mark m
named None spelling = kinds.Name spelling

-- a reserved word, or else a name, both in lower case
abbrev pub word_kind : List ℕ → Kind
word_kind text = named (reserved (lower_case text)) (lower_case text)

-- the shapes of lexemes, which are tokens
abbrev pub is_lexeme : Shape → Bool
is_lexeme shape.Separator = false
is_lexeme shape.Comment = false
is_lexeme _ = true
