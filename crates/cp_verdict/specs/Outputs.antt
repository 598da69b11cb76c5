-- Which values are an expected output.
use Rattle.std.specs.Prelude.{ℕ, List, [], ◌∷◌, Bool, true, false, ◌&&◌, ◌||◌, nat_eq, string_bytes}
use lib.Pointwise.{pointwise}
use Rattle.cp_machine.specs.declared.shown.Shown.{Shown}
use Rattle.cp_walk.specs.Text.{Spellings, output_text}
use Rattle.cp_expectation.specs.declared.expectation.OutputItem.{OutputItem}
use Rattle.cp_expectation.specs.declared.expectation.OutputItem.TheVariants.{Value, Rest}

-- a value as a report prints it
abbrev pub value_text : Spellings → Shown → List ℕ
value_text names v = output_text names (v ∷ [])

abbrev pub is_printed : List ℕ → List ℕ → Bool
is_printed text printed = pointwise nat_eq printed text

-- the first value is printed so, and the others are the rest
abbrev pub begins : List ℕ → (List (List ℕ) → Bool) → List (List ℕ) → Bool
begins text rest [] = false
begins text rest (x ∷ xs) = is_printed text x && rest xs

-- the values from some place on are the rest
abbrev pub from_some : (List (List ℕ) → Bool) → List (List ℕ) → Bool
from_some rest [] = rest []
from_some rest (x ∷ xs) = rest (x ∷ xs) || from_some rest xs

abbrev pub is_over : List (List ℕ) → Bool
is_over [] = true
is_over (x ∷ xs) = false

-- Printed values are such an output: each is the value at its place, and `..` stands for any values, or none.
abbrev pub reads_as : List OutputItem → List (List ℕ) → Bool
reads_as [] printed = is_over printed
reads_as (Value text ∷ items) printed = begins (string_bytes text) (reads_as items) printed
reads_as (Rest ∷ items) printed = from_some (reads_as items) printed
