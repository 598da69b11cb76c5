-- The marks that are kept while an output is read: one for each number of values that the items so far can be.
use Rattle.std.specs.Prelude.{ℕ, List, [], ◌∷◌, Bool, false, ◌&&◌, ◌||◌, slice_index_or}
use Rattle.cp_verdict.specs.Outputs.{is_printed}

abbrev pub is_marked : List Bool → ℕ → Bool
is_marked marks number = slice_index_or marks number false

-- after a number of values that is marked the others are the rest
abbrev pub some_rest : List Bool → (List (List ℕ) → Bool) → List (List ℕ) → Bool
some_rest [] rest printed = false
some_rest (b ∷ bs) rest [] = b && rest []
some_rest (b ∷ bs) rest (x ∷ xs) = (b && rest (x ∷ xs)) || some_rest bs rest xs

-- the marks of one value more, but for that of none
abbrev pub after_value : List ℕ → List Bool → List (List ℕ) → List Bool
after_value text [] printed = []
after_value text (b ∷ bs) [] = []
after_value text (b ∷ bs) (x ∷ xs) = (b && is_printed text x) ∷ after_value text bs xs

abbrev pub first_mark : List Bool → Bool
first_mark [] = false
first_mark (b ∷ bs) = b

abbrev pub other_marks : List Bool → List Bool
other_marks [] = []
other_marks (b ∷ bs) = bs

-- the marks of any values more, from a number on before which some is marked or not
abbrev pub after_rest : Bool → List Bool → List (List ℕ) → List Bool
after_rest before bs [] = (before || first_mark bs) ∷ []
after_rest before bs (x ∷ xs) = (before || first_mark bs) ∷ after_rest (before || first_mark bs) (other_marks bs) xs
