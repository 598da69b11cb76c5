-- Marks say whether values are an expected output.
use Rattle.std.proofs.Common.{◌≡◌, ◌∙◌, ℕ, Bool, true, false, ◌&&◌, ◌||◌, List, [], ◌∷◌, length, refl}
use Rattle.cp_verdict.specs.Outputs.{is_printed, begins, from_some, is_over}
use Rattle.cp_verdict.specs.Marks.{is_marked, some_rest, after_value, after_rest}

-- none but the rest itself, from no value on
pub some_first : (rest : List (List ℕ) → Bool) (printed : List (List ℕ)) → some_rest (true ∷ []) rest printed ≡ rest printed
some_first rest [] = refl
some_first rest (x ∷ xs) = split (rest (x ∷ xs))
  where
    split : (b : Bool) → (b || false) ≡ b
    split true = refl
    split false = refl

-- at the end the number of all values has to be marked
pub marked_last : (bs : List Bool) (printed : List (List ℕ)) → some_rest bs is_over printed ≡ is_marked bs (length printed)
marked_last (true ∷ bs) (x ∷ xs) = marked_last bs xs
marked_last (false ∷ bs) (x ∷ xs) = marked_last bs xs
marked_last _ _ = refl

with_first : (c : Bool) (bs : List Bool) (rest : List (List ℕ) → Bool) (xs : List (List ℕ)) → some_rest (c ∷ bs) rest xs ≡ ((c && rest xs) || some_rest (false ∷ bs) rest xs)
with_first true bs rest [] = split (rest [])
  where
    split : (b : Bool) → b ≡ (b || false)
    split true = refl
    split false = refl
with_first false bs rest [] = refl
with_first c bs rest (x ∷ xs) = refl

pub value_more : (text : List ℕ) (bs : List Bool) (rest : List (List ℕ) → Bool) (printed : List (List ℕ)) → some_rest (false ∷ after_value text bs printed) rest printed ≡ some_rest bs (begins text rest) printed
value_more text [] rest [] = refl
value_more text (true ∷ bs) rest [] = refl
value_more text (b ∷ bs) rest (x ∷ xs) =
    with_first (b && is_printed text x) (after_value text bs xs) rest xs ∙ split b (is_printed text x) (rest xs) (value_more text bs rest xs)
  where
    split : (b c r : Bool) {s t : Bool} → s ≡ t → (((b && c) && r) || s) ≡ ((b && (c && r)) || t)
    split true true true h = refl
    split true true false h = h
    split true false r h = h
    split false c r h = h
value_more text _ rest _ = refl

pub rest_more : (before : Bool) (bs : List Bool) (rest : List (List ℕ) → Bool) (printed : List (List ℕ)) → some_rest (after_rest before bs printed) rest printed ≡ ((before && from_some rest printed) || some_rest bs (from_some rest) printed)
rest_more before [] rest [] = split before (rest [])
  where
    split : (a r : Bool) → ((a || false) && r) ≡ ((a && r) || false)
    split true true = refl
    split true false = refl
    split false r = refl
rest_more before (b ∷ bs) rest [] = split before b (rest [])
  where
    split : (a b r : Bool) → ((a || b) && r) ≡ ((a && r) || (b && r))
    split true true true = refl
    split true true false = refl
    split true false true = refl
    split true false false = refl
    split false b r = refl
rest_more before [] rest (x ∷ xs) = split before (rest (x ∷ xs)) (from_some rest xs) (rest_more (before || false) [] rest xs)
  where
    split : (a r s : Bool) {t : Bool} → t ≡ (((a || false) && s) || false) → (((a || false) && r) || t) ≡ ((a && (r || s)) || false)
    split true true s h = refl
    split true false s h = h
    split false r s h = h
rest_more before (b ∷ bs) rest (x ∷ xs) = split before b (rest (x ∷ xs)) (from_some rest xs) (some_rest bs (from_some rest) xs) (rest_more (before || b) bs rest xs)
  where
    split : (a b r s u : Bool) {t : Bool} → t ≡ (((a || b) && s) || u) → (((a || b) && r) || t) ≡ ((a && (r || s)) || ((b && (r || s)) || u))
    split true b true s u h = refl
    split true true false true u h = h
    split true true false false u h = h
    split true false false true u h = h
    split true false false false u h = h
    split false true true s u h = refl
    split false true false s u h = h
    split false false r s u h = h
