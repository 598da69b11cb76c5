-- The rows of a layer, one after another.
use Rattle.std.proofs.Common.{◌≡◌, ◌∙◌, ◌+◌, ◌*◌, ◌<◌, ◌≤◌, ◌⊎◌, inl, inr, ℕ, zero, suc, Bool, true, false, if◌then◌else◌, List, [], ◌∷◌, ◌++◌, length, map, take, drop, ap, arith, refl, sym}
use Rattle.std.specs.Prelude.{nat_eq, slice_index_or, slice_set}
use Rattle.std.proofs.lemmas.Bool.{cases_lt}
use Rattle.std.proofs.lemmas.List.{drop-append-le, drop-drop, drop_at, drop_all, get_or_append_left, length-append, length-drop, take-append-le, take_all}
use Rattle.std.proofs.Math.Seq.{get_or-append_seam}
use Rattle.std.proofs.lemmas.Cmp.{nat_list_eq_equiv}
use lib.Pointwise.{pointwise}
use Rattle.cp_states.specs.Hashing.{hash_of}
use Rattle.cp_merged.specs.Block.{AreDifferentRows, AreRowHashes, row_at}
use Rattle.cp_merged.specs.Code.{keyed}
use Rattle.cp_merged.specs.Holds.{words_of}
use Rattle.cp_merged.specs.Layer.{rows_of, rows_with}
use Rattle.cp_merged.specs.Layers.{Lead, lesser, merged_lead, with_lead}
use Rattle.cp_merged.specs.declared.layer.StateLayer.{StateLayer}
use Rattle.cp_merged.specs.declared.prefixes.Prefixes as code
use Rattle.cp_merged.proofs.Exact.{one_list}

abbrev pub Same : List ℕ → List ℕ → Bool
Same = pointwise nat_eq

apart : (xs ys : List ℕ) → (xs ≡ ys → ⊥) → Same xs ys ≡ false
apart xs ys ne = by (Same xs ys) refl
  where
    by : (b : Bool) → Same xs ys ≡ b → Same xs ys ≡ false
    by true e = absurd (ne (one_list xs ys e))
    by false e = e

-- words that lead to a row, and those that are known with more
abbrev pub low : List ℕ → code.Prefixes → Lead (List ℕ)
low row x = keyed (row, x)

abbrev pub Adds : code.Prefixes → code.Prefixes → code.Prefixes → Type 0
Adds now x v = (v.count ≡ now.count + x.count) × (v.first.items ≡ lesser now.first.items x.first.items)

module _ (width : ℕ) where
  -- ---- rows by their numbers

  pub first_row : (numbers : List ℕ) → row_at width numbers 0 ≡ take width numbers
  first_row numbers = let none : 0 * width ≡ 0 = grind arith in ap (λ k. take width (drop k numbers)) none

  pub next_row : (numbers : List ℕ) (n : ℕ) → row_at width (drop width numbers) n ≡ row_at width numbers (suc n)
  next_row numbers n = let more : width + n * width ≡ suc n * width = grind arith in ap (take width) (drop-drop (n * width) width numbers ∙ ap (λ k. drop k numbers) more)

  shorter : (numbers : List ℕ) (count : ℕ) → length numbers ≡ suc count * width → (width ≤ length numbers) × (length (drop width numbers) ≡ count * width)
  shorter numbers count long =
      let more : suc count * width ≡ width + count * width = grind arith in
      (omega (arith, long, more), omega (arith, long, more, length-drop width numbers))

  -- a row of the first ones stays where rows are appended
  old_row : (numbers row : List ℕ) (count n : ℕ) → length numbers ≡ count * width → n < count → row_at width (numbers ++ row) n ≡ row_at width numbers n
  old_row numbers row zero n long lt = absurd (omega (arith, lt))
  old_row numbers row (suc count) zero long lt =
      first_row (numbers ++ row) ∙ take-append-le width numbers row (shorter numbers count long).0 ∙ sym (first_row numbers)
  old_row numbers row (suc count) (suc n) long lt =
      let s = shorter numbers count long in
      sym (next_row (numbers ++ row) n) ∙ ap (λ l. row_at width l n) (drop-append-le width numbers row s.0) ∙ old_row (drop width numbers) row count n s.1 (omega (arith, lt)) ∙ next_row numbers n

  last_row : (numbers row : List ℕ) (count : ℕ) → length numbers ≡ count * width → length row ≡ width → row_at width (numbers ++ row) count ≡ row
  last_row numbers row count long wide = ap (take width) (drop_at numbers row (count * width) long) ∙ take_all width row (omega (arith, wide))

  -- ---- one row more

  pub more_hashed : (numbers row : List ℕ) (count : ℕ) (hashes : List ℕ) (hash : ℕ) → length numbers ≡ count * width → length row ≡ width → hash ≡ hash_of (λ (k : ℕ). k) row → AreRowHashes width numbers count hashes → AreRowHashes width (numbers ++ row) (count + 1) (hashes ++ hash ∷ [])
  more_hashed numbers row count hashes hash long wide is h =
      record { long = length-append hashes (hash ∷ []) ∙ ap (λ n. n + 1) h.long; each = λ n lt. by n (cases_lt n count) lt }
    where
      by : (n : ℕ) → (n < count) ⊎ (count ≤ n) → n < count + 1 → slice_index_or (hashes ++ hash ∷ []) n 0 ≡ hash_of (λ (k : ℕ). k) (row_at width (numbers ++ row) n)
      by n (inl below) lt = get_or_append_left hashes (hash ∷ []) 0 n (omega (arith, below, h.long)) ∙ h.each n below ∙ ap (hash_of (λ (k : ℕ). k)) (sym (old_row numbers row count n long below))
      by n (inr above) lt =
          let at : n ≡ length hashes = omega (arith, above, lt, h.long) in
          ap (λ k. slice_index_or (hashes ++ hash ∷ []) k 0) at ∙ get_or-append_seam hashes hash [] 0 ∙ is
          ∙ ap (hash_of (λ (k : ℕ). k)) (sym (last_row numbers row count long wide) ∙ ap (row_at width (numbers ++ row)) (sym (at ∙ h.long)))

  pub more_different : (numbers row : List ℕ) (count : ℕ) → length numbers ≡ count * width → length row ≡ width → ((n : ℕ) → n < count → row_at width numbers n ≡ row → ⊥) → AreDifferentRows width numbers count → AreDifferentRows width (numbers ++ row) (count + 1)
  more_different numbers row count long wide new h m n mlt nlt e = by (cases_lt m count) (cases_lt n count)
    where
      by : (m < count) ⊎ (count ≤ m) → (n < count) ⊎ (count ≤ n) → m ≡ n
      by (inl a) (inl b) = h m n a b (sym (old_row numbers row count m long a) ∙ e ∙ old_row numbers row count n long b)
      by (inl a) (inr b) = let at : n ≡ count = omega (arith, b, nlt) in absurd (new m a (sym (old_row numbers row count m long a) ∙ e ∙ ap (row_at width (numbers ++ row)) at ∙ last_row numbers row count long wide))
      by (inr a) (inl b) = let at : m ≡ count = omega (arith, a, mlt) in absurd (new n b (sym (old_row numbers row count n long b) ∙ sym e ∙ ap (row_at width (numbers ++ row)) at ∙ last_row numbers row count long wide))
      by (inr a) (inr b) = omega (arith, a, b, mlt, nlt)

  pub more_long : (numbers row : List ℕ) (xs : List code.Prefixes) (x : code.Prefixes) → length numbers ≡ length xs * width → length row ≡ width → length (numbers ++ row) ≡ length (xs ++ x ∷ []) * width
  more_long numbers row xs x long wide =
      let more : (length xs + 1) * width ≡ length xs * width + width = grind arith in
      let size : length (xs ++ x ∷ []) * width ≡ (length xs + 1) * width = ap (λ n. n * width) (length-append xs (x ∷ [])) in
      omega (arith, more, size, length-append numbers row, long, wide)

  rows_more : (numbers row : List ℕ) (xs : List code.Prefixes) (x : code.Prefixes) → length numbers ≡ length xs * width → length row ≡ width → rows_with width (numbers ++ row) (xs ++ x ∷ []) ≡ rows_with width numbers xs ++ (row, x) ∷ []
  rows_more [] row [] x long wide = ap (λ l. (l, x) ∷ []) (take_all width row (omega (arith, wide)))
  rows_more (k ∷ numbers) row [] x long wide = absurd (let none : 0 * width ≡ 0 = grind arith in omega (arith, long, none))
  rows_more numbers row (y ∷ xs) x long wide =
      let s = shorter numbers (length xs) long in
      ap (λ l. (l, y) ∷ rows_with width (drop width (numbers ++ row)) (xs ++ x ∷ [])) (take-append-le width numbers row s.0)
      ∙ ap (λ l. (take width numbers, y) ∷ rows_with width l (xs ++ x ∷ [])) (drop-append-le width numbers row s.0)
      ∙ ap (λ l. (take width numbers, y) ∷ l) (rows_more (drop width numbers) row xs x s.1 wide)

  absent_lead : (numbers row : List ℕ) (xs : List code.Prefixes) (x : code.Prefixes) → ((n : ℕ) → n < length xs → row_at width numbers n ≡ row → ⊥) → with_lead Same (map keyed (rows_with width numbers xs)) (low row x) ≡ map keyed (rows_with width numbers xs ++ (row, x) ∷ [])
  absent_lead numbers row [] x new = refl
  absent_lead numbers row (y ∷ xs) x new =
      let no : Same (take width numbers) row ≡ false = apart (take width numbers) row (λ e. new 0 (omega arith) (first_row numbers ∙ e)) in
      let rest : List (Lead (List ℕ)) = map keyed (rows_with width (drop width numbers) xs) in
      ap (λ (b : Bool). if b then merged_lead (low (take width numbers) y) (low row x) ∷ rest else low (take width numbers) y ∷ with_lead Same rest (low row x)) no
      ∙ ap (λ l. low (take width numbers) y ∷ l) (absent_lead (drop width numbers) row xs x (λ n lt e. new (suc n) (omega (arith, lt)) (sym (next_row numbers n) ∙ e)))

  -- a new row
  pub row_added : (numbers row : List ℕ) (xs : List code.Prefixes) (x : code.Prefixes) → length numbers ≡ length xs * width → length row ≡ width → ((n : ℕ) → n < length xs → row_at width numbers n ≡ row → ⊥) →
      map keyed (rows_with width (numbers ++ row) (xs ++ x ∷ [])) ≡ with_lead Same (map keyed (rows_with width numbers xs)) (low row x)
  row_added numbers row xs x long wide new = ap (map keyed) (rows_more numbers row xs x long wide) ∙ sym (absent_lead numbers row xs x new)

  -- ---- more words lead to a row

  rest_different : (numbers : List ℕ) (count : ℕ) → AreDifferentRows width numbers (suc count) → AreDifferentRows width (drop width numbers) count
  rest_different numbers count h m n a b e =
      let same : suc m ≡ suc n = h (suc m) (suc n) (omega (arith, a)) (omega (arith, b)) (sym (next_row numbers m) ∙ e ∙ next_row numbers n) in
      omega (arith, same)

  known_row : (numbers row : List ℕ) (y x v : code.Prefixes) (rest : List (Lead (List ℕ))) → row ≡ take width numbers → Adds y x v → low (take width numbers) v ∷ rest ≡ with_lead Same (low (take width numbers) y ∷ rest) (low row x)
  known_row numbers row y x v rest is adds =
      let yes : Same (take width numbers) row ≡ true = ap (Same (take width numbers)) is ∙ nat_list_eq_equiv.refl (take width numbers) in
      ap (λ c. scored c v.first.items ∷ rest) adds.0 ∙ ap (λ w. scored (y.count + x.count) w ∷ rest) adds.1
      ∙ sym (ap (λ (b : Bool). if b then merged_lead (low (take width numbers) y) (low row x) ∷ rest else low (take width numbers) y ∷ with_lead Same rest (low row x)) yes)
    where
      scored : ℕ → List ℕ → Lead (List ℕ)
      scored count word = record { state = take width numbers; first = word; count = count }

  pub row_merged : (numbers row : List ℕ) (xs : List code.Prefixes) (n : ℕ) (d x v : code.Prefixes) → n < length xs → row ≡ row_at width numbers n → AreDifferentRows width numbers (length xs) → Adds (slice_index_or xs n d) x v →
      map keyed (rows_with width numbers (slice_set xs n v)) ≡ with_lead Same (map keyed (rows_with width numbers xs)) (low row x)
  row_merged numbers row [] n d x v lt is different adds = absurd (omega (arith, lt))
  row_merged numbers row (y ∷ xs) zero d x v lt is different adds = known_row numbers row y x v (map keyed (rows_with width (drop width numbers) xs)) (is ∙ first_row numbers) adds
  row_merged numbers row (y ∷ xs) (suc n) d x v lt is different adds =
      let rest : List (Lead (List ℕ)) = map keyed (rows_with width (drop width numbers) xs) in
      let below : n < length xs = omega (arith, lt) in
      let no : Same (take width numbers) row ≡ false = apart (take width numbers) row (λ e. zero_no (different 0 (suc n) (omega arith) lt (first_row numbers ∙ e ∙ is))) in
      ap (λ l. low (take width numbers) y ∷ l) (row_merged (drop width numbers) row xs n d x v below (is ∙ sym (next_row numbers n)) (rest_different numbers (length xs) different) adds)
      ∙ sym (ap (λ (b : Bool). if b then merged_lead (low (take width numbers) y) (low row x) ∷ rest else low (take width numbers) y ∷ with_lead Same rest (low row x)) no)
    where
      zero_no : 0 ≡ suc n → ⊥
      zero_no e = omega (arith, e)

  -- what is known of a row is no more than all
  pub words_within : (numbers : List ℕ) (xs : List code.Prefixes) (n : ℕ) (d : code.Prefixes) → n < length xs → (slice_index_or xs n d).count ≤ words_of (map keyed (rows_with width numbers xs))
  words_within numbers [] n d lt = absurd (omega (arith, lt))
  words_within numbers (y ∷ xs) zero d lt = omega arith
  words_within numbers (y ∷ xs) (suc n) d lt = let rest = words_within (drop width numbers) xs n d (omega (arith, lt)) in omega (arith, rest)

  -- ---- a layer, row by row

  pub rows_length : (numbers : List ℕ) (xs : List code.Prefixes) → length (rows_with width numbers xs) ≡ length xs
  rows_length numbers [] = refl
  rows_length numbers (x ∷ xs) = ap suc (rows_length (drop width numbers) xs)

  rows_at : (numbers : List ℕ) (xs : List code.Prefixes) (n : ℕ) (d : code.Prefixes) → n < length xs → drop n (rows_with width numbers xs) ≡ (row_at width numbers n, slice_index_or xs n d) ∷ drop (suc n) (rows_with width numbers xs)
  rows_at numbers [] n d lt = absurd (omega (arith, lt))
  rows_at numbers (x ∷ xs) zero d lt = ap (λ l. (l, x) ∷ rows_with width (drop width numbers) xs) (sym (first_row numbers))
  rows_at numbers (x ∷ xs) (suc n) d lt =
      rows_at (drop width numbers) xs n d (omega (arith, lt)) ∙ ap (λ l. (l, slice_index_or xs n d) ∷ drop (suc n) (rows_with width (drop width numbers) xs)) (next_row numbers n)

  -- from a number on, its row comes first
  pub rows_from : (numbers : List ℕ) (xs : List code.Prefixes) (n : ℕ) (d : code.Prefixes) → n < length xs → drop n (rows_with width numbers xs) ≡ (row_at width numbers n, slice_index_or xs n d) ∷ drop (n + 1) (rows_with width numbers xs)
  rows_from numbers xs n d lt =
      let one : suc n ≡ n + 1 = omega arith in
      rows_at numbers xs n d lt ∙ ap (λ k. (row_at width numbers n, slice_index_or xs n d) ∷ drop k (rows_with width numbers xs)) one

  pub rows_end : (numbers : List ℕ) (xs : List code.Prefixes) (n : ℕ) → length xs ≤ n → drop n (rows_with width numbers xs) ≡ []
  rows_end numbers xs n le = drop_all n (rows_with width numbers xs) (omega (arith, le, rows_length numbers xs))

-- the row of a number comes first of those that are left
pub left_from : (layer : StateLayer) (k : ℕ) (row : List ℕ) (x : code.Prefixes) → k < length layer.leads.items → row ≡ row_at layer.width layer.numbers.items k → x ≡ slice_index_or layer.leads.items k x → drop k (rows_of layer) ≡ (row, x) ∷ drop (k + 1) (rows_of layer)
left_from layer k row x lt is at =
    rows_from layer.width layer.numbers.items layer.leads.items k x lt
    ∙ ap (λ l. (l, slice_index_or layer.leads.items k x) ∷ drop (k + 1) (rows_of layer)) (sym is)
    ∙ ap (λ (y : code.Prefixes). (row, y) ∷ drop (k + 1) (rows_of layer)) (sym at)
