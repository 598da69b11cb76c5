-- The rows of all members are the table.
use Rattle.std.proofs.Common.{◌≡◌, ℕ, zero, suc, ◌+◌, ◌≤◌, List, [], ◌∷◌, ◌++◌, length, map, take, flat_map, ◌<◌, get_or, Some, slice_get, refl, sym, ap, ◌∙◌, arith}
use Rattle.cp_walk.proofs.Words.{range_with_len, take_all, map-append, length-map, ArrayVec, Tables, Limits, slots, Line, each, table, Row, rows_behind}
use Rattle.cp_walk.proofs.Words.{line_of, table_of}
use Rattle.cp_walk.specs.Members.{words_of, row_of, lines_behind, member_rows, CutsTable}

back : (rows : List Row) → rows ≡ map row_of (map line_of rows)
back [] = refl
back (r ∷ rs) = ap (λ k. r ∷ k) (back rs)

-- rows are seen through their lines without a loss
pub rows_back : (rows : List Row) (lines : List Line) → map line_of rows ≡ lines → rows ≡ map row_of lines
rows_back rows lines e = back rows ∙ ap (map row_of) e

lines_back : (lines : List Line) → map line_of (map row_of lines) ≡ lines
lines_back [] = refl
lines_back (l ∷ ls) = ap (λ k. l ∷ k) (lines_back ls)

pub taken_whole : (rows : List Row) (lines : List Line) → map line_of rows ≡ lines → length rows ≤ 50000 → rows ≡ take 50001 (map row_of lines)
taken_whole rows lines e few =
    rows_back rows lines e ∙ sym (take_all 50001 (map row_of lines) (let same = ap length (rows_back rows lines e) in omega (arith, same, few)))

flat_shift : (g : ℕ → List Row) (a n : ℕ) → flat_map g (range_with_len (a + 1) n) ≡ flat_map (λ i. g (i + 1)) (range_with_len a n)
flat_shift g a zero = refl
flat_shift g a (suc n) = ap (λ l. g (a + 1) ++ l) (flat_shift g (a + 1) n)

flat_same : (f g : ℕ → List Row) (a n : ℕ) → ((i : ℕ) → f i ≡ g i) → flat_map f (range_with_len a n) ≡ flat_map g (range_with_len a n)
flat_same f g a zero h = refl
flat_same f g a (suc n) h = ap (λ l. l ++ flat_map f (range_with_len (a + 1) n)) (h a) ∙ ap (λ l. g a ++ l) (flat_same f g (a + 1) n h)

get_next : {A : Type 0} (x : A) (xs : List A) (i : ℕ) → slice_get (x ∷ xs) (i + 1) ≡ slice_get xs i
get_next x xs i = let e : i + 1 ≡ suc i = omega arith in ap (slice_get (x ∷ xs)) e

-- the rows of the members, one after the other
members_lines : (r : Tables) (l : Limits) (words : List (ArrayVec ℕ)) → map line_of (table_of (member_rows r l words) (length words)) ≡ each (rows_behind (slots r l.discipline) l.choices l.steps) (words_of words)
members_lines r l [] = refl
members_lines r l (w ∷ words) =
    let here = rows_behind (slots r l.discipline) l.choices l.steps w.items in
    let shifted : flat_map (member_rows r l (w ∷ words)) (range_with_len (0 + 1) (length words)) ≡ flat_map (member_rows r l words) (range_with_len 0 (length words)) =
    flat_shift (member_rows r l (w ∷ words)) 0 (length words) ∙ flat_same (λ i. member_rows r l (w ∷ words) (i + 1)) (member_rows r l words) 0 (length words) (λ i. ap (λ o. map row_of (lines_behind r l o)) (get_next w words i)) in
    ap (λ k. map line_of (map row_of here ++ k)) shifted ∙ map-append line_of (map row_of here) (table_of (member_rows r l words) (length words)) ∙ ap (λ k. k ++ map line_of (table_of (member_rows r l words) (length words))) (lines_back here) ∙ ap (λ k. here ++ k) (members_lines r l words)

pub members_table : (r : Tables) (l : Limits) (words : List (ArrayVec ℕ)) (n : ℕ) (rows : List Row) → CutsTable r l words → n ≡ length words → rows ≡ table_of (member_rows r l words) n → map line_of rows ≡ table (slots r l.discipline) l.choices l.steps
members_table r l words n rows cuts e is = ap (map line_of) (is ∙ ap (table_of (member_rows r l words)) e) ∙ members_lines r l words ∙ cuts.parts.rows

pub members_length : (r : Tables) (l : Limits) (words : List (ArrayVec ℕ)) (n : ℕ) → CutsTable r l words → n ≡ length words → length (table_of (member_rows r l words) n) ≡ length (table (slots r l.discipline) l.choices l.steps)
members_length r l words n cuts e = sym (length-map (table_of (member_rows r l words) n) line_of) ∙ ap length (members_table r l words n (table_of (member_rows r l words) n) cuts e refl)

pub get_at : {A : Type 0} (xs : List A) (i : ℕ) (d : A) → i < length xs → slice_get xs i ≡ Some (get_or xs i d)
get_at [] i d lt = absurd (omega (arith, lt))
get_at (x ∷ xs) zero d lt = refl
get_at (x ∷ xs) (suc i) d lt = get_at xs i d (omega (arith, lt))
