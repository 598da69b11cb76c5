-- Texts of the elements of a list, and rows of a table: the first of those that are left, and none.
use Rattle.std.proofs.Common.{◌≡◌, ◌∙◌, ℕ, suc, ◌+◌, ◌<◌, ◌≤◌, List, [], ◌∷◌, ◌++◌, length, get_or, map, take, drop, refl, sym, ap, codes, add-one, append_assoc, arith, Option, Some, Result, OnOk}
use Rattle.std.proofs.Math.Seq.{drop-cons}
use Rattle.std.proofs.lemmas.Result.{on_ok_weaker}
use Rattle.std.proofs.lemmas.List.{drop_all, append-nil, drop-map, get_or_default, map-append, take-map}
use Rattle.std.specs.Prelude.{true, Bool, ◌&&◌, decimal, nat_lt, max, slice_get, slice_index_or}
use Rattle.std.specs.String.{string_bytes}
use Rattle.std.proofs.Math.Nat.{max-zero}
use Rattle.std.specs.declared.alloc.Global.{Global}
use Rattle.std.specs.declared.string.String.{String}
use Rattle.cp_legend.specs.Names.{Legend, at_each}
use Rattle.cp_run.specs.Table.{each}
use Rattle.cp_story.specs.Columns.{Row, row_seen, width_of, width, widths, gap, cell_text, left_before, cells_text, row_text, rows_text}
use Rattle.cp_story.specs.Joined.{joined}
use Rattle.cp_story.specs.Sentences.{alternatives_from, sign_before}
use Rattle.cp_story.specs.Text.{are_digits, event_row, event_rows, number_text}
use Rattle.cp_story.specs.declared.event.StoryEvent.{StoryEvent}
use Rattle.cp_story.specs.declared.tables.TableRow.{TableRow}

-- ---- the first of those that are left

next : {A : Type 0} (xs : List A) (i : ℕ) (x : A) → i < length xs → drop i xs ≡ get_or xs i x ∷ drop (i + 1) xs
next xs i x within = rw add-one (drop-cons xs i x within)

-- ---- texts one after the other, behind what is written now

one_more : (now t r : List ℕ) → now ++ (t ++ r) ≡ (now ++ t) ++ r
one_more now t r = sym (append_assoc now t r)

two_more : (now b t r : List ℕ) → now ++ ((b ++ t) ++ r) ≡ ((now ++ b) ++ t) ++ r
two_more now b t r = simp append_assoc

module _ {A B : Type 0} (f : B → List ℕ) (h : A → B) (xs : List A) (i : ℕ) (now : List ℕ) where
  pub each_step : (x : A) → i < length xs → x ≡ get_or xs i x → now ++ each f (map h (drop i xs)) ≡ (now ++ f (h x)) ++ each f (map h (drop (i + 1) xs))
  each_step x within here = rw (add-one, drop-cons xs i x within, ← here) (one_more now (f (h x)) (each f (map h (drop (suc i) xs))))

  pub each_none : length xs ≤ i → now ++ each f (map h (drop i xs)) ≡ now
  each_none none = rw (drop_all i xs none) (append-nil now)

  pub joined_step : (before between : List ℕ) (x : A) → i < length xs → x ≡ get_or xs i x → now ++ joined before between f (map h (drop i xs)) ≡ ((now ++ before) ++ f (h x)) ++ joined between between f (map h (drop (i + 1) xs))
  joined_step before between x within here = rw (add-one, drop-cons xs i x within, ← here) (two_more now before (f (h x)) (joined between between f (map h (drop (suc i) xs))))

  pub joined_none : (before between : List ℕ) → length xs ≤ i → now ++ joined before between f (map h (drop i xs)) ≡ now
  joined_none before between none = rw (drop_all i xs none) (append-nil now)

module _ {A : Type 0} (f : A → List ℕ) (xs : List A) (i : ℕ) (now : List ℕ) where
  pub each_item_step : (x : A) → i < length xs → x ≡ get_or xs i x → now ++ each f (drop i xs) ≡ (now ++ f x) ++ each f (drop (i + 1) xs)
  each_item_step x within here = rw (add-one, drop-cons xs i x within, ← here) (one_more now (f x) (each f (drop (suc i) xs)))

  pub each_item_none : length xs ≤ i → now ++ each f (drop i xs) ≡ now
  each_item_none none = rw (drop_all i xs none) (append-nil now)

  pub joined_item_step : (before between : List ℕ) (x : A) → i < length xs → x ≡ get_or xs i x → now ++ joined before between f (drop i xs) ≡ ((now ++ before) ++ f x) ++ joined between between f (drop (i + 1) xs)
  joined_item_step before between x within here = rw (add-one, drop-cons xs i x within, ← here) (two_more now before (f x) (joined between between f (drop (suc i) xs)))

  -- with the element as a read gives it
  pub joined_element_step : (before between : List ℕ) (d : A) → i < length xs → now ++ joined before between f (drop i xs) ≡ ((now ++ before) ++ f (get_or xs i d)) ++ joined between between f (drop (i + 1) xs)
  joined_element_step before between d within = joined_item_step before between (get_or xs i d) within (get_or_default xs i d (get_or xs i d) within)

  pub joined_item_none : (before between : List ℕ) → length xs ≤ i → now ++ joined before between f (drop i xs) ≡ now
  joined_item_none before between none = rw (drop_all i xs none) (append-nil now)

-- ---- numbers

module _ (f : ℕ → List ℕ) (ns : List ℕ) (i : ℕ) (now : List ℕ) where
  pub each_number_step : i < length ns → now ++ each f (drop i ns) ≡ (now ++ f (get_or ns i 0)) ++ each f (drop (i + 1) ns)
  each_number_step within = rw (add-one, drop-cons ns i 0 within) (one_more now (f (get_or ns i 0)) (each f (drop (suc i) ns)))

  pub each_number_none : length ns ≤ i → now ++ each f (drop i ns) ≡ now
  each_number_none none = rw (drop_all i ns none) (append-nil now)

  pub numbers_step : (before between : List ℕ) → i < length ns → now ++ joined before between f (drop i ns) ≡ ((now ++ before) ++ f (get_or ns i 0)) ++ joined between between f (drop (i + 1) ns)
  numbers_step before between within = rw (add-one, drop-cons ns i 0 within) (two_more now before (f (get_or ns i 0)) (joined between between f (drop (suc i) ns)))

  pub numbers_none : (before between : List ℕ) → length ns ≤ i → now ++ joined before between f (drop i ns) ≡ now
  numbers_none before between none = rw (drop_all i ns none) (append-nil now)

module _ (ns : List ℕ) (i last : ℕ) (now : List ℕ) where
  pub alternatives_step : i < length ns → now ++ alternatives_from i last (drop i ns) ≡ ((now ++ sign_before i last) ++ decimal (get_or ns i 0)) ++ alternatives_from (i + 1) last (drop (i + 1) ns)
  alternatives_step within = rw (next ns i 0 within) (two_more now (sign_before i last) (decimal (get_or ns i 0)) (alternatives_from (i + 1) last (drop (i + 1) ns)))

  pub alternatives_none : length ns ≤ i → now ++ alternatives_from i last (drop i ns) ≡ now
  alternatives_none none = rw (drop_all i ns none) (append-nil now)

module _ (ns : List ℕ) (i : ℕ) where
  pub digits_front : i < length ns → are_digits (drop i ns) ≡ (nat_lt (get_or ns i 0) 10 && are_digits (drop (i + 1) ns))
  digits_front within = rw (add-one, drop-cons ns i 0 within) refl

  pub digits_none : length ns ≤ i → are_digits (drop i ns) ≡ true
  digits_none none = rw (drop_all i ns none) refl

-- ---- rows

module _ {A B : Type 0} (f : A → B) (xs : List A) (i : ℕ) (now : List B) where
  pub map_step : (x : A) → i < length xs → x ≡ get_or xs i x → now ++ map f (drop i xs) ≡ (now ++ f x ∷ []) ++ map f (drop (i + 1) xs)
  map_step x within here = rw (add-one, drop-cons xs i x within, ← here) (sym (append_assoc now (f x ∷ []) (map f (drop (suc i) xs))))

  pub map_none : length xs ≤ i → now ++ map f (drop i xs) ≡ now
  map_none none = rw (drop_all i xs none) (append-nil now)

module _ (l : Legend) (named : Bool) (xs : List StoryEvent) (i : ℕ) (now : List Row) where
  pub events_step : (x : StoryEvent) → i < length xs → x ≡ get_or xs i x → now ++ event_rows l named (i + 1) (drop i xs) ≡ (now ++ (number_text named (i + 1) ∷ event_row l x) ∷ []) ++ event_rows l named ((i + 1) + 1) (drop (i + 1) xs)
  events_step x within here = rw (next xs i x within, ← here) (sym (append_assoc now ((number_text named (i + 1) ∷ event_row l x) ∷ []) (event_rows l named ((i + 1) + 1) (drop (i + 1) xs))))

  pub events_none : length xs ≤ i → now ++ event_rows l named (i + 1) (drop i xs) ≡ now
  events_none none = rw (drop_all i xs none) (append-nil now)

pub row_more : (rows : List TableRow) (r : TableRow) → map row_seen (rows ++ r ∷ []) ≡ map row_seen rows ++ row_seen r ∷ []
row_more rows r = map-append row_seen rows (r ∷ [])

pub none_left : {A : Type 0} (xs : List A) (n : ℕ) → length xs ≤ n → drop n xs ≡ []
none_left xs n none = drop_all n xs none

-- the rows before a heading and those below it
pub rows_again : {E : Type 0} (r : Result (Unit {0}) E) (rows front rest : List TableRow) (ws vs : List ℕ) (again : Option ℕ) (first : ℕ) (old one two new : List ℕ) → again ≡ Some first → ws ≡ widths (map row_seen rows) → vs ≡ widths (map row_seen rows) → front ≡ take first rows → rest ≡ drop first rows → one ≡ old ++ each (row_text ws) (map row_seen front) → two ≡ one ++ codes "again and again:\n" → OnOk r (new ≡ two ++ each (row_text vs) (map row_seen rest)) → OnOk r (new ≡ old ++ rows_text again (map row_seen rows))
rows_again r rows front rest ws vs again first old one two new is wide still before from begun headed told =
    let w = widths (map row_seen rows) in
    let above = each (row_text w) (take first (map row_seen rows)) in
    let heading = codes "again and again:\n" in
    let below = each (row_text w) (drop first (map row_seen rows)) in
    let first_rows : each (row_text ws) (map row_seen front) ≡ above = ap (λ (n : List ℕ). each (row_text n) (map row_seen front)) wide ∙ ap (λ (xs : List TableRow). each (row_text w) (map row_seen xs)) before ∙ ap (each (row_text w)) (sym (take-map row_seen first rows)) in
    let last_rows : each (row_text vs) (map row_seen rest) ≡ below = ap (λ (n : List ℕ). each (row_text n) (map row_seen rest)) still ∙ ap (λ (xs : List TableRow). each (row_text w) (map row_seen xs)) from ∙ ap (each (row_text w)) (sym (drop-map row_seen first rows)) in
    let top : two ≡ old ++ above ++ heading = headed ∙ ap (λ (t : List ℕ). t ++ heading) (begun ∙ ap (λ (t : List ℕ). old ++ t) first_rows) in
    let joined : (old ++ above ++ heading) ++ below ≡ old ++ (above ++ heading ++ below) = simp append_assoc in
    on_ok_weaker r (λ e. e ∙ ap (λ (t : List ℕ). two ++ t) last_rows ∙ ap (λ (t : List ℕ). t ++ below) top ∙ joined ∙ ap (λ (a : Option ℕ). old ++ rows_text a (map row_seen rows)) (sym is)) told

-- ---- cells

module _ (ws : List ℕ) (xs : List (String Global)) (i : ℕ) (now before : List ℕ) where
  pub cells_step : (x : String Global) → i < length xs → x ≡ get_or xs i x → now ++ cells_text ws i before (map string_bytes (drop i xs)) ≡ (now ++ cell_text before (string_bytes x)) ++ cells_text ws (i + 1) (left_before before (string_bytes x) ++ gap (slice_index_or ws i 0) (string_bytes x)) (map string_bytes (drop (i + 1) xs))
  cells_step x within here = rw (next xs i x within, ← here) (one_more now (cell_text before (string_bytes x)) (cells_text ws (i + 1) (left_before before (string_bytes x) ++ gap (slice_index_or ws i 0) (string_bytes x)) (map string_bytes (drop (i + 1) xs))))

  pub cells_none : length xs ≤ i → now ++ cells_text ws i before (map string_bytes (drop i xs)) ≡ now
  cells_none none = rw (drop_all i xs none) (append-nil now)

-- ---- widths

module _ (f : ℕ → ℕ) where
  pub each_number : (n : ℕ) → at_each f (n + 1) ≡ at_each f n ++ f n ∷ []
  unfolding at_each
  each_number n = rw add-one refl

  pub no_number : at_each f 0 ≡ []
  unfolding at_each
  no_number = refl

wider_of : (a b c : ℕ) → max a (max b c) ≡ max (max a b) c
wider_of a b c = omega arith

module _ (xs : List TableRow) (i n widest : ℕ) where
  pub wider : (x : TableRow) → i < length xs → x ≡ get_or xs i x → max widest (width (map row_seen (drop i xs)) n) ≡ max (max widest (width_of (slice_get (row_seen x) n))) (width (map row_seen (drop (i + 1) xs)) n)
  wider x within here = rw (next xs i x within, ← here) (wider_of widest (width_of (slice_get (row_seen x) n)) (width (map row_seen (drop (i + 1) xs)) n))

  pub widest_is : length xs ≤ i → max widest (width (map row_seen (drop i xs)) n) ≡ widest
  widest_is none = rw (drop_all i xs none) (max-zero widest)
