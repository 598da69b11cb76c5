-- The outcomes of rows with their counts, row by row.
use Rattle.std.proofs.Common.{◌≡◌, ◌∙◌, ℕ, ◌+◌, ◌≤◌, Bool, true, false, cond, if◌then◌else◌, ◌||◌, List, [], ◌∷◌, ◌++◌, length, map, Option, None, Some, refl, sym, ap, arith, subst, take, get_or, unwrap_or, ◌<◌}
use Rattle.std.specs.Prelude.{IfSome, option_map, nat_eq}
use Rattle.std.specs.Borrow.{Bor}
use Rattle.cp_walk.proofs.Words.{list_any, pointwise, Line, each, Outcome, Row, line_of}
use Rattle.std.specs.Map.{lookup, values_of}
use Rattle.std.proofs.lemmas.Cmp.{nat_list_eq_equiv}
use Rattle.std.proofs.lemmas.List.{map-append, map_more, length-map, length-take-le}
use Rattle.std.proofs.lemmas.List.Folds.{list_any-append}
use Rattle.std.proofs.lemmas.List.Sums.{sum_by-append, count_by-le-length}
use Rattle.indexmap.specs.IndexMap.{insert_entry}
use Rattle.cp_walk.specs.Report.{outcome_numbers, same_outcome, outcomes_of, firsts, count_of, group_text, groups_text}
use Rattle.cp_walk.specs.Groups.{Tally, tally, tally_of, tallies_of, tally_with, tally_text}
use Rattle.cp_walk.specs.declared.groups.RowGroup.{RowGroup}
use Rattle.cp_walk.specs.declared.key.OutcomeKey.{OutcomeKey}
use Rattle.cp_walk.specs.Text.{Spellings}

abbrev numbers : Line → List ℕ
numbers l = outcome_numbers l.outcome

abbrev same : Line → Line → Bool
same a b = pointwise nat_eq (numbers a) (numbers b)

same_symm : (a b : Line) → same a b ≡ same b a
same_symm a b = nat_list_eq_equiv.symm (numbers a) (numbers b)

same_congr : (a b c : Line) → same a b ≡ true → same a c ≡ same b c
same_congr a b c h = nat_list_eq_equiv.congr (numbers a) (numbers b) (numbers c) h

either_first : (a b : Bool) → (a || b) ≡ false → a ≡ false
either_first true b h = h
either_first false b h = refl

either_second : (a b : Bool) → (a || b) ≡ false → b ≡ false
either_second true b h = absurd (cc)
either_second false b h = h

neither : (a b : Bool) → a ≡ false → b ≡ false → (a || b) ≡ false
neither true b h k = h
neither false b h k = k

-- whether one of these has the outcome of a line
abbrev any : List Line → Line → Bool
any found l = list_any (λ m. same m l) found

-- after one row more
abbrev found_after : List Line → Line → List Line
found_after found l = if any found l then found else found ++ l ∷ []

firsts_append : (found ls : List Line) (l : Line) → firsts found (ls ++ l ∷ []) ≡ found_after (firsts found ls) l
firsts_append found [] l = refl
firsts_append found (m ∷ ls) l = firsts_append (found_after found m) ls l

-- no two have one outcome
abbrev Apart : List Line → Type 0
Apart [] = Unit {0}
Apart (f ∷ fs) = (any fs f ≡ false) × Apart fs

apart_add : (found : List Line) (l : Line) → any found l ≡ false → Apart found → Apart (found ++ l ∷ [])
apart_add [] l h a = (refl, tt)
apart_add (f ∷ fs) l h a =
    (list_any-append (λ m. same m f) fs (l ∷ []) ∙ neither (any fs f) (same l f || false) a.0 (neither (same l f) false (same_symm l f ∙ either_first (same f l) (any fs l) h) refl), apart_add fs l (either_second (same f l) (any fs l) h) a.1)

apart_after : (found : List Line) (l : Line) (b : Bool) → any found l ≡ b → Apart found → Apart (if b then found else found ++ l ∷ [])
apart_after found l true h a = a
apart_after found l false h a = apart_add found l h a

apart_firsts : (lines found : List Line) → Apart found → Apart (firsts found lines)
apart_firsts [] found a = a
apart_firsts (l ∷ ls) found a = apart_firsts ls (found_after found l) (apart_after found l (any found l) refl a)

any_moves : (found : List Line) (x l : Line) → same x l ≡ true → any found x ≡ any found l
any_moves [] x l h = refl
any_moves (f ∷ fs) x l h =
    let e : same f x ≡ same f l = same_symm f x ∙ same_congr x l f h ∙ same_symm l f in
    ap (λ b. b || any fs x) e ∙ ap (λ b. same f l || b) (any_moves fs x l h)

count_more : (lines : List Line) (l f : Line) (b : Bool) → same l f ≡ b → count_of (lines ++ l ∷ []) f ≡ count_of lines f + (0 + cond b 1 0)
count_more lines l f b h = sum_by-append (λ x. cond (same x f) 1 0) lines (l ∷ []) ∙ ap (λ t. count_of lines f + (0 + cond t 1 0)) h

-- where no first row has the outcome of a line, no row has it
none_before : (lines found : List Line) (l : Line) → any (firsts found lines) l ≡ false → (any found l ≡ false) × (count_of lines l ≡ 0)
none_before [] found l h = (h, refl)
none_before (x ∷ xs) found l h =
    let rest = none_before xs (found_after found x) l h in
    by (any found x) refl rest.0 rest.1
  where
    by : (b : Bool) → any found x ≡ b → any (if b then found else found ++ x ∷ []) l ≡ false → count_of xs l ≡ 0 → (any found l ≡ false) × (count_of (x ∷ xs) l ≡ 0)
    by true e none few = (none, apart (same x l) refl)
      where
        apart : (b : Bool) → same x l ≡ b → count_of (x ∷ xs) l ≡ 0
        apart true s = absurd (let t : true ≡ false = sym e ∙ any_moves found x l s ∙ none in cc)
        apart false s = let d = sum_by-append (λ y. cond (same y l) 1 0) (x ∷ []) xs in let e = ap (λ b. count_of xs l + cond b 1 0) s in omega (arith, d, e, few)
    by false e none few =
        let both = sym (list_any-append (λ m. same m l) found (x ∷ [])) ∙ none in
        let s = either_first (same x l) false (either_second (any found l) (same x l || false) both) in
        let d = sum_by-append (λ y. cond (same y l) 1 0) (x ∷ []) xs in
        let e = ap (λ b. count_of xs l + cond b 1 0) s in
        (either_first (any found l) (same x l || false) both, omega (arith, d, e, few))

-- a line of another outcome changes no count
tally_same : (lines : List Line) (l : Line) (fs : List Line) → any fs l ≡ false → map (tally_of lines) fs ≡ map (tally_of (lines ++ l ∷ [])) fs
tally_same lines l [] h = refl
tally_same lines l (f ∷ fs) h =
    let e : count_of lines f ≡ count_of (lines ++ l ∷ []) f = (let more = count_more lines l f false (same_symm l f ∙ either_first (same f l) (any fs l) h) in omega (arith, more)) in
    ap (λ n. (numbers f, record { first = f; count = n }) ∷ map (tally_of lines) fs) e ∙ ap (λ ts. tally_of (lines ++ l ∷ []) f ∷ ts) (tally_same lines l fs (either_second (same f l) (any fs l) h))

put_at : (lines : List Line) (l f : Line) (fs : List Line) (v : Tally) (b : Bool) → same l f ≡ b → any fs f ≡ false → (same f l || any fs l) ≡ true → v ≡ tally_with (lookup (pointwise nat_eq (numbers l)) (map (tally_of lines) (f ∷ fs))) l → (any fs l ≡ true → v ≡ tally_with (lookup (pointwise nat_eq (numbers l)) (map (tally_of lines) fs)) l → insert_entry (pointwise nat_eq) (map (tally_of lines) fs) (numbers l) v ≡ map (tally_of (lines ++ l ∷ [])) fs) → insert_entry (pointwise nat_eq) (map (tally_of lines) (f ∷ fs)) (numbers l) v ≡ map (tally_of (lines ++ l ∷ [])) (f ∷ fs)
put_at lines l f fs v true s a h e deeper =
    let rest = map (tally_of lines) fs in
    let more = count_more lines l f true s in
    let is : v ≡ (tally_of (lines ++ l ∷ []) f).1 = e ∙ ap (λ b. tally_with (cond b (Some (tally_of lines f).1) (lookup (pointwise nat_eq (numbers l)) rest)) l) s ∙ ap (λ n. record { first = f; count = n }) (omega (arith, more)) in
    ap (λ b. if b then (numbers f, v) ∷ rest else tally_of lines f ∷ insert_entry (pointwise nat_eq) rest (numbers l) v) s ∙ ap (λ t. (numbers f, t) ∷ rest) is ∙ ap (λ ts. tally_of (lines ++ l ∷ []) f ∷ ts) (tally_same lines l fs (sym (any_moves fs f l (same_symm f l ∙ s)) ∙ a))
put_at lines l f fs v false s a h e deeper =
    let rest = map (tally_of lines) fs in
    let more = count_more lines l f false s in
    let there : any fs l ≡ true = ap (λ b. b || any fs l) (sym (same_symm f l ∙ s)) ∙ h in
    let behind = deeper there (e ∙ ap (λ b. tally_with (cond b (Some (tally_of lines f).1) (lookup (pointwise nat_eq (numbers l)) rest)) l) s) in
    ap (λ b. if b then (numbers f, v) ∷ rest else tally_of lines f ∷ insert_entry (pointwise nat_eq) rest (numbers l) v) s ∙ ap (λ ts. tally_of lines f ∷ ts) behind ∙ ap (λ n. (numbers f, record { first = f; count = n }) ∷ map (tally_of (lines ++ l ∷ [])) fs) (omega (arith, more))

-- a line of an outcome that was there
put_there : (lines : List Line) (l : Line) (fs : List Line) (v : Tally) → Apart fs → any fs l ≡ true → v ≡ tally_with (lookup (pointwise nat_eq (numbers l)) (map (tally_of lines) fs)) l → insert_entry (pointwise nat_eq) (map (tally_of lines) fs) (numbers l) v ≡ map (tally_of (lines ++ l ∷ [])) fs
put_there lines l [] v a h e = absurd (cc)
put_there lines l (f ∷ fs) v a h e = put_at lines l f fs v (same l f) refl a.0 h e (λ there is. put_there lines l fs v a.1 there is)

-- a line of a new outcome goes last
put_new : (lines : List Line) (l : Line) (fs : List Line) (v : Tally) → any fs l ≡ false → (insert_entry (pointwise nat_eq) (map (tally_of lines) fs) (numbers l) v ≡ map (tally_of lines) fs ++ (numbers l, v) ∷ []) × (lookup (pointwise nat_eq (numbers l)) (map (tally_of lines) fs) ≡ None)
put_new lines l [] v h = (refl, refl)
put_new lines l (f ∷ fs) v h =
    let rest = map (tally_of lines) fs in
    let s : same l f ≡ false = same_symm l f ∙ either_first (same f l) (any fs l) h in
    let deeper = put_new lines l fs v (either_second (same f l) (any fs l) h) in
    (ap (λ b. if b then (numbers f, v) ∷ rest else tally_of lines f ∷ insert_entry (pointwise nat_eq) rest (numbers l) v) s ∙ ap (λ ts. tally_of lines f ∷ ts) deeper.0, ap (λ b. cond b (Some (tally_of lines f).1) (lookup (pointwise nat_eq (numbers l)) rest)) s ∙ deeper.1)

-- one row more
pub tallies_more : (lines : List Line) (l : Line) (v : Tally) → v ≡ tally_with (lookup (pointwise nat_eq (numbers l)) (tallies_of lines)) l → insert_entry (pointwise nat_eq) (tallies_of lines) (numbers l) v ≡ tallies_of (lines ++ l ∷ [])
tallies_more lines l v e = by (any found l) refl
  where
    found : List Line
    found = firsts [] lines

    by : (b : Bool) → any found l ≡ b → insert_entry (pointwise nat_eq) (map (tally_of lines) found) (numbers l) v ≡ tallies_of (lines ++ l ∷ [])
    by true h = put_there lines l found v (apart_firsts lines [] tt) h e ∙ ap (map (tally_of (lines ++ l ∷ []))) (sym (firsts_append [] lines l ∙ ap (λ b. if b then found else found ++ l ∷ []) h))
    by false h =
        let new = put_new lines l found v h in
        let more = count_more lines l l true (nat_list_eq_equiv.refl (numbers l)) in
        let none = (none_before lines [] l h).1 in
        let is : v ≡ (tally_of (lines ++ l ∷ []) l).1 = e ∙ ap (λ o. tally_with o l) new.1 ∙ ap (λ n. record { first = l; count = n }) (omega (arith, more, none)) in
        new.0 ∙ ap (λ t. map (tally_of lines) found ++ (numbers l, t) ∷ []) is ∙ ap (λ ts. ts ++ tally_of (lines ++ l ∷ []) l ∷ []) (tally_same lines l found h) ∙ sym (map-append (tally_of (lines ++ l ∷ [])) found (l ∷ [])) ∙ ap (map (tally_of (lines ++ l ∷ []))) (sym (firsts_append [] lines l ∙ ap (λ b. if b then found else found ++ l ∷ []) h))

few_at : (n : ℕ) (b : Bool) (t : Tally) (o : Option Tally) → t.count ≤ n → IfSome o (λ u. u.count ≤ n) → IfSome (cond b (Some t) o) (λ u. u.count ≤ n)
few_at n true t o h k = h
few_at n false t o h k = k

few_of : (lines : List Line) (fs : List Line) (q : List ℕ) → IfSome (lookup (pointwise nat_eq q) (map (tally_of lines) fs)) (λ t. t.count ≤ length lines)
few_of lines [] q = tt
few_of lines (f ∷ fs) q = few_at (length lines) (pointwise nat_eq q (numbers f)) (tally_of lines f).1 (lookup (pointwise nat_eq q) (map (tally_of lines) fs)) (count_by-le-length (λ x. same x f) lines) (few_of lines fs q)

-- no count is above the number of rows
pub few_counted : (lines : List Line) (q : List ℕ) → IfSome (lookup (pointwise nat_eq q) (tallies_of lines)) (λ t. t.count ≤ length lines)
few_counted lines q = few_of lines (firsts [] lines) q

-- an entry of the code's map: the numbers of its outcome, its first row, and its count
abbrev pub held : OutcomeKey × RowGroup → List ℕ × Tally
held e = (outcome_numbers e.0.row.now.outcome, tally e.1)

held_insert : (es : List (OutcomeKey × RowGroup)) (k : OutcomeKey) (g : RowGroup) → map held (insert_entry (λ x y. same_outcome x.row.now.outcome y.row.now.outcome) es k g) ≡ insert_entry (pointwise nat_eq) (map held es) (outcome_numbers k.row.now.outcome) (tally g)
held_insert [] k g = refl
held_insert (e ∷ es) k g = by (same_outcome k.row.now.outcome e.0.row.now.outcome) (held_insert es k g)
  where
    by : (b : Bool) → map held (insert_entry (λ x y. same_outcome x.row.now.outcome y.row.now.outcome) es k g) ≡ insert_entry (pointwise nat_eq) (map held es) (outcome_numbers k.row.now.outcome) (tally g) → map held (if b then (e.0, g) ∷ es else e ∷ insert_entry (λ x y. same_outcome x.row.now.outcome y.row.now.outcome) es k g) ≡ (if b then (outcome_numbers e.0.row.now.outcome, tally g) ∷ map held es else held e ∷ insert_entry (pointwise nat_eq) (map held es) (outcome_numbers k.row.now.outcome) (tally g))
    by true h = refl
    by false h = ap (λ ts. held e ∷ ts) h

held_lookup : (es : List (OutcomeKey × RowGroup)) (o : Outcome) → option_map tally (lookup (λ k. same_outcome o k.row.now.outcome) es) ≡ lookup (pointwise nat_eq (outcome_numbers o)) (map held es)
held_lookup [] o = refl
held_lookup (e ∷ es) o = by (same_outcome o e.0.row.now.outcome) (held_lookup es o)
  where
    by : (b : Bool) → option_map tally (lookup (λ k. same_outcome o k.row.now.outcome) es) ≡ lookup (pointwise nat_eq (outcome_numbers o)) (map held es) → option_map tally (cond b (Some e.1) (lookup (λ k. same_outcome o k.row.now.outcome) es)) ≡ cond b (Some (tally e.1)) (lookup (pointwise nat_eq (outcome_numbers o)) (map held es))
    by true h = refl
    by false h = h

-- an outcome with one row more, where the code finds what is known of it or begins at none
pub counted_one : (o : Option RowGroup) (row : Bor Row) (now new : RowGroup) → now ≡ unwrap_or o (record { first = row; count = 0 }) → new ≡ record { first = now.first; count = now.count + 1 } → tally new ≡ tally_with (option_map tally o) (line_of row.now)
counted_one None row now new h e = ap tally e ∙ ap (λ g. tally (record { first = g.first; count = g.count + 1 })) h
counted_one (Some g) row now new h e = ap tally e ∙ ap (λ g. tally (record { first = g.first; count = g.count + 1 })) h

-- the map after one row more
pub grouped_more : (rows : List Row) (k : ℕ) (key : OutcomeKey) (es new : List (OutcomeKey × RowGroup)) (g : RowGroup) → k < length rows → key.row.now ≡ get_or rows k key.row.now → map held es ≡ tallies_of (map line_of (take k rows)) → tally g ≡ tally_with (option_map tally (lookup (λ q. same_outcome key.row.now.outcome q.row.now.outcome) es)) (line_of key.row.now) → new ≡ insert_entry (λ p q. same_outcome p.row.now.outcome q.row.now.outcome) es key g → map held new ≡ tallies_of (map line_of (take (k + 1) rows))
grouped_more rows k key es new g lt at h t e =
    let x = key.row.now in
    let lines = map line_of (take k rows) in
    let l = line_of x in
    let more : map line_of (take (k + 1) rows) ≡ lines ++ l ∷ [] = map_more line_of rows k x lt ∙ ap (λ y. lines ++ line_of y ∷ []) (sym at) in
    let found : option_map tally (lookup (λ q. same_outcome x.outcome q.row.now.outcome) es) ≡ lookup (pointwise nat_eq (numbers l)) (tallies_of lines) = held_lookup es x.outcome ∙ ap (lookup (pointwise nat_eq (numbers l))) h in
    ap (map held) e ∙ held_insert es key g ∙ ap (λ ts. insert_entry (pointwise nat_eq) ts (numbers l) (tally g)) h ∙ tallies_more lines l (tally g) (t ∙ ap (λ o. tally_with o l) found) ∙ ap tallies_of (sym more)

-- a count is below the number of rows while there are more
pub room : (rows : List Row) (k most : ℕ) (es : List (OutcomeKey × RowGroup)) (o : Outcome) → k < length rows → most ≡ length rows → map held es ≡ tallies_of (map line_of (take k rows)) → IfSome (lookup (λ p. same_outcome o p.row.now.outcome) es) (λ g. g.count < most)
room rows k most es o lt all h =
    let lines = map line_of (take k rows) in
    by (lookup (λ p. same_outcome o p.row.now.outcome) es) (subst (λ f. IfSome f (λ t. t.count ≤ length lines)) (sym (held_lookup es o ∙ ap (lookup (pointwise nat_eq (outcome_numbers o))) h)) (few_counted lines (outcome_numbers o)))
  where
    by : (o : Option RowGroup) → IfSome (option_map tally o) (λ t. t.count ≤ length (map line_of (take k rows))) → IfSome o (λ g. g.count < most)
    by None few = tt
    by (Some g) few = let n = length-map (take k rows) line_of in let m = length-take-le k rows (omega (arith, lt)) in omega (arith, few, n, m, lt, all)

tallies_text : (names : Spellings) (lines fs : List Line) → each (λ t. tally_text names t.1) (map (tally_of lines) fs) ≡ groups_text names lines fs
tallies_text names lines [] = refl
tallies_text names lines (f ∷ fs) = ap (λ l. group_text names lines f ++ l) (tallies_text names lines fs)

values_text : (names : Spellings) (es : List (OutcomeKey × RowGroup)) → each (tally_text names) (map tally (values_of es)) ≡ each (λ t. tally_text names t.1) (map held es)
values_text names [] = refl
values_text names (e ∷ es) = ap (λ l. tally_text names (tally e.1) ++ l) (values_text names es)

-- the texts of the groups of all rows
pub grouped_text : (names : Spellings) (lines : List Line) (es : List (OutcomeKey × RowGroup)) → map held es ≡ tallies_of lines → each (tally_text names) (map tally (values_of es)) ≡ groups_text names lines (outcomes_of lines)
grouped_text names lines es h = values_text names es ∙ ap (each (λ t. tally_text names t.1)) h ∙ tallies_text names lines (outcomes_of lines)

pub grouped_count : (lines : List Line) (es : List (OutcomeKey × RowGroup)) → map held es ≡ tallies_of lines → length es ≡ length (outcomes_of lines)
grouped_count lines es h = sym (length-map es held) ∙ ap length h ∙ length-map (outcomes_of lines) (tally_of lines)
