-- The report of a table is told by its tallies.
use Rattle.std.proofs.Common.{◌≡◌, ◌∙◌, ◌+◌, ℕ, Bool, true, false, if◌then◌else◌, List, [], ◌∷◌, ◌++◌, length, map, refl, sym, ap, arith, codes}
use Rattle.cp_merged.proofs.Words.{nat_eq, lookup, nat_list_eq_equiv, append_assoc, length-map, insert_entry, Line, each, Tally, tally_text, one, more, noted, tally_onto}
use Rattle.cp_merged.proofs.Words.{tally, tally_of, counts, rows_in, told_text, sum_by}
use lib.Pointwise.{pointwise}
use Rattle.cp_natural.specs.Decimal.{number_text}
use Rattle.cp_walk.specs.Report.{outcome_numbers, same_outcome, outcomes_of, group_text, groups_text, report_text}
use Rattle.cp_walk.specs.Groups as groups
use Rattle.cp_walk.specs.Text.{Spellings}
use Rattle.cp_walk.proofs.Grouping.{tallies_more}
use Rattle.cp_merged.specs.declared.tally.Tally as code
use Rattle.std.proofs.lemmas.List.Sums.{sum_by-append}

-- a tally behind the numbers of its outcome
abbrev entry : Tally → List ℕ × Tally
entry t = (outcome_numbers t.first.outcome, t)

entry_noted : (ts : List Tally) (l : Line) → map entry (noted same_outcome ts (one l)) ≡ insert_entry (pointwise nat_eq) (map entry ts) (outcome_numbers l.outcome) (groups.tally_with (lookup (pointwise nat_eq (outcome_numbers l.outcome)) (map entry ts)) l)
entry_noted [] l = refl
entry_noted (u ∷ us) l = by (same_outcome u.first.outcome l.outcome) refl (entry_noted us l)
  where
    by : (b : Bool) → same_outcome u.first.outcome l.outcome ≡ b → map entry (noted same_outcome us (one l)) ≡ insert_entry (pointwise nat_eq) (map entry us) (outcome_numbers l.outcome) (groups.tally_with (lookup (pointwise nat_eq (outcome_numbers l.outcome)) (map entry us)) l) → map entry (noted same_outcome (u ∷ us) (one l)) ≡ insert_entry (pointwise nat_eq) (map entry (u ∷ us)) (outcome_numbers l.outcome) (groups.tally_with (lookup (pointwise nat_eq (outcome_numbers l.outcome)) (map entry (u ∷ us))) l)
    by true e on = let f : same_outcome l.outcome u.first.outcome ≡ true = nat_list_eq_equiv.symm (outcome_numbers l.outcome) (outcome_numbers u.first.outcome) ∙ e in simp (e, f) refl
    by false e on = let f : same_outcome l.outcome u.first.outcome ≡ false = nat_list_eq_equiv.symm (outcome_numbers l.outcome) (outcome_numbers u.first.outcome) ∙ e in simp (e, f) (ap (λ l. entry u ∷ l) on)

entries_onto : (ts : List Tally) (done ls : List Line) → map entry ts ≡ groups.tallies_of done → map entry (tally_onto same_outcome ts ls) ≡ groups.tallies_of (done ++ ls)
entries_onto ts done [] h = h ∙ ap groups.tallies_of (sym (nothing done))
  where
    nothing : (xs : List Line) → xs ++ [] ≡ xs
    nothing [] = refl
    nothing (x ∷ xs) = ap (λ l. x ∷ l) (nothing xs)
entries_onto ts done (l ∷ ls) h =
    let k = outcome_numbers l.outcome in
    let next : map entry (noted same_outcome ts (one l)) ≡ groups.tallies_of (done ++ l ∷ []) = entry_noted ts l ∙ ap (λ es. insert_entry (pointwise nat_eq) es k (groups.tally_with (lookup (pointwise nat_eq k) es) l)) h ∙ tallies_more done l (groups.tally_with (lookup (pointwise nat_eq k) (groups.tallies_of done)) l) refl in
    entries_onto (noted same_outcome ts (one l)) (done ++ l ∷ []) ls next ∙ ap groups.tallies_of (append_assoc done (l ∷ []) ls)

entries : (lines : List Line) → map entry (tally same_outcome lines) ≡ groups.tallies_of lines
entries lines = entries_onto [] [] lines refl

texts_entries : (names : Spellings) (ts : List Tally) → each (tally_text names) ts ≡ each (λ e. groups.tally_text names e.1) (map entry ts)
texts_entries names [] = refl
texts_entries names (t ∷ ts) = ap (λ l. tally_text names t ++ l) (texts_entries names ts)

texts_groups : (names : Spellings) (lines fs : List Line) → each (λ e. groups.tally_text names e.1) (map (groups.tally_of lines) fs) ≡ groups_text names lines fs
texts_groups names lines [] = refl
texts_groups names lines (f ∷ fs) = ap (λ l. group_text names lines f ++ l) (texts_groups names lines fs)

pub counts_sum : (ts : List Tally) → rows_in ts ≡ counts ts
counts_sum [] = refl
counts_sum (t ∷ ts) = let d = sum_by-append (λ (u : Tally). u.count) (t ∷ []) ts in let e = counts_sum ts in omega (arith, d, e)

-- the same of the tallies of the code
pub rows_sum : (ts : List code.Tally) → rows_in (map tally_of ts) ≡ sum_by (λ t. t.count) ts
rows_sum [] = refl
rows_sum (t ∷ ts) =
    let d = sum_by-append (λ (u : Tally). u.count) (tally_of t ∷ []) (map tally_of ts) in
    let e = sum_by-append (λ (u : code.Tally). u.count) (t ∷ []) ts in
    let f = rows_sum ts in
    omega (arith, d, e, f)

counts_noted : (ts : List Tally) (l : Line) → counts (noted same_outcome ts (one l)) ≡ counts ts + 1
counts_noted [] l = omega arith
counts_noted (u ∷ us) l = by (same_outcome u.first.outcome l.outcome) (counts_noted us l)
  where
    by : (b : Bool) → counts (noted same_outcome us (one l)) ≡ counts us + 1 → counts (if b then more u (one l) ∷ us else u ∷ noted same_outcome us (one l)) ≡ u.count + counts us + 1
    by true on = omega arith
    by false on = omega (arith, on)

counts_onto : (ts : List Tally) (ls : List Line) → counts (tally_onto same_outcome ts ls) ≡ counts ts + length ls
counts_onto ts [] = omega arith
counts_onto ts (l ∷ ls) = let rest = counts_onto (noted same_outcome ts (one l)) ls in let here = counts_noted ts l in omega (arith, rest, here)

-- what is printed of the tallies of a table is its report
pub told_report : (names : Spellings) (lines : List Line) → told_text names (tally same_outcome lines) ≡ report_text names lines false
told_report names lines =
    let ts = tally same_outcome lines in
    let n : rows_in ts ≡ length lines = (let c = counts_onto [] lines in let d = counts_sum ts in omega (arith, c, d)) in
    let m : length ts ≡ length (outcomes_of lines) = sym (length-map ts entry) ∙ ap length (entries lines) ∙ length-map (outcomes_of lines) (groups.tally_of lines) in
    let texts : each (tally_text names) ts ≡ groups_text names lines (outcomes_of lines) = texts_entries names ts ∙ ap (each (λ e. groups.tally_text names e.1)) (entries lines) ∙ texts_groups names lines (outcomes_of lines) in
    ap (λ k. codes "schedules " ++ number_text k ++ codes "\n" ++ codes "outcomes " ++ number_text (length ts) ++ codes "\n" ++ each (tally_text names) ts) n ∙ ap (λ k. codes "schedules " ++ number_text (length lines) ++ codes "\n" ++ codes "outcomes " ++ number_text k ++ codes "\n" ++ each (tally_text names) ts) m ∙ ap (λ t. codes "schedules " ++ number_text (length lines) ++ codes "\n" ++ codes "outcomes " ++ number_text (length (outcomes_of lines)) ++ codes "\n" ++ t) texts
