-- Rows that ended at a limit, counted by outcomes and one by one.
use Rattle.std.proofs.Common.{◌≡◌, ℕ, ◌+◌, Bool, true, false, if◌then◌else◌, List, [], ◌∷◌, refl, ap, arith}
use Rattle.std.specs.Prelude.{count_by}
use Rattle.std.proofs.lemmas.List.Sums.{sum_by-cons}
use Rattle.cp_run.specs.Table.{Line}
use Rattle.cp_walk.specs.Groups.{Tally}
use Rattle.cp_walk.specs.Report.{same_outcome}
use Rattle.cp_merged.specs.Tallies.{one, more, noted, tally_onto, tally}
use Rattle.cp_merged.proofs.Exact.{exact_outcomes}
use Rattle.cp_outcomes.specs.Stops.{is_at, count_at, rows_at}
use Rattle.cp_outcomes.specs.declared.stopped.Limit.{Limit}

-- what a row counts
abbrev pub unit_at : Limit → Line → ℕ
unit_at limit l = if is_at limit l.outcome.kind then 1 else 0

one_more : (b : Bool) (n : ℕ) → (if b then n + 1 else 0) ≡ (if b then n else 0) + (if b then 1 else 0)
one_more true n = refl
one_more false n = refl

noted_at : (limit : Limit) (ts : List Tally) (l : Line) → rows_at limit (noted same_outcome ts (one l)) ≡ rows_at limit ts + unit_at limit l
noted_at limit [] l = (let d = sum_by-cons (count_at limit) (one l) [] in omega (arith, d))
noted_at limit (u ∷ us) l = by (same_outcome u.first.outcome l.outcome) refl (noted_at limit us l)
  where
    by : (b : Bool) → same_outcome u.first.outcome l.outcome ≡ b → rows_at limit (noted same_outcome us (one l)) ≡ rows_at limit us + unit_at limit l → rows_at limit (if b then more u (one l) ∷ us else u ∷ noted same_outcome us (one l)) ≡ rows_at limit (u ∷ us) + unit_at limit l
    by true e g =
        let kind = ap {B = ℕ} (λ o. if is_at limit o.kind then 1 else 0) (exact_outcomes.exact u.first.outcome l.outcome e) in
        let c = one_more (is_at limit u.first.outcome.kind) u.count in
        let d = sum_by-cons (count_at limit) (more u (one l)) us in
        let f = sum_by-cons (count_at limit) u us in
        omega (arith, kind, c, d, f)
    by false e g =
        let d = sum_by-cons (count_at limit) u (noted same_outcome us (one l)) in
        let f = sum_by-cons (count_at limit) u us in
        omega (arith, d, f, g)

onto_at : (limit : Limit) (ls : List Line) (ts : List Tally) → rows_at limit (tally_onto same_outcome ts ls) ≡ rows_at limit ts + count_by (λ l. is_at limit l.outcome.kind) ls
onto_at limit [] ts = omega arith
onto_at limit (l ∷ ls) ts =
    let d = onto_at limit ls (noted same_outcome ts (one l)) in
    let e = noted_at limit ts l in
    let f = sum_by-cons (unit_at limit) l ls in
    omega (arith, d, e, f)

-- of the tallies of a table they are its rows that ended at the limit
pub rows_of_table : (limit : Limit) (ts : List Tally) (lines : List Line) → ts ≡ tally same_outcome lines → rows_at limit ts ≡ count_by (λ l. is_at limit l.outcome.kind) lines
rows_of_table limit ts lines e = (let d = onto_at limit lines [] in let f = ap (rows_at limit) e in omega (arith, d, f))
