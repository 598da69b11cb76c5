-- Sums over tallies.
use Rattle.std.proofs.Common.{◌≡◌, ◌≤◌, Bool, true, false, if◌then◌else◌, List, [], ◌∷◌, map, refl, arith}
use Rattle.std.specs.Prelude.{sum_by}
use Rattle.std.proofs.lemmas.List.Sums.{sum_by-cons}
use Rattle.cp_walk.specs.Groups.{Tally}
use Rattle.cp_merged.specs.Code.{tally_of}
use Rattle.cp_merged.specs.Told.{rows_in}
use Rattle.cp_merged.specs.declared.tally.Tally as code
use Rattle.cp_outcomes.specs.Stops.{is_at, count_at, rows_at}
use Rattle.cp_outcomes.specs.declared.stopped.Limit.{Limit}

pub counts_of : (ts : List code.Tally) → rows_in (map tally_of ts) ≡ sum_by (λ t. t.count) ts
counts_of [] = refl
counts_of (t ∷ ts) =
    let d = sum_by-cons (λ (u : Tally). u.count) (tally_of t) (map tally_of ts) in
    let e = sum_by-cons (λ (u : code.Tally). u.count) t ts in
    let f = counts_of ts in
    omega (arith, d, e, f)

pub rows_at_of : (limit : Limit) (ts : List code.Tally) → rows_at limit (map tally_of ts) ≡ sum_by (λ t. count_at limit (tally_of t)) ts
rows_at_of limit [] = refl
rows_at_of limit (t ∷ ts) =
    let d = sum_by-cons (count_at limit) (tally_of t) (map tally_of ts) in
    let e = sum_by-cons (λ (u : code.Tally). count_at limit (tally_of u)) t ts in
    let f = rows_at_of limit ts in
    omega (arith, d, e, f)

count_at-le : (limit : Limit) (t : code.Tally) → count_at limit (tally_of t) ≤ t.count
count_at-le limit t = by (is_at limit t.outcome.kind)
  where
    by : (b : Bool) → (if b then t.count else 0) ≤ t.count
    by true = omega arith
    by false = omega arith

pub counts_at-le : (limit : Limit) (ts : List code.Tally) → sum_by (λ t. count_at limit (tally_of t)) ts ≤ sum_by (λ t. t.count) ts
counts_at-le limit [] = omega arith
counts_at-le limit (t ∷ ts) =
    let d = sum_by-cons (λ (u : code.Tally). u.count) t ts in
    let e = sum_by-cons (λ (u : code.Tally). count_at limit (tally_of u)) t ts in
    let f = counts_at-le limit ts in
    let g = count_at-le limit t in
    omega (arith, d, e, f, g)
