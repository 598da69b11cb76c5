use Rattle.std.proofs.Common.{◌≡◌, ◌⊎◌, inl, inr, ◌+◌, ◌<◌, ◌≤◌, ℕ, arith, subst, true}
use Rattle.std.proofs.lemmas.Bool.{cases_lt}
use Rattle.cp_states.specs.Numbers.{number_at}
use Rattle.cp_parts.specs.Parts.{part_at}
use Rattle.cp_at_once.specs.ByRows.{phases_number}
use Rattle.cp_at_once.proofs.leg.has_same_phases.Goals as goal

-- one place more
one_more : (f g : ℕ → ℕ) (n : ℕ) → ((place : ℕ) → place < n → f place ≡ g place) → f n ≡ g n → (place : ℕ) → place < n + 1 → f place ≡ g place
one_more f g n before here place lt = by (cases_lt place n)
  where
    by : (place < n) ⊎ (n ≤ place) → f place ≡ g place
    by (inl less) = before place less
    by (inr le) = subst (λ k. f k ≡ g k) (omega (arith, lt, le)) here

pub loop-place-preserved : goal.loop-place-preserved
loop-place-preserved c =
    let s = c.args.cache.now.store in
    let t = c.args.cache.now.table in
    let row = c.args.row.now in
    let after = c.args.after.now in
    let yes : c.are_in_phase.result ≡ true = search in
    one_more (phases_number s t row) (phases_number s t after) c.loop-place.place c.loop-place.invariant
    (subst (λ k. number_at (part_at s (number_at row k)) 2 ≡ number_at (part_at s (number_at after k)) 2) c.part_position-at.ensures (c.are_in_phase.ensures yes))
