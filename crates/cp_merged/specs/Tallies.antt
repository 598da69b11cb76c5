-- The different outcomes of rows, each with its count and the word of its first row.
use Rattle.std.specs.Prelude.{◌≡◌, ◌+◌, List, [], ◌∷◌, Bool, true, if◌then◌else◌}
use Rattle.cp_run.specs.declared.outcome.Outcome.{Outcome}
use Rattle.cp_run.specs.Table.{Line}
use Rattle.cp_walk.specs.Groups.{Tally}

-- a test of two outcomes
abbrev pub Sameness : Type 0
Sameness = Outcome → Outcome → Bool

pub record IsSameness (same : Sameness) : Type 0 where
  pub flip : (a b : Outcome) → same a b ≡ same b a
  pub alike : (a b c : Outcome) → same a b ≡ true → same a c ≡ same b c

-- a test that is true of equal outcomes, and of no others
pub record IsExact (same : Sameness) : Type 0 where
  pub is : IsSameness same
  pub own : (a : Outcome) → same a a ≡ true
  pub exact : (a b : Outcome) → same a b ≡ true → a ≡ b

abbrev pub one : Line → Tally
one l = record { first = l; count = 1 }

abbrev pub more : Tally → Tally → Tally
more u t = record { first = u.first; count = u.count + t.count }

-- the tallies with one more: counted to that of its outcome, or else the last
abbrev pub noted : Sameness → List Tally → Tally → List Tally
noted same [] t = t ∷ []
noted same (u ∷ us) t = if same u.first.outcome t.first.outcome then more u t ∷ us else u ∷ noted same us t

-- the tallies of some rows, after those found before
abbrev pub tally_onto : Sameness → List Tally → List Line → List Tally
tally_onto same ts [] = ts
tally_onto same ts (l ∷ ls) = tally_onto same (noted same ts (one l)) ls

-- each outcome of some rows, with its count and its first row, in the order of first rows
abbrev pub tally : Sameness → List Line → List Tally
tally same lines = tally_onto same [] lines
