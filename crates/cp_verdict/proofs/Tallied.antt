-- The first rows of the tallies of some rows are their different outcomes.
use Rattle.std.proofs.Common.{◌≡◌, ◌∙◌, Bool, true, false, ◌||◌, if◌then◌else◌, List, [], ◌∷◌, ◌++◌, map, refl, ap}
use Rattle.std.specs.List.{list_any}
use Rattle.cp_run.specs.Table.{Line}
use Rattle.cp_walk.specs.Groups.{Tally}
use Rattle.cp_walk.specs.Report.{same_outcome, firsts, outcomes_of}
use Rattle.cp_merged.specs.Tallies.{one, more, noted, tally_onto, tally}

abbrev pub heads : List Tally → List Line
heads ts = map (λ (t : Tally). t.first) ts

abbrev any : List Line → Line → Bool
any found l = list_any (λ m. same_outcome m.outcome l.outcome) found

heads_noted : (ts : List Tally) (l : Line) → heads (noted same_outcome ts (one l)) ≡ (if any (heads ts) l then heads ts else heads ts ++ l ∷ [])
heads_noted [] l = refl
heads_noted (u ∷ us) l = split (same_outcome u.first.outcome l.outcome) (any (heads us) l) (heads_noted us l)
  where
    split : (b c : Bool) → heads (noted same_outcome us (one l)) ≡ (if c then heads us else heads us ++ l ∷ []) → heads (if b then more u (one l) ∷ us else u ∷ noted same_outcome us (one l)) ≡ (if b || c then u.first ∷ heads us else u.first ∷ heads us ++ l ∷ [])
    split true c h = refl
    split false true h = ap (λ r. u.first ∷ r) h
    split false false h = ap (λ r. u.first ∷ r) h

heads_onto : (ts : List Tally) (ls : List Line) → heads (tally_onto same_outcome ts ls) ≡ firsts (heads ts) ls
heads_onto ts [] = refl
heads_onto ts (l ∷ ls) = heads_onto (noted same_outcome ts (one l)) ls ∙ ap (λ found. firsts found ls) (heads_noted ts l)

pub heads_of : (lines : List Line) → heads (tally same_outcome lines) ≡ outcomes_of lines
heads_of lines = heads_onto [] lines
