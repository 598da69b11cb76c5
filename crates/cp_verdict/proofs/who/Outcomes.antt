-- The different outcomes of some rows: each is that of a first row, which is one of the rows.
use Rattle.std.proofs.Common.{◌≡◌, ◌∙◌, ℕ, Bool, true, false, ◌||◌, if◌then◌else◌, List, [], ◌∷◌, ◌++◌, refl, ap}
use Rattle.std.specs.Prelude.{◌&&◌, nat_eq}
use Rattle.std.specs.List.{list_any}
use Rattle.std.proofs.lemmas.Bool.{eq-eqb}
use lib.Pointwise.{pointwise}
use Rattle.cp_run.specs.Table.{Line, IsAmong, Here, There}
use Rattle.cp_run.specs.declared.outcome.Outcome.{Outcome}
use Rattle.cp_walk.specs.Report.{firsts, outcome_numbers, outcomes_of, same_outcome}
use Rattle.cp_verdict.proofs.Exact.{exact}
use Rattle.cp_verdict.proofs.Finding.{any_of}
use Rattle.cp_verdict.proofs.who.Lists.{some_passes}

-- ---- each first row is one of the rows

among_more : (P : Line → Type 0) (found : List Line) (l : Line) → ((m : Line) → IsAmong m found → P m) → P l → (m : Line) → IsAmong m (found ++ l ∷ []) → P m
among_more P [] l before here m (Here _) = here
among_more P [] l before here m (There _ _ i) = elim i [ ]
among_more P (f ∷ fs) l before here m (Here _) = before m (Here fs)
among_more P (f ∷ fs) l before here m (There _ _ i) = among_more P fs l (λ x j. before x (There f fs j)) here m i

firsts_are : (P : Line → Type 0) (found ls : List Line) → ((m : Line) → IsAmong m found → P m) → ((m : Line) → IsAmong m ls → P m) → (m : Line) → IsAmong m (firsts found ls) → P m
firsts_are P found [] before here m i = before m i
firsts_are P found (l ∷ ls) before here m i =
    by (list_any (λ (x : Line). same_outcome x.outcome l.outcome) found) i (firsts_are P found ls before (λ x k. here x (There l ls k)) m)
    (firsts_are P (found ++ l ∷ []) ls (among_more P found l before (here l (Here ls))) (λ x k. here x (There l ls k)) m)
  where
    by : (b : Bool) → IsAmong m (firsts (if b then found else found ++ l ∷ []) ls) → (IsAmong m (firsts found ls) → P m) → (IsAmong m (firsts (found ++ l ∷ []) ls) → P m) → P m
    by true j known new = known j
    by false j known new = new j

none_found : (P : Line → Type 0) (m : Line) → IsAmong m [] → P m
none_found P m i = elim i [ ]

pub first_among : (lines : List Line) (m : Line) → IsAmong m (outcomes_of lines) → IsAmong m lines
first_among lines m i = firsts_are (λ (x : Line). IsAmong x lines) [] lines (λ x j. none_found (λ (y : Line). IsAmong y lines) x j) (λ x j. j) m i

-- ---- each outcome is that of a first row

own_list : (xs : List ℕ) → pointwise nat_eq xs xs ≡ true
own_list [] = refl
own_list (x ∷ xs) = ap (λ b. b && pointwise nat_eq xs xs) (eq-eqb x x refl) ∙ own_list xs

own : (o : Outcome) → same_outcome o o ≡ true
own o = own_list (outcome_numbers o)

row_of : (t : Line → Bool) (ls : List Line) → list_any t ls ≡ true → (m : Line) × IsAmong m ls × (t m ≡ true)
row_of t [] h = absurd (cc)
row_of t (l ∷ ls) h = split (t l) refl h (λ e. row_of t ls e)
  where
    split : (b : Bool) → t l ≡ b → (b || list_any t ls) ≡ true → (list_any t ls ≡ true → (m : Line) × IsAmong m ls × (t m ≡ true)) → (m : Line) × IsAmong m (l ∷ ls) × (t m ≡ true)
    split true is h on = (l, Here ls, is)
    split false is h on = let m = on h in (m.0, There l ls m.1, m.2)

pub outcome_first : (lines : List Line) (l : Line) → IsAmong l lines → (m : Line) × IsAmong m (outcomes_of lines) × (m.outcome ≡ l.outcome)
outcome_first lines l i =
    let t = λ (o : Outcome). same_outcome o l.outcome in
    let m = row_of (λ (x : Line). t x.outcome) (outcomes_of lines) (any_of t lines ∙ some_passes (λ (x : Line). t x.outcome) l lines i (own l.outcome)) in
    (m.0, m.1, exact m.0.outcome l.outcome m.2)
