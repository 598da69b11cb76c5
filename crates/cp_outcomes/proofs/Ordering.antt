-- Outcomes in the order in which they are told.
use Rattle.std.proofs.Common.{◌≡◌, ◌∙◌, ℕ, suc, ◌+◌, ◌<◌, Bool, true, false, cond, List, [], ◌∷◌, ◌++◌, length, take, get_or, map, refl, sym, ap, subst, arith, take-suc}
use Rattle.std.specs.List.{filter, AllByRecursion}
use Rattle.std.proofs.lemmas.List.{append_assoc, append-nil, map-append}
use Rattle.cp_walk.specs.Groups.{Tally}
use Rattle.cp_merged.specs.Code.{tally_of}
use Rattle.cp_merged.specs.declared.tally.Tally as code
use Rattle.cp_outcomes.specs.Told.{Setting, Told, IsTold, AreTold, told_of, is_of}
use Rattle.cp_outcomes.specs.declared.told.ToldOutcome.{ToldOutcome}

abbrev pub tally_in : ToldOutcome → Tally
tally_in o = tally_of o.tally.now

-- each is told so
abbrev pub AreSo : Setting → List ToldOutcome → Type 0
AreSo s os = AllByRecursion (λ o. IsTold s (told_of o)) os

filter_append : {X : Type 0} (p : X → Bool) (xs ys : List X) → filter p (xs ++ ys) ≡ filter p xs ++ filter p ys
filter_append p [] ys = refl
filter_append p (x ∷ xs) ys = by (p x) (filter_append p xs ys)
  where
    by : (b : Bool) → filter p (xs ++ ys) ≡ filter p xs ++ filter p ys → cond b (x ∷ filter p (xs ++ ys)) (filter p (xs ++ ys)) ≡ cond b (x ∷ filter p xs) (filter p xs) ++ filter p ys
    by true e = ap (λ l. x ∷ l) e
    by false e = e

-- one more that passes, or that does not
more : (p : Tally → Bool) (xs : List code.Tally) (k : ℕ) (d : code.Tally) → k < length xs → filter p (map tally_of (take (k + 1) xs)) ≡ filter p (map tally_of (take k xs)) ++ cond (p (tally_of (get_or xs k d))) (tally_of (get_or xs k d) ∷ []) []
more p xs k d lt =
    let next : k + 1 ≡ suc k = omega arith in
    ap (λ l. filter p (map tally_of l)) (ap (λ j. take j xs) next ∙ take-suc xs k d lt) ∙ ap (filter p) (map-append tally_of (take k xs) (get_or xs k d ∷ [])) ∙ filter_append p (map tally_of (take k xs)) (tally_of (get_or xs k d) ∷ [])

pub taken : (p : Tally → Bool) (xs : List code.Tally) (k : ℕ) (d : code.Tally) (old now new : List ToldOutcome) (o : ToldOutcome) → k < length xs → p (tally_of (get_or xs k d)) ≡ true → tally_in o ≡ tally_of (get_or xs k d) → new ≡ now ++ o ∷ [] → map tally_in now ≡ map tally_in old ++ filter p (map tally_of (take k xs)) → map tally_in new ≡ map tally_in old ++ filter p (map tally_of (take (k + 1) xs))
taken p xs k d old now new o lt passes is e h =
    ap (map tally_in) e ∙ map-append tally_in now (o ∷ []) ∙ ap (λ t. map tally_in now ++ t ∷ []) is ∙ ap (λ l. l ++ tally_of (get_or xs k d) ∷ []) h ∙ append_assoc (map tally_in old) (filter p (map tally_of (take k xs))) (tally_of (get_or xs k d) ∷ []) ∙ ap (λ l. map tally_in old ++ l) (sym (more p xs k d lt ∙ ap (λ b. filter p (map tally_of (take k xs)) ++ cond b (tally_of (get_or xs k d) ∷ []) []) passes))

pub passed_by : (p : Tally → Bool) (xs : List code.Tally) (k : ℕ) (d : code.Tally) (old now : List ToldOutcome) → k < length xs → p (tally_of (get_or xs k d)) ≡ false → map tally_in now ≡ map tally_in old ++ filter p (map tally_of (take k xs)) → map tally_in now ≡ map tally_in old ++ filter p (map tally_of (take (k + 1) xs))
passed_by p xs k d old now lt fails h =
    h ∙ ap (λ l. map tally_in old ++ l) (sym (more p xs k d lt ∙ ap (λ b. filter p (map tally_of (take k xs)) ++ cond b (tally_of (get_or xs k d) ∷ []) []) fails ∙ append-nil (filter p (map tally_of (take k xs)))))

pub so_push : (s : Setting) (os : List ToldOutcome) (o : ToldOutcome) → AreSo s os → IsTold s (told_of o) → AreSo s (os ++ o ∷ [])
so_push s [] o h one = (one, tt)
so_push s (u ∷ us) o h one = (h.0, so_push s us o h.1 one)

tallies_told : (os : List ToldOutcome) → map (λ (t : Told). t.tally) (map told_of os) ≡ map tally_in os
tallies_told [] = refl
tallies_told (o ∷ os) = ap (λ l. tally_in o ∷ l) (tallies_told os)

each_told : (s : Setting) (os : List ToldOutcome) → AreSo s os → AllByRecursion (IsTold s) (map told_of os)
each_told s [] h = tt
each_told s (o ∷ os) h = (h.0, each_told s os h.1)

pub all_told : (s : Setting) (ts : List Tally) (none first all : List ToldOutcome) → none ≡ [] → map tally_in first ≡ map tally_in none ++ filter (is_of false) ts → map tally_in all ≡ map tally_in first ++ filter (is_of true) ts → (AreSo s none → AreSo s first) → (AreSo s first → AreSo s all) → AreTold s ts (map told_of all)
all_told s ts none first all e f g h k = record {
  order = tallies_told all ∙ g ∙ ap (λ l. l ++ filter (is_of true) ts) (f ∙ ap (λ l. map tally_in l ++ filter (is_of false) ts) e);
  each = each_told s all (k (h (subst (AreSo s) (sym e) tt)));
}
