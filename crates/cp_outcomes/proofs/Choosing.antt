-- The outcome with a number, among those that are told.
use Rattle.std.proofs.Common.{◌≡◌, ◌∙◌, ℕ, zero, suc, ◌-◌, ◌<◌, ◌≤◌, Bool, true, false, not, cond, List, [], ◌∷◌, ◌++◌, length, take, get_or, map, Option, Some, None, option_map, refl, sym, ap, subst, arith}
use Rattle.std.specs.List.{filter, slice_get}
use Rattle.std.proofs.lemmas.Option.{none-some, same_Some, slice_get-get_or, slice_get-map, slice_get_past}
use Rattle.std.proofs.lemmas.Bool.{true≢false}
use Rattle.std.proofs.lemmas.List.{length-append, length-map}
use Rattle.cp_run.specs.Slots.{slots}
use Rattle.cp_walk.specs.Groups.{Tally}
use Rattle.cp_run.specs.declared.job.Job.{Job}
use Rattle.cp_merged.specs.Code.{tally_of}
use Rattle.cp_merged.specs.declared.tally.Tally as code
use Rattle.cp_outcomes.specs.Chosen.{IsChosen, IsCount, IsFirst, IsSchedule, reach_of, told_in, with_number}
use Rattle.cp_outcomes.specs.Findings.{IsFoundOf}
use Rattle.cp_outcomes.specs.Told.{in_order, is_of}
use Rattle.cp_outcomes.specs.declared.telling.Finding.{Finding}
use Rattle.cp_outcomes.specs.declared.telling.First.{First}
use Rattle.cp_outcomes.specs.declared.telling.First.TheVariants as first
use Rattle.cp_outcomes.specs.declared.telling.KnownOutcomes.{KnownOutcomes}
use Rattle.cp_outcomes.proofs.Meant.{meant_finding}

some_within : {X : Type 0} (xs : List X) (i : ℕ) → i < length xs → (x : X) × (slice_get xs i ≡ Some x)
some_within [] i lt = absurd (omega arith)
some_within (x ∷ xs) zero lt = (x, refl)
some_within (x ∷ xs) (suc i) lt = some_within xs i (omega arith)

-- an element of a list is one of a longer list, at its place
get_before : {X : Type 0} (xs ys : List X) (i : ℕ) (x : X) → slice_get xs i ≡ Some x → slice_get (xs ++ ys) i ≡ Some x
get_before [] ys i x e = absurd (none-some x e)
get_before (y ∷ xs) ys zero x e = e
get_before (y ∷ xs) ys (suc i) x e = get_before xs ys i x e

get_behind : {X : Type 0} (xs ys : List X) (i : ℕ) → length xs ≤ i → slice_get (xs ++ ys) i ≡ slice_get ys (i - length xs)
get_behind [] ys i le = ap (slice_get ys) (omega arith)
get_behind (x ∷ xs) ys zero le = absurd (omega arith)
get_behind (x ∷ xs) ys (suc i) le = get_behind xs ys i (omega arith) ∙ ap (slice_get ys) (omega arith)

pub found_before : {X : Type 0} (A B ts : List X) (i p : ℕ) → slice_get A i ≡ slice_get ts p → p < length ts → slice_get (A ++ B) i ≡ slice_get ts p
found_before A B ts i p e lt = (let at = some_within ts p lt in get_before A B i at.0 (e ∙ at.1) ∙ sym at.1)

pub found_behind : {X : Type 0} (A B ts : List X) (i n p : ℕ) → n ≡ length A → n ≤ i → slice_get B (i - n) ≡ slice_get ts p → slice_get (A ++ B) i ≡ slice_get ts p
found_behind A B ts i n p is le e = get_behind A B i (omega (arith, is, le)) ∙ ap (λ m. slice_get B (i - m)) (sym is) ∙ e

pub found_nowhere : {X : Type 0} (A B : List X) (i n m : ℕ) → n ≡ length A → n ≤ i → m ≡ length B → m ≤ i - n → slice_get (A ++ B) i ≡ None
found_nowhere A B i n m is le last past = get_behind A B i (omega (arith, is, le)) ∙ ap (λ k. slice_get B (i - k)) (sym is) ∙ slice_get_past B (i - n) (omega (arith, last, past))

-- what passes at a place stands, among those that pass, behind those that pass before it
pub passing_at : {X : Type 0} (p : X → Bool) (xs : List X) (k : ℕ) (x : X) → slice_get xs k ≡ Some x → p x ≡ true → slice_get (filter p xs) (length (filter p (take k xs))) ≡ Some x
passing_at p [] k x e passes = absurd (none-some x e)
passing_at p (y ∷ ys) zero x e passes = subst (λ b. slice_get (cond b (y ∷ filter p ys) (filter p ys)) 0 ≡ Some x) (sym (ap p (same_Some y x e) ∙ passes)) e
passing_at p (y ∷ ys) (suc k) x e passes = by (p y) (passing_at p ys k x e passes)
  where
    by : (b : Bool) → slice_get (filter p ys) (length (filter p (take k ys))) ≡ Some x → slice_get (cond b (y ∷ filter p ys) (filter p ys)) (length (cond b (y ∷ filter p (take k ys)) (filter p (take k ys)))) ≡ Some x
    by true h = h
    by false h = h

either_passes : {X : Type 0} (p q : X → Bool) → ((x : X) → p x ≡ not (q x)) → (xs : List X) → length (filter p xs ++ filter q xs) ≡ length xs
either_passes p q other [] = refl
either_passes p q other (x ∷ xs) = by (p x) (q x) (other x) (either_passes p q other xs)
  where
    by : (b c : Bool) → b ≡ not c → length (filter p xs ++ filter q xs) ≡ length xs → length (cond b (x ∷ filter p xs) (filter p xs) ++ cond c (x ∷ filter q xs) (filter q xs)) ≡ suc (length xs)
    by true true e h = absurd (true≢false e)
    by true false e h = ap suc h
    by false true e h = length-append (filter p xs) (x ∷ filter q xs) ∙ omega (arith, sym (length-append (filter p xs) (filter q xs)) ∙ h)
    by false false e h = absurd (true≢false (sym e))

in_order_all : (ts : List code.Tally) → length (in_order (map tally_of ts)) ≡ length ts
in_order_all ts = either_passes (is_of false) (is_of true) (λ t. refl) (map tally_of ts) ∙ length-map ts tally_of

-- none has the number
counted : (ts : List code.Tally) (reach : Option ℕ) (known : KnownOutcomes) → known.count ≡ length ts → known.choices ≡ reach → IsCount (length (in_order (map tally_of ts))) reach known
counted ts reach known count choices = record { count_is = count ∙ sym (in_order_all ts); reach_is = choices }

pub none_first : (ts : List code.Tally) (number : ℕ) (reach : Option ℕ) (known : KnownOutcomes) → with_number (in_order (map tally_of ts)) number ≡ None → known.count ≡ length ts → known.choices ≡ reach → IsFirst (length (in_order (map tally_of ts))) reach (with_number (in_order (map tally_of ts)) number) (first.None known)
none_first ts number reach known e count choices = subst (λ o. IsFirst (length (in_order (map tally_of ts))) reach o (first.None known)) (sym e) (counted ts reach known count choices)

pub none_scheduled : (job : Job) (ts : List code.Tally) (number : ℕ) (known : KnownOutcomes) → with_number (in_order (map tally_of ts)) number ≡ None → known.count ≡ length ts → known.choices ≡ None → IsSchedule job (length (in_order (map tally_of ts))) None (with_number (in_order (map tally_of ts)) number) (first.None known)
none_scheduled job ts number known e count choices = subst (λ o. IsSchedule job (length (in_order (map tally_of ts))) None o (first.None known)) (sym e) (counted ts None known count choices)

-- the outcome at a place has the number
pub has_number : (ts : List code.Tally) (number k : ℕ) (t : code.Tally) → with_number (in_order (map tally_of ts)) number ≡ slice_get (map tally_of ts) k → k < length ts → t ≡ get_or ts k t → with_number (in_order (map tally_of ts)) number ≡ Some (tally_of t)
has_number ts number k t e lt is = e ∙ slice_get-map tally_of ts k ∙ ap (option_map tally_of) (slice_get-get_or ts k t lt ∙ ap Some (sym is))

pub not_searched : (job : Job) (count : ℕ) (reach : Option ℕ) (o : Option Tally) → IsSchedule job count reach o first.NotSearched
not_searched job count reach None = tt
not_searched job count reach (Some t) = tt

-- what is so among what is found is so in the table
pub chosen_among : (job : Job) (number : ℕ) (Is : ℕ → Option ℕ → Option Tally → First → Type 0) (chosen : First) (f : Finding) → IsFoundOf (slots job.program.now job.limits.discipline) job.limits.choices job.limits.steps f → Is (length (told_in f)) (reach_of f) (with_number (told_in f) number) chosen → IsChosen job number Is chosen
chosen_among job number Is chosen f found so = record { finding = f; found = found; meant = meant_finding job.program.now job.limits.discipline job.limits.choices job.limits.steps f found; so = so }
