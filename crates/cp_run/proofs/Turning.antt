-- What comes before the next step, by how many processes are ready.
use Rattle.std.proofs.Common.{◌≡◌, ℕ, zero, suc, Bool, true, false, if◌then◌else◌, List, [], ◌∷◌, ◌++◌, ap, sym, ◌∙◌, refl, subst}
use Rattle.cp_machine.specs.declared.state.Readiness.{Readiness}
use Rattle.cp_machine.specs.declared.state.Readiness.TheVariants.{Nobody, One, Several}
use Rattle.cp_machine.specs.System.{readiness_of}
use Rattle.cp_run.proofs.Words.{Over, Due, Goes, AllWaiting, Finished, System, those_below, turn_among}
use Rattle.cp_run.specs.Table.{IsAmong, Here, There}

pub among_nobody : {S : Type 0} (sys : System S) (s : S) (kernel : Bool) (p : ℕ) (ready : List ℕ) → readiness_of ready ≡ Nobody → turn_among sys s kernel p ready ≡ (if sys.waits s then Over AllWaiting else Over Finished)
among_nobody sys s kernel p [] e = refl
among_nobody sys s kernel p (q ∷ []) e = absurd (cc)
among_nobody sys s kernel p (q ∷ r ∷ qs) e = absurd (cc)

abbrev the_one : Readiness → ℕ
the_one (One p) = p
the_one _ = 0

pub among_one : {S : Type 0} (sys : System S) (s : S) (kernel : Bool) (p : ℕ) (ready : List ℕ) (q : ℕ) → readiness_of ready ≡ One q → turn_among sys s kernel p ready ≡ Goes q
among_one sys s kernel p (r ∷ []) q e = ap (λ x. Goes (the_one x)) e
among_one sys s kernel p _ q e = absurd (cc)

pub among_several : {S : Type 0} (sys : System S) (s : S) (kernel : Bool) (p : ℕ) (ready : List ℕ) → readiness_of ready ≡ Several → turn_among sys s kernel p ready ≡ (if kernel then Due else Goes p)
among_several sys s kernel p (q ∷ r ∷ qs) e = refl
among_several sys s kernel p _ e = absurd (cc)

among_append : {A : Type 0} (P : A → Type 0) (x : A) (xs ys : List A) → (IsAmong x xs → P x) → (IsAmong x ys → P x) → IsAmong x (xs ++ ys) → P x
among_append P x [] ys h k i = k i
among_append P x (y ∷ xs) ys h k (Here _) = h (Here xs)
among_append P x (y ∷ xs) ys h k (There _ _ i) = among_append P x xs ys (λ j. h (There y xs j)) k i

among_if : (f : ℕ → Bool) (p q : ℕ) (b : Bool) → f p ≡ b → IsAmong q (if b then p ∷ [] else []) → f q ≡ true
among_if f p q true e (Here _) = e
among_if f p q true e (There _ _ i) = elim i [ ]
among_if f p q false e i = elim i [ ]

-- each of those below a number may be
pub those_may : (n : ℕ) (f : ℕ → Bool) (q : ℕ) → IsAmong q (those_below n f) → f q ≡ true
those_may zero f q i = elim i [ ]
those_may (suc n) f q i = among_append (λ x. f x ≡ true) q (those_below n f) (if f n then n ∷ [] else []) (those_may n f q) (among_if f n q (f n) refl) i

pub one_may : (n : ℕ) (f : ℕ → Bool) (q : ℕ) → readiness_of (those_below n f) ≡ One q → f q ≡ true
one_may n f q e = by (those_below n f) refl e
  where
    by : (ready : List ℕ) → those_below n f ≡ ready → readiness_of ready ≡ One q → f q ≡ true
    by [] is h = absurd (cc)
    by (p ∷ []) is h = ap f (sym (ap the_one h)) ∙ those_may n f p (subst (IsAmong p) (sym is) (Here []))
    by (p ∷ r ∷ ps) is h = absurd (cc)
