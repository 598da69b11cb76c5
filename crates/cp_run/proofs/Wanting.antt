-- A number is among those that may be where it may be.
use Rattle.std.proofs.Common.{◌≡◌, ℕ, zero, suc, ◌<◌, ◌⊎◌, ⊎_elim, Bool, true, false, List, ◌&&◌, ◌||◌, ◌==◌, nat_lt, if◌then◌else◌, [], ◌∷◌, refl, sym, ap, ◌∙◌, arith}
use Rattle.std.specs.List.{list_any}
use Rattle.std.proofs.lemmas.Bool.{lt-ltb, le-ltb, eq-eqb, eqb-true, ne_eqb, cases_order}
use Rattle.std.proofs.lemmas.List.Folds.{list_any-append}
use Rattle.cp_run.proofs.Words.{System, Goes, those_below, may, turn_among, settled_turn}

or_none : (b : Bool) → (b || false) ≡ b
or_none true = refl
or_none false = refl

and_same : (a b : Bool) → (a && (a && b)) ≡ (a && b)
and_same true b = refl
and_same false b = refl

any_last : (n p : ℕ) (b : Bool) → list_any (λ y. y == p) (if b then n ∷ [] else []) ≡ (b && (n == p))
any_last n p true = or_none (n == p)
any_last n p false = refl

and_none : (b : Bool) → (b && false) ≡ false
and_none true = refl
and_none false = refl

and_all : (b : Bool) → (b && true) ≡ b
and_all true = refl
and_all false = refl

step_below : (n p : ℕ) (f : ℕ → Bool) → ((nat_lt p n && f p) || (f n && (n == p))) ≡ (nat_lt p (suc n) && f p)
step_below n p f =
    ⊎_elim
    (λ (e : p ≡ n). ap (λ b. (b && f p) || (f n && (n == p))) (le-ltb p n (omega (arith, e))) ∙ ap (λ b. f n && b) (eq-eqb n p (sym e)) ∙ and_all (f n) ∙ ap f (sym e) ∙ sym (ap (λ b. b && f p) (lt-ltb p (suc n) (omega (arith, e)))))
    (λ (apart : (p < n) ⊎ (n < p)).
    ⊎_elim
    (λ (lt : p < n). ap (λ b. (b && f p) || (f n && (n == p))) (lt-ltb p n lt) ∙ ap (λ b. f p || (f n && b)) (ne_eqb n p (λ e. omega (arith, e, lt))) ∙ ap (λ b. f p || b) (and_none (f n)) ∙ or_none (f p) ∙ sym (ap (λ b. b && f p) (lt-ltb p (suc n) (omega (arith, lt)))))
    (λ (gt : n < p). ap (λ b. (b && f p) || (f n && (n == p))) (le-ltb p n (omega (arith, gt))) ∙ ap (λ b. f n && b) (ne_eqb n p (λ e. omega (arith, e, gt))) ∙ and_none (f n) ∙ sym (ap (λ b. b && f p) (le-ltb p (suc n) (omega (arith, gt)))))
    apart)
    (cases_order p n)

any_below : (n p : ℕ) (f : ℕ → Bool) → list_any (λ y. y == p) (those_below n f) ≡ (nat_lt p n && f p)
any_below zero p f = sym (ap (λ b. b && f p) (le-ltb p zero (omega arith)))
any_below (suc n) p f =
    list_any-append (λ y. y == p) (those_below n f) (if f n then n ∷ [] else []) ∙ ap (λ b. b || list_any (λ y. y == p) (if f n then n ∷ [] else [])) (any_below n p f) ∙ ap (λ b. (nat_lt p n && f p) || b) (any_last n p (f n)) ∙ step_below n p f

-- a due choice may take exactly the wanted numbers
pub any_wanted : {S : Type 0} (sys : System S) (s : S) (p : ℕ) → list_any (λ y. y == p) (those_below sys.processes (may sys s)) ≡ may sys s p
unfolding may
any_wanted sys s p = any_below sys.processes p (may sys s) ∙ and_same (nat_lt p sys.processes) (if sys.is_pending s then sys.in_line s p else sys.is_ready s p)

-- after a local step its process, which is ready, goes on
pub goes_on : {S : Type 0} (sys : System S) (s : S) (p : ℕ) → p < sys.processes → sys.is_ready s p ≡ true → settled_turn sys s false p ≡ Goes p
goes_on sys s p lt h = by (those_below sys.processes (sys.is_ready s)) (any_below sys.processes p (sys.is_ready s) ∙ ap (λ b. b && sys.is_ready s p) (lt-ltb p sys.processes lt) ∙ h)
  where
    alone : (b : Bool) → (b || false) ≡ true → b ≡ true
    alone true e = refl
    alone false e = e

    by : (l : List ℕ) → list_any (λ y. y == p) l ≡ true → turn_among sys s false p l ≡ Goes p
    by [] e = absurd (cc)
    by (q ∷ []) e = ap Goes (eqb-true q p (alone (q == p) e))
    by (q ∷ r ∷ qs) e = refl
