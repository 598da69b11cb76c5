-- How many steps are counted, and what holds of an answer.
use Rattle.std.proofs.Common.{◌≡◌, ℕ, ◌+◌, ◌≤◌, Bool, true, false, if◌then◌else◌, arith, Result, Ok, Err, IfOk}

-- a step that succeeds, or not, is counted at most once, if it is counted
pub counted : (succeeds counts : Bool) (n m : ℕ) → m ≡ (if succeeds then (if counts then n + 1 else n) else n) → m ≤ n + 1
counted true true n m e = omega (arith, e)
counted true false n m e = omega (arith, e)
counted false counts n m e = omega (arith, e)

-- what holds of an answer, from what else holds of it
pub ok_as : {A E : Type 0} (r : Result A E) (P Q : A → Type 0) → IfOk r P → ((a : A) → P a → Q a) → IfOk r Q
ok_as (Ok a) P Q h f = f a h
ok_as (Err e) P Q h f = h

pub ok_both : {A E : Type 0} (r : Result A E) (P Q R : A → Type 0) → IfOk r P → IfOk r Q → ((a : A) → P a → Q a → R a) → IfOk r R
ok_both (Ok a) P Q R h k f = f a h k
ok_both (Err e) P Q R h k f = h

pub ok_always : {A E : Type 0} (r : Result A E) (P : Type 0) → P → IfOk r (λ a. P)
ok_always (Ok a) P h = h
ok_always (Err e) P h = tt
