-- Too many rows.
use Rattle.std.proofs.Common.{◌≡◌, ℕ, ◌+◌, ◌<◌, ◌≤◌, Result, Ok, Err, IfOk, IfErr, arith}
use Rattle.std.specs.Result.{IsErrAnd}
use Rattle.cp_walk.specs.declared.fault.ExploreFault.{ExploreFault}
use Rattle.cp_walk.specs.Rows.{IsTooMany}

pub err_more : {A : Type 0} (r : Result A ExploreFault) (n m : ℕ) → m ≡ 1 → IfErr r (λ e. IsTooMany e → 50000 ≤ n) → IfErr r (λ e. IsTooMany e → 50000 < n + m)
err_more (Ok x) n m one h = h
err_more (Err e) n m one h = λ many. omega (arith, one, h many)

pub err_as : {A : Type 0} (r : Result A ExploreFault) (P Q : ExploreFault → Type 0) → IsErrAnd r P → ((f : ExploreFault) → P f → Q f) → IfErr r Q
err_as (Ok x) P Q h q = tt
err_as (Err e) P Q h q = q e h

-- what holds of an answer, from two things that hold of it
pub ok_both : {A : Type 0} (r : Result A ExploreFault) (P Q R : A → Type 0) → IfOk r P → IfOk r Q → ((a : A) → P a → Q a → R a) → IfOk r R
ok_both (Ok a) P Q R h k f = f a h k
ok_both (Err e) P Q R h k f = h

pub err_then : {A : Type 0} (r : Result A ExploreFault) (P Q : ExploreFault → Type 0) → IfErr r P → ((e : ExploreFault) → P e → Q e) → IfErr r Q
err_then (Ok a) P Q h f = h
err_then (Err e) P Q h f = f e h

-- what holds of an answer, from what holds of it
pub ok_as : {A : Type 0} (r : Result A ExploreFault) (P Q : A → Type 0) → IfOk r P → ((a : A) → P a → Q a) → IfOk r Q
ok_as (Ok a) P Q h f = f a h
ok_as (Err e) P Q h f = h

-- what is handed on is an error
pub not_ok : {A : Type 0} (r : Result A ExploreFault) (P : ExploreFault → Type 0) (Q : A → Type 0) → IsErrAnd r P → IfOk r Q
not_ok (Ok a) P Q h = absurd h
not_ok (Err e) P Q h = tt
