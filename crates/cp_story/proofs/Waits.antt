-- The numbers that pass a test, one number further.
use Rattle.std.proofs.Common.{◌≡◌, ◌∙◌, ℕ, suc, ◌+◌, Bool, true, false, if◌then◌else◌, List, [], ◌∷◌, ◌++◌, map, ap, sym, arith}
use Rattle.std.proofs.lemmas.List.{append-nil, map-append}
use Rattle.cp_run.specs.Run.{those_below}

further : (f : ℕ → Bool) (n : ℕ) (b : Bool) → f n ≡ b → those_below (n + 1) f ≡ those_below n f ++ (if b then n ∷ [] else [])
further f n b e =
    let next : n + 1 ≡ suc n = omega arith in
    ap (λ k. those_below k f) next ∙ ap (λ t. those_below n f ++ (if t then n ∷ [] else [])) e

pub one_more : (f : ℕ → Bool) (n : ℕ) (xs ys : List ℕ) → f n ≡ true → xs ≡ those_below n f → ys ≡ xs ++ n ∷ [] → ys ≡ those_below (n + 1) f
one_more f n xs ys e before after = after ∙ ap (λ zs. zs ++ n ∷ []) before ∙ sym (further f n true e)

pub none_more : (f : ℕ → Bool) (n : ℕ) (xs : List ℕ) → f n ≡ false → xs ≡ those_below n f → xs ≡ those_below (n + 1) f
none_more f n xs e before = before ∙ sym (further f n false e ∙ append-nil (those_below n f))

-- what is seen of them
pub seen_more : {A : Type 0} (see : ℕ → A) (f : ℕ → Bool) (n : ℕ) (xs ys : List A) → xs ≡ map see (those_below n f) → ys ≡ xs ++ map see (if f n then n ∷ [] else []) → ys ≡ map see (those_below (n + 1) f)
seen_more see f n xs ys before after =
    let next : n + 1 ≡ suc n = omega arith in
    after ∙ ap (λ zs. zs ++ map see (if f n then n ∷ [] else [])) before ∙ sym (ap (λ k. map see (those_below k f)) next ∙ map-append see (those_below n f) (if f n then n ∷ [] else []))
