-- Where calls are at different tokens and each temporary name has its cell, the cells are one after the other.
use Rattle.std.proofs.Common.{◌≡◌, ℕ, suc, ◌+◌, ◌==◌, Bool, false, if◌then◌else◌, List, [], ◌∷◌, refl, ap, ◌∙◌, inl, inr, arith}
use Rattle.cp_resolved.proofs.Words.{Local, Item, statement_item, function_call, Here, AreNext}
use Rattle.cp_resolved.specs.Calls.{calls_before, AreApart, AreTemporaries}
use Rattle.cp_resolved.proofs.frames.LeastCells.{same_number as same_token}

-- a call that is at another token than the first
after_first : (n at : ℕ) (b : Bool) (m : ℕ) → (n == at) ≡ b → b ≡ false → (if n == at then 0 else suc m) ≡ suc m
after_first n at b m e f = ap (λ c. if c then 0 else suc m) (e ∙ f)

first_itself : (n m : ℕ) → (if n == n then 0 else suc m) ≡ 0
first_itself n m = ap (λ b. if b then 0 else suc m) (same_token n)

module _ (h : Here) where
  pub temporaries_next : (n : ℕ) (is : List Item) → AreApart is → AreTemporaries h n is → AreNext h n is
  temporaries_next n [] a t = tt
  temporaries_next n (function_call m d es ∷ is) a t = (
    t m (inl (same_token m)) ∙ ap (λ c. Local (n + c)) (first_itself m (calls_before m is)) ∙ ap Local (omega arith),
    temporaries_next (suc n) is a.1 (λ at i. t at (inr i) ∙ ap (λ c. Local (n + c)) (after_first m at (m == at) (calls_before at is) refl (a.0 at i)) ∙ ap Local (omega arith)),
  )
  temporaries_next n (statement_item t' ∷ is) a t = absurd a.0
  temporaries_next n _ a t = absurd a.0
