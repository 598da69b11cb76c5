-- Numbers of one digit.
use Rattle.std.proofs.Common.{◌≡◌, ◌∙◌, ℕ, ◌+◌, ◌<◌, List, [], ◌∷◌, ◌++◌, if◌then◌else◌, Result, Ok, Err, IfOk, is_ok, decimal, sym, ap}
use Rattle.std.proofs.lemmas.Fmt.{decimal_digit}

-- a digit that was pushed is the number's text
pub push_digit : {E : Type 0} (r : Result (Unit {0}) E) (old new coded : List ℕ) (digit n : ℕ) → n < 10 → digit ≡ 48 + n → coded ≡ digit ∷ [] → new ≡ (if is_ok r then old ++ coded else old) → IfOk r (λ _. new ≡ old ++ decimal n)
push_digit (Err e) old new coded digit n lt is one h = tt
push_digit (Ok x) old new coded digit n lt is one h = h ∙ ap (λ l. old ++ l) (one ∙ ap (λ d. d ∷ []) is ∙ sym (decimal_digit n lt))
