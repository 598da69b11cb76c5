-- The text of what is said of a source is what a text has taken that was empty.
use Rattle.std.proofs.Common.{◌≡◌, ℕ, List, [], ◌++◌, Option, Some, None, Result, Ok, Err, inl, refl, subst, sym}
use Rattle.std.specs.Prelude.{IfOk, MatchOption, MatchResult}
use Rattle.std.proofs.lemmas.List.{append-nil}
use Rattle.cp_prose.specs.Telling.{UnlessRefused, appended}
use Rattle.cp_refusal.specs.declared.report.Explanation.{Explanation}
use Rattle.cp_refusal.specs.Text.{BeginsWith, IsTextOf, Takes}
use Rattle.cp_refusal.proofs.Telling.{held, two_pieces}

-- whatever follows, the text begins with what it has taken first
pub accepted_taken : (a b p q : Option (List ℕ)) (first : List ℕ) → UnlessRefused b (appended a first) → MatchOption p (q ≡ None) (λ bytes. UnlessRefused q (appended b bytes)) → Takes a q (BeginsWith first)
accepted_taken a b None q first h e = record { piece = first; is = record { rest = []; is = sym (append-nil first) }; holds = inl e }
accepted_taken a b (Some bytes) q first h e = record { piece = first ++ bytes; is = record { rest = bytes; is = refl }; holds = two_pieces a b q first bytes h e }

pub as_said : (source : List ℕ) (file : Option (List ℕ)) (answer e : Explanation) (a p q : Option (List ℕ)) → a ≡ Some [] → q ≡ p → answer ≡ e → Takes a p (IsTextOf source file e) → Takes (Some []) q (IsTextOf source file answer)
as_said source file answer e a p q empty same is h =
    subst (λ (x : Explanation). Takes (Some []) q (IsTextOf source file x)) (sym is) (subst (λ (x : Option (List ℕ)). Takes (Some []) x (IsTextOf source file e)) (sym same) (subst (λ (x : Option (List ℕ)). Takes x p (IsTextOf source file e)) empty h))

pub finished : {T E : Type 0} (r : Result T E) (bytes : T → List ℕ) (p : Option (List ℕ)) (Is : List ℕ → Type 0) → Takes (Some []) p Is → MatchResult r (λ t. p ≡ Some (bytes t)) (λ _. p ≡ None) → IfOk r (λ t. Is (bytes t))
finished (Ok t) bytes p Is h e = held p (bytes t) Is h e
finished (Err x) bytes p Is h e = tt
