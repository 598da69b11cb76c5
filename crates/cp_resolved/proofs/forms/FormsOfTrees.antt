-- All statements of a tree that was read and breaks no rule have the forms that they want.
use Rattle.cp_resolved.proofs.Words.{◌≡◌, Option, Some, None, refl, Meaning, Loud, Heard, Name}
use Rattle.cp_scope.specs.Scopes.{Scopes, look}
use Rattle.cp_check.specs.Names as names

pub all_heard : (s : Scopes) → ((y : Name) → look y s ≡ Some None → ⊥) → Heard s
unfolding names.visible
all_heard s h at x = go (look x s) (h x)
  where
    go : (o : Option (Option Meaning)) → (o ≡ Some None → ⊥) → Loud (names.check_visible at o)
    go None k = tt
    go (Some None) k = k refl
    go (Some (Some c)) k = tt
