-- Ways that go on by an edge.
use Rattle.std.proofs.Common.{◌≡◌, inl, inr, ℕ, List, [], ◌∷◌, ◌++◌, map, Some, true, ap, refl, ◌∙◌, subst, sym, ◌||◌}
use Rattle.cp_waits.proofs.Words.{Each, AnyOf, Edge, Graph, Set, has}
use Rattle.cp_waits.specs.Walks.{IsEdge, IsWay}
use Rattle.cp_meaning.proofs.Good.{or_cases as either}

pub way_on : (g : Graph) (i j k : ℕ) (way : List Edge) (e : Edge) → IsWay g i way j → IsEdge g j e → e.to ≡ Some k → IsWay g i (way ++ e ∷ []) k
way_on g i j k [] e w edge to = (k, subst (λ n. IsEdge g n e) (sym w) edge, to, refl)
way_on g i j k (x ∷ way) e w edge to = (w.0, w.1, w.2, way_on g w.0 j k way e w.3 edge to)

pub each_on : {A : Type 0} (P : A → Type 0) (xs : List A) (x : A) → Each P xs → P x → Each P (xs ++ x ∷ [])
each_on P [] x all here = (here, tt)
each_on P (y ∷ xs) x all here = (all.0, each_on P xs x all.1 here)

pub any_before : {A : Type 0} (P : A → Type 0) (xs : List A) (x : A) → AnyOf P xs → AnyOf P (xs ++ x ∷ [])
any_before P [] x some = absurd some
any_before P (y ∷ xs) x (inl here) = inl here
any_before P (y ∷ xs) x (inr later) = inr (any_before P xs x later)

pub any_last : {A : Type 0} (P : A → Type 0) (xs : List A) (x : A) → P x → AnyOf P (xs ++ x ∷ [])
any_last P [] x here = inl here
any_last P (y ∷ xs) x here = inr (any_last P xs x here)

pub map_on : {A B : Type 0} (f : A → B) (xs : List A) (x : A) → map f (xs ++ x ∷ []) ≡ map f xs ++ f x ∷ []
map_on f [] x = refl
map_on f (y ∷ xs) x = ap (λ l. f y ∷ l) (map_on f xs x)

-- what holds of a set on some edge of the way, or of a set on the next edge, does so on some edge of the longer way
pub any_on : (f : Edge → Set) (way : List Edge) (e : Edge) (before after : Set) (q : ℕ) → has after q ≡ (has before q || has (f e) q) →
    (has before q ≡ true → AnyOf (λ x. has (f x) q ≡ true) way) → has after q ≡ true → AnyOf (λ x. has (f x) q ≡ true) (way ++ e ∷ [])
any_on f way e before after q both known h =
    elim (either (has before q) (has (f e) q) (sym both ∙ h)) [
      | inl a ↦ any_before (λ x. has (f x) q ≡ true) way e (known a)
      | inr b ↦ any_last (λ x. has (f x) q ≡ true) way e b
    ]
