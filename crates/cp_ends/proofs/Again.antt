-- What holds of a list holds of it with one more that is like its last one.
use Rattle.std.proofs.Common.{◌≡◌, ◌∙◌, ◌⊎◌, inl, inr, ℕ, Bool, false, List, [], ◌∷◌, ◌++◌, sym}
use Rattle.std.specs.List.{AllByRecursion as Each}
use Rattle.std.specs.Prelude.{◌↔◌}
use Rattle.cp_endless_laws.specs.Moments.{AnyOf}
use Rattle.cp_endless_laws.proofs.Basics.{any_left, any_split, each_append, each_left, each_right}

module _ {A : Type 0} (P : A → Type 0) (xs : List A) (x y : A) where
  -- what holds of all to the last holds of one more that is like it
  pub each_again : (P x → P y) → Each P (xs ++ x ∷ []) ↔ Each P ((xs ++ x ∷ []) ++ y ∷ [])
  each_again on = (
    λ h. each_append P (xs ++ x ∷ []) (y ∷ []) h (on (each_right P xs (x ∷ []) h).0, tt),
    λ h. each_left P (xs ++ x ∷ []) (y ∷ []) h,
  )

  pub any_again : (P y → P x) → AnyOf P (xs ++ x ∷ []) ↔ AnyOf P ((xs ++ x ∷ []) ++ y ∷ [])
  any_again back = (λ h. any_left P (xs ++ x ∷ []) (y ∷ []) h, λ h. by (any_split P (xs ++ x ∷ []) (y ∷ []) h))
    where
      at_end : (zs : List A) → P x → AnyOf P (zs ++ x ∷ [])
      at_end [] p = inl p
      at_end (z ∷ zs) p = inr (at_end zs p)

      by : AnyOf P (xs ++ x ∷ []) ⊎ AnyOf P (y ∷ []) → AnyOf P (xs ++ x ∷ [])
      by (inl h) = h
      by (inr (inl p)) = at_end xs (back p)
      by (inr (inr none)) = absurd none

pub through : {X Y Z : Type 0} → X ↔ Y → Y ↔ Z → X ↔ Z
through h k = (λ x. k.0 (h.0 x), λ z. h.1 (k.1 z))

-- the due choices stay
pub beside_all : {D X Y : Type 0} → X ↔ Y → (D × X) ↔ (D × Y)
beside_all h = (λ z. (z.0, h.0 z.1), λ z. (z.0, h.1 z.1))

pub beside_any : {D X Y : Type 0} → X ↔ Y → (D ⊎ X) ↔ (D ⊎ Y)
beside_any {D} {X} {Y} h = (there, back)
  where
    there : D ⊎ X → D ⊎ Y
    there (inl d) = inl d
    there (inr x) = inr (h.0 x)

    back : D ⊎ Y → D ⊎ X
    back (inl d) = inl d
    back (inr y) = inr (h.1 y)

-- who is served at a moment is served at the one before it, where it is ready as there
pub served_again : (p q : ℕ) (a b : Bool) → b ≡ a → (p ≡ q) ⊎ (b ≡ false) → (p ≡ q) ⊎ (a ≡ false)
served_again p q a b same (inl e) = inl e
served_again p q a b same (inr e) = inr (sym same ∙ e)
