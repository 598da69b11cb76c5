-- Places that are noted, with one more.
use Rattle.std.proofs.Common.{◌≡◌, ◌∙◌, ◌++◌, ◌∷◌, ◌+◌, ◌<◌, ◌⊎◌, inl, inr, ℕ, Bool, true, false, List, [], ap, length, refl, subst, sym, take}
use Rattle.std.specs.Prelude.{◌==◌, ◌||◌, slice_index_or}
use Rattle.std.proofs.lemmas.Bool.{eq-eqb, eqb-true}
use Rattle.std.proofs.lemmas.List.{take_more}
use Rattle.std.proofs.lemmas.List.Elements.{All-cons, All-nil}
use Rattle.std.specs.List.{All}
use Rattle.std.proofs.lemmas.List.Folds.{list_any-append}
use Rattle.cp_effects.specs.Noting.{KeepNoted, among}

pub or_left : (b c : Bool) → b ≡ true → (b || c) ≡ true
or_left true c h = refl
or_left false c h = absurd (cc)

pub or_right : (b c : Bool) → c ≡ true → (b || c) ≡ true
or_right true c h = refl
or_right false c h = h

pub kept_more : (places more : List ℕ) → KeepNoted places (places ++ more)
kept_more places more place h = list_any-append (λ noted. noted == place) places more ∙ or_left (among places place) (among more place) h

pub noted_last : (places : List ℕ) (place : ℕ) → among (places ++ place ∷ []) place ≡ true
noted_last places place =
    list_any-append (λ noted. noted == place) places (place ∷ [])
    ∙ or_right (among places place) (among (place ∷ []) place) (ap (λ b. b || false) (eq-eqb place place refl))

-- what is noted with one more was so before, or is the new one
pub noted_next : (places : List ℕ) (x place : ℕ) → among (places ++ x ∷ []) place ≡ true → (among places place ≡ true) ⊎ (x ≡ place)
noted_next places x place h = go (among places place) (x == place) refl refl (sym (list_any-append (λ noted. noted == place) places (x ∷ [])) ∙ h)
  where
    go : (b c : Bool) → among places place ≡ b → (x == place) ≡ c → (among places place || among (x ∷ []) place) ≡ true → (among places place ≡ true) ⊎ (x ≡ place)
    go true c is here e = inl is
    go false true is here e = inr (eqb-true x place here)
    go false false is here e = absurd (cc)

pub below_next : (places : List ℕ) (at count : ℕ) → at < length places → slice_index_or places at 0 < count → ((place : ℕ) → among (take at places) place ≡ true → place < count) → (place : ℕ) → among (take (at + 1) places) place ≡ true → place < count
below_next places at count lt here before place is = go (noted_next (take at places) (slice_index_or places at 0) place (subst (λ xs. among xs place ≡ true) (take_more places at 0 lt) is))
  where
    go : (among (take at places) place ≡ true) ⊎ (slice_index_or places at 0 ≡ place) → place < count
    go (inl is) = before place is
    go (inr e) = subst (λ p. p < count) e here

-- what holds of each place that is noted, holds of each in the list
pub all_noted : (P : ℕ → Type 0) (places : List ℕ) → ((place : ℕ) → among places place ≡ true → P place) → All P places
all_noted P [] h = All-nil P
all_noted P (x ∷ xs) h = All-cons P x xs (h x (ap (λ b. b || among xs x) (eq-eqb x x refl))) (all_noted P xs (λ place is. h place (or_right (x == place) (among xs place) is)))
