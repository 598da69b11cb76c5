-- Parts of variables whose types stand: no variable has both a queue and a part in which no queue is.
use Rattle.std.proofs.Common.{◌≡◌, ◌∙◌, ℕ, ◌+◌, true, false, List, [], ◌∷◌, Option, Some, None, inl, inr, refl, sym, ap, subst}
use Rattle.cp_machine_laws.proofs.Words.{◌⊎◌, Range, Ty, queue_type, array_over, component_of, Choice, the_field, the_element, Chosen, further_chosen, one_chosen, then_chosen}
use Rattle.cp_machine_laws.proofs.Words.{chosen_at, is_indexed, is_free, is_standing, second_true}
use Rattle.cp_resolved.proofs.declarations.StandingParts.{free_part, element_is, no_part}
use Rattle.cp_resolved.proofs.names.Alike.{same_inside as some_same}

-- ---- what has no free part

abbrev NoFree : Ty → Type 0
NoFree t = (cs : List Choice) (o : ℕ) (v : Ty) → chosen_at t cs ≡ Some (o, v) → is_free v ≡ true → ⊥

-- a type that is not free itself and has no parts
alone : (t : Ty) → is_free t ≡ false → ((i : Choice) → one_chosen t i ≡ None) → NoFree t
alone t bound none [] o v h free =
    let same : t ≡ v = ap (λ (d : Chosen). d.1) (some_same (0, t) (o, v) h) in
    let bad : false ≡ true = sym bound ∙ (ap is_free same ∙ free) in absurd cc
alone t bound none (i ∷ cs) o v h free = no_part (o, v) (ap (λ (d : Option Chosen). then_chosen d (λ u. chosen_at u cs)) (sym (none i)) ∙ h)

record Further (o : Option Chosen) (t : Ty) : Type 0 where
  pub part : Chosen
  pub is : o ≡ Some part
  pub same : part.1 ≡ t

further_some : (n : ℕ) (o : Option Chosen) (c : Chosen) → further_chosen n o ≡ Some c → Further o c.1
further_some n None c h = absurd (let bad : None ≡ Some c = h in cc)
further_some n (Some d) c h = record { part = d; is = refl; same = ap (λ (e : Chosen). e.1) (some_same (n + d.0, d.1) c h) }

-- an array of such
array_alone : (r : Range) (t : Ty) → is_free t ≡ false → NoFree t → NoFree (array_over r t)
array_alone r t bound none [] o v h free =
    let same : array_over r t ≡ v = ap (λ (d : Chosen). d.1) (some_same (0, array_over r t) (o, v) h) in
    let whole : is_free (array_over r t) ≡ true = ap is_free same ∙ free in
    let bad : false ≡ true = sym bound ∙ second_true (is_indexed r t) (is_free t) whole in absurd cc
array_alone r t bound none (the_field x ∷ cs) o v h free = no_part (o, v) h
array_alone r t bound none (the_element n ∷ cs) o v h free = go (one_chosen (array_over r t) (the_element n)) refl h
  where
    go : (p : Option Chosen) → one_chosen (array_over r t) (the_element n) ≡ p → then_chosen p (λ u. chosen_at u cs) ≡ Some (o, v) → ⊥
    go None e g = no_part (o, v) g
    go (Some d) e g =
        let k = further_some d.0 (chosen_at d.1 cs) (o, v) g in
        none cs k.part.0 v (subst (λ (u : Ty). chosen_at u cs ≡ Some (k.part.0, v)) (sym (element_is n r t d e)) (k.is ∙ ap (λ (u : Ty). Some (k.part.0, u)) k.same)) free

free_or_none : (t : Ty) → is_standing t ≡ true → (is_free t ≡ true) ⊎ NoFree t
free_or_none queue_type h = inr (alone queue_type refl (λ i. refl))
free_or_none (component_of n) h = inr (alone (component_of n) refl (λ i. refl))
free_or_none (array_over r queue_type) h = inr (array_alone r queue_type refl (alone queue_type refl (λ i. refl)))
free_or_none (array_over r (component_of n)) h = inr (array_alone r (component_of n) refl (alone (component_of n) refl (λ i. refl)))
free_or_none _ h = inl h

-- ---- variables

pub unqueued_free : (u : Ty) (cs ds : List Choice) (o j : ℕ) (t : Ty) → is_standing u ≡ true → is_free t ≡ true → chosen_at u cs ≡ Some (o, t) → chosen_at u ds ≡ Some (j, queue_type) → ⊥
unqueued_free u cs ds o j t h free e g = go (free_or_none u h)
  where
    go : (is_free u ≡ true) ⊎ NoFree u → ⊥
    go (inl f) = let bad : false ≡ true = free_part u ds (j, queue_type) f g in absurd cc
    go (inr none) = none cs o t e free

-- ---- free types stand
