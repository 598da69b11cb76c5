-- A loop over the pairs of two lists, which appends the pieces of those that are so.
use Rattle.std.proofs.Common.{◌≡◌, ◌∙◌, ◌<◌, ◌++◌, ◌∷◌, [], ℕ, List, Bool, Bor, Option, true, false, length, take, get_or, sym, ap, arith}
use Rattle.std.specs.List.{filter, zip}
use Rattle.std.proofs.lemmas.List.{length_push, take_all}
use Rattle.std.proofs.lemmas.Slice.Zip.{get_or-zip, length-zip}
use Rattle.cp_prose.specs.Telling.{UnlessRefused, appended}
use Rattle.cp_run.specs.Table.{each}
use Rattle.cp_show_mark.proofs.Pieces.{also, one_left, one_taken}

-- where the next pair is
abbrev pub IsNext : {A B : Type 0} → List A → List B → List (Bor A × Bor B) → Bor A × Bor B → Type 0
IsNext {A} {B} ks vs yielded p = (length yielded < length ks) × (length yielded < length vs) × ((d : A) → p.0.now ≡ get_or ks (length yielded) d) × ((d : B) → p.1.now ≡ get_or vs (length yielded) d)

module _ {A B : Type 0} (ks : List A) (vs : List B) (yielded : List (Bor A × Bor B)) (p : Bor A × Bor B) where
  pub pair_at : IsNext ks vs yielded p → get_or (zip ks vs) (length yielded) (p.0.now, p.1.now) ≡ (p.0.now, p.1.now)
  pair_at t = get_or-zip ks vs (length yielded) (p.0.now, p.1.now) t.0 t.1 ∙ ap (λ x. (x, get_or vs (length yielded) p.1.now)) (sym (t.2 p.0.now)) ∙ ap (λ y. (p.0.now, y)) (sym (t.3 p.1.now))

  pub within : IsNext ks vs yielded p → length yielded < length (zip ks vs)
  within t = omega (arith, length-zip ks vs, t.0, t.1)

module _ {A B : Type 0} (f : A × B → List ℕ) (is_so : A × B → Bool) (ks : List A) (vs : List B) (yielded : List (Bor A × Bor B)) (p : Bor A × Bor B) where
  pub pair_taken : (old now new : Option (List ℕ)) → IsNext ks vs yielded p → is_so (p.0.now, p.1.now) ≡ true → UnlessRefused now (appended old (each f (filter is_so (take (length yielded) (zip ks vs))))) → UnlessRefused new (appended now (f (p.0.now, p.1.now))) → UnlessRefused new (appended old (each f (filter is_so (take (length (yielded ++ p ∷ [])) (zip ks vs)))))
  pair_taken old now new t is h e =
      let at = pair_at ks vs yielded p t in
      also old new (ap (λ n. each f (filter is_so (take n (zip ks vs)))) (sym (length_push yielded p))) (one_taken f is_so (zip ks vs) (length yielded) (p.0.now, p.1.now) old now new (within ks vs yielded p t) (ap is_so at ∙ is) h (also now new (ap f (sym at)) e))

  pub pair_left : (old now : Option (List ℕ)) → IsNext ks vs yielded p → is_so (p.0.now, p.1.now) ≡ false → UnlessRefused now (appended old (each f (filter is_so (take (length yielded) (zip ks vs))))) → UnlessRefused now (appended old (each f (filter is_so (take (length (yielded ++ p ∷ [])) (zip ks vs)))))
  pair_left old now t is h =
      let at = pair_at ks vs yielded p t in
      also old now (ap (λ n. each f (filter is_so (take n (zip ks vs)))) (sym (length_push yielded p))) (one_left f is_so (zip ks vs) (length yielded) (p.0.now, p.1.now) old now (within ks vs yielded p t) (ap is_so at ∙ is) h)

pub all_pairs : {A B : Type 0} (f : A × B → List ℕ) (is_so : A × B → Bool) (ks : List A) (vs : List B) (n : ℕ) (old now : Option (List ℕ)) → length (zip ks vs) ≡ n → UnlessRefused now (appended old (each f (filter is_so (take n (zip ks vs))))) → UnlessRefused now (appended old (each f (filter is_so (zip ks vs))))
all_pairs f is_so ks vs n old now e h = also old now (ap (λ l. each f (filter is_so l)) (take_all n (zip ks vs) (omega (arith, e)))) h
