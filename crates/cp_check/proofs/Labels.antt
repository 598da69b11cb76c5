-- Labels of an arm: what is left leads where all lead.
use Rattle.std.proofs.Common.{◌≡◌, ℕ, ◌+◌, ◌<◌, ◌≤◌, List, [], ◌∷◌, ◌++◌, length, get_or, drop, Ok, Err, refl, sym, ap, subst, ◌∙◌, add-one, append_assoc}
use Rattle.cp_check.proofs.Words.{drop-cons, CheckFault, Scopes, Judged, both, ◌>>=◌, Refuses, Label, drop_all, append-nil}
use Rattle.cp_tree.specs.declared.constant.Constant.{Constant}
use Rattle.cp_check.specs.Cases.{one_label, labels, before}
use Rattle.cp_check.proofs.Judging.{refuses_both}
use Rattle.cp_check.proofs.Fronts.{with_front, front_refuses}

with_more : (front : List Label) (l : Label) (j : Judged (List Label)) → with_front front (both (Ok l) j >>= before) ≡ with_front (front ++ l ∷ []) j
with_more front l (Ok ls) = ap (λ (ms : List Label). Ok ms) (sym (append_assoc front (l ∷ []) ls))
with_more front l (Err fs) = refl

module _ (s : Scopes) (front : List Label) (xs : List Constant) (i : ℕ) (x : Constant) (within : i < length xs) (here : x ≡ get_or xs i x) where
  labels_split : labels s (drop i xs) ≡ both (one_label s x) (labels s (drop (i + 1) xs)) >>= before
  unfolding labels
  labels_split = rw (add-one, drop-cons xs i x, ← here) refl

  pub labels_passed : (l : Label) → one_label s x ≡ Ok l → with_front front (labels s (drop i xs)) ≡ with_front (front ++ l ∷ []) (labels s (drop (i + 1) xs))
  labels_passed l h = ap (with_front front) (labels_split ∙ ap (λ (j : Judged Label). both j (labels s (drop (i + 1) xs)) >>= before) h) ∙ with_more front l (labels s (drop (i + 1) xs))

  pub labels_refused : (e : CheckFault) → Refuses e (one_label s x) → Refuses e (with_front front (labels s (drop i xs)))
  labels_refused e h = front_refuses e front _ (subst (λ (j : Judged (List Label)). Refuses e j) (sym labels_split) (refuses_both e _ _ before h))

pub labels_none : (s : Scopes) (front : List Label) (xs : List Constant) (i : ℕ) → length xs ≤ i → with_front front (labels s (drop i xs)) ≡ Ok front
unfolding labels
labels_none s front xs i h = rw (drop_all i xs h, append-nil front) refl
