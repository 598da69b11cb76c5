-- The parts of variables that places lead to: one step, and none.
use Rattle.std.proofs.Common.{◌≡◌, ℕ, zero, suc, ◌-◌, ◌<◌, ◌≤◌, List, [], ◌++◌, refl, sym, ap, ◌∙◌, append_assoc, arith}
use Rattle.std.proofs.lemmas.List.{append-nil}
use Rattle.std.proofs.lemmas.Bool.Decides.{nat_tests}
use Rattle.cp_symbols.specs.Kinds.{Compounds, cells_of}
use Rattle.cp_legend.specs.declared.places.PlacePart.{PlacePart}
use Rattle.cp_legend.specs.Places.{step_text, inner_part, parts_text}

module _ (names : List (List ℕ)) (ts : Compounds) (cells : ℕ) (front : List ℕ) (n : ℕ) (p : PlacePart) where
  pub parts_none : n ≡ 0 → front ≡ front ++ parts_text names ts cells n p
  unfolding parts_text
  parts_none e = rw e (sym (append-nil front))

small : (names : List (List ℕ)) (ts : Compounds) (cells n : ℕ) (p : PlacePart) → cells_of ts p.shape ≤ cells → parts_text names ts cells n p ≡ []
unfolding parts_text
small names ts cells zero p h = refl
small names ts cells (suc n) p h = grind (arith, nat_tests)

step : (names : List (List ℕ)) (ts : Compounds) (cells n : ℕ) (p : PlacePart) → 0 < n → cells < cells_of ts p.shape → parts_text names ts cells n p ≡ step_text names ts p ++ parts_text names ts cells (n - 1) (inner_part ts p)
unfolding parts_text
step names ts cells zero p some h = grind arith
step names ts cells (suc n) p some h = grind (arith, nat_tests)

module _ (names : List (List ℕ)) (ts : Compounds) (cells : ℕ) (front : List ℕ) (n k : ℕ) (p : PlacePart) where
  pub parts_small : k ≡ cells_of ts p.shape → k ≤ cells → front ≡ front ++ parts_text names ts cells n p
  parts_small e h = rw (small names ts cells n p (rw (← e) h)) (sym (append-nil front))

  pub parts_step : k ≡ cells_of ts p.shape → cells < k → 0 < n → (inner : PlacePart) → inner ≡ inner_part ts p → (middle last : List ℕ) → middle ≡ front ++ step_text names ts p → last ≡ middle ++ parts_text names ts cells (n - 1) inner → last ≡ front ++ parts_text names ts cells n p
  parts_step e h some inner there middle last first rest =
      rest
      ∙ ap (λ (q : PlacePart). middle ++ parts_text names ts cells (n - 1) q) there
      ∙ ap (λ (xs : List ℕ). xs ++ parts_text names ts cells (n - 1) (inner_part ts p)) first
      ∙ append_assoc front (step_text names ts p) (parts_text names ts cells (n - 1) (inner_part ts p))
      ∙ ap (λ (xs : List ℕ). front ++ xs) (sym (step names ts cells n p some (rw (← e) h)))
