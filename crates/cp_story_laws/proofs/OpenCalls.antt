-- What is kept of each element of a stack is kept where it grows and shrinks.
use Rattle.std.proofs.Common.{◌≡◌, ◌∙◌, ℕ, zero, suc, ◌-◌, List, [], ◌∷◌, ◌++◌, ap, sym, refl, length}
use Rattle.std.specs.Prelude.{map, replicate, take, slice_index_or, slice_set}
use Rattle.std.proofs.Math.ListN.{get_or-map}
use Rattle.std.proofs.lemmas.List.{map-set, map-append, take-map, length-map}
use Rattle.cp_story_laws.specs.Events.{stack_of, last_of, pushed, popped}

module _ {A B : Type 0} (f : A → B) where
  -- f of each element of each stack
  abbrev pub each_kept : List (List A) → List (List B)
  each_kept stacks = map (map f) stacks

  pub stack_kept : (stacks : List (List A)) (p : ℕ) → stack_of (each_kept stacks) p ≡ map f (stack_of stacks p)
  stack_kept stacks p = get_or-map (map f) stacks p []

  pub last_kept : (d : A) (xs : List A) → last_of (f d) (map f xs) ≡ f (last_of d xs)
  last_kept d xs = ap (λ (n : ℕ). slice_index_or (map f xs) (n - 1) (f d)) (length-map xs f) ∙ get_or-map f xs (length xs - 1) d

  pub pushed_kept : (stacks : List (List A)) (p : ℕ) (x : A) → each_kept (pushed stacks p x) ≡ pushed (each_kept stacks) p (f x)
  pushed_kept stacks p x =
      map-set (map f) stacks p (stack_of stacks p ++ x ∷ [])
      ∙ ap (slice_set (each_kept stacks) p) (map-append f (stack_of stacks p) (x ∷ []) ∙ ap (λ (ys : List B). ys ++ f x ∷ []) (sym (stack_kept stacks p)))

  pub popped_kept : (stacks : List (List A)) (p : ℕ) → each_kept (popped stacks p) ≡ popped (each_kept stacks) p
  popped_kept stacks p =
      map-set (map f) stacks p (take (length (stack_of stacks p) - 1) (stack_of stacks p))
      ∙ ap (slice_set (each_kept stacks) p)
      (sym (take-map f (length (stack_of stacks p) - 1) (stack_of stacks p))
      ∙ ap (λ (n : ℕ). take (n - 1) (map f (stack_of stacks p))) (sym (length-map (stack_of stacks p) f))
      ∙ ap (λ (ys : List B). take (length ys - 1) ys) (sym (stack_kept stacks p)))

  pub each_of_none : (n : ℕ) → each_kept (replicate n []) ≡ replicate n []
  each_of_none zero = refl
  each_of_none (suc n) = ap (λ (ys : List (List B)). [] ∷ ys) (each_of_none n)
