-- The listing of components: loops over those that one contains, and types that contain earlier ones alone.
use Rattle.std.proofs.Common.{◌≡◌, ℕ, zero, suc, ◌+◌, ◌<◌, ◌≤◌, ℤ, List, ◌++◌, length, get_or, drop, slice_get, Option, None, refl, sym, ap, add-one, append_assoc, arith}
use Rattle.std.proofs.Math.Seq.{drop-cons}
use Rattle.std.proofs.lemmas.List.{drop_all, append-nil}
use Rattle.std.proofs.lemmas.Bool.Decides.{nat_tests}
use Rattle.cp_layout.specs.declared.layer.Contained.{Contained}
use Rattle.cp_layout.specs.declared.layer.Content.{Content}
use Rattle.cp_symbols.specs.Kinds.{Compounds}
use Rattle.cp_layout.specs.Layers.{System}
use Rattle.cp_layout.specs.LaidComponents.{Listing, content_least, contents_least, again_and_again, add_contained, system_by, add_below}

pub listed_inside : (ts : Compounds) (ss : List System) (bound n : ℕ) (c : Listing) → n < bound → add_below ts ss bound n c ≡ system_by ts (add_below ts ss n) (slice_get ss n) n c
unfolding add_below
listed_inside ts ss zero n c h = grind (arith, nat_tests)
listed_inside ts ss (suc bound) n c h = let below = listed_inside ts ss bound n c in grind (arith, nat_tests, below)

pub listed_outside : (ts : Compounds) (ss : List System) (bound n : ℕ) (c : Listing) → bound ≤ n → add_below ts ss bound n c ≡ c
unfolding add_below
listed_outside ts ss zero n c h = refl
listed_outside ts ss (suc bound) n c h = let below = listed_outside ts ss bound n c in grind (arith, nat_tests, below)

pub nothing_there : (ts : Compounds) (one : ℕ → Listing → Listing) (o : Option System) (n : ℕ) (c : Listing) → o ≡ None → system_by ts one o n c ≡ c
nothing_there ts one o n c e = rw e refl

pub again_step : (one : Listing → Listing) (n : ℕ) (c d : Listing) → d ≡ one (again_and_again n one c) → d ≡ again_and_again (n + 1) one c
unfolding again_and_again
again_step one n c d e = rw (add-one) e

pub again_none : (one : Listing → Listing) (c : Listing) → again_and_again 0 one c ≡ c
unfolding again_and_again
again_none one c = refl

module _ (one : ℕ → Listing → Listing) (xs : List Contained) (i : ℕ) (c : Listing) where
  pub contained_step : (e : Contained) → i < length xs → (d : Listing) → d ≡ again_and_again (get_or xs i e).count (one (get_or xs i e).system) c → add_contained one (drop i xs) c ≡ add_contained one (drop (i + 1) xs) d
  unfolding add_contained
  contained_step e within d h = rw (add-one, drop-cons xs i e) (ap (λ (y : Listing). add_contained one (drop (suc i) xs) y) (sym h))

  pub contained_none : length xs ≤ i → add_contained one (drop i xs) c ≡ c
  unfolding add_contained
  contained_none h = rw (drop_all i xs h) refl

module _ (ts : Compounds) (front : List ℤ) (xs : List Content) (i : ℕ) where
  pub contents_step : (d : Content) → i < length xs → front ++ contents_least ts (drop i xs) ≡ (front ++ content_least ts (get_or xs i d)) ++ contents_least ts (drop (i + 1) xs)
  unfolding contents_least
  contents_step d within = rw (add-one, drop-cons xs i d) (sym (append_assoc front (content_least ts (get_or xs i d)) (contents_least ts (drop (suc i) xs))))

  pub contents_none : length xs ≤ i → front ++ contents_least ts (drop i xs) ≡ front
  unfolding contents_least
  contents_none h = rw (drop_all i xs h, append-nil front) refl
