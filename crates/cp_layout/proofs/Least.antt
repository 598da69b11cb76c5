-- The cells with which a variable begins: loops over elements and fields, and types that hold earlier ones alone.
use Rattle.std.proofs.Common.{◌≡◌, ℕ, zero, suc, ◌+◌, ◌<◌, ◌≤◌, ℤ, List, [], ◌++◌, length, get_or, drop, map, slice_get, Option, None, refl, sym, add-one, append_assoc, arith}
use Rattle.std.proofs.Math.Seq.{drop-cons}
use Rattle.std.proofs.lemmas.List.{drop_all, append-nil}
use Rattle.std.proofs.lemmas.Bool.Decides.{nat_tests}
use Rattle.cp_layout.specs.declared.kinds.Field as code_field
use Rattle.cp_symbols.specs.Kinds.{Compound, Compounds}
use Rattle.cp_layout.specs.Kinds.{field_seen, copies, least_by, fields_least, compound_least, compound_below}

pub compound_inside : (ts : Compounds) (bound n : ℕ) → n < bound → compound_below ts bound n ≡ compound_least (compound_below ts n) (slice_get ts n)
unfolding compound_below
compound_inside ts zero n h = grind (arith, nat_tests)
compound_inside ts (suc bound) n h = let below = compound_inside ts bound n in grind (arith, nat_tests, below)

pub compound_outside : (ts : Compounds) (bound n : ℕ) → bound ≤ n → compound_below ts bound n ≡ []
unfolding compound_below
compound_outside ts zero n h = refl
compound_outside ts (suc bound) n h = let below = compound_outside ts bound n in grind (arith, nat_tests, below)

pub copies_step : (front zs : List ℤ) (n : ℕ) → (front ++ copies n zs) ++ zs ≡ front ++ copies (n + 1) zs
unfolding copies
copies_step front zs n = rw (add-one) (append_assoc front (copies n zs) zs)

pub copies_none : (front zs : List ℤ) → front ++ copies 0 zs ≡ front
unfolding copies
copies_none front zs = append-nil front

module _ (compound : ℕ → List ℤ) (front : List ℤ) (xs : List code_field.Field) (i : ℕ) where
  pub fields_step : (x : code_field.Field) → i < length xs → x ≡ get_or xs i x → front ++ fields_least compound (map field_seen (drop i xs)) ≡ (front ++ least_by compound x.value_type) ++ fields_least compound (map field_seen (drop (i + 1) xs))
  unfolding fields_least
  fields_step x within here = rw (add-one, drop-cons xs i x, ← here) (sym (append_assoc front (least_by compound x.value_type) (fields_least compound (map field_seen (drop (suc i) xs)))))

  pub fields_none : length xs ≤ i → front ++ fields_least compound (map field_seen (drop i xs)) ≡ front
  unfolding fields_least
  fields_none h = rw (drop_all i xs h, append-nil front) refl

pub nothing_more : (front : List ℤ) → front ++ [] ≡ front
nothing_more front = append-nil front

pub nothing_there : (compound : ℕ → List ℤ) (front : List ℤ) (o : Option Compound) → o ≡ None → front ≡ front ++ compound_least compound o
nothing_there compound front o e = rw e (sym (append-nil front))
