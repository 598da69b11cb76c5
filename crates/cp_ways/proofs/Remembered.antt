-- What is known of ways on.
use Rattle.std.proofs.Common.{◌≡◌, ◌∙◌, ◌<◌, ℕ, zero, suc, Bool, true, false, cond, if◌then◌else◌, Some, unwrap_or, List, [], ◌∷◌, All, length, drop, refl, sym, ap, subst, arith}
use Rattle.std.specs.Prelude.{nat_eq}
use Rattle.std.specs.Map.{lookup}
use Rattle.std.specs.Cmp.Lexicographic.{bytes_decides}
use Rattle.indexmap.specs.IndexMap.{insert_entry}
use lib.Pointwise.{pointwise}
use Rattle.cp_run.specs.Run.{Choosing}
use Rattle.cp_ways.proofs.Given.{Machine, System, Tables, Discipline, slots, core_key, walk}
use Rattle.cp_ways.specs.Ways.{since}
use Rattle.cp_ways.specs.Weights.{AreKnown, IsKnown, WeighAs}
use Rattle.cp_key.specs.declared.state_key.StateKey.{StateKey}
use Rattle.cp_ways.specs.declared.ways.Ways.{Ways}
use Rattle.cp_ways.proofs.Steps.{same_weight}

module _ (sys : System Machine) (steps : ℕ) where
  rekeyed : (k j : StateKey) (ways : Ways) → k.bytes.items ≡ j.bytes.items → IsKnown sys steps (k, ways) → IsKnown sys steps (j, ways)
  rekeyed k j ways same h = record { state = h.state; left = h.left; key = sym same ∙ h.key; ways = h.ways }

  all_cons : {A : Type 0} (P : A → Type 0) (x : A) (xs : List A) → P x → All P xs → All P (x ∷ xs)
  all_cons P x xs p h zero d lt = p
  all_cons P x xs p h (suc k) d lt = h k d (omega (arith, lt))

  all_rest : {A : Type 0} (P : A → Type 0) (x : A) (xs : List A) → All P (x ∷ xs) → All P xs
  all_rest P x xs h k d lt = h (suc k) d (omega (arith, lt))

  -- one more is known
  pub known_added : (es : List (StateKey × Ways)) (k : StateKey) (ways : Ways) → AreKnown sys steps es → IsKnown sys steps (k, ways) → AreKnown sys steps (insert_entry (λ i j. pointwise nat_eq i.bytes.items j.bytes.items) es k ways)
  known_added [] k ways h x = all_cons (IsKnown sys steps) (k, ways) [] x h
  known_added (e ∷ es) k ways h x = by (pointwise nat_eq k.bytes.items e.0.bytes.items) refl (known_added es k ways (all_rest (IsKnown sys steps) e es h) x)
    where
      rest : AreKnown sys steps es
      rest = all_rest (IsKnown sys steps) e es h

      by : (b : Bool) → pointwise nat_eq k.bytes.items e.0.bytes.items ≡ b → AreKnown sys steps (insert_entry (λ i j. pointwise nat_eq i.bytes.items j.bytes.items) es k ways) → AreKnown sys steps (if b then (e.0, ways) ∷ es else e ∷ insert_entry (λ i j. pointwise nat_eq i.bytes.items j.bytes.items) es k ways)
      by true q on = all_cons (IsKnown sys steps) (e.0, ways) es (rekeyed k e.0 ways ((bytes_decides k.bytes.items e.0.bytes.items).0 q) x) rest
      by false q on = all_cons (IsKnown sys steps) e (insert_entry (λ i j. pointwise nat_eq i.bytes.items j.bytes.items) es k ways) (h 0 e (omega arith)) on

  -- what is found
  pub record Found (key : List ℕ) (ways : Ways) : Type 0 where
    pub state_key : StateKey
    pub same : state_key.bytes.items ≡ key
    pub is : IsKnown sys steps (state_key, ways)

  pub known_found : (es : List (StateKey × Ways)) (key : List ℕ) (ways : Ways) → AreKnown sys steps es → lookup (λ k. pointwise nat_eq key k.bytes.items) es ≡ Some ways → Found key ways
  known_found [] key ways h e = absurd (cc)
  known_found (x ∷ xs) key ways h e = by (pointwise nat_eq key x.0.bytes.items) refl e (λ i. known_found xs key ways (all_rest (IsKnown sys steps) x xs h) i)
    where
      by : (b : Bool) → pointwise nat_eq key x.0.bytes.items ≡ b → cond b (Some x.1) (lookup (λ k. pointwise nat_eq key k.bytes.items) xs) ≡ Some ways → (lookup (λ k. pointwise nat_eq key k.bytes.items) xs ≡ Some ways → Found key ways) → Found key ways
      by true q i on =
          let same : x.1 ≡ ways = ap (λ o. unwrap_or o x.1) i in
          record { state_key = x.0; same = sym ((bytes_decides key x.0.bytes.items).0 q); is = subst (λ s. IsKnown sys steps (x.0, s)) same (h 0 x (omega arith)) }
      by false q i on = on i

head_of : (a b : ℕ) (x y : List ℕ) → a ∷ x ≡ b ∷ y → a ≡ b
head_of a b x y e = ap first e
  where
    first : List ℕ → ℕ
    first [] = a
    first (n ∷ ns) = n

tail_of : (a b : ℕ) (x y : List ℕ) → a ∷ x ≡ b ∷ y → x ≡ y
tail_of a b x y e = ap (drop 1) e

-- what is known of a state's key are its ways on
pub known_ways : (r : Tables) (discipline : Discipline) (steps left : ℕ) (n : Machine) (es : List (StateKey × Ways)) (key : List ℕ) (ways : Ways) → AreKnown (slots r discipline) steps es → key ≡ left ∷ core_key n → lookup (λ k. pointwise nat_eq key k.bytes.items) es ≡ Some ways → WeighAs (since (length n.output)) (walk (slots r discipline) steps left (Choosing n)) ways.list.entries
known_ways r discipline steps left n es key ways known keyed is =
    let found = known_found (slots r discipline) steps es key ways known is in
    let keys : found.is.left ∷ core_key found.is.state ≡ left ∷ core_key n = sym found.is.key ∙ found.same ∙ keyed in
    let lefts : found.is.left ≡ left = head_of found.is.left left (core_key found.is.state) (core_key n) keys in
    let cores : core_key found.is.state ≡ core_key n = tail_of found.is.left left (core_key found.is.state) (core_key n) keys in
    λ f. found.is.ways f ∙ ap (λ k. Rattle.cp_ways.specs.Weights.weight_of (λ o. f (since (length found.is.state.output) o)) (walk (slots r discipline) steps k (Choosing found.is.state))) lefts ∙ sym (same_weight r discipline steps left found.is.state n cores f)
