-- The order of words: shorter ones first, and those of one length as in a dictionary.
use Rattle.std.proofs.Common.{◌≡◌, ◌⊎◌, inl, inr, ⊎_elim, ◌<◌, ◌≤◌, ℕ, suc, Bool, true, false, List, [], ◌∷◌, ◌++◌, length, refl, arith, length-append}
use Rattle.std.proofs.lemmas.Bool.{ltb-true, lt-ltb, eqb-true, eq-eqb, cases_lt}
use Rattle.std.specs.Prelude.{◌≢◌, ◌==◌, ◌&&◌, ◌||◌, nat_lt}
use Rattle.cp_ends.specs.Firsts.{in_dictionary, is_up_to}
use Rattle.cp_ends.proofs.named.OnNames.{shorter_first as up_to_shorter}

-- less, or the same and the test passes
abbrev both : ℕ → ℕ → Bool → Bool
both p q b = nat_lt p q || ((p == q) && b)

from_less : (p q : ℕ) (b : Bool) → p < q → both p q b ≡ true
from_less p q b lt = by (nat_lt p q) (lt-ltb p q lt)
  where
    by : (less : Bool) → less ≡ true → (less || ((p == q) && b)) ≡ true
    by true e = refl
    by false e = cc

from_same : (p q : ℕ) (b : Bool) → p ≡ q → b ≡ true → both p q b ≡ true
from_same p q b same h = by (nat_lt p q) (p == q) b (eq-eqb p q same) h
  where
    by : (less alike c : Bool) → alike ≡ true → c ≡ true → (less || (alike && c)) ≡ true
    by true alike c e h = refl
    by false true c e h = h
    by false false c e h = cc

parts : (p q : ℕ) (b : Bool) → both p q b ≡ true → (p < q) ⊎ ((p ≡ q) × (b ≡ true))
parts p q b = by (nat_lt p q) (p == q) b (ltb-true p q) (eqb-true p q)
  where
    by : (less alike c : Bool) → (less ≡ true → p < q) → (alike ≡ true → p ≡ q) → (less || (alike && c)) ≡ true → (p < q) ⊎ ((p ≡ q) × (c ≡ true))
    by true alike c l a h = inl (l refl)
    by false true c l a h = inr (a refl, h)
    by false false c l a h = cc

dictionary_same : (v : List ℕ) → in_dictionary v v ≡ true
dictionary_same [] = refl
dictionary_same (p ∷ v) = from_same p p (in_dictionary v v) refl (dictionary_same v)

dictionary_joined : (u v w : List ℕ) → in_dictionary u v ≡ true → in_dictionary v w ≡ true → in_dictionary u w ≡ true
dictionary_joined [] v w first second = refl
dictionary_joined (p ∷ u) (q ∷ v) (r ∷ w) first second = by (parts p q (in_dictionary u v) first) (parts q r (in_dictionary v w) second) (dictionary_joined u v w)
  where
    by : (p < q) ⊎ ((p ≡ q) × (in_dictionary u v ≡ true)) → (q < r) ⊎ ((q ≡ r) × (in_dictionary v w ≡ true)) → (in_dictionary u v ≡ true → in_dictionary v w ≡ true → in_dictionary u w ≡ true) → in_dictionary (p ∷ u) (r ∷ w) ≡ true
    by (inl a) (inl b) on = from_less p r (in_dictionary u w) (omega (arith, a, b))
    by (inl a) (inr b) on = let e = b.0 in from_less p r (in_dictionary u w) (omega (arith, a, e))
    by (inr a) (inl b) on = let e = a.0 in from_less p r (in_dictionary u w) (omega (arith, b, e))
    by (inr a) (inr b) on = from_same p r (in_dictionary u w) (cc (a.0, b.0)) (on a.1 b.1)
dictionary_joined (p ∷ u) x y first second = cc

dictionary_push : (v w : List ℕ) (p q : ℕ) → length v ≡ length w → in_dictionary v w ≡ true → (v ≢ w) ⊎ (p ≤ q) → in_dictionary (v ++ p ∷ []) (w ++ q ∷ []) ≡ true
dictionary_push [] [] p q long h (inl other) = absurd (other refl)
dictionary_push [] [] p q long h (inr le) = ⊎_elim (λ (lt : p < q). from_less p q true lt) (λ (ge : q ≤ p). from_same p q true (omega (arith, le, ge)) refl) (cases_lt p q)
dictionary_push [] (b ∷ w) p q long h or = absurd (omega (arith, long))
dictionary_push (a ∷ v) [] p q long h or = absurd (omega (arith, long))
dictionary_push (a ∷ v) (b ∷ w) p q long h or = by (parts a b (in_dictionary v w) h) (dictionary_push v w p q (omega (arith, long)))
  where
    onward : a ≡ b → ((a ∷ v) ≢ (b ∷ w)) ⊎ (p ≤ q) → (v ≢ w) ⊎ (p ≤ q)
    onward e (inl other) = inl (λ same. other (cc))
    onward e (inr le) = inr le

    by : (a < b) ⊎ ((a ≡ b) × (in_dictionary v w ≡ true)) → (in_dictionary v w ≡ true → (v ≢ w) ⊎ (p ≤ q) → in_dictionary (v ++ p ∷ []) (w ++ q ∷ []) ≡ true) → in_dictionary ((a ∷ v) ++ p ∷ []) ((b ∷ w) ++ q ∷ []) ≡ true
    by (inl lt) on = from_less a b (in_dictionary (v ++ p ∷ []) (w ++ q ∷ [])) lt
    by (inr e) on = from_same a b (in_dictionary (v ++ p ∷ []) (w ++ q ∷ [])) e.0 (on e.1 (onward e.0 or))

-- shorter, or as long and not after it
up_to_parts : (v w : List ℕ) → is_up_to v w ≡ true → (length v < length w) ⊎ ((length v ≡ length w) × (in_dictionary v w ≡ true))
unfolding is_up_to
up_to_parts v w h = parts (length v) (length w) (in_dictionary v w) h

up_to_dictionary : (v w : List ℕ) → length v ≡ length w → in_dictionary v w ≡ true → is_up_to v w ≡ true
unfolding is_up_to
up_to_dictionary v w long h = from_same (length v) (length w) (in_dictionary v w) long h

pub up_to_same : (v : List ℕ) → is_up_to v v ≡ true
up_to_same v = up_to_dictionary v v refl (dictionary_same v)

-- no word comes before the empty one
pub up_to_empty : (w : List ℕ) → is_up_to [] w ≡ true
up_to_empty [] = up_to_same []
up_to_empty (q ∷ w) = up_to_shorter [] (q ∷ w) (omega arith)

pub up_to_joined : (u v w : List ℕ) → is_up_to u v ≡ true → is_up_to v w ≡ true → is_up_to u w ≡ true
up_to_joined u v w first second = by (up_to_parts u v first) (up_to_parts v w second)
  where
    by : (length u < length v) ⊎ ((length u ≡ length v) × (in_dictionary u v ≡ true)) → (length v < length w) ⊎ ((length v ≡ length w) × (in_dictionary v w ≡ true)) → is_up_to u w ≡ true
    by (inl a) (inl b) = up_to_shorter u w (omega (arith, a, b))
    by (inl a) (inr b) = let e = b.0 in up_to_shorter u w (omega (arith, a, e))
    by (inr a) (inl b) = let e = a.0 in up_to_shorter u w (omega (arith, b, e))
    by (inr a) (inr b) = up_to_dictionary u w (cc (a.0, b.0)) (dictionary_joined u v w a.1 b.1)

-- a word is no shorter than one before it
pub up_to_length : (v w : List ℕ) → is_up_to v w ≡ true → length v ≤ length w
up_to_length v w h = ⊎_elim (λ (lt : length v < length w). let le : length v ≤ length w = omega (arith, lt) in le) (λ (e : (length v ≡ length w) × (in_dictionary v w ≡ true)). let same = e.0 in let le : length v ≤ length w = omega (arith, same) in le) (up_to_parts v w h)

pub push_length : (v : List ℕ) (p : ℕ) → length (v ++ p ∷ []) ≡ suc (length v)
push_length v p = omega (arith, length-append v (p ∷ []))

-- words that are longer by one number are in the order of the shorter ones, or of the numbers
pub up_to_push : (v w : List ℕ) (p q : ℕ) → is_up_to v w ≡ true → (v ≢ w) ⊎ (p ≤ q) → is_up_to (v ++ p ∷ []) (w ++ q ∷ []) ≡ true
up_to_push v w p q h or = by (up_to_parts v w h)
  where
    by : (length v < length w) ⊎ ((length v ≡ length w) × (in_dictionary v w ≡ true)) → is_up_to (v ++ p ∷ []) (w ++ q ∷ []) ≡ true
    by (inl lt) = up_to_shorter (v ++ p ∷ []) (w ++ q ∷ []) (omega (arith, lt, push_length v p, push_length w q))
    by (inr e) = let same = e.0 in up_to_dictionary (v ++ p ∷ []) (w ++ q ∷ []) (omega (arith, same, push_length v p, push_length w q)) (dictionary_push v w p q same e.1 or)
