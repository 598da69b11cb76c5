-- What is found first in a list, as the code finds it.
use Rattle.std.proofs.Common.{◌≡◌, ◌∙◌, ℕ, zero, suc, ◌<◌, Bool, true, false, List, [], ◌∷◌, map, cond, refl, sym, ap, subst, arith}
use Rattle.std.specs.Prelude.{find, Option, None, Some, option_map, slice_get, ◌&&◌}
use Rattle.cp_verdict.proofs.any_length.Vocabulary.{list_all, Bor}

pub find_map : {A B : Type 0} (f : A → B) (t : B → Bool) (xs : List A) → find t (map f xs) ≡ option_map f (find (λ x. t (f x)) xs)
find_map f t [] = refl
find_map {A} {B} f t (x ∷ xs) = split (t (f x)) (find_map f t xs)
  where
    split : (b : Bool) → find t (map f xs) ≡ option_map f (find (λ (x : A). t (f x)) xs) → cond b (Some (f x)) (find t (map f xs)) ≡ option_map f (cond b (Some x) (find (λ (x : A). t (f x)) xs))
    split true h = refl
    split false h = h

pub map_twice : {A B C : Type 0} (f : A → B) (g : B → C) (o : Option A) → option_map (λ x. g (f x)) o ≡ option_map g (option_map f o)
map_twice f g None = refl
map_twice f g (Some x) = refl

-- what the code finds among borrowed things, told as findings
pub found_told : {A B : Type 0} (f : A → B) (t : B → Bool) (xs : List A) (found : Option (Bor A)) → option_map (λ e. e.now) found ≡ find (λ x. t (f x)) xs → option_map (λ e. f e.now) found ≡ find t (map f xs)
found_told f t xs found here = map_twice (λ e. e.now) f found ∙ ap (option_map f) here ∙ sym (find_map f t xs)

pub find_same : {A : Type 0} (t u : A → Bool) (xs : List A) → ((x : A) → t x ≡ u x) → find t xs ≡ find u xs
find_same t u [] same = refl
find_same t u (x ∷ xs) same = ap (λ b. cond b (Some x) (find t xs)) (same x) ∙ ap (λ o. cond (u x) (Some x) o) (find_same t u xs same)

pub map_map : {A B C : Type 0} (f : A → B) (g : B → C) (xs : List A) → map g (map f xs) ≡ map (λ x. g (f x)) xs
map_map f g [] = refl
map_map f g (x ∷ xs) = ap (λ l. g (f x) ∷ l) (map_map f g xs)

-- ---- what is found, and what is not

pub record IsFoundAt {A : Type 0} (t : A → Bool) (xs : List A) (x : A) : Type 0 where
  pub place : ℕ
  pub at : slice_get xs place ≡ Some x
  pub passes : t x ≡ true
  pub before : (j : ℕ) (y : A) → j < place → slice_get xs j ≡ Some y → t y ≡ false

pub some_same : {A : Type 0} (x y : A) → Some x ≡ Some y → x ≡ y
some_same x y e = cc

later : {A : Type 0} (t : A → Bool) (y x : A) (ys : List A) → IsFoundAt t ys x → t y ≡ false → IsFoundAt t (y ∷ ys) x
later {A} t y x ys h fails = record { place = suc h.place; at = h.at; passes = h.passes; before = earlier }
  where
    earlier : (j : ℕ) (z : A) → j < suc h.place → slice_get (y ∷ ys) j ≡ Some z → t z ≡ false
    earlier zero z less at = subst (λ w. t w ≡ false) (some_same y z at) fails
    earlier (suc j) z less at = h.before j z (omega (arith, less)) at

pub found_at : {A : Type 0} (t : A → Bool) (xs : List A) (x : A) → find t xs ≡ Some x → IsFoundAt t xs x
found_at t [] x e = absurd (cc)
found_at {A} t (y ∷ ys) x e = split (t y) refl e (λ f. found_at t ys x f)
  where
    split : (b : Bool) → t y ≡ b → cond b (Some y) (find t ys) ≡ Some x → (find t ys ≡ Some x → IsFoundAt t ys x) → IsFoundAt t (y ∷ ys) x
    split true is e rest = record { place = 0; at = e; passes = subst (λ w. t w ≡ true) (some_same y x e) is; before = λ j z less at. absurd (omega (arith, less)) }
    split false is e rest = later t y x ys (rest e) is

pub found_none : {A : Type 0} (t : A → Bool) (xs : List A) → find t xs ≡ None → (j : ℕ) (y : A) → slice_get xs j ≡ Some y → t y ≡ false
found_none t [] e j y at = absurd (cc)
found_none {A} t (x ∷ xs) e zero y at = split (t x) refl e
  where
    split : (b : Bool) → t x ≡ b → cond b (Some x) (find t xs) ≡ None → t y ≡ false
    split true is e = absurd (cc)
    split false is e = subst (λ w. t w ≡ false) (some_same x y at) is
found_none {A} t (x ∷ xs) e (suc j) y at = split (t x) e (λ f. found_none t xs f j y at)
  where
    split : (b : Bool) → cond b (Some x) (find t xs) ≡ None → (find t xs ≡ None → t y ≡ false) → t y ≡ false
    split true e on = absurd (cc)
    split false e on = on e

-- ---- what all of a list are

pub all_pass : {A : Type 0} (t : A → Bool) (xs : List A) → list_all t xs ≡ true → (j : ℕ) (y : A) → slice_get xs j ≡ Some y → t y ≡ true
all_pass t [] h j y at = absurd (cc)
all_pass {A} t (x ∷ xs) h zero y at = split (t x) refl h
  where
    split : (b : Bool) → t x ≡ b → (b && list_all t xs) ≡ true → t y ≡ true
    split true is h = subst (λ w. t w ≡ true) (some_same x y at) is
    split false is h = absurd (cc)
all_pass {A} t (x ∷ xs) h (suc j) y at = split (t x) h (λ f. all_pass t xs f j y at)
  where
    split : (b : Bool) → (b && list_all t xs) ≡ true → (list_all t xs ≡ true → t y ≡ true) → t y ≡ true
    split true h on = on h
    split false h on = absurd (cc)

pub map_at : {A B : Type 0} (f : A → B) (xs : List A) (j : ℕ) (y : B) → slice_get (map f xs) j ≡ Some y → (x : A) × (slice_get xs j ≡ Some x) × (f x ≡ y)
map_at f [] j y at = absurd (cc)
map_at f (x ∷ xs) zero y at = (x, refl, some_same (f x) y at)
map_at f (x ∷ xs) (suc j) y at = map_at f xs j y at

pub at_map : {A B : Type 0} (f : A → B) (xs : List A) (j : ℕ) (x : A) → slice_get xs j ≡ Some x → slice_get (map f xs) j ≡ Some (f x)
at_map f [] j x at = absurd (cc)
at_map f (y ∷ ys) zero x at = ap (λ z. Some (f z)) (some_same y x at)
at_map f (y ∷ ys) (suc j) x at = at_map f ys j x at
