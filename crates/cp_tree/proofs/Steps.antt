-- The steps that every rule is made of: what they take from the tokens.
use Rattle.std.proofs.Common.{◌≡◌, ℕ, ◌≤◌, true, false, cond, List, ◌∷◌, Option, Some, None, Ok, Err, refl, ap, subst, arith, rules}
use denote.Enum.Bare.{same_true}
use Rattle.cp_text.specs.contracts.token.Mark.{the_type}
use Rattle.cp_text.specs.declared.token.Kind.{Kind}
use Rattle.cp_text.specs.declared.token.Kind.TheVariants as kind
use Rattle.cp_text.specs.declared.token.Mark.{Mark}
use Rattle.cp_tree.specs.declared.fault.ParseFault.TheVariants.{Unexpected, OutsideProfile, TooDeep, Memory}
use Rattle.cp_tree.specs.Input.{Input, Outcome, Parser, and_then, ◌>>=◌, pure, deep, same, is_mark, first_mark, mark, sees, move, advance, expect}
use Rattle.cp_tree.specs.SpellingIndexed.{Begins}
use Rattle.cp_tree.proofs.Shapes.{Shape, mark_shape, pair_of}

-- ---- outcomes

-- What was read has P, and an error lies at a place among the tokens.
abbrev pub Found : {A : Type 0} → ℕ → (A → Input → Type 0) → Outcome A → Type 0
Found total P (Ok p) = P p.0 p.1
Found total P (Err (Unexpected n)) = n ≤ total
Found total P (Err (TooDeep n)) = n ≤ total
Found total P (Err (OutsideProfile n)) = ⊥
Found total P (Err Memory) = ⊥

pub found_then : {A B : Type 0} (total : ℕ) (P : A → Input → Type 0) (Q : B → Input → Type 0) (r : Outcome A) (f : A → Parser B)
    → Found total P r → ((x : A) (j : Input) → P x j → Found total Q (f x j)) → Found total Q (and_then r f)
found_then total P Q (Ok p) f h g = g p.0 p.1 h
found_then total P Q (Err (Unexpected n)) f h g = h
found_then total P Q (Err (TooDeep n)) f h g = h
found_then total P Q (Err (OutsideProfile n)) f h g = absurd h
found_then total P Q (Err Memory) f h g = absurd h

-- the same, where two steps are known together
pub found_after : {A B C : Type 0} (total : ℕ) (P : B → Input → Type 0) (Q : C → Input → Type 0) (r : Outcome A) (f : A → Parser B) (g : B → Parser C)
    → Found total P (and_then r f) → ((x : B) (j : Input) → P x j → Found total Q (g x j)) → Found total Q (and_then r (λ x i. and_then (f x i) g))
found_after total P Q (Ok p) f g h goes = found_then total P Q (f p.0 p.1) g h goes
found_after total P Q (Err (Unexpected n)) f g h goes = h
found_after total P Q (Err (TooDeep n)) f g h goes = h
found_after total P Q (Err (OutsideProfile n)) f g h goes = absurd h
found_after total P Q (Err Memory) f g h goes = absurd h

pub found_map : {A : Type 0} (total : ℕ) (P Q : A → Input → Type 0) (r : Outcome A) → Found total P r → ((x : A) (j : Input) → P x j → Q x j) → Found total Q r
found_map total P Q (Ok p) h g = g p.0 p.1 h
found_map total P Q (Err (Unexpected n)) h g = h
found_map total P Q (Err (TooDeep n)) h g = h
found_map total P Q (Err (OutsideProfile n)) h g = absurd h
found_map total P Q (Err Memory) h g = absurd h

-- ---- what was taken

-- the input has this place among all tokens
abbrev pub At : ℕ → Input → Type 0
At total i = Begins total i.at i.rest

-- the number of a node that begins here
pub begins : (total : ℕ) (i : Input) (ks : List Kind) → At total i → i.rest ≡ ks → Begins total i.at ks
begins total i ks placed e = subst (λ (r : List Kind). Begins total i.at r) e placed

-- the tokens at the start are those of the value, and then the rest
pub record Took {A : Type 0} (b : ℕ) (s : Shape A) (start : List Kind) (x : A) (rest : List Kind) : Type 0 where
  pub spelled : start ≡ s.put x rest
  pub indexed : s.indexed x rest
  pub shallow : s.depth x ≤ b

pub took_onto : {A : Type 0} (b : ℕ) (s : Shape A) (start : List Kind) (x : A) (rest onto : List Kind) → Took b s start x rest → rest ≡ onto → Took b s start x onto
took_onto b s start x rest onto t e = subst (λ (ks : List Kind). Took b s start x ks) e t

abbrev pub Taken : {A : Type 0} → ℕ → ℕ → Shape A → Input → A → Input → Type 0
Taken total b s i x j = Took b s i.rest x j.rest × At total j

-- The parser reads this shape, in at most this many levels.
abbrev pub Takes : {A : Type 0} → ℕ → ℕ → Shape A → Parser A → Type 0
Takes total b s p = (i : Input) → At total i → Found total (Taken total b s i) (p i)

pub takes_deep : {A : Type 0} (total b : ℕ) (s : Shape A) → Takes total b s deep
takes_deep total b s i placed = omega arith

-- ---- tokens

-- between the inputs stands a mark
pub record Passed (total : ℕ) (m : Mark) (i j : Input) : Type 0 where
  pub rest : i.rest ≡ kind.Mark m ∷ j.rest
  pub placed : At total j

same_is : (m n : Mark) → same m n ≡ true → m ≡ n
unfolding same
same_is m n e = same_true the_type (search rules) _ _ e

passed_list : (total : ℕ) (m : Mark) (at : ℕ) (ks : List Kind) → Begins total at ks → first_mark ks ≡ Some m → Passed total m (record { at = at; rest = ks }) (move at ks)
passed_list total m at (kind.Mark n ∷ ks) p e = record { rest = cc; placed = omega arith }
passed_list total m at _ p e = absurd cc

pub passed : (total : ℕ) (m : Mark) (i : Input) → At total i → mark i ≡ Some m → Passed total m i (advance i)
unfolding mark advance
passed total m i p e = passed_list total m i.at i.rest p e

pub seen_mark : (m : Mark) (o : Option Mark) → is_mark m o ≡ true → o ≡ Some m
seen_mark m None e = absurd cc
seen_mark m (Some n) e = ap Some (same_is n m e)

pub sees_passes : (total : ℕ) (m : Mark) (i : Input) → At total i → sees m i ≡ true → Passed total m i (advance i)
unfolding sees
sees_passes total m i p e = passed total m i p (seen_mark m (mark i) e)

pub expect_takes : (total b : ℕ) (m : Mark) → Takes total b (mark_shape m) (expect m)
unfolding expect
expect_takes total b m i p = elim (sees m i) as (λ c. sees m i ≡ c → Found total (Taken total b (mark_shape m) i) (cond c (Ok (tt, advance i)) (Err (Unexpected i.at)))) [
  | true ↦ λ e. let q = sees_passes total m i p e in (record { spelled = q.rest; indexed = tt; shallow = omega arith }, q.placed)
  | false ↦ λ e. omega arith
] refl

-- ---- rules one after the other

pub joined : {A B : Type 0} (total b : ℕ) (s : Shape A) (t : Shape B) (i k j : Input) (x : A) (y : B) → Taken total b s i x k → Taken total b t k y j → Taken total b (pair_of s t) i (x, y) j
joined total b s t i k j x y p q =
    let one = took_onto b s i.rest x k.rest (t.put y j.rest) p.0 q.0.spelled in
    let two = q.0 in
    (record { spelled = one.spelled; indexed = (one.indexed, two.indexed); shallow = omega (arith, one.shallow, two.shallow) }, q.1)

-- The parsers of a rule read their shapes one after the other; then its value is made of theirs, and nothing more is read.
module _ (total b : ℕ) {C : Type 0} (Q : C → Input → Type 0) where
  pub found_one : {A : Type 0} (s : Shape A) (p : Parser A) (made : A → C) → Takes total b s p
      → (i : Input) → At total i → ((x : A) (j : Input) → Taken total b s i x j → Q (made x) j) → Found total Q ((p >>= (λ x. pure (made x))) i)
  found_one s p made law i placed goes = found_then total (Taken total b s i) Q (p i) (λ x. pure (made x)) (law i placed) goes

  pub found_two : {A B : Type 0} (s : Shape A) (t : Shape B) (p : Parser A) (q : Parser B) (made : A → B → C) → Takes total b s p → Takes total b t q
      → (i : Input) → At total i → ((x : A) (y : B) (j : Input) → Taken total b (pair_of s t) i (x, y) j → Q (made x y) j) → Found total Q ((p >>= (λ x. q >>= (λ y. pure (made x y)))) i)
  found_two s t p q made law more i placed goes =
      found_then total (Taken total b s i) Q (p i) (λ x. q >>= (λ y. pure (made x y))) (law i placed) (λ x k h.
      found_one t q (made x) more k h.1 (λ y j r. goes x y j (joined total b s t i k j x y h r)))

  pub found_three : {A B D : Type 0} (s : Shape A) (t : Shape B) (u : Shape D) (p : Parser A) (q : Parser B) (r : Parser D) (made : A → B → D → C) → Takes total b s p → Takes total b t q → Takes total b u r
      → (i : Input) → At total i → ((x : A) (y : B) (z : D) (j : Input) → Taken total b (pair_of s (pair_of t u)) i (x, (y, z)) j → Q (made x y z) j)
      → Found total Q ((p >>= (λ x. q >>= (λ y. r >>= (λ z. pure (made x y z))))) i)
  found_three s t u p q r made law more last i placed goes =
      found_then total (Taken total b s i) Q (p i) (λ x. q >>= (λ y. r >>= (λ z. pure (made x y z)))) (law i placed) (λ x k h.
      found_two t u q r (made x) more last k h.1 (λ y z j g. goes x y z j (joined total b s (pair_of t u) i k j x (y, z) h g)))

  pub found_four : {A B D E : Type 0} (s : Shape A) (t : Shape B) (u : Shape D) (v : Shape E) (p : Parser A) (q : Parser B) (r : Parser D) (o : Parser E) (made : A → B → D → E → C)
      → Takes total b s p → Takes total b t q → Takes total b u r → Takes total b v o
      → (i : Input) → At total i → ((x : A) (y : B) (z : D) (w : E) (j : Input) → Taken total b (pair_of s (pair_of t (pair_of u v))) i (x, (y, (z, w))) j → Q (made x y z w) j)
      → Found total Q ((p >>= (λ x. q >>= (λ y. r >>= (λ z. o >>= (λ w. pure (made x y z w)))))) i)
  found_four s t u v p q r o made law more next last i placed goes =
      found_then total (Taken total b s i) Q (p i) (λ x. q >>= (λ y. r >>= (λ z. o >>= (λ w. pure (made x y z w))))) (law i placed) (λ x k h.
      found_three t u v q r o (made x) more next last k h.1 (λ y z w j g. goes x y z w j (joined total b s (pair_of t (pair_of u v)) i k j x (y, (z, w)) h g)))

  pub found_five : {A B D E F : Type 0} (s : Shape A) (t : Shape B) (u : Shape D) (v : Shape E) (w : Shape F) (p : Parser A) (q : Parser B) (r : Parser D) (o : Parser E) (l : Parser F) (made : A → B → D → E → F → C)
      → Takes total b s p → Takes total b t q → Takes total b u r → Takes total b v o → Takes total b w l
      → (i : Input) → At total i → ((x1 : A) (x2 : B) (x3 : D) (x4 : E) (x5 : F) (j : Input) → Taken total b (pair_of s (pair_of t (pair_of u (pair_of v w)))) i (x1, (x2, (x3, (x4, x5)))) j → Q (made x1 x2 x3 x4 x5) j)
      → Found total Q ((p >>= (λ x1. q >>= (λ x2. r >>= (λ x3. o >>= (λ x4. l >>= (λ x5. pure (made x1 x2 x3 x4 x5))))))) i)
  found_five s t u v w p q r o l made law1 law2 law3 law4 law5 i placed goes =
      found_then total (Taken total b s i) Q (p i) (λ x1. q >>= (λ x2. r >>= (λ x3. o >>= (λ x4. l >>= (λ x5. pure (made x1 x2 x3 x4 x5)))))) (law1 i placed) (λ x1 k h.
      found_four t u v w q r o l (made x1) law2 law3 law4 law5 k h.1 (λ x2 x3 x4 x5 j g. goes x1 x2 x3 x4 x5 j (joined total b s (pair_of t (pair_of u (pair_of v w))) i k j x1 (x2, (x3, (x4, x5))) h g)))

  pub found_six : {A B D E F G : Type 0} (s : Shape A) (t : Shape B) (u : Shape D) (v : Shape E) (w : Shape F) (y : Shape G) (p : Parser A) (q : Parser B) (r : Parser D) (o : Parser E) (l : Parser F) (m : Parser G) (made : A → B → D → E → F → G → C)
      → Takes total b s p → Takes total b t q → Takes total b u r → Takes total b v o → Takes total b w l → Takes total b y m
      → (i : Input) → At total i → ((x1 : A) (x2 : B) (x3 : D) (x4 : E) (x5 : F) (x6 : G) (j : Input) → Taken total b (pair_of s (pair_of t (pair_of u (pair_of v (pair_of w y))))) i (x1, (x2, (x3, (x4, (x5, x6))))) j → Q (made x1 x2 x3 x4 x5 x6) j)
      → Found total Q ((p >>= (λ x1. q >>= (λ x2. r >>= (λ x3. o >>= (λ x4. l >>= (λ x5. m >>= (λ x6. pure (made x1 x2 x3 x4 x5 x6)))))))) i)
  found_six s t u v w y p q r o l m made law1 law2 law3 law4 law5 law6 i placed goes =
      found_then total (Taken total b s i) Q (p i) (λ x1. q >>= (λ x2. r >>= (λ x3. o >>= (λ x4. l >>= (λ x5. m >>= (λ x6. pure (made x1 x2 x3 x4 x5 x6))))))) (law1 i placed) (λ x1 k h.
      found_five t u v w y q r o l m (made x1) law2 law3 law4 law5 law6 k h.1 (λ x2 x3 x4 x5 x6 j g. goes x1 x2 x3 x4 x5 x6 j (joined total b s (pair_of t (pair_of u (pair_of v (pair_of w y)))) i k j x1 (x2, (x3, (x4, (x5, x6)))) h g)))

  pub found_seven : {A B D E F G H : Type 0} (s : Shape A) (t : Shape B) (u : Shape D) (v : Shape E) (w : Shape F) (y : Shape G) (z : Shape H) (p : Parser A) (q : Parser B) (r : Parser D) (o : Parser E) (l : Parser F) (m : Parser G) (n : Parser H) (made : A → B → D → E → F → G → H → C)
      → Takes total b s p → Takes total b t q → Takes total b u r → Takes total b v o → Takes total b w l → Takes total b y m → Takes total b z n
      → (i : Input) → At total i → ((x1 : A) (x2 : B) (x3 : D) (x4 : E) (x5 : F) (x6 : G) (x7 : H) (j : Input) → Taken total b (pair_of s (pair_of t (pair_of u (pair_of v (pair_of w (pair_of y z)))))) i (x1, (x2, (x3, (x4, (x5, (x6, x7)))))) j → Q (made x1 x2 x3 x4 x5 x6 x7) j)
      → Found total Q ((p >>= (λ x1. q >>= (λ x2. r >>= (λ x3. o >>= (λ x4. l >>= (λ x5. m >>= (λ x6. n >>= (λ x7. pure (made x1 x2 x3 x4 x5 x6 x7))))))))) i)
  found_seven s t u v w y z p q r o l m n made law1 law2 law3 law4 law5 law6 law7 i placed goes =
      found_then total (Taken total b s i) Q (p i) (λ x1. q >>= (λ x2. r >>= (λ x3. o >>= (λ x4. l >>= (λ x5. m >>= (λ x6. n >>= (λ x7. pure (made x1 x2 x3 x4 x5 x6 x7)))))))) (law1 i placed) (λ x1 k h.
      found_six t u v w y z q r o l m n (made x1) law2 law3 law4 law5 law6 law7 k h.1 (λ x2 x3 x4 x5 x6 x7 j g. goes x1 x2 x3 x4 x5 x6 x7 j (joined total b s (pair_of t (pair_of u (pair_of v (pair_of w (pair_of y z))))) i k j x1 (x2, (x3, (x4, (x5, (x6, x7))))) h g)))
