-- The steps that every rule is made of, on the tokens of a tree: they give the tree's part back, or it is too deep.
use Rattle.std.proofs.Common.{◌≡◌, ℕ, ◌+◌, ◌<◌, ◌≤◌, Bool, true, false, cond, List, ◌∷◌, Option, Some, Ok, Err, refl, sym, subst, arith}
use denote.Enum.Bare.{true_same}
use Rattle.cp_text.specs.contracts.token.Mark.{the_type}
use Rattle.cp_text.specs.declared.token.Kind.{Kind}
use Rattle.cp_text.specs.declared.token.Kind.TheVariants as kind
use Rattle.cp_text.specs.declared.token.Mark.{Mark}
use Rattle.cp_text.specs.declared.token.Mark.TheVariants as mark
use Rattle.cp_tree.specs.declared.fault.ParseFault.TheVariants.{Unexpected, OutsideProfile, TooDeep, Memory}
use Rattle.cp_tree.specs.Input as Input
use Rattle.cp_tree.specs.Input.{Input, Outcome, Parser, and_then, ◌>>=◌, pure, same, is_mark, first_mark, sees, advance, after, expect, eat}
use Rattle.cp_tree.specs.Spelling.{put_optional}
use Rattle.cp_tree.specs.SpellingIndexed.{Begins}
use Rattle.cp_tree.proofs.Shapes.{Shape, mark_shape, pair_of}
use Rattle.cp_tree.proofs.Steps.{At}

abbrev pub on : ℕ → List Kind → Input
on n ks = record { at = n; rest = ks }

-- The outcome is this value before these tokens, or D holds and the value is too deep.
abbrev pub Lands : {A : Type 0} → ℕ → Type 0 → A → List Kind → Outcome A → Type 0
Lands total D a rest (Ok p) = (p.0 ≡ a) × (p.1.rest ≡ rest) × At total p.1
Lands total D a rest (Err (TooDeep n)) = D
Lands total D a rest (Err (Unexpected n)) = ⊥
Lands total D a rest (Err (OutsideProfile n)) = ⊥
Lands total D a rest (Err Memory) = ⊥

pub lands_then : {A B : Type 0} (total : ℕ) (D E : Type 0) (r : Outcome A) (f : A → Parser B) (a : A) (rest : List Kind) (c : B) (end : List Kind)
    → Lands total D a rest r → (D → E) → ((n : ℕ) → Begins total n rest → Lands total E c end (f a (on n rest))) → Lands total E c end (and_then r f)
lands_then {A} total D E (Ok p) f a rest c end (same_value, same_rest, placed) up g =
    let here : Begins total p.1.at rest = subst (λ (ks : List Kind). Begins total p.1.at ks) same_rest placed in
    let one : Lands total E c end (f a (on p.1.at p.1.rest)) = subst (λ (ks : List Kind). Lands total E c end (f a (on p.1.at ks))) (sym same_rest) (g p.1.at here) in
    subst (λ (x : A). Lands total E c end (f x p.1)) (sym same_value) one
lands_then total D E (Err (TooDeep n)) f a rest c end h up g = up h
lands_then total D E (Err (Unexpected n)) f a rest c end h up g = absurd h
lands_then total D E (Err (OutsideProfile n)) f a rest c end h up g = absurd h
lands_then total D E (Err Memory) f a rest c end h up g = absurd h

pub lands_map : {A : Type 0} (total : ℕ) (D E : Type 0) (r : Outcome A) (a : A) (rest : List Kind) → Lands total D a rest r → (D → E) → Lands total E a rest r
lands_map total D E (Ok p) a rest h up = h
lands_map total D E (Err (TooDeep n)) a rest h up = up h
lands_map total D E (Err (Unexpected n)) a rest h up = h
lands_map total D E (Err (OutsideProfile n)) a rest h up = h
lands_map total D E (Err Memory) a rest h up = h

-- Where the tokens at the place are this value's, and it is as the shape asks, the parser gives it back.
abbrev pub LandsOn : {A : Type 0} → ℕ → ℕ → Shape A → Parser A → A → Type 0
LandsOn total b s p x = (n : ℕ) (ks : List Kind) → Begins total n (s.put x ks) → s.indexed x ks → Lands total (b < s.depth x) x ks (p (on n (s.put x ks)))

abbrev pub LandsAll : {A : Type 0} → ℕ → ℕ → Shape A → Parser A → Type 0
LandsAll {A} total b s p = (x : A) → LandsOn total b s p x

-- the shape where this is asked of the tokens that follow, too
abbrev pub before : {A : Type 0} → Shape A → (List Kind → Type 0) → Shape A
before s F = record { put = s.put; indexed = λ x ks. s.indexed x ks × F ks; depth = s.depth }

-- ---- tokens

pub same_refl : (m : Mark) → same m m ≡ true
unfolding same
same_refl m = true_same the_type m m refl

pub expect_lands : (total b : ℕ) (m : Mark) → LandsAll total b (mark_shape m) (expect m)
unfolding expect sees Input.mark advance
expect_lands total b m u n ks placed indexed = subst (λ (c : Bool). Lands total (b < 0) tt ks (cond c (Ok (tt, on (n + 1) ks)) (Err (Unexpected n)))) (sym (same_refl m)) (refl, refl, omega arith)

-- Where the mark is absent, it is not the token that follows.
abbrev pub option_before : Mark → Shape Bool
option_before m = record { put = put_optional m; indexed = λ c ks. c ≡ false → is_mark m (first_mark ks) ≡ false; depth = λ c. 0 }

pub eat_lands : (total b : ℕ) (m : Mark) → LandsAll total b (option_before m) (eat m)
unfolding after sees Input.mark advance
eat_lands total b m true n ks placed indexed = let e = same_refl m in subst (λ (c : Bool). (c ≡ true) × ((cond c (on (n + 1) ks) (on n (kind.Mark m ∷ ks))).rest ≡ ks) × At total (cond c (on (n + 1) ks) (on n (kind.Mark m ∷ ks)))) (sym e) (refl, refl, omega arith)
eat_lands total b m false n ks placed indexed = let e = indexed refl in subst (λ (c : Bool). (c ≡ false) × ((cond c (advance (on n ks)) (on n ks)).rest ≡ ks) × At total (cond c (advance (on n ks)) (on n ks))) (sym e) (refl, refl, placed)

-- a parser after a mark that is there, and one where it is not
pub eaten : {A : Type 0} (total : ℕ) (D : Type 0) (m : Mark) (p q : Parser A) (n : ℕ) (ks : List Kind) (x : A) (rest : List Kind) → Begins total n (kind.Mark m ∷ ks)
    → ((k : ℕ) → Begins total k ks → Lands total D x rest (p (on k ks)))
    → Lands total D x rest ((cond (sees m (on n (kind.Mark m ∷ ks))) p q) (after m (on n (kind.Mark m ∷ ks))))
unfolding after sees Input.mark advance
eaten {A} total D m p q n ks x rest placed h =
    let i = on n (kind.Mark m ∷ ks) in
    subst (λ (c : Bool). Lands total D x rest ((cond c p q) (cond c (on (n + 1) ks) i))) (sym (same_refl m)) (h (n + 1) (omega arith))

pub not_eaten : {A : Type 0} (total : ℕ) (D : Type 0) (m : Mark) (p q : Parser A) (n : ℕ) (ks : List Kind) (x : A) (rest : List Kind) → is_mark m (first_mark ks) ≡ false
    → Lands total D x rest (q (on n ks)) → Lands total D x rest ((cond (sees m (on n ks)) p q) (after m (on n ks)))
unfolding after sees Input.mark
not_eaten {A} total D m p q n ks x rest unseen h = subst (λ (c : Bool). Lands total D x rest ((cond c p q) (cond c (advance (on n ks)) (on n ks)))) (sym unseen) h

-- ---- what may follow an expression

-- how tightly a token goes with the expression before it
abbrev pub class : Option Mark → ℕ
class (Some mark.Period) = 5
class (Some mark.OpenBracket) = 5
class (Some mark.OpenParenthesis) = 4
class (Some mark.Times) = 3
class (Some mark.Div) = 3
class (Some mark.Mod) = 3
class (Some mark.And) = 3
class (Some mark.Plus) = 2
class (Some mark.Minus) = 2
class (Some mark.Or) = 2
class (Some mark.Equal) = 1
class (Some mark.NotEqual) = 1
class (Some mark.Less) = 1
class (Some mark.Greater) = 1
class (Some mark.AtMost) = 1
class (Some mark.AtLeast) = 1
class (Some mark.In) = 1
class _ = 0

abbrev pub Stops : ℕ → List Kind → Type 0
Stops k ks = class (first_mark ks) ≤ k

-- ---- rules one after the other

module _ (total b : ℕ) {C : Type 0} (E : Type 0) (c : C) where
  pub land_one : {A : Type 0} (s : Shape A) (p : Parser A) (made : A → C) (x : A) → LandsOn total b s p x
      → (n : ℕ) (ks : List Kind) → Begins total n (s.put x ks) → s.indexed x ks → (b < s.depth x → E) → made x ≡ c
      → Lands total E c ks ((p >>= (λ x. pure (made x))) (on n (s.put x ks)))
  land_one s p made x law n ks placed indexed up e = lands_then total (b < s.depth x) E (p (on n (s.put x ks))) (λ x. pure (made x)) x ks c ks (law n ks placed indexed) up (λ k here. (e, refl, here))

  pub land_two : {A B : Type 0} (s : Shape A) (t : Shape B) (p : Parser A) (q : Parser B) (made : A → B → C) (x : A) (y : B) → LandsOn total b s p x → LandsOn total b t q y
      → (n : ℕ) (ks : List Kind) → Begins total n (s.put x (t.put y ks)) → (pair_of s t).indexed (x, y) ks → (b < (pair_of s t).depth (x, y) → E) → made x y ≡ c
      → Lands total E c ks ((p >>= (λ x. q >>= (λ y. pure (made x y)))) (on n (s.put x (t.put y ks))))
  land_two s t p q made x y law more n ks placed indexed up e =
      let rest = t.put y ks in
      lands_then total (b < s.depth x) E (p (on n (s.put x rest))) (λ x. q >>= (λ y. pure (made x y))) x rest c ks (law n rest placed indexed.0) (λ d. up (omega arith)) (λ k here.
      land_one t q (made x) y more k ks here indexed.1 (λ d. up (omega arith)) e)

  pub land_three : {A B D : Type 0} (s : Shape A) (t : Shape B) (u : Shape D) (p : Parser A) (q : Parser B) (r : Parser D) (made : A → B → D → C) (x : A) (y : B) (z : D)
      → LandsOn total b s p x → LandsOn total b t q y → LandsOn total b u r z
      → (n : ℕ) (ks : List Kind) → Begins total n (s.put x (t.put y (u.put z ks))) → (pair_of s (pair_of t u)).indexed (x, (y, z)) ks → (b < (pair_of s (pair_of t u)).depth (x, (y, z)) → E) → made x y z ≡ c
      → Lands total E c ks ((p >>= (λ x. q >>= (λ y. r >>= (λ z. pure (made x y z))))) (on n (s.put x (t.put y (u.put z ks)))))
  land_three s t u p q r made x y z law more last n ks placed indexed up e =
      let rest = t.put y (u.put z ks) in
      lands_then total (b < s.depth x) E (p (on n (s.put x rest))) (λ x. q >>= (λ y. r >>= (λ z. pure (made x y z)))) x rest c ks (law n rest placed indexed.0) (λ d. up (omega arith)) (λ k here.
      land_two t u q r (made x) y z more last k ks here indexed.1 (λ d. up (omega arith)) e)

  pub land_four : {A B D F : Type 0} (s1 : Shape A) (s2 : Shape B) (s3 : Shape D) (s4 : Shape F) (p1 : Parser A) (p2 : Parser B) (p3 : Parser D) (p4 : Parser F) (made : A → B → D → F → C) (x1 : A) (x2 : B) (x3 : D) (x4 : F)
      → LandsOn total b s1 p1 x1 → LandsOn total b s2 p2 x2 → LandsOn total b s3 p3 x3 → LandsOn total b s4 p4 x4
      → (n : ℕ) (ks : List Kind) → Begins total n (s1.put x1 (s2.put x2 (s3.put x3 (s4.put x4 ks)))) → (pair_of s1 (pair_of s2 (pair_of s3 s4))).indexed (x1, (x2, (x3, x4))) ks → (b < (pair_of s1 (pair_of s2 (pair_of s3 s4))).depth (x1, (x2, (x3, x4))) → E) → made x1 x2 x3 x4 ≡ c
      → Lands total E c ks ((p1 >>= (λ x1. p2 >>= (λ x2. p3 >>= (λ x3. p4 >>= (λ x4. pure (made x1 x2 x3 x4)))))) (on n (s1.put x1 (s2.put x2 (s3.put x3 (s4.put x4 ks))))))
  land_four s1 s2 s3 s4 p1 p2 p3 p4 made x1 x2 x3 x4 law1 law2 law3 law4 n ks placed indexed up e =
      let rest = s2.put x2 (s3.put x3 (s4.put x4 ks)) in
      lands_then total (b < s1.depth x1) E (p1 (on n (s1.put x1 rest))) (λ x1. p2 >>= (λ x2. p3 >>= (λ x3. p4 >>= (λ x4. pure (made x1 x2 x3 x4))))) x1 rest c ks (law1 n rest placed indexed.0) (λ d. up (omega arith)) (λ k here.
      land_three s2 s3 s4 p2 p3 p4 (made x1) x2 x3 x4 law2 law3 law4 k ks here indexed.1 (λ d. up (omega arith)) e)

  pub land_five : {A B D F G : Type 0} (s1 : Shape A) (s2 : Shape B) (s3 : Shape D) (s4 : Shape F) (s5 : Shape G) (p1 : Parser A) (p2 : Parser B) (p3 : Parser D) (p4 : Parser F) (p5 : Parser G) (made : A → B → D → F → G → C) (x1 : A) (x2 : B) (x3 : D) (x4 : F) (x5 : G)
      → LandsOn total b s1 p1 x1 → LandsOn total b s2 p2 x2 → LandsOn total b s3 p3 x3 → LandsOn total b s4 p4 x4 → LandsOn total b s5 p5 x5
      → (n : ℕ) (ks : List Kind) → Begins total n (s1.put x1 (s2.put x2 (s3.put x3 (s4.put x4 (s5.put x5 ks))))) → (pair_of s1 (pair_of s2 (pair_of s3 (pair_of s4 s5)))).indexed (x1, (x2, (x3, (x4, x5)))) ks → (b < (pair_of s1 (pair_of s2 (pair_of s3 (pair_of s4 s5)))).depth (x1, (x2, (x3, (x4, x5)))) → E) → made x1 x2 x3 x4 x5 ≡ c
      → Lands total E c ks ((p1 >>= (λ x1. p2 >>= (λ x2. p3 >>= (λ x3. p4 >>= (λ x4. p5 >>= (λ x5. pure (made x1 x2 x3 x4 x5))))))) (on n (s1.put x1 (s2.put x2 (s3.put x3 (s4.put x4 (s5.put x5 ks)))))))
  land_five s1 s2 s3 s4 s5 p1 p2 p3 p4 p5 made x1 x2 x3 x4 x5 law1 law2 law3 law4 law5 n ks placed indexed up e =
      let rest = s2.put x2 (s3.put x3 (s4.put x4 (s5.put x5 ks))) in
      lands_then total (b < s1.depth x1) E (p1 (on n (s1.put x1 rest))) (λ x1. p2 >>= (λ x2. p3 >>= (λ x3. p4 >>= (λ x4. p5 >>= (λ x5. pure (made x1 x2 x3 x4 x5)))))) x1 rest c ks (law1 n rest placed indexed.0) (λ d. up (omega arith)) (λ k here.
      land_four s2 s3 s4 s5 p2 p3 p4 p5 (made x1) x2 x3 x4 x5 law2 law3 law4 law5 k ks here indexed.1 (λ d. up (omega arith)) e)

  pub land_six : {A B D F G H : Type 0} (s1 : Shape A) (s2 : Shape B) (s3 : Shape D) (s4 : Shape F) (s5 : Shape G) (s6 : Shape H) (p1 : Parser A) (p2 : Parser B) (p3 : Parser D) (p4 : Parser F) (p5 : Parser G) (p6 : Parser H) (made : A → B → D → F → G → H → C) (x1 : A) (x2 : B) (x3 : D) (x4 : F) (x5 : G) (x6 : H)
      → LandsOn total b s1 p1 x1 → LandsOn total b s2 p2 x2 → LandsOn total b s3 p3 x3 → LandsOn total b s4 p4 x4 → LandsOn total b s5 p5 x5 → LandsOn total b s6 p6 x6
      → (n : ℕ) (ks : List Kind) → Begins total n (s1.put x1 (s2.put x2 (s3.put x3 (s4.put x4 (s5.put x5 (s6.put x6 ks)))))) → (pair_of s1 (pair_of s2 (pair_of s3 (pair_of s4 (pair_of s5 s6))))).indexed (x1, (x2, (x3, (x4, (x5, x6))))) ks → (b < (pair_of s1 (pair_of s2 (pair_of s3 (pair_of s4 (pair_of s5 s6))))).depth (x1, (x2, (x3, (x4, (x5, x6))))) → E) → made x1 x2 x3 x4 x5 x6 ≡ c
      → Lands total E c ks ((p1 >>= (λ x1. p2 >>= (λ x2. p3 >>= (λ x3. p4 >>= (λ x4. p5 >>= (λ x5. p6 >>= (λ x6. pure (made x1 x2 x3 x4 x5 x6)))))))) (on n (s1.put x1 (s2.put x2 (s3.put x3 (s4.put x4 (s5.put x5 (s6.put x6 ks))))))))
  land_six s1 s2 s3 s4 s5 s6 p1 p2 p3 p4 p5 p6 made x1 x2 x3 x4 x5 x6 law1 law2 law3 law4 law5 law6 n ks placed indexed up e =
      let rest = s2.put x2 (s3.put x3 (s4.put x4 (s5.put x5 (s6.put x6 ks)))) in
      lands_then total (b < s1.depth x1) E (p1 (on n (s1.put x1 rest))) (λ x1. p2 >>= (λ x2. p3 >>= (λ x3. p4 >>= (λ x4. p5 >>= (λ x5. p6 >>= (λ x6. pure (made x1 x2 x3 x4 x5 x6))))))) x1 rest c ks (law1 n rest placed indexed.0) (λ d. up (omega arith)) (λ k here.
      land_five s2 s3 s4 s5 s6 p2 p3 p4 p5 p6 (made x1) x2 x3 x4 x5 x6 law2 law3 law4 law5 law6 k ks here indexed.1 (λ d. up (omega arith)) e)

  pub land_seven : {A B D F G H J : Type 0} (s1 : Shape A) (s2 : Shape B) (s3 : Shape D) (s4 : Shape F) (s5 : Shape G) (s6 : Shape H) (s7 : Shape J) (p1 : Parser A) (p2 : Parser B) (p3 : Parser D) (p4 : Parser F) (p5 : Parser G) (p6 : Parser H) (p7 : Parser J) (made : A → B → D → F → G → H → J → C) (x1 : A) (x2 : B) (x3 : D) (x4 : F) (x5 : G) (x6 : H) (x7 : J)
      → LandsOn total b s1 p1 x1 → LandsOn total b s2 p2 x2 → LandsOn total b s3 p3 x3 → LandsOn total b s4 p4 x4 → LandsOn total b s5 p5 x5 → LandsOn total b s6 p6 x6 → LandsOn total b s7 p7 x7
      → (n : ℕ) (ks : List Kind) → Begins total n (s1.put x1 (s2.put x2 (s3.put x3 (s4.put x4 (s5.put x5 (s6.put x6 (s7.put x7 ks))))))) → (pair_of s1 (pair_of s2 (pair_of s3 (pair_of s4 (pair_of s5 (pair_of s6 s7)))))).indexed (x1, (x2, (x3, (x4, (x5, (x6, x7)))))) ks → (b < (pair_of s1 (pair_of s2 (pair_of s3 (pair_of s4 (pair_of s5 (pair_of s6 s7)))))).depth (x1, (x2, (x3, (x4, (x5, (x6, x7)))))) → E) → made x1 x2 x3 x4 x5 x6 x7 ≡ c
      → Lands total E c ks ((p1 >>= (λ x1. p2 >>= (λ x2. p3 >>= (λ x3. p4 >>= (λ x4. p5 >>= (λ x5. p6 >>= (λ x6. p7 >>= (λ x7. pure (made x1 x2 x3 x4 x5 x6 x7))))))))) (on n (s1.put x1 (s2.put x2 (s3.put x3 (s4.put x4 (s5.put x5 (s6.put x6 (s7.put x7 ks)))))))))
  land_seven s1 s2 s3 s4 s5 s6 s7 p1 p2 p3 p4 p5 p6 p7 made x1 x2 x3 x4 x5 x6 x7 law1 law2 law3 law4 law5 law6 law7 n ks placed indexed up e =
      let rest = s2.put x2 (s3.put x3 (s4.put x4 (s5.put x5 (s6.put x6 (s7.put x7 ks))))) in
      lands_then total (b < s1.depth x1) E (p1 (on n (s1.put x1 rest))) (λ x1. p2 >>= (λ x2. p3 >>= (λ x3. p4 >>= (λ x4. p5 >>= (λ x5. p6 >>= (λ x6. p7 >>= (λ x7. pure (made x1 x2 x3 x4 x5 x6 x7)))))))) x1 rest c ks (law1 n rest placed indexed.0) (λ d. up (omega arith)) (λ k here.
      land_six s2 s3 s4 s5 s6 s7 p2 p3 p4 p5 p6 p7 (made x1) x2 x3 x4 x5 x6 x7 law2 law3 law4 law5 law6 law7 k ks here indexed.1 (λ d. up (omega arith)) e)

-- two steps whose outcome is known together
pub lands_after : {A B C : Type 0} (total : ℕ) (D E : Type 0) (r : Outcome A) (f : A → Parser B) (g : B → Parser C) (a : B) (rest : List Kind) (c : C) (end : List Kind)
    → Lands total D a rest (and_then r f) → (D → E) → ((n : ℕ) → Begins total n rest → Lands total E c end (g a (on n rest))) → Lands total E c end (and_then r (λ x i. and_then (f x i) g))
lands_after total D E (Ok p) f g a rest c end h up goes = lands_then total D E (f p.0 p.1) g a rest c end h up goes
lands_after total D E (Err (TooDeep n)) f g a rest c end h up goes = up h
lands_after total D E (Err (Unexpected n)) f g a rest c end h up goes = absurd h
lands_after total D E (Err (OutsideProfile n)) f g a rest c end h up goes = absurd h
lands_after total D E (Err Memory) f g a rest c end h up goes = absurd h
