-- Expressions give the same on names and on slots.
use Rattle.std.proofs.Common.{◌≡◌, Bool, true, not, Option, Some, None, ap, sym, refl, subst}
use Rattle.std.specs.Prelude.{ℤ, ◌+ℤ◌, ◌-ℤ◌, ◌*ℤ◌, int_le, int_lt, Result, Ok, Err}
use Rattle.cp_machine_laws.proofs.Words.{int_eq, ints, Relation, Addition, Plus, Minus, Or, Multiplication, Frame, Memory, then_with, Outcome, ◌>>=◌, Value, number_value}
use Rattle.cp_machine_laws.proofs.Words.{plain_value, HasType, OrdinalAgrees, FormAgrees, Equal, NotEqual, Less, Greater, AtMost, AtLeast, In, Times, Div, Mod, And}
use Rattle.cp_store.specs.declared.error.ErrorName as slots
use Rattle.cp_store.specs.Values as cells
use Rattle.cp_meaning.specs.Types.{Ty, ordinal, Base, integers, booleans, characters, enumerated, all_integers, all_booleans, is_within}
use Rattle.cp_meaning.specs.Operations.{Typed, truth, same_integer, related_numbers, related_values, added_values, multiplied_values, range_of_base}
use Rattle.cp_slots.specs.Code as code
use Rattle.cp_resolved.specs.Compiled.{as_ordinal, Formed, then_form, is_integer_base, is_boolean_base, is_integer, is_boolean, compared_forms, added_ordinals, multiplied_ordinals}
use Rattle.cp_machine_laws.proofs.expressions.Numbers.{fits_narrowed, truth_agrees, same_is_equal, or_same, and_same, quotient_same, remainder_same}

-- ---- steps through what may be nothing

pub then_some : {A B : Type 0} (G : Type 0) (o : Option A) (k : A → Option B) (z : B) → then_form o k ≡ Some z → ((x : A) → o ≡ Some x → k x ≡ Some z → G) → G
then_some G None k z e go = absurd (cc)
then_some G (Some x) k z e go = go x refl e

pub form_is : {x y : Formed} → Some x ≡ Some y → x ≡ y
form_is e = cc

-- ---- types

-- the base of a type of integers is integer
pub integer_range : (t : Ty) (z : ℤ) → is_integer t ≡ true → HasType t (number_value z) → is_within all_integers z ≡ true
integer_range (ordinal r) z e h = go r.base e h
  where
    go : (b : Base) → is_integer_base b ≡ true → is_within (range_of_base b) z ≡ true → is_within all_integers z ≡ true
    go integers e h = h
    go booleans e h = absurd (cc)
    go characters e h = absurd (cc)
    go (enumerated at xs) e h = absurd (cc)
integer_range _ z e h = absurd h

pub truth_range : (t : Ty) (z : ℤ) → is_boolean t ≡ true → HasType t (number_value z) → is_within all_booleans z ≡ true
truth_range (ordinal r) z e h = go r.base e h
  where
    go : (b : Base) → is_boolean_base b ≡ true → is_within (range_of_base b) z ≡ true → is_within all_booleans z ≡ true
    go booleans e h = h
    go integers e h = absurd (cc)
    go characters e h = absurd (cc)
    go (enumerated at xs) e h = absurd (cc)
truth_range _ z e h = absurd h

-- ---- one operand, and two

pub one_agrees : (t u : Ty) (F : Typed → Outcome Typed) (C : ℤ → Result ℤ slots.ErrorName) (o : Outcome Typed) (r : Result ℤ slots.ErrorName) →
    ((x : Typed) (a : ℤ) → x.value ≡ number_value a → HasType t (number_value a) → OrdinalAgrees (F x) u (C a)) → OrdinalAgrees o t r → OrdinalAgrees (o >>= F) u (then_with r C)
one_agrees t u F C (Ok x) (Ok a) step h = step x a h.1 h.2
one_agrees t u F C (Err e) (Err d) step h = h
one_agrees t u F C _ _ step h = absurd h

pub two_agree : (t u w : Ty) (F : Typed → Typed → Outcome Typed) (C : ℤ → ℤ → Result ℤ slots.ErrorName) (o : Outcome Typed) (r : Result ℤ slots.ErrorName) (p : Outcome Typed) (q : Result ℤ slots.ErrorName) →
    ((x y : Typed) (a b : ℤ) → x.value ≡ number_value a → y.value ≡ number_value b → HasType t (number_value a) → HasType u (number_value b) → OrdinalAgrees (F x y) w (C a b)) →
    OrdinalAgrees o t r → OrdinalAgrees p u q → OrdinalAgrees (o >>= λ x. p >>= λ y. F x y) w (then_with r (λ x. then_with q (λ y. C x y)))
two_agree t u w F C o r p q step h k = one_agrees t w (λ x. p >>= λ y. F x y) (λ x. then_with q (λ y. C x y)) o r (λ x a e d. one_agrees u w (F x) (C a) p q (λ y b e2 d2. step x y a b e e2 d d2) k) h

-- ---- the operations

-- each relation of ordinals is its comparison
pub by_truth : (x y : Bool) → x ≡ y → OrdinalAgrees (Ok (truth x)) (ordinal all_booleans) (Ok (cells.truth y))
by_truth x y e = subst (λ (b : Bool). OrdinalAgrees (Ok (truth x)) (ordinal all_booleans) (Ok (cells.truth b))) e (truth_agrees x)

relation_step : (r : Relation) (x y : Value) (a b : ℤ) (C : ℤ) → x ≡ number_value a → y ≡ number_value b → OrdinalAgrees (Ok (truth (related_numbers r a b))) (ordinal all_booleans) (Ok C) → OrdinalAgrees (Ok (truth (related_values r x y))) (ordinal all_booleans) (Ok C)
relation_step r x y a b C e d h =
    subst (λ (w : Value). OrdinalAgrees (Ok (truth (related_values r w y))) (ordinal all_booleans) (Ok C)) (sym e)
    (subst (λ (w : Value). OrdinalAgrees (Ok (truth (related_values r (number_value a) w))) (ordinal all_booleans) (Ok C)) (sym d) h)

-- what is said of a form by what it came from
abbrev pub FormOk : Memory → Frame → Outcome Typed → Option Formed → Type 0
FormOk m f o None = Unit {0}
FormOk m f o (Some x) = FormAgrees m f o x.ty x.form

values_step : (F : Value → Value → Outcome Typed) (t : Ty) (x y : Value) (a b : ℤ) (C : Result ℤ slots.ErrorName) → x ≡ number_value a → y ≡ number_value b → OrdinalAgrees (F (number_value a) (number_value b)) t C → OrdinalAgrees (F x y) t C
values_step F t x y a b C e d h =
    subst (λ (w : Value). OrdinalAgrees (F w y) t C) (sym e) (subst (λ (w : Value). OrdinalAgrees (F (number_value a) w) t C) (sym d) h)

module _ (m : Memory) (f : Frame) where
  pub related_cells : (r : Relation) (t u : Ty) (a b : code.OrdinalExpression) (o p : Outcome Typed) → OrdinalAgrees o t (plain_value m f a) → OrdinalAgrees p u (plain_value m f b) → FormOk m f (o >>= λ x. p >>= λ y. Ok (truth (related_values r x.value y.value))) (compared_forms r (as_ordinal a) (as_ordinal b))
  related_cells Equal t u a b o p h k = two_agree t u (ordinal all_booleans) _ _ o (plain_value m f a) p (plain_value m f b) (λ x y i j e d _ _. relation_step Equal x.value y.value i j _ e d (by_truth (same_integer i j) (int_eq i j) (same_is_equal i j))) h k
  related_cells NotEqual t u a b o p h k = two_agree t u (ordinal all_booleans) _ _ o (plain_value m f a) p (plain_value m f b) (λ x y i j e d _ _. relation_step NotEqual x.value y.value i j _ e d (by_truth (not (same_integer i j)) (not (int_eq i j)) (ap not (same_is_equal i j)))) h k
  related_cells Less t u a b o p h k = two_agree t u (ordinal all_booleans) _ _ o (plain_value m f a) p (plain_value m f b) (λ x y i j e d _ _. relation_step Less x.value y.value i j _ e d (truth_agrees (int_lt i j))) h k
  related_cells Greater t u a b o p h k = two_agree t u (ordinal all_booleans) _ _ o (plain_value m f a) p (plain_value m f b) (λ x y i j e d _ _. relation_step Greater x.value y.value i j _ e d (truth_agrees (int_lt j i))) h k
  related_cells AtMost t u a b o p h k = two_agree t u (ordinal all_booleans) _ _ o (plain_value m f a) p (plain_value m f b) (λ x y i j e d _ _. relation_step AtMost x.value y.value i j _ e d (truth_agrees (int_le i j))) h k
  related_cells AtLeast t u a b o p h k = two_agree t u (ordinal all_booleans) _ _ o (plain_value m f a) p (plain_value m f b) (λ x y i j e d _ _. relation_step AtLeast x.value y.value i j _ e d (truth_agrees (int_le j i))) h k
  related_cells In t u a b o p h k = tt

  pub added_agree : (op : Addition) (t u : Ty) (x y : Bool) (a b : code.OrdinalExpression) (o p : Outcome Typed) → (x ≡ true → (is_integer t ≡ true) × (is_integer u ≡ true)) → (y ≡ true → (is_boolean t ≡ true) × (is_boolean u ≡ true)) →
      OrdinalAgrees o t (plain_value m f a) → OrdinalAgrees p u (plain_value m f b) → FormOk m f (o >>= λ x. p >>= λ y. added_values op x.value y.value) (added_ordinals op x y a b)
  added_agree Plus t u true y a b o p ints truths h k = two_agree t u (ordinal all_integers) _ _ o (plain_value m f a) p (plain_value m f b) (λ v w i j e d _ _. values_step (added_values Plus) (ordinal all_integers) v.value w.value i j _ e d (fits_narrowed (i +ℤ j))) h k
  added_agree Minus t u true y a b o p ints truths h k = two_agree t u (ordinal all_integers) _ _ o (plain_value m f a) p (plain_value m f b) (λ v w i j e d _ _. values_step (added_values Minus) (ordinal all_integers) v.value w.value i j _ e d (fits_narrowed (i -ℤ j))) h k
  added_agree Or t u x true a b o p ints truths h k = two_agree t u (ordinal all_booleans) _ _ o (plain_value m f a) p (plain_value m f b) (λ v w i j e d q r. values_step (added_values Or) (ordinal all_booleans) v.value w.value i j _ e d (or_same i j (truth_range t i (truths refl).0 q) (truth_range u j (truths refl).1 r))) h k
  added_agree _ t u _ _ a b o p ints truths h k = tt

  pub multiplied_agree : (op : Multiplication) (t u : Ty) (x y : Bool) (a b : code.OrdinalExpression) (o p : Outcome Typed) → (x ≡ true → (is_integer t ≡ true) × (is_integer u ≡ true)) → (y ≡ true → (is_boolean t ≡ true) × (is_boolean u ≡ true)) →
      OrdinalAgrees o t (plain_value m f a) → OrdinalAgrees p u (plain_value m f b) → FormOk m f (o >>= λ x. p >>= λ y. multiplied_values op x.value y.value) (multiplied_ordinals op x y a b)
  multiplied_agree Times t u true y a b o p ints truths h k = two_agree t u (ordinal all_integers) _ _ o (plain_value m f a) p (plain_value m f b) (λ v w i j e d _ _. values_step (multiplied_values Times) (ordinal all_integers) v.value w.value i j _ e d (fits_narrowed (i *ℤ j))) h k
  multiplied_agree Div t u true y a b o p ints truths h k = two_agree t u (ordinal all_integers) _ _ o (plain_value m f a) p (plain_value m f b) (λ v w i j e d _ _. values_step (multiplied_values Div) (ordinal all_integers) v.value w.value i j _ e d (quotient_same i j)) h k
  multiplied_agree Mod t u true y a b o p ints truths h k = two_agree t u (ordinal all_integers) _ _ o (plain_value m f a) p (plain_value m f b) (λ v w i j e d q r. values_step (multiplied_values Mod) (ordinal all_integers) v.value w.value i j _ e d (remainder_same i j (integer_range u j (ints refl).1 r))) h k
  multiplied_agree And t u x true a b o p ints truths h k = two_agree t u (ordinal all_booleans) _ _ o (plain_value m f a) p (plain_value m f b) (λ v w i j e d q r. values_step (multiplied_values And) (ordinal all_booleans) v.value w.value i j _ e d (and_same i j (truth_range t i (truths refl).0 q) (truth_range u j (truths refl).1 r))) h k
  multiplied_agree _ t u _ _ a b o p ints truths h k = tt
