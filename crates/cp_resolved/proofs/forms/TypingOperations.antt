-- Operands that break no rule have forms, and so has what an operation makes of them.
use Rattle.std.proofs.Common.{◌≡◌, ℕ, Bool, true, false, if◌then◌else◌, Option, Some, None, Ok, Err, refl, sym, subst, ◌∙◌}
use Rattle.cp_resolved.proofs.Words.{◌&&◌, option_or, Sign, Relation, Addition, Multiplication, Range, ValueType, Use, both_uses, agree, is_of, values_of, Judged, broken}
use Rattle.cp_resolved.proofs.Words.{both, ◌>>=◌, Operand, value, Ty, Written, Expressed, HasForm, Rule}
use Rattle.cp_tree.specs.declared.constant.Sign.TheVariants as sign
use Rattle.cp_tree.specs.declared.expression.Relation.TheVariants as relation
use Rattle.cp_tree.specs.declared.expression.Addition.TheVariants as addition
use Rattle.cp_tree.specs.declared.expression.Multiplication.TheVariants as multiplication
use Rattle.cp_scope.specs.declared.types.Base.TheVariants as base
use Rattle.cp_scope.specs.declared.types.ValueType.TheVariants as types
use Rattle.cp_check.specs.Operations as operations
use Rattle.cp_check.specs.Expressions as expressions
use Rattle.cp_slots.specs.Code as code
use Rattle.cp_meaning.specs.Types as named
use Rattle.cp_resolved.specs.Compiled.{as_ordinal, as_set, Formed, then_form, is_integer_base, is_boolean_base, compared_forms, added_ordinals, added_forms, multiplied_ordinals, multiplied_forms, signed_ordinal, signed_form, not_form_of, not_form}
use Rattle.cp_resolved.proofs.forms.Typing.{formed, integer_base, boolean_base, OrdinalForm, ordinal_found, set_found, an_integer, a_truth, a_set, then_one, then_two, both_true}
use Rattle.cp_resolved.proofs.frames.LeastCells.{right_true as second_true}
use Rattle.cp_resolved.proofs.counts.FewCells.{left_of as first_true}

-- a sum or term so far
abbrev pub PartForm : Written → Option Operand → Option Formed → Type 0
PartForm w (Some o) f = Expressed w o.value_type f
PartForm w None f = Unit {0}

abbrev pub HasPartForm : Written → Judged (Option Operand) → Option Formed → Type 0
HasPartForm w (Ok o) f = PartForm w o f
HasPartForm w (Err fs) f = Unit {0}

-- an ordinal form with its base
pub record BaseForm (Is : named.Base → Type 0) (o : Option Formed) : Type 0 where
  pub range : named.Range
  pub code : code.OrdinalExpression
  pub is : o ≡ Some (formed (named.ordinal range) (as_ordinal code))
  pub belongs : Is range.base

module _ (w : Written) where
  pub integer_found : (v : ValueType) (o : Option Formed) → Expressed w v o → is_of base.Integer v ≡ true → BaseForm (λ b. is_integer_base b ≡ true) o
  integer_found (types.Ordinal r) o h e =
      let f : OrdinalForm w.tokens r o = ordinal_found w r o h in
      record { range = f.range; code = f.code; is = f.is; belongs = integer_base w.tokens f.range.base r.base f.belongs.base e }
  integer_found x o h e = absurd (cc)

  pub boolean_found : (v : ValueType) (o : Option Formed) → Expressed w v o → is_of base.Boolean v ≡ true → BaseForm (λ b. is_boolean_base b ≡ true) o
  boolean_found (types.Ordinal r) o h e =
      let f : OrdinalForm w.tokens r o = ordinal_found w r o h in
      record { range = f.range; code = f.code; is = f.is; belongs = boolean_base w.tokens f.range.base r.base f.belongs.base e }
  boolean_found x o h e = absurd (cc)

  -- ---- what is there only under a condition

  pub some_if : (b : Bool) (o : Operand) (f : Option Formed) → (b ≡ true → Expressed w o.value_type f) → PartForm w (if b then Some o else None) f
  some_if true o f h = h refl
  some_if false o f h = tt

  pub ok_if : (b : Bool) (o : Operand) (at : ℕ) (rule : Rule) (f : Option Formed) → (b ≡ true → Expressed w o.value_type f) → HasForm w (if b then Ok o else broken at rule) f
  ok_if true o at rule f h = h refl
  ok_if false o at rule f h = tt

  part_or : (p q : Option Operand) (f : Option Formed) → PartForm w p f → PartForm w q f → PartForm w (option_or p q) f
  part_or (Some o) q f h i = h
  part_or None q f h i = i

  -- ---- two integers, two truths, two sets

  module _ (go : Formed → Formed → Option Formed) where
    abbrev Both : Option Formed → Option Formed → Option Formed
    Both f g = then_form f (λ x. then_form g (λ y. go x y))

    numbers : (at : ℕ) (l r : Operand) (f g : Option Formed) → Expressed w l.value_type f → Expressed w r.value_type g →
        ((p q : named.Range) (c d : code.OrdinalExpression) → is_integer_base p.base ≡ true → is_integer_base q.base ≡ true →
        Expressed w (values_of base.Integer) (go (formed (named.ordinal p) (as_ordinal c)) (formed (named.ordinal q) (as_ordinal d)))) →
        PartForm w (operations.number at l r) (Both f g)
    numbers at l r f g h i k =
        some_if (is_of base.Integer l.value_type && is_of base.Integer r.value_type) (value at (values_of base.Integer) (both_uses l.uses r.uses)) (Both f g) (λ e.
        let a = integer_found l.value_type f h (first_true _ _ e) in
        let b = integer_found r.value_type g i (second_true _ _ e) in
        then_two (Expressed w (values_of base.Integer)) go f g (formed (named.ordinal a.range) (as_ordinal a.code)) (formed (named.ordinal b.range) (as_ordinal b.code)) a.is b.is (k a.range b.range a.code b.code a.belongs b.belongs))

    sets_of : (at : ℕ) (v u : ValueType) (n : Use) (f g : Option Formed) → Expressed w v f → Expressed w u g →
        ((t y : Ty) (c d : code.SetExpression) (s : Option Range) → Expressed w (types.Set s) (go (formed t (as_set c)) (formed y (as_set d)))) →
        PartForm w (operations.set_of_types at v u n) (Both f g)
    sets_of at (types.Set a) (types.Set b) n f g h i k =
        let x = set_found w a f h in
        let y = set_found w b g i in
        let of : (s : Option Range) → Expressed w (types.Set s) (Both f g) = (λ s. then_two (Expressed w (types.Set s)) go f g (formed x.ty (as_set x.code)) (formed y.ty (as_set y.code)) x.is y.is (k x.ty y.ty x.code y.code s)) in
        some_if (agree (types.Set a) (types.Set b)) (value at (operations.set_type a b) n) (Both f g) (λ e. whole a of)
      where
        whole : (a : Option Range) → ((s : Option Range) → Expressed w (types.Set s) (Both f g)) → Expressed w (operations.set_type a b) (Both f g)
        whole None of = of b
        whole (Some r) of = of (Some r)
    sets_of at _ _ n f g h i k = tt

    truths_or_sets : (at : ℕ) (l r : Operand) (f g : Option Formed) → Expressed w l.value_type f → Expressed w r.value_type g →
        ((p q : named.Range) (c d : code.OrdinalExpression) → is_boolean_base p.base ≡ true → is_boolean_base q.base ≡ true →
        Expressed w (values_of base.Boolean) (go (formed (named.ordinal p) (as_ordinal c)) (formed (named.ordinal q) (as_ordinal d)))) →
        ((t y : Ty) (c d : code.SetExpression) (s : Option Range) → Expressed w (types.Set s) (go (formed t (as_set c)) (formed y (as_set d)))) →
        PartForm w (operations.truth_or_set at l r) (Both f g)
    truths_or_sets at l r f g h i k j =
        choose (is_of base.Boolean l.value_type && is_of base.Boolean r.value_type) (λ e.
        let a = boolean_found l.value_type f h (first_true _ _ e) in
        let b = boolean_found r.value_type g i (second_true _ _ e) in
        then_two (Expressed w (values_of base.Boolean)) go f g (formed (named.ordinal a.range) (as_ordinal a.code)) (formed (named.ordinal b.range) (as_ordinal b.code)) a.is b.is (k a.range b.range a.code b.code a.belongs b.belongs))
      where
        choose : (t : Bool) → (t ≡ true → Expressed w (values_of base.Boolean) (Both f g)) → PartForm w (if t then Some (value at (values_of base.Boolean) (both_uses l.uses r.uses)) else operations.set at l r) (Both f g)
        choose true e = e refl
        choose false e = sets_of at l.value_type r.value_type (both_uses l.uses r.uses) f g h i j

  -- ---- sums

  abbrev sum_of : Addition → Formed → Formed → Option Formed
  sum_of a x y = added_forms a x y x.form y.form

  abbrev product_of : Multiplication → Formed → Formed → Option Formed
  product_of m x y = multiplied_forms m x y x.form y.form

  number_added : (a : Addition) (p q : named.Range) (c d : code.OrdinalExpression) → is_integer_base p.base ≡ true → is_integer_base q.base ≡ true → (t : Bool) →
      ((t : Bool) → Expressed w (values_of base.Integer) (added_ordinals a true t c d)) → Expressed w (values_of base.Integer) (added_ordinals a (is_integer_base p.base && is_integer_base q.base) t c d)
  number_added a p q c d h i t k = both_true (λ n. Expressed w (values_of base.Integer) (added_ordinals a n t c d)) (is_integer_base p.base) (is_integer_base q.base) h i (k t)

  pub added_part : (at : ℕ) (a : Addition) (l r : Operand) (f g : Option Formed) → Expressed w l.value_type f → Expressed w r.value_type g → PartForm w (operations.sum_of at a (Some l) r) (then_form f (λ x. then_form g (λ y. sum_of a x y)))
  added_part at addition.Plus l r f g h i =
      numbers (sum_of addition.Plus) at l r f g h i (λ p q c d m n. number_added addition.Plus p q c d m n (is_boolean_base p.base && is_boolean_base q.base) (λ t. an_integer w _))
  added_part at addition.Minus l r f g h i =
      part_or (operations.number at l r) (operations.set at l r) (then_form f (λ x. then_form g (λ y. sum_of addition.Minus x y)))
      (numbers (sum_of addition.Minus) at l r f g h i (λ p q c d m n. number_added addition.Minus p q c d m n (is_boolean_base p.base && is_boolean_base q.base) (λ t. an_integer w _)))
      (sets_of (sum_of addition.Minus) at l.value_type r.value_type (both_uses l.uses r.uses) f g h i (λ t y c d s. a_set w s _))
  added_part at addition.Or l r f g h i =
      truths_or_sets (sum_of addition.Or) at l r f g h i
      (λ p q c d m n. both_true (λ b. Expressed w (values_of base.Boolean) (added_ordinals addition.Or (is_integer_base p.base && is_integer_base q.base) b c d)) (is_boolean_base p.base) (is_boolean_base q.base) m n (a_truth w _))
      (λ t y c d s. a_set w s _)

  number_multiplied : (o : Multiplication) (p q : named.Range) (c d : code.OrdinalExpression) → is_integer_base p.base ≡ true → is_integer_base q.base ≡ true → (t : Bool) →
      ((t : Bool) → Expressed w (values_of base.Integer) (multiplied_ordinals o true t c d)) → Expressed w (values_of base.Integer) (multiplied_ordinals o (is_integer_base p.base && is_integer_base q.base) t c d)
  number_multiplied o p q c d h i t k = both_true (λ n. Expressed w (values_of base.Integer) (multiplied_ordinals o n t c d)) (is_integer_base p.base) (is_integer_base q.base) h i (k t)

  pub multiplied_part : (at : ℕ) (o : Multiplication) (l r : Operand) (f g : Option Formed) → Expressed w l.value_type f → Expressed w r.value_type g → PartForm w (operations.product_of at o (Some l) r) (then_form f (λ x. then_form g (λ y. product_of o x y)))
  multiplied_part at multiplication.Times l r f g h i =
      numbers (product_of multiplication.Times) at l r f g h i (λ p q c d m n. number_multiplied multiplication.Times p q c d m n (is_boolean_base p.base && is_boolean_base q.base) (λ t. an_integer w _))
  multiplied_part at multiplication.Div l r f g h i =
      numbers (product_of multiplication.Div) at l r f g h i (λ p q c d m n. number_multiplied multiplication.Div p q c d m n (is_boolean_base p.base && is_boolean_base q.base) (λ t. an_integer w _))
  multiplied_part at multiplication.Mod l r f g h i =
      numbers (product_of multiplication.Mod) at l r f g h i (λ p q c d m n. number_multiplied multiplication.Mod p q c d m n (is_boolean_base p.base && is_boolean_base q.base) (λ t. an_integer w _))
  multiplied_part at multiplication.And l r f g h i =
      truths_or_sets (product_of multiplication.And) at l r f g h i
      (λ p q c d m n. both_true (λ b. Expressed w (values_of base.Boolean) (multiplied_ordinals multiplication.And (is_integer_base p.base && is_integer_base q.base) b c d)) (is_boolean_base p.base) (is_boolean_base q.base) m n (a_truth w _))
      (λ t y c d s. a_set w s _)

  -- ---- signs, `not` and relations

  pub signed_part : (at : ℕ) (s : Option Sign) (o : Operand) (f : Option Formed) → Expressed w o.value_type f → PartForm w (operations.with_sign at s o) (then_form f (signed_form s))
  signed_part at None o f h = same f h
    where
      same : (f : Option Formed) → Expressed w o.value_type f → Expressed w o.value_type (then_form f (signed_form None))
      same None h = h
      same (Some x) h = h
  signed_part at (Some s) o f h =
      some_if (is_of base.Integer o.value_type) (value at (values_of base.Integer) o.uses) (then_form f (signed_form (Some s))) (λ e.
      let a = integer_found o.value_type f h e in
      then_one (Expressed w (values_of base.Integer)) (signed_form (Some s)) f (formed (named.ordinal a.range) (as_ordinal a.code)) a.is
      (subst (λ b. Expressed w (values_of base.Integer) (signed_ordinal (Some s) (formed (named.ordinal a.range) (as_ordinal a.code)) b (as_ordinal a.code))) (sym a.belongs) (with_sign s a.range a.code)))
    where
      with_sign : (s : Sign) (q : named.Range) (c : code.OrdinalExpression) → Expressed w (values_of base.Integer) (signed_ordinal (Some s) (formed (named.ordinal q) (as_ordinal c)) true (as_ordinal c))
      with_sign sign.Plus q c = an_integer w _
      with_sign sign.Minus q c = an_integer w _

  pub negated_part : (at : ℕ) (o : Operand) (f : Option Formed) → Expressed w o.value_type f → HasForm w (operations.negation_of at o) (then_form f not_form)
  negated_part at o f h =
      ok_if (is_of base.Boolean o.value_type) (value at (values_of base.Boolean) o.uses) at _ (then_form f not_form) (λ e.
      let a = boolean_found o.value_type f h e in
      then_one (Expressed w (values_of base.Boolean)) not_form f (formed (named.ordinal a.range) (as_ordinal a.code)) a.is
      (subst (λ b. Expressed w (values_of base.Boolean) (not_form_of b (as_ordinal a.code))) (sym a.belongs) (a_truth w _)))

  abbrev compared_of : Relation → Formed → Formed → Option Formed
  compared_of r x y = compared_forms r x.form y.form

  ordinals_compared : (r : Relation) (a b : Range) (c d : code.OrdinalExpression) → operations.relates r (types.Ordinal a) (types.Ordinal b) ≡ true → Expressed w (values_of base.Boolean) (compared_forms r (as_ordinal c) (as_ordinal d))
  ordinals_compared relation.In a b c d e = absurd (cc)
  ordinals_compared _ a b c d e = a_truth w _

  member_compared : (r : Relation) (a : Range) (s : Option Range) (c : code.OrdinalExpression) (d : code.SetExpression) → operations.relates r (types.Ordinal a) (types.Set s) ≡ true → Expressed w (values_of base.Boolean) (compared_forms r (as_ordinal c) (as_set d))
  member_compared relation.In a s c d e = a_truth w _
  member_compared x a s c d e = absurd (cc)

  sets_compared : (r : Relation) (a s : Option Range) (c d : code.SetExpression) → operations.relates r (types.Set a) (types.Set s) ≡ true → Expressed w (values_of base.Boolean) (compared_forms r (as_set c) (as_set d))
  sets_compared relation.Equal a s c d e = a_truth w _
  sets_compared relation.NotEqual a s c d e = a_truth w _
  sets_compared x a s c d e = absurd (cc)

  never : (r : Relation) (v u : ValueType) → operations.is_in v u ≡ false → operations.are_equal v u ≡ false → operations.are_ordered v u ≡ false → operations.relates r v u ≡ false
  never relation.In v u h i j = h
  never relation.Equal v u h i j = i
  never relation.NotEqual v u h i j = i
  never _ v u h i j = j

  unrelated : (r : Relation) (v u : ValueType) → operations.relates r v u ≡ true → operations.is_in v u ≡ false → operations.are_equal v u ≡ false → operations.are_ordered v u ≡ false → ⊥
  unrelated r v u e h i j = (let bad : true ≡ false = sym e ∙ never r v u h i j in absurd (cc))

  compared_types : (r : Relation) (v u : ValueType) (f g : Option Formed) → Expressed w v f → Expressed w u g → operations.relates r v u ≡ true → Expressed w (values_of base.Boolean) (then_form f (λ x. then_form g (λ y. compared_of r x y)))
  compared_types r (types.Ordinal a) (types.Ordinal b) f g h i e =
      let x = ordinal_found w a f h in
      let y = ordinal_found w b g i in
      then_two (Expressed w (values_of base.Boolean)) (compared_of r) f g (formed (named.ordinal x.range) (as_ordinal x.code)) (formed (named.ordinal y.range) (as_ordinal y.code)) x.is y.is (ordinals_compared r a b x.code y.code e)
  compared_types r (types.Ordinal a) (types.Set s) f g h i e =
      let x = ordinal_found w a f h in
      let y = set_found w s g i in
      then_two (Expressed w (values_of base.Boolean)) (compared_of r) f g (formed (named.ordinal x.range) (as_ordinal x.code)) (formed y.ty (as_set y.code)) x.is y.is (member_compared r a s x.code y.code e)
  compared_types r (types.Set a) (types.Set s) f g h i e =
      let x = set_found w a f h in
      let y = set_found w s g i in
      then_two (Expressed w (values_of base.Boolean)) (compared_of r) f g (formed x.ty (as_set x.code)) (formed y.ty (as_set y.code)) x.is y.is (sets_compared r a s x.code y.code e)
  compared_types r (types.Ordinal a) types.Queue f g h i e = absurd (unrelated r (types.Ordinal a) types.Queue e refl refl refl)
  compared_types r (types.Ordinal a) (types.Array n) f g h i e = absurd (unrelated r (types.Ordinal a) (types.Array n) e refl refl refl)
  compared_types r (types.Ordinal a) (types.Record n) f g h i e = absurd (unrelated r (types.Ordinal a) (types.Record n) e refl refl refl)
  compared_types r (types.Ordinal a) (types.Component k n) f g h i e = absurd (unrelated r (types.Ordinal a) (types.Component k n) e refl refl refl)
  compared_types r (types.Set a) (types.Ordinal b) f g h i e = absurd (unrelated r (types.Set a) (types.Ordinal b) e refl refl refl)
  compared_types r (types.Set a) types.Queue f g h i e = absurd (unrelated r (types.Set a) types.Queue e refl refl refl)
  compared_types r (types.Set a) (types.Array n) f g h i e = absurd (unrelated r (types.Set a) (types.Array n) e refl refl refl)
  compared_types r (types.Set a) (types.Record n) f g h i e = absurd (unrelated r (types.Set a) (types.Record n) e refl refl refl)
  compared_types r (types.Set a) (types.Component k n) f g h i e = absurd (unrelated r (types.Set a) (types.Component k n) e refl refl refl)
  compared_types r types.Queue u f g h i e = absurd (unrelated r types.Queue u e refl refl refl)
  compared_types r (types.Array n) u f g h i e = absurd (unrelated r (types.Array n) u e refl refl refl)
  compared_types r (types.Record n) u f g h i e = absurd (unrelated r (types.Record n) u e refl refl refl)
  compared_types r (types.Component k n) u f g h i e = absurd (unrelated r (types.Component k n) u e refl refl refl)

  pub related_part : (at : ℕ) (r : Relation) (l k : Operand) (f g : Option Formed) → Expressed w l.value_type f → Expressed w k.value_type g → HasForm w (operations.relation_value at r (l, k)) (then_form f (λ x. then_form g (λ y. compared_of r x y)))
  related_part at r l k f g h i =
      ok_if (operations.relates r l.value_type k.value_type) (value at (values_of base.Boolean) (both_uses l.uses k.uses)) at _ (then_form f (λ x. then_form g (λ y. compared_of r x y))) (λ e. compared_types r l.value_type k.value_type f g h i e)

  -- ---- the same of what may have a fault

  pub agreed_form : (at : ℕ) (j : Judged (Option Operand)) (f : Option Formed) → HasPartForm w j f → HasForm w (j >>= operations.check_agreement at) f
  agreed_form at (Ok (Some o)) f h = h
  agreed_form at _ f h = tt

  pub first_form : (j : Judged Operand) (f : Option Formed) → HasForm w j f → HasPartForm w (j >>= expressions.some_operand) f
  first_form (Ok o) f h = h
  first_form (Err fs) f h = tt

  pub sign_form : (at : ℕ) (s : Option Sign) (j : Judged Operand) (f : Option Formed) → HasForm w j f → HasPartForm w (j >>= expressions.first_term at s) (then_form f (signed_form s))
  sign_form at s (Ok o) f h = signed_part at s o f h
  sign_form at s (Err fs) f h = tt

  pub negated_form : (at : ℕ) (j : Judged Operand) (f : Option Formed) → HasForm w j f → HasForm w (j >>= operations.negation_of at) (then_form f not_form)
  negated_form at (Ok o) f h = negated_part at o f h
  negated_form at (Err fs) f h = tt

  pub group_form : (at : ℕ) (j : Judged Operand) (f : Option Formed) → HasForm w j f → HasForm w (j >>= expressions.to_group at) f
  group_form at (Ok o) f h = h
  group_form at (Err fs) f h = tt

  pub added_form : (at : ℕ) (a : Addition) (j : Judged (Option Operand)) (k : Judged Operand) (f g : Option Formed) → HasPartForm w j f → HasForm w k g → HasPartForm w (both j k >>= expressions.sum_so_far at a) (then_form f (λ x. then_form g (λ y. added_forms a x y x.form y.form)))
  added_form at a (Ok (Some l)) (Ok r) f g h i = added_part at a l r f g h i
  added_form at a (Ok o) (Err fs) f g h i = tt
  added_form at a (Err fs) (Ok r) f g h i = tt
  added_form at a _ _ f g h i = tt

  pub multiplied_form : (at : ℕ) (m : Multiplication) (j : Judged (Option Operand)) (k : Judged Operand) (f g : Option Formed) → HasPartForm w j f → HasForm w k g → HasPartForm w (both j k >>= expressions.product_so_far at m) (then_form f (λ x. then_form g (λ y. multiplied_forms m x y x.form y.form)))
  multiplied_form at m (Ok (Some l)) (Ok r) f g h i = multiplied_part at m l r f g h i
  multiplied_form at m (Ok o) (Err fs) f g h i = tt
  multiplied_form at m (Err fs) (Ok r) f g h i = tt
  multiplied_form at m _ _ f g h i = tt

  pub related_form : (at : ℕ) (r : Relation) (j k : Judged Operand) (f g : Option Formed) → HasForm w j f → HasForm w k g → HasForm w (both j k >>= operations.relation_value at r) (then_form f (λ x. then_form g (λ y. compared_forms r x.form y.form)))
  related_form at r (Ok l) (Ok k) f g h i = related_part at r l k f g h i
  related_form at r (Err fs) (Ok k) f g h i = tt
  related_form at r _ _ f g h i = tt
