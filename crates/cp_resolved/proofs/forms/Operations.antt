-- Where an operation on forms gives a form, the operation on values gives the value of this form.
use Rattle.cp_resolved.proofs.Words.{◌≡◌, Bool, true, Option, Some, None, refl, sym, ap, subst, ◌∙◌, Sign, Relation, Addition, Multiplication, Compounds, with_sign}
use Rattle.cp_resolved.proofs.Words.{Numbering, base_of, FormIs, ValueIs, ◌&&◌, Value, ordinal_value, set_value, ordinal_of}
use Rattle.cp_tree.specs.declared.constant.Sign.TheVariants as sign
use Rattle.cp_tree.specs.declared.expression.Relation.TheVariants as relation
use Rattle.cp_tree.specs.declared.expression.Addition.TheVariants as addition
use Rattle.cp_tree.specs.declared.expression.Multiplication.TheVariants as multiplication
use Rattle.cp_symbols.specs.declared.kinds.CellBase as code_base
use Rattle.cp_symbols.specs.declared.kinds.CellBase.TheVariants as base
use Rattle.cp_slots.specs.Code as code
use Rattle.cp_layout.specs.Values as values
use Rattle.cp_meaning.specs.Types as named
use Rattle.cp_meaning.specs.Types.{Base, integers, Ty, all_integers, all_booleans}
use Rattle.cp_resolved.specs.Compiled.{Form, as_ordinal, as_set, as_place, Formed, integer_form, truth_form, set_form, is_integer_base, is_integer, is_boolean, compared_forms, added_ordinals, added_forms, multiplied_ordinals, multiplied_forms, signed_ordinal, signed_form, not_form_of, not_form, with_member_form}
use Rattle.cp_resolved.proofs.names.Alike.{same_inside}

module _ (k : Numbering) (ts : Compounds) where
  pub as_integer : (e : code.OrdinalExpression) (z : Formed) (v : Value) → integer_form e ≡ Some z → v ≡ ordinal_value e base.Integer → ValueIs k ts z v
  as_integer e z v h i = subst (λ f. ValueIs k ts f v) (same_inside _ z h) (all_integers, refl, i)

  pub as_truth : (e : code.OrdinalExpression) (z : Formed) (v : Value) → truth_form e ≡ Some z → v ≡ ordinal_value e base.Boolean → ValueIs k ts z v
  as_truth e z v h i = subst (λ f. ValueIs k ts f v) (same_inside _ z h) (all_booleans, refl, i)

  as_members : (e : code.SetExpression) (z : Formed) (v : Value) → set_form e ≡ Some z → v ≡ set_value e → ValueIs k ts z v
  as_members e z v h i = subst (λ f. ValueIs k ts f v) (same_inside _ z h) i

  integer_only : (b : Base) → is_integer_base b ≡ true → b ≡ integers
  integer_only named.integers h = refl
  integer_only x h = absurd (cc)

  both : (f : Value → Value → Value) (v v' w w' : Value) → v ≡ v' → w ≡ w' → f v w ≡ f v' w'
  both f v v' w w' h i = ap (λ x. f x w) h ∙ ap (f v') i

  -- ---- relations

  pub compared : (r : Relation) (t u : Ty) (f g : Form) (v w : Value) (z : Formed) → FormIs k ts t f v → FormIs k ts u g w → compared_forms r f g ≡ Some z → ValueIs k ts z (values.comparison_of r v w)
  compared relation.Equal t u (as_ordinal a) (as_ordinal b) v w z h i e = as_truth _ z _ e (both (values.comparison_of relation.Equal) v _ w _ h.2 i.2)
  compared relation.NotEqual t u (as_ordinal a) (as_ordinal b) v w z h i e = as_truth _ z _ e (both (values.comparison_of relation.NotEqual) v _ w _ h.2 i.2)
  compared relation.Less t u (as_ordinal a) (as_ordinal b) v w z h i e = as_truth _ z _ e (both (values.comparison_of relation.Less) v _ w _ h.2 i.2)
  compared relation.Greater t u (as_ordinal a) (as_ordinal b) v w z h i e = as_truth _ z _ e (both (values.comparison_of relation.Greater) v _ w _ h.2 i.2)
  compared relation.AtMost t u (as_ordinal a) (as_ordinal b) v w z h i e = as_truth _ z _ e (both (values.comparison_of relation.AtMost) v _ w _ h.2 i.2)
  compared relation.AtLeast t u (as_ordinal a) (as_ordinal b) v w z h i e = as_truth _ z _ e (both (values.comparison_of relation.AtLeast) v _ w _ h.2 i.2)
  compared relation.In t u (as_ordinal a) (as_set b) v w z h i e = as_truth _ z _ e (both (values.comparison_of relation.In) v _ w _ h.2 i)
  compared relation.Equal t u (as_set a) (as_set b) v w z h i e = as_truth _ z _ e (both (values.comparison_of relation.Equal) v _ w _ h i)
  compared relation.NotEqual t u (as_set a) (as_set b) v w z h i e = as_truth _ z _ e (both (values.comparison_of relation.NotEqual) v _ w _ h i)
  compared r t u (as_ordinal a) (as_place p) v w z h i e = absurd (cc)
  compared r t u (as_set a) (as_ordinal b) v w z h i e = absurd (cc)
  compared x t u y a v w z h i e = absurd (cc)

  -- ---- sums and products

  added_numbers : (o : Addition) (n t : Bool) (a b : code.OrdinalExpression) (p q : code_base.CellBase) (v w : Value) (z : Formed) → v ≡ ordinal_value a p → w ≡ ordinal_value b q → added_ordinals o n t a b ≡ Some z → ValueIs k ts z (values.sum_of o v w)
  added_numbers addition.Plus true t a b p q v w z h i e = as_integer _ z _ e (both (values.sum_of addition.Plus) v _ w _ h i)
  added_numbers addition.Minus true t a b p q v w z h i e = as_integer _ z _ e (both (values.sum_of addition.Minus) v _ w _ h i)
  added_numbers addition.Or n true a b p q v w z h i e = as_truth _ z _ e (both (values.sum_of addition.Or) v _ w _ h i)
  added_numbers x y u a b p q v w z h i e = absurd (cc)

  pub added : (o : Addition) (x y : Formed) (f g : Form) (t u : Ty) (v w : Value) (z : Formed) → FormIs k ts t f v → FormIs k ts u g w → added_forms o x y f g ≡ Some z → ValueIs k ts z (values.sum_of o v w)
  added o x y (as_ordinal a) (as_ordinal b) t u v w z h i e = added_numbers o (is_integer x.ty && is_integer y.ty) (is_boolean x.ty && is_boolean y.ty) a b _ _ v w z h.2 i.2 e
  added addition.Minus x y (as_set a) (as_set b) t u v w z h i e = as_members _ z _ e (both (values.sum_of addition.Minus) v _ w _ h i)
  added addition.Or x y (as_set a) (as_set b) t u v w z h i e = as_members _ z _ e (both (values.sum_of addition.Or) v _ w _ h i)
  added o x y (as_set a) (as_ordinal b) t u v w z h i e = absurd (cc)
  added a x y b c t u v w z h i e = absurd (cc)

  multiplied_numbers : (o : Multiplication) (n t : Bool) (a b : code.OrdinalExpression) (p q : code_base.CellBase) (v w : Value) (z : Formed) → v ≡ ordinal_value a p → w ≡ ordinal_value b q → multiplied_ordinals o n t a b ≡ Some z → ValueIs k ts z (values.product_of o v w)
  multiplied_numbers multiplication.Times true t a b p q v w z h i e = as_integer _ z _ e (both (values.product_of multiplication.Times) v _ w _ h i)
  multiplied_numbers multiplication.Div true t a b p q v w z h i e = as_integer _ z _ e (both (values.product_of multiplication.Div) v _ w _ h i)
  multiplied_numbers multiplication.Mod true t a b p q v w z h i e = as_integer _ z _ e (both (values.product_of multiplication.Mod) v _ w _ h i)
  multiplied_numbers multiplication.And n true a b p q v w z h i e = as_truth _ z _ e (both (values.product_of multiplication.And) v _ w _ h i)
  multiplied_numbers x y u a b p q v w z h i e = absurd (cc)

  pub multiplied : (o : Multiplication) (x y : Formed) (f g : Form) (t u : Ty) (v w : Value) (z : Formed) → FormIs k ts t f v → FormIs k ts u g w → multiplied_forms o x y f g ≡ Some z → ValueIs k ts z (values.product_of o v w)
  multiplied o x y (as_ordinal a) (as_ordinal b) t u v w z h i e = multiplied_numbers o (is_integer x.ty && is_integer y.ty) (is_boolean x.ty && is_boolean y.ty) a b _ _ v w z h.2 i.2 e
  multiplied multiplication.And x y (as_set a) (as_set b) t u v w z h i e = as_members _ z _ e (both (values.product_of multiplication.And) v _ w _ h i)
  multiplied o x y (as_set a) (as_ordinal b) t u v w z h i e = absurd (cc)
  multiplied a x y b c t u v w z h i e = absurd (cc)

  -- ---- signs, `not`, standard functions and members of sets

  integer_value : (t : Ty) (a : code.OrdinalExpression) (v : Value) → is_integer t ≡ true → FormIs k ts t (as_ordinal a) v → v ≡ ordinal_value a base.Integer
  integer_value t a v h i =
      let b : is_integer_base i.0.base ≡ true = ap is_integer (sym i.1) ∙ h in
      i.2 ∙ ap (λ c. ordinal_value a (base_of k c)) (integer_only i.0.base b)

  sign_kept : (o : Option Sign) (x z : Formed) (n : Bool) (f : Form) (v : Value) → is_integer x.ty ≡ n → x.form ≡ f → ValueIs k ts x v → signed_ordinal o x n f ≡ Some z → ValueIs k ts z (with_sign o v)
  sign_kept None x z n f v h j i e = subst (λ y. ValueIs k ts y v) (same_inside x z e) i
  sign_kept (Some sign.Plus) x z true (as_ordinal a) v h j i e = as_integer a z v e (integer_value x.ty a v h (subst (λ g. FormIs k ts x.ty g v) j i))
  sign_kept (Some sign.Minus) x z true (as_ordinal a) v h j i e = as_integer _ z _ e (ap values.opposite (integer_value x.ty a v h (subst (λ g. FormIs k ts x.ty g v) j i)))
  sign_kept y x z u w v h j i e = absurd (cc)

  pub sign_same : (o : Option Sign) (x z : Formed) (v : Value) → ValueIs k ts x v → signed_form o x ≡ Some z → ValueIs k ts z (with_sign o v)
  sign_same o x z v i e = sign_kept o x z (is_integer x.ty) x.form v refl refl i e

  turned : (b : Bool) (t : Ty) (f : Form) (z : Formed) (v : Value) → FormIs k ts t f v → not_form_of b f ≡ Some z → ValueIs k ts z (values.negation_of v)
  turned true t (as_ordinal a) z v i e = as_truth _ z _ e (ap values.negation_of i.2)
  turned x t y z v i e = absurd (cc)

  pub negated : (x z : Formed) (v : Value) → ValueIs k ts x v → not_form x ≡ Some z → ValueIs k ts z (values.negation_of v)
  negated x z v i e = turned (is_boolean x.ty) x.ty x.form z v i e

  pub member : (s q : code.SetExpression) (t : Ty) (f : Form) (v : Value) → FormIs k ts t f v → with_member_form s f ≡ Some q → code.with_element s (ordinal_of v) ≡ q
  member s q t (as_ordinal a) v i e = ap (λ x. code.with_element s (ordinal_of x)) i.2 ∙ same_inside _ q e
  member s q t x v i e = absurd (cc)
