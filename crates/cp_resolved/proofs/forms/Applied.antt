-- Where a standard function of a form gives a form, that of the value gives the value of this form.
use Rattle.std.proofs.Common.{◌≡◌, Bool, true, false, if◌then◌else◌, Some, None, refl, sym, ap, subst, ◌∙◌}
use Rattle.cp_symbols.specs.declared.kinds.CellBase.TheVariants as base
use Rattle.cp_symbols.specs.Kinds.{Compounds, whole}
use Rattle.cp_slots.specs.Code as code
use Rattle.cp_layout.specs.Values.{Value, ordinal_value, standard_value}
use Rattle.cp_meaning.specs.Types as named
use Rattle.cp_meaning.specs.Types.{Base, Range, Ty, ordinal, all_integers, all_booleans, all_characters, is_within}
use Rattle.cp_meaning.specs.Scopes as scopes
use Rattle.cp_resolved.proofs.Words.{Standard, range_of_base, Numbering, base_of, predeclared_as, FormIs, ValueIs}
use Rattle.cp_resolved.specs.Compiled.{Form, as_ordinal, as_place, Formed, integer_form, applied_ordinal, applied_place, applied_form_of, applied_form, is_integer}
use Rattle.cp_resolved.proofs.names.Alike.{same_inside}
use Rattle.cp_resolved.proofs.forms.Operations.{as_integer}

module _ (k : Numbering) (ts : Compounds) where
  next_same : (b : Base) (c : code.OrdinalExpression) → ordinal_value (code.successor c (whole (base_of k b)).high) (base_of k b) ≡ ordinal_value (code.successor c (range_of_base b).high) (base_of k (range_of_base b).base)
  next_same named.integers c = refl
  next_same _ c = refl

  previous_same : (b : Base) (c : code.OrdinalExpression) → ordinal_value (code.predecessor c (whole (base_of k b)).low) (base_of k b) ≡ ordinal_value (code.predecessor c (range_of_base b).low) (base_of k (range_of_base b).base)
  previous_same named.integers c = refl
  previous_same _ c = refl

  with_form : (x z : Formed) (v : Value) → Some x ≡ Some z → ValueIs k ts x v → ValueIs k ts z v
  with_form x z v e h = subst (λ f. ValueIs k ts f v) (same_inside x z e) h

  number_of_ordinal : (b : Bool) (c : code.OrdinalExpression) (z : Formed) (v : Value) → v ≡ ordinal_value c base.Integer → (if b then integer_form c else None) ≡ Some z → ValueIs k ts z v
  number_of_ordinal true c z v h e = as_integer k ts c z v e h
  number_of_ordinal false c z v h e = absurd (cc)

  ordinal_applied : (s : Standard) (r : Range) (b : Bool) (c : code.OrdinalExpression) (v : Value) (z : Formed) → v ≡ ordinal_value c (base_of k r.base) → applied_ordinal s (ordinal r) b c ≡ Some z → ValueIs k ts z (standard_value (predeclared_as s) v)
  ordinal_applied scopes.succ_function r b c v z h e = with_form _ z _ e (range_of_base r.base, refl, ap (standard_value (predeclared_as scopes.succ_function)) h ∙ next_same r.base c)
  ordinal_applied scopes.pred_function r b c v z h e = with_form _ z _ e (range_of_base r.base, refl, ap (standard_value (predeclared_as scopes.pred_function)) h ∙ previous_same r.base c)
  ordinal_applied scopes.chr_function r true c v z h e = with_form _ z _ e (all_characters, refl, ap (standard_value (predeclared_as scopes.chr_function)) h)
  ordinal_applied scopes.ord_function r b c v z h e = number_of_ordinal (is_within all_integers (range_of_base r.base).high) c z _ (ap (standard_value (predeclared_as scopes.ord_function)) h) e
  ordinal_applied scopes.abs_function r true c v z h e = with_form _ z _ e (all_integers, refl, ap (standard_value (predeclared_as scopes.abs_function)) h)
  ordinal_applied x r y c v z h e = absurd (cc)

  place_applied : (s : Standard) (t : Ty) (p : code.Place) (v : Value) (z : Formed) → FormIs k ts t (as_place p) v → applied_place s t p ≡ Some z → ValueIs k ts z (standard_value (predeclared_as s) v)
  place_applied scopes.empty_function named.queue_type p v z h e = with_form _ z _ e (all_booleans, refl, ap (standard_value (predeclared_as scopes.empty_function)) h.1)
  place_applied x y p v z h e = absurd (cc)

  form_applied : (s : Standard) (x z : Formed) (f : Form) (v : Value) → x.form ≡ f → FormIs k ts x.ty f v → applied_form_of s x f ≡ Some z → ValueIs k ts z (standard_value (predeclared_as s) v)
  form_applied s x z (as_ordinal c) v j h e = ordinal_applied s h.0 (is_integer x.ty) c v z h.2 (ap (λ t. applied_ordinal s t (is_integer x.ty) c) (sym h.1) ∙ e)
  form_applied s x z (as_place p) v j h e = place_applied s x.ty p v z h e
  form_applied s x z y v j h e = absurd (cc)

  pub applied_same : (s : Standard) (x z : Formed) (v : Value) → ValueIs k ts x v → applied_form s x ≡ Some z → ValueIs k ts z (standard_value (predeclared_as s) v)
  applied_same s x z v h e = form_applied s x z x.form v refl h e
