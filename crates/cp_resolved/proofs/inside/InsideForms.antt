-- Operations on forms that are inside give forms that are inside.
use Rattle.std.proofs.Common.{◌≡◌, ℕ, ℤ, Bool, true, false, ◌&&◌, if◌then◌else◌, Option, Some, None, refl, subst, arith}
use Rattle.cp_resolved.proofs.Words.{Sign, Relation, Addition, Multiplication, RoutineView, Ty, is_within, all_integers, Standard, range_of_base, cells_of, Here}
use Rattle.cp_tree.specs.declared.constant.Sign.TheVariants as sign
use Rattle.cp_tree.specs.declared.expression.Relation.TheVariants as relation
use Rattle.cp_tree.specs.declared.expression.Addition.TheVariants as addition
use Rattle.cp_tree.specs.declared.expression.Multiplication.TheVariants as multiplication
use Rattle.cp_slots.specs.Code as code
use Rattle.cp_meaning.specs.Types as named
use Rattle.cp_meaning.specs.Scopes as scopes
use Rattle.cp_resolved.specs.Compiled.{Form, as_ordinal, as_set, as_place, as_component, Formed, integer_form, is_integer, is_boolean, loaded_form, Designated, a_variable, some_components, a_component, valued_form, constant_form, compared_forms, added_ordinals, added_forms, multiplied_ordinals, multiplied_forms, signed_ordinal, signed_form, not_form_of, not_form, applied_ordinal, applied_place, applied_form_of, applied_form, with_member_form}
use Rattle.cp_resolved.proofs.names.Alike.{same_inside}
use Rattle.cp_resolved.proofs.declarations.StandingParts.{both_of as both_in}
use Rattle.cp_resolved.proofs.inside.InsidePlaces.{PlaceFits, has_place}
use Rattle.cp_resolved.proofs.inside.PlainInside.{expression_in, set_in}

-- by what holds of a component of a system type
module _ (C : code.ComponentPlace → ℕ → Type 0) (here : Here) (r : RoutineView) where
  abbrev pub PartFits : Ty → code.ComponentPlace → Type 0
  PartFits (named.component_of k) c = C c k
  PartFits t c = ⊥

  -- what a form reads is inside, and so are the cells of a variable
  abbrev pub FormFits : Ty → Form → Type 0
  FormFits t (as_ordinal c) = (expression_in r c ≡ true) × (cells_of t ≡ 1)
  FormFits t (as_set b) = (set_in r b ≡ true) × (cells_of t ≡ 8)
  FormFits t (as_place p) = PlaceFits r p t
  FormFits t (as_component c) = PartFits t c

  abbrev pub ValueFits : Formed → Type 0
  ValueFits f = FormFits f.ty f.form

  abbrev pub DesignatedFits : Designated → Type 0
  DesignatedFits (a_variable p t) = PlaceFits r p t
  DesignatedFits (some_components first q k) = (c : code.OrdinalExpression) → expression_in r c ≡ true → C (code.element first q.low q.high (here.layouts.systems k).count c) k
  DesignatedFits (a_component c k) = C c k

  pub fits_as : (x z : Formed) → Some x ≡ Some z → ValueFits x → ValueFits z
  fits_as x z e h = subst ValueFits (same_inside x z e) h

  -- ---- variables

  pub loaded_fits : (p : code.Place) (t : Ty) → PlaceFits r p t → FormFits t (loaded_form p t)
  loaded_fits p (named.ordinal q) h = (has_place r p (named.ordinal q) 1 h (omega arith), refl)
  loaded_fits p (named.set_over q) h = (has_place r p (named.set_over q) 8 h (omega arith), refl)
  loaded_fits p _ h = h

  pub valued_fits : (d : Designated) (z : Formed) → DesignatedFits d → valued_form d ≡ Some z → ValueFits z
  valued_fits (a_variable p t) z h e = fits_as _ z e (loaded_fits p t h)
  valued_fits (a_component c k) z h e = fits_as _ z e h
  valued_fits (some_components first q k) z h e = absurd (cc)

  pub constant_fits : (b : named.Base) (n : ℤ) (z : Formed) → constant_form b n ≡ Some z → ValueFits z
  constant_fits b n z e = go (is_within (range_of_base b) n) e
    where
      go : (c : Bool) → (if c then Some (let f : Formed = record { ty = named.ordinal (range_of_base b); form = as_ordinal (code.number n) } in f) else None) ≡ Some z → ValueFits z
      go true g = fits_as _ z g (refl, refl)
      go false g = absurd (cc)

  -- ---- relations

  pub compared_fits : (o : Relation) (t u : Ty) (f g : Form) (z : Formed) → FormFits t f → FormFits u g → compared_forms o f g ≡ Some z → ValueFits z
  compared_fits relation.Equal t u (as_ordinal a) (as_ordinal b) z h i e = fits_as _ z e (both_in (expression_in r a) (expression_in r b) h.0 i.0, refl)
  compared_fits relation.NotEqual t u (as_ordinal a) (as_ordinal b) z h i e = fits_as _ z e (both_in (expression_in r a) (expression_in r b) h.0 i.0, refl)
  compared_fits relation.Less t u (as_ordinal a) (as_ordinal b) z h i e = fits_as _ z e (both_in (expression_in r a) (expression_in r b) h.0 i.0, refl)
  compared_fits relation.Greater t u (as_ordinal a) (as_ordinal b) z h i e = fits_as _ z e (both_in (expression_in r a) (expression_in r b) h.0 i.0, refl)
  compared_fits relation.AtMost t u (as_ordinal a) (as_ordinal b) z h i e = fits_as _ z e (both_in (expression_in r a) (expression_in r b) h.0 i.0, refl)
  compared_fits relation.AtLeast t u (as_ordinal a) (as_ordinal b) z h i e = fits_as _ z e (both_in (expression_in r a) (expression_in r b) h.0 i.0, refl)
  compared_fits relation.In t u (as_ordinal a) (as_set b) z h i e = fits_as _ z e (both_in (expression_in r a) (set_in r b) h.0 i.0, refl)
  compared_fits relation.Equal t u (as_set a) (as_set b) z h i e = fits_as _ z e (both_in (set_in r a) (set_in r b) h.0 i.0, refl)
  compared_fits relation.NotEqual t u (as_set a) (as_set b) z h i e = fits_as _ z e (both_in (set_in r a) (set_in r b) h.0 i.0, refl)
  compared_fits o t u (as_ordinal a) (as_place p) z h i e = absurd (cc)
  compared_fits o t u (as_set a) (as_ordinal b) z h i e = absurd (cc)
  compared_fits x t u y v z h i e = absurd (cc)

  -- ---- sums and products

  added_numbers : (o : Addition) (n t : Bool) (a b : code.OrdinalExpression) (z : Formed) → expression_in r a ≡ true → expression_in r b ≡ true → added_ordinals o n t a b ≡ Some z → ValueFits z
  added_numbers addition.Plus false t a b z h i e = absurd (cc)
  added_numbers addition.Minus false t a b z h i e = absurd (cc)
  added_numbers addition.Or n false a b z h i e = absurd (cc)
  added_numbers _ _ _ a b z h i e = fits_as _ z e (both_in (expression_in r a) (expression_in r b) h i, refl)

  pub added_fits : (o : Addition) (x y : Formed) (f g : Form) (t u : Ty) (z : Formed) → FormFits t f → FormFits u g → added_forms o x y f g ≡ Some z → ValueFits z
  added_fits o x y (as_ordinal a) (as_ordinal b) t u z h i e = added_numbers o (is_integer x.ty && is_integer y.ty) (is_boolean x.ty && is_boolean y.ty) a b z h.0 i.0 e
  added_fits addition.Minus x y (as_set a) (as_set b) t u z h i e = fits_as _ z e (both_in (set_in r a) (set_in r b) h.0 i.0, refl)
  added_fits addition.Or x y (as_set a) (as_set b) t u z h i e = fits_as _ z e (both_in (set_in r a) (set_in r b) h.0 i.0, refl)
  added_fits o x y (as_set a) (as_ordinal b) t u z h i e = absurd (cc)
  added_fits v x y w a t u z h i e = absurd (cc)

  multiplied_numbers : (o : Multiplication) (n t : Bool) (a b : code.OrdinalExpression) (z : Formed) → expression_in r a ≡ true → expression_in r b ≡ true → multiplied_ordinals o n t a b ≡ Some z → ValueFits z
  multiplied_numbers multiplication.Times false t a b z h i e = absurd (cc)
  multiplied_numbers multiplication.Div false t a b z h i e = absurd (cc)
  multiplied_numbers multiplication.Mod false t a b z h i e = absurd (cc)
  multiplied_numbers multiplication.And n false a b z h i e = absurd (cc)
  multiplied_numbers _ _ _ a b z h i e = fits_as _ z e (both_in (expression_in r a) (expression_in r b) h i, refl)

  pub multiplied_fits : (o : Multiplication) (x y : Formed) (f g : Form) (t u : Ty) (z : Formed) → FormFits t f → FormFits u g → multiplied_forms o x y f g ≡ Some z → ValueFits z
  multiplied_fits o x y (as_ordinal a) (as_ordinal b) t u z h i e = multiplied_numbers o (is_integer x.ty && is_integer y.ty) (is_boolean x.ty && is_boolean y.ty) a b z h.0 i.0 e
  multiplied_fits multiplication.And x y (as_set a) (as_set b) t u z h i e = fits_as _ z e (both_in (set_in r a) (set_in r b) h.0 i.0, refl)
  multiplied_fits o x y (as_set a) (as_ordinal b) t u z h i e = absurd (cc)
  multiplied_fits v x y w a t u z h i e = absurd (cc)

  -- ---- signs, `not`, standard functions and members of sets

  sign_fits : (o : Option Sign) (x z : Formed) (n : Bool) (f : Form) → x.form ≡ f → ValueFits x → signed_ordinal o x n f ≡ Some z → ValueFits z
  sign_fits None x z n f j i e = fits_as x z e i
  sign_fits (Some sign.Plus) x z true (as_ordinal a) j i e = fits_as _ z e ((subst (FormFits x.ty) j i).0, refl)
  sign_fits (Some sign.Minus) x z true (as_ordinal a) j i e = fits_as _ z e ((subst (FormFits x.ty) j i).0, refl)
  sign_fits y x z u v j i e = absurd (cc)

  pub signed_fits : (o : Option Sign) (x z : Formed) → ValueFits x → signed_form o x ≡ Some z → ValueFits z
  signed_fits o x z i e = sign_fits o x z (is_integer x.ty) x.form refl i e

  turned : (b : Bool) (t : Ty) (f : Form) (z : Formed) → FormFits t f → not_form_of b f ≡ Some z → ValueFits z
  turned true t (as_ordinal a) z i e = fits_as _ z e (i.0, refl)
  turned x t y z i e = absurd (cc)

  pub not_fits : (x z : Formed) → ValueFits x → not_form x ≡ Some z → ValueFits z
  not_fits x z i e = turned (is_boolean x.ty) x.ty x.form z i e

  pub member_fits : (b c : code.SetExpression) (t : Ty) (f : Form) → set_in r b ≡ true → FormFits t f → with_member_form b f ≡ Some c → set_in r c ≡ true
  member_fits b c t (as_ordinal a) h i e = subst (λ s. set_in r s ≡ true) (same_inside (code.with_element b a) c e) (both_in (set_in r b) (expression_in r a) h i.0)
  member_fits b c t x h i e = absurd (cc)

  number_fits : (b : Bool) (c : code.OrdinalExpression) (z : Formed) → expression_in r c ≡ true → (if b then integer_form c else None) ≡ Some z → ValueFits z
  number_fits true c z h e = fits_as _ z e (h, refl)
  number_fits false c z h e = absurd (cc)

  ordinal_applied : (s : Standard) (t : Ty) (b : Bool) (c : code.OrdinalExpression) (z : Formed) → expression_in r c ≡ true → applied_ordinal s t b c ≡ Some z → ValueFits z
  ordinal_applied scopes.succ_function (named.ordinal q) b c z h e = fits_as _ z e (h, refl)
  ordinal_applied scopes.pred_function (named.ordinal q) b c z h e = fits_as _ z e (h, refl)
  ordinal_applied scopes.chr_function (named.ordinal q) true c z h e = fits_as _ z e (h, refl)
  ordinal_applied scopes.ord_function (named.ordinal q) b c z h e = number_fits (is_within all_integers (range_of_base q.base).high) c z h e
  ordinal_applied scopes.abs_function (named.ordinal q) true c z h e = fits_as _ z e (h, refl)
  ordinal_applied x y u c z h e = absurd (cc)

  place_applied : (s : Standard) (t : Ty) (p : code.Place) (z : Formed) → PlaceFits r p t → applied_place s t p ≡ Some z → ValueFits z
  place_applied scopes.empty_function named.queue_type p z h e = fits_as _ z e (has_place r p named.queue_type 1 h (omega arith), refl)
  place_applied x y p z h e = absurd (cc)

  form_applied : (s : Standard) (x z : Formed) (f : Form) → FormFits x.ty f → applied_form_of s x f ≡ Some z → ValueFits z
  form_applied s x z (as_ordinal c) h e = ordinal_applied s x.ty (is_integer x.ty) c z h.0 e
  form_applied s x z (as_place p) h e = place_applied s x.ty p z h e
  form_applied s x z y h e = absurd (cc)

  pub applied_fits : (s : Standard) (x z : Formed) → ValueFits x → applied_form s x ≡ Some z → ValueFits z
  applied_fits s x z h e = form_applied s x z x.form h e
