-- What is assigned to: the place and the type of a variable, of a part of one, or of a function's own result.
use Rattle.std.proofs.Common.{◌≡◌, ℕ, Bool, true, false, Option, Some, refl, sym, ap, subst, ◌∙◌}
use Rattle.cp_resolved.proofs.Words.{Identifier, result_name, Ty, result_type, Here, frame_here, is_own, PlaceIs, DesignatedIs, Layer}
use Rattle.cp_tree.specs.Syntax as syntax
use Rattle.cp_slots.specs.declared.place.PlaceOrigin.TheVariants as origin
use Rattle.cp_slots.specs.Code as code
use Rattle.cp_layout.specs.Values as values
use Rattle.cp_layout.specs.Values.{place_at}
use Rattle.cp_layout.specs.Layers as layers
use Rattle.cp_layout.specs.LaidExpressions.{meaning_of, name_meaning, designator, selectors}
use Rattle.cp_layout.specs.LaidStatements.{Target, target_of, result_target}
use Rattle.cp_meaning.specs.Types as named
use Rattle.cp_meaning.specs.Scopes as scopes
use Rattle.cp_meaning.specs.Lifting.{selectors_calls}
use Rattle.cp_resolved.specs.Compiled.{then_form, Designated, a_variable, some_components, a_component, result_begun, begun_form, ordinal_form, with_index_form, with_element_form, expression_form, designator_form, selected_form}
use Rattle.cp_resolved.specs.FormedParts.{AreReady}
use Rattle.cp_resolved.specs.FormedStatements.{IsTarget, OwnResult}
use Rattle.cp_resolved.specs.InStep.{Numbering, TypeIs}
use Rattle.cp_resolved.specs.ItemsStand.{Surroundings}
use Rattle.cp_resolved.specs.Stands.{Ground}
use Rattle.cp_resolved.specs.Used.{HasResult, SelectorsUsed}
use Rattle.cp_resolved.proofs.names.Alike.{same_inside}
use Rattle.cp_resolved.proofs.forms.Designating.{IsNoRoutine, begun_same}
use Rattle.cp_resolved.proofs.items.Expressions as known
use Rattle.cp_resolved.proofs.items.Expressions.{cells}
use Rattle.cp_resolved.proofs.items.Going.{ready_next}

pub record TargetIs (k : Numbering) (l : Layer) (place : code.Place) (t : Ty) (x : Target) : Type 0 where
  pub place_is : x.place ≡ place
  pub belongs : TypeIs k l.types t x.value_type

place_inside : (p q : code.Place) (t u : Ty) → a_variable p t ≡ a_variable q u → p ≡ q
place_inside p q t u e = cc

type_inside : (p q : code.Place) (t u : Ty) → a_variable p t ≡ a_variable q u → t ≡ u
type_inside p q t u e = cc

module _ (h : Here) where
  no_variable : (ss : syntax.Selectors) (c : code.ComponentPlace) (n : ℕ) (p : code.Place) (t : Ty) → selected_form h ss (a_component c n) ≡ Some (a_variable p t) → ⊥
  no_variable syntax.no_selectors c n p t e = cc
  no_variable (syntax.more_selectors (syntax.field x) ss) c n p t e = no_variable ss c n p t e
  no_variable (syntax.more_selectors (syntax.index o) ss) c n p t e =
      let q = known.inside (then_form (expression_form h o) (with_index_form h (a_component c n))) _ (a_variable p t) e in
      let r = known.inside (expression_form h o) _ q.0 q.1 in
      let s = known.inside (ordinal_form r.0.form) (with_element_form h (a_component c n)) q.0 r.2 in
      let w : with_element_form h (a_component c n) s.0 ≡ Some q.0 = s.2 in cc

  no_array : (ss : syntax.Selectors) (first : ℕ) (r : named.Range) (n : ℕ) (p : code.Place) (t : Ty) → selected_form h ss (some_components first r n) ≡ Some (a_variable p t) → ⊥
  no_array syntax.no_selectors first r n p t e = cc
  no_array (syntax.more_selectors (syntax.field x) ss) first r n p t e = absurd (cc)
  no_array (syntax.more_selectors (syntax.index o) ss) first r n p t e =
      let q = known.inside (then_form (expression_form h o) (with_index_form h (some_components first r n))) _ (a_variable p t) e in
      let u = known.inside (expression_form h o) _ q.0 q.1 in
      let s = known.inside (ordinal_form u.0.form) (with_element_form h (some_components first r n)) q.0 u.2 in
      let w : Some (a_component (code.element first r.low r.high (h.layouts.systems n).count s.0) n) ≡ Some q.0 = s.2 in
      no_variable ss (code.element first r.low r.high (h.layouts.systems n).count s.0) n p t (ap (selected_form h ss) (same_inside _ q.0 w) ∙ q.2)

  no_entry : (d : Designated) (ss : syntax.Selectors) (p : code.Place) (t : Ty) → selected_form h ss d ≡ Some (a_variable p t) → known.NoEntry d ss
  no_entry (a_variable q u) ss p t e = tt
  no_entry (some_components first r n) ss p t e = absurd (no_array ss first r n p t e)
  no_entry (a_component c n) ss p t e = absurd (no_variable ss c n p t e)

module _ (k : Numbering) (h : Here) (g : Ground) where
  -- a variable, or a part of one
  variable_target : (l : Layer) (x : Identifier) (ss : syntax.Selectors) (q : code.Place) (t : Ty) → Surroundings k h g l → IsNoRoutine (scopes.find x.name h.scope) → SelectorsUsed h ss → AreReady h (cells l) (selectors_calls h.scope ss) → designator_form h (syntax.designator x ss) ≡ Some (a_variable q t) →
      TargetIs k l q t (target_of (designator l (syntax.designator x ss)).1 (designator l (syntax.designator x ss)).0)
  unfolding designator
  variable_target l x ss q t w r u n f =
      let p : (d : Designated) × (begun_form h x.name (scopes.find x.name h.scope) ≡ Some d) × (selected_form h ss d ≡ Some (a_variable q t)) = known.inside (begun_form h x.name (scopes.find x.name h.scope)) (selected_form h ss) (a_variable q t) f in
      let begins : DesignatedIs k l.types p.0 (name_meaning l x.name) = begun_same k h l w.names x.name p.0 r p.1 in
      let i = known.selected_is k h l w.names w.calls l p.0 (a_variable q t) (name_meaning l x.name) ss refl u begins (no_entry h p.0 ss q t p.2) (ready_next h (cells l) (selectors_calls h.scope ss) n) p.2 in
      let y : PlaceIs k l.types q t (selectors l (name_meaning l x.name) ss).0 = i.leads in
      let m : Layer = (selectors l (name_meaning l x.name) ss).1 in
      record { place_is = ap (λ d. (target_of m d).place) y.is; belongs = subst (λ (v : Target). TypeIs k l.types t v.value_type) (sym (ap (target_of m) y.is)) y.belongs }

  -- a function's own result
  result_of_own : (l : Layer) (x : Identifier) (q : code.Place) (t : Ty) (b : Bool) (r : syntax.Routine) → Surroundings k h g l → is_own h x.name ≡ b → scopes.find x.name h.scope ≡ Some (scopes.routine_meaning r) → HasResult (h.layouts.meanings h.routine).result → then_form (result_begun h b) (λ d. Some d) ≡ Some (a_variable q t) → TargetIs k l q t (target_of l (name_meaning l x.name))
  result_of_own l x q t false r w e me a f = absurd (cc)
  result_of_own l x q t true r w e me a f =
      let o : OwnResult k h l x.name = w.result x.name r e me a in
      let same : a_variable (code.place ((frame_here h).origins result_name) 0 code.no_indices) (result_type (h.layouts.meanings h.routine).result) ≡ a_variable q t = same_inside _ (a_variable q t) f in
      let begins : name_meaning l x.name ≡ values.a_routine o.number = ap meaning_of o.there in
      let target : target_of l (name_meaning l x.name) ≡ (let z : Target = record { place = place_at (origin.Local o.result.slot); value_type = o.result.value_type } in z) =
      ap (target_of l) begins ∙ ap (λ c. result_target c (layers.result_of l o.number)) o.own ∙ ap (result_target true) o.held in
      record {
        place_is = ap (λ (z : Target). z.place) target ∙ ap place_at (sym o.cell) ∙ place_inside _ q _ t same;
        belongs = subst (λ u. TypeIs k l.types u (target_of l (name_meaning l x.name)).value_type) (type_inside _ q _ t same) (subst (λ (z : Target). TypeIs k l.types (result_type (h.layouts.meanings h.routine).result) z.value_type) (sym target) o.belongs);
      }

  pub own_target : (l : Layer) (x : Identifier) (ss : syntax.Selectors) (q : code.Place) (t : Ty) (m : Option scopes.Meaning) → Surroundings k h g l → scopes.find x.name h.scope ≡ m → IsTarget h m (syntax.designator x ss) → SelectorsUsed h ss → AreReady h (cells l) (selectors_calls h.scope ss) → designator_form h (syntax.designator x ss) ≡ Some (a_variable q t) →
      TargetIs k l q t (target_of (designator l (syntax.designator x ss)).1 (designator l (syntax.designator x ss)).0)
  unfolding designator selectors
  own_target l x syntax.no_selectors q t (Some (scopes.routine_meaning r)) w e i u n f = result_of_own l x q t (is_own h x.name) r w refl e i.1 (ap (λ m. then_form (begun_form h x.name m) (λ d. Some d)) (sym e) ∙ f)
  own_target l x (syntax.more_selectors s ss) q t (Some (scopes.routine_meaning r)) w e i u n f = absurd i.0
  own_target l x ss q t (Some (scopes.constant_meaning b z)) w e i u n f = variable_target l x ss q t w (subst IsNoRoutine (sym e) tt) u n f
  own_target l x ss q t _ w e i u n f = variable_target l x ss q t w (subst IsNoRoutine (sym e) tt) u n f
