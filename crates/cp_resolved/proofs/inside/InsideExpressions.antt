-- What has a form reads inside the cells of its routine: expressions, and variables with their selectors.
use Rattle.std.proofs.Common.{◌≡◌, ℕ, pos, Bool, true, false, List, [], ◌∷◌, ◌++◌, Option, Some, refl, subst, arith}
use Rattle.cp_resolved.proofs.Words.{Identifier, Permanent, RoutineView, Name, temporary, result_name, Item, function_call, result_type, routine_called}
use Rattle.cp_resolved.proofs.Words.{result_called, cells_of, Here, system_here, frame_here, is_own, look, AreHeld}
use Rattle.cp_tree.specs.Syntax as syntax
use Rattle.cp_slots.specs.Code as code
use Rattle.cp_meaning.specs.Types as named
use Rattle.cp_meaning.specs.Types.{Ty, has_components, integers, characters}
use Rattle.cp_meaning.specs.Scopes as scopes
use Rattle.cp_meaning.specs.Lifting.{last_field, is_call_meant, own_call, expression_calls, sum_calls, terms_calls, term_calls, factors_calls, factor_calls, expressions_calls, designator_calls, selectors_calls}
use Rattle.cp_resolved.specs.Compiled.{Form, as_ordinal, Formed, then_form, Designated, a_variable, some_components, a_component, permanent_begun, result_begun, begun_form, with_field_form, with_element_form, ordinal_form, with_index_form, valued_form, signed_form, added_forms, multiplied_forms, compared_forms, not_form, applied_form, with_member_form, set_form, call_form, named_form, expression_form, sum_form, terms_form, term_form, factors_form, factor_form, members_form, first_form, designator_form, selected_form}
use Rattle.cp_resolved.proofs.names.Alike.{same_inside}
use Rattle.cp_resolved.proofs.items.Expressions.{inside}
use Rattle.cp_resolved.proofs.inside.InsidePlaces.{HasCells, PlaceFits, whole_fits, has_place, VariableFits, field_fits, element_fits}
use Rattle.cp_resolved.proofs.inside.InsideForms.{FormFits, ValueFits, DesignatedFits, fits_as, valued_fits, constant_fits, compared_fits, added_fits, multiplied_fits, signed_fits, not_fits, member_fits, applied_fits}
use Rattle.cp_resolved.proofs.inside.PlainInside.{expression_in, set_in}

-- ---- the cells of temporary names

module _ (h : Here) where
  pub held_first : (is js : List Item) → AreHeld h (is ++ js) → AreHeld h is
  held_first [] js a = tt
  held_first (function_call at d es ∷ is) js a = (a.0, held_first is js a.1)
  held_first _ js a = absurd a

  pub held_rest : (is js : List Item) → AreHeld h (is ++ js) → AreHeld h js
  held_rest [] js a = a
  held_rest (function_call at d es ∷ is) js a = held_rest is js a.1
  held_rest _ js a = absurd a

-- ---- what is known of the variables

-- the variables that are named where a statement stands have their cells
pub record VariablesFit (C : code.ComponentPlace → ℕ → Type 0) (h : Here) (r : RoutineView) : Type 0 where
  pub frame : (x : Name) (t : Ty) → look x (frame_here h).variables ≡ Some t → HasCells r ((frame_here h).origins x) (cells_of t)
  pub local : (x : Name) (t : Ty) → scopes.find x h.scope ≡ Some (scopes.local_variable t) → PlaceFits r (code.place ((frame_here h).origins x) 0 code.no_indices) t
  pub permanent : (x : Name) (t : Ty) → scopes.find x h.scope ≡ Some (scopes.permanent_variable t) → has_components t ≡ false → PlaceFits r (code.place (Permanent ((system_here h).slots x)) 0 code.no_indices) t
  pub result : (x : Name) (y : syntax.Routine) → scopes.find x h.scope ≡ Some (scopes.routine_meaning y) → is_own h x ≡ true → PlaceFits r (code.place ((frame_here h).origins result_name) 0 code.no_indices) (result_type (h.layouts.meanings h.routine).result)
  -- what is wanted of components holds of those that are named
  pub component : (x : Name) (k : ℕ) → scopes.find x h.scope ≡ Some (scopes.permanent_variable (named.component_of k)) → DesignatedFits C h r (permanent_begun h x (named.component_of k))
  pub components : (x : Name) (q : named.Range) (k : ℕ) → scopes.find x h.scope ≡ Some (scopes.permanent_variable (named.array_over q (named.component_of k))) → DesignatedFits C h r (permanent_begun h x (named.array_over q (named.component_of k)))

module _ (C : code.ComponentPlace → ℕ → Type 0) (h : Here) (r : RoutineView) (v : VariablesFit C h r) where
  abbrev Fits : Formed → Type 0
  Fits z = ValueFits C h r z

  abbrev Designates : Designated → Type 0
  Designates d = DesignatedFits C h r d

  variable_designates : (d : Designated) → VariableFits r d → Designates d
  variable_designates (a_variable p t) f = f
  variable_designates _ f = absurd f

  designates_as : (d q : Designated) → Some d ≡ Some q → Designates d → Designates q
  designates_as d q e f = subst Designates (same_inside d q e) f

  -- ---- names

  permanent_fits : (x : Name) (t : Ty) → scopes.find x h.scope ≡ Some (scopes.permanent_variable t) → Designates (permanent_begun h x t)
  permanent_fits x (named.component_of k) e = v.component x k e
  permanent_fits x (named.array_over q (named.component_of k)) e = v.components x q k e
  permanent_fits x t e = v.permanent x t e refl

  result_fits : (x : Name) (y : syntax.Routine) (b : Bool) (d : Designated) → scopes.find x h.scope ≡ Some (scopes.routine_meaning y) → is_own h x ≡ b → result_begun h b ≡ Some d → Designates d
  result_fits x y true d e o g = designates_as _ d g (v.result x y e o)
  result_fits x y false d e o g = absurd (cc)

  pub begun_fits : (x : Name) (m : Option scopes.Meaning) (d : Designated) → scopes.find x h.scope ≡ m → begun_form h x m ≡ Some d → Designates d
  begun_fits x (Some (scopes.permanent_variable t)) d e g = designates_as _ d g (permanent_fits x t e)
  begun_fits x (Some (scopes.local_variable t)) d e g = designates_as _ d g (v.local x t e)
  begun_fits x (Some (scopes.routine_meaning y)) d e g = result_fits x y (is_own h x) d e refl g
  begun_fits x y d e g = absurd (cc)

  field_of_fits : (d q : Designated) (x : Name) → Designates d → with_field_form d x ≡ Some q → Designates q
  field_of_fits (a_variable p t) q x f e = variable_designates q (field_fits r p t x q f e)
  field_of_fits (a_component c k) q x f e = designates_as (a_component c k) q e f
  field_of_fits (some_components first s k) q x f e = absurd (cc)

  element_of_fits : (d q : Designated) (c : code.OrdinalExpression) → Designates d → expression_in r c ≡ true → with_element_form h d c ≡ Some q → Designates q
  element_of_fits (a_variable p t) q c f i e = variable_designates q (element_fits r p t c q f i e)
  element_of_fits (some_components first s k) q c f i e = designates_as _ q e (f c i)
  element_of_fits (a_component o k) q c f i e = absurd (cc)

  ordinal_inside : (t : Ty) (f : Form) (c : code.OrdinalExpression) → FormFits C h r t f → ordinal_form f ≡ Some c → expression_in r c ≡ true
  ordinal_inside t (as_ordinal a) c i e = subst (λ x. expression_in r x ≡ true) (same_inside a c e) i.0
  ordinal_inside t x c i e = absurd (cc)

  -- the result of a call
  call_fits : (at : ℕ) (t : Ty) (z : Formed) → look (temporary at) (frame_here h).variables ≡ Some t → call_form h at t ≡ Some z → Fits z
  call_fits at (named.ordinal q) z e g =
      let p : PlaceFits r (code.place ((frame_here h).origins (temporary at)) 0 code.no_indices) (named.ordinal q) = whole_fits r ((frame_here h).origins (temporary at)) (named.ordinal q) (v.frame (temporary at) (named.ordinal q) e) tt in
      fits_as C h r _ z g (has_place r (code.place ((frame_here h).origins (temporary at)) 0 code.no_indices) (named.ordinal q) 1 p (omega arith), refl)
  call_fits at x z e g = absurd (cc)

  named_fits : (at : ℕ) (d : syntax.Designator) (es : syntax.Expressions) (z : Formed) (c : Bool) (m : Option scopes.Meaning) → AreHeld h (own_call c at d es) → ((q : Designated) → designator_form h d ≡ Some q → Designates q) → ((x : Formed) → first_form h es ≡ Some x → Fits x) →
      named_form h at d c m (designator_form h d) (first_form h es) ≡ Some z → Fits z
  named_fits at d es z true m a go first e = call_fits at (result_called (routine_called h.program h.scope d)) z a.0 e
  named_fits at d es z false (Some (scopes.constant_meaning b n)) a go first e = constant_fits C h r b n z e
  named_fits at d es z false (Some (scopes.standard_meaning s)) a go first e =
      let p = inside (first_form h es) (applied_form s) z e in
      applied_fits C h r s p.0 z (first p.0 p.1) p.2
  named_fits at d es z false _ a go first e = let p = inside (designator_form h d) valued_form z e in valued_fits C h r p.0 z (go p.0 p.1) p.2

  -- a name with its selectors
  after_begun : (x : Identifier) (ss : syntax.Selectors) (q : Designated) → ((d : Designated) → Designates d → selected_form h ss d ≡ Some q → Designates q) → designator_form h (syntax.designator x ss) ≡ Some q → Designates q
  after_begun x ss q go f =
      let p = inside (begun_form h x.name (scopes.find x.name h.scope)) (selected_form h ss) q f in
      go p.0 (begun_fits x.name (scopes.find x.name h.scope) p.0 refl p.1) p.2

  -- ---- expressions

  mutual
    pub expression_fits : (e : syntax.Expression) (z : Formed) → AreHeld h (expression_calls h.scope e) → expression_form h e ≡ Some z → Fits z
    expression_fits (syntax.alone at a) z n f = sum_fits a z n f
    expression_fits (syntax.related at a o b) z n f =
        let p = inside (sum_form h a) (λ x. then_form (sum_form h b) (λ y. compared_forms o x.form y.form)) z f in
        let q = inside (sum_form h b) (λ y. compared_forms o p.0.form y.form) z p.2 in
        compared_fits C h r o p.0.ty q.0.ty p.0.form q.0.form z (sum_fits a p.0 (held_first h (sum_calls h.scope a) (sum_calls h.scope b) n) p.1) (sum_fits b q.0 (held_rest h (sum_calls h.scope a) (sum_calls h.scope b) n) q.1) q.2

    sum_fits : (a : syntax.Sum) (z : Formed) → AreHeld h (sum_calls h.scope a) → sum_form h a ≡ Some z → Fits z
    sum_fits (syntax.sum at o t ts) z n f =
        let p = inside (term_form h t) (λ x. then_form (signed_form o x) (λ y. terms_form h ts y)) z f in
        let q = inside (signed_form o p.0) (λ y. terms_form h ts y) z p.2 in
        terms_fits q.0 ts z (signed_fits C h r o p.0 q.0 (term_fits t p.0 (held_first h (term_calls h.scope t) (terms_calls h.scope ts) n) p.1) q.1) (held_rest h (term_calls h.scope t) (terms_calls h.scope ts) n) q.2

    terms_fits : (x : Formed) (ts : syntax.Terms) (z : Formed) → Fits x → AreHeld h (terms_calls h.scope ts) → terms_form h ts x ≡ Some z → Fits z
    terms_fits x syntax.no_terms z i n f = fits_as C h r x z f i
    terms_fits x (syntax.more_terms o t ts) z i n f =
        let p = inside (term_form h t) (λ y. then_form (added_forms o x y x.form y.form) (λ w. terms_form h ts w)) z f in
        let q = inside (added_forms o x p.0 x.form p.0.form) (λ w. terms_form h ts w) z p.2 in
        terms_fits q.0 ts z (added_fits C h r o x p.0 x.form p.0.form x.ty p.0.ty q.0 i (term_fits t p.0 (held_first h (term_calls h.scope t) (terms_calls h.scope ts) n) p.1) q.1) (held_rest h (term_calls h.scope t) (terms_calls h.scope ts) n) q.2

    term_fits : (t : syntax.Term) (z : Formed) → AreHeld h (term_calls h.scope t) → term_form h t ≡ Some z → Fits z
    term_fits (syntax.term at a fs) z n f =
        let p = inside (factor_form h a) (λ x. factors_form h fs x) z f in
        factors_fits p.0 fs z (factor_fits a p.0 (held_first h (factor_calls h.scope a) (factors_calls h.scope fs) n) p.1) (held_rest h (factor_calls h.scope a) (factors_calls h.scope fs) n) p.2

    factors_fits : (x : Formed) (fs : syntax.Factors) (z : Formed) → Fits x → AreHeld h (factors_calls h.scope fs) → factors_form h fs x ≡ Some z → Fits z
    factors_fits x syntax.no_factors z i n f = fits_as C h r x z f i
    factors_fits x (syntax.more_factors o a fs) z i n f =
        let p = inside (factor_form h a) (λ y. then_form (multiplied_forms o x y x.form y.form) (λ w. factors_form h fs w)) z f in
        let q = inside (multiplied_forms o x p.0 x.form p.0.form) (λ w. factors_form h fs w) z p.2 in
        factors_fits q.0 fs z (multiplied_fits C h r o x p.0 x.form p.0.form x.ty p.0.ty q.0 i (factor_fits a p.0 (held_first h (factor_calls h.scope a) (factors_calls h.scope fs) n) p.1) q.1) (held_rest h (factor_calls h.scope a) (factors_calls h.scope fs) n) q.2

    factor_fits : (a : syntax.Factor) (z : Formed) → AreHeld h (factor_calls h.scope a) → factor_form h a ≡ Some z → Fits z
    factor_fits (syntax.number at c) z n f = constant_fits C h r integers (pos c) z f
    factor_fits (syntax.character at c) z n f = constant_fits C h r characters (pos c) z f
    factor_fits (syntax.named at (syntax.designator x ss) es) z n f =
        let d : syntax.Designator = syntax.designator x ss in
        let own : List Item = own_call (is_call_meant (scopes.find x.name h.scope) (last_field ss)) at d es in
        let parts : AreHeld h (selectors_calls h.scope ss ++ expressions_calls h.scope es) = held_first h (selectors_calls h.scope ss ++ expressions_calls h.scope es) own n in
        named_fits at d es z (is_call_meant (scopes.find x.name h.scope) (last_field ss)) (scopes.find x.name h.scope) (held_rest h (selectors_calls h.scope ss ++ expressions_calls h.scope es) own n)
        (λ q g. after_begun x ss q (λ y i w. selected_fits ss y q (held_first h (selectors_calls h.scope ss) (expressions_calls h.scope es) parts) i w) g)
        (λ y g. first_fits es y (held_rest h (selectors_calls h.scope ss) (expressions_calls h.scope es) parts) g) f
    factor_fits (syntax.group at e) z n f = expression_fits e z n f
    factor_fits (syntax.negated at a) z n f =
        let p = inside (factor_form h a) not_form z f in
        not_fits C h r p.0 z (factor_fits a p.0 n p.1) p.2
    factor_fits (syntax.set_of at es) z n f =
        let p = inside (members_form h es code.empty_set) set_form z f in
        fits_as C h r _ z p.2 (members_fit code.empty_set es p.0 refl n p.1, refl)

    members_fit : (b : code.SetExpression) (es : syntax.Expressions) (c : code.SetExpression) → set_in r b ≡ true → AreHeld h (expressions_calls h.scope es) → members_form h es b ≡ Some c → set_in r c ≡ true
    members_fit b syntax.no_expressions c i n f = subst (λ s. set_in r s ≡ true) (same_inside b c f) i
    members_fit b (syntax.more_expressions e es) c i n f =
        let p = inside (expression_form h e) (λ x. then_form (with_member_form b x.form) (λ s. members_form h es s)) c f in
        let q = inside (with_member_form b p.0.form) (λ s. members_form h es s) c p.2 in
        members_fit q.0 es c (member_fits C h r b q.0 p.0.ty p.0.form i (expression_fits e p.0 (held_first h (expression_calls h.scope e) (expressions_calls h.scope es) n) p.1) q.1) (held_rest h (expression_calls h.scope e) (expressions_calls h.scope es) n) q.2

    first_fits : (es : syntax.Expressions) (z : Formed) → AreHeld h (expressions_calls h.scope es) → first_form h es ≡ Some z → Fits z
    first_fits syntax.no_expressions z n f = absurd (cc)
    first_fits (syntax.more_expressions e es) z n f = expression_fits e z (held_first h (expression_calls h.scope e) (expressions_calls h.scope es) n) f

    selected_fits : (ss : syntax.Selectors) (d q : Designated) → AreHeld h (selectors_calls h.scope ss) → Designates d → selected_form h ss d ≡ Some q → Designates q
    selected_fits syntax.no_selectors d q n i f = designates_as d q f i
    selected_fits (syntax.more_selectors (syntax.field y) ss) d q n i f =
        let p = inside (with_field_form d y.name) (selected_form h ss) q f in
        selected_fits ss p.0 q n (field_of_fits d p.0 y.name i p.1) p.2
    selected_fits (syntax.more_selectors (syntax.index e) ss) d q n i f =
        let p = inside (then_form (expression_form h e) (with_index_form h d)) (selected_form h ss) q f in
        let x = inside (expression_form h e) (with_index_form h d) p.0 p.1 in
        let c = inside (ordinal_form x.0.form) (with_element_form h d) p.0 x.2 in
        let here : Fits x.0 = expression_fits e x.0 (held_first h (expression_calls h.scope e) (selectors_calls h.scope ss) n) x.1 in
        selected_fits ss p.0 q (held_rest h (expression_calls h.scope e) (selectors_calls h.scope ss) n) (element_of_fits d p.0 c.0 i (ordinal_inside x.0.ty x.0.form c.0 here c.1) c.2) p.2

  pub designated_fits : (d : syntax.Designator) (q : Designated) → AreHeld h (designator_calls h.scope d) → designator_form h d ≡ Some q → Designates q
  designated_fits (syntax.designator x ss) q n f = after_begun x ss q (λ d i g. selected_fits ss d q n i g) f
