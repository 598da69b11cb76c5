-- Where an expression that breaks no rule is a variable that may be assigned to, its form is the value of that variable.
use Rattle.cp_resolved.proofs.Words.{◌≡◌, ℕ, Bool, true, false, if◌then◌else◌, [], Option, Some, None, Ok, refl, sym, ap, subst, ◌∙◌, Identifier}
use Rattle.cp_resolved.proofs.Words.{ValueType, values_of, Scopes, Context, Operand, Named, value, is_assignable, Name, Ty, find, last_field}
use Rattle.cp_resolved.proofs.Words.{is_call_meant, Here, Tokens, Written, TypeIs, is_plain, ScopesAgree, IsSmallExpression}
use Rattle.cp_tree.specs.Syntax.{Expression, named as factor_named, designator as name_with, Designator, no_expressions, Selectors}
use Rattle.cp_check.specs.declared.operand.OperandUse.TheVariants as place
use Rattle.cp_check.specs.declared.operand.DesignatedName as check_designated
use Rattle.cp_check.specs.declared.operand.Named.TheVariants as name
use Rattle.cp_check.specs.Calls as calls
use Rattle.cp_check.specs.Expressions.{expression}
use Rattle.cp_slots.specs.Code as code
use Rattle.cp_meaning.specs.Types as named
use Rattle.cp_meaning.specs.Scopes as scopes
use Rattle.cp_resolved.specs.Compiled.{Formed, Designated, a_variable, some_components, a_component, then_form, loaded_form, valued_form, signed_form, named_form, expression_form, factor_form, designator_form}
use Rattle.cp_resolved.proofs.forms.MadeValues.{applied_made, alone_made, call_made}
use Rattle.cp_resolved.proofs.forms.NamesAlone.{assigned_stored, none_made, name_only_of, NameAlone, expression_alone}
use Rattle.cp_resolved.proofs.agreeing.WithoutFaults.{ok_same}
use Rattle.cp_resolved.proofs.forms.Typing.{formed}
use Rattle.cp_resolved.proofs.forms.TypingNames.{Holds, written, NamedIs}
use Rattle.cp_resolved.proofs.forms.TypingValues.{IsValue, held_value}
use Rattle.cp_resolved.proofs.forms.TypingExpressions.{designator_named}

-- ---- variables

-- the value of a variable of the type
pub record VariableForm (w : Written) (v : ValueType) (f : Option Formed) : Type 0 where
  pub place : code.Place
  pub ty : Ty
  pub is : f ≡ Some (formed ty (loaded_form place ty))
  pub belongs : TypeIs w ty v
  pub plain : is_plain ty ≡ true

module _ (tokens : Tokens) (s : Scopes) (h : Here) (w : Context) (agrees : ScopesAgree tokens s h) where
  abbrev W : Written
  W = written tokens s h

  pub components_fixed : (v : ValueType) (q : named.Range) (k : ℕ) → TypeIs W (named.array_over q (named.component_of k)) v → calls.is_fixed s v ≡ true
  components_fixed v q k e = ap (calls.is_fixed s) e.is ∙ ap calls.is_fixed_array e.there ∙ ap calls.is_fixed_element e.belongs.is

  pub free_place : (v : ValueType) → is_assignable (calls.place_of s v) ≡ true → calls.is_fixed s v ≡ false
  free_place v e = go (calls.is_fixed s v) e
    where
      go : (b : Bool) → is_assignable (if b then place.Fixed else place.Assignable) ≡ true → b ≡ false
      go true k = absurd (cc)
      go false k = refl

  held_variable : (m : Option scopes.Meaning) (x : Option Name) (v : ValueType) (o : Option Designated) → Holds W m x v o → calls.is_fixed s v ≡ false → VariableForm W v (then_form o valued_form)
  held_variable m x v (Some (a_variable p t)) i free = record { place = p; ty = t; is = refl; belongs = i.0; plain = i.1 }
  held_variable m x v (Some (some_components first q k)) i free = absurd (let bad : true ≡ false = sym (components_fixed v q k i.0) ∙ free in cc)
  held_variable m x v (Some (a_component c k)) i free = absurd (let bad : true ≡ false = sym (ap (calls.is_fixed s) i.0.is) ∙ free in cc)
  held_variable m x v None i free = absurd i

  variable_held : (at : ℕ) (i : Identifier) (ss : Selectors) (v : ValueType) (o : Option Designated) (f : Option Formed) → Holds W (find i.name h.scope) (last_field ss) v o → is_assignable (calls.place_of s v) ≡ true → VariableForm W v (named_form h at (name_with i ss) (is_call_meant (find i.name h.scope) (last_field ss)) (find i.name h.scope) o f)
  variable_held at i ss v o f k a =
      let is : IsValue tokens s h w (find i.name h.scope) (last_field ss) = held_value tokens s h w (find i.name h.scope) (last_field ss) v o k in
      subst (λ (b : Bool). VariableForm W v (named_form h at (name_with i ss) b (find i.name h.scope) o f)) (sym is.call)
      (subst (VariableForm W v) (sym (is.value at (name_with i ss) o f)) (held_variable (find i.name h.scope) (last_field ss) v o k (free_place v a)))

  -- a parameter that is handed over as a value is not assigned to
  value_held : (at : ℕ) (i : Identifier) (ss : Selectors) (d : check_designated.DesignatedName) (n : Named) (c : Option Designated) (f : Option Formed) (o : Operand) → NamedIs tokens s h i.name (find i.name h.scope) (last_field ss) n c → calls.value_by_name s w at d [] n ≡ Ok o → is_assignable o.place ≡ true →
      VariableForm W o.value_type (named_form h at (name_with i ss) (is_call_meant (find i.name h.scope) (last_field ss)) (find i.name h.scope) c f)
  value_held at i ss d (name.Variable v) c f o k is a =
      let same : calls.operand_at at v (calls.place_of s v) d.uses ≡ o = ok_same (calls.operand_at at v (calls.place_of s v) d.uses) o is in
      subst (λ (z : Operand). VariableForm W z.value_type (named_form h at (name_with i ss) (is_call_meant (find i.name h.scope) (last_field ss)) (find i.name h.scope) c f)) same
      (variable_held at i ss v c f k (ap (λ (z : Operand). is_assignable z.place) same ∙ a))
  value_held at i ss d (name.Parameter v) c f o k is a = absurd (let bad : false ≡ true = ap (λ (z : Operand). is_assignable z.place) (ok_same (calls.operand_at at v place.Fixed d.uses) o is) ∙ a in cc)
  value_held at i ss d (name.Constant b) c f o k is a = absurd (none_made (calls.value_by_name s w at d [] (name.Constant b)) o (alone_made (value at (values_of b) d.uses) [] refl) is (assigned_stored o.place a))
  value_held at i ss d (name.Predeclared p) c f o k is a = absurd (none_made (calls.value_by_name s w at d [] (name.Predeclared p)) o (applied_made at p [] (calls.total_use d.uses [])) is (assigned_stored o.place a))
  value_held at i ss d (name.Routine n) c f o k is a = absurd (none_made (calls.value_by_name s w at d [] (name.Routine n)) o (call_made s w at d.name_at true n [] d.uses) is (assigned_stored o.place a))
  value_held at i ss d (name.Entry n) c f o k is a = absurd (none_made (calls.value_by_name s w at d [] (name.Entry n)) o (call_made s w at d.name_at false n [] d.uses) is (assigned_stored o.place a))
  value_held at i ss d _ c f o k is a = absurd (cc)

  -- a factor alone is the whole expression
  lifted : (v : ValueType) (f : Option Formed) → VariableForm W v f → VariableForm W v (then_form (then_form f (λ x. Some x)) (λ x. then_form (signed_form None x) (λ y. Some y)))
  lifted v f x = record { place = x.place; ty = x.ty; is = ap (λ (z : Option Formed). then_form (then_form z (λ x. Some x)) (λ x. then_form (signed_form None x) (λ y. Some y))) x.is; belongs = x.belongs; plain = x.plain }

  pub expression_held : (v : Bool) (e : Expression) (o : Operand) → IsSmallExpression e → expression s w v e ≡ Ok o → is_assignable o.place ≡ true → VariableForm W o.value_type (expression_form h e)
  expression_held v e o m is a =
      let x : NameAlone s w e o = expression_alone s w v e o is (assigned_stored o.place a) in
      let d : Designator = name_with x.identifier x.chosen in
      let small : IsSmallExpression (name_only_of s w x.first x.second x.third x.token d) = subst IsSmallExpression x.is m in
      let typed = designator_named tokens s h w agrees x.identifier x.chosen x.value small.0.0.0 x.judged in
      subst (λ (z : Expression). VariableForm W o.value_type (expression_form h z)) (sym x.is)
      (lifted o.value_type (factor_form h (factor_named x.token d no_expressions)) (value_held x.token x.identifier x.chosen x.value x.value.named (designator_form h d) _ o typed x.rest a))
