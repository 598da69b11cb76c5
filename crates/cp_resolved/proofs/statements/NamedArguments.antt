-- Where an expression that breaks no rule is a variable that may be assigned to, it is a name alone, and no call; and so is the argument of a `var` parameter.
use Rattle.std.proofs.Common.{◌≡◌, ℕ, Bool, true, false, ◌&&◌, if◌then◌else◌, List, [], ◌∷◌, Option, Some, Ok, refl, ap, subst, ◌∙◌}
use Rattle.cp_resolved.proofs.Words.{not, Identifier, C6, Scopes, Context, Operand, Named, value, is_assignable, values_of}
use Rattle.cp_resolved.proofs.Words.{fault, variable_faults, all_variable_faults, find, Parameter, is_call, last_field, Here, Designated, designator_form}
use Rattle.cp_tree.specs.Syntax.{Expression, Expressions, no_expressions, more_expressions, Designator, designator as name_with, Selectors}
use Rattle.cp_scope.specs.declared.types.Parameter as check_parameter
use Rattle.cp_check.specs.declared.operand.DesignatedName as check_designated
use Rattle.cp_check.specs.declared.operand.Named.TheVariants as name
use Rattle.cp_check.specs.Calls as calls
use Rattle.cp_check.specs.Expressions.{expression}
use Rattle.cp_meaning.specs.Expressions.{variable_in}
use Rattle.cp_resolved.specs.Typed.{Tokens, AreParameters, ScopesAgree, IsSmallExpression, AreSmallExpressions}
use Rattle.cp_resolved.proofs.agreeing.Agreeing.{none_left, none_right}
use Rattle.cp_resolved.proofs.forms.MadeValues.{applied_made, alone_made, call_made}
use Rattle.cp_resolved.proofs.forms.NamesAlone.{is_stored, assigned_stored, none_made, name_only_of, NameAlone, expression_alone}
use Rattle.cp_resolved.proofs.forms.GivenArguments.{AreArguments, Argument}
use Rattle.cp_resolved.proofs.forms.TypingExpressions.{designator_named}
use Rattle.cp_resolved.proofs.forms.TypingNames.{written, NamedIs}
use Rattle.cp_resolved.proofs.forms.TypingValues.{IsValue, held_value}

-- ---- names alone

-- a variable, and no call
pub record IsVariable (h : Here) (o : Option Designator) : Type 0 where
  pub designator : Designator
  pub is : o ≡ Some designator
  pub no_call : is_call h.scope designator ≡ false

-- an argument for a `var` parameter is a variable
abbrev pub AreVariables : Here → List Parameter → Expressions → Type 0
AreVariables h [] es = Unit {0}
AreVariables h (q ∷ qs) no_expressions = Unit {0}
AreVariables h (q ∷ qs) (more_expressions e es) = (q.is_var ≡ true → IsVariable h (variable_in e)) × AreVariables h qs es

module _ (tokens : Tokens) (s : Scopes) (h : Here) (w : Context) (agrees : ScopesAgree tokens s h) where
  -- what a name alone stands for, where that stands somewhere, is no call
  no_call : (at : ℕ) (i : Identifier) (ss : Selectors) (d : check_designated.DesignatedName) (n : Named) (c : Option Designated) (o : Operand) → NamedIs tokens s h i.name (find i.name h.scope) (last_field ss) n c → calls.value_by_name s w at d [] n ≡ Ok o → is_stored o.place ≡ true → is_call h.scope (name_with i ss) ≡ false
  no_call at i ss d (name.Variable v) c o k is a = (let x : IsValue tokens s h w (find i.name h.scope) (last_field ss) = held_value tokens s h w (find i.name h.scope) (last_field ss) v c k in x.call)
  no_call at i ss d (name.Parameter v) c o k is a = (let x : IsValue tokens s h w (find i.name h.scope) (last_field ss) = held_value tokens s h w (find i.name h.scope) (last_field ss) v c k in x.call)
  no_call at i ss d (name.Constant b) c o k is a = absurd (none_made (calls.value_by_name s w at d [] (name.Constant b)) o (alone_made (value at (values_of b) d.uses) [] refl) is a)
  no_call at i ss d (name.Predeclared p) c o k is a = absurd (none_made (calls.value_by_name s w at d [] (name.Predeclared p)) o (applied_made at p [] (calls.total_use d.uses [])) is a)
  no_call at i ss d (name.Routine n) c o k is a = absurd (none_made (calls.value_by_name s w at d [] (name.Routine n)) o (call_made s w at d.name_at true n [] d.uses) is a)
  no_call at i ss d (name.Entry n) c o k is a = absurd (none_made (calls.value_by_name s w at d [] (name.Entry n)) o (call_made s w at d.name_at false n [] d.uses) is a)
  no_call at i ss d _ c o k is a = absurd (cc)

  pub stored_variable : (v : Bool) (e : Expression) (o : Operand) → IsSmallExpression e → expression s w v e ≡ Ok o → is_stored o.place ≡ true → IsVariable h (variable_in e)
  stored_variable v e o m is a =
      let x : NameAlone s w e o = expression_alone s w v e o is a in
      let d : Designator = name_with x.identifier x.chosen in
      let small : IsSmallExpression (name_only_of s w x.first x.second x.third x.token d) = subst IsSmallExpression x.is m in
      record { designator = d; is = ap variable_in x.is; no_call = no_call x.token x.identifier x.chosen x.value x.value.named (designator_form h d) o (designator_named tokens s h w agrees x.identifier x.chosen x.value small.0.0.0 x.judged) x.rest a }

  -- ---- arguments

  free_place : (b c : Bool) (o : Operand) → (if b && not c then fault o.at C6 else []) ≡ [] → b ≡ true → c ≡ true
  free_place true true o k e = refl
  free_place x y o k e = absurd (cc)

  one_variable : (a : check_parameter.Parameter) (e : Expression) (o : Operand) → IsSmallExpression e → Argument tokens s h w agrees a e o → variable_faults a o ≡ [] → a.is_var ≡ true → IsVariable h (variable_in e)
  one_variable a e o m x k var = stored_variable x.alone e o m x.is (assigned_stored o.place (free_place a.is_var (is_assignable o.place) o k var))

  pub given_variables : (as' : List check_parameter.Parameter) (qs : List Parameter) (es : Expressions) (os : List Operand) → AreParameters (written tokens s h) as' qs → AreSmallExpressions es → AreArguments tokens s h w agrees as' es os → all_variable_faults as' os ≡ [] → AreVariables h qs es
  given_variables (a ∷ as') (q ∷ qs) (more_expressions e es) (o ∷ os) i m x k =
      ((λ var. one_variable a e o m.0 x.0 (none_left (variable_faults a o) (all_variable_faults as' os) k) (i.0.passed ∙ var)), given_variables as' qs es os i.1 m.1 x.1 (none_right (variable_faults a o) (all_variable_faults as' os) k))
  given_variables (a ∷ as') (q ∷ qs) (more_expressions e es) [] i m x k = absurd x
  given_variables [] (q ∷ qs) es os i m x k = absurd i
  given_variables (a ∷ as') [] es os i m x k = absurd i
  given_variables _ _ _ os i m x k = tt
