-- Arguments that break no rule can be handed over to the parameters of what is called or started.
use Rattle.std.proofs.Common.{◌≡◌, ℕ, suc, ◌+◌, Bool, true, false, ◌&&◌, if◌then◌else◌, List, [], ◌∷◌, ◌++◌, length, Option, Some, None, Ok, slice_get, refl, sym, ap, subst, ◌∙◌, arith}
use Rattle.cp_resolved.proofs.Words.{nat_eq, not, Decides-eqb, Expression, Expressions, no_expressions, more_expressions, Designator, CheckFault, Use, both_uses, Judged, ValueType}
use Rattle.cp_resolved.proofs.Words.{both, ◌>>=◌, Scopes, heading_at, body_at, Context, Operand, OperandUse, is_assignable, is_function, expression, arguments, is_var_at}
use Rattle.cp_resolved.proofs.Words.{Ty, natural_of, Parameter, RoutineMeaning, routine_called, Here, cells_of, is_free, ValueGiven, PlaceGiven, GivenBy, C5, C6, C7}
use Rattle.cp_resolved.proofs.Words.{as_ordinal, as_set, as_place, as_component, Formed, place_form, loaded_form, expression_form, CanGive, CanGiveAll, CallFormed}
use Rattle.cp_scope.specs.declared.types.Parameter as check_parameter
use Rattle.cp_scope.specs.Types.{agree, same}
use Rattle.cp_check.specs.declared.operand.OperandUse.TheVariants as place
use Rattle.cp_check.specs.Calls as calls
use Rattle.cp_check.specs.Calls.{fits, all_fit, fit_faults, fault, variable_faults, all_variable_faults, assignable_faults, unless}
use Rattle.cp_check.specs.Expressions as expressions
use Rattle.cp_check.specs.Statements as statements
use Rattle.cp_slots.specs.Code as code
use Rattle.cp_meaning.specs.Types as named
use Rattle.cp_resolved.specs.Typed.{Tokens, Written, IsHanded, ParameterIs, AreParameters, HeadingIs, ScopesAgree, Expressed, HasForm, IsSmallExpression, AreSmallExpressions}
use Rattle.cp_resolved.proofs.agreeing.Agreeing.{none_left, none_right}
use Rattle.cp_resolved.proofs.agreeing.AgreeingParts.{free_plain}
use Rattle.cp_resolved.proofs.forms.AssignableForms.{VariableForm, expression_held}
use Rattle.cp_resolved.proofs.forms.HandedOver.{types_same, Fits, IsWhole, fitting}
use Rattle.cp_resolved.proofs.forms.MovedTypes.{type_moved}
use Rattle.cp_resolved.proofs.forms.Typing.{formed}
use Rattle.cp_resolved.proofs.forms.TypingExpressions.{expression_typed}
use Rattle.cp_resolved.proofs.forms.TypingNames.{written}
use Rattle.cp_resolved.proofs.agreeing.WithoutFaults.{ok_same, Then, then_of, Both, both_of}

-- ---- values

pub record Valued (t : Ty) (f : Option Formed) : Type 0 where
  pub form : Formed
  pub value : code.ArgumentValue
  pub is : f ≡ Some form
  pub given : ValueGiven t form.ty form.form value

valued : (w : Written) (t : Ty) (f : Option Formed) → IsHanded false t → Fits w t f → Valued t f
valued w (named.ordinal r) f p x = record { form = formed x.ty (as_ordinal x.code); value = code.scalar x.code r.low r.high; is = x.is; given = refl }
valued w named.queue_type f p x = absurd (cc)
valued w (named.set_over r) f p x = record { form = formed x.ty (as_set x.code); value = code.set x.code (natural_of r.low) (natural_of r.high); is = x.is; given = refl }
valued w (named.array_over r t) f p x = record { form = formed (named.array_over r t) (as_place x.place); value = code.copy x.place (cells_of (named.array_over r t)); is = x.is; given = (refl, refl) }
valued w (named.record_with ts) f p x = record { form = formed (named.record_with ts) (as_place x.place); value = code.copy x.place (cells_of (named.record_with ts)); is = x.is; given = (refl, refl) }
valued w (named.component_of n) f p x = record { form = formed (named.component_of n) (as_component x.part); value = code.component_of x.part; is = x.is; given = (refl, refl) }

handed_whole : (w : Written) (t : Ty) → IsHanded false t → IsWhole w t
handed_whole w (named.array_over r t) p = free_plain (named.array_over r t) p
handed_whole w (named.record_with ts) p = free_plain (named.record_with ts) p
handed_whole w (named.component_of n) p = tt
handed_whole w _ p = refl

-- the place from which a value was loaded
pub loaded_place : (p : code.Place) (t : Ty) → place_form (loaded_form p t) ≡ Some p
loaded_place p (named.ordinal r) = refl
loaded_place p _ = refl

-- ---- faults

pub passed : {A : Type 0} (fs : List CheckFault) (x r : A) → unless fs x ≡ Ok r → fs ≡ []
passed [] x r e = refl
passed (f ∷ fs) x r e = absurd (cc)

pub record Fitted (as' : List check_parameter.Parameter) (os : List Operand) : Type 0 where
  pub many : length as' ≡ length os
  pub fit : all_fit as' os ≡ true

pub fitted : (at : ℕ) (as' : List check_parameter.Parameter) (os : List Operand) → fit_faults at as' os ≡ [] → Fitted as' os
fitted at as' os e = go (nat_eq (length as') (length os)) refl e
  where
    inner : (b : Bool) → (if b then [] else fault at C5) ≡ [] → b ≡ true
    inner true k = refl
    inner false k = absurd (cc)

    go : (b : Bool) → nat_eq (length as') (length os) ≡ b → (if b then (if all_fit as' os then [] else fault at C5) else fault at C7) ≡ [] → Fitted as' os
    go true i k = record { many = (Decides-eqb (length as') (length os)).0 i; fit = inner (all_fit as' os) k }
    go false i k = absurd (cc)

assigned : (as' : List check_parameter.Parameter) (os : List Operand) → length as' ≡ length os → assignable_faults as' os ≡ [] → all_variable_faults as' os ≡ []
assigned as' os many e = sym (ap (λ (b : Bool). if b then all_variable_faults as' os else []) ((Decides-eqb (length as') (length os)).1 many)) ∙ e

module _ (tokens : Tokens) (s : Scopes) (h : Here) (w : Context) (agrees : ScopesAgree tokens s h) where
  abbrev W : Written
  W = written tokens s h

  -- ---- one argument

  give_variable : (a : check_parameter.Parameter) (q : Parameter) (e : Expression) (o : Operand) → ParameterIs W a q → q.is_var ≡ true → VariableForm W o.value_type (expression_form h e) → same a.value_type o.value_type ≡ true → CanGive h q e
  give_variable a q e o i is x one =
      let free : is_free q.ty ≡ true = subst (λ (b : Bool). IsHanded b q.ty) is i.handed in
      let type : q.ty ≡ x.ty = types_same W q.ty x.ty a.value_type o.value_type i.belongs x.belongs (free_plain q.ty free) x.plain one in
      let g : code.ArgumentValue = code.reference x.place in
      record {
        value = g;
        given = record {
          form = formed x.ty (loaded_form x.place x.ty);
          formed = x.is;
          given = subst (λ (b : Bool). GivenBy b q.ty (formed x.ty (loaded_form x.place x.ty)) g) (sym is) (subst (λ (p : Option code.Place). PlaceGiven q.ty x.ty p g) (sym (loaded_place x.place x.ty)) (sym type, refl));
        };
        moved = type_moved W q.ty a.value_type i.belongs;
      }

  give_value : (a : check_parameter.Parameter) (q : Parameter) (e : Expression) (o : Operand) → ParameterIs W a q → q.is_var ≡ false → Expressed W o.value_type (expression_form h e) → agree a.value_type o.value_type ≡ true → CanGive h q e
  give_value a q e o i is x one =
      let handed : IsHanded false q.ty = subst (λ (b : Bool). IsHanded b q.ty) is i.handed in
      let v : Valued q.ty (expression_form h e) = valued W q.ty (expression_form h e) handed (fitting W q.ty a.value_type o.value_type (expression_form h e) i.belongs (handed_whole W q.ty handed) one x) in
      record {
        value = v.value;
        given = record { form = v.form; formed = v.is; given = subst (λ (b : Bool). GivenBy b q.ty v.form v.value) (sym is) v.given };
        moved = type_moved W q.ty a.value_type i.belongs;
      }

  -- in the place of a `var` argument only where the parameter is one
  pub record Argument (a : check_parameter.Parameter) (e : Expression) (o : Operand) : Type 0 where
    pub alone : Bool
    pub only : alone ≡ true → a.is_var ≡ true
    pub is : expression s w alone e ≡ Ok o

  value_expressed : (e : Expression) (o : Operand) (b : Bool) → b ≡ false → IsSmallExpression e → expression s w b e ≡ Ok o → Expressed W o.value_type (expression_form h e)
  value_expressed e o b none small is =
      subst (λ (j : Judged Operand). HasForm W j (expression_form h e)) (subst (λ (c : Bool). expression s w c e ≡ Ok o) none is) (expression_typed tokens s h w agrees e small)

  variable_expressed : (e : Expression) (o : Operand) (b : Bool) → IsSmallExpression e → expression s w b e ≡ Ok o → is_assignable o.place ≡ true → VariableForm W o.value_type (expression_form h e)
  variable_expressed e o b small is free = expression_held tokens s h w agrees b e o small is free

  no_function : (p : OperandUse) → is_assignable p ≡ true → is_function p ≡ false
  no_function place.Function e = absurd (cc)
  no_function _ e = refl

  never : (b : Bool) (a : check_parameter.Parameter) → (b ≡ true → a.is_var ≡ true) → a.is_var ≡ false → b ≡ false
  never false a k e = refl
  never true a k e = absurd (let bad : true ≡ false = sym (k refl) ∙ e in cc)

  one_given : (a : check_parameter.Parameter) (q : Parameter) (e : Expression) (o : Operand) → ParameterIs W a q → IsSmallExpression e → Argument a e o → fits a o ≡ true → variable_faults a o ≡ [] → CanGive h q e
  one_given a q e o i small x fit none = go a.is_var refl fit none
    where
      free : (b : Bool) → (if true && not b then fault o.at C6 else []) ≡ [] → b ≡ true
      free true k = refl
      free false k = absurd (cc)

      one : (b : Bool) → b ≡ false → (if b then true else same a.value_type o.value_type) ≡ true → same a.value_type o.value_type ≡ true
      one false k g = g
      one true k g = absurd (cc)

      go : (b : Bool) → a.is_var ≡ b → (if b then (if is_function o.place then true else same a.value_type o.value_type) else agree a.value_type o.value_type) ≡ true → (if b && not (is_assignable o.place) then fault o.at C6 else []) ≡ [] → CanGive h q e
      go true is f k =
          let variable : is_assignable o.place ≡ true = free (is_assignable o.place) k in
          give_variable a q e o i (sym i.passed ∙ is) (variable_expressed e o x.alone small x.is variable) (one (is_function o.place) (no_function o.place variable) f)
      go false is f k = give_value a q e o i (sym i.passed ∙ is) (value_expressed e o x.alone (never x.alone a x.only is) small x.is) f

  -- ---- all arguments

  abbrev pub AreArguments : List check_parameter.Parameter → Expressions → List Operand → Type 0
  AreArguments [] no_expressions [] = Unit {0}
  AreArguments (a ∷ as') (more_expressions e es) (o ∷ os) = Argument a e o × AreArguments as' es os
  AreArguments as' es os = ⊥

  two_true : (a b : Bool) → (a && b) ≡ true → (a ≡ true) × (b ≡ true)
  two_true true true e = (refl, refl)
  two_true x y e = absurd (cc)

  pub all_given : (as' : List check_parameter.Parameter) (qs : List Parameter) (es : Expressions) (os : List Operand) → AreParameters W as' qs → AreSmallExpressions es → AreArguments as' es os → all_fit as' os ≡ true → all_variable_faults as' os ≡ [] → CanGiveAll h qs es
  all_given [] [] no_expressions [] i small x f k = tt
  all_given (a ∷ as') (q ∷ qs) (more_expressions e es) (o ∷ os) i small x f k =
      let both_fit = two_true (fits a o) (all_fit as' os) f in
      (one_given a q e o i.0 small.0 x.0 both_fit.0 (none_left (variable_faults a o) (all_variable_faults as' os) k), all_given as' qs es os i.1 small.1 x.1 both_fit.1 (none_right (variable_faults a o) (all_variable_faults as' os) k))
  all_given [] (q ∷ qs) es os i small x f k = absurd i
  all_given (a ∷ as') [] es os i small x f k = absurd i
  all_given _ _ _ _ i small x f k = absurd x

  -- an argument before others
  before_others : (v : Bool) (e : Expression) (es : Expressions) (k : Judged (List Operand)) (as' : List check_parameter.Parameter) (os : List Operand) → ((a : check_parameter.Parameter) (rest : List check_parameter.Parameter) → as' ≡ a ∷ rest → v ≡ true → a.is_var ≡ true) →
      ((a : check_parameter.Parameter) (rest : List check_parameter.Parameter) (ps : List Operand) → as' ≡ a ∷ rest → k ≡ Ok ps → length rest ≡ length ps → AreArguments rest es ps) → (both (expression s w v e) k >>= expressions.before) ≡ Ok os → length as' ≡ length os → AreArguments as' (more_expressions e es) os
  before_others v e es k as' os only again is many =
      let t : Then (both (expression s w v e) k) expressions.before os = then_of (both (expression s w v e) k) expressions.before os is in
      let parts : Both (expression s w v e) k t.value = both_of (expression s w v e) k t.value t.is in
      go as' os t.value.0 t.value.1 only again parts.first parts.second (ok_same (t.value.0 ∷ t.value.1) os t.rest) many
    where
      go : (as' : List check_parameter.Parameter) (os : List Operand) (p : Operand) (ps : List Operand) → ((a : check_parameter.Parameter) (rest : List check_parameter.Parameter) → as' ≡ a ∷ rest → v ≡ true → a.is_var ≡ true) →
          ((a : check_parameter.Parameter) (rest : List check_parameter.Parameter) (ps : List Operand) → as' ≡ a ∷ rest → k ≡ Ok ps → length rest ≡ length ps → AreArguments rest es ps) → expression s w v e ≡ Ok p → k ≡ Ok ps → p ∷ ps ≡ os → length as' ≡ length os → AreArguments as' (more_expressions e es) os
      go (a ∷ rest) (o ∷ os) p ps only again x y same many =
          let first : p ≡ o = cc in
          let others : ps ≡ os = cc in
          let fewer : length rest ≡ length os = omega (arith, many) in
          (record { alone = v; only = only a rest refl; is = x ∙ ap (λ (z : Operand). Ok z) first }, again a rest os refl (y ∙ ap (λ (z : List Operand). Ok z) others) fewer)
      go [] (o ∷ os) p ps only again x y same many = absurd (cc)
      go as' [] p ps only again x y same many = absurd (cc)

  -- where no parameter is said to be `var`
  pub plain_arguments : (as' : List check_parameter.Parameter) (k : ℕ) (es : Expressions) (os : List Operand) → arguments s w [] k es ≡ Ok os → length as' ≡ length os → AreArguments as' es os
  unfolding expression
  plain_arguments [] k no_expressions [] is many = tt
  plain_arguments [] k no_expressions (o ∷ os) is many = absurd (cc)
  plain_arguments (a ∷ as') k no_expressions os is many = absurd (let none : [] ≡ os = ok_same [] os is in let bad : suc (length as') ≡ length os = many in cc)
  plain_arguments as' k (more_expressions e es) os is many =
      before_others false e es (arguments s w [] (k + 1) es) as' os (λ a rest i j. absurd (cc)) (λ a rest ps i j fewer. plain_arguments rest (k + 1) es ps j fewer) is many

  -- where the parameters are known
  known_arguments : (all as' : List check_parameter.Parameter) (k : ℕ) (es : Expressions) (os : List Operand) → ((j : ℕ) → slice_get as' j ≡ slice_get all (j + k)) → arguments s w all k es ≡ Ok os → length as' ≡ length os → AreArguments as' es os
  unfolding expression
  known_arguments all [] k no_expressions [] at is many = tt
  known_arguments all [] k no_expressions (o ∷ os) at is many = absurd (cc)
  known_arguments all (a ∷ as') k no_expressions os at is many = absurd (let none : [] ≡ os = ok_same [] os is in let bad : suc (length as') ≡ length os = many in cc)
  known_arguments all as' k (more_expressions e es) os at is many =
      before_others (is_var_at all k) e es (arguments s w all (k + 1) es) as' os
      (λ a rest i j. (let there : slice_get as' 0 ≡ Some a = ap (λ (z : List check_parameter.Parameter). slice_get z 0) i in let from : 0 + k ≡ k = omega arith in ap expressions.is_var_of (sym there ∙ at 0 ∙ ap (slice_get all) from) ∙ j))
      (λ a rest ps i j fewer. known_arguments all rest (k + 1) es ps (λ z. (let there : slice_get as' (suc z) ≡ slice_get rest z = ap (λ (y : List check_parameter.Parameter). slice_get y (suc z)) i in sym there ∙ at (suc z) ∙ ap (slice_get all) (omega arith))) j fewer) is many

  pub var_arguments : (as' : List check_parameter.Parameter) (es : Expressions) (os : List Operand) → arguments s w as' 0 es ≡ Ok os → length as' ≡ length os → AreArguments as' es os
  var_arguments as' es os is many = known_arguments as' as' 0 es os (λ j. ap (slice_get as') (omega arith)) is many

  -- ---- calls

  pub record Passed (n : ℕ) (os : List Operand) : Type 0 where
    pub fit : Fitted (heading_at n s).parameters os
    pub variables : all_variable_faults (heading_at n s).parameters os ≡ []

  pub called_passed : (at name_at : ℕ) (b : Bool) (n : ℕ) (os : List Operand) (u r : Use) → calls.check_routine_call s w at name_at b n os u ≡ Ok r → Passed n os
  unfolding calls.check_routine_call
  called_passed at name_at b n os u r is =
      let none : calls.call_faults s w at name_at b n os ≡ [] = passed (calls.call_faults s w at name_at b n os) (both_uses (calls.total_use u os) (calls.call_use b (body_at n s))) r is in
      let a = fit_faults at (heading_at n s).parameters os in
      let c = calls.entry_faults name_at b (heading_at n s).is_entry in
      let d = calls.own_faults name_at w n in
      let e = calls.delay_faults name_at w b (body_at n s) in
      let p = calls.quiet_faults at w (not b) in
      let q = calls.quiet_faults at w b in
      let last = assignable_faults (heading_at n s).parameters os in
      let f : Fitted (heading_at n s).parameters os = fitted at (heading_at n s).parameters os (none_left a (p ++ (c ++ (d ++ (e ++ (q ++ last))))) none) in
      let after_fit : p ++ (c ++ (d ++ (e ++ (q ++ last)))) ≡ [] = none_right a (p ++ (c ++ (d ++ (e ++ (q ++ last))))) none in
      let after_entry : d ++ (e ++ (q ++ last)) ≡ [] = none_right c (d ++ (e ++ (q ++ last))) (none_right p (c ++ (d ++ (e ++ (q ++ last)))) after_fit) in
      let after_delay : q ++ last ≡ [] = none_right e (q ++ last) (none_right d (e ++ (q ++ last)) after_entry) in
      record { fit = f; variables = assigned (heading_at n s).parameters os f.many (none_right q last after_delay) }

  -- of a routine that the designator names
  pub call_given : (at name_at : ℕ) (b : Bool) (n : ℕ) (os : List Operand) (u r : Use) (d : Designator) (es : Expressions) (o : Option RoutineMeaning) → routine_called h.program h.scope d ≡ o → HeadingIs W (heading_at n s) o → AreSmallExpressions es → (length (heading_at n s).parameters ≡ length os → AreArguments (heading_at n s).parameters es os) → calls.check_routine_call s w at name_at b n os u ≡ Ok r → CallFormed h d es
  call_given at name_at b n os u r d es (Some m) same i small x is =
      let p : Passed n os = called_passed at name_at b n os u r is in
      record { routine = m; called = same; arguments = all_given (heading_at n s).parameters m.parameters es os i.1 small (x p.fit.many) p.fit.fit p.variables }
  call_given at name_at b n os u r d es None same i small x is = absurd i

  -- the arguments of a procedure, whatever is known of its parameters
  pub procedure_arguments : (as' : List check_parameter.Parameter) (v : Option ValueType) (k : ℕ) (es : Expressions) (os : List Operand) → arguments s w (statements.as_many as' k v) 0 es ≡ Ok os → length as' ≡ length os → AreArguments as' es os
  procedure_arguments as' (Some v) k es os is many = plain_arguments as' 0 es os is many
  procedure_arguments as' None k es os is many = go (nat_eq (length as') k) is
    where
      go : (b : Bool) → arguments s w (if b then as' else []) 0 es ≡ Ok os → AreArguments as' es os
      go true i = var_arguments as' es os i many
      go false i = plain_arguments as' 0 es os i many
