-- Statements that break no rule have the forms that their items want, and each call in them is allowed and has arguments that fit the parameters.
use Rattle.std.proofs.Common.{◌≡◌, ℕ, Bool, true, false, ◌&&◌, if◌then◌else◌, List, [], ◌∷◌, ◌++◌, Option, Some, None, Ok, refl, sym, ap, subst, ◌∙◌}
use Rattle.cp_resolved.proofs.Words.{not, Identifier, SystemKind, C6, ValueType, Predeclared, Use, no_use, both_uses, agree, is_of, is_ordinal}
use Rattle.cp_resolved.proofs.Words.{Judged, both, ◌>>=◌, faults, Scopes, heading_at, Context, Operand, Named, Label, OperandUse, is_function, is_assignable}
use Rattle.cp_resolved.proofs.Words.{variable_faults, all_variable_faults, Heard, PlaceOrigin, Name, Ty, find, routine_called, system_of, CanGiveAll}
use Rattle.cp_resolved.proofs.Words.{CallFormed, Item, Here, Each, IsBare, IsOne, IsUsed, AreUsed, SelectorsUsed, Target, starts_calls, calls_laid, all_calls_laid}
use Rattle.cp_resolved.proofs.Words.{arms_calls_laid, arm_calls_laid, Designated, a_variable, a_component, begun_form, designator_form, expression_form, HasOrdinal}
use Rattle.cp_resolved.proofs.Words.{IsPerformed, IsSmallStart, IsSmallStatement, AreSmallStatements, AreSmallArms, IsSmallArm, first_of}
use Rattle.cp_tree.specs.Syntax.{Expression, Expressions, no_expressions, more_expressions, Designator, designator as name_with, Selectors, no_selectors, Start, Statement, empty, assign, invoke, block, if_then, if_else, case_of, while_do, repeat_until, for_do, cycle, init, asserted, Statements, no_statements, more_statements, Arms, no_arms, more_arms, Arm, arm}
use Rattle.cp_scope.specs.declared.types.Base.TheVariants as base
use Rattle.cp_scope.specs.declared.types.ValueType.TheVariants as types
use Rattle.cp_scope.specs.declared.types.Parameter as check_parameter
use Rattle.cp_scope.specs.Scopes as checker
use Rattle.cp_check.specs.declared.operand.DesignatedName as check_designated
use Rattle.cp_check.specs.declared.operand.Named.TheVariants as name
use Rattle.cp_check.specs.declared.statement.Target.TheVariants as target
use Rattle.cp_check.specs.declared.operand.OperandUse.TheVariants as place
use Rattle.cp_tree.specs.View.{expression_at}
use Rattle.cp_check.specs.Operands.{quiet}
use Rattle.cp_check.specs.Names as names
use Rattle.cp_check.specs.Calls as calls
use Rattle.cp_check.specs.Cases as cases
use Rattle.cp_check.specs.Expressions.{expression, designator, arguments}
use Rattle.cp_check.specs.Statements as statements
use Rattle.cp_check.specs.Statements.{statement, target_of}
use Rattle.cp_slots.specs.Code as code
use Rattle.cp_meaning.specs.Types as named
use Rattle.cp_meaning.specs.Scopes as scopes
use Rattle.cp_meaning.specs.Lifting.{last_field, is_call_meant, expression_calls, expressions_calls, designator_calls, selectors_calls}
use Rattle.cp_meaning.specs.Declarations as meant
use Rattle.cp_resolved.specs.FormedStatements.{TestFormed, OrdinalFormed, AssignFormed, PerformFormed, InvokeFormed, IsTarget, IsNotRoutine, ForFormed, StartFormed, StatementFormed, AllFormed, ArmsFormed, ArmFormed}
use Rattle.cp_resolved.specs.Typed.{Tokens, TypeIs, IsValueParameter, AreParameters, HeadingIs, RoutineIs, StandardIs, ScopesAgree, Expressed, HasForm, IsSmallExpression, AreSmallExpressions, AreSmallSelectors}
use Rattle.cp_resolved.proofs.agreeing.Agreeing.{none_left, none_right}
use Rattle.cp_resolved.proofs.forms.FormedStatements.{ordinal_formed, performed_formed, selector_ordinal, ordinal_is, agree_ordinal}
use Rattle.cp_resolved.proofs.forms.FormedTargets.{aimed_is, Assigns, either_refused, assigns, OwnRoutine, Taken, taken, TargetFormed, begun_first, begun_target, designated_target}
use Rattle.cp_resolved.proofs.forms.GivenArguments.{procedure_arguments, AreArguments, Fitted, fitted, passed, plain_arguments, all_given, call_given, called_passed, Passed}
use Rattle.cp_resolved.proofs.forms.HandedOver.{fitting}
use Rattle.cp_resolved.proofs.forms.MovedTypes.{type_moved}
use Rattle.cp_resolved.proofs.forms.Quiet.{expression_follows}
use Rattle.cp_resolved.proofs.forms.TypingExpressions.{expression_typed, designator_named}
use Rattle.cp_resolved.proofs.forms.TypingNames.{IsComponentMeaning, Holds, written, NamedIs, HasDesignated, begun_typed}
use Rattle.cp_resolved.proofs.forms.TypingOperations.{boolean_found}
use Rattle.cp_resolved.proofs.forms.TypingValues.{own_called}
use Rattle.cp_resolved.proofs.forms.UsedExpressions as expressions_used
use Rattle.cp_resolved.proofs.forms.UsedExpressions.{fine_both, expression_used, arguments_used, designator_used}
use Rattle.cp_resolved.proofs.forms.UsedNames.{IsVariableMeaning, other_bare, EntryUsed, entry_used}
use Rattle.cp_resolved.proofs.statements.CallsJudged.{Below, first_below, second_below, AreBelow, Reached, unless_ok}
use Rattle.cp_resolved.proofs.statements.StatementsJudged.{InvokeSaid, StartsSaid, StatementSaid, StatementsSaid, ArmsSaid, ArmSaid, procedure_is, NamedOk, named_ok, started_below, together_below, initial_same}
use Rattle.cp_resolved.proofs.agreeing.WithoutFaults.{ok_same, Then, then_of, both_of, if_of}
use Rattle.cp_resolved.proofs.frames.LeastCells.{right_true as second_true}
use Rattle.cp_resolved.proofs.counts.FewCells.{left_of as first_true}

module _ (tokens : Tokens) (s : Scopes) (h : Here) (w : Context) (agrees : ScopesAgree tokens s h) (heard : Heard s) (own : (n : ℕ) → w.routine ≡ Some n → OwnRoutine tokens s h w agrees n) (waits : Bool) where
  abbrev CallsFine : List Item → Type 0
  CallsFine = expressions_used.CallsFine tokens s h w agrees waits

  calls_both : (xs ys : List Item) → CallsFine xs → CallsFine ys → CallsFine (xs ++ ys)
  calls_both = fine_both tokens s h w agrees waits

  -- ---- expressions

  record Judgement (e : Expression) (o : Operand) : Type 0 where
    pub typed : Expressed (written tokens s h) o.value_type (expression_form h e)
    pub used : IsUsed h e
    pub calls : CallsFine (expression_calls h.scope e)

  judged : (e : Expression) → IsSmallExpression e → (o : Operand) → Below waits o.uses → expression s w false e ≡ Ok o → Judgement e o
  judged e m o low is =
      let u = expression_used tokens s h w agrees waits false e m o (λ i. absurd (cc)) low is in
      record { typed = subst (λ (j : Judged Operand). HasForm (written tokens s h) j (expression_form h e)) is (expression_typed tokens s h w agrees e m); used = u.0; calls = u.1 }

  test_of : (at : ℕ) (e : Expression) (o : Operand) (u r : Use) → Judgement e o → statements.check_test at o u ≡ Ok r → TestFormed h e
  test_of at e o u r j is =
      let b = boolean_found (written tokens s h) o.value_type (expression_form h e) j.typed (if_of (is_of base.Boolean o.value_type) u r _ [] is).0 in
      record { cell = b.code; test = record { ty = named.ordinal b.range; cell = b.is; truth = b.belongs }; used = j.used }

  ordinal_of : (e : Expression) (o : Operand) → Judgement e o → is_ordinal o.value_type ≡ true → OrdinalFormed h e
  ordinal_of e o j i =
      let x : HasOrdinal h e = ordinal_formed tokens s h w agrees heard e o.value_type j.typed i in
      record { ty = named.ordinal x.range; cell = x.code; formed = x.formed; used = j.used }

  record Pointed (i : Identifier) (ss : Selectors) (c : check_designated.DesignatedName) : Type 0 where
    pub holds : NamedIs tokens s h i.name (find i.name h.scope) (last_field ss) c.named (designator_form h (name_with i ss))
    pub chosen : SelectorsUsed h ss
    pub calls : CallsFine (selectors_calls h.scope ss)

  pointed : (i : Identifier) (ss : Selectors) (c : check_designated.DesignatedName) → AreSmallSelectors ss → Below waits c.uses → designator s w (name_with i ss) ≡ Ok c → Pointed i ss c
  pointed i ss c m low is =
      let x = designator_used tokens s h w agrees waits i ss m c low is in
      record { holds = designator_named tokens s h w agrees i ss c m is; chosen = x.0; calls = x.1 }

  -- ---- assignments

  assign_formed : (at : ℕ) (i : Identifier) (ss : Selectors) (e : Expression) → AreSmallSelectors ss → IsSmallExpression e → (r : Use) → Below waits r → statements.assignment s w at (name_with i ss) e ≡ Ok r → AssignFormed h (name_with i ss) e × CallsFine (selectors_calls h.scope ss ++ expression_calls h.scope e)
  unfolding statements.assignment
  assign_formed at i ss e m n r low is =
      let d : Designator = name_with i ss in
      let j : Judged (Target × Use) = designator s w d >>= statements.with_target s w i.at in
      let t : Then (both j (expression s w false e)) (statements.finish_assignment at) r = then_of (both j (expression s w false e)) (statements.finish_assignment at) r is in
      let b = both_of j (expression s w false e) t.value t.is in
      let k : Then (designator s w d) (statements.with_target s w i.at) t.value.0 = then_of (designator s w d) (statements.with_target s w i.at) t.value.0 b.first in
      let c : check_designated.DesignatedName = k.value in
      let a : Then (statements.check_target i.at (target_of s w c.named)) (λ x. Ok (x, c.uses)) t.value.0 = then_of (statements.check_target i.at (target_of s w c.named)) (λ x. Ok (x, c.uses)) t.value.0 k.rest in
      let aim : target_of s w c.named ≡ t.value.0.0 = aimed_is i.at (target_of s w c.named) a.value a.is ∙ ap (λ (x : Target × Use). x.0) (ok_same (a.value, c.uses) t.value.0 a.rest) in
      let uses : c.uses ≡ t.value.0.1 = ap (λ (x : Target × Use). x.1) (ok_same (a.value, c.uses) t.value.0 a.rest) in
      let y : Assigns t.value.0.0 t.value.1 (both_uses t.value.0.1 t.value.1.uses) r = assigns at t.value.0.0 t.value.1 (both_uses t.value.0.1 t.value.1.uses) r t.rest in
      let lower : Below waits (both_uses t.value.0.1 t.value.1.uses) = subst (Below waits) (sym y.uses) low in
      let p : Pointed i ss c = pointed i ss c m (subst (Below waits) (sym uses) (first_below waits t.value.0.1 t.value.1.uses lower)) k.is in
      let x : Judgement e t.value.1 = judged e n t.value.1 (second_below waits t.value.0.1 t.value.1.uses lower) b.second in
      let f : TargetFormed tokens s h w agrees i ss y.value_type (designator_form h d) = designated_target tokens s h w agrees own i ss c c.named y.value_type refl k.is p.holds (aim ∙ y.is) in
      let v : Taken f.ty f.place (expression_form h e) = taken (written tokens s h) f.ty f.place (expression_form h e) f.taken (fitting (written tokens s h) f.ty y.value_type t.value.1.value_type (expression_form h e) f.belongs f.whole y.fits x.typed) in (
        record { place = f.place; ty = f.ty; value = v.value; act = v.act; target = f.is; formed = v.is; assigned = v.assigned; moved = type_moved (written tokens s h) f.ty y.value_type f.belongs; named = f.named; chosen = p.chosen; used = x.used },
        calls_both (selectors_calls h.scope ss) (expression_calls h.scope e) p.calls x.calls,
      )

  -- ---- calls

  free_place : (b c : Bool) (o : Operand) → (if b && not c then calls.fault o.at C6 else []) ≡ [] → b ≡ true → c ≡ true
  free_place true true o k e = refl
  free_place x y o k e = absurd (cc)

  assignable_no_function : (p : OperandUse) → is_assignable p ≡ true → is_function p ≡ false
  assignable_no_function place.Function e = absurd (cc)
  assignable_no_function _ e = refl

  known_used : (as' : List check_parameter.Parameter) (es : Expressions) (os : List Operand) → AreSmallExpressions es → AreArguments tokens s h w agrees as' es os → AreBelow waits os → all_variable_faults as' os ≡ [] → AreUsed h es × CallsFine (expressions_calls h.scope es)
  known_used [] no_expressions [] m x low k = (tt, (tt, tt))
  known_used (a ∷ as') (more_expressions e es) (o ∷ os) m x low k =
      let none : variable_faults a o ≡ [] = none_left (variable_faults a o) (all_variable_faults as' os) k in
      let u = expression_used tokens s h w agrees waits x.0.alone e m.0 o (λ i. assignable_no_function o.place (free_place a.is_var (is_assignable o.place) o none (x.0.only i))) low.0 x.0.is in
      let v = known_used as' es os m.1 x.1 low.1 (none_right (variable_faults a o) (all_variable_faults as' os) k) in
      ((u.0, v.0), calls_both (expression_calls h.scope e) (expressions_calls h.scope es) u.1 v.1)
  known_used _ _ _ m x low k = absurd x

  record ProcedureCalled (d : Designator) (es : Expressions) : Type 0 where
    pub call : CallFormed h d es
    pub used : AreUsed h es
    pub calls : CallsFine (expressions_calls h.scope es)

  procedure_formed : (at name_at : ℕ) (b : Bool) (n : ℕ) (os : List Operand) (u r : Use) (d : Designator) (es : Expressions) → AreSmallExpressions es → HeadingIs (written tokens s h) (heading_at n s) (routine_called h.program h.scope d) → arguments s w (statements.procedure_parameters s n (statements.number_of es)) 0 es ≡ Ok os → AreBelow waits os → statements.check_procedure_call s w at name_at b n os u ≡ Ok r → ProcedureCalled d es
  procedure_formed at name_at b n os u r d es m i a low is =
      let called = procedure_is s w waits h.scope at name_at b n os u r is in
      let p : Passed tokens s h w agrees n os = called_passed tokens s h w agrees at name_at b n os u r called in
      let x : AreArguments tokens s h w agrees (heading_at n s).parameters es os = procedure_arguments tokens s h w agrees (heading_at n s).parameters (heading_at n s).result (statements.number_of es) es os a p.fit.many in
      let k = known_used (heading_at n s).parameters es os m x low p.variables in
      record { call = call_given tokens s h w agrees at name_at b n os u r d es (routine_called h.program h.scope d) refl i m (λ many. x) called; used = k.0; calls = k.1 }

  abbrev InvokeResult : Designator → Expressions → Option scopes.Meaning → Type 0
  InvokeResult d es m = InvokeFormed h m d es × CallsFine (expressions_calls h.scope es)

  one_used : (q : scopes.Standard) (es : Expressions) → IsPerformed h q es → AreUsed h es → IsOne es × PerformFormed h q (first_of es)
  one_used scopes.display_procedure (more_expressions e no_expressions) p u = (tt, record { range = p.range; cell = p.code; formed = p.formed; used = u.0 })
  one_used scopes.delay_procedure (more_expressions e no_expressions) p u = (tt, record { place = p.place; formed = p.formed; used = u.0 })
  one_used scopes.continue_procedure (more_expressions e no_expressions) p u = (tt, record { place = p.place; formed = p.formed; used = u.0 })
  one_used _ _ p u = absurd p

  standard_invoked : (at : ℕ) (d : Designator) (es : Expressions) (p : Predeclared) (os : List Operand) (u r : Use) (m : Option scopes.Meaning) → StandardIs p m → ((IsVariableMeaning m → ⊥) → IsBare d) → AreSmallExpressions es → arguments s w [] 0 es ≡ Ok os → AreBelow waits os → statements.check_standard_call s w at p os u ≡ Ok r → InvokeResult d es m
  standard_invoked at d es p os u r (Some (scopes.standard_meaning q)) k bare small a low is =
      let x = arguments_used tokens s h w agrees waits 0 es small os low a in
      let f : IsPerformed h q es = performed_formed tokens s h w agrees heard at q es os u small a (ap faults (subst (λ (z : Predeclared). statements.check_standard_call s w at z os u ≡ Ok r) (sym k) is)) in
      let one = one_used q es f x.0 in
      ((bare (λ z. z), one.0, one.1), x.1)
  standard_invoked at d es p os u r _ k bare small a low is = absurd k

  routine_invoked : (d : Designator) (es : Expressions) (i : Name) (n : ℕ) (m : Option scopes.Meaning) → RoutineIs (written tokens s h) (heading_at n s) i h.scope m → ((IsVariableMeaning m → ⊥) → IsBare d) → ProcedureCalled d es → InvokeResult d es m
  routine_invoked d es i n (Some (scopes.routine_meaning r)) k bare c = ((bare (λ z. z), c.used, c.call), c.calls)
  routine_invoked d es i n _ k bare c = absurd k

  entry_invoked : (i : Identifier) (ss : Selectors) (es : Expressions) (r : ℕ) (m : Option scopes.Meaning) → is_call_meant m (last_field ss) ≡ true → ((IsVariableMeaning m → ⊥) → IsBare (name_with i ss)) → SelectorsUsed h ss → EntryUsed tokens s h w agrees i ss r → ProcedureCalled (name_with i ss) es → InvokeResult (name_with i ss) es m
  entry_invoked i ss es r (Some (scopes.routine_meaning f)) call bare u e c = ((bare (λ z. z), c.used, c.call), c.calls)
  entry_invoked i ss es r (Some (scopes.permanent_variable t)) call bare u e c =
      (record { entry = e.found.entry; chosen = u; part = a_component e.found.part e.system; formed = e.found.formed; used = c.used; call = c.call }, c.calls)
  entry_invoked i ss es r x call bare u e c = absurd (cc)

  named_invoked : (at : ℕ) (i : Identifier) (ss : Selectors) (es : Expressions) (c : check_designated.DesignatedName) (n : Named) (os : List Operand) (r : Use) (o : Option Designated) → c.named ≡ n → NamedIs tokens s h i.name (find i.name h.scope) (last_field ss) n o → AreSmallSelectors ss → AreSmallExpressions es → SelectorsUsed h ss → designator s w (name_with i ss) ≡ Ok c → arguments s w (statements.parameters_of s n (statements.number_of es)) 0 es ≡ Ok os → AreBelow waits os → statements.check_call_of s w at c os n ≡ Ok r → InvokeResult (name_with i ss) es (find i.name h.scope)
  named_invoked at i ss es c (name.Predeclared p) os r o same k small less u d a low is =
      standard_invoked at (name_with i ss) es p os (calls.total_use c.uses os) r (find i.name h.scope) k (λ other. other_bare tokens s h w agrees i ss c other d) less a low is
  named_invoked at i ss es c (name.Routine n) os r o same k small less u d a low is =
      routine_invoked (name_with i ss) es i.name n (find i.name h.scope) k (λ other. other_bare tokens s h w agrees i ss c other d)
      (procedure_formed at c.name_at true n os c.uses r (name_with i ss) es less (own_called tokens s h w i.name n (find i.name h.scope) (last_field ss) k).heading a low is)
  named_invoked at i ss es c (name.Entry n) os r o same k small less u d a low is =
      entry_invoked i ss es n (find i.name h.scope) k.is (λ other. other_bare tokens s h w agrees i ss c other d) u (entry_used tokens s h w agrees i ss c n small k.is same d)
      (procedure_formed at c.name_at false n os c.uses r (name_with i ss) es less k.heading a low is)
  named_invoked at i ss es c x os r o same k small less u d a low is = absurd (cc)

  invoke_formed : (at : ℕ) (i : Identifier) (ss : Selectors) (es : Expressions) → AreSmallSelectors ss → AreSmallExpressions es → (r : Use) → Below waits r → statements.call s w at (name_with i ss) es ≡ Ok r → InvokeFormed h (find i.name h.scope) (name_with i ss) es × CallsFine (selectors_calls h.scope ss ++ expressions_calls h.scope es) × InvokeSaid s w waits h.scope (name_with i ss)
  unfolding statements.call statements.check_call
  invoke_formed at i ss es small less r low is =
      let d : Designator = name_with i ss in
      let ps = statements.parameters_of_judged s (statements.number_of es) (designator s w d) in
      let t : Then (both (designator s w d) (arguments s w ps 0 es)) (statements.check_call s w at) r = then_of (both (designator s w d) (arguments s w ps 0 es)) (statements.check_call s w at) r is in
      let b = both_of (designator s w d) (arguments s w ps 0 es) t.value t.is in
      let k : NamedOk s w waits h.scope t.value.0 t.value.0.named t.value.1 = named_ok s w waits h.scope at t.value.0 t.value.1 t.value.0.named r low t.rest in
      let p : Pointed i ss t.value.0 = pointed i ss t.value.0 small k.first b.first in
      let a : arguments s w (statements.parameters_of s t.value.0.named (statements.number_of es)) 0 es ≡ Ok t.value.1 = sym (ap (λ (j : Judged check_designated.DesignatedName). arguments s w (statements.parameters_of_judged s (statements.number_of es) j) 0 es) b.first) ∙ b.second in
      let x = named_invoked at i ss es t.value.0 t.value.0.named t.value.1 r (designator_form h d) refl p.holds small less p.chosen b.first a k.others t.rest in
      (x.0, calls_both (selectors_calls h.scope ss) (expressions_calls h.scope es) p.calls x.1, record { small = small; value = t.value.0; is = b.first; kind = k.kind; invoked = k.invoked })

  -- ---- starts

  component_not_routine : (k : ℕ) (m : Option scopes.Meaning) → IsComponentMeaning k m → IsNotRoutine m
  component_not_routine k (Some (scopes.permanent_variable t)) i = tt
  component_not_routine k _ i = absurd i

  record Started (i : Identifier) (ss : Selectors) (es : Expressions) (o : Option Designated) : Type 0 where
    pub part : code.ComponentPlace
    pub system : ℕ
    pub is : o ≡ Some (a_component part system)
    pub named : IsNotRoutine (find i.name h.scope)
    pub whole : last_field ss ≡ None
    pub arguments : CanGiveAll h (system_of h.program system).parameters es
    pub used : AreUsed h es
    pub calls : CallsFine (expressions_calls h.scope es)

  component_token : (i j : SystemKind) (n k : ℕ) → types.Component i n ≡ types.Component j k → n ≡ k
  component_token i j n k e = cc

  -- no parameter of a system type is `var`
  none_var : (as' : List check_parameter.Parameter) (os : List Operand) → Each (λ (a : check_parameter.Parameter). a.is_var ≡ false) as' → all_variable_faults as' os ≡ []
  none_var (a ∷ as') (o ∷ os) e = ap (λ (b : Bool). (if b && not (is_assignable o.place) then calls.fault o.at C6 else []) ++ all_variable_faults as' os) e.0 ∙ none_var as' os e.1
  none_var _ _ e = refl

  value_parameters : (as' : List check_parameter.Parameter) (qs : List meant.Parameter) → AreParameters (written tokens s h) as' qs → Each IsValueParameter qs → Each (λ (a : check_parameter.Parameter). a.is_var ≡ false) as'
  value_parameters [] [] i e = tt
  value_parameters (a ∷ as') (q ∷ qs) i e = (i.0.passed ∙ e.0, value_parameters as' qs i.1 e.1)
  value_parameters _ _ i e = absurd i

  component_started : (at : ℕ) (i : Identifier) (ss : Selectors) (es : Expressions) (x : Option Name) (k : SystemKind) (n : ℕ) (o : Option Designated) (os : List Operand) (u r : Use) → x ≡ last_field ss → Holds (written tokens s h) (find i.name h.scope) x (types.Component k n) o → AreSmallExpressions es → arguments s w [] 0 es ≡ Ok os → AreBelow waits os → calls.unless (calls.fit_faults at (heading_at n s).parameters os) u ≡ Ok r → Started i ss es o
  component_started at i ss es x k n (Some (a_component c j)) os u r same e small a low is =
      let token : n ≡ tokens.systems j = component_token k e.0.kind n (tokens.systems j) e.0.is in
      let f : Fitted (heading_at n s).parameters os = fitted at (heading_at n s).parameters os (passed (calls.fit_faults at (heading_at n s).parameters os) u r is) in
      let heading : (heading_at n s) ≡ e.0.there.heading = ap (λ z. heading_at z s) token ∙ ap checker.as_heading e.0.there.there in
      let known = agrees.starts j e.0.there in
      let qs : List meant.Parameter = (system_of h.program j).parameters in
      let ps : AreParameters (written tokens s h) (heading_at n s).parameters qs = subst (λ (z : checker.Heading). AreParameters (written tokens s h) z.parameters qs) (sym heading) known.0 in
      let y = arguments_used tokens s h w agrees waits 0 es small os low a in
      record {
        part = c;
        system = j;
        is = refl;
        named = component_not_routine j (find i.name h.scope) e.1;
        whole = sym same ∙ e.2;
        arguments = all_given tokens s h w agrees (heading_at n s).parameters qs es os ps small (plain_arguments tokens s h w agrees (heading_at n s).parameters 0 es os a f.many) f.fit (none_var (heading_at n s).parameters os (value_parameters (heading_at n s).parameters qs ps known.1));
        used = y.0;
        calls = y.1;
      }
  component_started at i ss es x k n (Some (a_variable p (named.component_of j))) os u r same e small a low is = absurd (let bad : false ≡ true = e.1 in cc)
  component_started at i ss es x k n (Some (a_variable p (named.ordinal q))) os u r same e small a low is = absurd (let bad : types.Component k n ≡ types.Ordinal e.0.range = e.0.is in cc)
  component_started at i ss es x k n (Some (a_variable p named.queue_type)) os u r same e small a low is = absurd (let bad : types.Component k n ≡ types.Queue = e.0 in cc)
  component_started at i ss es x k n (Some (a_variable p (named.set_over q))) os u r same e small a low is = absurd (let bad : types.Component k n ≡ types.Set (Some e.0.range) = e.0.is in cc)
  component_started at i ss es x k n (Some (a_variable p (named.record_with ts))) os u r same e small a low is = absurd (let bad : types.Component k n ≡ types.Record e.0.token = e.0.is in cc)
  component_started at i ss es x k n None os u r same e small a low is = absurd e
  component_started at i ss es x k n y os u r same e small a low is = absurd (let bad : types.Component k n ≡ types.Array e.0.token = e.0.is in cc)

  variable_started : (at : ℕ) (i : Identifier) (ss : Selectors) (es : Expressions) (d : check_designated.DesignatedName) (v : ValueType) (o : Option Designated) (os : List Operand) (r : Use) → Holds (written tokens s h) (find i.name h.scope) (last_field ss) v o → AreSmallExpressions es → arguments s w [] 0 es ≡ Ok os → AreBelow waits os → statements.check_start_of s at d os (name.Variable v) ≡ Ok r → Started i ss es o
  variable_started at i ss es d (types.Component k n) o os r e small a low is = component_started at i ss es (last_field ss) k n o os _ r refl e small a low is
  variable_started at i ss es d x o os r e small a low is = absurd (cc)

  named_started : (at : ℕ) (i : Identifier) (ss : Selectors) (es : Expressions) (d : check_designated.DesignatedName) (n : Named) (o : Option Designated) (os : List Operand) (r : Use) → NamedIs tokens s h i.name (find i.name h.scope) (last_field ss) n o → AreSmallExpressions es → arguments s w [] 0 es ≡ Ok os → AreBelow waits os → statements.check_start_of s at d os n ≡ Ok r → Started i ss es o
  named_started at i ss es d (name.Variable v) o os r e small a low is = variable_started at i ss es d v o os r e small a low is
  named_started at i ss es d x o os r e small a low is = absurd (cc)

  start_formed_of : (i : Identifier) (ss : Selectors) (es : Expressions) → AreSmallSelectors ss → AreSmallExpressions es → (r : Use) → Below waits r → statements.start s w (record { target = name_with i ss; arguments = es }) ≡ Ok r → StartFormed h (record { target = name_with i ss; arguments = es }) × CallsFine (selectors_calls h.scope ss ++ expressions_calls h.scope es)
  unfolding statements.start statements.check_start
  start_formed_of i ss es small less r low is =
      let d : Designator = name_with i ss in
      let t : Then (both (designator s w d) (arguments s w [] 0 es)) (statements.check_start s i.at) r = then_of (both (designator s w d) (arguments s w [] 0 es)) (statements.check_start s i.at) r is in
      let b = both_of (designator s w d) (arguments s w [] 0 es) t.value t.is in
      let k = started_below s w waits h.scope i.at t.value.0 t.value.1 t.value.0.named r low t.rest in
      let p : Pointed i ss t.value.0 = pointed i ss t.value.0 small k.0 b.first in
      let x : Started i ss es (designator_form h d) = named_started i.at i ss es t.value.0 t.value.0.named (designator_form h d) t.value.1 r p.holds less b.second k.1 t.rest in (
        record { part = x.part; system = x.system; target = x.is; named = x.named; whole = x.whole; chosen = p.chosen; used = x.used; arguments = x.arguments },
        calls_both (selectors_calls h.scope ss) (expressions_calls h.scope es) p.calls x.calls,
      )

  start_by : (t : Start) (d : Designator) → t.target ≡ d → IsSmallStart t → (r : Use) → Below waits r → statements.start s w t ≡ Ok r → StartFormed h t × CallsFine (designator_calls h.scope t.target ++ expressions_calls h.scope t.arguments)
  start_by t (name_with i ss) same small r low is =
      let one : t ≡ (let z : Start = record { target = name_with i ss; arguments = t.arguments } in z) = ap (λ (d : Designator). (let z : Start = record { target = d; arguments = t.arguments } in z)) same in
      let less : IsSmallStart (record { target = name_with i ss; arguments = t.arguments }) = subst IsSmallStart one small in
      subst (λ (z : Start). StartFormed h z × CallsFine (designator_calls h.scope z.target ++ expressions_calls h.scope z.arguments)) (sym one)
      (start_formed_of i ss t.arguments less.0 less.1 r low (subst (λ (z : Start). statements.start s w z ≡ Ok r) one is))

  start_formed : (t : Start) → IsSmallStart t → (r : Use) → Below waits r → statements.start s w t ≡ Ok r → StartFormed h t × CallsFine (designator_calls h.scope t.target ++ expressions_calls h.scope t.arguments)
  start_formed t small r low is = start_by t t.target refl small r low is

  -- ---- counts

  record Counts (t : Target) (a b : Operand) (u r : Use) : Type 0 where
    pub value_type : ValueType
    pub is : t ≡ target.Assignable value_type
    pub ordinal : is_ordinal value_type ≡ true
    pub first : agree value_type a.value_type ≡ true
    pub last : agree value_type b.value_type ≡ true
    pub uses : u ≡ r

  counts : (at n : ℕ) (t : Target) (a b : Operand) (u r : Use) → statements.check_for at n t a b u ≡ Ok r → Counts t a b u r
  counts at n (target.Assignable v) a b u r e =
      let x = if_of (statements.counts v a b) u r _ [] e in
      let all : (is_ordinal v && agree v a.value_type && agree v b.value_type) ≡ true = x.0 in
      let before : (is_ordinal v && agree v a.value_type) ≡ true = first_true (is_ordinal v && agree v a.value_type) (agree v b.value_type) all in
      record {
        value_type = v;
        is = refl;
        ordinal = first_true (is_ordinal v) (agree v a.value_type) before;
        first = second_true (is_ordinal v) (agree v a.value_type) before;
        last = second_true (is_ordinal v && agree v a.value_type) (agree v b.value_type) all;
        uses = x.1;
      }
  counts at n (target.Fixed None) a b u r e = absurd (either_refused Use (statements.counts a.value_type a b) _ _ r e)
  counts at n (target.Fixed (Some v)) a b u r e = absurd (either_refused Use (statements.counts v a b) _ _ r e)
  counts at n target.Kind a b u r e = absurd (cc)

  record Counter (i : Identifier) : Type 0 where
    pub origin : PlaceOrigin
    pub range : named.Range
    pub variable : begun_form h i.name (find i.name h.scope) ≡ Some (a_variable (code.place origin 0 code.no_indices) (named.ordinal range))
    pub named : IsTarget h (find i.name h.scope) (name_with i no_selectors)

  counter_of : (i : Identifier) (v : ValueType) (t : Ty) (p : code.Place) → begun_form h i.name (find i.name h.scope) ≡ Some (a_variable p t) → TypeIs (written tokens s h) t v → is_ordinal v ≡ true → IsTarget h (find i.name h.scope) (name_with i no_selectors) → Counter i
  counter_of i v (named.ordinal q) p e k o n =
      let f = begun_first h i.name (find i.name h.scope) p q e in
      record { origin = f.origin; range = q; variable = e ∙ ap (λ z. Some (a_variable z (named.ordinal q))) f.is; named = n }
  counter_of i v named.queue_type p e k o n = absurd (let bad : false ≡ true = sym (ap is_ordinal k) ∙ o in cc)
  counter_of i v x p e k o n = absurd (let bad : false ≡ true = sym (ap is_ordinal k.is) ∙ o in cc)

  agreeing_ordinal : (v u : ValueType) → is_ordinal v ≡ true → agree v u ≡ true → is_ordinal u ≡ true
  agreeing_ordinal v u o a =
      let r = ordinal_is v o in
      let q = agree_ordinal r.0 u (subst (λ z. agree z u ≡ true) r.1 a) in
      ap is_ordinal q.1

  for_formed : (at : ℕ) (i : Identifier) (a b : Expression) (k : Judged Use) → IsSmallExpression a → IsSmallExpression b → (r : Use) → Below waits r → (both (both (both (names.meaning_of_name s i) (expression s w false a)) (expression s w false b)) k >>= statements.count_over s w at i.at) ≡ Ok r → Reached (Below waits) k (ForFormed h i a b × CallsFine (expression_calls h.scope a ++ expression_calls h.scope b))
  for_formed at i a b k m n r low is =
      let ja = expression s w false a in
      let jb = expression s w false b in
      let t : Then (both (both (both (names.meaning_of_name s i) ja) jb) k) (statements.count_over s w at i.at) r = then_of (both (both (both (names.meaning_of_name s i) ja) jb) k) (statements.count_over s w at i.at) r is in
      let p = both_of (both (both (names.meaning_of_name s i) ja) jb) k t.value t.is in
      let q = both_of (both (names.meaning_of_name s i) ja) jb t.value.0 p.first in
      let o = both_of (names.meaning_of_name s i) ja t.value.0.0 q.first in
      let u : Use = both_uses t.value.0.0.1.uses t.value.0.1.uses in
      let c : Counts (target_of s w t.value.0.0.0.named) t.value.0.0.1 t.value.0.1 (both_uses u t.value.1) r = counts at i.at (target_of s w t.value.0.0.0.named) t.value.0.0.1 t.value.0.1 (both_uses u t.value.1) r t.rest in
      let lower : Below waits (both_uses u t.value.1) = subst (Below waits) (sym c.uses) low in
      let first : Below waits u = first_below waits u t.value.1 lower in
      let x : Judgement a t.value.0.0.1 = judged a m t.value.0.0.1 (first_below waits t.value.0.0.1.uses t.value.0.1.uses first) o.second in
      let y : Judgement b t.value.0.1 = judged b n t.value.0.1 (second_below waits t.value.0.0.1.uses t.value.0.1.uses first) q.second in
      let held : NamedIs tokens s h i.name (find i.name h.scope) None t.value.0.0.0.named (begun_form h i.name (find i.name h.scope)) = subst (λ (j : Judged check_designated.DesignatedName). HasDesignated tokens s h i.name (find i.name h.scope) None j (begun_form h i.name (find i.name h.scope))) o.first (begun_typed tokens s h agrees i) in
      let f : TargetFormed tokens s h w agrees i no_selectors c.value_type (begun_form h i.name (find i.name h.scope)) = begun_target tokens s h w agrees own i t.value.0.0.0 t.value.0.0.0.named c.value_type refl o.first held c.is in
      let z : Counter i = counter_of i c.value_type f.ty f.place f.is f.belongs c.ordinal f.named in
      record {
        value = t.value.1;
        is = p.second;
        below = second_below waits u t.value.1 lower;
        rest = (
          record { origin = z.origin; range = z.range; variable = z.variable; named = z.named; first = ordinal_of a t.value.0.0.1 x (agreeing_ordinal c.value_type t.value.0.0.1.value_type c.ordinal c.first); last = ordinal_of b t.value.0.1 y (agreeing_ordinal c.value_type t.value.0.1.value_type c.ordinal c.last) },
          calls_both (expression_calls h.scope a) (expression_calls h.scope b) x.calls y.calls,
        );
      }

  -- ---- statements

  tested_below : (at : ℕ) (o : Operand) (u r : Use) → Below waits r → statements.check_test at o u ≡ Ok r → Below waits u
  tested_below at o u r low is = subst (Below waits) (sym (if_of (is_of base.Boolean o.value_type) u r _ [] is).1) low

  tested_then : (at : ℕ) (e : Expression) (k : Judged Use) → IsSmallExpression e → (r : Use) → Below waits r → (both (expression s w false e) k >>= statements.test_then at) ≡ Ok r → Reached (Below waits) k (TestFormed h e × CallsFine (expression_calls h.scope e))
  tested_then at e k m r low is =
      let t : Then (both (expression s w false e) k) (statements.test_then at) r = then_of (both (expression s w false e) k) (statements.test_then at) r is in
      let b = both_of (expression s w false e) k t.value t.is in
      let lower : Below waits (both_uses t.value.0.uses t.value.1) = tested_below at t.value.0 (both_uses t.value.0.uses t.value.1) r low t.rest in
      let x : Judgement e t.value.0 = judged e m t.value.0 (first_below waits t.value.0.uses t.value.1 lower) b.first in
      record { value = t.value.1; is = b.second; below = second_below waits t.value.0.uses t.value.1 lower; rest = (test_of at e t.value.0 (both_uses t.value.0.uses t.value.1) r x t.rest, x.calls) }

  abbrev StartsFine : List Start → Type 0
  StartsFine ts = Each (StartFormed h) ts × CallsFine (starts_calls h.scope ts) × StartsSaid s w waits h.scope ts

  starts_formed : (ts : List Start) → Each IsSmallStart ts → (j : Judged Use) (r : Use) → Below waits r → statements.starts s w j ts ≡ Ok r → Reached (Below waits) j (StartsFine ts)
  unfolding statements.starts
  starts_formed [] m j r low is = record { value = r; is = is; below = low; rest = (tt, (tt, tt), tt) }
  starts_formed (t ∷ ts) m j r low is =
      let x = starts_formed ts m.1 (both j (statements.start s w t) >>= statements.together) r low is in
      let k : Then (both j (statements.start s w t)) statements.together x.value = then_of (both j (statements.start s w t)) statements.together x.value x.is in
      let b = both_of j (statements.start s w t) k.value k.is in
      let lower = together_below s w waits h.scope k.value x.value k.rest x.below in
      let y = start_formed t m.0 k.value.1 lower.1 b.second in
      record { value = k.value.0; is = b.first; below = lower.0; rest = ((y.0, x.rest.0), calls_both (starts_calls h.scope ts) (designator_calls h.scope t.target ++ expressions_calls h.scope t.arguments) x.rest.1 y.1, (y.1.1, x.rest.2)) }

  -- what an annotation says has the form of a test
  asserted_test : (e : Expression) → IsSmallExpression e → (r : Use) → Below waits r → statements.assertion s w e ≡ Ok r → TestFormed h e × CallsFine (expression_calls h.scope e)
  unfolding statements.assertion
  asserted_test e m r low is =
      let test : Operand → Judged Use = λ o. statements.check_test (expression_at e) o o.uses in
      let k : Then (expression s (quiet w) false e) test r = then_of (expression s (quiet w) false e) test r is in
      let x : Judgement e k.value = judged e m k.value (tested_below (expression_at e) k.value k.value.uses r low k.rest) (expression_follows s w false e k.value k.is) in
      (test_of (expression_at e) e k.value k.value.uses r x k.rest, x.calls)

  -- the forms of a statement, the calls of functions in it, and what the rules say of it
  abbrev pub StatementFine : Statement → Type 0
  StatementFine t = StatementFormed h t × CallsFine (calls_laid h.scope t) × StatementSaid s w waits h.scope t

  abbrev pub AllFine : Statements → Type 0
  AllFine ts = AllFormed h ts × CallsFine (all_calls_laid h.scope ts) × StatementsSaid s w waits h.scope ts

  abbrev ArmsFine : Arms → Type 0
  ArmsFine as' = ArmsFormed h as' × CallsFine (arms_calls_laid h.scope as') × ArmsSaid s w waits h.scope as'

  abbrev ArmFine : Arm → Type 0
  ArmFine a = ArmFormed h a × CallsFine (arm_calls_laid h.scope a) × ArmSaid s w waits h.scope a

  mutual
    unfolding statement

    pub statement_formed : (t : Statement) → IsSmallStatement t → (r : Use) → Below waits r → statement s w t ≡ Ok r → StatementFine t
    statement_formed (empty at) m r low is = (tt, (tt, tt), tt)
    statement_formed (assign at (name_with i ss) e) m r low is = (let x = assign_formed at i ss e m.0 m.1 r low is in (x.0, x.1, x.1.1))
    statement_formed (invoke at (name_with i ss) es) m r low is = (let x = invoke_formed at i ss es m.0 m.1 r low is in (x.0, x.1, (x.2, x.1.1)))
    statement_formed (block at ts) m r low is = (let x = all_formed ts m (Ok no_use) r low is in x.rest)
    statement_formed (cycle at ts) m r low is = (let x = all_formed ts m (Ok no_use) r low is in x.rest)
    statement_formed (if_then at e t) m r low is =
        let x = tested_then at e (statement s w t) m.0 r low is in
        let y = statement_formed t m.1 x.value x.below x.is in
        ((x.rest.0, y.0), calls_both (calls_laid h.scope t) (expression_calls h.scope e) y.1 x.rest.1, (x.rest.1.1, y.2))
    statement_formed (if_else at e t u) m r low is =
        let x = tested_then at e (both (statement s w t) (statement s w u) >>= statements.together) m.0 r low is in
        let k : Then (both (statement s w t) (statement s w u)) statements.together x.value = then_of (both (statement s w t) (statement s w u)) statements.together x.value x.is in
        let b = both_of (statement s w t) (statement s w u) k.value k.is in
        let lower = together_below s w waits h.scope k.value x.value k.rest x.below in
        let y = statement_formed t m.1 k.value.0 lower.0 b.first in
        let z = statement_formed u m.2 k.value.1 lower.1 b.second in
        ((x.rest.0, y.0, z.0), calls_both (calls_laid h.scope t) (calls_laid h.scope u ++ expression_calls h.scope e) y.1 (calls_both (calls_laid h.scope u) (expression_calls h.scope e) z.1 x.rest.1), (x.rest.1.1, y.2, z.2))
    statement_formed (while_do at e t) m r low is =
        let x = tested_then at e (statement s w t) m.0 r low is in
        let y = statement_formed t m.1 x.value x.below x.is in
        ((x.rest.0, y.0), calls_both (calls_laid h.scope t) (expression_calls h.scope e) y.1 x.rest.1, (x.rest.1.1, y.2))
    statement_formed (repeat_until at ts e) m r low is =
        let j : Judged Use = statements.statements s w (Ok no_use) ts in
        let k : Then (both j (expression s w false e)) (statements.test_last at) r = then_of (both j (expression s w false e)) (statements.test_last at) r is in
        let b = both_of j (expression s w false e) k.value k.is in
        let lower : Below waits (both_uses k.value.0 k.value.1.uses) = tested_below at k.value.1 (both_uses k.value.0 k.value.1.uses) r low k.rest in
        let x : Judgement e k.value.1 = judged e m.1 k.value.1 (second_below waits k.value.0 k.value.1.uses lower) b.second in
        let y = all_formed ts m.0 (Ok no_use) k.value.0 (first_below waits k.value.0 k.value.1.uses lower) b.first in
        ((y.rest.0, test_of at e k.value.1 (both_uses k.value.0 k.value.1.uses) r x k.rest), calls_both (all_calls_laid h.scope ts) (expression_calls h.scope e) y.rest.1 x.calls, (y.rest.2, x.calls.1))
    statement_formed (for_do at i a d b t) m r low is =
        let x = for_formed at i a b (statement s w t) m.0 m.1 r low is in
        let y = statement_formed t m.2 x.value x.below x.is in
        ((x.rest.0, y.0), calls_both (calls_laid h.scope t) (expression_calls h.scope a ++ expression_calls h.scope b) y.1 x.rest.1, (x.rest.1.1, y.2))
    statement_formed (init at ts) m r low is =
        let k : Then (statements.starts s w (Ok no_use) ts) (statements.initial at w) r = then_of (statements.starts s w (Ok no_use) ts) (statements.initial at w) r is in
        (let x = starts_formed ts m (Ok no_use) k.value (subst (Below waits) (sym (initial_same s w waits h.scope at w.routine k.value r k.rest)) low) k.is in x.rest)
    statement_formed (asserted at k e t) m r low is =
        let j : Judged Use = statements.assertion s w e in
        let c : Then (both j (statement s w t)) statements.together r = then_of (both j (statement s w t)) statements.together r is in
        let b = both_of j (statement s w t) c.value c.is in
        let lower = together_below s w waits h.scope c.value r c.rest low in
        let x = asserted_test e m.0 c.value.0 lower.0 b.first in
        let y = statement_formed t m.1 c.value.1 lower.1 b.second in
        ((x.0, y.0), calls_both (calls_laid h.scope t) (expression_calls h.scope e) y.1 x.1, (x.1.1, y.2))
    statement_formed (case_of at e as' b) m r low is =
        let j : Judged (List Label × Use) = statements.arms s w (Ok ([], no_use)) as' in
        let k : Then (both (expression s w false e) j) (cases.check_case at) r = then_of (both (expression s w false e) j) (cases.check_case at) r is in
        let p = both_of (expression s w false e) j k.value k.is in
        let ruled = unless_ok (cases.case_faults at k.value.0 k.value.1.0) (both_uses k.value.0.uses k.value.1.1) r k.rest in
        let lower : Below waits (both_uses k.value.0.uses k.value.1.1) = subst (Below waits) (sym ruled.1) low in
        let x : Judgement e k.value.0 = judged e m.0 k.value.0 (first_below waits k.value.0.uses k.value.1.1 lower) p.first in
        let y = arms_formed as' m.1 (Ok ([], no_use)) k.value.1 (second_below waits k.value.0.uses k.value.1.1 lower) p.second in (
          (ordinal_of e k.value.0 x (selector_ordinal tokens s h w agrees heard at k.value.0.value_type k.value.1.0 (none_left (cases.label_faults at k.value.0.value_type k.value.1.0) (cases.twice_faults [] k.value.1.0) ruled.0)), y.rest.0),
          calls_both (arms_calls_laid h.scope as') (expression_calls h.scope e) y.rest.1 x.calls,
          (x.calls.1, y.rest.2),
        )

    pub all_formed : (ts : Statements) → AreSmallStatements ts → (j : Judged Use) (r : Use) → Below waits r → statements.statements s w j ts ≡ Ok r → Reached (Below waits) j (AllFine ts)
    all_formed no_statements m j r low is = record { value = r; is = is; below = low; rest = (tt, (tt, tt), tt) }
    all_formed (more_statements t ts) m j r low is =
        let x = all_formed ts m.1 (both j (statement s w t) >>= statements.together) r low is in
        let k : Then (both j (statement s w t)) statements.together x.value = then_of (both j (statement s w t)) statements.together x.value x.is in
        let b = both_of j (statement s w t) k.value k.is in
        let lower = together_below s w waits h.scope k.value x.value k.rest x.below in
        let y = statement_formed t m.0 k.value.1 lower.1 b.second in
        record { value = k.value.0; is = b.first; below = lower.0; rest = ((y.0, x.rest.0), calls_both (all_calls_laid h.scope ts) (calls_laid h.scope t) x.rest.1 y.1, (y.2, x.rest.2)) }

    arms_formed : (as' : Arms) → AreSmallArms as' → (j : Judged (List Label × Use)) (r : List Label × Use) → Below waits r.1 → statements.arms s w j as' ≡ Ok r → Reached (λ (z : List Label × Use). Below waits z.1) j (ArmsFine as')
    arms_formed no_arms m j r low is = record { value = r; is = is; below = low; rest = (tt, (tt, tt), tt) }
    arms_formed (more_arms a as') m j r low is =
        let x = arms_formed as' m.1 (both j (statements.labelled s w a) >>= cases.join_arms) r low is in
        let k : Then (both j (statements.labelled s w a)) cases.join_arms x.value = then_of (both j (statements.labelled s w a)) cases.join_arms x.value x.is in
        let b = both_of j (statements.labelled s w a) k.value k.is in
        let lower : Below waits (both_uses k.value.0.1 k.value.1.1) = subst (λ (z : List Label × Use). Below waits z.1) (sym (ok_same (k.value.0.0 ++ k.value.1.0, both_uses k.value.0.1 k.value.1.1) x.value k.rest)) x.below in
        let y = arm_formed a m.0 k.value.1 (second_below waits k.value.0.1 k.value.1.1 lower) b.second in
        record { value = k.value.0; is = b.first; below = first_below waits k.value.0.1 k.value.1.1 lower; rest = ((y.0, x.rest.0), calls_both (arm_calls_laid h.scope a) (arms_calls_laid h.scope as') y.1 x.rest.1, (y.2, x.rest.2)) }

    arm_formed : (a : Arm) → IsSmallArm a → (r : List Label × Use) → Below waits r.1 → statements.labelled s w a ≡ Ok r → ArmFine a
    arm_formed (arm cs t) m r low is =
        let b = both_of (cases.labels s cs) (statement s w t) r is in
        let y = statement_formed t m.1 r.1 low b.second in
        ((m.0, y.0), y.1, y.2)
