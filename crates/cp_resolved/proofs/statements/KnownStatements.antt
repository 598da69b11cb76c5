-- What the rules say of statements that break none, in any routine with their scope: of what is assigned, called, delayed, displayed and started.
use Rattle.std.proofs.Common.{◌≡◌, ℕ, ◌+◌, Bool, true, false, ◌⊎◌, inl, inr, if◌then◌else◌, List, [], ◌∷◌, Option, Some, None, Ok, refl, sym, ap, subst, ◌∙◌}
use Rattle.cp_resolved.proofs.Words.{Identifier, SystemKind, C5, C12, ValueType, Predeclared, Use, no_use, both_uses, Judged, both, ◌>>=◌}
use Rattle.cp_resolved.proofs.Words.{faults, Scopes, heading_at, Context, Operand, OperandUse, Named, fault, expression, designator, arguments, Heard, Name}
use Rattle.cp_resolved.proofs.Words.{RoutineMeaning, last_field, is_call_meant, result_type, Here, is_own, Each, IsSmallStart, IsSmallStatement, IsBare, Target}
use Rattle.cp_resolved.proofs.Words.{is_assignable, is_queue_in, is_queue, name_of, routine_called, variable_in, HasQueue, IsPerformed}
use Rattle.cp_tree.specs.declared.declaration.SystemKind.TheVariants.{Monitor}
use Rattle.cp_tree.specs.Syntax.{Expression, Expressions, no_expressions, more_expressions, Designator, designator as name_with, Selectors, no_selectors, more_selectors, Start, Statement, assign, invoke, init}
use Rattle.cp_scope.specs.declared.types.ValueType.TheVariants as types
use Rattle.cp_scope.specs.declared.types.Predeclared.TheVariants as predeclared
use Rattle.cp_check.specs.declared.operand.OperandUse.TheVariants as place
use Rattle.cp_check.specs.declared.operand.DesignatedName as check_designated
use Rattle.cp_check.specs.declared.operand.Named.TheVariants as name
use Rattle.cp_check.specs.declared.statement.Target.TheVariants as target
use Rattle.cp_check.specs.Calls as calls
use Rattle.cp_check.specs.Expressions as expressions
use Rattle.cp_check.specs.Statements as statements
use Rattle.cp_check.specs.Statements.{statement, target_of}
use Rattle.cp_slots.specs.Code as code
use Rattle.cp_meaning.specs.Types as named
use Rattle.cp_meaning.specs.Types.{Ty, Base, Range, ordinal}
use Rattle.cp_meaning.specs.Scopes as scopes
use Rattle.cp_meaning.specs.Scopes.{find, standard_meaning, delay_procedure, continue_procedure, display_procedure}
use Rattle.cp_resolved.specs.Compiled.{Formed, as_ordinal, Designated, a_variable, some_components, a_component, result_begun, begun_form, designator_form, expression_form}
use Rattle.cp_resolved.specs.Stands.{IsOrdinal}
use Rattle.cp_resolved.specs.Typed.{Tokens, Written, BaseIs, TypeIs, HeadingIs, RoutineIs, predeclared_of, StandardIs, ScopesAgree, Expressed, HasForm, AreSmallExpressions, AreSmallSelectors}
use Rattle.cp_resolved.proofs.agreeing.Agreeing.{none_left, none_right}
use Rattle.cp_resolved.proofs.forms.AssignableForms.{free_place}
use Rattle.cp_resolved.proofs.statements.EachStatement.{IsSound, Inside}
use Rattle.cp_resolved.proofs.forms.FormedStatements.{performed_formed}
use Rattle.cp_resolved.proofs.forms.FormedTargets.{aimed_is, assigns, no_entry, no_standard, only, routine_begun, routine_no_variable}
use Rattle.cp_resolved.proofs.statements.StatementsJudged.{procedure_is}
use Rattle.cp_resolved.proofs.forms.GivenArguments.{procedure_arguments, passed, called_passed, Passed}
use Rattle.cp_resolved.proofs.statements.NamedArguments.{IsVariable, AreVariables, stored_variable, given_variables}
use Rattle.cp_resolved.proofs.forms.NamesAlone.{is_stored}
use Rattle.cp_resolved.proofs.forms.TypingExpressions.{expression_typed, designator_named}
use Rattle.cp_resolved.proofs.forms.TypingNames.{Holds, written, NamedIs}
use Rattle.cp_resolved.proofs.forms.TypingValues.{own_called}
use Rattle.cp_resolved.proofs.forms.UsedNames.{other_bare}
use Rattle.cp_resolved.proofs.agreeing.WithoutFaults.{ok_same, Then, then_of, both_of}

-- ---- what is said

-- neither a queue nor a component, nor an array of such
abbrev pub IsMovable : Ty → Type 0
IsMovable named.queue_type = ⊥
IsMovable (named.component_of k) = ⊥
IsMovable (named.array_over r named.queue_type) = ⊥
IsMovable (named.array_over r (named.component_of k)) = ⊥
IsMovable t = Unit {0}

-- no queues are assigned
abbrev pub AssignKnown : Here → Designator → Type 0
AssignKnown h d = (spot : code.Place) (t : Ty) → designator_form h d ≡ Some (a_variable spot t) → IsMovable t ⊎ (t ≡ result_type (h.layouts.meanings h.routine).result)

-- an enumeration has the constants that are written at its token
abbrev pub IsListed : Tokens → Base → Type 0
IsListed k (named.enumerated at xs) = xs ≡ k.constants at
IsListed k b = Unit {0}

abbrev pub ShownKnown : Tokens → Here → Expressions → Type 0
ShownKnown k h no_expressions = Unit {0}
ShownKnown k h (more_expressions e es) = (r : Range) (c : code.OrdinalExpression) → IsOrdinal h e (ordinal r) c → IsListed k r.base

-- `delay` and `continue` stand in a routine of a monitor
abbrev pub IsInMonitor : Context → Type 0
IsInMonitor w = (w.owner ≡ Some Monitor) × (n : ℕ) × (w.routine ≡ Some n)

-- the argument of `delay` or `continue` is a name, of a queue
abbrev pub QueuesGiven : Here → Expressions → Type 0
QueuesGiven h no_expressions = ⊥
QueuesGiven h (more_expressions e es) = IsVariable h (variable_in e) × HasQueue h e

pub record WaitKnown (h : Here) (w : Context) (es : Expressions) : Type 0 where
  pub monitor : IsInMonitor w
  pub queue : QueuesGiven h es

pub record InvokeKnown (k : Tokens) (h : Here) (w : Context) (d : Designator) (es : Expressions) : Type 0 where
  pub variables : (r : RoutineMeaning) → routine_called h.program h.scope d ≡ Some r → AreVariables h r.parameters es
  pub shows : find (name_of d) h.scope ≡ Some (standard_meaning display_procedure) → ShownKnown k h es
  pub delays : find (name_of d) h.scope ≡ Some (standard_meaning delay_procedure) → WaitKnown h w es
  pub continues : find (name_of d) h.scope ≡ Some (standard_meaning continue_procedure) → WaitKnown h w es

-- what is started is of a system type that is declared
abbrev pub StartKnown : Tokens → Here → Start → Type 0
StartKnown k h t = (part : code.ComponentPlace) (n : ℕ) → designator_form h t.target ≡ Some (a_component part n) → (j : ℕ) → k.systems j ≡ k.systems n → j ≡ n

-- `init` stands in an initial statement
abbrev pub InitKnown : Tokens → Here → Context → List Start → Type 0
InitKnown k h w ts = (w.routine ≡ None) × Each (StartKnown k h) ts

abbrev pub StatementKnown : Tokens → Here → Context → Statement → Type 0
StatementKnown k h w (assign at d e) = AssignKnown h d
StatementKnown k h w (invoke at d es) = InvokeKnown k h w d es
StatementKnown k h w (init at ts) = InitKnown k h w ts
StatementKnown k h w t = Unit {0}

-- ---- proofs

some_variable : (p q : code.Place) (t u : Ty) → Some (a_variable p t) ≡ Some (a_variable q u) → t ≡ u
some_variable p q t u e = cc

module _ (tokens : Tokens) (s : Scopes) (h : Here) (w : Context) (agrees : ScopesAgree tokens s h) (heard : Heard s) where
  abbrev W : Written
  W = written tokens s h

  -- ---- assignments

  -- of an array whose elements are fixed
  fixed_array : (v : ValueType) (q : Range) (t : Ty) → TypeIs W (named.array_over q t) v → ((x : ValueType) → TypeIs W t x → calls.is_fixed_element x ≡ true) → calls.is_fixed s v ≡ true
  fixed_array v q t i f = ap (calls.is_fixed s) i.is ∙ (ap calls.is_fixed_array i.there ∙ f i.shape.element i.belongs)

  free_movable : (t : Ty) (v : ValueType) → TypeIs W t v → calls.is_fixed s v ≡ false → IsMovable t
  free_movable named.queue_type v i f = let bad : true ≡ false = sym (ap (calls.is_fixed s) i) ∙ f in absurd cc
  free_movable (named.component_of n) v i f = let bad : true ≡ false = sym (ap (calls.is_fixed s) i.is) ∙ f in absurd cc
  free_movable (named.array_over q named.queue_type) v i f = let bad : true ≡ false = sym (fixed_array v q named.queue_type i (λ x e. ap calls.is_fixed_element e)) ∙ f in absurd cc
  free_movable (named.array_over q (named.component_of n)) v i f = let bad : true ≡ false = sym (fixed_array v q (named.component_of n) i (λ x e. ap calls.is_fixed_element e.is)) ∙ f in absurd cc
  free_movable _ v i f = tt

  held_movable : (m : Option scopes.Meaning) (x : Option Name) (v : ValueType) (o : Option Designated) → Holds W m x v o → calls.is_fixed s v ≡ false → (spot : code.Place) (t : Ty) → o ≡ Some (a_variable spot t) → IsMovable t
  held_movable m x v (Some (a_variable p u)) k f spot t e = subst IsMovable (some_variable p spot u t e) (free_movable u v k.0 f)
  held_movable m x v (Some (some_components first q n)) k f spot t e = absurd (let bad : Some (some_components first q n) ≡ Some (a_variable spot t) = e in cc)
  held_movable m x v (Some (a_component c n)) k f spot t e = absurd (let bad : Some (a_component c n) ≡ Some (a_variable spot t) = e in cc)
  held_movable m x v None k f spot t e = absurd k

  -- what may be assigned to
  abbrev IsAimed : Named → Type 0
  IsAimed n = (v : ValueType) × (target_of s w n ≡ target.Assignable v)

  aimed_free : (u : ValueType) → IsAimed (name.Variable u) → calls.is_fixed s u ≡ false
  aimed_free u a = go (calls.place_of s u) refl a.1
    where
      go : (z : OperandUse) → calls.place_of s u ≡ z → (if is_assignable z then target.Assignable u else target.Fixed (Some u)) ≡ target.Assignable a.0 → calls.is_fixed s u ≡ false
      go place.Assignable j y = free_place tokens s h w agrees u (ap is_assignable j)
      go place.Value j y = absurd (cc)
      go place.Fixed j y = absurd (cc)
      go place.Function j y = absurd (cc)

  begun_type : (b : Bool) (spot : code.Place) (t : Ty) → result_begun h b ≡ Some (a_variable spot t) → t ≡ result_type (h.layouts.meanings h.routine).result
  begun_type true spot t e = sym (some_variable _ spot (result_type (h.layouts.meanings h.routine).result) t e)
  begun_type false spot t e = absurd (let bad : None ≡ Some (a_variable spot t) = e in cc)

  result_aimed : (i : Identifier) (ss : Selectors) (n : ℕ) → RoutineIs W (heading_at n s) i.name h.scope (find i.name h.scope) → IsBare (name_with i ss) → (spot : code.Place) (t : Ty) → designator_form h (name_with i ss) ≡ Some (a_variable spot t) → t ≡ result_type (h.layouts.meanings h.routine).result
  result_aimed i no_selectors n k bare spot t e = begun_type (is_own h i.name) spot t (sym (routine_begun tokens s h w agrees (find i.name h.scope) i.name n k) ∙ (only tokens s h w agrees (begun_form h i.name (find i.name h.scope)) ∙ e))
  result_aimed i (more_selectors x ss) n k bare spot t e = absurd bare

  named_aimed : (i : Identifier) (ss : Selectors) (c : check_designated.DesignatedName) (n : Named) → designator s w (name_with i ss) ≡ Ok c → NamedIs tokens s h i.name (find i.name h.scope) (last_field ss) n (designator_form h (name_with i ss)) → IsAimed n → AssignKnown h (name_with i ss)
  named_aimed i ss c (name.Variable u) is k a = λ spot t e. inl (held_movable (find i.name h.scope) (last_field ss) u (designator_form h (name_with i ss)) k (aimed_free u a) spot t e)
  named_aimed i ss c (name.Routine n) is k a = λ spot t e. inr (result_aimed i ss n k (other_bare tokens s h w agrees i ss c (routine_no_variable tokens s h w agrees i.name n (find i.name h.scope) k) is) spot t e)
  named_aimed i ss c (name.Entry n) is k a = absurd (no_entry tokens s h w agrees n a.0 a.1)
  named_aimed i ss c (name.Predeclared q) is k a = absurd (no_standard tokens s h w agrees q a.0 a.1)
  named_aimed i ss c x is k a = absurd (let bad = a.1 in cc)

  assign_known : (at : ℕ) (i : Identifier) (ss : Selectors) (e : Expression) → AreSmallSelectors ss → (r : Use) → statements.assignment s w at (name_with i ss) e ≡ Ok r → AssignKnown h (name_with i ss)
  unfolding statements.assignment
  assign_known at i ss e m r is =
      let d : Designator = name_with i ss in
      let j : Judged (Target × Use) = designator s w d >>= statements.with_target s w i.at in
      let t : Then (both j (expression s w false e)) (statements.finish_assignment at) r = then_of (both j (expression s w false e)) (statements.finish_assignment at) r is in
      let b = both_of j (expression s w false e) t.value t.is in
      let k : Then (designator s w d) (statements.with_target s w i.at) t.value.0 = then_of (designator s w d) (statements.with_target s w i.at) t.value.0 b.first in
      let c : check_designated.DesignatedName = k.value in
      let a : Then (statements.check_target i.at (target_of s w c.named)) (λ x. Ok (x, c.uses)) t.value.0 = then_of (statements.check_target i.at (target_of s w c.named)) (λ x. Ok (x, c.uses)) t.value.0 k.rest in
      let aim : target_of s w c.named ≡ t.value.0.0 = aimed_is i.at (target_of s w c.named) a.value a.is ∙ ap (λ (x : Target × Use). x.0) (ok_same (a.value, c.uses) t.value.0 a.rest) in
      let y = assigns at t.value.0.0 t.value.1 (both_uses t.value.0.1 t.value.1.uses) r t.rest in
      named_aimed i ss c c.named k.is (designator_named tokens s h w agrees i ss c m k.is) (y.value_type, aim ∙ y.is)

  -- ---- calls

  abbrev Known : Designator → Expressions → Type 0
  Known d es = InvokeKnown tokens h w d es

  called_variables : (at name_at : ℕ) (b : Bool) (n : ℕ) (os : List Operand) (u r : Use) (es : Expressions) (o : Option RoutineMeaning) → AreSmallExpressions es → HeadingIs W (heading_at n s) o → arguments s w (statements.procedure_parameters s n (statements.number_of es)) 0 es ≡ Ok os → statements.check_procedure_call s w at name_at b n os u ≡ Ok r →
      (y : RoutineMeaning) → o ≡ Some y → AreVariables h y.parameters es
  called_variables at name_at b n os u r es None m i a is y e = absurd i
  called_variables at name_at b n os u r es (Some x) m i a is y e =
      let p : Passed tokens s h w agrees n os = called_passed tokens s h w agrees at name_at b n os u r (procedure_is s w true h.scope at name_at b n os u r is) in
      let given = given_variables tokens s h w agrees (heading_at n s).parameters x.parameters es os i.1 m (procedure_arguments tokens s h w agrees (heading_at n s).parameters (heading_at n s).result (statements.number_of es) es os a p.fit.many) p.variables in
      subst (λ (z : RoutineMeaning). AreVariables h z.parameters es) (same x y e) given
    where
      same : (x y : RoutineMeaning) → Some x ≡ Some y → x ≡ y
      same x y g = cc

  -- no standard procedure
  abbrev IsOther : Option scopes.Meaning → Type 0
  IsOther (Some (scopes.standard_meaning q)) = ⊥
  IsOther m = Unit {0}

  other_never : {A : Type 0} (m : Option scopes.Meaning) (q : scopes.Standard) → IsOther m → m ≡ Some (standard_meaning q) → A
  other_never m q o e = absurd (subst IsOther e o)

  routine_other : (i : Name) (n : ℕ) (m : Option scopes.Meaning) → RoutineIs W (heading_at n s) i h.scope m → IsOther m
  routine_other i n (Some (scopes.standard_meaning q)) k = k
  routine_other i n _ k = tt

  call_other : (m : Option scopes.Meaning) (x : Option Name) → is_call_meant m x ≡ true → IsOther m
  call_other (Some (scopes.standard_meaning q)) x k = let bad : false ≡ true = k in cc
  call_other _ x k = tt

  routine_known : (d : Designator) (es : Expressions) → ((y : RoutineMeaning) → routine_called h.program h.scope d ≡ Some y → AreVariables h y.parameters es) → IsOther (find (name_of d) h.scope) → Known d es
  routine_known d es v o =
      record {
        variables = v;
        shows = λ e. other_never (find (name_of d) h.scope) display_procedure o e;
        delays = λ e. other_never (find (name_of d) h.scope) delay_procedure o e;
        continues = λ e. other_never (find (name_of d) h.scope) continue_procedure o e;
      }

  -- ---- standard procedures

  standard_none : (i : Identifier) (ss : Selectors) (q : scopes.Standard) → find i.name h.scope ≡ Some (standard_meaning q) → routine_called h.program h.scope (name_with i ss) ≡ None
  standard_none i ss q e = rw e refl

  abbrev Waits : Predeclared → Type 0
  Waits p = statements.may_wait s w p ≡ true

  may_wait : (p : Predeclared) → Waits p → IsInMonitor w
  may_wait p e = go p w.owner w.routine refl refl e
    where
      go : (p : Predeclared) (o : Option SystemKind) (n : Option ℕ) → w.owner ≡ o → w.routine ≡ n → statements.may_wait_in s p o n ≡ true → IsInMonitor w
      go predeclared.Succ (Some Monitor) (Some n) x y g = (x, n, y)
      go predeclared.Succ o n x y g = absurd (cc)
      go predeclared.Pred (Some Monitor) (Some n) x y g = (x, n, y)
      go predeclared.Pred o n x y g = absurd (cc)
      go predeclared.Chr (Some Monitor) (Some n) x y g = (x, n, y)
      go predeclared.Chr o n x y g = absurd (cc)
      go predeclared.Ord (Some Monitor) (Some n) x y g = (x, n, y)
      go predeclared.Ord o n x y g = absurd (cc)
      go predeclared.Abs (Some Monitor) (Some n) x y g = (x, n, y)
      go predeclared.Abs o n x y g = absurd (cc)
      go predeclared.Empty (Some Monitor) (Some n) x y g = (x, n, y)
      go predeclared.Empty o n x y g = absurd (cc)
      go predeclared.Delay (Some Monitor) (Some n) x y g = (x, n, y)
      go predeclared.Delay o n x y g = absurd (cc)
      go predeclared.Continue (Some Monitor) (Some n) x y g = (x, n, y)
      go predeclared.Continue o n x y g = absurd (cc)
      go predeclared.Display (Some Monitor) (Some n) x y g = (x, n, y)
      go predeclared.Display o n x y g = absurd (cc)

  waits_of : (at : ℕ) (p : Predeclared) (os : List Operand) → statements.waiting_faults s w at p os ≡ [] → Waits p
  waits_of at p os e = go (statements.may_wait s w p) refl (none_right (statements.queue_faults at os) (statements.wait_faults s w at p) e)
    where
      go : (b : Bool) → statements.may_wait s w p ≡ b → (if b then [] else fault at C12) ≡ [] → Waits p
      go true x g = x
      go false x g = absurd (cc)

  queue_operand : (at : ℕ) (os : List Operand) → statements.queue_faults at os ≡ [] → (o : Operand) × (os ≡ o ∷ []) × (is_queue o ≡ true)
  queue_operand at (o ∷ []) e = go (is_queue o) refl e
    where
      go : (b : Bool) → is_queue o ≡ b → (if b then [] else fault at C5) ≡ [] → (p : Operand) × (o ∷ [] ≡ p ∷ []) × (is_queue p ≡ true)
      go true x g = (o, refl, x)
      go false x g = absurd (cc)
  queue_operand at x e = absurd (cc)

  queue_stored : (v : ValueType) (p : OperandUse) → is_queue_in v p ≡ true → is_stored p ≡ true
  queue_stored v place.Fixed e = refl
  queue_stored v place.Assignable e = refl
  queue_stored types.Queue place.Value e = absurd (cc)
  queue_stored types.Queue place.Function e = absurd (cc)
  queue_stored x y e = absurd (cc)

  queues_given : (at : ℕ) (es : Expressions) (os : List Operand) → AreSmallExpressions es → arguments s w [] 0 es ≡ Ok os → statements.queue_faults at os ≡ [] → ((e : Expression) (rest : Expressions) → es ≡ more_expressions e rest → HasQueue h e) → QueuesGiven h es
  unfolding expression
  queues_given at no_expressions os m is k form = (let q = queue_operand at os k in let bad : [] ≡ q.0 ∷ [] = ok_same [] os is ∙ q.1 in cc)
  queues_given at (more_expressions e es) os m is k form =
      let q = queue_operand at os k in
      let t : Then (both (expression s w false e) (arguments s w [] (0 + 1) es)) expressions.before os = then_of (both (expression s w false e) (arguments s w [] (0 + 1) es)) expressions.before os is in
      let one : expression s w false e ≡ Ok t.value.0 = (both_of (expression s w false e) (arguments s w [] (0 + 1) es) t.value t.is).first in
      let same : t.value.0 ∷ t.value.1 ≡ q.0 ∷ [] = ok_same (t.value.0 ∷ t.value.1) os t.rest ∙ q.1 in
      let first : t.value.0 ≡ q.0 = cc in
      (stored_variable tokens s h w agrees false e t.value.0 m.0 one (queue_stored t.value.0.value_type t.value.0.place (ap is_queue first ∙ q.2)), form e es refl)

  queue_performed : (q : scopes.Standard) (es : Expressions) → (q ≡ delay_procedure) ⊎ (q ≡ continue_procedure) → IsPerformed h q es → (e : Expression) (rest : Expressions) → es ≡ more_expressions e rest → HasQueue h e
  queue_performed q es (inl i) x e rest same = go rest (subst (λ (z : Expressions). IsPerformed h delay_procedure z) same (subst (λ (z : scopes.Standard). IsPerformed h z es) i x))
    where
      go : (r : Expressions) → IsPerformed h delay_procedure (more_expressions e r) → HasQueue h e
      go no_expressions y = y
      go (more_expressions f r) y = absurd y
  queue_performed q es (inr i) x e rest same = go rest (subst (λ (z : Expressions). IsPerformed h continue_procedure z) same (subst (λ (z : scopes.Standard). IsPerformed h z es) i x))
    where
      go : (r : Expressions) → IsPerformed h continue_procedure (more_expressions e r) → HasQueue h e
      go no_expressions y = y
      go (more_expressions f r) y = absurd y

  waits_in : (at : ℕ) (es : Expressions) (os : List Operand) (u r : Use) (q : scopes.Standard) → AreSmallExpressions es → arguments s w [] 0 es ≡ Ok os → (q ≡ delay_procedure) ⊎ (q ≡ continue_procedure) → statements.check_standard_call s w at (predeclared_of q) os u ≡ Ok r → WaitKnown h w es
  waits_in at es os u r q m a (inl e) is =
      let done : statements.check_standard_call s w at predeclared.Delay os u ≡ Ok r = subst (λ (z : scopes.Standard). statements.check_standard_call s w at (predeclared_of z) os u ≡ Ok r) e is in
      let none : statements.waiting_faults s w at predeclared.Delay os ≡ [] = passed (statements.waiting_faults s w at predeclared.Delay os) (both_uses u statements.one_delay) r done in
      record {
        monitor = may_wait predeclared.Delay (waits_of at predeclared.Delay os none);
        queue = queues_given at es os m a (none_left (statements.queue_faults at os) (statements.wait_faults s w at predeclared.Delay) none) (queue_performed q es (inl e) (performed_formed tokens s h w agrees heard at q es os u m a (ap faults is)));
      }
  waits_in at es os u r q m a (inr e) is =
      let done : statements.check_standard_call s w at predeclared.Continue os u ≡ Ok r = subst (λ (z : scopes.Standard). statements.check_standard_call s w at (predeclared_of z) os u ≡ Ok r) e is in
      let none : statements.waiting_faults s w at predeclared.Continue os ≡ [] = passed (statements.waiting_faults s w at predeclared.Continue os) u r done in
      record {
        monitor = may_wait predeclared.Continue (waits_of at predeclared.Continue os none);
        queue = queues_given at es os m a (none_left (statements.queue_faults at os) (statements.wait_faults s w at predeclared.Continue) none) (queue_performed q es (inr e) (performed_formed tokens s h w agrees heard at q es os u m a (ap faults is)));
      }

  based : (v : ValueType) (r : Range) (c : code.OrdinalExpression) (o : Option Formed) → Expressed W v o → o ≡ Some (record { ty = ordinal r; form = as_ordinal c }) → IsListed tokens r.base
  based v r c o x e = listed r.base _ (subst (Expressed W v) e x).2.belongs.base
    where
      listed : (b : Base) (z : _) → BaseIs tokens b z → IsListed tokens b
      listed (named.enumerated at xs) z i = i.2
      listed named.integers z i = tt
      listed named.booleans z i = tt
      listed named.characters z i = tt

  shown : (es : Expressions) (os : List Operand) → AreSmallExpressions es → arguments s w [] 0 es ≡ Ok os → ShownKnown tokens h es
  unfolding expression
  shown no_expressions os m is = tt
  shown (more_expressions e es) os m is =
      let t : Then (both (expression s w false e) (arguments s w [] (0 + 1) es)) expressions.before os = then_of (both (expression s w false e) (arguments s w [] (0 + 1) es)) expressions.before os is in
      let one : expression s w false e ≡ Ok t.value.0 = (both_of (expression s w false e) (arguments s w [] (0 + 1) es) t.value t.is).first in
      let x : Expressed W t.value.0.value_type (expression_form h e) = subst (λ (j : Judged Operand). HasForm W j (expression_form h e)) one (expression_typed tokens s h w agrees e m.0) in
      λ r c form. based t.value.0.value_type r c (expression_form h e) x form

  standard_same : (a b : scopes.Standard) → Some (standard_meaning a) ≡ Some (standard_meaning b) → a ≡ b
  standard_same a b e = cc

  standard_known : (at : ℕ) (i : Identifier) (ss : Selectors) (es : Expressions) (p : Predeclared) (os : List Operand) (u r : Use) (m : Option scopes.Meaning) → find i.name h.scope ≡ m → StandardIs p m → AreSmallExpressions es → arguments s w [] 0 es ≡ Ok os → statements.check_standard_call s w at p os u ≡ Ok r → Known (name_with i ss) es
  standard_known at i ss es p os u r (Some (scopes.standard_meaning q)) is k m a done =
      record {
        variables = λ y e. absurd (let bad : None ≡ Some y = sym (standard_none i ss q is) ∙ e in cc);
        shows = λ e. shown es os m a;
        delays = λ e. waits_in at es os u r q m a (inl (standard_same q delay_procedure (sym is ∙ e))) (subst (λ (z : Predeclared). statements.check_standard_call s w at z os u ≡ Ok r) (sym k) done);
        continues = λ e. waits_in at es os u r q m a (inr (standard_same q continue_procedure (sym is ∙ e))) (subst (λ (z : Predeclared). statements.check_standard_call s w at z os u ≡ Ok r) (sym k) done);
      }
  standard_known at i ss es p os u r _ is k m a done = absurd k

  named_known : (at : ℕ) (i : Identifier) (ss : Selectors) (es : Expressions) (c : check_designated.DesignatedName) (n : Named) (os : List Operand) (r : Use) → NamedIs tokens s h i.name (find i.name h.scope) (last_field ss) n (designator_form h (name_with i ss)) → AreSmallExpressions es →
      arguments s w (statements.parameters_of s n (statements.number_of es)) 0 es ≡ Ok os → statements.check_call_of s w at c os n ≡ Ok r → Known (name_with i ss) es
  named_known at i ss es c (name.Predeclared p) os r k m a is = standard_known at i ss es p os (calls.total_use c.uses os) r (find i.name h.scope) refl k m a is
  named_known at i ss es c (name.Routine n) os r k m a is =
      routine_known (name_with i ss) es (called_variables at c.name_at true n os c.uses r es (routine_called h.program h.scope (name_with i ss)) m (own_called tokens s h w i.name n (find i.name h.scope) (last_field ss) k).heading a is) (routine_other i.name n (find i.name h.scope) k)
  named_known at i ss es c (name.Entry n) os r k m a is =
      routine_known (name_with i ss) es (called_variables at c.name_at false n os c.uses r es (routine_called h.program h.scope (name_with i ss)) m k.heading a is) (call_other (find i.name h.scope) (last_field ss) k.is)
  named_known at i ss es c x os r k m a is = absurd (cc)

  invoke_known : (at : ℕ) (i : Identifier) (ss : Selectors) (es : Expressions) → AreSmallSelectors ss → AreSmallExpressions es → (r : Use) → statements.call s w at (name_with i ss) es ≡ Ok r → Known (name_with i ss) es
  unfolding statements.call statements.check_call
  invoke_known at i ss es small less r is =
      let d : Designator = name_with i ss in
      let ps = statements.parameters_of_judged s (statements.number_of es) (designator s w d) in
      let t : Then (both (designator s w d) (arguments s w ps 0 es)) (statements.check_call s w at) r = then_of (both (designator s w d) (arguments s w ps 0 es)) (statements.check_call s w at) r is in
      let b = both_of (designator s w d) (arguments s w ps 0 es) t.value t.is in
      let a : arguments s w (statements.parameters_of s t.value.0.named (statements.number_of es)) 0 es ≡ Ok t.value.1 = sym (ap (λ (j : Judged check_designated.DesignatedName). arguments s w (statements.parameters_of_judged s (statements.number_of es) j) 0 es) b.first) ∙ b.second in
      named_known at i ss es t.value.0 t.value.0.named t.value.1 r (designator_named tokens s h w agrees i ss t.value.0 small b.first) less a t.rest

  -- ---- starts

  held_only : (m : Option scopes.Meaning) (x : Option Name) (v : ValueType) (o : Option Designated) → Holds W m x v o → (part : code.ComponentPlace) (n : ℕ) → o ≡ Some (a_component part n) → (j : ℕ) → tokens.systems j ≡ tokens.systems n → j ≡ n
  held_only m x v (Some (a_component c k)) i part n e j same =
      let one : k ≡ n = component_same c part k n e in
      i.0.only j (same ∙ ap tokens.systems (sym one)) ∙ one
    where
      component_same : (c d : code.ComponentPlace) (k n : ℕ) → Some (a_component c k) ≡ Some (a_component d n) → k ≡ n
      component_same c d k n e = cc
  held_only m x v (Some (a_variable p t)) i part n e j same = absurd (let bad : Some (a_variable p t) ≡ Some (a_component part n) = e in cc)
  held_only m x v (Some (some_components first q k)) i part n e j same = absurd (let bad : Some (some_components first q k) ≡ Some (a_component part n) = e in cc)
  held_only m x v None i part n e j same = absurd i

  named_started : (at : ℕ) (i : Identifier) (ss : Selectors) (c : check_designated.DesignatedName) (n : Named) (os : List Operand) (r : Use) → NamedIs tokens s h i.name (find i.name h.scope) (last_field ss) n (designator_form h (name_with i ss)) → statements.check_start_of s at c os n ≡ Ok r →
      (part : code.ComponentPlace) (k : ℕ) → designator_form h (name_with i ss) ≡ Some (a_component part k) → (j : ℕ) → tokens.systems j ≡ tokens.systems k → j ≡ k
  named_started at i ss c (name.Variable v) os r k is = held_only (find i.name h.scope) (last_field ss) v (designator_form h (name_with i ss)) k
  named_started at i ss c x os r k is = absurd (cc)

  start_of : (i : Identifier) (ss : Selectors) (es : Expressions) → AreSmallSelectors ss → (r : Use) → statements.start s w (record { target = name_with i ss; arguments = es }) ≡ Ok r → StartKnown tokens h (record { target = name_with i ss; arguments = es })
  unfolding statements.start statements.check_start
  start_of i ss es m r is =
      let d : Designator = name_with i ss in
      let t : Then (both (designator s w d) (arguments s w [] 0 es)) (statements.check_start s i.at) r = then_of (both (designator s w d) (arguments s w [] 0 es)) (statements.check_start s i.at) r is in
      let b = both_of (designator s w d) (arguments s w [] 0 es) t.value t.is in
      named_started i.at i ss t.value.0 t.value.0.named t.value.1 r (designator_named tokens s h w agrees i ss t.value.0 m b.first) t.rest

  start_by : (t : Start) (d : Designator) → t.target ≡ d → IsSmallStart t → (r : Use) → statements.start s w t ≡ Ok r → StartKnown tokens h t
  start_by t (name_with i ss) same small r is =
      let one : t ≡ (let z : Start = record { target = name_with i ss; arguments = t.arguments } in z) = ap (λ (d : Designator). (let z : Start = record { target = d; arguments = t.arguments } in z)) same in
      let less : IsSmallStart (record { target = name_with i ss; arguments = t.arguments }) = subst IsSmallStart one small in
      subst (λ (z : Start). StartKnown tokens h z) (sym one) (start_of i ss t.arguments less.0 r (subst (λ (z : Start). statements.start s w z ≡ Ok r) one is))

  starts_known : (ts : List Start) → Each IsSmallStart ts → (j : Judged Use) (r : Use) → statements.starts s w j ts ≡ Ok r → Inside j (Each (StartKnown tokens h) ts)
  unfolding statements.starts
  starts_known [] m j r is = record { value = r; is = is; rest = tt }
  starts_known (t ∷ ts) m j r is =
      let x = starts_known ts m.1 (both j (statements.start s w t) >>= statements.together) r is in
      let k : Then (both j (statements.start s w t)) statements.together x.value = then_of (both j (statements.start s w t)) statements.together x.value x.is in
      let b = both_of j (statements.start s w t) k.value k.is in
      record { value = k.value.0; is = b.first; rest = (start_by t t.target refl m.0 k.value.1 b.second, x.rest) }

  outside_routines : (at : ℕ) (o : Option ℕ) (u r : Use) → statements.initial_in at o u ≡ Ok r → o ≡ None
  outside_routines at None u r is = refl
  outside_routines at (Some n) u r is = absurd (cc)

  -- ---- statements

  known_of : (t : Statement) → IsSmallStatement t → (r : Use) → statement s w t ≡ Ok r → StatementKnown tokens h w t
  unfolding statement
  known_of (assign at (name_with i ss) e) m r is = assign_known at i ss e m.0 r is
  known_of (invoke at (name_with i ss) es) m r is = invoke_known at i ss es m.0 m.1 r is
  known_of (init at ts) m r is =
      let k : Then (statements.starts s w (Ok no_use) ts) (statements.initial at w) r = then_of (statements.starts s w (Ok no_use) ts) (statements.initial at w) r is in
      (outside_routines at w.routine k.value r k.rest, (starts_known ts m (Ok no_use) k.value k.is).rest)
  known_of _ m r is = tt

  pub statement_known : (t : Statement) → IsSound s w t → StatementKnown tokens h w t
  statement_known t x = known_of t x.small x.use_of x.is
