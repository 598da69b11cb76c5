-- Expressions that break no rule use names as the rules want it, and each function call in them is allowed and has arguments that fit the parameters.
use Rattle.std.proofs.Common.{◌≡◌, ℕ, ◌+◌, ℤ, Bool, true, false, ◌&&◌, if◌then◌else◌, List, [], ◌∷◌, ◌++◌, Option, Some, None, Ok, refl, sym, ap, subst, ◌∙◌}
use Rattle.cp_resolved.proofs.Words.{Identifier, C5, ValueType, Predeclared, Use, values_of, Judged, broken, both, ◌>>=◌, Context, Operand, Named}
use Rattle.cp_resolved.proofs.Words.{value, is_function, Name, Ty, find, RoutineMeaning, routine_called, Item, function_call, CallsFormed, Designated}
use Rattle.cp_resolved.proofs.Words.{a_variable, a_component, designator_form, CanGiveAll, CallFormed, Here}
use Rattle.cp_tree.specs.Syntax.{Expression, alone, related, Sum, sum, Terms, no_terms, more_terms as terms_more, Term, term, Factors, no_factors, more_factors as factors_more, Factor, named as factor_named, group, negated, set_of, Expressions, no_expressions, more_expressions, Designator, designator as name_with, Selectors, no_selectors, more_selectors, field, index}
use Rattle.cp_scope.specs.declared.types.Base as check_base
use Rattle.cp_scope.specs.Scopes.{Heading, Scopes, heading_at}
use Rattle.cp_check.specs.declared.operand.OperandUse.TheVariants as place
use Rattle.cp_check.specs.declared.operand.DesignatedName as check_designated
use Rattle.cp_check.specs.declared.operand.Named.TheVariants.{Constant, Variable, Parameter, Routine, Entry, Predeclared as Predeclared'}
use Rattle.cp_check.specs.Operations as operations
use Rattle.cp_check.specs.Names as names
use Rattle.cp_check.specs.Calls as calls
use Rattle.cp_check.specs.Expressions.{expression, sum_value, more_terms, term_value, more_factors, factor, designator, selectors, arguments, is_unsigned, has_no_terms, has_no_factors, has_none}
use Rattle.cp_check.specs.Expressions as expressions
use Rattle.cp_meaning.specs.Types as named
use Rattle.cp_meaning.specs.Scopes as scopes
use Rattle.cp_meaning.specs.Declarations as meant
use Rattle.cp_meaning.specs.Lifting.{last_field, is_call_meant, own_call, expression_calls, sum_calls, terms_calls, term_calls, factors_calls, factor_calls, expressions_calls, selectors_calls}
use Rattle.cp_resolved.specs.Typed.{Tokens, IsOrdinalResult, HeadingIs, ResultIs, RoutineIs, ConstantIs, StandardIs, ScopesAgree, IsSmallExpression, IsSmallSum, AreSmallTerms, IsSmallTerm, AreSmallFactors, IsSmallFactor, AreSmallExpressions, AreSmallSelectors}
use Rattle.cp_resolved.specs.Used.{IsBare, AreNone, IsOne, IsFunction, HasResult, AreFormed, UsedAs, IsUsed, SumUsed, TermsUsed, TermUsed, FactorsUsed, FactorUsed, AreUsed, SelectorsUsed}
use Rattle.cp_resolved.proofs.forms.GivenArguments.{plain_arguments, call_given}
use Rattle.cp_resolved.proofs.forms.NamesAlone.{none_given, agreed_some, name_only, never, NameParts, name_parts, sum_only, term_only}
use Rattle.cp_resolved.proofs.forms.TypingNames.{Holds, written, IsCalled, NamedIs}
use Rattle.cp_resolved.proofs.forms.TypingValues.{IsValue, held_value, own_called}
use Rattle.cp_resolved.proofs.forms.TypingExpressions.{designator_named}
use Rattle.cp_resolved.proofs.forms.UsedNames.{IsVariableMeaning, other_bare, EntryUsed, entry_used, known_is}
use Rattle.cp_resolved.proofs.statements.CallsJudged.{Reached, Below, first_below, second_below, AreBelow, OptionBelow, added_below, multiplied_below, signed_below, related_below, negated_below, constructed_below, ValueSaid, value_said}
use Rattle.cp_resolved.proofs.statements.ExpressionsJudged.{AllSaid, said_both, own_said, selected_uses}
use Rattle.cp_resolved.proofs.agreeing.WithoutFaults.{ok_same, Then, then_of, both_of}

-- ---- what is called

pub calls_both : (h : Here) (xs ys : List Item) → CallsFormed h xs → CallsFormed h ys → CallsFormed h (xs ++ ys)
calls_both h [] ys f g = g
calls_both h (function_call at d es ∷ xs) ys f g = (f.0, calls_both h xs ys f.1 g)
calls_both h _ ys f g = absurd f

ordinal_result : (k : Tokens) (v : ValueType) (o : Option Ty) → IsOrdinalResult k v o → HasResult o
ordinal_result k v (Some t) i = tt
ordinal_result k v None i = absurd i

arguments_formed : (h : Here) (qs : List meant.Parameter) (es : Expressions) → CanGiveAll h qs es → AreFormed h es
arguments_formed h [] no_expressions g = tt
arguments_formed h (q ∷ qs) (more_expressions e es) g = ((g.0.given.form, g.0.given.formed), arguments_formed h qs es g.1)
arguments_formed h _ _ g = absurd g

none_after : (s : Scopes) (w : Context) (k : ℕ) (es : Expressions) → arguments s w [] k es ≡ Ok [] → AreNone es
unfolding expression
none_after s w k no_expressions is = tt
none_after s w k (more_expressions e es) is = absurd (let t = then_of (both (expression s w false e) (arguments s w [] (k + 1) es)) expressions.before [] is in let bad : t.value.0 ∷ t.value.1 ≡ [] = ok_same (t.value.0 ∷ t.value.1) [] t.rest in cc)

one_given : (s : Scopes) (w : Context) (es : Expressions) (o : Operand) → arguments s w [] 0 es ≡ Ok (o ∷ []) → IsOne es
unfolding expression
one_given s w no_expressions o is = absurd (let bad : [] ≡ o ∷ [] = ok_same [] (o ∷ []) is in cc)
one_given s w (more_expressions e es) o is =
    let t = then_of (both (expression s w false e) (arguments s w [] (0 + 1) es)) expressions.before (o ∷ []) is in
    let p = both_of (expression s w false e) (arguments s w [] (0 + 1) es) t.value t.is in
    let same : t.value.0 ∷ t.value.1 ≡ o ∷ [] = ok_same (t.value.0 ∷ t.value.1) (o ∷ []) t.rest in
    let rest : t.value.1 ≡ [] = cc in
    none_after s w (0 + 1) es (p.second ∙ ap (λ (z : List Operand). Ok z) rest)

alone_none : (o p : Operand) (os : List Operand) → calls.alone o os ≡ Ok p → os ≡ []
alone_none o p [] is = refl
alone_none o p (q ∷ os) is = absurd (cc)

-- the one argument of a standard function
record Single (os : List Operand) : Type 0 where
  pub operand : Operand
  pub is : os ≡ operand ∷ []

applied_one : (at : ℕ) (p : Predeclared) (os : List Operand) (u : Use) (r : Operand) → operations.standard_value at p os u ≡ Ok r → Single os
applied_one at p os u r is = go (operations.is_function p) is
  where
    inner : (os : List Operand) → operations.standard_value_of_all at p os u ≡ Ok r → Single os
    inner [] i = absurd (cc)
    inner (o ∷ []) i = record { operand = o; is = refl }
    inner (o ∷ q ∷ os) i = absurd (cc)

    go : (b : Bool) → (if b then operations.standard_value_of_all at p os u else broken at C5) ≡ Ok r → Single os
    go true i = inner os i
    go false i = absurd (cc)

module _ (tokens : Tokens) (s : Scopes) (h : Here) (w : Context) (agrees : ScopesAgree tokens s h) where
  -- ---- calls of functions

  pub record Called (d : Designator) (es : Expressions) : Type 0 where
    pub function : IsFunction (routine_called h.program h.scope d)
    pub formed : AreFormed h es
    pub call : CallFormed h d es

  result_function : (v : ValueType) (o : Option RoutineMeaning) (d : Heading) → d.result ≡ Some v → HeadingIs (written tokens s h) d o → IsFunction o
  result_function v (Some m) d is i = ordinal_result tokens v m.result (subst (λ (z : Option ValueType). ResultIs tokens z (Some m)) is i.0)
  result_function v None d is i = absurd i

  called_function : (at name_at : ℕ) (b : Bool) (n : ℕ) (os : List Operand) (u : Use) (d : Designator) (es : Expressions) (v : Option ValueType) (p : Operand) → (heading_at n s).result ≡ v → HeadingIs (written tokens s h) (heading_at n s) (routine_called h.program h.scope d) → AreSmallExpressions es → arguments s w [] 0 es ≡ Ok os → calls.function_of s w at name_at b n os u v ≡ Ok p → Called d es
  called_function at name_at b n os u d es None p result i small a is = absurd (cc)
  called_function at name_at b n os u d es (Some v) p result i small a is =
      let t : Then (calls.check_routine_call s w at name_at b n os u) (calls.with_result at v) p = then_of (calls.check_routine_call s w at name_at b n os u) (calls.with_result at v) p is in
      let c : CallFormed h d es = call_given tokens s h w agrees at name_at b n os u t.value d es (routine_called h.program h.scope d) refl i small (λ many. plain_arguments tokens s h w agrees (heading_at n s).parameters 0 es os a many) t.is in
      record { function = result_function v (routine_called h.program h.scope d) (heading_at n s) result i; formed = arguments_formed h c.routine.parameters es c.arguments; call = c }

  function_called : (at name_at : ℕ) (b : Bool) (n : ℕ) (os : List Operand) (u : Use) (d : Designator) (es : Expressions) (p : Operand) → HeadingIs (written tokens s h) (heading_at n s) (routine_called h.program h.scope d) → AreSmallExpressions es → arguments s w [] 0 es ≡ Ok os → calls.function_value s w at name_at b n os u ≡ Ok p → Called d es
  unfolding calls.function_value
  function_called at name_at b n os u d es p i small a is = called_function at name_at b n os u d es (heading_at n s).result p refl i small a is

  -- ---- a name with its arguments

  abbrev NameUsed : ℕ → Designator → Expressions → Bool → Option scopes.Meaning → Type 0
  NameUsed at d es b m = UsedAs h d es b m × CallsFormed h (own_call b at d es)

  constant_used : (at : ℕ) (d : Designator) (es : Expressions) (b : check_base.Base) (z : ℤ) (m : Option scopes.Meaning) (x : Option Name) → ConstantIs tokens b z m → ((IsVariableMeaning m → ⊥) → IsBare d) → AreNone es → NameUsed at d es (is_call_meant m x) m
  constant_used at d es b z (Some (scopes.constant_meaning c y)) x i bare none = ((bare (λ k. k), none), tt)
  constant_used at d es b z _ x i bare none = absurd i

  standard_used : (at : ℕ) (d : Designator) (es : Expressions) (p : Predeclared) (m : Option scopes.Meaning) (x : Option Name) → StandardIs p m → ((IsVariableMeaning m → ⊥) → IsBare d) → IsOne es → NameUsed at d es (is_call_meant m x) m
  standard_used at d es p (Some (scopes.standard_meaning q)) x i bare one = ((bare (λ k. k), one), tt)
  standard_used at d es p _ x i bare one = absurd i

  holds_no_constant : (b : named.Base) (z : ℤ) (x : Option Name) (v : ValueType) (o : Option Designated) → Holds (written tokens s h) (Some (scopes.constant_meaning b z)) x v o → ⊥
  holds_no_constant b z x v (Some (a_variable p t)) i = i.2
  holds_no_constant b z x v None i = i
  holds_no_constant b z x v _ i = i.1

  holds_no_standard : (q : scopes.Standard) (x : Option Name) (v : ValueType) (o : Option Designated) → Holds (written tokens s h) (Some (scopes.standard_meaning q)) x v o → ⊥
  holds_no_standard r x v (Some (a_variable p t)) i = i.2
  holds_no_standard r x v None i = i
  holds_no_standard r x v _ i = i.1

  variable_used : (at : ℕ) (d : Designator) (es : Expressions) (m : Option scopes.Meaning) (x : Option Name) (v : ValueType) (o : Option Designated) → Holds (written tokens s h) m x v o → AreNone es → NameUsed at d es (is_call_meant m x) m
  variable_used at d es m x v o i none =
      let k : IsValue tokens s h w m x = held_value tokens s h w m x v o i in
      subst (λ (b : Bool). NameUsed at d es b m) (sym k.call) (go m i, tt)
    where
      go : (m : Option scopes.Meaning) → Holds (written tokens s h) m x v o → UsedAs h d es false m
      go (Some (scopes.local_variable t)) i = none
      go (Some (scopes.permanent_variable t)) i = none
      go (Some (scopes.type_meaning t)) i = none
      go (Some (scopes.routine_meaning r)) i = none
      go None i = none
      go (Some (scopes.constant_meaning b z)) i = absurd (holds_no_constant b z x v o i)
      go (Some (scopes.standard_meaning q)) i = absurd (holds_no_standard q x v o i)

  routine_used : (at : ℕ) (d : Designator) (es : Expressions) (i : Name) (m : Option scopes.Meaning) (x : Option Name) (n : ℕ) → RoutineIs (written tokens s h) (heading_at n s) i h.scope m → ((IsVariableMeaning m → ⊥) → IsBare d) → Called d es → NameUsed at d es (is_call_meant m x) m
  routine_used at d es i (Some (scopes.routine_meaning r)) x n k bare c = ((bare (λ z. z), c.function, c.formed), (c.call, tt))
  routine_used at d es i _ x n k bare c = absurd k

  entry_meant : (at : ℕ) (i : Identifier) (ss : Selectors) (es : Expressions) (r : ℕ) (m : Option scopes.Meaning) → is_call_meant m (last_field ss) ≡ true → ((IsVariableMeaning m → ⊥) → IsBare (name_with i ss)) → EntryUsed tokens s h w agrees i ss r → Called (name_with i ss) es → NameUsed at (name_with i ss) es (is_call_meant m (last_field ss)) m
  entry_meant at i ss es r (Some (scopes.routine_meaning f)) call bare e c = ((bare (λ z. z), c.function, c.formed), (c.call, tt))
  entry_meant at i ss es r (Some (scopes.permanent_variable t)) call bare e c =
      subst (λ (b : Bool). NameUsed at (name_with i ss) es b (Some (scopes.permanent_variable t))) (sym call)
      ((e.found.entry, c.function, c.formed, (a_component e.found.part e.system, e.found.formed)), (c.call, tt))
  entry_meant at i ss es r x call bare e c = absurd (cc)

  value_used : (at : ℕ) (i : Identifier) (ss : Selectors) (es : Expressions) (d : check_designated.DesignatedName) (n : Named) (os : List Operand) (o : Option Designated) (p : Operand) → d.named ≡ n → NamedIs tokens s h i.name (find i.name h.scope) (last_field ss) n o → AreSmallSelectors ss → AreSmallExpressions es →
      designator s w (name_with i ss) ≡ Ok d → arguments s w [] 0 es ≡ Ok os → calls.value_by_name s w at d os n ≡ Ok p → NameUsed at (name_with i ss) es (is_call_meant (find i.name h.scope) (last_field ss)) (find i.name h.scope)
  value_used at i ss es d (Constant b) os o p same k small less is a g =
      constant_used at (name_with i ss) es b k.0 (find i.name h.scope) (last_field ss) k.1 (λ other. other_bare tokens s h w agrees i ss d other is) (none_given s w es (a ∙ ap (λ (z : List Operand). Ok z) (alone_none (value at (values_of b) d.uses) p os g)))
  value_used at i ss es d (Variable v) os o p same k small less is a g =
      variable_used at (name_with i ss) es (find i.name h.scope) (last_field ss) v o k (none_given s w es (a ∙ ap (λ (z : List Operand). Ok z) (alone_none (calls.operand_at at v (calls.place_of s v) d.uses) p os g)))
  value_used at i ss es d (Parameter v) os o p same k small less is a g =
      variable_used at (name_with i ss) es (find i.name h.scope) (last_field ss) v o k (none_given s w es (a ∙ ap (λ (z : List Operand). Ok z) (alone_none (calls.operand_at at v place.Fixed d.uses) p os g)))
  value_used at i ss es d (Predeclared' q) os o p same k small less is a g =
      let one : Single os = applied_one at q os (calls.total_use d.uses os) p g in
      standard_used at (name_with i ss) es q (find i.name h.scope) (last_field ss) k (λ other. other_bare tokens s h w agrees i ss d other is) (one_given s w es one.operand (a ∙ ap (λ (z : List Operand). Ok z) one.is))
  value_used at i ss es d (Routine n) os o p same k small less is a g =
      let c : IsCalled tokens s h n i.name (find i.name h.scope) (last_field ss) = own_called tokens s h w i.name n (find i.name h.scope) (last_field ss) k in
      routine_used at (name_with i ss) es i.name (find i.name h.scope) (last_field ss) n k (λ other. other_bare tokens s h w agrees i ss d other is)
      (function_called at d.name_at true n os d.uses (name_with i ss) es p c.heading less a g)
  value_used at i ss es d (Entry n) os o p same k small less is a g =
      entry_meant at i ss es n (find i.name h.scope) k.is (λ other. other_bare tokens s h w agrees i ss d other is) (entry_used tokens s h w agrees i ss d n small k.is same is)
      (function_called at d.name_at false n os d.uses (name_with i ss) es p k.heading less a g)
  value_used at i ss es d x os o p same k small less is a g = absurd (cc)

  -- ---- expressions

  -- f: whether anything may wait at all
  module _ (f : Bool) where
    -- the arguments of each function call fit, and each is one that the rules allow
    abbrev pub CallsFine : List Item → Type 0
    CallsFine is = CallsFormed h is × AllSaid s w f h.scope is

    pub fine_both : (xs ys : List Item) → CallsFine xs → CallsFine ys → CallsFine (xs ++ ys)
    fine_both xs ys x y = (calls_both h xs ys x.0 y.0, said_both s w f h.scope xs ys x.1 y.1)

    option_ok : (a b : Option Operand) → (let j : Judged (Option Operand) = Ok a in j) ≡ Ok b → a ≡ b
    option_ok a b e = cc

    mutual
      unfolding expression

      -- v: in the place of a `var` argument, which is no function
      pub expression_used : (v : Bool) (e : Expression) → IsSmallExpression e → (p : Operand) → (v ≡ true → is_function p.place ≡ false) → Below f p.uses → expression s w v e ≡ Ok p → IsUsed h e × CallsFine (expression_calls h.scope e)
      expression_used v (alone at a) m p only low is = sum_used v a m p only low is
      expression_used v (related at a r b) m p only low is =
          let t : Then (both (sum_value s w false a) (sum_value s w false b)) (operations.relation_value at r) p = then_of (both (sum_value s w false a) (sum_value s w false b)) (operations.relation_value at r) p is in
          let q = both_of (sum_value s w false a) (sum_value s w false b) t.value t.is in
          let k = related_below f at r t.value p t.rest low in
          let x = sum_used false a m.0 t.value.0 (never t.value.0) k.0 q.first in
          let y = sum_used false b m.1 t.value.1 (never t.value.1) k.1 q.second in
          ((x.0, y.0), fine_both (sum_calls h.scope a) (sum_calls h.scope b) x.1 y.1)

      sum_used : (v : Bool) (a : Sum) → IsSmallSum a → (p : Operand) → (v ≡ true → is_function p.place ≡ false) → Below f p.uses → sum_value s w v a ≡ Ok p → SumUsed h a × CallsFine (sum_calls h.scope a)
      sum_used v (sum at o t ts) m p only low is =
          let b : Bool = v && (is_unsigned o && has_no_terms ts) in
          let all : more_terms s w at (term_value s w b t >>= expressions.first_term at o) ts ≡ Ok (Some p) = agreed_some at (more_terms s w at (term_value s w b t >>= expressions.first_term at o) ts) p is in
          let rest = terms_used at ts m.1 (term_value s w b t >>= expressions.first_term at o) (Some p) low all in
          let one : Then (term_value s w b t) (expressions.first_term at o) rest.value = then_of (term_value s w b t) (expressions.first_term at o) rest.value rest.is in
          let below : Below f one.value.uses = signed_below f at o one.value (subst (OptionBelow f) (sym (option_ok (operations.with_sign at o one.value) rest.value one.rest)) rest.below) in
          let x = term_used b t m.0 one.value (sum_only s w at v o ts (term_value s w b t) one.value p one.is only all) below one.is in
          ((x.0, rest.rest.0), fine_both (term_calls h.scope t) (terms_calls h.scope ts) x.1 rest.rest.1)

      terms_used : (at : ℕ) (ts : Terms) → AreSmallTerms ts → (j : Judged (Option Operand)) (r : Option Operand) → OptionBelow f r → more_terms s w at j ts ≡ Ok r → Reached (OptionBelow f) j (TermsUsed h ts × CallsFine (terms_calls h.scope ts))
      terms_used at no_terms m j r low is = record { value = r; is = is; below = low; rest = (tt, (tt, tt)) }
      terms_used at (terms_more a t ts) m j r low is =
          let rest = terms_used at ts m.1 (both j (term_value s w false t) >>= expressions.sum_so_far at a) r low is in
          let k : Then (both j (term_value s w false t)) (expressions.sum_so_far at a) rest.value = then_of (both j (term_value s w false t)) (expressions.sum_so_far at a) rest.value rest.is in
          let q = both_of j (term_value s w false t) k.value k.is in
          let below = added_below f at a k.value.0 k.value.1 (subst (OptionBelow f) (sym (option_ok (operations.sum_of at a k.value.0 k.value.1) rest.value k.rest)) rest.below) in
          let x = term_used false t m.0 k.value.1 (never k.value.1) below.1 q.second in
          record { value = k.value.0; is = q.first; below = below.0; rest = ((x.0, rest.rest.0), fine_both (term_calls h.scope t) (terms_calls h.scope ts) x.1 rest.rest.1) }

      term_used : (v : Bool) (t : Term) → IsSmallTerm t → (p : Operand) → (v ≡ true → is_function p.place ≡ false) → Below f p.uses → term_value s w v t ≡ Ok p → TermUsed h t × CallsFine (term_calls h.scope t)
      term_used v (term at g fs) m p only low is =
          let b : Bool = v && has_no_factors fs in
          let all : more_factors s w at (factor s w b g >>= expressions.some_operand) fs ≡ Ok (Some p) = agreed_some at (more_factors s w at (factor s w b g >>= expressions.some_operand) fs) p is in
          let rest = factors_used at fs m.1 (factor s w b g >>= expressions.some_operand) (Some p) low all in
          let one : Then (factor s w b g) expressions.some_operand rest.value = then_of (factor s w b g) expressions.some_operand rest.value rest.is in
          let below : Below f one.value.uses = subst (OptionBelow f) (sym (option_ok (Some one.value) rest.value one.rest)) rest.below in
          let x = factor_used b g m.0 one.value (term_only s w at v fs (factor s w b g) one.value p one.is only all) below one.is in
          ((x.0, rest.rest.0), fine_both (factor_calls h.scope g) (factors_calls h.scope fs) x.1 rest.rest.1)

      factors_used : (at : ℕ) (fs : Factors) → AreSmallFactors fs → (j : Judged (Option Operand)) (r : Option Operand) → OptionBelow f r → more_factors s w at j fs ≡ Ok r → Reached (OptionBelow f) j (FactorsUsed h fs × CallsFine (factors_calls h.scope fs))
      factors_used at no_factors m j r low is = record { value = r; is = is; below = low; rest = (tt, (tt, tt)) }
      factors_used at (factors_more o g fs) m j r low is =
          let rest = factors_used at fs m.1 (both j (factor s w false g) >>= expressions.product_so_far at o) r low is in
          let k : Then (both j (factor s w false g)) (expressions.product_so_far at o) rest.value = then_of (both j (factor s w false g)) (expressions.product_so_far at o) rest.value rest.is in
          let q = both_of j (factor s w false g) k.value k.is in
          let below = multiplied_below f at o k.value.0 k.value.1 (subst (OptionBelow f) (sym (option_ok (operations.product_of at o k.value.0 k.value.1) rest.value k.rest)) rest.below) in
          let x = factor_used false g m.0 k.value.1 (never k.value.1) below.1 q.second in
          record { value = k.value.0; is = q.first; below = below.0; rest = ((x.0, rest.rest.0), fine_both (factor_calls h.scope g) (factors_calls h.scope fs) x.1 rest.rest.1) }

      factor_used : (v : Bool) (g : Factor) → IsSmallFactor g → (p : Operand) → (v ≡ true → is_function p.place ≡ false) → Below f p.uses → factor s w v g ≡ Ok p → FactorUsed h g × CallsFine (factor_calls h.scope g)
      factor_used v (factor_named at (name_with i ss) es) m p only low is =
          let d : Designator = name_with i ss in
          let call : Bool = is_call_meant (find i.name h.scope) (last_field ss) in
          let k : NameParts s w d es at p = name_parts s w (v && has_none es) d es at p (name_only v es p only) is in
          let q : ValueSaid s w f k.value.named k.value k.operands = value_said s w f at k.value k.operands k.value.named p k.rest low in
          let t : Then (selectors s w (names.meaning_of_name s i) ss) (names.check_selectors i.at) k.value = then_of (selectors s w (names.meaning_of_name s i) ss) (names.check_selectors i.at) k.value k.is in
          let x = selectors_used ss m.0 (names.meaning_of_name s i) t.value (subst (λ (c : check_designated.DesignatedName). Below f c.uses) (sym (known_is s w i.at t.value k.value t.rest)) q.first) t.is in
          let y = arguments_used 0 es m.1 k.operands q.others k.arguments in
          let typed = designator_named tokens s h w agrees i ss k.value m.0 k.is in
          let z = value_used at i ss es k.value k.value.named k.operands (designator_form h d) p refl typed m.0 m.1 k.is k.arguments k.rest in
          let own : AllSaid s w f h.scope (own_call call at d es) = own_said s w f h.scope call at d es (λ e. record { small = m.0; value = k.value; is = k.is; kind = q.kind; called = q.called; result = q.result; call = e }) in
          ((x.rest.0, y.0, z.0), fine_both (selectors_calls h.scope ss ++ expressions_calls h.scope es) (own_call call at d es) (fine_both (selectors_calls h.scope ss) (expressions_calls h.scope es) x.rest.1 y.1) (z.1, own))
      factor_used v (group at e) m p only low is =
          let t : Then (expression s w false e) (expressions.to_group at) p = then_of (expression s w false e) (expressions.to_group at) p is in
          expression_used false e m t.value (never t.value) (subst (λ (o : Operand). Below f o.uses) (sym (ok_same (expressions.value_in_parentheses at t.value) p t.rest)) low) t.is
      factor_used v (negated at g) m p only low is =
          let t : Then (factor s w false g) (operations.negation_of at) p = then_of (factor s w false g) (operations.negation_of at) p is in
          factor_used false g m t.value (never t.value) (negated_below f at t.value p t.rest low) t.is
      factor_used v (set_of at es) m p only low is =
          let t : Then (arguments s w [] 0 es) (expressions.set_value at) p = then_of (arguments s w [] 0 es) (expressions.set_value at) p is in
          arguments_used 0 es m t.value (constructed_below f at t.value p t.rest low) t.is
      factor_used v _ m p only low is = (tt, (tt, tt))

      -- where no parameter is said to be `var`
      pub arguments_used : (k : ℕ) (es : Expressions) → AreSmallExpressions es → (os : List Operand) → AreBelow f os → arguments s w [] k es ≡ Ok os → AreUsed h es × CallsFine (expressions_calls h.scope es)
      arguments_used k no_expressions m os low is = (tt, (tt, tt))
      arguments_used k (more_expressions e es) m os low is =
          let t : Then (both (expression s w false e) (arguments s w [] (k + 1) es)) expressions.before os = then_of (both (expression s w false e) (arguments s w [] (k + 1) es)) expressions.before os is in
          let q = both_of (expression s w false e) (arguments s w [] (k + 1) es) t.value t.is in
          let all : AreBelow f (t.value.0 ∷ t.value.1) = subst (AreBelow f) (sym (ok_same (t.value.0 ∷ t.value.1) os t.rest)) low in
          let x = expression_used false e m.0 t.value.0 (never t.value.0) all.0 q.first in
          let y = arguments_used (k + 1) es m.1 t.value.1 all.1 q.second in
          ((x.0, y.0), fine_both (expression_calls h.scope e) (expressions_calls h.scope es) x.1 y.1)

      selectors_used : (ss : Selectors) → AreSmallSelectors ss → (j : Judged check_designated.DesignatedName) (d : check_designated.DesignatedName) → Below f d.uses → selectors s w j ss ≡ Ok d → Reached (λ (c : check_designated.DesignatedName). Below f c.uses) j (SelectorsUsed h ss × CallsFine (selectors_calls h.scope ss))
      selectors_used no_selectors m j d low is = record { value = d; is = is; below = low; rest = (tt, (tt, tt)) }
      selectors_used (more_selectors (field i) ss) m j d low is =
          let r = selectors_used ss m.1 (j >>= names.member_of s i) d low is in
          let t : Then j (names.member_of s i) r.value = then_of j (names.member_of s i) r.value r.is in
          record { value = t.value; is = t.is; below = subst (Below f) (sym (selected_uses s w f h.scope i t.value r.value (names.type_of t.value.named) t.rest)) r.below; rest = ((tt, r.rest.0), r.rest.1) }
      selectors_used (more_selectors (index e) ss) m j d low is =
          let r = selectors_used ss m.1 (both j (expression s w false e) >>= expressions.at_index s) d low is in
          let t : Then (both j (expression s w false e)) (expressions.at_index s) r.value = then_of (both j (expression s w false e)) (expressions.at_index s) r.value r.is in
          let q = both_of j (expression s w false e) t.value t.is in
          let all = subst (λ (z : check_designated.DesignatedName). Below f z.uses) (sym (ok_same (names.element_name s t.value.0 t.value.1) r.value t.rest)) r.below in
          let x = expression_used false e m.0 t.value.1 (never t.value.1) (second_below f t.value.0.uses t.value.1.uses all) q.second in
          record { value = t.value.0; is = q.first; below = first_below f t.value.0.uses t.value.1.uses all; rest = ((x.0, r.rest.0), fine_both (expression_calls h.scope e) (selectors_calls h.scope ss) x.1 r.rest.1) }

    pub designator_used : (i : Identifier) (ss : Selectors) → AreSmallSelectors ss → (d : check_designated.DesignatedName) → Below f d.uses → designator s w (name_with i ss) ≡ Ok d → SelectorsUsed h ss × CallsFine (selectors_calls h.scope ss)
    unfolding expression
    designator_used i ss m d low is =
        let t : Then (selectors s w (names.meaning_of_name s i) ss) (names.check_selectors i.at) d = then_of (selectors s w (names.meaning_of_name s i) ss) (names.check_selectors i.at) d is in
        let r = selectors_used ss m (names.meaning_of_name s i) t.value (subst (λ (z : check_designated.DesignatedName). Below f z.uses) (sym (known_is s w i.at t.value d t.rest)) low) t.is in
        r.rest
