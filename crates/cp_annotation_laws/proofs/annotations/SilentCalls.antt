-- An annotation that breaks no rule calls nothing.
use Rattle.std.proofs.Common.{◌≡◌, ◌∙◌, ℕ, ◌+◌, ℤ, Bool, true, false, if◌then◌else◌, List, [], ◌∷◌, ◌++◌, Option, Some, None, Ok, refl, sym, ap}
use Rattle.cp_tree.specs.declared.constant.Identifier.{Identifier}
use Rattle.cp_tree.specs.Syntax.{Expression, alone, related, Sum, sum, Terms, no_terms, more_terms as terms_more, Term, term, Factors, no_factors, more_factors as factors_more, Factor, number, character, named as factor_named, group, negated, set_of, Expressions, no_expressions, more_expressions, Designator, designator as name_with, Selectors, no_selectors, more_selectors, field, index}
use Rattle.cp_scope.specs.Judged.{Judged, both, ◌>>=◌}
use Rattle.cp_scope.specs.declared.fault.CheckFault.TheVariants as check_fault
use Rattle.cp_scope.specs.declared.fault.Rule.TheVariants.{C22}
use Rattle.cp_scope.specs.declared.count.Use.{Use}
use Rattle.cp_scope.specs.declared.types.Base as check_base
use Rattle.cp_scope.specs.declared.types.Predeclared.{Predeclared}
use Rattle.cp_scope.specs.declared.types.ValueType.{ValueType}
use Rattle.cp_scope.specs.Scopes.{Scopes, heading_at, body_at}
use Rattle.cp_check.specs.declared.operand.Context.{Context}
use Rattle.cp_check.specs.declared.operand.DesignatedName as check_designated
use Rattle.cp_check.specs.declared.operand.Named.{Named}
use Rattle.cp_check.specs.declared.operand.Named.TheVariants.{Constant, Variable, Parameter, Routine, Entry, Predeclared as Predeclared'}
use Rattle.cp_check.specs.declared.operand.Operand.{Operand}
use Rattle.cp_check.specs.Operations as operations
use Rattle.cp_check.specs.Names as names
use Rattle.cp_check.specs.Calls as calls
use Rattle.cp_check.specs.Expressions.{expression, sum_value, more_terms, term_value, more_factors, factor, designator, selectors, arguments}
use Rattle.cp_check.specs.Expressions as expressions
use Rattle.cp_meaning.specs.Names.{Name}
use Rattle.cp_meaning.specs.Scopes as scopes
use Rattle.cp_meaning.specs.Scopes.{find}
use Rattle.cp_meaning.specs.State.{Item}
use Rattle.cp_meaning.specs.Lifting.{last_field, is_call_meant, own_call, expression_calls, sum_calls, terms_calls, term_calls, factors_calls, factor_calls, expressions_calls, selectors_calls}
use Rattle.cp_resolved.specs.Compiled.{Designated, designator_form}
use Rattle.cp_resolved.specs.Layouts.{Here}
use Rattle.cp_resolved.specs.Typed.{Tokens, ConstantIs, StandardIs, ScopesAgree, IsSmallExpression, IsSmallSum, AreSmallTerms, IsSmallTerm, AreSmallFactors, IsSmallFactor, AreSmallExpressions, AreSmallSelectors}
use Rattle.cp_resolved.proofs.agreeing.Agreeing.{none_left, none_right}
use Rattle.cp_resolved.proofs.agreeing.WithoutFaults.{Then, then_of, both_of}
use Rattle.cp_resolved.proofs.forms.NamesAlone.{agreed_some, name_only, never, NameParts, name_parts}
use Rattle.cp_resolved.proofs.forms.TypingNames.{NamedIs}
use Rattle.cp_resolved.proofs.forms.TypingValues.{held_value}
use Rattle.cp_resolved.proofs.forms.TypingExpressions.{designator_named}
use Rattle.cp_resolved.proofs.statements.CallsJudged.{CalledOk, called_ok}

-- what is judged before, and what holds of the rest
record Before {A : Type 0} (j : Judged A) (calls : List Item) : Type 0 where
  value : A
  is : j ≡ Ok value
  none : calls ≡ []

no_items : (xs ys : List Item) → xs ≡ [] → ys ≡ [] → xs ++ ys ≡ []
no_items xs ys h k = ap (λ (zs : List Item). zs ++ ys) h ∙ k

constant_uncalled : (tokens : Tokens) (b : check_base.Base) (z : ℤ) (m : Option scopes.Meaning) (x : Option Name) → ConstantIs tokens b z m → is_call_meant m x ≡ false
constant_uncalled tokens b z (Some (scopes.constant_meaning c y)) x h = refl
constant_uncalled tokens b z _ x h = absurd h

standard_uncalled : (q : Predeclared) (m : Option scopes.Meaning) (x : Option Name) → StandardIs q m → is_call_meant m x ≡ false
standard_uncalled q (Some (scopes.standard_meaning g)) x h = refl
standard_uncalled q _ x h = absurd h

-- ---- in an annotation no call is without a fault

module _ (s : Scopes) (w : Context) (quiet : w.is_quiet ≡ true) where
  not_quiet : (at : ℕ) → calls.quiet_faults at w true ≡ [] → {A : Type 0} → A
  not_quiet at e = absurd (let bad : check_fault.Rule at C22 ∷ [] ≡ [] = ap (λ (b : Bool). if b then calls.fault at C22 else []) (sym quiet) ∙ e in cc)

  never_called : (b : Bool) (n : ℕ) (os : List Operand) (u r : Use) → CalledOk s w true b n os u r → {A : Type 0} → A
  never_called true n os u r c =
      let before = none_right (calls.fit_faults c.none.0 (heading_at n s).parameters os) _ c.none.2 in
      let one = none_right (calls.entry_faults c.none.1 true (heading_at n s).is_entry) _ before in
      let two = none_right (calls.own_faults c.none.1 w n) _ one in
      let three = none_right (calls.delay_faults c.none.1 w true (body_at n s)) _ two in
      not_quiet c.none.0 (none_left (calls.quiet_faults c.none.0 w true) _ three)
  never_called false n os u r c =
      let before = none_right (calls.fit_faults c.none.0 (heading_at n s).parameters os) _ c.none.2 in
      not_quiet c.none.0 (none_left (calls.quiet_faults c.none.0 w true) _ before)

  no_function : (at name_at : ℕ) (b : Bool) (n : ℕ) (os : List Operand) (u : Use) (p : Operand) → calls.function_value s w at name_at b n os u ≡ Ok p → {A : Type 0} → A
  unfolding calls.function_value
  no_function at name_at b n os u p is {A} = go (heading_at n s).result is
    where
      go : (v : Option ValueType) → calls.function_of s w at name_at b n os u v ≡ Ok p → A
      go None i = absurd (cc)
      go (Some v) i =
          let t : Then (calls.check_routine_call s w at name_at b n os u) (calls.with_result at v) p = then_of (calls.check_routine_call s w at name_at b n os u) (calls.with_result at v) p i in
          never_called b n os u t.value (called_ok s w true at name_at b n os u t.value t.is)

  module _ (tokens : Tokens) (h : Here) (agrees : ScopesAgree tokens s h) where
    name_uncalled : (at : ℕ) (i : Identifier) (ss : Selectors) (d : check_designated.DesignatedName) (n : Named) (os : List Operand) (o : Option Designated) (p : Operand) → NamedIs tokens s h i.name (find i.name h.scope) (last_field ss) n o → calls.value_by_name s w at d os n ≡ Ok p →
        is_call_meant (find i.name h.scope) (last_field ss) ≡ false
    name_uncalled at i ss d (Constant b) os o p k is = constant_uncalled tokens b k.0 (find i.name h.scope) (last_field ss) k.1
    name_uncalled at i ss d (Variable v) os o p k is = (held_value tokens s h w (find i.name h.scope) (last_field ss) v o k).call
    name_uncalled at i ss d (Parameter v) os o p k is = (held_value tokens s h w (find i.name h.scope) (last_field ss) v o k).call
    name_uncalled at i ss d (Predeclared' q) os o p k is = standard_uncalled q (find i.name h.scope) (last_field ss) k
    name_uncalled at i ss d (Routine n) os o p k is = no_function at d.name_at true n os d.uses p is
    name_uncalled at i ss d (Entry n) os o p k is = no_function at d.name_at false n os d.uses p is
    name_uncalled at i ss d x os o p k is = absurd (cc)

    not_own : (b : Bool) (at : ℕ) (d : Designator) (es : Expressions) → b ≡ false → own_call b at d es ≡ []
    not_own b at d es e = ap (λ (x : Bool). own_call x at d es) e

    option_ok : (a b : Option Operand) → (let j : Judged (Option Operand) = Ok a in j) ≡ Ok b → a ≡ b
    option_ok a b e = cc

    mutual
      unfolding expression

      pub expression_silent : (e : Expression) → IsSmallExpression e → (p : Operand) → expression s w false e ≡ Ok p → expression_calls h.scope e ≡ []
      expression_silent (alone at a) m p is = sum_silent a m p is
      expression_silent (related at a r b) m p is =
          let t : Then (both (sum_value s w false a) (sum_value s w false b)) (operations.relation_value at r) p = then_of (both (sum_value s w false a) (sum_value s w false b)) (operations.relation_value at r) p is in
          let q = both_of (sum_value s w false a) (sum_value s w false b) t.value t.is in
          no_items (sum_calls h.scope a) (sum_calls h.scope b) (sum_silent a m.0 t.value.0 q.first) (sum_silent b m.1 t.value.1 q.second)

      sum_silent : (a : Sum) → IsSmallSum a → (p : Operand) → sum_value s w false a ≡ Ok p → sum_calls h.scope a ≡ []
      sum_silent (sum at o t ts) m p is =
          let all : more_terms s w at (term_value s w false t >>= expressions.first_term at o) ts ≡ Ok (Some p) = agreed_some at (more_terms s w at (term_value s w false t >>= expressions.first_term at o) ts) p is in
          let rest = terms_silent at ts m.1 (term_value s w false t >>= expressions.first_term at o) (Some p) all in
          let one : Then (term_value s w false t) (expressions.first_term at o) rest.value = then_of (term_value s w false t) (expressions.first_term at o) rest.value rest.is in
          no_items (term_calls h.scope t) (terms_calls h.scope ts) (term_silent t m.0 one.value one.is) rest.none

      terms_silent : (at : ℕ) (ts : Terms) → AreSmallTerms ts → (j : Judged (Option Operand)) (r : Option Operand) → more_terms s w at j ts ≡ Ok r → Before j (terms_calls h.scope ts)
      terms_silent at no_terms m j r is = record { value = r; is = is; none = refl }
      terms_silent at (terms_more a t ts) m j r is =
          let rest = terms_silent at ts m.1 (both j (term_value s w false t) >>= expressions.sum_so_far at a) r is in
          let k : Then (both j (term_value s w false t)) (expressions.sum_so_far at a) rest.value = then_of (both j (term_value s w false t)) (expressions.sum_so_far at a) rest.value rest.is in
          let q = both_of j (term_value s w false t) k.value k.is in
          record { value = k.value.0; is = q.first; none = no_items (term_calls h.scope t) (terms_calls h.scope ts) (term_silent t m.0 k.value.1 q.second) rest.none }

      term_silent : (t : Term) → IsSmallTerm t → (p : Operand) → term_value s w false t ≡ Ok p → term_calls h.scope t ≡ []
      term_silent (term at g fs) m p is =
          let all : more_factors s w at (factor s w false g >>= expressions.some_operand) fs ≡ Ok (Some p) = agreed_some at (more_factors s w at (factor s w false g >>= expressions.some_operand) fs) p is in
          let rest = factors_silent at fs m.1 (factor s w false g >>= expressions.some_operand) (Some p) all in
          let one : Then (factor s w false g) expressions.some_operand rest.value = then_of (factor s w false g) expressions.some_operand rest.value rest.is in
          no_items (factor_calls h.scope g) (factors_calls h.scope fs) (factor_silent g m.0 one.value one.is) rest.none

      factors_silent : (at : ℕ) (fs : Factors) → AreSmallFactors fs → (j : Judged (Option Operand)) (r : Option Operand) → more_factors s w at j fs ≡ Ok r → Before j (factors_calls h.scope fs)
      factors_silent at no_factors m j r is = record { value = r; is = is; none = refl }
      factors_silent at (factors_more o g fs) m j r is =
          let rest = factors_silent at fs m.1 (both j (factor s w false g) >>= expressions.product_so_far at o) r is in
          let k : Then (both j (factor s w false g)) (expressions.product_so_far at o) rest.value = then_of (both j (factor s w false g)) (expressions.product_so_far at o) rest.value rest.is in
          let q = both_of j (factor s w false g) k.value k.is in
          record { value = k.value.0; is = q.first; none = no_items (factor_calls h.scope g) (factors_calls h.scope fs) (factor_silent g m.0 k.value.1 q.second) rest.none }

      factor_silent : (g : Factor) → IsSmallFactor g → (p : Operand) → factor s w false g ≡ Ok p → factor_calls h.scope g ≡ []
      factor_silent (factor_named at (name_with i ss) es) m p is =
          let d : Designator = name_with i ss in
          let call : Bool = is_call_meant (find i.name h.scope) (last_field ss) in
          let k : NameParts s w d es at p = name_parts s w false d es at p (name_only false es p (never p)) is in
          let t : Then (selectors s w (names.meaning_of_name s i) ss) (names.check_selectors i.at) k.value = then_of (selectors s w (names.meaning_of_name s i) ss) (names.check_selectors i.at) k.value k.is in
          let x = selectors_silent ss m.0 (names.meaning_of_name s i) t.value t.is in
          let y = arguments_silent 0 es m.1 k.operands k.arguments in
          let typed = designator_named tokens s h w agrees i ss k.value m.0 k.is in
          let z = name_uncalled at i ss k.value k.value.named k.operands (designator_form h d) p typed k.rest in
          no_items (selectors_calls h.scope ss ++ expressions_calls h.scope es) (own_call call at d es) (no_items (selectors_calls h.scope ss) (expressions_calls h.scope es) x.none y) (not_own call at d es z)
      factor_silent (group at e) m p is =
          let t : Then (expression s w false e) (expressions.to_group at) p = then_of (expression s w false e) (expressions.to_group at) p is in
          expression_silent e m t.value t.is
      factor_silent (negated at g) m p is =
          let t : Then (factor s w false g) (operations.negation_of at) p = then_of (factor s w false g) (operations.negation_of at) p is in
          factor_silent g m t.value t.is
      factor_silent (set_of at es) m p is =
          let t : Then (arguments s w [] 0 es) (expressions.set_value at) p = then_of (arguments s w [] 0 es) (expressions.set_value at) p is in
          arguments_silent 0 es m t.value t.is
      factor_silent (number at n) m p is = refl
      factor_silent (character at c) m p is = refl

      arguments_silent : (k : ℕ) (es : Expressions) → AreSmallExpressions es → (os : List Operand) → arguments s w [] k es ≡ Ok os → expressions_calls h.scope es ≡ []
      arguments_silent k no_expressions m os is = refl
      arguments_silent k (more_expressions e es) m os is =
          let t : Then (both (expression s w false e) (arguments s w [] (k + 1) es)) expressions.before os = then_of (both (expression s w false e) (arguments s w [] (k + 1) es)) expressions.before os is in
          let q = both_of (expression s w false e) (arguments s w [] (k + 1) es) t.value t.is in
          no_items (expression_calls h.scope e) (expressions_calls h.scope es) (expression_silent e m.0 t.value.0 q.first) (arguments_silent (k + 1) es m.1 t.value.1 q.second)

      selectors_silent : (ss : Selectors) → AreSmallSelectors ss → (j : Judged check_designated.DesignatedName) (d : check_designated.DesignatedName) → selectors s w j ss ≡ Ok d → Before j (selectors_calls h.scope ss)
      selectors_silent no_selectors m j d is = record { value = d; is = is; none = refl }
      selectors_silent (more_selectors (field i) ss) m j d is =
          let r = selectors_silent ss m.1 (j >>= names.member_of s i) d is in
          let t : Then j (names.member_of s i) r.value = then_of j (names.member_of s i) r.value r.is in
          record { value = t.value; is = t.is; none = r.none }
      selectors_silent (more_selectors (index e) ss) m j d is =
          let r = selectors_silent ss m.1 (both j (expression s w false e) >>= expressions.at_index s) d is in
          let t : Then (both j (expression s w false e)) (expressions.at_index s) r.value = then_of (both j (expression s w false e)) (expressions.at_index s) r.value r.is in
          let q = both_of j (expression s w false e) t.value t.is in
          record { value = t.value.0; is = q.first; none = no_items (expression_calls h.scope e) (selectors_calls h.scope ss) (expression_silent e m.0 t.value.1 q.second) r.none }
