-- Statements that break no rule call no routine that is their own.
use Rattle.std.proofs.Common.{◌≡◌, ℕ, ◌+◌, Bool, true, false, if◌then◌else◌, List, [], ◌∷◌, Option, Some, None, Ok, Err, is_some, refl, ap, subst, ◌∙◌}
use Rattle.cp_resolved.proofs.Words.{nat_eq, ◌&&◌, not, eq-eqb, Identifier, Use, CheckFault, ValueType, no_use, Judged, both, ◌>>=◌, faults, Context, Operand, Label}
use Rattle.cp_resolved.proofs.Words.{no_left, no_right, no_first, Name, C5, C10, Loud, Heard, arguments_loud}
use Rattle.cp_tree.specs.Syntax.{nameless, Expression, alone, related, Sum, sum, Terms, no_terms, more_terms, Term, term, Factors, no_factors, more_factors, Factor, named, group, negated, set_of, Expressions, no_expressions, more_expressions, Designator, designator, Selectors, no_selectors, more_selectors, Selector, field, index, Start, Statement, empty, assign, invoke, block, if_then, if_else, case_of, while_do, repeat_until, for_do, cycle, init, asserted, Statements, no_statements, more_statements, Arms, no_arms, more_arms, Arm, arm}
use Rattle.cp_scope.specs.declared.fault.CheckFault.TheVariants as check_fault
use Rattle.cp_scope.specs.declared.types.Meaning.TheVariants as meaning
use Rattle.cp_scope.specs.declared.types.Parameter.{Parameter}
use Rattle.cp_scope.specs.declared.types.ValueType.TheVariants as types
use Rattle.cp_scope.specs.Scopes.{Scopes, look, heading_at}
use Rattle.cp_check.specs.declared.operand.DesignatedName.{DesignatedName}
use Rattle.cp_check.specs.declared.operand.Named.TheVariants as names_for
use Rattle.cp_check.specs.declared.operand.OperandUse.TheVariants.{Function}
use Rattle.cp_check.specs.Calls as calls
use Rattle.cp_check.specs.Expressions as expressions
use Rattle.cp_check.specs.Names as names
use Rattle.cp_check.specs.Operands.{quiet}
use Rattle.cp_check.specs.Statements as statements
use Rattle.cp_check.specs.Cases.{join_arms}
use Rattle.cp_resolved.proofs.agreeing.Agreeing.{none_of_both as both_none}
use Rattle.cp_resolved.proofs.declarations.Nameless.{IsSaid, SaysSome}

-- ---- statements that call none of some names

abbrev pub AvoidsName : (Name → Type 0) → Identifier → Selectors → Type 0
AvoidsName P i no_selectors = P i.name → ⊥
AvoidsName P i (more_selectors s ss) = Unit {0}

module _ (P : Name → Type 0) where
  abbrev mutual
    pub AvoidsExpression : Expression → Type 0
    AvoidsExpression (alone at a) = AvoidsSum a
    AvoidsExpression (related at a r b) = AvoidsSum a × AvoidsSum b

    pub AvoidsSum : Sum → Type 0
    AvoidsSum (sum at o t ts) = AvoidsTerm t × AvoidTerms ts

    pub AvoidTerms : Terms → Type 0
    AvoidTerms no_terms = Unit {0}
    AvoidTerms (more_terms a t ts) = AvoidsTerm t × AvoidTerms ts

    pub AvoidsTerm : Term → Type 0
    AvoidsTerm (term at f fs) = AvoidsFactor f × AvoidFactors fs

    pub AvoidFactors : Factors → Type 0
    AvoidFactors no_factors = Unit {0}
    AvoidFactors (more_factors m f fs) = AvoidsFactor f × AvoidFactors fs

    pub AvoidsFactor : Factor → Type 0
    AvoidsFactor (named at d es) = AvoidsCall d × AvoidExpressions es
    AvoidsFactor (group at e) = AvoidsExpression e
    AvoidsFactor (negated at f) = AvoidsFactor f
    AvoidsFactor (set_of at es) = AvoidExpressions es
    AvoidsFactor _ = Unit {0}

    pub AvoidExpressions : Expressions → Type 0
    AvoidExpressions no_expressions = Unit {0}
    AvoidExpressions (more_expressions e es) = AvoidsExpression e × AvoidExpressions es

    -- what is called, and what is not
    pub AvoidsCall : Designator → Type 0
    AvoidsCall (designator i ss) = AvoidsName P i ss × AvoidSelectors ss

    pub AvoidsDesignator : Designator → Type 0
    AvoidsDesignator (designator i ss) = AvoidSelectors ss

    pub AvoidSelectors : Selectors → Type 0
    AvoidSelectors no_selectors = Unit {0}
    AvoidSelectors (more_selectors s ss) = AvoidsSelector s × AvoidSelectors ss

    pub AvoidsSelector : Selector → Type 0
    AvoidsSelector (field i) = Unit {0}
    AvoidsSelector (index e) = AvoidsExpression e

  abbrev pub AvoidStarts : List Start → Type 0
  AvoidStarts [] = Unit {0}
  AvoidStarts (t ∷ ts) = AvoidsDesignator t.target × AvoidExpressions t.arguments × AvoidStarts ts

  abbrev mutual
    pub AvoidsStatement : Statement → Type 0
    AvoidsStatement (empty at) = Unit {0}
    AvoidsStatement (assign at d e) = AvoidsDesignator d × AvoidsExpression e
    -- a check may come before it
    AvoidsStatement (invoke at d es) = AvoidsCall d × AvoidExpressions es × (P nameless → ⊥)
    AvoidsStatement (block at ss) = AvoidStatements ss
    AvoidsStatement (if_then at e s) = AvoidsExpression e × AvoidsStatement s
    AvoidsStatement (if_else at e s t) = AvoidsExpression e × AvoidsStatement s × AvoidsStatement t
    AvoidsStatement (case_of at e bs b) = AvoidsExpression e × AvoidArms bs
    AvoidsStatement (while_do at e s) = AvoidsExpression e × AvoidsStatement s
    AvoidsStatement (repeat_until at ss e) = AvoidStatements ss × AvoidsExpression e
    AvoidsStatement (for_do at i e d f s) = AvoidsExpression e × AvoidsExpression f × AvoidsStatement s
    AvoidsStatement (cycle at ss) = AvoidStatements ss
    AvoidsStatement (init at ts) = AvoidStarts ts
    AvoidsStatement (asserted at k e s) = AvoidsExpression e × AvoidsStatement s

    pub AvoidStatements : Statements → Type 0
    AvoidStatements no_statements = Unit {0}
    AvoidStatements (more_statements s ss) = AvoidsStatement s × AvoidStatements ss

    pub AvoidArms : Arms → Type 0
    AvoidArms no_arms = Unit {0}
    AvoidArms (more_arms b bs) = AvoidsArm b × AvoidArms bs

    pub AvoidsArm : Arm → Type 0
    AvoidsArm (arm cs s) = AvoidsStatement s

-- ---- judgements without faults

loud_ok : {A : Type 0} (j : Judged A) → Loud j → faults j ≡ [] → (a : A) × (j ≡ Ok a)
loud_ok (Ok a) loud h = (a, refl)
loud_ok (Err []) loud h = absurd loud
loud_ok (Err (f ∷ fs)) loud h = absurd (let bad : f ∷ fs ≡ [] = h in cc)

unless_none : {A : Type 0} (fs : List CheckFault) (x : A) → faults (calls.unless fs x) ≡ [] → fs ≡ []
unless_none [] x h = refl
unless_none (f ∷ fs) x h = absurd (let bad : f ∷ fs ≡ [] = h in cc)

own_refused : (at n : ℕ) → calls.own_faults_of at (Some n) n ≡ [] → ⊥
own_refused at n h = go (nat_eq n n) (eq-eqb n n refl) h
  where
    go : (b : Bool) → b ≡ true → (if b then calls.fault at C10 else []) ≡ [] → ⊥
    go true e k = let bad : check_fault.Rule at C10 ∷ [] ≡ [] = k in cc
    go false e k = let bad : false ≡ true = e in cc

-- ---- what is called

module _ (s : Scopes) (w : Context) (heard : Heard s) (P : Name → Type 0) (own : (x : Name) → P x → (n : ℕ) × ((w.routine ≡ Some n) × (look x s ≡ Some (Some (meaning.Routine n))))) where
  called_refused : (at name_at n : ℕ) (os : List Operand) (u : Use) → w.routine ≡ Some n → faults (calls.check_routine_call s w at name_at true n os u) ≡ [] → ⊥
  unfolding calls.check_routine_call
  called_refused at name_at n os u is h =
      let fs : calls.call_faults s w at name_at true n os ≡ [] = unless_none _ _ h in
      let after : _ ≡ [] = no_right (calls.fit_faults at (heading_at n s).parameters os) _ fs in
      let last : _ ≡ [] = no_right (calls.entry_faults name_at true (heading_at n s).is_entry) _ after in
      let mine : calls.own_faults_of name_at w.routine n ≡ [] = no_left (calls.own_faults name_at w n) _ last in
      own_refused name_at n (subst (λ (o : Option ℕ). calls.own_faults_of name_at o n ≡ []) is mine)

  function_refused : (at name_at n : ℕ) (os : List Operand) (u : Use) → w.routine ≡ Some n → faults (calls.function_value s w at name_at true n os u) ≡ [] → ⊥
  unfolding calls.function_value
  function_refused at name_at n os u is h = go (heading_at n s).result h
    where
      go : (o : Option ValueType) → faults (calls.function_of s w at name_at true n os u o) ≡ [] → ⊥
      go None k = let bad : check_fault.Rule at C5 ∷ [] ≡ [] = k in cc
      go (Some t) k = called_refused at name_at n os u is (no_first (calls.check_routine_call s w at name_at true n os u) (calls.with_result at t) k)

  procedure_refused : (at name_at n : ℕ) (os : List Operand) (u : Use) → w.routine ≡ Some n → faults (statements.check_procedure_call s w at name_at true n os u) ≡ [] → ⊥
  unfolding statements.check_procedure_call
  procedure_refused at name_at n os u is h = go (heading_at n s).result h
    where
      go : (o : Option ValueType) → faults (statements.procedure_of s w at name_at true n os u o) ≡ [] → ⊥
      go (Some t) k = let bad : check_fault.Rule at C5 ∷ [] ≡ [] = k in cc
      go None k = called_refused at name_at n os u is k

  own_designated : (i : Identifier) (n : ℕ) → look i.name s ≡ Some (Some (meaning.Routine n)) → expressions.designator s w (designator i no_selectors) ≡ Ok (names.designation i.at no_use (names_for.Routine n))
  unfolding expressions.designator expressions.selectors names.meaning_of_name names.visible
  own_designated i n e = ap (λ o. names.check_visible i.at o >>= names.designation_of i.at >>= names.check_selectors i.at) e

  value_refused : (at : ℕ) (d : DesignatedName) (os : List Operand) (n : ℕ) → d.named ≡ names_for.Routine n → w.routine ≡ Some n → faults (calls.value_of s w at (d, os)) ≡ [] → ⊥
  unfolding calls.value_of
  value_refused at d os n e is h = function_refused at d.name_at n os d.uses is (subst (λ m. faults (calls.value_by_name s w at d os m) ≡ []) e h)

  variable_refused : (at : ℕ) (d : DesignatedName) (n : ℕ) → d.named ≡ names_for.Routine n → w.routine ≡ Some n → faults (calls.variable_of s w at d) ≡ [] → ⊥
  variable_refused at d n e is h = go (calls.is_other_function s w d.named) not_other h
    where
      itself : (b : Bool) → calls.is_own_of w.routine n ≡ true → (b && not (calls.is_own_of w.routine n)) ≡ false
      itself true k = ap not k
      itself false k = refl

      not_other : calls.is_other_function s w d.named ≡ false
      not_other = ap (calls.is_other_function s w) e ∙ itself (is_some (heading_at n s).result) (ap (λ (o : Option ℕ). calls.is_own_of o n) is ∙ eq-eqb n n refl)

      go : (b : Bool) → b ≡ false → faults (if b then Ok (calls.operand_at at types.Queue Function d.uses) else calls.value_of s w at (d, [])) ≡ [] → ⊥
      go true k f = let bad : true ≡ false = k in cc
      go false k f = value_refused at d [] n e is f

  -- ---- expressions

  call_avoided : (at : ℕ) (i : Identifier) (b : Bool) (es : Expressions) → faults (expressions.value_of_name s w b at (expressions.designator s w (designator i no_selectors)) (expressions.arguments s w [] 0 es)) ≡ [] → P i.name → ⊥
  call_avoided at i b es h p =
      let o = own i.name p in
      go o.0 o.1.0 (own_designated i o.0 o.1.1) b h
    where
      go : (n : ℕ) → w.routine ≡ Some n → expressions.designator s w (designator i no_selectors) ≡ Ok (names.designation i.at no_use (names_for.Routine n)) → (b : Bool) → faults (expressions.value_of_name s w b at (expressions.designator s w (designator i no_selectors)) (expressions.arguments s w [] 0 es)) ≡ [] → ⊥
      go n is e true k = variable_refused at (names.designation i.at no_use (names_for.Routine n)) n refl is (subst (λ (d : Judged DesignatedName). faults (d >>= calls.variable_of s w at) ≡ []) e k)
      go n is e false k =
          let parts = both_none (expressions.designator s w (designator i no_selectors)) (expressions.arguments s w [] 0 es) (no_first (both (expressions.designator s w (designator i no_selectors)) (expressions.arguments s w [] 0 es)) (calls.value_of s w at) k) in
          let os = loud_ok (expressions.arguments s w [] 0 es) (arguments_loud s w heard [] 0 es) parts.1 in
          let k' : faults (both (Ok (names.designation i.at no_use (names_for.Routine n))) (expressions.arguments s w [] 0 es) >>= calls.value_of s w at) ≡ [] = subst (λ (d : Judged DesignatedName). faults (both d (expressions.arguments s w [] 0 es) >>= calls.value_of s w at) ≡ []) e k in
          value_refused at (names.designation i.at no_use (names_for.Routine n)) os.0 n refl is (subst (λ (j : Judged (List Operand)). faults (both (Ok (names.designation i.at no_use (names_for.Routine n))) j >>= calls.value_of s w at) ≡ []) os.1 k')

  name_avoided : (at : ℕ) (i : Identifier) (ss : Selectors) (b : Bool) (es : Expressions) → faults (expressions.value_of_name s w b at (expressions.designator s w (designator i ss)) (expressions.arguments s w [] 0 es)) ≡ [] → AvoidsName P i ss
  name_avoided at i no_selectors b es h = call_avoided at i b es h
  name_avoided at i (more_selectors x ss) b es h = tt

  named_parts : (b : Bool) (at : ℕ) (d : Judged DesignatedName) (os : Judged (List Operand)) → faults (expressions.value_of_name s w b at d os) ≡ [] → (faults d ≡ []) × (b ≡ false → faults os ≡ [])
  named_parts true at d os h = (no_first d (calls.variable_of s w at) h, λ e. absurd (let bad : true ≡ false = e in cc))
  named_parts false at d os h = let x = both_none d os (no_first (both d os) (calls.value_of s w at) h) in (x.0, λ e. x.1)

  and_false : (v : Bool) → (v && false) ≡ false
  and_false true = refl
  and_false false = refl

  mutual
    unfolding expressions.expression expressions.sum_value expressions.more_terms expressions.term_value expressions.more_factors expressions.factor expressions.designator expressions.selectors expressions.selector expressions.arguments

    expression_avoids : (v : Bool) (e : Expression) → faults (expressions.expression s w v e) ≡ [] → AvoidsExpression P e
    expression_avoids v (alone at a) h = sum_avoids v a h
    expression_avoids v (related at a r b) h =
        let x = both_none (expressions.sum_value s w false a) (expressions.sum_value s w false b) (no_first (both (expressions.sum_value s w false a) (expressions.sum_value s w false b)) _ h) in
        (sum_avoids false a x.0, sum_avoids false b x.1)

    sum_avoids : (v : Bool) (a : Sum) → faults (expressions.sum_value s w v a) ≡ [] → AvoidsSum P a
    sum_avoids v (sum at o t ts) h =
        let x = terms_avoid at ts _ (no_first (expressions.more_terms s w at _ ts) _ h) in
        (term_avoids _ t (no_first (expressions.term_value s w _ t) _ x.0), x.1)

    terms_avoid : (at : ℕ) (ts : Terms) (j : Judged (Option Operand)) → faults (expressions.more_terms s w at j ts) ≡ [] → (faults j ≡ []) × AvoidTerms P ts
    terms_avoid at no_terms j h = (h, tt)
    terms_avoid at (more_terms a t ts) j h =
        let x = terms_avoid at ts (both j (expressions.term_value s w false t) >>= expressions.sum_so_far at a) h in
        let y = both_none j (expressions.term_value s w false t) (no_first (both j (expressions.term_value s w false t)) (expressions.sum_so_far at a) x.0) in
        (y.0, (term_avoids false t y.1, x.1))

    term_avoids : (v : Bool) (t : Term) → faults (expressions.term_value s w v t) ≡ [] → AvoidsTerm P t
    term_avoids v (term at f fs) h =
        let x = factors_avoid at fs _ (no_first (expressions.more_factors s w at _ fs) _ h) in
        (factor_avoids _ f (no_first (expressions.factor s w _ f) _ x.0), x.1)

    factors_avoid : (at : ℕ) (fs : Factors) (j : Judged (Option Operand)) → faults (expressions.more_factors s w at j fs) ≡ [] → (faults j ≡ []) × AvoidFactors P fs
    factors_avoid at no_factors j h = (h, tt)
    factors_avoid at (more_factors m f fs) j h =
        let x = factors_avoid at fs (both j (expressions.factor s w false f) >>= expressions.product_so_far at m) h in
        let y = both_none j (expressions.factor s w false f) (no_first (both j (expressions.factor s w false f)) (expressions.product_so_far at m) x.0) in
        (y.0, (factor_avoids false f y.1, x.1))

    factor_avoids : (v : Bool) (f : Factor) → faults (expressions.factor s w v f) ≡ [] → AvoidsFactor P f
    factor_avoids v (named at (designator i ss) no_expressions) h =
        let x = named_parts (v && true) at (expressions.designator s w (designator i ss)) (Ok []) h in
        ((name_avoided at i ss (v && true) no_expressions h, (selectors_avoid ss (names.meaning_of_name s i) (no_first (expressions.selectors s w (names.meaning_of_name s i) ss) (names.check_selectors i.at) x.0)).1), tt)
    factor_avoids v (named at (designator i ss) (more_expressions e es)) h =
        let os : Judged (List Operand) = expressions.arguments s w [] 0 (more_expressions e es) in
        let x = named_parts (v && false) at (expressions.designator s w (designator i ss)) os h in
        ((name_avoided at i ss (v && false) (more_expressions e es) h, (selectors_avoid ss (names.meaning_of_name s i) (no_first (expressions.selectors s w (names.meaning_of_name s i) ss) (names.check_selectors i.at) x.0)).1), arguments_avoid [] 0 (more_expressions e es) (x.1 (and_false v)))
    factor_avoids v (group at e) h = expression_avoids false e (no_first (expressions.expression s w false e) _ h)
    factor_avoids v (negated at f) h = factor_avoids false f (no_first (expressions.factor s w false f) _ h)
    factor_avoids v (set_of at es) h = arguments_avoid [] 0 es (no_first (expressions.arguments s w [] 0 es) _ h)
    factor_avoids v _ h = tt

    selectors_avoid : (ss : Selectors) (j : Judged DesignatedName) → faults (expressions.selectors s w j ss) ≡ [] → (faults j ≡ []) × AvoidSelectors P ss
    selectors_avoid no_selectors j h = (h, tt)
    selectors_avoid (more_selectors x ss) j h =
        let y = selectors_avoid ss (expressions.selector s w j x) h in
        let z = selector_avoids x j y.0 in
        (z.0, (z.1, y.1))

    selector_avoids : (x : Selector) (j : Judged DesignatedName) → faults (expressions.selector s w j x) ≡ [] → (faults j ≡ []) × AvoidsSelector P x
    selector_avoids (field i) j h = (no_first j (names.member_of s i) h, tt)
    selector_avoids (index e) j h =
        let x = both_none j (expressions.expression s w false e) (no_first (both j (expressions.expression s w false e)) (expressions.at_index s) h) in
        (x.0, expression_avoids false e x.1)

    arguments_avoid : (ps : List Parameter) (k : ℕ) (es : Expressions) → faults (expressions.arguments s w ps k es) ≡ [] → AvoidExpressions P es
    arguments_avoid ps k no_expressions h = tt
    arguments_avoid ps k (more_expressions e es) h =
        let x = both_none (expressions.expression s w (expressions.is_var_at ps k) e) (expressions.arguments s w ps (k + 1) es) (no_first (both (expressions.expression s w (expressions.is_var_at ps k) e) (expressions.arguments s w ps (k + 1) es)) expressions.before h) in
        (expression_avoids (expressions.is_var_at ps k) e x.0, arguments_avoid ps (k + 1) es x.1)

  selected_avoids : (i : Identifier) (ss : Selectors) → faults (expressions.designator s w (designator i ss)) ≡ [] → AvoidSelectors P ss
  unfolding expressions.designator
  selected_avoids i ss h = (selectors_avoid ss (names.meaning_of_name s i) (no_first (expressions.selectors s w (names.meaning_of_name s i) ss) (names.check_selectors i.at) h)).1

  designator_avoids : (d : Designator) → faults (expressions.designator s w d) ≡ [] → AvoidsDesignator P d
  designator_avoids (designator i ss) h = selected_avoids i ss h

-- ---- statements

module _ (s : Scopes) (w : Context) (heard : Heard s) (P : Name → Type 0) (own : (x : Name) → P x → (n : ℕ) × ((w.routine ≡ Some n) × (look x s ≡ Some (Some (meaning.Routine n))))) where
  -- in an annotation, which is of the same routine
  assertion_avoids : (e : Expression) → faults (statements.assertion s w e) ≡ [] → AvoidsExpression P e
  unfolding statements.assertion
  assertion_avoids e h = expression_avoids s (quiet w) heard P own false e (no_first (expressions.expression s (quiet w) false e) _ h)

  -- what the invariants of a block say
  said_avoids : (t : Statement) → IsSaid t → faults (statements.statement s w t) ≡ [] → AvoidsStatement P t
  unfolding statements.statement
  said_avoids (empty at) i h = tt
  said_avoids (asserted at k e t) i h =
      let x = both_none (statements.assertion s w e) (statements.statement s w t) (no_first (both (statements.assertion s w e) (statements.statement s w t)) statements.together h) in
      (assertion_avoids e x.0, said_avoids t i x.1)
  said_avoids _ i h = absurd i

  pub says_avoid : (ss : Statements) (j : Judged Use) → SaysSome ss → faults (statements.statements s w j ss) ≡ [] → AvoidStatements P ss
  unfolding statements.statements
  says_avoid (more_statements (asserted at k e t) no_statements) j i h =
      let x = both_none j (statements.statement s w (asserted at k e t)) (no_first (both j (statements.statement s w (asserted at k e t))) statements.together h) in
      (said_avoids (asserted at k e t) i x.1, tt)
  says_avoid _ j i h = absurd i

module _ (s : Scopes) (w : Context) (heard : Heard s) (P : Name → Type 0) (own : (x : Name) → P x → (n : ℕ) × ((w.routine ≡ Some n) × (look x s ≡ Some (Some (meaning.Routine n))))) (none : P nameless → ⊥) where
  assign_avoids : (at : ℕ) (d : Designator) (e : Expression) → faults (statements.assignment s w at d e) ≡ [] → AvoidsDesignator P d × AvoidsExpression P e
  unfolding statements.assignment
  assign_avoids at d e h =
      let aim : Judged _ = expressions.designator s w d >>= statements.with_target s w (statements.name_at d) in
      let x = both_none aim (expressions.expression s w false e) (no_first (both aim (expressions.expression s w false e)) (statements.finish_assignment at) h) in
      (designator_avoids s w heard P own d (no_first (expressions.designator s w d) (statements.with_target s w (statements.name_at d)) x.0), expression_avoids s w heard P own false e x.1)

  procedure_avoided : (at : ℕ) (i : Identifier) (es : Expressions) → faults (statements.call s w at (designator i no_selectors) es) ≡ [] → P i.name → ⊥
  unfolding statements.call statements.check_call
  procedure_avoided at i es h p =
      let o = own i.name p in
      let d : Judged DesignatedName = expressions.designator s w (designator i no_selectors) in
      let ps : List Parameter = statements.parameters_of_judged s (statements.number_of es) d in
      let os : Judged (List Operand) = expressions.arguments s w ps 0 es in
      let parts = both_none d os (no_first (both d os) (statements.check_call s w at) h) in
      let x = loud_ok os (arguments_loud s w heard ps 0 es) parts.1 in
      let h' : faults (both d (Ok x.0) >>= statements.check_call s w at) ≡ [] = subst (λ (j : Judged (List Operand)). faults (both d j >>= statements.check_call s w at) ≡ []) x.1 h in
      let h'' : faults (both (Ok (names.designation i.at no_use (names_for.Routine o.0))) (Ok x.0) >>= statements.check_call s w at) ≡ [] = subst (λ (j : Judged DesignatedName). faults (both j (Ok x.0) >>= statements.check_call s w at) ≡ []) (own_designated s w heard P own i o.0 o.1.1) h' in
      procedure_refused s w heard P own at i.at o.0 x.0 no_use o.1.0 h''

  invoked_name : (at : ℕ) (i : Identifier) (ss : Selectors) (es : Expressions) → faults (statements.call s w at (designator i ss) es) ≡ [] → AvoidsName P i ss
  invoked_name at i no_selectors es h = procedure_avoided at i es h
  invoked_name at i (more_selectors x ss) es h = tt

  invoke_avoids : (at : ℕ) (d : Designator) (es : Expressions) → faults (statements.call s w at d es) ≡ [] → AvoidsCall P d × AvoidExpressions P es
  unfolding statements.call
  invoke_avoids at (designator i ss) es h =
      let d : Judged DesignatedName = expressions.designator s w (designator i ss) in
      let ps : List Parameter = statements.parameters_of_judged s (statements.number_of es) d in
      let os : Judged (List Operand) = expressions.arguments s w ps 0 es in
      let x = both_none d os (no_first (both d os) (statements.check_call s w at) h) in
      ((invoked_name at i ss es h, selected_avoids s w heard P own i ss x.0), arguments_avoid s w heard P own ps 0 es x.1)

  starts_avoid : (ts : List Start) (j : Judged Use) → faults (statements.starts s w j ts) ≡ [] → AvoidStarts P ts
  unfolding statements.starts statements.start
  starts_avoid [] j h = tt
  starts_avoid (t ∷ ts) j h =
      let x = start_none ts (both j (statements.start s w t) >>= statements.together) h in
      let y = both_none j (statements.start s w t) (no_first (both j (statements.start s w t)) statements.together x) in
      let d : Judged DesignatedName = expressions.designator s w t.target in
      let os : Judged (List Operand) = expressions.arguments s w [] 0 t.arguments in
      let z = both_none d os (no_first (both d os) (statements.check_start s (statements.name_at t.target)) y.1) in
      (designator_avoids s w heard P own t.target z.0, arguments_avoid s w heard P own [] 0 t.arguments z.1, starts_avoid ts (both j (statements.start s w t) >>= statements.together) h)
    where
      start_none : (us : List Start) (k : Judged Use) → faults (statements.starts s w k us) ≡ [] → faults k ≡ []
      start_none [] k f = f
      start_none (u ∷ us) k f = (both_none k (statements.start s w u) (no_first (both k (statements.start s w u)) statements.together (start_none us (both k (statements.start s w u) >>= statements.together) f))).0

  mutual
    unfolding statements.statement statements.statements statements.arms statements.labelled

    statement_avoids : (t : Statement) → faults (statements.statement s w t) ≡ [] → AvoidsStatement P t
    statement_avoids (empty at) h = tt
    statement_avoids (assign at d e) h = assign_avoids at d e h
    statement_avoids (invoke at d es) h = (let x = invoke_avoids at d es h in (x.0, x.1, none))
    statement_avoids (block at ss) h = (statements_avoid ss (Ok no_use) h).1
    statement_avoids (cycle at ss) h = (statements_avoid ss (Ok no_use) h).1
    statement_avoids (if_then at e t) h =
        let x = both_none (expressions.expression s w false e) (statements.statement s w t) (no_first (both (expressions.expression s w false e) (statements.statement s w t)) (statements.test_then at) h) in
        (expression_avoids s w heard P own false e x.0, statement_avoids t x.1)
    statement_avoids (if_else at e t u) h =
        let b : Judged Use = both (statements.statement s w t) (statements.statement s w u) >>= statements.together in
        let x = both_none (expressions.expression s w false e) b (no_first (both (expressions.expression s w false e) b) (statements.test_then at) h) in
        let y = both_none (statements.statement s w t) (statements.statement s w u) (no_first (both (statements.statement s w t) (statements.statement s w u)) statements.together x.1) in
        (expression_avoids s w heard P own false e x.0, statement_avoids t y.0, statement_avoids u y.1)
    statement_avoids (while_do at e t) h =
        let x = both_none (expressions.expression s w false e) (statements.statement s w t) (no_first (both (expressions.expression s w false e) (statements.statement s w t)) (statements.test_then at) h) in
        (expression_avoids s w heard P own false e x.0, statement_avoids t x.1)
    statement_avoids (repeat_until at ss e) h =
        let x = both_none (statements.statements s w (Ok no_use) ss) (expressions.expression s w false e) (no_first (both (statements.statements s w (Ok no_use) ss) (expressions.expression s w false e)) (statements.test_last at) h) in
        ((statements_avoid ss (Ok no_use) x.0).1, expression_avoids s w heard P own false e x.1)
    statement_avoids (for_do at i a d b t) h =
        let first : Judged _ = both (names.meaning_of_name s i) (expressions.expression s w false a) in
        let second : Judged _ = both first (expressions.expression s w false b) in
        let x = both_none second (statements.statement s w t) (no_first (both second (statements.statement s w t)) (statements.count_over s w at i.at) h) in
        let y = both_none first (expressions.expression s w false b) x.0 in
        let z = both_none (names.meaning_of_name s i) (expressions.expression s w false a) y.0 in
        (expression_avoids s w heard P own false a z.1, expression_avoids s w heard P own false b y.1, statement_avoids t x.1)
    statement_avoids (asserted at k e t) h =
        let x = both_none (statements.assertion s w e) (statements.statement s w t) (no_first (both (statements.assertion s w e) (statements.statement s w t)) statements.together h) in
        (assertion_avoids s w heard P own e x.0, statement_avoids t x.1)
    statement_avoids (init at ts) h = starts_avoid ts (Ok no_use) (no_first (statements.starts s w (Ok no_use) ts) (statements.initial at w) h)
    statement_avoids (case_of at e bs b) h =
        let x = both_none (expressions.expression s w false e) (statements.arms s w (Ok ([], no_use)) bs) (no_first (both (expressions.expression s w false e) (statements.arms s w (Ok ([], no_use)) bs)) _ h) in
        (expression_avoids s w heard P own false e x.0, (arms_avoid bs (Ok ([], no_use)) x.1).1)

    arms_avoid : (bs : Arms) (j : Judged (List Label × Use)) → faults (statements.arms s w j bs) ≡ [] → (faults j ≡ []) × AvoidArms P bs
    arms_avoid no_arms j h = (h, tt)
    arms_avoid (more_arms a bs) j h =
        let x = arms_avoid bs (both j (statements.labelled s w a) >>= join_arms) h in
        let y = both_none j (statements.labelled s w a) (no_first (both j (statements.labelled s w a)) join_arms x.0) in
        (y.0, (arm_avoids a y.1, x.1))

    arm_avoids : (a : Arm) → faults (statements.labelled s w a) ≡ [] → AvoidsArm P a
    arm_avoids (arm cs t) h = statement_avoids t (both_none _ (statements.statement s w t) h).1

    pub statements_avoid : (ss : Statements) (j : Judged Use) → faults (statements.statements s w j ss) ≡ [] → (faults j ≡ []) × AvoidStatements P ss
    statements_avoid no_statements j h = (h, tt)
    statements_avoid (more_statements t ts) j h =
        let x = statements_avoid ts (both j (statements.statement s w t) >>= statements.together) h in
        let y = both_none j (statements.statement s w t) (no_first (both j (statements.statement s w t)) statements.together x.0) in
        (y.0, (statement_avoids t y.1, x.1))
