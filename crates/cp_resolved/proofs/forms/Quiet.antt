-- What stands for something in an annotation stands for the same elsewhere: there it may also call routines.
use Rattle.std.proofs.Common.{◌≡◌, ◌∙◌, ℕ, ◌+◌, Bool, true, false, not, if◌then◌else◌, List, [], ◌∷◌, ◌++◌, Option, Some, None, Ok, Err, refl, ap}
use Rattle.cp_resolved.proofs.Words.{ValueType, Use, CheckFault, Judged, both, ◌>>=◌, Context, Operand, no_left, no_right}
use Rattle.cp_tree.specs.Syntax.{Expression, alone, related, Sum, sum, Terms, no_terms, more_terms as terms_more, Term, term, Factors, no_factors, more_factors as factors_more, Factor, named, group, negated, set_of, Expressions, no_expressions, more_expressions, Designator, designator as name_with, Selectors, no_selectors, more_selectors, Selector, field, index}
use Rattle.cp_scope.specs.declared.fault.Rule.TheVariants.{C22}
use Rattle.cp_scope.specs.declared.types.Parameter.{Parameter}
use Rattle.cp_scope.specs.Scopes.{Scopes, heading_at, body_at}
use Rattle.cp_check.specs.declared.operand.DesignatedName.{DesignatedName}
use Rattle.cp_check.specs.declared.operand.Named.{Named}
use Rattle.cp_check.specs.declared.operand.Named.TheVariants as name
use Rattle.cp_check.specs.Operands.{quiet}
use Rattle.cp_check.specs.Names as names
use Rattle.cp_check.specs.Operations as operations
use Rattle.cp_check.specs.Calls as calls
use Rattle.cp_check.specs.Expressions as expressions

-- what the first stands for, the second does
abbrev pub Follows : {A : Type 0} → Judged A → Judged A → Type 0
Follows {A} j k = (a : A) → j ≡ Ok a → k ≡ Ok a

same : {A : Type 0} (j : Judged A) → Follows j j
same j a e = e

never : {A : Type 0} (fs : List CheckFault) (a : A) → Err fs ≡ Ok a → ⊥
never fs a e = cc

both_follow : {A B : Type 0} (j k : Judged A) (l m : Judged B) → Follows j k → Follows l m → Follows (both j l) (both k m)
both_follow (Ok a) k (Ok b) m h g c e = ap (λ x. both x m) (h a refl) ∙ ap (λ y. both (Ok a) y) (g b refl) ∙ e
both_follow (Ok a) k (Err fs) m h g c e = absurd (never fs c e)
both_follow (Err fs) k (Ok b) m h g c e = absurd (never fs c e)
both_follow (Err fs) k (Err gs) m h g c e = absurd (never (fs ++ gs) c e)

then_follows : {A B : Type 0} (j k : Judged A) (f g : A → Judged B) → Follows j k → ((a : A) → Follows (f a) (g a)) → Follows (j >>= f) (k >>= g)
then_follows (Ok a) k f g h i c e = ap (λ x. x >>= g) (h a refl) ∙ i a c e
then_follows (Err fs) k f g h i c e = absurd (never fs c e)

alike_follows : {A B : Type 0} (j k : Judged A) (f : A → Judged B) → Follows j k → Follows (j >>= f) (k >>= f)
alike_follows j k f h = then_follows j k f f h (λ a. same (f a))

either_follows : {A : Type 0} (b c : Bool) (x j k : Judged A) → b ≡ c → Follows j k → Follows (if b then x else j) (if c then x else k)
either_follows true true x j k same h = λ a e. e
either_follows true false x j k same h = absurd (let bad : true ≡ false = same in cc)
either_follows false true x j k same h = absurd (let bad : false ≡ true = same in cc)
either_follows false false x j k same h = h

unless_follows : {A : Type 0} (fs gs : List CheckFault) (x : A) → (fs ≡ [] → gs ≡ []) → Follows (calls.unless fs x) (calls.unless gs x)
unless_follows [] gs x h a e = ap (λ hs. calls.unless hs x) (h refl) ∙ e
unless_follows (f ∷ fs) gs x h a e = absurd (never (f ∷ fs) a e)

none_of_both : (fs gs : List CheckFault) → fs ≡ [] → gs ≡ [] → fs ++ gs ≡ []
none_of_both fs gs h g = ap (λ hs. hs ++ gs) h ∙ g

module _ (s : Scopes) (w : Context) where
  quiet_none : (at : ℕ) (b : Bool) → calls.quiet_faults at (quiet w) b ≡ [] → calls.quiet_faults at w b ≡ []
  quiet_none at true h = let bad : calls.fault at C22 ≡ [] = h in cc
  quiet_none at false h = refl

  faults_follow : (at name_at : ℕ) (b : Bool) (n : ℕ) (os : List Operand) → calls.call_faults s (quiet w) at name_at b n os ≡ [] → calls.call_faults s w at name_at b n os ≡ []
  faults_follow at name_at b n os h =
      let fit : List CheckFault = calls.fit_faults at (heading_at n s).parameters os in
      let entry : List CheckFault = calls.entry_faults name_at b (heading_at n s).is_entry in
      let own : List CheckFault = calls.own_faults name_at w n in
      let delay : List CheckFault = calls.delay_faults name_at w b (body_at n s) in
      let last : List CheckFault = calls.assignable_faults (heading_at n s).parameters os in
      let p = no_right fit _ h in
      let q = no_right (calls.quiet_faults at (quiet w) (not b)) _ p in
      let r = no_right entry _ q in
      let t = no_right own _ r in
      let u = no_right delay _ t in
      none_of_both fit _ (no_left fit _ h)
      (none_of_both (calls.quiet_faults at w (not b)) _ (quiet_none at (not b) (no_left (calls.quiet_faults at (quiet w) (not b)) _ p))
      (none_of_both entry _ (no_left entry _ q)
      (none_of_both own _ (no_left own _ r)
      (none_of_both delay _ (no_left delay _ t)
      (none_of_both (calls.quiet_faults at w b) last (quiet_none at b (no_left (calls.quiet_faults at (quiet w) b) last u)) (no_right (calls.quiet_faults at (quiet w) b) last u))))))

  called_follows : (at name_at : ℕ) (b : Bool) (n : ℕ) (os : List Operand) (u : Use) → Follows (calls.check_routine_call s (quiet w) at name_at b n os u) (calls.check_routine_call s w at name_at b n os u)
  unfolding calls.check_routine_call
  called_follows at name_at b n os u = unless_follows (calls.call_faults s (quiet w) at name_at b n os) (calls.call_faults s w at name_at b n os) _ (faults_follow at name_at b n os)

  function_follows : (at name_at : ℕ) (b : Bool) (n : ℕ) (os : List Operand) (u : Use) (o : Option ValueType) → Follows (calls.function_of s (quiet w) at name_at b n os u o) (calls.function_of s w at name_at b n os u o)
  function_follows at name_at b n os u None = λ a e. e
  function_follows at name_at b n os u (Some t) = alike_follows _ _ (calls.with_result at t) (called_follows at name_at b n os u)

  function_value_follows : (at name_at : ℕ) (b : Bool) (n : ℕ) (os : List Operand) (u : Use) → Follows (calls.function_value s (quiet w) at name_at b n os u) (calls.function_value s w at name_at b n os u)
  unfolding calls.function_value
  function_value_follows at name_at b n os u = function_follows at name_at b n os u (heading_at n s).result

  value_named_follows : (at : ℕ) (d : DesignatedName) (os : List Operand) (n : Named) → Follows (calls.value_by_name s (quiet w) at d os n) (calls.value_by_name s w at d os n)
  value_named_follows at d os (name.Routine n) = function_value_follows at d.name_at true n os d.uses
  value_named_follows at d os (name.Entry n) = function_value_follows at d.name_at false n os d.uses
  value_named_follows at d os _ = λ a e. e

  value_follows : (at : ℕ) (p : DesignatedName × List Operand) → Follows (calls.value_of s (quiet w) at p) (calls.value_of s w at p)
  unfolding calls.value_of
  value_follows at p = value_named_follows at p.0 p.1 p.0.named

  other_same : (n : Named) → calls.is_other_function s (quiet w) n ≡ calls.is_other_function s w n
  other_same (name.Routine n) = refl
  other_same (name.Entry n) = refl
  other_same (name.Predeclared p) = refl
  other_same _ = refl

  variable_follows : (at : ℕ) (d : DesignatedName) → Follows (calls.variable_of s (quiet w) at d) (calls.variable_of s w at d)
  variable_follows at d = either_follows (calls.is_other_function s (quiet w) d.named) (calls.is_other_function s w d.named) _ _ _ (other_same d.named) (value_follows at (d, []))

  named_value_follows : (v : Bool) (at : ℕ) (d e : Judged DesignatedName) (os ps : Judged (List Operand)) → Follows d e → Follows os ps → Follows (expressions.value_of_name s (quiet w) v at d os) (expressions.value_of_name s w v at e ps)
  named_value_follows true at d e os ps h g = then_follows d e (calls.variable_of s (quiet w) at) (calls.variable_of s w at) h (variable_follows at)
  named_value_follows false at d e os ps h g = then_follows (both d os) (both e ps) (calls.value_of s (quiet w) at) (calls.value_of s w at) (both_follow d e os ps h g) (value_follows at)

  mutual
    unfolding expressions.expression

    pub expression_follows : (v : Bool) (e : Expression) → Follows (expressions.expression s (quiet w) v e) (expressions.expression s w v e)
    expression_follows v (alone at a) = sum_follows v a
    expression_follows v (related at a r b) = alike_follows _ _ (operations.relation_value at r) (both_follow _ _ _ _ (sum_follows false a) (sum_follows false b))

    sum_follows : (v : Bool) (a : Sum) → Follows (expressions.sum_value s (quiet w) v a) (expressions.sum_value s w v a)
    sum_follows v (sum at sign t ts) = alike_follows _ _ (operations.check_agreement at) (terms_follow at ts _ _ (alike_follows _ _ (expressions.first_term at sign) (term_follows _ t)))

    terms_follow : (at : ℕ) (ts : Terms) (j k : Judged (Option Operand)) → Follows j k → Follows (expressions.more_terms s (quiet w) at j ts) (expressions.more_terms s w at k ts)
    terms_follow at no_terms j k h = h
    terms_follow at (terms_more a t ts) j k h = terms_follow at ts _ _ (alike_follows _ _ (expressions.sum_so_far at a) (both_follow j k _ _ h (term_follows false t)))

    term_follows : (v : Bool) (t : Term) → Follows (expressions.term_value s (quiet w) v t) (expressions.term_value s w v t)
    term_follows v (term at f fs) = alike_follows _ _ (operations.check_agreement at) (factors_follow at fs _ _ (alike_follows _ _ expressions.some_operand (factor_follows _ f)))

    factors_follow : (at : ℕ) (fs : Factors) (j k : Judged (Option Operand)) → Follows j k → Follows (expressions.more_factors s (quiet w) at j fs) (expressions.more_factors s w at k fs)
    factors_follow at no_factors j k h = h
    factors_follow at (factors_more m f fs) j k h = factors_follow at fs _ _ (alike_follows _ _ (expressions.product_so_far at m) (both_follow j k _ _ h (factor_follows false f)))

    factor_follows : (v : Bool) (f : Factor) → Follows (expressions.factor s (quiet w) v f) (expressions.factor s w v f)
    factor_follows v (named at d es) = named_value_follows _ at _ _ _ _ (designator_follows d) (arguments_follow [] 0 es)
    factor_follows v (group at e) = alike_follows _ _ (expressions.to_group at) (expression_follows false e)
    factor_follows v (negated at f) = alike_follows _ _ (operations.negation_of at) (factor_follows false f)
    factor_follows v (set_of at es) = alike_follows _ _ (expressions.set_value at) (arguments_follow [] 0 es)
    factor_follows v _ = λ a e. e

    designator_follows : (d : Designator) → Follows (expressions.designator s (quiet w) d) (expressions.designator s w d)
    designator_follows (name_with n ss) = alike_follows _ _ (names.check_selectors n.at) (selectors_follow ss _ _ (same (names.meaning_of_name s n)))

    selectors_follow : (ss : Selectors) (j k : Judged DesignatedName) → Follows j k → Follows (expressions.selectors s (quiet w) j ss) (expressions.selectors s w k ss)
    selectors_follow no_selectors j k h = h
    selectors_follow (more_selectors x ss) j k h = selectors_follow ss _ _ (selector_follows x j k h)

    selector_follows : (x : Selector) (j k : Judged DesignatedName) → Follows j k → Follows (expressions.selector s (quiet w) j x) (expressions.selector s w k x)
    selector_follows (field i) j k h = alike_follows j k (names.member_of s i) h
    selector_follows (index e) j k h = alike_follows _ _ (expressions.at_index s) (both_follow j k _ _ h (expression_follows false e))

    arguments_follow : (ps : List Parameter) (k : ℕ) (es : Expressions) → Follows (expressions.arguments s (quiet w) ps k es) (expressions.arguments s w ps k es)
    arguments_follow ps k no_expressions = λ a e. e
    arguments_follow ps k (more_expressions e es) = alike_follows _ _ expressions.before (both_follow _ _ _ _ (expression_follows _ e) (arguments_follow ps (k + 1) es))
