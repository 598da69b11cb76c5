-- Nobody waits where invariants are looked at: an annotation that breaks no rule calls nothing.
use Rattle.std.proofs.Common.{◌≡◌, ◌∙◌, ℕ, ◌+◌, Bool, true, false, not, ◌&&◌, ◌||◌, if◌then◌else◌, List, [], ◌∷◌, ◌++◌, Option, Some, None, Ok, Err, refl, ap}
use Rattle.cp_resolved.proofs.Words.{Sign, Relation, Addition, Multiplication, Identifier, ValueType, Predeclared, Use, no_use, both_uses, CheckFault, Judged, broken, both, ◌>>=◌}
use Rattle.cp_resolved.proofs.Words.{Context, Operand, Named, agree, is_of, is_queue, option_or, no_left, no_right, Scopes, heading_at, body_at}
use Rattle.cp_tree.specs.declared.expression.Addition.TheVariants as addition
use Rattle.cp_tree.specs.declared.expression.Multiplication.TheVariants as multiplication
use Rattle.cp_tree.specs.Syntax.{Expression, alone, related, Sum, sum, Terms, no_terms, more_terms as terms_more, Term, term, Factors, no_factors, more_factors as factors_more, Factor, named, group, negated, set_of, Expressions, no_expressions, more_expressions, Designator, designator as name_with, Selectors, no_selectors, more_selectors, Selector, field, index, Statement, empty, asserted, Statements, no_statements, more_statements}
use Rattle.cp_tree.specs.View.{expression_at}
use Rattle.cp_scope.specs.declared.fault.Rule.TheVariants.{C5, C22}
use Rattle.cp_scope.specs.declared.types.Base.TheVariants as base
use Rattle.cp_scope.specs.declared.types.Meaning.{Meaning}
use Rattle.cp_scope.specs.declared.types.Meaning.TheVariants as meaning
use Rattle.cp_scope.specs.declared.types.Parameter.{Parameter}
use Rattle.cp_scope.specs.declared.types.Predeclared.TheVariants as predeclared
use Rattle.cp_scope.specs.declared.types.ValueType.TheVariants as types
use Rattle.cp_scope.specs.Scopes.{look, field_at, member_at}
use Rattle.cp_check.specs.declared.operand.DesignatedName.{DesignatedName}
use Rattle.cp_check.specs.declared.operand.Named.TheVariants as name
use Rattle.cp_check.specs.Operands.{quiet}
use Rattle.cp_check.specs.Names as names
use Rattle.cp_check.specs.Operations as operations
use Rattle.cp_check.specs.Calls as calls
use Rattle.cp_check.specs.Expressions as expressions
use Rattle.cp_check.specs.Statements as statements
use Rattle.cp_resolved.proofs.declarations.Nameless.{IsSaid, SaysSome}
use Rattle.cp_resolved.proofs.statements.RoutinesNoted.{delays_in}

-- ---- what holds of all that is judged

abbrev All : {A : Type 0} → (A → Type 0) → Judged A → Type 0
All P (Ok a) = P a
All P (Err fs) = Unit {0}

both_all : {A B : Type 0} (P : A → Type 0) (Q : B → Type 0) (j : Judged A) (k : Judged B) → All P j → All Q k → All (λ (x : A × B). P x.0 × Q x.1) (both j k)
both_all P Q (Ok a) (Ok b) h g = (h, g)
both_all P Q (Ok a) (Err fs) h g = tt
both_all P Q (Err fs) (Ok b) h g = tt
both_all P Q (Err fs) (Err gs) h g = tt

then_all : {A B : Type 0} (P : A → Type 0) (Q : B → Type 0) (j : Judged A) (f : A → Judged B) → All P j → ((a : A) → P a → All Q (f a)) → All Q (j >>= f)
then_all P Q (Ok a) f h g = g a h
then_all P Q (Err fs) f h g = tt

if_all : {A : Type 0} (P : A → Type 0) (b : Bool) (j k : Judged A) → All P j → All P k → All P (if b then j else k)
if_all P true j k h g = h
if_all P false j k h g = g

unless_all : {A : Type 0} (P : A → Type 0) (fs : List CheckFault) (x : A) → (fs ≡ [] → P x) → All P (calls.unless fs x)
unless_all P [] x h = h refl
unless_all P (f ∷ fs) x h = tt

-- ---- nothing waits

abbrev IsCalm : Use → Type 0
IsCalm u = u.delays ≡ false

abbrev CalmOperand : Operand → Type 0
CalmOperand o = IsCalm o.uses

abbrev CalmName : DesignatedName → Type 0
CalmName d = IsCalm d.uses

abbrev CalmOption : Option Operand → Type 0
CalmOption None = Unit {0}
CalmOption (Some o) = IsCalm o.uses

abbrev AreCalm : List Operand → Type 0
AreCalm [] = Unit {0}
AreCalm (o ∷ os) = IsCalm o.uses × AreCalm os

uses_calm : (a b : Use) → IsCalm a → IsCalm b → IsCalm (both_uses a b)
uses_calm a b h g = ap (λ (c : Bool). c || b.delays) h ∙ g

total_calm : (u : Use) (os : List Operand) → IsCalm u → AreCalm os → IsCalm (calls.total_use u os)
unfolding calls.total_use
total_calm u [] h g = h
total_calm u (o ∷ os) h g = total_calm (both_uses u o.uses) os (uses_calm u o.uses h g.0) g.1

-- ---- operations

option_if : (b : Bool) (p q : Option Operand) → CalmOption p → CalmOption q → CalmOption (if b then p else q)
option_if true p q h g = h
option_if false p q h g = g

option_either : (p q : Option Operand) → CalmOption p → CalmOption q → CalmOption (option_or p q)
option_either None q h g = g
option_either (Some o) q h g = h

number_calm : (at : ℕ) (l r : Operand) → CalmOperand l → CalmOperand r → CalmOption (operations.number at l r)
number_calm at l r h g = option_if (is_of base.Integer l.value_type && is_of base.Integer r.value_type) _ None (uses_calm l.uses r.uses h g) tt

set_types_calm : (at : ℕ) (v t : ValueType) (u : Use) → IsCalm u → CalmOption (operations.set_of_types at v t u)
set_types_calm at (types.Set a) (types.Set b) u h = option_if (agree (types.Set a) (types.Set b)) _ None h tt
set_types_calm at _ _ u h = tt

set_calm : (at : ℕ) (l r : Operand) → CalmOperand l → CalmOperand r → CalmOption (operations.set at l r)
set_calm at l r h g = set_types_calm at l.value_type r.value_type (both_uses l.uses r.uses) (uses_calm l.uses r.uses h g)

truth_or_set_calm : (at : ℕ) (l r : Operand) → CalmOperand l → CalmOperand r → CalmOption (operations.truth_or_set at l r)
truth_or_set_calm at l r h g = option_if (is_of base.Boolean l.value_type && is_of base.Boolean r.value_type) _ (operations.set at l r) (uses_calm l.uses r.uses h g) (set_calm at l r h g)

added_calm : (at : ℕ) (a : Addition) (l : Option Operand) (r : Operand) → CalmOption l → CalmOperand r → CalmOption (operations.sum_of at a l r)
added_calm at a None r h g = tt
added_calm at addition.Plus (Some l) r h g = number_calm at l r h g
added_calm at addition.Minus (Some l) r h g = option_either (operations.number at l r) (operations.set at l r) (number_calm at l r h g) (set_calm at l r h g)
added_calm at addition.Or (Some l) r h g = truth_or_set_calm at l r h g

multiplied_calm : (at : ℕ) (m : Multiplication) (l : Option Operand) (r : Operand) → CalmOption l → CalmOperand r → CalmOption (operations.product_of at m l r)
multiplied_calm at m None r h g = tt
multiplied_calm at multiplication.And (Some l) r h g = truth_or_set_calm at l r h g
multiplied_calm at multiplication.Times (Some l) r h g = number_calm at l r h g
multiplied_calm at multiplication.Div (Some l) r h g = number_calm at l r h g
multiplied_calm at multiplication.Mod (Some l) r h g = number_calm at l r h g

signed_calm : (at : ℕ) (s : Option Sign) (o : Operand) → CalmOperand o → CalmOption (operations.with_sign at s o)
signed_calm at None o h = h
signed_calm at (Some s) o h = option_if (is_of base.Integer o.value_type) _ None h tt

agreed_calm : (at : ℕ) (o : Option Operand) → CalmOption o → All CalmOperand (operations.check_agreement at o)
agreed_calm at None h = tt
agreed_calm at (Some o) h = h

related_calm : (at : ℕ) (r : Relation) (p : Operand × Operand) → CalmOperand p.0 × CalmOperand p.1 → All CalmOperand (operations.relation_value at r p)
related_calm at r p h = if_all CalmOperand (operations.relates r p.0.value_type p.1.value_type) _ (broken at C5) (uses_calm p.0.uses p.1.uses h.0 h.1) tt

negated_calm : (at : ℕ) (o : Operand) → CalmOperand o → All CalmOperand (operations.negation_of at o)
negated_calm at o h = if_all CalmOperand (is_of base.Boolean o.value_type) _ (broken at C5) h tt

stepped_calm : (at : ℕ) (v : ValueType) (u : Use) → IsCalm u → All CalmOperand (operations.neighbour_value at v u)
stepped_calm at (types.Ordinal r) u h = h
stepped_calm at _ u h = tt

numbered_calm : (at : ℕ) (v : ValueType) (u : Use) → IsCalm u → All CalmOperand (operations.ordinal_number at v u)
numbered_calm at (types.Ordinal r) u h = h
numbered_calm at _ u h = tt

applied_calm : (at : ℕ) (q : Predeclared) (o : Operand) (u : Use) → IsCalm u → All CalmOperand (operations.standard_value_of at q o u)
applied_calm at predeclared.Succ o u h = stepped_calm at o.value_type u h
applied_calm at predeclared.Pred o u h = stepped_calm at o.value_type u h
applied_calm at predeclared.Ord o u h = numbered_calm at o.value_type u h
applied_calm at predeclared.Chr o u h = if_all CalmOperand (is_of base.Integer o.value_type) _ (broken at C5) h tt
applied_calm at predeclared.Abs o u h = if_all CalmOperand (is_of base.Integer o.value_type) _ (broken at C5) h tt
applied_calm at predeclared.Empty o u h = if_all CalmOperand (is_queue o) _ (broken at C5) h tt
applied_calm at _ o u h = tt

all_applied_calm : (at : ℕ) (q : Predeclared) (os : List Operand) (u : Use) → IsCalm u → All CalmOperand (operations.standard_value at q os u)
all_applied_calm at q os u h = if_all CalmOperand (operations.is_function q) (operations.standard_value_of_all at q os u) (broken at C5) (inner os) tt
  where
    inner : (os : List Operand) → All CalmOperand (operations.standard_value_of_all at q os u)
    inner [] = tt
    inner (o ∷ []) = applied_calm at q o u h
    inner (o ∷ z ∷ os) = tt

set_like_calm : (at : ℕ) (os : List Operand) (v : ValueType) → AreCalm os → All CalmOperand (expressions.set_like at os v)
set_like_calm at os (types.Ordinal r) h = if_all CalmOperand (expressions.are_elements r.base os) _ (broken at C5) (total_calm no_use os refl h) tt
set_like_calm at os _ h = tt

constructed_calm : (at : ℕ) (os : List Operand) → AreCalm os → All CalmOperand (expressions.set_value at os)
constructed_calm at [] h = refl
constructed_calm at (o ∷ os) h = set_like_calm at (o ∷ os) o.value_type h

-- ---- names

begun_calm : (s : Scopes) (i : Identifier) → All CalmName (names.meaning_of_name s i)
unfolding names.meaning_of_name names.visible
begun_calm s i = go (look i.name s)
  where
    go : (o : Option (Option Meaning)) → All CalmName (names.check_visible i.at o >>= names.designation_of i.at)
    go None = tt
    go (Some None) = tt
    go (Some (Some m)) = refl

field_calm : (at : ℕ) (d : DesignatedName) (o : Option (Option Meaning)) → CalmName d → All CalmName (names.with_field at d o)
field_calm at d (Some (Some (meaning.Variable t))) h = h
field_calm at d _ h = tt

entry_calm : (at : ℕ) (d : DesignatedName) (o : Option (Option Meaning)) → CalmName d → All CalmName (names.with_entry at d o)
entry_calm at d (Some (Some (meaning.Routine r))) h = h
entry_calm at d _ h = tt

selected_calm : (s : Scopes) (i : Identifier) (d : DesignatedName) (t : Option ValueType) → CalmName d → All CalmName (names.member_by_type s i d t)
selected_calm s i d (Some (types.Record n)) h = field_calm i.at d (field_at n i.name s) h
selected_calm s i d (Some (types.Component k n)) h = entry_calm i.at d (member_at n i.name s) h
selected_calm s i d _ h = h

known_calm : (at : ℕ) (d : DesignatedName) (n : Named) → CalmName d → All CalmName (names.check_selectors_of at d n)
known_calm at d name.Nothing h = tt
known_calm at d _ h = h

-- ---- values of names, in an annotation

alone_calm : (o : Operand) (os : List Operand) → CalmOperand o → All CalmOperand (calls.alone o os)
alone_calm o [] h = h
alone_calm o (p ∷ ps) h = tt

module _ (s : Scopes) (w : Context) where
  -- each call there breaks a rule
  never_quiet : (at name_at : ℕ) (b : Bool) (n : ℕ) (os : List Operand) → calls.call_faults s (quiet w) at name_at b n os ≡ [] → ⊥
  never_quiet at name_at b n os h = go b later last
    where
      entry : List CheckFault
      entry = calls.entry_faults name_at b (heading_at n s).is_entry

      own : List CheckFault
      own = calls.own_faults name_at (quiet w) n

      delay : List CheckFault
      delay = calls.delay_faults name_at (quiet w) b (body_at n s)

      behind : calls.quiet_faults at (quiet w) (not b) ++ (entry ++ (own ++ (delay ++ (calls.quiet_faults at (quiet w) b ++ calls.assignable_faults (heading_at n s).parameters os)))) ≡ []
      behind = no_right (calls.fit_faults at (heading_at n s).parameters os) _ h

      later : calls.quiet_faults at (quiet w) (not b) ≡ []
      later = no_left (calls.quiet_faults at (quiet w) (not b)) _ behind

      last : calls.quiet_faults at (quiet w) b ≡ []
      last = no_left (calls.quiet_faults at (quiet w) b) _ (no_right delay _ (no_right own _ (no_right entry _ (no_right (calls.quiet_faults at (quiet w) (not b)) _ behind))))

      go : (c : Bool) → calls.quiet_faults at (quiet w) (not c) ≡ [] → calls.quiet_faults at (quiet w) c ≡ [] → ⊥
      go true i j = let bad : calls.fault at C22 ≡ [] = j in cc
      go false i j = let bad : calls.fault at C22 ≡ [] = i in cc

  function_calm : (at name_at : ℕ) (b : Bool) (n : ℕ) (os : List Operand) (u : Use) (o : Option ValueType) → All CalmOperand (calls.function_of s (quiet w) at name_at b n os u o)
  unfolding calls.check_routine_call
  function_calm at name_at b n os u None = tt
  function_calm at name_at b n os u (Some t) =
      then_all (λ (v : Use). ⊥) CalmOperand (calls.check_routine_call s (quiet w) at name_at b n os u) (calls.with_result at t)
      (unless_all (λ (v : Use). ⊥) (calls.call_faults s (quiet w) at name_at b n os) _ (never_quiet at name_at b n os)) (λ v h. absurd h)

  named_calm : (at : ℕ) (d : DesignatedName) (os : List Operand) (n : Named) → CalmName d → AreCalm os → All CalmOperand (calls.value_by_name s (quiet w) at d os n)
  unfolding calls.function_value
  named_calm at d os (name.Constant b) h g = alone_calm _ os h
  named_calm at d os (name.Variable t) h g = alone_calm _ os h
  named_calm at d os (name.Parameter t) h g = alone_calm _ os h
  named_calm at d os (name.Predeclared p) h g = all_applied_calm at p os (calls.total_use d.uses os) (total_calm d.uses os h g)
  named_calm at d os (name.Routine n) h g = function_calm at d.name_at true n os d.uses (heading_at n s).result
  named_calm at d os (name.Entry n) h g = function_calm at d.name_at false n os d.uses (heading_at n s).result
  named_calm at d os name.Kind h g = tt
  named_calm at d os name.Nothing h g = tt

  value_calm : (at : ℕ) (p : DesignatedName × List Operand) → CalmName p.0 × AreCalm p.1 → All CalmOperand (calls.value_of s (quiet w) at p)
  unfolding calls.value_of
  value_calm at p h = named_calm at p.0 p.1 p.0.named h.0 h.1

  variable_calm : (at : ℕ) (d : DesignatedName) → CalmName d → All CalmOperand (calls.variable_of s (quiet w) at d)
  variable_calm at d h = if_all CalmOperand (calls.is_other_function s (quiet w) d.named) _ (calls.value_of s (quiet w) at (d, [])) h (value_calm at (d, []) (h, tt))

  named_value_calm : (v : Bool) (at : ℕ) (d : Judged DesignatedName) (os : Judged (List Operand)) → All CalmName d → All AreCalm os → All CalmOperand (expressions.value_of_name s (quiet w) v at d os)
  named_value_calm true at d os h g = then_all CalmName CalmOperand d (calls.variable_of s (quiet w) at) h (variable_calm at)
  named_value_calm false at d os h g = then_all _ CalmOperand (both d os) (calls.value_of s (quiet w) at) (both_all CalmName AreCalm d os h g) (value_calm at)

  -- ---- expressions

  mutual
    unfolding expressions.expression

    expression_calm : (v : Bool) (e : Expression) → All CalmOperand (expressions.expression s (quiet w) v e)
    expression_calm v (alone at a) = sum_calm v a
    expression_calm v (related at a r b) = then_all _ CalmOperand _ (operations.relation_value at r) (both_all CalmOperand CalmOperand _ _ (sum_calm false a) (sum_calm false b)) (related_calm at r)

    sum_calm : (v : Bool) (a : Sum) → All CalmOperand (expressions.sum_value s (quiet w) v a)
    sum_calm v (sum at sign t ts) =
        then_all CalmOption CalmOperand _ (operations.check_agreement at) (terms_calm at ts _ (then_all CalmOperand CalmOption _ (expressions.first_term at sign) (term_calm _ t) (signed_calm at sign))) (agreed_calm at)

    terms_calm : (at : ℕ) (ts : Terms) (j : Judged (Option Operand)) → All CalmOption j → All CalmOption (expressions.more_terms s (quiet w) at j ts)
    terms_calm at no_terms j h = h
    terms_calm at (terms_more a t ts) j h = terms_calm at ts _ (then_all _ CalmOption _ (expressions.sum_so_far at a) (both_all CalmOption CalmOperand j _ h (term_calm false t)) (λ p g. added_calm at a p.0 p.1 g.0 g.1))

    term_calm : (v : Bool) (t : Term) → All CalmOperand (expressions.term_value s (quiet w) v t)
    term_calm v (term at f fs) =
        then_all CalmOption CalmOperand _ (operations.check_agreement at) (factors_calm at fs _ (then_all CalmOperand CalmOption _ expressions.some_operand (factor_calm _ f) (λ o g. g))) (agreed_calm at)

    factors_calm : (at : ℕ) (fs : Factors) (j : Judged (Option Operand)) → All CalmOption j → All CalmOption (expressions.more_factors s (quiet w) at j fs)
    factors_calm at no_factors j h = h
    factors_calm at (factors_more m f fs) j h = factors_calm at fs _ (then_all _ CalmOption _ (expressions.product_so_far at m) (both_all CalmOption CalmOperand j _ h (factor_calm false f)) (λ p g. multiplied_calm at m p.0 p.1 g.0 g.1))

    factor_calm : (v : Bool) (f : Factor) → All CalmOperand (expressions.factor s (quiet w) v f)
    factor_calm v (named at d es) = named_value_calm _ at _ _ (designator_calm d) (arguments_calm [] 0 es)
    factor_calm v (group at e) = then_all CalmOperand CalmOperand _ (expressions.to_group at) (expression_calm false e) (λ o g. g)
    factor_calm v (negated at f) = then_all CalmOperand CalmOperand _ (operations.negation_of at) (factor_calm false f) (negated_calm at)
    factor_calm v (set_of at es) = then_all AreCalm CalmOperand _ (expressions.set_value at) (arguments_calm [] 0 es) (constructed_calm at)
    factor_calm v _ = refl

    designator_calm : (d : Designator) → All CalmName (expressions.designator s (quiet w) d)
    designator_calm (name_with n ss) = then_all CalmName CalmName _ (names.check_selectors n.at) (selectors_calm ss _ (begun_calm s n)) (λ d g. known_calm n.at d d.named g)

    selectors_calm : (ss : Selectors) (j : Judged DesignatedName) → All CalmName j → All CalmName (expressions.selectors s (quiet w) j ss)
    selectors_calm no_selectors j h = h
    selectors_calm (more_selectors x ss) j h = selectors_calm ss _ (selector_calm x j h)

    selector_calm : (x : Selector) (j : Judged DesignatedName) → All CalmName j → All CalmName (expressions.selector s (quiet w) j x)
    selector_calm (field i) j h = then_all CalmName CalmName j (names.member_of s i) h (λ d g. selected_calm s i d (names.type_of d.named) g)
    selector_calm (index e) j h = then_all _ CalmName _ (expressions.at_index s) (both_all CalmName CalmOperand j _ h (expression_calm false e)) (λ p g. uses_calm p.0.uses p.1.uses g.0 g.1)

    arguments_calm : (ps : List Parameter) (k : ℕ) (es : Expressions) → All AreCalm (expressions.arguments s (quiet w) ps k es)
    arguments_calm ps k no_expressions = tt
    arguments_calm ps k (more_expressions e es) = then_all _ AreCalm _ expressions.before (both_all CalmOperand AreCalm _ _ (expression_calm _ e) (arguments_calm ps (k + 1) es)) (λ p g. g)

  -- ---- what invariants say

  assertion_calm : (e : Expression) → All IsCalm (statements.assertion s w e)
  unfolding statements.assertion
  assertion_calm e =
      then_all CalmOperand IsCalm _ (λ (o : Operand). statements.check_test (expression_at e) o o.uses) (expression_calm false e)
      (λ o h. if_all IsCalm (is_of base.Boolean o.value_type) (Ok o.uses) (broken (expression_at e) C5) h tt)

  together_calm : (j k : Judged Use) → All IsCalm j → All IsCalm k → All IsCalm (both j k >>= statements.together)
  together_calm j k h g = then_all _ IsCalm (both j k) statements.together (both_all IsCalm IsCalm j k h g) (λ p i. uses_calm p.0 p.1 i.0 i.1)

  said_calm : (t : Statement) → IsSaid t → All IsCalm (statements.statement s w t)
  unfolding statements.statement
  said_calm (empty at) h = refl
  said_calm (asserted at k e t) h = together_calm _ _ (assertion_calm e) (said_calm t h)
  said_calm _ h = absurd h

  says_calm : (ss : Statements) → SaysSome ss → All IsCalm (statements.statements s w (Ok no_use) ss)
  unfolding statements.statement
  says_calm (more_statements (asserted at k e t) no_statements) h = together_calm (Ok no_use) _ refl (said_calm (asserted at k e t) h)
  says_calm _ h = absurd h

  -- nobody is delayed there
  pub never_delays : (ss : Statements) → SaysSome ss → delays_in (statements.statements s w (Ok no_use) ss) ≡ false
  never_delays ss h = go (statements.statements s w (Ok no_use) ss) (says_calm ss h)
    where
      go : (j : Judged Use) → All IsCalm j → delays_in j ≡ false
      go (Ok u) h = h
      go (Err fs) h = refl
