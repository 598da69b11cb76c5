-- Where every name stands for something, what has no fault stands for something.
use Rattle.std.proofs.Common.{ℕ, ◌+◌, Bool, true, false, if◌then◌else◌, List, [], ◌∷◌, Option, Some, None, Ok, Err}
use Rattle.cp_meaning_laws.proofs.Words.{Identifier, CheckFault, ValueType, Meaning, Use, Judged, both, ◌>>=◌, ConstantNumber}
use Rattle.cp_tree.specs.declared.constant.Sign.{Sign}
use Rattle.cp_tree.specs.declared.constant.Constant.{Constant}
use Rattle.cp_tree.specs.declared.constant.ConstantKind.{ConstantKind}
use Rattle.cp_tree.specs.declared.constant.ConstantKind.TheVariants as kinds
use Rattle.cp_tree.specs.declared.expression.Relation.{Relation}
use Rattle.cp_tree.specs.Syntax.{Expression, alone, related, Sum, sum, Terms, no_terms, more_terms as terms_more, Term, term, Factors, no_factors, more_factors as factors_more, Factor, named, group, negated, set_of, Expressions, no_expressions, more_expressions, Designator, designator as name_with, Selectors, no_selectors, more_selectors, Selector, field, index, Start, Statement, empty, assign, invoke, block, if_then, if_else, case_of, while_do, repeat_until, for_do, cycle, init, asserted, Statements, no_statements, more_statements, Arms, no_arms, more_arms, Arm, arm}
use Rattle.cp_tree.specs.View.{expression_at}
use Rattle.cp_scope.specs.declared.types.ValueType.TheVariants as value_type
use Rattle.cp_scope.specs.declared.types.Meaning.TheVariants as meaning
use Rattle.cp_scope.specs.declared.types.Parameter.{Parameter}
use Rattle.cp_scope.specs.declared.types.Predeclared.{Predeclared}
use Rattle.cp_scope.specs.declared.types.Predeclared.TheVariants as predeclared
use Rattle.cp_scope.specs.Counts.{both_uses}
use Rattle.cp_scope.specs.Scopes.{Scopes, field_at, member_at, heading_at}
use Rattle.cp_check.specs.declared.case.Label.{Label}
use Rattle.cp_check.specs.declared.operand.Context.{Context}
use Rattle.cp_check.specs.declared.operand.Operand.{Operand}
use Rattle.cp_check.specs.declared.operand.DesignatedName.{DesignatedName}
use Rattle.cp_check.specs.declared.operand.Named.{Named}
use Rattle.cp_check.specs.declared.operand.Named.TheVariants as name
use Rattle.cp_check.specs.declared.statement.Target.{Target}
use Rattle.cp_check.specs.declared.statement.Target.TheVariants as target
use Rattle.cp_check.specs.Operands.{quiet}
use Rattle.cp_check.specs.Names as names
use Rattle.cp_check.specs.Constants as constants
use Rattle.cp_check.specs.Operations as operations
use Rattle.cp_check.specs.Calls as calls
use Rattle.cp_check.specs.Cases as cases
use Rattle.cp_check.specs.Expressions as expressions
use Rattle.cp_check.specs.Statements as statements

-- it stands for something, or has a fault
abbrev pub Loud : {A : Type 0} → Judged A → Type 0
Loud (Err []) = ⊥
Loud _ = Unit {0}

pub loud_both : {A B : Type 0} (a : Judged A) (b : Judged B) → Loud a → Loud b → Loud (both a b)
loud_both (Ok a) (Err []) h g = g
loud_both (Err []) b h g = absurd h
loud_both (Err (f ∷ fs)) (Ok b) h g = tt
loud_both _ _ h g = tt

pub loud_then : {A B : Type 0} (j : Judged A) (f : A → Judged B) → Loud j → ((a : A) → Loud (f a)) → Loud (j >>= f)
loud_then (Ok a) f h g = g a
loud_then (Err []) f h g = h
loud_then (Err (e ∷ es)) f h g = tt

pub loud_if : {A : Type 0} (b : Bool) (x y : Judged A) → Loud x → Loud y → Loud (if b then x else y)
loud_if true x y h g = h
loud_if false x y h g = g

pub loud_unless : {A : Type 0} (fs : List CheckFault) (x : A) → Loud (calls.unless fs x)
loud_unless [] x = tt
loud_unless (f ∷ fs) x = tt

-- every name that is visible stands for something
abbrev pub Heard : Scopes → Type 0
Heard s = (at : ℕ) (n : List ℕ) → Loud (names.visible s at n)

-- ---- names

pub begun_loud : (s : Scopes) (i : Identifier) → Heard s → Loud (names.meaning_of_name s i)
unfolding names.meaning_of_name
begun_loud s i h = loud_then _ _ (h i.at i.name) (λ m. tt)

field_loud : (at : ℕ) (d : DesignatedName) (o : Option (Option Meaning)) → Loud (names.with_field at d o)
field_loud at d (Some (Some (meaning.Constant b v))) = tt
field_loud at d _ = tt

entry_loud : (at : ℕ) (d : DesignatedName) (o : Option (Option Meaning)) → Loud (names.with_entry at d o)
entry_loud at d (Some (Some (meaning.Constant b v))) = tt
entry_loud at d _ = tt

selected_loud : (s : Scopes) (i : Identifier) (d : DesignatedName) (o : Option ValueType) → Loud (names.member_by_type s i d o)
selected_loud s i d (Some (value_type.Record n)) = field_loud i.at d (field_at n i.name s)
selected_loud s i d (Some (value_type.Component k n)) = entry_loud i.at d (member_at n i.name s)
selected_loud s i d _ = tt

known_loud : (at : ℕ) (d : DesignatedName) (n : Named) → Loud (names.check_selectors_of at d n)
known_loud at d name.Nothing = tt
known_loud at d _ = tt

-- ---- constants and labels

sign_loud : (at : ℕ) (o : Option Sign) (n : ConstantNumber) → Loud (constants.number_with_sign at o n)
sign_loud at None n = tt
sign_loud at (Some s) n = search loud_if

constant_meant_loud : (at : ℕ) (m : Meaning) → Loud (constants.to_constant at m)
constant_meant_loud at (meaning.Constant b v) = tt
constant_meant_loud at _ = tt

named_loud : (s : Scopes) (i : Identifier) → Heard s → Loud (constants.constant_named s i)
unfolding constants.constant_named
named_loud s i h = loud_then _ _ (h i.at i.name) (constant_meant_loud i.at)

constant_kind_loud : (s : Scopes) (at : ℕ) (k : ConstantKind) → Heard s → Loud (constants.constant_kind s at k)
constant_kind_loud s at (kinds.Number o v) h = sign_loud at o _
constant_kind_loud s at (kinds.Name o i) h = loud_then _ _ (named_loud s i h) (sign_loud at o)
constant_kind_loud s at (kinds.Character c) h = tt

pub constant_loud : (s : Scopes) (c : Constant) → Heard s → Loud (constants.constant s c)
unfolding constants.constant
constant_loud s c h = constant_kind_loud s c.at c.kind h

label_loud : (s : Scopes) (c : Constant) → Heard s → Loud (cases.one_label s c)
unfolding cases.one_label
label_loud s c h = loud_then _ _ (constant_loud s c h) (λ n. tt)

labels_loud : (s : Scopes) (cs : List Constant) → Heard s → Loud (cases.labels s cs)
unfolding cases.labels
labels_loud s [] h = tt
labels_loud s (c ∷ cs) h = loud_then _ _ (loud_both _ _ (label_loud s c h) (labels_loud s cs h)) (λ p. tt)

-- ---- operations

agreed_loud : (at : ℕ) (o : Option Operand) → Loud (operations.check_agreement at o)
agreed_loud at (Some o) = tt
agreed_loud at None = tt

related_loud : (at : ℕ) (r : Relation) (p : Operand × Operand) → Loud (operations.relation_value at r p)
related_loud at r p = search loud_if

negated_loud : (at : ℕ) (o : Operand) → Loud (operations.negation_of at o)
negated_loud at o = search loud_if

stepped_loud : (at : ℕ) (t : ValueType) (u : Use) → Loud (operations.neighbour_value at t u)
stepped_loud at (value_type.Ordinal r) u = tt
stepped_loud at _ u = tt

numbered_loud : (at : ℕ) (t : ValueType) (u : Use) → Loud (operations.ordinal_number at t u)
numbered_loud at (value_type.Ordinal r) u = tt
numbered_loud at _ u = tt

applied_to_loud : (at : ℕ) (p : Predeclared) (o : Operand) (u : Use) → Loud (operations.standard_value_of at p o u)
applied_to_loud at predeclared.Succ o u = stepped_loud at o.value_type u
applied_to_loud at predeclared.Pred o u = stepped_loud at o.value_type u
applied_to_loud at predeclared.Ord o u = numbered_loud at o.value_type u
applied_to_loud at predeclared.Delay o u = tt
applied_to_loud at predeclared.Continue o u = tt
applied_to_loud at predeclared.Display o u = tt
applied_to_loud at x o u = search loud_if

applied_all_loud : (at : ℕ) (p : Predeclared) (os : List Operand) (u : Use) → Loud (operations.standard_value_of_all at p os u)
applied_all_loud at p (o ∷ []) u = applied_to_loud at p o u
applied_all_loud at p _ u = tt

applied_loud : (at : ℕ) (p : Predeclared) (os : List Operand) (u : Use) → Loud (operations.standard_value at p os u)
applied_loud at p os u = search (loud_if, applied_all_loud)

-- ---- calls

called_loud : (s : Scopes) (w : Context) (at n_at : ℕ) (b : Bool) (n : ℕ) (os : List Operand) (u : Use) → Loud (calls.check_routine_call s w at n_at b n os u)
unfolding calls.check_routine_call
called_loud s w at n_at b n os u = loud_unless _ _

function_loud : (s : Scopes) (w : Context) (at n_at : ℕ) (b : Bool) (n : ℕ) (os : List Operand) (u : Use) (o : Option ValueType) → Loud (calls.function_of s w at n_at b n os u o)
function_loud s w at n_at b n os u None = tt
function_loud s w at n_at b n os u (Some t) = loud_then _ _ (called_loud s w at n_at b n os u) (λ v. tt)

function_value_loud : (s : Scopes) (w : Context) (at n_at : ℕ) (b : Bool) (n : ℕ) (os : List Operand) (u : Use) → Loud (calls.function_value s w at n_at b n os u)
unfolding calls.function_value
function_value_loud s w at n_at b n os u = function_loud s w at n_at b n os u (heading_at n s).result

alone_loud : (o : Operand) (os : List Operand) → Loud (calls.alone o os)
alone_loud o [] = tt
alone_loud o (p ∷ ps) = tt

value_named_loud : (s : Scopes) (w : Context) (at : ℕ) (d : DesignatedName) (os : List Operand) (n : Named) → Loud (calls.value_by_name s w at d os n)
value_named_loud s w at d os name.Nothing = tt
value_named_loud s w at d os name.Kind = tt
value_named_loud s w at d os (name.Routine n) = function_value_loud s w at d.name_at true n os d.uses
value_named_loud s w at d os (name.Entry n) = function_value_loud s w at d.name_at false n os d.uses
value_named_loud s w at d os (name.Predeclared p) = applied_loud at p os _
value_named_loud s w at d os _ = alone_loud _ os

value_loud : (s : Scopes) (w : Context) (at : ℕ) (p : DesignatedName × List Operand) → Loud (calls.value_of s w at p)
unfolding calls.value_of
value_loud s w at p = value_named_loud s w at p.0 p.1 p.0.named

variable_loud : (s : Scopes) (w : Context) (at : ℕ) (d : DesignatedName) → Loud (calls.variable_of s w at d)
variable_loud s w at d = search (loud_if, value_loud)

-- ---- expressions

set_like_loud : (at : ℕ) (os : List Operand) (t : ValueType) → Loud (expressions.set_like at os t)
set_like_loud at os (value_type.Ordinal r) = search loud_if
set_like_loud at os _ = tt

constructed_loud : (at : ℕ) (os : List Operand) → Loud (expressions.set_value at os)
constructed_loud at [] = tt
constructed_loud at (o ∷ os) = set_like_loud at (o ∷ os) o.value_type

named_value_loud : (s : Scopes) (w : Context) (v : Bool) (at : ℕ) (d : Judged DesignatedName) (os : Judged (List Operand)) → Loud d → Loud os → Loud (expressions.value_of_name s w v at d os)
named_value_loud s w v at d os h g = loud_if v _ _ (loud_then d _ h (variable_loud s w at)) (loud_then _ _ (loud_both d os h g) (value_loud s w at))

mutual
  unfolding expressions.expression

  pub expression_loud : (s : Scopes) (w : Context) → Heard s → (v : Bool) (e : Expression) → Loud (expressions.expression s w v e)
  expression_loud s w h v (alone at a) = sum_loud s w h v a
  expression_loud s w h v (related at a r b) = loud_then _ _ (loud_both _ _ (sum_loud s w h false a) (sum_loud s w h false b)) (related_loud at r)

  sum_loud : (s : Scopes) (w : Context) → Heard s → (v : Bool) (a : Sum) → Loud (expressions.sum_value s w v a)
  sum_loud s w h v (sum at sign t ts) = loud_then _ _ (terms_loud s w h at ts _ (loud_then _ _ (term_loud s w h _ t) (λ o. tt))) (agreed_loud at)

  terms_loud : (s : Scopes) (w : Context) → Heard s → (at : ℕ) (ts : Terms) (j : Judged (Option Operand)) → Loud j → Loud (expressions.more_terms s w at j ts)
  terms_loud s w h at no_terms j g = g
  terms_loud s w h at (terms_more a t ts) j g = terms_loud s w h at ts _ (loud_then _ _ (loud_both j _ g (term_loud s w h false t)) (λ p. tt))

  term_loud : (s : Scopes) (w : Context) → Heard s → (v : Bool) (t : Term) → Loud (expressions.term_value s w v t)
  term_loud s w h v (term at f fs) = loud_then _ _ (factors_loud s w h at fs _ (loud_then _ _ (factor_loud s w h _ f) (λ o. tt))) (agreed_loud at)

  factors_loud : (s : Scopes) (w : Context) → Heard s → (at : ℕ) (fs : Factors) (j : Judged (Option Operand)) → Loud j → Loud (expressions.more_factors s w at j fs)
  factors_loud s w h at no_factors j g = g
  factors_loud s w h at (factors_more m f fs) j g = factors_loud s w h at fs _ (loud_then _ _ (loud_both j _ g (factor_loud s w h false f)) (λ p. tt))

  factor_loud : (s : Scopes) (w : Context) → Heard s → (v : Bool) (f : Factor) → Loud (expressions.factor s w v f)
  factor_loud s w h v (named at d es) = named_value_loud s w _ at _ _ (designator_loud s w h d) (arguments_loud s w h [] 0 es)
  factor_loud s w h v (group at e) = loud_then _ _ (expression_loud s w h false e) (λ o. tt)
  factor_loud s w h v (negated at f) = loud_then _ _ (factor_loud s w h false f) (negated_loud at)
  factor_loud s w h v (set_of at es) = loud_then _ _ (arguments_loud s w h [] 0 es) (constructed_loud at)
  factor_loud s w h v _ = tt

  pub designator_loud : (s : Scopes) (w : Context) → Heard s → (d : Designator) → Loud (expressions.designator s w d)
  designator_loud s w h (name_with n ss) = loud_then _ _ (selectors_loud s w h ss _ (begun_loud s n h)) (λ d. known_loud n.at d d.named)

  selectors_loud : (s : Scopes) (w : Context) → Heard s → (ss : Selectors) (j : Judged DesignatedName) → Loud j → Loud (expressions.selectors s w j ss)
  selectors_loud s w h no_selectors j g = g
  selectors_loud s w h (more_selectors x ss) j g = selectors_loud s w h ss _ (selector_loud s w h j x g)

  selector_loud : (s : Scopes) (w : Context) → Heard s → (j : Judged DesignatedName) (x : Selector) → Loud j → Loud (expressions.selector s w j x)
  selector_loud s w h j (field i) g = loud_then j _ g (λ d. selected_loud s i d (names.type_of d.named))
  selector_loud s w h j (index e) g = loud_then _ _ (loud_both j _ g (expression_loud s w h false e)) (λ p. tt)

  pub arguments_loud : (s : Scopes) (w : Context) → Heard s → (ps : List Parameter) (k : ℕ) (es : Expressions) → Loud (expressions.arguments s w ps k es)
  arguments_loud s w h ps k no_expressions = tt
  arguments_loud s w h ps k (more_expressions e es) = loud_then _ _ (loud_both _ _ (expression_loud s w h _ e) (arguments_loud s w h ps (k + 1) es)) (λ p. tt)

-- ---- statements

aimed_loud : (at : ℕ) (t : Target) → Loud (statements.check_target at t)
aimed_loud at target.Kind = tt
aimed_loud at _ = tt

assigned_loud : (at : ℕ) (t : Target) (o : Operand) (u : Use) → Loud (statements.check_assignment at t o u)
assigned_loud at (target.Fixed None) o u = tt
assigned_loud at target.Kind o u = tt
assigned_loud at x o u = search loud_if

target_loud : (s : Scopes) (w : Context) (at : ℕ) (d : DesignatedName) → Loud (statements.with_target s w at d)
target_loud s w at d = loud_then (statements.check_target at (statements.target_of s w d.named)) (λ t. Ok (t, d.uses)) (aimed_loud at (statements.target_of s w d.named)) (λ t. tt)

finish_loud : (at : ℕ) (p : (Target × Use) × Operand) → Loud (statements.finish_assignment at p)
finish_loud at p = assigned_loud at p.0.0 p.1 (both_uses p.0.1 p.1.uses)

assignment_loud : (s : Scopes) (w : Context) (at : ℕ) (d : Designator) (e : Expression) → Heard s → Loud (statements.assignment s w at d e)
unfolding statements.assignment
assignment_loud s w at d e h =
    loud_then _ _ (loud_both _ _ (loud_then _ _ (designator_loud s w h d) (target_loud s w (statements.name_at d))) (expression_loud s w h false e)) (finish_loud at)

performed_loud : (s : Scopes) (w : Context) (at : ℕ) (p : Predeclared) (os : List Operand) (u : Use) → Loud (statements.check_standard_call s w at p os u)
performed_loud s w at predeclared.Delay os u = loud_unless _ _
performed_loud s w at predeclared.Continue os u = loud_unless _ _
performed_loud s w at predeclared.Display os u = loud_unless _ _
performed_loud s w at _ os u = tt

procedure_loud : (s : Scopes) (w : Context) (at n_at : ℕ) (b : Bool) (n : ℕ) (os : List Operand) (u : Use) (o : Option ValueType) → Loud (statements.procedure_of s w at n_at b n os u o)
procedure_loud s w at n_at b n os u (Some t) = tt
procedure_loud s w at n_at b n os u None = called_loud s w at n_at b n os u

procedure_called_loud : (s : Scopes) (w : Context) (at n_at : ℕ) (b : Bool) (n : ℕ) (os : List Operand) (u : Use) → Loud (statements.check_procedure_call s w at n_at b n os u)
unfolding statements.check_procedure_call
procedure_called_loud s w at n_at b n os u = procedure_loud s w at n_at b n os u (heading_at n s).result

invoked_named_loud : (s : Scopes) (w : Context) (at : ℕ) (d : DesignatedName) (os : List Operand) (n : Named) → Loud (statements.check_call_of s w at d os n)
invoked_named_loud s w at d os (name.Routine n) = procedure_called_loud s w at d.name_at true n os d.uses
invoked_named_loud s w at d os (name.Entry n) = procedure_called_loud s w at d.name_at false n os d.uses
invoked_named_loud s w at d os (name.Predeclared p) = performed_loud s w at p os _
invoked_named_loud s w at d os _ = tt

call_loud : (s : Scopes) (w : Context) (at : ℕ) (d : Designator) (es : Expressions) → Heard s → Loud (statements.call s w at d es)
unfolding statements.call statements.check_call
call_loud s w at d es h = loud_then _ _ (loud_both _ _ (designator_loud s w h d) (arguments_loud s w h _ 0 es)) (λ p. invoked_named_loud s w at p.0 p.1 p.0.named)

tested_loud : (at : ℕ) (o : Operand) (u : Use) → Loud (statements.check_test at o u)
tested_loud at o u = search loud_if

assertion_loud : (s : Scopes) (w : Context) (e : Expression) → Heard s → Loud (statements.assertion s w e)
unfolding statements.assertion
assertion_loud s w e h = loud_then _ _ (expression_loud s (quiet w) h false e) (λ o. tested_loud (expression_at e) o o.uses)

test_then_loud : (at : ℕ) (p : Operand × Use) → Loud (statements.test_then at p)
test_then_loud at p = tested_loud at p.0 (both_uses p.0.uses p.1)

test_last_loud : (at : ℕ) (p : Use × Operand) → Loud (statements.test_last at p)
test_last_loud at p = tested_loud at p.1 (both_uses p.0 p.1.uses)

chosen_loud : (at : ℕ) (p : Operand × (List Label × Use)) → Loud (cases.check_case at p)
chosen_loud at p = loud_unless (cases.case_faults at p.0 p.1.0) (both_uses p.0.uses p.1.1)

counted_loud : (at n : ℕ) (t : Target) (a b : Operand) (u : Use) → Loud (statements.check_for at n t a b u)
counted_loud at n target.Kind a b u = tt
counted_loud at n (target.Fixed (Some t)) a b u = search loud_if
counted_loud at n x a b u = search loud_if

count_over_loud : (s : Scopes) (w : Context) (at n : ℕ) (p : ((DesignatedName × Operand) × Operand) × Use) → Loud (statements.count_over s w at n p)
count_over_loud s w at n p = counted_loud at n (statements.target_of s w p.0.0.0.named) p.0.0.1 p.0.1 (both_uses (both_uses p.0.0.1.uses p.0.1.uses) p.1)

started_loud : (s : Scopes) (at : ℕ) (d : DesignatedName) (os : List Operand) (n : Named) → Loud (statements.check_start_of s at d os n)
started_loud s at d os (name.Variable (value_type.Component k n)) = loud_unless _ _
started_loud s at d os _ = tt

pub start_loud : (s : Scopes) (w : Context) (i : Start) → Heard s → Loud (statements.start s w i)
unfolding statements.start statements.check_start
start_loud s w i h = loud_then _ _ (loud_both _ _ (designator_loud s w h i.target) (arguments_loud s w h [] 0 i.arguments)) (λ p. started_loud s _ p.0 p.1 p.0.named)

pub starts_loud : (s : Scopes) (w : Context) (is : List Start) (j : Judged Use) → Heard s → Loud j → Loud (statements.starts s w j is)
unfolding statements.starts
starts_loud s w [] j h g = g
starts_loud s w (i ∷ is) j h g = starts_loud s w is _ h (loud_then _ _ (loud_both j _ g (start_loud s w i h)) (λ p. tt))

initial_loud : (at : ℕ) (o : Option ℕ) (u : Use) → Loud (statements.initial_in at o u)
initial_loud at None u = tt
initial_loud at (Some n) u = tt

mutual
  unfolding statements.statement

  pub statement_loud : (s : Scopes) (w : Context) → Heard s → (t : Statement) → Loud (statements.statement s w t)
  statement_loud s w h (empty at) = tt
  statement_loud s w h (assign at d e) = assignment_loud s w at d e h
  statement_loud s w h (invoke at d es) = call_loud s w at d es h
  statement_loud s w h (block at ss) = statements_loud s w h ss _ tt
  statement_loud s w h (cycle at ss) = statements_loud s w h ss _ tt
  statement_loud s w h (if_then at e t) = loud_then _ _ (loud_both _ _ (expression_loud s w h false e) (statement_loud s w h t)) (test_then_loud at)
  statement_loud s w h (if_else at e t u) = loud_then _ _ (loud_both _ _ (expression_loud s w h false e) (loud_then _ _ (loud_both _ _ (statement_loud s w h t) (statement_loud s w h u)) (λ p. tt))) (test_then_loud at)
  statement_loud s w h (while_do at e t) = loud_then _ _ (loud_both _ _ (expression_loud s w h false e) (statement_loud s w h t)) (test_then_loud at)
  statement_loud s w h (repeat_until at ss e) = loud_then _ _ (loud_both _ _ (statements_loud s w h ss _ tt) (expression_loud s w h false e)) (test_last_loud at)
  statement_loud s w h (for_do at i a d b t) = loud_then _ _ (loud_both _ _ (loud_both _ _ (loud_both _ _ (begun_loud s i h) (expression_loud s w h false a)) (expression_loud s w h false b)) (statement_loud s w h t)) (count_over_loud s w at i.at)
  statement_loud s w h (init at is) = loud_then _ _ (starts_loud s w is _ h tt) (λ u. initial_loud at w.routine u)
  statement_loud s w h (case_of at e as' b) = loud_then _ _ (loud_both _ _ (expression_loud s w h false e) (arms_loud s w h as' _ tt)) (chosen_loud at)
  statement_loud s w h (asserted at k e t) = loud_then _ _ (loud_both _ _ (assertion_loud s w e h) (statement_loud s w h t)) (λ p. tt)

  pub arms_loud : (s : Scopes) (w : Context) → Heard s → (as' : Arms) (j : Judged (List Label × Use)) → Loud j → Loud (statements.arms s w j as')
  arms_loud s w h no_arms j g = g
  arms_loud s w h (more_arms a as') j g = arms_loud s w h as' _ (loud_then _ _ (loud_both j _ g (labelled_loud s w h a)) (λ p. tt))

  pub labelled_loud : (s : Scopes) (w : Context) → Heard s → (a : Arm) → Loud (statements.labelled s w a)
  labelled_loud s w h (arm cs t) = loud_both _ _ (labels_loud s cs h) (statement_loud s w h t)

  pub statements_loud : (s : Scopes) (w : Context) → Heard s → (ss : Statements) (j : Judged Use) → Loud j → Loud (statements.statements s w j ss)
  statements_loud s w h no_statements j g = g
  statements_loud s w h (more_statements t ts) j g = statements_loud s w h ts _ (loud_then _ _ (loud_both j _ g (statement_loud s w h t)) (λ p. tt))
