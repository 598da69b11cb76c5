-- What a statement takes is no more calls than are counted, so that what takes nothing adds nothing to it.
use Rattle.cp_check.specs.Expressions.{expression, designator}
use Rattle.std.proofs.Common.{ℕ, ◌≤◌, ◌+◌, Bool, true, false, if◌then◌else◌, List, [], ◌∷◌, Option, Some, None, Ok, Err, arith}
use Rattle.std.proofs.Math.Nat.{min-le_right}
use Rattle.cp_tree.specs.Syntax.{Expression, Expressions, Designator, Start, Statement, empty, assign, invoke, block, if_then, if_else, case_of, while_do, repeat_until, for_do, cycle, init, asserted, Statements, no_statements, more_statements}
use Rattle.cp_scope.specs.declared.types.ValueType.TheVariants as value_type
use Rattle.cp_scope.specs.declared.types.Predeclared.{Predeclared}
use Rattle.cp_scope.specs.declared.types.Predeclared.TheVariants as predeclared
use Rattle.cp_scope.specs.declared.types.ValueType.{ValueType}
use Rattle.cp_scope.specs.Scopes.{body_at, heading_at}
use Rattle.cp_check.specs.declared.operand.Named.{Named}
use Rattle.cp_check.specs.declared.operand.Named.TheVariants as name
use Rattle.cp_check.specs.declared.operand.DesignatedName.{DesignatedName}
use Rattle.cp_check.specs.declared.statement.Target.{Target}
use Rattle.cp_check.specs.declared.statement.Target.TheVariants as target
use Rattle.cp_check.specs.Calls.{unless, check_routine_call, call_use, total_use}
use Rattle.cp_check.specs.Cases.{check_case}
use Rattle.cp_check.specs.Statements as spec
use Rattle.cp_check.specs.Names.{meaning_of_name}
use Rattle.cp_check.specs.Statements.{together}
use Rattle.cp_check.proofs.Words.{CheckFault, Use, Scopes, Judged, Context, Operand, both, both_uses, no_use, ◌>>=◌}

abbrev pub Few : Judged Use → Type 0
Few (Ok u) = u.calls ≤ 8193
Few (Err fs) = Unit {0}

few_both : (a b : Use) → (both_uses a b).calls ≤ 8193
few_both a b = min-le_right (a.calls + b.calls) 8193

few_then : {A : Type 0} (j : Judged A) (k : A → Judged Use) → ((x : A) → Few (k x)) → Few (j >>= k)
few_then (Ok x) k h = h x
few_then (Err fs) k h = tt

few_stays : (j : Judged Use) (k : Use → Judged Use) → Few j → ((u : Use) → u.calls ≤ 8193 → Few (k u)) → Few (j >>= k)
few_stays (Ok u) k f h = h u f
few_stays (Err fs) k f h = tt

few_unless : (fs : List CheckFault) (u : Use) → u.calls ≤ 8193 → Few (unless fs u)
few_unless [] u h = h
few_unless (f ∷ fs) u h = tt

few_if : (b : Bool) (j k : Judged Use) → Few j → Few k → Few (if b then j else k)
few_if true j k f g = f
few_if false j k f g = g

-- ---- assignments and calls

assigned_few : (at : ℕ) (t : Target) (o : Operand) (u : Use) → u.calls ≤ 8193 → Few (spec.check_assignment at t o u)
assigned_few at (target.Assignable t) o u h = search (few_if, h)
assigned_few at (target.Fixed (Some t)) o u h = search few_if
assigned_few at (target.Fixed None) o u h = tt
assigned_few at target.Kind o u h = tt

assignment_few : (s : Scopes) (w : Context) (at : ℕ) (d : Designator) (e : Expression) → Few (spec.assignment s w at d e)
unfolding spec.assignment
assignment_few s w at d e = few_then (both (designator s w d >>= spec.with_target s w (spec.name_at d)) (expression s w false e)) (spec.finish_assignment at) (λ (p : (Target × Use) × Operand). assigned_few at p.0.0 p.1 (both_uses p.0.1 p.1.uses) (few_both p.0.1 p.1.uses))

displayed_few : (at : ℕ) (os : List Operand) (u : Use) → Few (unless (spec.display_faults at os) (total_use u os))
unfolding total_use
displayed_few at [] u = tt
displayed_few at (o ∷ []) u = few_unless _ _ (few_both u o.uses)
displayed_few at (o ∷ p ∷ os) u = tt

continued_few : (s : Scopes) (w : Context) (at : ℕ) (os : List Operand) (u : Use) → Few (unless (spec.waiting_faults s w at predeclared.Continue os) (total_use u os))
unfolding total_use
continued_few s w at [] u = tt
continued_few s w at (o ∷ []) u = few_unless _ _ (few_both u o.uses)
continued_few s w at (o ∷ p ∷ os) u = tt

performed_few : (s : Scopes) (w : Context) (at : ℕ) (p : Predeclared) (os : List Operand) (u : Use) → Few (spec.check_standard_call s w at p os (total_use u os))
performed_few s w at predeclared.Display os u = displayed_few at os u
performed_few s w at predeclared.Delay os u = few_unless _ _ (few_both (total_use u os) spec.one_delay)
performed_few s w at predeclared.Continue os u = continued_few s w at os u
performed_few s w at _ os u = tt

called_few : (s : Scopes) (w : Context) (at name_at : ℕ) (b : Bool) (n : ℕ) (os : List Operand) (u : Use) → Few (check_routine_call s w at name_at b n os u)
unfolding check_routine_call
called_few s w at name_at b n os u = few_unless _ _ (few_both (total_use u os) (call_use b (body_at n s)))

procedure_few : (s : Scopes) (w : Context) (at name_at : ℕ) (b : Bool) (n : ℕ) (os : List Operand) (u : Use) (o : Option ValueType) → Few (spec.procedure_of s w at name_at b n os u o)
procedure_few s w at name_at b n os u (Some t) = tt
procedure_few s w at name_at b n os u None = called_few s w at name_at b n os u

procedure_called_few : (s : Scopes) (w : Context) (at name_at : ℕ) (b : Bool) (n : ℕ) (os : List Operand) (u : Use) → Few (spec.check_procedure_call s w at name_at b n os u)
unfolding spec.check_procedure_call
procedure_called_few s w at name_at b n os u = procedure_few s w at name_at b n os u (heading_at n s).result

invoked_few : (s : Scopes) (w : Context) (at : ℕ) (d : DesignatedName) (os : List Operand) (n : Named) → Few (spec.check_call_of s w at d os n)
invoked_few s w at d os (name.Routine n) = procedure_called_few s w at d.name_at true n os d.uses
invoked_few s w at d os (name.Entry n) = procedure_called_few s w at d.name_at false n os d.uses
invoked_few s w at d os (name.Predeclared p) = performed_few s w at p os d.uses
invoked_few s w at d os _ = tt

call_few : (s : Scopes) (w : Context) (at : ℕ) (d : Designator) (es : Expressions) → Few (spec.call s w at d es)
unfolding spec.call spec.check_call
call_few s w at d es = few_then _ (spec.check_call s w at) (λ p. invoked_few s w at p.0 p.1 p.0.named)

-- ---- the other statements

tested_few : (at : ℕ) (o : Operand) (a b : Use) → Few (spec.check_test at o (both_uses a b))
tested_few at o a b = search (few_if, few_both)

counted_few : (at n : ℕ) (t : Target) (a b : Operand) (u : Use) → u.calls ≤ 8193 → Few (spec.check_for at n t a b u)
counted_few at n target.Kind a b u h = tt
counted_few at n (target.Assignable t) a b u h = search (few_if, h)
counted_few at n (target.Fixed (Some t)) a b u h = search few_if
counted_few at n (target.Fixed None) a b u h = search few_if

statements_few : (s : Scopes) (w : Context) (ss : Statements) (j : Judged Use) → Few j → Few (spec.statements s w j ss)
unfolding spec.statements
statements_few s w no_statements j f = f
statements_few s w (more_statements t ts) j f = statements_few s w ts _ (few_then (both j (spec.statement s w t)) together (λ p. few_both p.0 p.1))

starts_few : (s : Scopes) (w : Context) (is : List Start) (j : Judged Use) → Few j → Few (spec.starts s w j is)
unfolding spec.starts
starts_few s w [] j f = f
starts_few s w (i ∷ is) j f = starts_few s w is _ (few_then (both j (spec.start s w i)) together (λ p. few_both p.0 p.1))

initial_few : (at : ℕ) (o : Option ℕ) (u : Use) → u.calls ≤ 8193 → Few (spec.initial_in at o u)
initial_few at None u h = h
initial_few at (Some n) u h = tt

none_few : Few (Ok no_use)
none_few = omega arith

pub statement_few : (s : Scopes) (w : Context) (t : Statement) → Few (spec.statement s w t)
unfolding spec.statement
statement_few s w (empty at) = none_few
statement_few s w (assign at d e) = assignment_few s w at d e
statement_few s w (invoke at d es) = call_few s w at d es
statement_few s w (block at ss) = statements_few s w ss (Ok no_use) none_few
statement_few s w (cycle at ss) = statements_few s w ss (Ok no_use) none_few
statement_few s w (if_then at e t) = few_then _ (spec.test_then at) (λ p. tested_few at p.0 p.0.uses p.1)
statement_few s w (if_else at e t u) = few_then _ (spec.test_then at) (λ p. tested_few at p.0 p.0.uses p.1)
statement_few s w (while_do at e t) = few_then _ (spec.test_then at) (λ p. tested_few at p.0 p.0.uses p.1)
statement_few s w (repeat_until at ss e) = few_then _ (spec.test_last at) (λ p. tested_few at p.1 p.0 p.1.uses)
statement_few s w (for_do at i a d b t) = few_then (both (both (both (meaning_of_name s i) (expression s w false a)) (expression s w false b)) (spec.statement s w t)) (spec.count_over s w at i.at) (λ p. counted_few at i.at (spec.target_of s w p.0.0.0.named) p.0.0.1 p.0.1 _ (few_both (both_uses p.0.0.1.uses p.0.1.uses) p.1))
statement_few s w (init at is) = few_stays (spec.starts s w (Ok no_use) is) (spec.initial at w) (starts_few s w is (Ok no_use) none_few) (λ u h. initial_few at w.routine u h)
statement_few s w (case_of at e as' b) = few_then (both (expression s w false e) (spec.arms s w (Ok ([], no_use)) as')) (check_case at) (λ p. few_unless _ _ (few_both p.0.uses p.1.1))
statement_few s w (asserted at k e t) = few_then (both (spec.assertion s w e) (spec.statement s w t)) together (λ p. few_both p.0 p.1)
