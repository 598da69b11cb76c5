-- The levels of a tree's nodes: one more than the nearest statement, expression, factor after `not` or type around it.
use Rattle.std.specs.Prelude.{◌≤◌, ℕ, suc, max, Bool, true, false, List, [], ◌∷◌}
use Rattle.cp_tree.specs.Syntax.{Expression, alone, related, Sum, sum, Terms, no_terms, more_terms, Term, term, Factors, no_factors, more_factors, Factor, number, character, named, group, negated, set_of, Expressions, no_expressions, more_expressions, Designator, designator, Selectors, no_selectors, more_selectors, Selector, field, index, Start, Statement, empty, assign, invoke, block, if_then, if_else, case_of, while_do, repeat_until, for_do, cycle, init, asserted, Statements, no_statements, more_statements, Arms, no_arms, more_arms, Arm, arm, TypeTerm, simple, array_of, set_type, record_of, FieldGroups, no_fields, more_fields, FieldGroup, fields, TypeDefinition, VariableGroup, Part, constants, types, variables, Routine, Body, System, Definition, type_definition, system_definition, SystemDefinition, ProgramPart, program_constants, program_types, program_variables, Program}
use Rattle.cp_tree.specs.Spelling.{is_nameless}
use Rattle.cp_tree.specs.SpellingIndexed.{IsIndexed}

-- Each number is the greatest level in a node, where the node stands at level 1, or has no level of its own and stands
-- in no other node.

abbrev pub deepest : {A : Type 0} → (A → ℕ) → List A → ℕ
deepest depth [] = 0
deepest depth (x ∷ xs) = max (depth x) (deepest depth xs)

abbrev mutual
  pub expression_depth : Expression → ℕ
  expression_depth (alone at s) = suc (sum_depth s)
  expression_depth (related at s r t) = suc (max (sum_depth s) (sum_depth t))

  pub sum_depth : Sum → ℕ
  sum_depth (sum at o t ts) = max (term_depth t) (terms_depth ts)

  pub terms_depth : Terms → ℕ
  terms_depth no_terms = 0
  terms_depth (more_terms a t ts) = max (term_depth t) (terms_depth ts)

  pub term_depth : Term → ℕ
  term_depth (term at f fs) = max (factor_depth f) (factors_depth fs)

  pub factors_depth : Factors → ℕ
  factors_depth no_factors = 0
  factors_depth (more_factors m f fs) = max (factor_depth f) (factors_depth fs)

  -- The factor after `not` has a level; the elements of a constructor are expressions, and so have each theirs.
  pub factor_depth : Factor → ℕ
  factor_depth (number at n) = 0
  factor_depth (character at c) = 0
  factor_depth (named at d es) = max (designator_depth d) (expressions_depth es)
  factor_depth (group at e) = expression_depth e
  factor_depth (negated at f) = suc (factor_depth f)
  factor_depth (set_of at es) = expressions_depth es

  pub expressions_depth : Expressions → ℕ
  expressions_depth no_expressions = 0
  expressions_depth (more_expressions e es) = max (expression_depth e) (expressions_depth es)

  pub designator_depth : Designator → ℕ
  designator_depth (designator i ss) = selectors_depth ss

  pub selectors_depth : Selectors → ℕ
  selectors_depth no_selectors = 0
  selectors_depth (more_selectors s ss) = max (selector_depth s) (selectors_depth ss)

  pub selector_depth : Selector → ℕ
  selector_depth (field i) = 0
  selector_depth (index e) = expression_depth e

abbrev pub start_depth : Start → ℕ
start_depth s = max (designator_depth s.target) (expressions_depth s.arguments)

abbrev mutual
  pub statement_depth : Statement → ℕ
  statement_depth (empty at) = 1
  statement_depth (assign at d e) = suc (max (designator_depth d) (expression_depth e))
  statement_depth (invoke at d es) = suc (max (designator_depth d) (expressions_depth es))
  statement_depth (block at ss) = suc (statements_depth ss)
  statement_depth (if_then at e s) = suc (max (expression_depth e) (statement_depth s))
  statement_depth (if_else at e s t) = suc (max (expression_depth e) (max (statement_depth s) (statement_depth t)))
  statement_depth (case_of at e bs semicolon) = suc (max (expression_depth e) (arms_depth bs))
  statement_depth (while_do at e s) = suc (max (expression_depth e) (statement_depth s))
  statement_depth (repeat_until at ss e) = suc (max (statements_depth ss) (expression_depth e))
  statement_depth (for_do at i e d f s) = suc (max (expression_depth e) (max (expression_depth f) (statement_depth s)))
  statement_depth (cycle at ss) = suc (statements_depth ss)
  statement_depth (init at ss) = suc (deepest start_depth ss)
  -- An assertion has no level of its own: its expression is one deeper than the statement.
  statement_depth (asserted at k e s) = max (suc (expression_depth e)) (statement_depth s)

  pub statements_depth : Statements → ℕ
  statements_depth no_statements = 0
  statements_depth (more_statements s ss) = max (statement_depth s) (statements_depth ss)

  pub arms_depth : Arms → ℕ
  arms_depth no_arms = 0
  arms_depth (more_arms b bs) = max (arm_depth b) (arms_depth bs)

  pub arm_depth : Arm → ℕ
  arm_depth (arm cs s) = statement_depth s

-- The index type of an array and the base of a set have no level of their own.
abbrev mutual
  pub type_depth : TypeTerm → ℕ
  type_depth (simple at s) = 1
  type_depth (array_of at s t) = suc (type_depth t)
  type_depth (set_type at s) = 1
  type_depth (record_of at gs semicolon) = suc (field_groups_depth gs)

  pub field_groups_depth : FieldGroups → ℕ
  field_groups_depth no_fields = 0
  field_groups_depth (more_fields g gs) = max (field_group_depth g) (field_groups_depth gs)

  pub field_group_depth : FieldGroup → ℕ
  field_group_depth (fields is t) = type_depth t

abbrev pub type_definition_depth : TypeDefinition → ℕ
type_definition_depth d = type_depth d.value

abbrev pub variable_group_depth : VariableGroup → ℕ
variable_group_depth g = type_depth g.variable_type

abbrev pub part_depth : Part → ℕ
part_depth (constants at ds) = 0
part_depth (types at ds) = deepest type_definition_depth ds
part_depth (variables at gs) = deepest variable_group_depth gs

abbrev pub body_depth : Body → ℕ
body_depth b = statements_depth b.statements

-- Invariants stand in no statement.
abbrev pub invariant_depth : Statement → ℕ
invariant_depth (asserted at k e s) = max (expression_depth e) (invariant_depth s)
invariant_depth s = 0

abbrev pub invariants_depth : Statements → ℕ
invariants_depth no_statements = 0
invariants_depth (more_statements s ss) = max (invariant_depth s) (invariants_depth ss)

abbrev pub routine_depth_by : Bool → Routine → ℕ
routine_depth_by true r = invariants_depth r.body.statements
routine_depth_by false r = max (deepest part_depth r.parts) (body_depth r.body)

abbrev pub routine_depth : Routine → ℕ
routine_depth r = routine_depth_by (is_nameless r.kind) r

abbrev pub system_depth : System → ℕ
system_depth s = max (deepest part_depth s.parts) (max (deepest routine_depth s.routines) (body_depth s.body))

abbrev pub definition_depth : Definition → ℕ
definition_depth (type_definition t) = type_depth t
definition_depth (system_definition s) = system_depth s

abbrev pub system_definition_depth : SystemDefinition → ℕ
system_definition_depth d = definition_depth d.value

abbrev pub program_part_depth : ProgramPart → ℕ
program_part_depth (program_constants at ds) = 0
program_part_depth (program_types at ds) = deepest system_definition_depth ds
program_part_depth (program_variables at gs) = deepest variable_group_depth gs

abbrev pub program_depth : Program → ℕ
program_depth p = max (deepest program_part_depth p.parts) (max (deepest routine_depth p.routines) (body_depth p.body))

-- indexed, and no level over 50
pub record IsProper (p : Program) : Type 0 where
  pub indexed : IsIndexed p
  pub shallow : program_depth p ≤ 50
