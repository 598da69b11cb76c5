-- Spelling only puts tokens before those that follow.
use Rattle.std.proofs.Common.{◌≤◌, ◌<◌, Bool, true, false, List, [], ◌∷◌, length, Option, Some, None, arith}
use Rattle.cp_text.specs.declared.token.Kind.{Kind}
use Rattle.cp_text.specs.declared.token.Kind.TheVariants as kind
use Rattle.cp_text.specs.declared.token.Mark.{Mark}
use Rattle.cp_text.specs.declared.token.Mark.TheVariants as mark
use Rattle.cp_tree.specs.declared.constant.Identifier.{Identifier}
use Rattle.cp_tree.specs.declared.constant.Sign.{Sign}
use Rattle.cp_tree.specs.declared.constant.Constant.{Constant}
use Rattle.cp_tree.specs.declared.constant.ConstantKind.{ConstantKind}
use Rattle.cp_tree.specs.declared.constant.ConstantKind.TheVariants as constant_kind
use Rattle.cp_tree.specs.Syntax.{Expression, alone, related, Sum, sum, Terms, no_terms, more_terms, Term, term, Factors, no_factors, more_factors, Factor, named, group, negated, set_of, Expressions, no_expressions, more_expressions, Designator, designator, Selectors, no_selectors, more_selectors, Selector, field, index, Start, Statement, empty, assign, invoke, block, if_then, if_else, case_of, while_do, repeat_until, for_do, cycle, init, asserted, Statements, no_statements, more_statements, Arms, no_arms, more_arms, Arm, arm, Simple, type_name, enumeration, subrange, TypeTerm, simple, array_of, set_type, record_of, FieldGroups, no_fields, more_fields, FieldGroup, fields, ConstantDefinition, TypeDefinition, VariableGroup, Part, constants, types, variables, Group, ParameterGroup, RoutineKind, procedure, function, invariants, Routine, Body, System, Definition, type_definition, system_definition, SystemDefinition, ProgramPart, program_constants, program_types, program_variables}
use Rattle.cp_tree.specs.Spelling.{relation_mark, direction_mark, put_optional, put_behind, put_all, put_separated, put_identifier, put_names, put_sign, put_constant_kind, put_constant, put_expression, put_sum, put_terms, put_term, put_factors, put_factor, put_arguments, put_expressions, put_more_expressions, put_designator, put_selectors, put_selector, put_start, put_statement, put_statements, put_more_statements, put_arms, put_more_arms, put_arm, put_simple, put_type, put_field_groups, put_more_field_groups, put_field_group, put_constant_definition, put_type_definition, put_variable_group, put_part, put_group, put_parameter_group, put_parameters, put_body, put_routine_kind, is_nameless, put_named_routine, put_routine_by, put_routine, put_system, put_definition, put_system_definition, put_program_part}

-- ---- what several rules share

pub grows_optional : (m : Mark) (c : Bool) (rest : List Kind) → length rest ≤ length (put_optional m c rest)
grows_optional m true rest = omega arith
grows_optional m false rest = omega arith

pub grows_all : {A : Type 0} (put : A → List Kind → List Kind) → ((x : A) (rest : List Kind) → length rest ≤ length (put x rest)) → (xs : List A) (rest : List Kind) → length rest ≤ length (put_all put xs rest)
grows_all put grows [] rest = omega arith
grows_all put grows (x ∷ xs) rest = omega (arith, grows x (put_all put xs rest), grows_all put grows xs rest)

pub grows_behind : {A : Type 0} (m : Mark) (put : A → List Kind → List Kind) → ((x : A) (rest : List Kind) → length rest ≤ length (put x rest)) → (x : A) (rest : List Kind) → length rest ≤ length (put_behind m put x rest)
grows_behind m put grows x rest = omega (arith, grows x rest)

pub grows_separated : {A : Type 0} (m : Mark) (put : A → List Kind → List Kind) → ((x : A) (rest : List Kind) → length rest ≤ length (put x rest)) → (xs : List A) (rest : List Kind) → length rest ≤ length (put_separated m put xs rest)
grows_separated m put grows [] rest = omega arith
grows_separated m put grows (x ∷ xs) rest = omega (arith, grows x (put_all (put_behind m put) xs rest), grows_all (put_behind m put) (grows_behind m put grows) xs rest)

pub grows_parameters : {A : Type 0} (put : A → List Kind → List Kind) → ((x : A) (rest : List Kind) → length rest ≤ length (put x rest)) → (xs : List A) (rest : List Kind) → length rest ≤ length (put_parameters put xs rest)
grows_parameters put grows [] rest = omega arith
grows_parameters put grows (x ∷ xs) rest = omega (arith, grows_separated mark.Semicolon put grows (x ∷ xs) (kind.Mark mark.CloseParenthesis ∷ rest))

-- ---- names and constants

pub grows_identifier : (i : Identifier) (rest : List Kind) → length rest ≤ length (put_identifier i rest)
grows_identifier i rest = omega arith

pub grows_names : (xs : List Identifier) (rest : List Kind) → length rest ≤ length (put_names xs rest)
grows_names xs rest = grows_separated mark.Comma put_identifier grows_identifier xs rest

grows_sign : (o : Option Sign) (rest : List Kind) → length rest ≤ length (put_sign o rest)
grows_sign None rest = omega arith
grows_sign (Some s) rest = omega arith

grows_constant_kind : (c : ConstantKind) (rest : List Kind) → length rest ≤ length (put_constant_kind c rest)
grows_constant_kind (constant_kind.Number o n) rest = omega (arith, grows_sign o (kind.Number n ∷ rest))
grows_constant_kind (constant_kind.Name o i) rest = omega (arith, grows_sign o (put_identifier i rest))
grows_constant_kind (constant_kind.Character c) rest = omega arith

-- ---- the other rules

pub grows_constant : (x : Constant) (rest : List Kind) → length rest ≤ length (put_constant x rest)
grows_constant c rest = omega (arith, grows_constant_kind c.kind rest)

mutual
  pub grows_expression : (x : Expression) (rest : List Kind) → length rest ≤ length (put_expression x rest)
  grows_expression (alone at s) rest = omega (arith, grows_sum s rest)
  grows_expression (related at s r t) rest = omega (arith, grows_sum s (kind.Mark (relation_mark r) ∷ put_sum t rest), grows_sum t rest)

  pub grows_sum : (x : Sum) (rest : List Kind) → length rest ≤ length (put_sum x rest)
  grows_sum (sum at o t ts) rest = omega (arith, grows_sign o (put_term t (put_terms ts rest)), grows_term t (put_terms ts rest), grows_terms ts rest)

  pub grows_terms : (x : Terms) (rest : List Kind) → length rest ≤ length (put_terms x rest)
  grows_terms no_terms rest = omega arith
  grows_terms (more_terms a t ts) rest = omega (arith, grows_term t (put_terms ts rest), grows_terms ts rest)

  pub grows_term : (x : Term) (rest : List Kind) → length rest ≤ length (put_term x rest)
  grows_term (term at f fs) rest = omega (arith, grows_factor f (put_factors fs rest), grows_factors fs rest)

  pub grows_factors : (x : Factors) (rest : List Kind) → length rest ≤ length (put_factors x rest)
  grows_factors no_factors rest = omega arith
  grows_factors (more_factors m f fs) rest = omega (arith, grows_factor f (put_factors fs rest), grows_factors fs rest)

  pub grows_factor : (x : Factor) (rest : List Kind) → length rest ≤ length (put_factor x rest)
  grows_factor (named at d es) rest = omega (arith, grows_designator d (put_arguments es rest), grows_arguments es rest)
  grows_factor (group at e) rest = omega (arith, grows_expression e (kind.Mark mark.CloseParenthesis ∷ rest))
  grows_factor (negated at f) rest = omega (arith, grows_factor f rest)
  grows_factor (set_of at es) rest = omega (arith, grows_expressions es (kind.Mark mark.CloseBracket ∷ rest))
  grows_factor _ rest = omega arith

  pub grows_arguments : (x : Expressions) (rest : List Kind) → length rest ≤ length (put_arguments x rest)
  grows_arguments no_expressions rest = omega arith
  grows_arguments (more_expressions e es) rest = omega (arith, grows_expression e (put_more_expressions es (kind.Mark mark.CloseParenthesis ∷ rest)), grows_more_expressions es (kind.Mark mark.CloseParenthesis ∷ rest))

  pub grows_expressions : (x : Expressions) (rest : List Kind) → length rest ≤ length (put_expressions x rest)
  grows_expressions no_expressions rest = omega arith
  grows_expressions (more_expressions e es) rest = omega (arith, grows_expression e (put_more_expressions es rest), grows_more_expressions es rest)

  pub grows_more_expressions : (x : Expressions) (rest : List Kind) → length rest ≤ length (put_more_expressions x rest)
  grows_more_expressions no_expressions rest = omega arith
  grows_more_expressions (more_expressions e es) rest = omega (arith, grows_expression e (put_more_expressions es rest), grows_more_expressions es rest)

  pub grows_designator : (x : Designator) (rest : List Kind) → length rest ≤ length (put_designator x rest)
  grows_designator (designator i ss) rest = omega (arith, grows_selectors ss rest)

  pub grows_selectors : (x : Selectors) (rest : List Kind) → length rest ≤ length (put_selectors x rest)
  grows_selectors no_selectors rest = omega arith
  grows_selectors (more_selectors s ss) rest = omega (arith, grows_selector s (put_selectors ss rest), grows_selectors ss rest)

  pub grows_selector : (x : Selector) (rest : List Kind) → length rest ≤ length (put_selector x rest)
  grows_selector (field i) rest = omega arith
  grows_selector (index e) rest = omega (arith, grows_expression e (kind.Mark mark.CloseBracket ∷ rest))

pub grows_start : (x : Start) (rest : List Kind) → length rest ≤ length (put_start x rest)
grows_start s rest = omega (arith, grows_designator s.target (put_arguments s.arguments rest), grows_arguments s.arguments rest)

mutual
  pub grows_statement : (x : Statement) (rest : List Kind) → length rest ≤ length (put_statement x rest)
  grows_statement (empty at) rest = omega arith
  grows_statement (assign at d e) rest = omega (arith, grows_designator d (kind.Mark mark.Becomes ∷ put_expression e rest), grows_expression e rest)
  grows_statement (invoke at d es) rest = omega (arith, grows_designator d (put_arguments es rest), grows_arguments es rest)
  grows_statement (block at ss) rest = omega (arith, grows_statements ss (kind.Mark mark.End ∷ rest))
  grows_statement (if_then at e s) rest = omega (arith, grows_expression e (kind.Mark mark.Then ∷ put_statement s rest), grows_statement s rest)
  grows_statement (if_else at e s t) rest = omega (arith, grows_expression e (kind.Mark mark.Then ∷ put_statement s (kind.Mark mark.Else ∷ put_statement t rest)), grows_statement s (kind.Mark mark.Else ∷ put_statement t rest), grows_statement t rest)
  grows_statement (case_of at e bs semicolon) rest = omega (arith, grows_expression e (kind.Mark mark.Of ∷ put_arms bs (put_optional mark.Semicolon semicolon (kind.Mark mark.End ∷ rest))), grows_arms bs (put_optional mark.Semicolon semicolon (kind.Mark mark.End ∷ rest)), grows_optional mark.Semicolon semicolon (kind.Mark mark.End ∷ rest))
  grows_statement (while_do at e s) rest = omega (arith, grows_expression e (kind.Mark mark.Do ∷ put_statement s rest), grows_statement s rest)
  grows_statement (repeat_until at ss e) rest = omega (arith, grows_statements ss (kind.Mark mark.Until ∷ put_expression e rest), grows_expression e rest)
  grows_statement (for_do at i e d f s) rest = omega (arith, grows_expression e (kind.Mark (direction_mark d) ∷ put_expression f (kind.Mark mark.Do ∷ put_statement s rest)), grows_expression f (kind.Mark mark.Do ∷ put_statement s rest), grows_statement s rest)
  grows_statement (cycle at ss) rest = omega (arith, grows_statements ss (kind.Mark mark.End ∷ rest))
  grows_statement (init at ss) rest = omega (arith, grows_separated mark.Comma put_start grows_start ss rest)
  grows_statement (asserted at k e s) rest = omega (arith, grows_expression e (kind.Mark mark.Closes ∷ put_statement s rest), grows_statement s rest)

  pub grows_statements : (x : Statements) (rest : List Kind) → length rest ≤ length (put_statements x rest)
  grows_statements no_statements rest = omega arith
  grows_statements (more_statements s ss) rest = omega (arith, grows_statement s (put_more_statements ss rest), grows_more_statements ss rest)

  pub grows_more_statements : (x : Statements) (rest : List Kind) → length rest ≤ length (put_more_statements x rest)
  grows_more_statements no_statements rest = omega arith
  grows_more_statements (more_statements s ss) rest = omega (arith, grows_statement s (put_more_statements ss rest), grows_more_statements ss rest)

  pub grows_arms : (x : Arms) (rest : List Kind) → length rest ≤ length (put_arms x rest)
  grows_arms no_arms rest = omega arith
  grows_arms (more_arms b bs) rest = omega (arith, grows_arm b (put_more_arms bs rest), grows_more_arms bs rest)

  pub grows_more_arms : (x : Arms) (rest : List Kind) → length rest ≤ length (put_more_arms x rest)
  grows_more_arms no_arms rest = omega arith
  grows_more_arms (more_arms b bs) rest = omega (arith, grows_arm b (put_more_arms bs rest), grows_more_arms bs rest)

  pub grows_arm : (x : Arm) (rest : List Kind) → length rest ≤ length (put_arm x rest)
  grows_arm (arm cs s) rest = omega (arith, grows_separated mark.Comma put_constant grows_constant cs (kind.Mark mark.Colon ∷ put_statement s rest), grows_statement s rest)

pub grows_simple : (x : Simple) (rest : List Kind) → length rest ≤ length (put_simple x rest)
grows_simple (type_name at n) rest = omega arith
grows_simple (enumeration at is) rest = omega (arith, grows_names is (kind.Mark mark.CloseParenthesis ∷ rest))
grows_simple (subrange at c d) rest = omega (arith, grows_constant c (kind.Mark mark.DoublePeriod ∷ put_constant d rest), grows_constant d rest)

mutual
  pub grows_type : (x : TypeTerm) (rest : List Kind) → length rest ≤ length (put_type x rest)
  grows_type (simple at s) rest = omega (arith, grows_simple s rest)
  grows_type (array_of at s t) rest = omega (arith, grows_simple s (kind.Mark mark.CloseBracket ∷ kind.Mark mark.Of ∷ put_type t rest), grows_type t rest)
  grows_type (set_type at s) rest = omega (arith, grows_simple s rest)
  grows_type (record_of at gs semicolon) rest = omega (arith, grows_field_groups gs (put_optional mark.Semicolon semicolon (kind.Mark mark.End ∷ rest)), grows_optional mark.Semicolon semicolon (kind.Mark mark.End ∷ rest))

  pub grows_field_groups : (x : FieldGroups) (rest : List Kind) → length rest ≤ length (put_field_groups x rest)
  grows_field_groups no_fields rest = omega arith
  grows_field_groups (more_fields g gs) rest = omega (arith, grows_field_group g (put_more_field_groups gs rest), grows_more_field_groups gs rest)

  pub grows_more_field_groups : (x : FieldGroups) (rest : List Kind) → length rest ≤ length (put_more_field_groups x rest)
  grows_more_field_groups no_fields rest = omega arith
  grows_more_field_groups (more_fields g gs) rest = omega (arith, grows_field_group g (put_more_field_groups gs rest), grows_more_field_groups gs rest)

  pub grows_field_group : (x : FieldGroup) (rest : List Kind) → length rest ≤ length (put_field_group x rest)
  grows_field_group (fields is t) rest = omega (arith, grows_names is (kind.Mark mark.Colon ∷ put_type t rest), grows_type t rest)

pub grows_constant_definition : (x : ConstantDefinition) (rest : List Kind) → length rest ≤ length (put_constant_definition x rest)
grows_constant_definition d rest = omega (arith, grows_constant d.value (kind.Mark mark.Semicolon ∷ rest))

pub grows_type_definition : (x : TypeDefinition) (rest : List Kind) → length rest ≤ length (put_type_definition x rest)
grows_type_definition d rest = omega (arith, grows_type d.value (kind.Mark mark.Semicolon ∷ rest))

pub grows_variable_group : (x : VariableGroup) (rest : List Kind) → length rest ≤ length (put_variable_group x rest)
grows_variable_group g rest = omega (arith, grows_names g.names (kind.Mark mark.Colon ∷ put_type g.variable_type (kind.Mark mark.Semicolon ∷ rest)), grows_type g.variable_type (kind.Mark mark.Semicolon ∷ rest))

pub grows_part : (x : Part) (rest : List Kind) → length rest ≤ length (put_part x rest)
grows_part (constants at ds) rest = omega (arith, grows_all put_constant_definition grows_constant_definition ds rest)
grows_part (types at ds) rest = omega (arith, grows_all put_type_definition grows_type_definition ds rest)
grows_part (variables at gs) rest = omega (arith, grows_all put_variable_group grows_variable_group gs rest)

pub grows_group : (x : Group) (rest : List Kind) → length rest ≤ length (put_group x rest)
grows_group g rest = omega (arith, grows_names g.names (kind.Mark mark.Colon ∷ put_identifier g.type_name rest))

pub grows_parameter_group : (x : ParameterGroup) (rest : List Kind) → length rest ≤ length (put_parameter_group x rest)
grows_parameter_group g rest = omega (arith, grows_optional mark.Var g.is_var (put_group g.group rest), grows_group g.group rest)

pub grows_body : (x : Body) (rest : List Kind) → length rest ≤ length (put_body x rest)
grows_body b rest = omega (arith, grows_statements b.statements (kind.Mark mark.End ∷ rest))

pub grows_routine_kind : (x : RoutineKind) (rest : List Kind) → length rest ≤ length (put_routine_kind x rest)
grows_routine_kind (procedure gs) rest = omega (arith, grows_parameters put_parameter_group grows_parameter_group gs rest)
grows_routine_kind (function gs i) rest = omega (arith, grows_parameters put_group grows_group gs (kind.Mark mark.Colon ∷ put_identifier i rest))
grows_routine_kind invariants rest = omega arith

pub grows_named_routine : (x : Routine) (rest : List Kind) → length rest ≤ length (put_named_routine x rest)
grows_named_routine r rest = omega (arith, grows_optional mark.Entry r.is_entry (put_identifier r.name (put_routine_kind r.kind (kind.Mark mark.Semicolon ∷ put_all put_part r.parts (put_body r.body (kind.Mark mark.Semicolon ∷ rest))))), grows_routine_kind r.kind (kind.Mark mark.Semicolon ∷ put_all put_part r.parts (put_body r.body (kind.Mark mark.Semicolon ∷ rest))), grows_all put_part grows_part r.parts (put_body r.body (kind.Mark mark.Semicolon ∷ rest)), grows_body r.body (kind.Mark mark.Semicolon ∷ rest))

grows_routine_by : (c : Bool) (x : Routine) (rest : List Kind) → length rest ≤ length (put_routine_by c x rest)
grows_routine_by true r rest = grows_statements r.body.statements rest
grows_routine_by false r rest = grows_named_routine r rest

pub grows_routine : (x : Routine) (rest : List Kind) → length rest ≤ length (put_routine x rest)
grows_routine r rest = grows_routine_by (is_nameless r.kind) r rest

pub grows_system : (x : System) (rest : List Kind) → length rest ≤ length (put_system x rest)
grows_system s rest = omega (arith, grows_parameters put_group grows_group s.parameters (put_optional mark.Semicolon s.has_semicolon (put_all put_part s.parts (put_all put_routine s.routines (put_body s.body rest)))), grows_optional mark.Semicolon s.has_semicolon (put_all put_part s.parts (put_all put_routine s.routines (put_body s.body rest))), grows_all put_part grows_part s.parts (put_all put_routine s.routines (put_body s.body rest)), grows_all put_routine grows_routine s.routines (put_body s.body rest), grows_body s.body rest)

pub grows_definition : (x : Definition) (rest : List Kind) → length rest ≤ length (put_definition x rest)
grows_definition (type_definition t) rest = omega (arith, grows_type t rest)
grows_definition (system_definition s) rest = omega (arith, grows_system s rest)

pub grows_system_definition : (x : SystemDefinition) (rest : List Kind) → length rest ≤ length (put_system_definition x rest)
grows_system_definition d rest = omega (arith, grows_definition d.value (kind.Mark mark.Semicolon ∷ rest))

pub grows_program_part : (x : ProgramPart) (rest : List Kind) → length rest ≤ length (put_program_part x rest)
grows_program_part (program_constants at ds) rest = omega (arith, grows_all put_constant_definition grows_constant_definition ds rest)
grows_program_part (program_types at ds) rest = omega (arith, grows_all put_system_definition grows_system_definition ds rest)
grows_program_part (program_variables at gs) rest = omega (arith, grows_all put_variable_group grows_variable_group gs rest)

-- ---- at least one token

pub exceeds_constant_definition : (x : ConstantDefinition) (rest : List Kind) → length rest < length (put_constant_definition x rest)
exceeds_constant_definition d rest = omega (arith, grows_constant d.value (kind.Mark mark.Semicolon ∷ rest))

pub exceeds_type_definition : (x : TypeDefinition) (rest : List Kind) → length rest < length (put_type_definition x rest)
exceeds_type_definition d rest = omega (arith, grows_type d.value (kind.Mark mark.Semicolon ∷ rest))

pub exceeds_variable_group : (x : VariableGroup) (rest : List Kind) → length rest < length (put_variable_group x rest)
exceeds_variable_group g rest = omega (arith, grows_names g.names (kind.Mark mark.Colon ∷ put_type g.variable_type (kind.Mark mark.Semicolon ∷ rest)), grows_type g.variable_type (kind.Mark mark.Semicolon ∷ rest))

pub exceeds_part : (x : Part) (rest : List Kind) → length rest < length (put_part x rest)
exceeds_part (constants at ds) rest = omega (arith, grows_all put_constant_definition grows_constant_definition ds rest)
exceeds_part (types at ds) rest = omega (arith, grows_all put_type_definition grows_type_definition ds rest)
exceeds_part (variables at gs) rest = omega (arith, grows_all put_variable_group grows_variable_group gs rest)

pub exceeds_named_routine : (x : Routine) (rest : List Kind) → length rest < length (put_named_routine x rest)
exceeds_named_routine r rest = omega (arith, grows_optional mark.Entry r.is_entry (put_identifier r.name (put_routine_kind r.kind (kind.Mark mark.Semicolon ∷ put_all put_part r.parts (put_body r.body (kind.Mark mark.Semicolon ∷ rest))))), grows_routine_kind r.kind (kind.Mark mark.Semicolon ∷ put_all put_part r.parts (put_body r.body (kind.Mark mark.Semicolon ∷ rest))), grows_all put_part grows_part r.parts (put_body r.body (kind.Mark mark.Semicolon ∷ rest)), grows_body r.body (kind.Mark mark.Semicolon ∷ rest))

pub exceeds_system_definition : (x : SystemDefinition) (rest : List Kind) → length rest < length (put_system_definition x rest)
exceeds_system_definition d rest = omega (arith, grows_definition d.value (kind.Mark mark.Semicolon ∷ rest))

pub exceeds_program_part : (x : ProgramPart) (rest : List Kind) → length rest < length (put_program_part x rest)
exceeds_program_part (program_constants at ds) rest = omega (arith, grows_all put_constant_definition grows_constant_definition ds rest)
exceeds_program_part (program_types at ds) rest = omega (arith, grows_all put_system_definition grows_system_definition ds rest)
exceeds_program_part (program_variables at gs) rest = omega (arith, grows_all put_variable_group grows_variable_group gs rest)
