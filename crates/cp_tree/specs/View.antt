-- The syntax that a tree of the program stands for, without where it lies in memory.
use Rattle.std.specs.Prelude.{ℕ, List, [], ◌∷◌, map, Option, Some, None}
use Rattle.cp_tree.specs.declared.expression.Relation.{Relation}
use Rattle.cp_tree.specs.declared.expression.Addition.{Addition}
use Rattle.cp_tree.specs.declared.expression.Multiplication.{Multiplication}
use Rattle.cp_tree.specs.declared.expression.Expression as tree_expression
use Rattle.cp_tree.specs.declared.expression.Sum as tree_sum
use Rattle.cp_tree.specs.declared.expression.Term as tree_term
use Rattle.cp_tree.specs.declared.expression.Factor as tree_factor
use Rattle.cp_tree.specs.declared.expression.Designator as tree_designator
use Rattle.cp_tree.specs.declared.expression.Selector as tree_selector
use Rattle.cp_tree.specs.declared.expression.FactorKind.TheOpen.{FactorKind-F, Selector-F, Designator-F, Expression-F, Factor-F, Sum-F, Term-F}
use Rattle.cp_tree.specs.declared.statement.AssertionKind.{AssertionKind}
use Rattle.cp_tree.specs.declared.statement.Statement as tree_statement
use Rattle.cp_tree.specs.declared.statement.Arm as tree_arm
use Rattle.cp_tree.specs.declared.statement.Start as tree_start
use Rattle.cp_tree.specs.declared.statement.StatementKind.TheOpen.{StatementKind-F, Arm-F, Statement-F}
use Rattle.cp_tree.specs.declared.types.Type as tree_type
use Rattle.cp_tree.specs.declared.types.FieldGroup as tree_field_group
use Rattle.cp_tree.specs.declared.types.Simple as tree_simple
use Rattle.cp_tree.specs.declared.types.SimpleKind.{SimpleKind}
use Rattle.cp_tree.specs.declared.types.SimpleKind.TheVariants as simple_kind
use Rattle.cp_tree.specs.declared.types.TypeKind.TheOpen.{TypeKind-F, FieldGroup-F, Type-F}
use Rattle.cp_tree.specs.declared.declaration.ConstantDefinition as tree_constant_definition
use Rattle.cp_tree.specs.declared.declaration.TypeDefinition as tree_type_definition
use Rattle.cp_tree.specs.declared.declaration.VariableGroup as tree_variable_group
use Rattle.cp_tree.specs.declared.declaration.Part as tree_part
use Rattle.cp_tree.specs.declared.declaration.PartKind.{PartKind}
use Rattle.cp_tree.specs.declared.declaration.PartKind.TheVariants as part_kind
use Rattle.cp_tree.specs.declared.declaration.Group as tree_group
use Rattle.cp_tree.specs.declared.declaration.ParameterGroup as tree_parameter_group
use Rattle.cp_tree.specs.declared.declaration.RoutineKind as tree_routine_kind
use Rattle.cp_tree.specs.declared.declaration.RoutineKind.TheVariants as routine_kind
use Rattle.cp_tree.specs.declared.declaration.Routine as tree_routine
use Rattle.cp_tree.specs.declared.declaration.Body as tree_body
use Rattle.cp_tree.specs.declared.declaration.System as tree_system
use Rattle.cp_tree.specs.declared.declaration.Definition as tree_definition
use Rattle.cp_tree.specs.declared.declaration.Definition.TheVariants as definition
use Rattle.cp_tree.specs.declared.declaration.SystemDefinition as tree_system_definition
use Rattle.cp_tree.specs.declared.declaration.ProgramPart as tree_program_part
use Rattle.cp_tree.specs.declared.declaration.ProgramPartKind.{ProgramPartKind}
use Rattle.cp_tree.specs.declared.declaration.ProgramPartKind.TheVariants as program_part_kind
use Rattle.cp_tree.specs.declared.declaration.Program as tree_program
use Rattle.cp_tree.specs.Syntax.{Expression, alone, related, Sum, sum, Terms, no_terms, more_terms, Term, term, Factors, no_factors, more_factors, Factor, number, character, named, group, negated, set_of, Expressions, no_expressions, more_expressions, Designator, designator, Selectors, no_selectors, more_selectors, Selector, field, index, Start, Statement, empty, assign, invoke, block, if_then, if_else, case_of, while_do, repeat_until, for_do, cycle, init, asserted, Statements, no_statements, more_statements, Arms, no_arms, more_arms, Arm, arm, Simple, type_name, enumeration, subrange, TypeTerm, simple, array_of, set_type, record_of, FieldGroups, no_fields, more_fields, FieldGroup, fields, ConstantDefinition, TypeDefinition, VariableGroup, Part, constants, types, variables, Group, ParameterGroup, RoutineKind, procedure, function, invariants, Routine, Body, System, Definition, type_definition, system_definition, SystemDefinition, ProgramPart, program_constants, program_types, program_variables, Program}

-- ---- expressions

abbrev pub expressions_of : List Expression → Expressions
expressions_of [] = no_expressions
expressions_of (e ∷ es) = more_expressions e (expressions_of es)

abbrev pub selectors_of : List Selector → Selectors
selectors_of [] = no_selectors
selectors_of (s ∷ ss) = more_selectors s (selectors_of ss)

abbrev pub factors_of : List (Multiplication × Factor) → Factors
factors_of [] = no_factors
factors_of (f ∷ fs) = more_factors f.0 f.1 (factors_of fs)

abbrev pub terms_of : List (Addition × Term) → Terms
terms_of [] = no_terms
terms_of (t ∷ ts) = more_terms t.0 t.1 (terms_of ts)

abbrev pub expression_of : ℕ → Sum → Option (Relation × Sum) → Expression
expression_of at left None = alone at left
expression_of at left (Some r) = related at left r.0 r.1

-- one level, with each part already seen as its syntax
abbrev pub factor_kind_step : FactorKind-F (ℕ → Factor) Selector Designator Expression Factor Sum Term → ℕ → Factor
factor_kind_step (FactorKind-F.Number n) = λ at. number at n
factor_kind_step (FactorKind-F.Character c) = λ at. character at c
factor_kind_step (FactorKind-F.Named d es) = λ at. named at d (expressions_of es.items)
factor_kind_step (FactorKind-F.Group e) = λ at. group at e.value
factor_kind_step (FactorKind-F.Not f) = λ at. negated at f.value
factor_kind_step (FactorKind-F.Set es) = λ at. set_of at (expressions_of es.items)

abbrev pub selector_step : Selector-F (ℕ → Factor) Selector Designator Expression Factor Sum Term → Selector
selector_step (Selector-F.Field i) = field i
selector_step (Selector-F.Index e) = index e

abbrev pub designator_step : Designator-F (ℕ → Factor) Selector Designator Expression Factor Sum Term → Designator
designator_step d = designator d.name (selectors_of d.selectors.items)

abbrev pub expression_step : Expression-F (ℕ → Factor) Selector Designator Expression Factor Sum Term → Expression
expression_step e = expression_of e.at e.left e.right

abbrev pub factor_step : Factor-F (ℕ → Factor) Selector Designator Expression Factor Sum Term → Factor
factor_step f = f.kind f.at

abbrev pub sum_step : Sum-F (ℕ → Factor) Selector Designator Expression Factor Sum Term → Sum
sum_step s = sum s.at s.sign s.first (terms_of s.more.items)

abbrev pub term_step : Term-F (ℕ → Factor) Selector Designator Expression Factor Sum Term → Term
term_step t = term t.at t.first (factors_of t.more.items)

abbrev pub expression_view : tree_expression.Expression → Expression
expression_view = tree_expression.fold-Expression (ℕ → Factor) Selector Designator Expression Factor Sum Term factor_kind_step selector_step designator_step expression_step factor_step sum_step term_step

abbrev pub sum_view : tree_sum.Sum → Sum
sum_view = tree_sum.fold-Sum (ℕ → Factor) Selector Designator Expression Factor Sum Term factor_kind_step selector_step designator_step expression_step factor_step sum_step term_step

abbrev pub term_view : tree_term.Term → Term
term_view = tree_term.fold-Term (ℕ → Factor) Selector Designator Expression Factor Sum Term factor_kind_step selector_step designator_step expression_step factor_step sum_step term_step

abbrev pub factor_view : tree_factor.Factor → Factor
factor_view = tree_factor.fold-Factor (ℕ → Factor) Selector Designator Expression Factor Sum Term factor_kind_step selector_step designator_step expression_step factor_step sum_step term_step

abbrev pub designator_view : tree_designator.Designator → Designator
designator_view = tree_designator.fold-Designator (ℕ → Factor) Selector Designator Expression Factor Sum Term factor_kind_step selector_step designator_step expression_step factor_step sum_step term_step

abbrev pub selector_view : tree_selector.Selector → Selector
selector_view = tree_selector.fold-Selector (ℕ → Factor) Selector Designator Expression Factor Sum Term factor_kind_step selector_step designator_step expression_step factor_step sum_step term_step

abbrev pub expressions_view : List tree_expression.Expression → List Expression
expressions_view = map expression_view

abbrev pub selectors_view : List tree_selector.Selector → List Selector
selectors_view = map selector_view

abbrev pub factors_view : List (Multiplication × tree_factor.Factor) → List (Multiplication × Factor)
factors_view = map (λ f. (f.0, factor_view f.1))

abbrev pub terms_view : List (Addition × tree_term.Term) → List (Addition × Term)
terms_view = map (λ t. (t.0, term_view t.1))

-- ---- statements

abbrev pub start_view : tree_start.Start → Start
start_view s = record { target = designator_view s.target; arguments = expressions_of (expressions_view s.arguments.items) }

abbrev pub statements_of : List Statement → Statements
statements_of [] = no_statements
statements_of (s ∷ ss) = more_statements s (statements_of ss)

abbrev pub expression_at : Expression → ℕ
expression_at (alone at a) = at
expression_at (related at a r b) = at

-- a statement with what is said before it
abbrev pub asserted_of : AssertionKind → List Expression → Statement → Statement
asserted_of k [] s = s
asserted_of k (e ∷ es) s = asserted (expression_at e) k e (asserted_of k es s)

abbrev pub arms_of : List Arm → Arms
arms_of [] = no_arms
arms_of (a ∷ as') = more_arms a (arms_of as')

abbrev pub statement_kind_step : StatementKind-F (ℕ → Statement) Arm Statement → ℕ → Statement
statement_kind_step StatementKind-F.Empty = λ at. empty at
statement_kind_step (StatementKind-F.Assign d e) = λ at. assign at (designator_view d) (expression_view e)
statement_kind_step (StatementKind-F.Call d es) = λ at. invoke at (designator_view d) (expressions_of (expressions_view es.items))
statement_kind_step (StatementKind-F.Block ss) = λ at. block at (statements_of ss.items)
statement_kind_step (StatementKind-F.If e s None) = λ at. if_then at (expression_view e) s.value
statement_kind_step (StatementKind-F.If e s (Some t)) = λ at. if_else at (expression_view e) s.value t.value
statement_kind_step (StatementKind-F.Case e bs b) = λ at. case_of at (expression_view e) (arms_of bs.items) b
statement_kind_step (StatementKind-F.While e s) = λ at. while_do at (expression_view e) s.value
statement_kind_step (StatementKind-F.Repeat ss e) = λ at. repeat_until at (statements_of ss.items) (expression_view e)
statement_kind_step (StatementKind-F.For i e d f s) = λ at. for_do at i (expression_view e) d (expression_view f) s.value
statement_kind_step (StatementKind-F.Cycle ss) = λ at. cycle at (statements_of ss.items)
statement_kind_step (StatementKind-F.Init ss) = λ at. init at (map start_view ss.items)
statement_kind_step (StatementKind-F.Asserted k es s) = λ at. asserted_of k (expressions_view es.items) s.value

abbrev pub arm_step : Arm-F (ℕ → Statement) Arm Statement → Arm
arm_step a = arm a.labels.items a.body

abbrev pub statement_step : Statement-F (ℕ → Statement) Arm Statement → Statement
statement_step s = s.kind s.at

abbrev pub statement_view : tree_statement.Statement → Statement
statement_view = tree_statement.fold-Statement (ℕ → Statement) Arm Statement statement_kind_step arm_step statement_step

abbrev pub arm_view : tree_arm.Arm → Arm
arm_view = tree_arm.fold-Arm (ℕ → Statement) Arm Statement statement_kind_step arm_step statement_step

abbrev pub statements_view : List tree_statement.Statement → List Statement
statements_view = map statement_view

abbrev pub arms_view : List tree_arm.Arm → List Arm
arms_view = map arm_view

-- ---- types

abbrev pub simple_of : ℕ → SimpleKind → Simple
simple_of at (simple_kind.Name n) = type_name at n
simple_of at (simple_kind.Enumeration is) = enumeration at is.items
simple_of at (simple_kind.Subrange c d) = subrange at c d

abbrev pub simple_view : tree_simple.Simple → Simple
simple_view s = simple_of s.at s.kind

abbrev pub field_groups_of : List FieldGroup → FieldGroups
field_groups_of [] = no_fields
field_groups_of (g ∷ gs) = more_fields g (field_groups_of gs)

abbrev pub type_kind_step : TypeKind-F (ℕ → TypeTerm) FieldGroup TypeTerm → ℕ → TypeTerm
type_kind_step (TypeKind-F.Simple s) = λ at. simple at (simple_view s)
type_kind_step (TypeKind-F.Array s t) = λ at. array_of at (simple_view s) t.value
type_kind_step (TypeKind-F.Set s) = λ at. set_type at (simple_view s)
type_kind_step (TypeKind-F.Record gs b) = λ at. record_of at (field_groups_of gs.items) b

abbrev pub field_group_step : FieldGroup-F (ℕ → TypeTerm) FieldGroup TypeTerm → FieldGroup
field_group_step g = fields g.names.items g.field_type

abbrev pub type_step : Type-F (ℕ → TypeTerm) FieldGroup TypeTerm → TypeTerm
type_step t = t.kind t.at

abbrev pub type_view : tree_type.Type → TypeTerm
type_view = tree_type.fold-Type (ℕ → TypeTerm) FieldGroup TypeTerm type_kind_step field_group_step type_step

abbrev pub field_group_view : tree_field_group.FieldGroup → FieldGroup
field_group_view = tree_field_group.fold-FieldGroup (ℕ → TypeTerm) FieldGroup TypeTerm type_kind_step field_group_step type_step

abbrev pub field_groups_view : List tree_field_group.FieldGroup → List FieldGroup
field_groups_view = map field_group_view

-- ---- declarations

abbrev pub constant_definition_view : tree_constant_definition.ConstantDefinition → ConstantDefinition
constant_definition_view d = record { name = d.name; value = d.value }

abbrev pub type_definition_view : tree_type_definition.TypeDefinition → TypeDefinition
type_definition_view d = record { name = d.name; value = type_view d.value }

abbrev pub variable_group_view : tree_variable_group.VariableGroup → VariableGroup
variable_group_view g = record { names = g.names.items; variable_type = type_view g.variable_type }

abbrev pub part_of : ℕ → PartKind → Part
part_of at (part_kind.Constants ds) = constants at (map constant_definition_view ds.items)
part_of at (part_kind.Types ds) = types at (map type_definition_view ds.items)
part_of at (part_kind.Variables gs) = variables at (map variable_group_view gs.items)

abbrev pub part_view : tree_part.Part → Part
part_view p = part_of p.at p.kind

abbrev pub group_view : tree_group.Group → Group
group_view g = record { names = g.names.items; type_name = g.type_name }

abbrev pub parameter_group_view : tree_parameter_group.ParameterGroup → ParameterGroup
parameter_group_view g = record { at = g.at; is_var = g.is_var; group = group_view g.group }

abbrev pub routine_kind_view : tree_routine_kind.RoutineKind → RoutineKind
routine_kind_view (routine_kind.Procedure gs) = procedure (map parameter_group_view gs.items)
routine_kind_view (routine_kind.Function gs i) = function (map group_view gs.items) i
routine_kind_view routine_kind.Invariants = invariants

abbrev pub body_view : tree_body.Body → Body
body_view b = record { at = b.at; statements = statements_of (statements_view b.statements.items) }

abbrev pub routine_view : tree_routine.Routine → Routine
routine_view r = record { at = r.at; is_entry = r.is_entry; name = r.name; kind = routine_kind_view r.kind; parts = map part_view r.parts.items; body = body_view r.body }

abbrev pub system_view : tree_system.System → System
system_view s = record { at = s.at; kind = s.kind; parameters = map group_view s.parameters.items; has_semicolon = s.has_semicolon; parts = map part_view s.parts.items; routines = map routine_view s.routines.items; body = body_view s.body }

abbrev pub definition_view : tree_definition.Definition → Definition
definition_view (definition.Type t) = type_definition (type_view t)
definition_view (definition.System s) = system_definition (system_view s)

abbrev pub system_definition_view : tree_system_definition.SystemDefinition → SystemDefinition
system_definition_view d = record { name = d.name; value = definition_view d.value }

abbrev pub program_part_of : ℕ → ProgramPartKind → ProgramPart
program_part_of at (program_part_kind.Constants ds) = program_constants at (map constant_definition_view ds.items)
program_part_of at (program_part_kind.Types ds) = program_types at (map system_definition_view ds.items)
program_part_of at (program_part_kind.Variables gs) = program_variables at (map variable_group_view gs.items)

abbrev pub program_part_view : tree_program_part.ProgramPart → ProgramPart
program_part_view p = program_part_of p.at p.kind

abbrev pub program_view : tree_program.Program → Program
program_view p = record { parts = map program_part_view p.parts.items; routines = map routine_view p.routines.items; body = body_view p.body; period = p.period }
