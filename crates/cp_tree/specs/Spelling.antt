-- The tokens that a tree is spelled by. Each function puts the tokens of its first arguments before the last.
-- Above each stands its rule of the grammar: braces mean none or more, brackets none or one.
use Rattle.std.specs.Prelude.{Bool, true, false, List, [], ◌∷◌, Option, Some, None}
use Rattle.cp_text.specs.declared.token.Kind.{Kind}
use Rattle.cp_text.specs.declared.token.Kind.TheVariants as kind
use Rattle.cp_text.specs.declared.token.Mark.{Mark}
use Rattle.cp_text.specs.declared.token.Mark.TheVariants as mark
use Rattle.cp_tree.specs.declared.constant.Identifier.{Identifier}
use Rattle.cp_tree.specs.declared.constant.Sign.{Sign}
use Rattle.cp_tree.specs.declared.constant.Sign.TheVariants as signs
use Rattle.cp_tree.specs.declared.constant.Constant.{Constant}
use Rattle.cp_tree.specs.declared.constant.ConstantKind.{ConstantKind}
use Rattle.cp_tree.specs.declared.constant.ConstantKind.TheVariants as constant_kind
use Rattle.cp_tree.specs.declared.expression.Relation.{Relation}
use Rattle.cp_tree.specs.declared.expression.Relation.TheVariants as relations
use Rattle.cp_tree.specs.declared.expression.Addition.{Addition}
use Rattle.cp_tree.specs.declared.expression.Addition.TheVariants as additions
use Rattle.cp_tree.specs.declared.expression.Multiplication.{Multiplication}
use Rattle.cp_tree.specs.declared.expression.Multiplication.TheVariants as multiplications
use Rattle.cp_tree.specs.declared.statement.AssertionKind.{AssertionKind}
use Rattle.cp_tree.specs.declared.statement.AssertionKind.TheVariants as said
use Rattle.cp_tree.specs.declared.statement.Direction.{Direction}
use Rattle.cp_tree.specs.declared.statement.Direction.TheVariants as directions
use Rattle.cp_tree.specs.declared.declaration.SystemKind.{SystemKind}
use Rattle.cp_tree.specs.declared.declaration.SystemKind.TheVariants as system_kinds
use Rattle.cp_tree.specs.Syntax.{Expression, alone, related, Sum, sum, Terms, no_terms, more_terms, Term, term, Factors, no_factors, more_factors, Factor, number, character, named, group, negated, set_of, Expressions, no_expressions, more_expressions, Designator, designator, Selectors, no_selectors, more_selectors, Selector, field, index, Start, Statement, empty, assign, invoke, block, if_then, if_else, case_of, while_do, repeat_until, for_do, cycle, init, asserted, Statements, no_statements, more_statements, Arms, no_arms, more_arms, Arm, arm, Simple, type_name, enumeration, subrange, TypeTerm, simple, array_of, set_type, record_of, FieldGroups, no_fields, more_fields, FieldGroup, fields, ConstantDefinition, TypeDefinition, VariableGroup, Part, constants, types, variables, Group, ParameterGroup, RoutineKind, procedure, function, invariants, Routine, Body, System, Definition, type_definition, system_definition, SystemDefinition, ProgramPart, program_constants, program_types, program_variables, Program}

-- ---- words and signs

abbrev pub sign_mark : Sign → Mark
sign_mark signs.Plus = mark.Plus
sign_mark signs.Minus = mark.Minus

abbrev pub relation_mark : Relation → Mark
relation_mark relations.Equal = mark.Equal
relation_mark relations.NotEqual = mark.NotEqual
relation_mark relations.Less = mark.Less
relation_mark relations.Greater = mark.Greater
relation_mark relations.AtMost = mark.AtMost
relation_mark relations.AtLeast = mark.AtLeast
relation_mark relations.In = mark.In

abbrev pub addition_mark : Addition → Mark
addition_mark additions.Plus = mark.Plus
addition_mark additions.Minus = mark.Minus
addition_mark additions.Or = mark.Or

abbrev pub multiplication_mark : Multiplication → Mark
multiplication_mark multiplications.Times = mark.Times
multiplication_mark multiplications.Div = mark.Div
multiplication_mark multiplications.Mod = mark.Mod
multiplication_mark multiplications.And = mark.And

abbrev pub direction_mark : Direction → Mark
direction_mark directions.To = mark.To
direction_mark directions.Downto = mark.Downto

abbrev pub opening_mark : AssertionKind → Mark
opening_mark said.Assertion = mark.Assert
opening_mark said.Invariant = mark.Invariant

abbrev pub system_mark : SystemKind → Mark
system_mark system_kinds.Class = mark.Class
system_mark system_kinds.Monitor = mark.Monitor
system_mark system_kinds.Process = mark.Process

-- ---- what several rules share

-- [m]
abbrev pub put_optional : Mark → Bool → List Kind → List Kind
put_optional m true rest = kind.Mark m ∷ rest
put_optional m false rest = rest

-- m x
abbrev pub put_behind : {A : Type 0} → Mark → (A → List Kind → List Kind) → A → List Kind → List Kind
put_behind m put x rest = kind.Mark m ∷ put x rest

-- {x}
abbrev pub put_all : {A : Type 0} → (A → List Kind → List Kind) → List A → List Kind → List Kind
put_all put [] rest = rest
put_all put (x ∷ xs) rest = put x (put_all put xs rest)

-- x {m x}
abbrev pub put_separated : {A : Type 0} → Mark → (A → List Kind → List Kind) → List A → List Kind → List Kind
put_separated m put [] rest = rest
put_separated m put (x ∷ xs) rest = put x (put_all (put_behind m put) xs rest)

-- ---- names and constants

abbrev pub put_identifier : Identifier → List Kind → List Kind
put_identifier i rest = kind.Name i.name ∷ rest

-- names = name {"," name}
abbrev pub put_names : List Identifier → List Kind → List Kind
put_names = put_separated mark.Comma put_identifier

-- ["+"|"-"]
abbrev pub put_sign : Option Sign → List Kind → List Kind
put_sign None rest = rest
put_sign (Some s) rest = kind.Mark (sign_mark s) ∷ rest

abbrev pub put_constant_kind : ConstantKind → List Kind → List Kind
put_constant_kind (constant_kind.Number o n) rest = put_sign o (kind.Number n ∷ rest)
put_constant_kind (constant_kind.Name o i) rest = put_sign o (put_identifier i rest)
put_constant_kind (constant_kind.Character c) rest = kind.Character c ∷ rest

-- constant = ["+"|"-"] number | ["+"|"-"] name | char
abbrev pub put_constant : Constant → List Kind → List Kind
put_constant c rest = put_constant_kind c.kind rest

-- ---- expressions

abbrev mutual
  -- expr = sum [("="|"<>"|"<"|">"|"<="|">="|"in") sum]
  pub put_expression : Expression → List Kind → List Kind
  put_expression (alone at s) rest = put_sum s rest
  put_expression (related at s r t) rest = put_sum s (kind.Mark (relation_mark r) ∷ put_sum t rest)

  -- sum = ["+"|"-"] term {("+"|"-"|"or") term}
  pub put_sum : Sum → List Kind → List Kind
  put_sum (sum at o t ts) rest = put_sign o (put_term t (put_terms ts rest))

  pub put_terms : Terms → List Kind → List Kind
  put_terms no_terms rest = rest
  put_terms (more_terms a t ts) rest = kind.Mark (addition_mark a) ∷ put_term t (put_terms ts rest)

  -- term = factor {("*"|"div"|"mod"|"and") factor}
  pub put_term : Term → List Kind → List Kind
  put_term (term at f fs) rest = put_factor f (put_factors fs rest)

  pub put_factors : Factors → List Kind → List Kind
  put_factors no_factors rest = rest
  put_factors (more_factors m f fs) rest = kind.Mark (multiplication_mark m) ∷ put_factor f (put_factors fs rest)

  -- factor = number | char | desig ["(" args ")"] | "(" expr ")" | "not" factor | "[" [expr {"," expr}] "]"
  pub put_factor : Factor → List Kind → List Kind
  put_factor (number at n) rest = kind.Number n ∷ rest
  put_factor (character at c) rest = kind.Character c ∷ rest
  put_factor (named at d es) rest = put_designator d (put_arguments es rest)
  put_factor (group at e) rest = kind.Mark mark.OpenParenthesis ∷ put_expression e (kind.Mark mark.CloseParenthesis ∷ rest)
  put_factor (negated at f) rest = kind.Mark mark.Not ∷ put_factor f rest
  put_factor (set_of at es) rest = kind.Mark mark.OpenBracket ∷ put_expressions es (kind.Mark mark.CloseBracket ∷ rest)

  -- ["(" args ")"]
  pub put_arguments : Expressions → List Kind → List Kind
  put_arguments no_expressions rest = rest
  put_arguments (more_expressions e es) rest = kind.Mark mark.OpenParenthesis ∷ put_expression e (put_more_expressions es (kind.Mark mark.CloseParenthesis ∷ rest))

  -- args = expr {"," expr}
  pub put_expressions : Expressions → List Kind → List Kind
  put_expressions no_expressions rest = rest
  put_expressions (more_expressions e es) rest = put_expression e (put_more_expressions es rest)

  -- {"," expr}
  pub put_more_expressions : Expressions → List Kind → List Kind
  put_more_expressions no_expressions rest = rest
  put_more_expressions (more_expressions e es) rest = kind.Mark mark.Comma ∷ put_expression e (put_more_expressions es rest)

  -- desig = name {"." name | "[" expr "]"}
  pub put_designator : Designator → List Kind → List Kind
  put_designator (designator i ss) rest = put_identifier i (put_selectors ss rest)

  pub put_selectors : Selectors → List Kind → List Kind
  put_selectors no_selectors rest = rest
  put_selectors (more_selectors s ss) rest = put_selector s (put_selectors ss rest)

  pub put_selector : Selector → List Kind → List Kind
  put_selector (field i) rest = kind.Mark mark.Period ∷ put_identifier i rest
  put_selector (index e) rest = kind.Mark mark.OpenBracket ∷ put_expression e (kind.Mark mark.CloseBracket ∷ rest)

-- ---- statements

-- start = desig ["(" args ")"]
abbrev pub put_start : Start → List Kind → List Kind
put_start s rest = put_designator s.target (put_arguments s.arguments rest)

abbrev mutual
  -- stat = {assertion} (nothing) | desig ":=" expr | desig ["(" args ")"] | "begin" stats "end"
  --      | "if" expr "then" stat ["else" stat]
  --      | "case" expr "of" arm {";" arm} [";"] "end"
  --      | "while" expr "do" stat | "repeat" stats "until" expr
  --      | "for" name ":=" expr ("to"|"downto") expr "do" stat
  --      | "cycle" stats "end" | "init" start {"," start}
  -- assertion = "assert" expr closing
  pub put_statement : Statement → List Kind → List Kind
  put_statement (empty at) rest = rest
  put_statement (assign at d e) rest = put_designator d (kind.Mark mark.Becomes ∷ put_expression e rest)
  put_statement (invoke at d es) rest = put_designator d (put_arguments es rest)
  put_statement (block at ss) rest = kind.Mark mark.Begin ∷ put_statements ss (kind.Mark mark.End ∷ rest)
  put_statement (if_then at e s) rest = kind.Mark mark.If ∷ put_expression e (kind.Mark mark.Then ∷ put_statement s rest)
  put_statement (if_else at e s t) rest = kind.Mark mark.If ∷ put_expression e (kind.Mark mark.Then ∷ put_statement s (kind.Mark mark.Else ∷ put_statement t rest))
  put_statement (case_of at e bs semicolon) rest = kind.Mark mark.Case ∷ put_expression e (kind.Mark mark.Of ∷ put_arms bs (put_optional mark.Semicolon semicolon (kind.Mark mark.End ∷ rest)))
  put_statement (while_do at e s) rest = kind.Mark mark.While ∷ put_expression e (kind.Mark mark.Do ∷ put_statement s rest)
  put_statement (repeat_until at ss e) rest = kind.Mark mark.Repeat ∷ put_statements ss (kind.Mark mark.Until ∷ put_expression e rest)
  put_statement (for_do at i e d f s) rest = kind.Mark mark.For ∷ put_identifier i (kind.Mark mark.Becomes ∷ put_expression e (kind.Mark (direction_mark d) ∷ put_expression f (kind.Mark mark.Do ∷ put_statement s rest)))
  put_statement (cycle at ss) rest = kind.Mark mark.Cycle ∷ put_statements ss (kind.Mark mark.End ∷ rest)
  put_statement (init at ss) rest = kind.Mark mark.Init ∷ put_separated mark.Comma put_start ss rest
  put_statement (asserted at k e s) rest = kind.Mark (opening_mark k) ∷ put_expression e (kind.Mark mark.Closes ∷ put_statement s rest)

  -- stats = stat {";" stat}
  pub put_statements : Statements → List Kind → List Kind
  put_statements no_statements rest = rest
  put_statements (more_statements s ss) rest = put_statement s (put_more_statements ss rest)

  -- {";" stat}
  pub put_more_statements : Statements → List Kind → List Kind
  put_more_statements no_statements rest = rest
  put_more_statements (more_statements s ss) rest = kind.Mark mark.Semicolon ∷ put_statement s (put_more_statements ss rest)

  -- arm {";" arm}
  pub put_arms : Arms → List Kind → List Kind
  put_arms no_arms rest = rest
  put_arms (more_arms b bs) rest = put_arm b (put_more_arms bs rest)

  -- {";" arm}
  pub put_more_arms : Arms → List Kind → List Kind
  put_more_arms no_arms rest = rest
  put_more_arms (more_arms b bs) rest = kind.Mark mark.Semicolon ∷ put_arm b (put_more_arms bs rest)

  -- arm = constant {"," constant} ":" stat
  pub put_arm : Arm → List Kind → List Kind
  put_arm (arm cs s) rest = put_separated mark.Comma put_constant cs (kind.Mark mark.Colon ∷ put_statement s rest)

-- ---- types

-- simple = name | "(" names ")" | constant ".." constant
abbrev pub put_simple : Simple → List Kind → List Kind
put_simple (type_name at n) rest = kind.Name n ∷ rest
put_simple (enumeration at is) rest = kind.Mark mark.OpenParenthesis ∷ put_names is (kind.Mark mark.CloseParenthesis ∷ rest)
put_simple (subrange at c d) rest = put_constant c (kind.Mark mark.DoublePeriod ∷ put_constant d rest)

abbrev mutual
  -- type = simple | "array" "[" simple "]" "of" type | "set" "of" simple
  --      | "record" names ":" type {";" names ":" type} [";"] "end"
  pub put_type : TypeTerm → List Kind → List Kind
  put_type (simple at s) rest = put_simple s rest
  put_type (array_of at s t) rest = kind.Mark mark.Array ∷ kind.Mark mark.OpenBracket ∷ put_simple s (kind.Mark mark.CloseBracket ∷ kind.Mark mark.Of ∷ put_type t rest)
  put_type (set_type at s) rest = kind.Mark mark.Set ∷ kind.Mark mark.Of ∷ put_simple s rest
  put_type (record_of at gs semicolon) rest = kind.Mark mark.Record ∷ put_field_groups gs (put_optional mark.Semicolon semicolon (kind.Mark mark.End ∷ rest))

  -- names ":" type {";" names ":" type}
  pub put_field_groups : FieldGroups → List Kind → List Kind
  put_field_groups no_fields rest = rest
  put_field_groups (more_fields g gs) rest = put_field_group g (put_more_field_groups gs rest)

  -- {";" names ":" type}
  pub put_more_field_groups : FieldGroups → List Kind → List Kind
  put_more_field_groups no_fields rest = rest
  put_more_field_groups (more_fields g gs) rest = kind.Mark mark.Semicolon ∷ put_field_group g (put_more_field_groups gs rest)

  -- names ":" type
  pub put_field_group : FieldGroup → List Kind → List Kind
  put_field_group (fields is t) rest = put_names is (kind.Mark mark.Colon ∷ put_type t rest)

-- ---- declarations

-- cdef = name "=" constant ";"
abbrev pub put_constant_definition : ConstantDefinition → List Kind → List Kind
put_constant_definition d rest = put_identifier d.name (kind.Mark mark.Equal ∷ put_constant d.value (kind.Mark mark.Semicolon ∷ rest))

-- pdef = name "=" type ";"
abbrev pub put_type_definition : TypeDefinition → List Kind → List Kind
put_type_definition d rest = put_identifier d.name (kind.Mark mark.Equal ∷ put_type d.value (kind.Mark mark.Semicolon ∷ rest))

-- vdef = names ":" type ";"
abbrev pub put_variable_group : VariableGroup → List Kind → List Kind
put_variable_group g rest = put_names g.names (kind.Mark mark.Colon ∷ put_type g.variable_type (kind.Mark mark.Semicolon ∷ rest))

-- part = "const" cdef {cdef} | "type" pdef {pdef} | "var" vdef {vdef}
abbrev pub put_part : Part → List Kind → List Kind
put_part (constants at ds) rest = kind.Mark mark.Const ∷ put_all put_constant_definition ds rest
put_part (types at ds) rest = kind.Mark mark.Type ∷ put_all put_type_definition ds rest
put_part (variables at gs) rest = kind.Mark mark.Var ∷ put_all put_variable_group gs rest

-- group = names ":" name
abbrev pub put_group : Group → List Kind → List Kind
put_group g rest = put_names g.names (kind.Mark mark.Colon ∷ put_identifier g.type_name rest)

-- vgroup = ["var"] group
abbrev pub put_parameter_group : ParameterGroup → List Kind → List Kind
put_parameter_group g rest = put_optional mark.Var g.is_var (put_group g.group rest)

-- ["(" group {";" group} ")"], and the same for vgroup
abbrev pub put_parameters : {A : Type 0} → (A → List Kind → List Kind) → List A → List Kind → List Kind
put_parameters put [] rest = rest
put_parameters put (g ∷ gs) rest = kind.Mark mark.OpenParenthesis ∷ put_separated mark.Semicolon put (g ∷ gs) (kind.Mark mark.CloseParenthesis ∷ rest)

-- body = "begin" stats "end"
abbrev pub put_body : Body → List Kind → List Kind
put_body b rest = kind.Mark mark.Begin ∷ put_statements b.statements (kind.Mark mark.End ∷ rest)

abbrev pub routine_mark : RoutineKind → Mark
routine_mark (procedure gs) = mark.Procedure
routine_mark (function gs i) = mark.Function
routine_mark invariants = mark.Invariant

abbrev pub put_routine_kind : RoutineKind → List Kind → List Kind
put_routine_kind (procedure gs) rest = put_parameters put_parameter_group gs rest
put_routine_kind (function gs i) rest = put_parameters put_group gs (kind.Mark mark.Colon ∷ put_identifier i rest)
put_routine_kind invariants rest = rest

-- routine = "procedure" ["entry"] name ["(" vgroup {";" vgroup} ")"] ";" {part} body ";"
--         | "function" ["entry"] name ["(" group {";" group} ")"] ":" name ";" {part} body ";"
abbrev pub put_named_routine : Routine → List Kind → List Kind
put_named_routine r rest = kind.Mark (routine_mark r.kind) ∷ put_optional mark.Entry r.is_entry (put_identifier r.name (put_routine_kind r.kind (kind.Mark mark.Semicolon ∷ put_all put_part r.parts (put_body r.body (kind.Mark mark.Semicolon ∷ rest)))))

abbrev pub is_nameless : RoutineKind → Bool
is_nameless (procedure gs) = false
is_nameless (function gs i) = false
is_nameless invariants = true

-- The nameless routine is spelled by the invariants alone.
abbrev pub put_routine_by : Bool → Routine → List Kind → List Kind
put_routine_by true r rest = put_statements r.body.statements rest
put_routine_by false r rest = put_named_routine r rest

abbrev pub put_routine : Routine → List Kind → List Kind
put_routine r rest = put_routine_by (is_nameless r.kind) r rest

-- system = ("class"|"monitor"|"process") ["(" group {";" group} ")"] [";"] {part} {invariant} {routine} body
-- invariant = "invariant" expr closing
abbrev pub put_system : System → List Kind → List Kind
put_system s rest = kind.Mark (system_mark s.kind) ∷ put_parameters put_group s.parameters (put_optional mark.Semicolon s.has_semicolon (put_all put_part s.parts (put_all put_routine s.routines (put_body s.body rest))))

abbrev pub put_definition : Definition → List Kind → List Kind
put_definition (type_definition t) rest = put_type t rest
put_definition (system_definition s) rest = put_system s rest

-- tdef = name "=" (type | system) ";"
abbrev pub put_system_definition : SystemDefinition → List Kind → List Kind
put_system_definition d rest = put_identifier d.name (kind.Mark mark.Equal ∷ put_definition d.value (kind.Mark mark.Semicolon ∷ rest))

-- part | systems, where systems = "type" tdef {tdef}; at the program's top every `type` part is a systems
abbrev pub put_program_part : ProgramPart → List Kind → List Kind
put_program_part (program_constants at ds) rest = kind.Mark mark.Const ∷ put_all put_constant_definition ds rest
put_program_part (program_types at ds) rest = kind.Mark mark.Type ∷ put_all put_system_definition ds rest
put_program_part (program_variables at gs) rest = kind.Mark mark.Var ∷ put_all put_variable_group gs rest

-- program = {part | systems} {routine} body "."
abbrev pub spell : Program → List Kind
spell p = put_all put_program_part p.parts (put_all put_routine p.routines (put_body p.body (kind.Mark mark.Period ∷ [])))
