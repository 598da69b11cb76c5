-- Where all tokens of a part of a program and all after them have a property, so have those after them.
use Rattle.std.proofs.Common.{Bool, true, false, List, [], ◌∷◌, Option, Some, None}
use Rattle.cp_text.specs.declared.token.Kind.{Kind}
use Rattle.cp_text.specs.declared.token.Kind.TheVariants as kind
use Rattle.cp_text.specs.declared.token.Mark.{Mark}
use Rattle.cp_text.specs.declared.token.Mark.TheVariants as mark
use Rattle.cp_tree.specs.declared.constant.Constant.{Constant}
use Rattle.cp_tree.specs.declared.constant.ConstantKind.{ConstantKind}
use Rattle.cp_tree.specs.declared.constant.ConstantKind.TheVariants as constant_kind
use Rattle.cp_tree.specs.declared.constant.Identifier.{Identifier}
use Rattle.cp_tree.specs.declared.constant.Sign.{Sign}
use Rattle.cp_tree.specs.Syntax.{Expression, alone, related, Sum, sum, Terms, no_terms, more_terms, Term, term, Factors, no_factors, more_factors, Factor, named, group, negated, set_of, Expressions, no_expressions, more_expressions, Designator, designator, Selectors, no_selectors, more_selectors, Selector, field, index, Start, Statement, empty, assign, invoke, block, if_then, if_else, case_of, while_do, repeat_until, for_do, cycle, init, asserted, Statements, no_statements, more_statements, Arms, no_arms, more_arms, Arm, arm}
use Rattle.cp_tree.specs.Syntax.{Simple, type_name, enumeration, subrange, TypeTerm, simple, array_of, set_type, record_of, FieldGroups, no_fields, more_fields, FieldGroup, fields, ConstantDefinition, TypeDefinition, VariableGroup, Part, constants, types, variables, Group, ParameterGroup, RoutineKind, procedure, function, invariants, Body, Routine}
use Rattle.cp_tree.specs.Spelling.{put_behind, put_all, put_separated, put_sign, put_constant, put_constant_kind, put_optional, put_expression, put_sum, put_terms, put_term, put_factors, put_factor, put_arguments, put_expressions, put_more_expressions, put_designator, put_selectors, put_selector, put_start, put_statement, put_statements, put_more_statements, put_arms, put_more_arms, put_arm, relation_mark, direction_mark}
use Rattle.cp_tree.specs.Spelling.{put_identifier, put_names, put_simple, put_type, put_field_groups, put_more_field_groups, put_field_group, put_constant_definition, put_type_definition, put_variable_group, put_part, put_group, put_parameter_group, put_parameters, put_body, put_routine_kind, put_routine_by, put_routine, is_nameless}
use Rattle.cp_resolved.specs.Small.{Each}

module _ (P : Kind → Type 0) where
  abbrev pub Have : List Kind → Type 0
  Have ks = Each P ks

  pub optional_after : (m : Mark) (b : Bool) (r : List Kind) → Have (put_optional m b r) → Have r
  optional_after m true r e = e.1
  optional_after m false r e = e

  pub all_after : {A : Type 0} (put : A → List Kind → List Kind) → ((x : A) (r : List Kind) → Have (put x r) → Have r) → (xs : List A) (r : List Kind) → Have (put_all put xs r) → Have r
  all_after put one [] r e = e
  all_after put one (x ∷ xs) r e = all_after put one xs r (one x (put_all put xs r) e)

  -- ---- constants and types

  constant_after : (c : ConstantKind) (r : List Kind) → Have (put_constant_kind c r) → Have r
  constant_after (constant_kind.Number (Some s) n) r e = e.1.1
  constant_after (constant_kind.Name (Some s) i) r e = e.1.1
  constant_after (constant_kind.Name None i) r e = e.1
  constant_after c r e = e.1

  more_names_after : (is : List Identifier) (r : List Kind) → Have (put_all (put_behind mark.Comma put_identifier) is r) → Have r
  more_names_after [] r e = e
  more_names_after (i ∷ is) r e = more_names_after is r e.1.1

  pub names_after : (is : List Identifier) (r : List Kind) → Have (put_names is r) → Have r
  names_after [] r e = e
  names_after (i ∷ is) r e = more_names_after is r e.1

  simple_after : (t : Simple) (r : List Kind) → Have (put_simple t r) → Have r
  simple_after (type_name at n) r e = e.1
  simple_after (enumeration at is) r e = (names_after is (kind.Mark mark.CloseParenthesis ∷ r) e.1).1
  simple_after (subrange at c d) r e = constant_after d.kind r (constant_after c.kind (kind.Mark mark.DoublePeriod ∷ put_constant_kind d.kind r) e).1

  mutual
    pub type_after : (t : TypeTerm) (r : List Kind) → Have (put_type t r) → Have r
    type_after (simple at s) r e = simple_after s r e
    type_after (array_of at s t) r e = type_after t r (simple_after s (kind.Mark mark.CloseBracket ∷ kind.Mark mark.Of ∷ put_type t r) e.1.1).1.1
    type_after (set_type at s) r e = simple_after s r e.1.1
    type_after (record_of at gs b) r e =
        let last : List Kind = kind.Mark mark.End ∷ r in
        (optional_after mark.Semicolon b last (groups_after gs (put_optional mark.Semicolon b last) e.1)).1

    groups_after : (gs : FieldGroups) (r : List Kind) → Have (put_field_groups gs r) → Have r
    groups_after no_fields r e = e
    groups_after (more_fields g gs) r e = more_groups_after gs r (field_group_after g (put_more_field_groups gs r) e)

    more_groups_after : (gs : FieldGroups) (r : List Kind) → Have (put_more_field_groups gs r) → Have r
    more_groups_after no_fields r e = e
    more_groups_after (more_fields g gs) r e = more_groups_after gs r (field_group_after g (put_more_field_groups gs r) e.1)

    field_group_after : (g : FieldGroup) (r : List Kind) → Have (put_field_group g r) → Have r
    field_group_after (fields is t) r e = type_after t r (names_after is (kind.Mark mark.Colon ∷ put_type t r) e).1

  -- ---- expressions and statements

  sign_after : (o : Option Sign) (r : List Kind) → Have (put_sign o r) → Have r
  sign_after None r e = e
  sign_after (Some s) r e = e.1

  mutual
    expression_after : (x : Expression) (r : List Kind) → Have (put_expression x r) → Have r
    expression_after (alone at s) r e = sum_after s r e
    expression_after (related at s o t) r e = sum_after t r (sum_after s (kind.Mark (relation_mark o) ∷ put_sum t r) e).1

    sum_after : (x : Sum) (r : List Kind) → Have (put_sum x r) → Have r
    sum_after (sum at o t ts) r e = terms_after ts r (term_after t (put_terms ts r) (sign_after o (put_term t (put_terms ts r)) e))

    terms_after : (x : Terms) (r : List Kind) → Have (put_terms x r) → Have r
    terms_after no_terms r e = e
    terms_after (more_terms a t ts) r e = terms_after ts r (term_after t (put_terms ts r) e.1)

    term_after : (x : Term) (r : List Kind) → Have (put_term x r) → Have r
    term_after (term at f fs) r e = factors_after fs r (factor_after f (put_factors fs r) e)

    factors_after : (x : Factors) (r : List Kind) → Have (put_factors x r) → Have r
    factors_after no_factors r e = e
    factors_after (more_factors m f fs) r e = factors_after fs r (factor_after f (put_factors fs r) e.1)

    factor_after : (x : Factor) (r : List Kind) → Have (put_factor x r) → Have r
    factor_after (named at d es) r e = arguments_after es r (designator_after d (put_arguments es r) e)
    factor_after (group at x) r e = (expression_after x (kind.Mark mark.CloseParenthesis ∷ r) e.1).1
    factor_after (negated at f) r e = factor_after f r e.1
    factor_after (set_of at es) r e = (expressions_after es (kind.Mark mark.CloseBracket ∷ r) e.1).1
    factor_after _ r e = e.1

    arguments_after : (x : Expressions) (r : List Kind) → Have (put_arguments x r) → Have r
    arguments_after no_expressions r e = e
    arguments_after (more_expressions x xs) r e = (more_after xs (kind.Mark mark.CloseParenthesis ∷ r) (expression_after x (put_more_expressions xs (kind.Mark mark.CloseParenthesis ∷ r)) e.1)).1

    expressions_after : (x : Expressions) (r : List Kind) → Have (put_expressions x r) → Have r
    expressions_after no_expressions r e = e
    expressions_after (more_expressions x xs) r e = more_after xs r (expression_after x (put_more_expressions xs r) e)

    more_after : (x : Expressions) (r : List Kind) → Have (put_more_expressions x r) → Have r
    more_after no_expressions r e = e
    more_after (more_expressions x xs) r e = more_after xs r (expression_after x (put_more_expressions xs r) e.1)

    designator_after : (x : Designator) (r : List Kind) → Have (put_designator x r) → Have r
    designator_after (designator i ss) r e = selectors_after ss r e.1

    selectors_after : (x : Selectors) (r : List Kind) → Have (put_selectors x r) → Have r
    selectors_after no_selectors r e = e
    selectors_after (more_selectors s ss) r e = selectors_after ss r (selector_after s (put_selectors ss r) e)

    selector_after : (x : Selector) (r : List Kind) → Have (put_selector x r) → Have r
    selector_after (field i) r e = e.1.1
    selector_after (index x) r e = (expression_after x (kind.Mark mark.CloseBracket ∷ r) e.1).1

  start_after : (t : Start) (r : List Kind) → Have (put_start t r) → Have r
  start_after t r e = arguments_after t.arguments r (designator_after t.target (put_arguments t.arguments r) e)

  more_starts_after : (ts : List Start) (r : List Kind) → Have (put_all (put_behind mark.Comma put_start) ts r) → Have r
  more_starts_after [] r e = e
  more_starts_after (t ∷ ts) r e = more_starts_after ts r (start_after t (put_all (put_behind mark.Comma put_start) ts r) e.1)

  starts_after : (ts : List Start) (r : List Kind) → Have (put_separated mark.Comma put_start ts r) → Have r
  starts_after [] r e = e
  starts_after (t ∷ ts) r e = more_starts_after ts r (start_after t (put_all (put_behind mark.Comma put_start) ts r) e)

  more_labels_after : (cs : List Constant) (r : List Kind) → Have (put_all (put_behind mark.Comma put_constant) cs r) → Have r
  more_labels_after [] r e = e
  more_labels_after (c ∷ cs) r e = more_labels_after cs r (constant_after c.kind (put_all (put_behind mark.Comma put_constant) cs r) e.1)

  labels_after : (cs : List Constant) (r : List Kind) → Have (put_separated mark.Comma put_constant cs r) → Have r
  labels_after [] r e = e
  labels_after (c ∷ cs) r e = more_labels_after cs r (constant_after c.kind (put_all (put_behind mark.Comma put_constant) cs r) e)

  mutual
    statement_after : (x : Statement) (r : List Kind) → Have (put_statement x r) → Have r
    statement_after (empty at) r e = e
    statement_after (assign at d x) r e = expression_after x r (designator_after d (kind.Mark mark.Becomes ∷ put_expression x r) e).1
    statement_after (invoke at d es) r e = arguments_after es r (designator_after d (put_arguments es r) e)
    statement_after (block at ss) r e = (statements_after ss (kind.Mark mark.End ∷ r) e.1).1
    statement_after (if_then at x s) r e = statement_after s r (expression_after x (kind.Mark mark.Then ∷ put_statement s r) e.1).1
    statement_after (if_else at x s t) r e =
        let other : List Kind = kind.Mark mark.Else ∷ put_statement t r in
        statement_after t r (statement_after s other (expression_after x (kind.Mark mark.Then ∷ put_statement s other) e.1).1).1
    statement_after (case_of at x bs b) r e =
        let last : List Kind = kind.Mark mark.End ∷ r in
        let rest : List Kind = put_optional mark.Semicolon b last in
        (optional_after mark.Semicolon b last (arms_after bs rest (expression_after x (kind.Mark mark.Of ∷ put_arms bs rest) e.1).1)).1
    statement_after (while_do at x s) r e = statement_after s r (expression_after x (kind.Mark mark.Do ∷ put_statement s r) e.1).1
    statement_after (repeat_until at ss x) r e = expression_after x r (statements_after ss (kind.Mark mark.Until ∷ put_expression x r) e.1).1
    statement_after (for_do at i x d y s) r e =
        let body : List Kind = kind.Mark mark.Do ∷ put_statement s r in
        statement_after s r (expression_after y body (expression_after x (kind.Mark (direction_mark d) ∷ put_expression y body) e.1.1.1).1).1
    statement_after (cycle at ss) r e = (statements_after ss (kind.Mark mark.End ∷ r) e.1).1
    statement_after (init at ts) r e = starts_after ts r e.1
    statement_after (asserted at k x s) r e = statement_after s r (expression_after x (kind.Mark mark.Closes ∷ put_statement s r) e.1).1

    statements_after : (x : Statements) (r : List Kind) → Have (put_statements x r) → Have r
    statements_after no_statements r e = e
    statements_after (more_statements s ss) r e = more_statements_after ss r (statement_after s (put_more_statements ss r) e)

    more_statements_after : (x : Statements) (r : List Kind) → Have (put_more_statements x r) → Have r
    more_statements_after no_statements r e = e
    more_statements_after (more_statements s ss) r e = more_statements_after ss r (statement_after s (put_more_statements ss r) e.1)

    arms_after : (x : Arms) (r : List Kind) → Have (put_arms x r) → Have r
    arms_after no_arms r e = e
    arms_after (more_arms b bs) r e = more_arms_after bs r (arm_after b (put_more_arms bs r) e)

    more_arms_after : (x : Arms) (r : List Kind) → Have (put_more_arms x r) → Have r
    more_arms_after no_arms r e = e
    more_arms_after (more_arms b bs) r e = more_arms_after bs r (arm_after b (put_more_arms bs r) e.1)

    arm_after : (x : Arm) (r : List Kind) → Have (put_arm x r) → Have r
    arm_after (arm cs s) r e = statement_after s r (labels_after cs (kind.Mark mark.Colon ∷ put_statement s r) e).1

  -- ---- declarations

  pub constants_after : (ds : List ConstantDefinition) (r : List Kind) → Have (put_all put_constant_definition ds r) → Have r
  constants_after ds r e = all_after put_constant_definition (λ d q f. (constant_after d.value.kind (kind.Mark mark.Semicolon ∷ q) f.1.1).1) ds r e

  pub types_after : (ds : List TypeDefinition) (r : List Kind) → Have (put_all put_type_definition ds r) → Have r
  types_after ds r e = all_after put_type_definition (λ d q f. (type_after d.value (kind.Mark mark.Semicolon ∷ q) f.1.1).1) ds r e

  pub variable_group_after : (g : VariableGroup) (r : List Kind) → Have (put_variable_group g r) → Have r
  variable_group_after g r e = (type_after g.variable_type (kind.Mark mark.Semicolon ∷ r) (names_after g.names (kind.Mark mark.Colon ∷ put_type g.variable_type (kind.Mark mark.Semicolon ∷ r)) e).1).1

  pub part_after : (x : Part) (r : List Kind) → Have (put_part x r) → Have r
  part_after (constants at ds) r e = constants_after ds r e.1
  part_after (types at ds) r e = types_after ds r e.1
  part_after (variables at gs) r e = all_after put_variable_group variable_group_after gs r e.1

  -- ---- parameters, routines and bodies

  pub parameters_after : {A : Type 0} (put : A → List Kind → List Kind) → ((x : A) (r : List Kind) → Have (put x r) → Have r) → (xs : List A) (r : List Kind) → Have (put_parameters put xs r) → Have r
  parameters_after put one [] r e = e
  parameters_after put one (x ∷ xs) r e =
      let last : List Kind = kind.Mark mark.CloseParenthesis ∷ r in
      (all_after (put_behind mark.Semicolon put) (λ y q f. one y q f.1) xs last (one x (put_all (put_behind mark.Semicolon put) xs last) e.1)).1

  pub group_after : (g : Group) (r : List Kind) → Have (put_group g r) → Have r
  group_after g r e = (names_after g.names (kind.Mark mark.Colon ∷ put_identifier g.type_name r) e).1.1

  parameter_group_after : (g : ParameterGroup) (r : List Kind) → Have (put_parameter_group g r) → Have r
  parameter_group_after g r e = group_after g.group r (optional_after mark.Var g.is_var (put_group g.group r) e)

  routine_kind_after : (k : RoutineKind) (r : List Kind) → Have (put_routine_kind k r) → Have r
  routine_kind_after (procedure gs) r e = parameters_after put_parameter_group parameter_group_after gs r e
  routine_kind_after (function gs i) r e = (parameters_after put_group group_after gs (kind.Mark mark.Colon ∷ put_identifier i r) e).1.1
  routine_kind_after invariants r e = e

  pub body_after : (b : Body) (r : List Kind) → Have (put_body b r) → Have r
  body_after b r e = (statements_after b.statements (kind.Mark mark.End ∷ r) e.1).1

  routine_after_by : (b : Bool) (x : Routine) (r : List Kind) → Have (put_routine_by b x r) → Have r
  routine_after_by true x r e = statements_after x.body.statements r e
  routine_after_by false x r e =
      let last : List Kind = kind.Mark mark.Semicolon ∷ r in
      let inside : List Kind = put_all put_part x.parts (put_body x.body last) in
      let named : List Kind = put_routine_kind x.kind (kind.Mark mark.Semicolon ∷ inside) in
      (body_after x.body last (all_after put_part part_after x.parts (put_body x.body last) (routine_kind_after x.kind (kind.Mark mark.Semicolon ∷ inside) (optional_after mark.Entry x.is_entry (put_identifier x.name named) e.1).1).1)).1

  pub routine_after : (x : Routine) (r : List Kind) → Have (put_routine x r) → Have r
  routine_after x r e = routine_after_by (is_nameless x.kind) x r e
