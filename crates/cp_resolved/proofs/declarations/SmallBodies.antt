-- Where the tokens of a program are as a text has them, the numbers in the expressions of its statements are small.
use Rattle.cp_resolved.proofs.Words.{Bool, true, false, List, [], ◌∷◌, Kind, Constant, Opening, openings_of, IsRead, Each, IsSmallConstant, IsSmallPart}
use Rattle.cp_text.specs.declared.token.Kind.TheVariants as kind
use Rattle.cp_text.specs.declared.token.Mark.TheVariants as mark
use Rattle.cp_tree.specs.Syntax.{Expression, alone, related, Sum, sum, Terms, no_terms, more_terms, Term, term, Factors, no_factors, more_factors, Factor, named, group, negated, set_of, Expressions, no_expressions, more_expressions, Designator, designator, Selectors, no_selectors, more_selectors, Selector, field, index, Start, Statement, empty, assign, invoke, block, if_then, if_else, case_of, while_do, repeat_until, for_do, cycle, init, asserted, Statements, no_statements, more_statements, Arms, no_arms, more_arms, Arm, arm, Body, Routine, System, Definition, type_definition, system_definition, SystemDefinition, ProgramPart, program_constants, program_types, program_variables, Program}
use Rattle.cp_tree.specs.Spelling.{is_nameless, put_routine_by, put_constant, put_optional, put_behind, put_all, put_separated, put_identifier, put_expression, put_sum, put_terms, put_term, put_factors, put_factor, put_arguments, put_expressions, put_more_expressions, put_designator, put_selectors, put_selector, put_start, put_statement, put_statements, put_more_statements, put_arms, put_more_arms, put_arm, put_part, put_group, put_body, put_routine_kind, put_routine, put_system, put_definition, put_system_definition, put_program_part, relation_mark, direction_mark, spell}
use Rattle.cp_resolved.specs.SmallStatements.{IsSmallStart, IsSmallStatement, AreSmallStatements, AreSmallArms, IsSmallArm}
use Rattle.cp_resolved.specs.Typed.{IsSmallExpression, IsSmallSum, AreSmallTerms, IsSmallTerm, AreSmallFactors, IsSmallFactor, AreSmallExpressions, IsSmallDesignator, AreSmallSelectors, IsSmallSelector}
use Rattle.cp_resolved.proofs.agreeing.OpeningsBodies as openings
use Rattle.cp_resolved.proofs.agreeing.OpeningsBodies.{OfRoutine, OfSystem, OfDefinition, OfPart}
use Rattle.cp_resolved.proofs.declarations.SmallTokens.{AreScanned, constant_small, optional_small, constants_small, type_small, variables_small, part_small}
use Rattle.cp_resolved.proofs.declarations.SmallStatements.{sign_after, expression_after, sum_after, term_after, factor_after, designator_after, selector_after, start_after, labels_after, statement_after, statements_after, arm_after}
use Rattle.cp_resolved.proofs.declarations.SmallPrograms.{parameters_after, each_small, group_after, kind_after, body_after}
use Rattle.cp_resolved.proofs.declarations.SmallTexts.{read_scanned}

mutual
  pub expression_small : (x : Expression) (r : List Kind) → AreScanned (put_expression x r) → IsSmallExpression x
  expression_small (alone at s) r e = sum_small s r e
  expression_small (related at s o t) r e = (sum_small s (kind.Mark (relation_mark o) ∷ put_sum t r) e, sum_small t r (sum_after s (kind.Mark (relation_mark o) ∷ put_sum t r) e).1)

  sum_small : (x : Sum) (r : List Kind) → AreScanned (put_sum x r) → IsSmallSum x
  sum_small (sum at o t ts) r e = let u = sign_after o (put_term t (put_terms ts r)) e in (term_small t (put_terms ts r) u, terms_small ts r (term_after t (put_terms ts r) u))

  terms_small : (x : Terms) (r : List Kind) → AreScanned (put_terms x r) → AreSmallTerms x
  terms_small no_terms r e = tt
  terms_small (more_terms a t ts) r e = (term_small t (put_terms ts r) e.1, terms_small ts r (term_after t (put_terms ts r) e.1))

  term_small : (x : Term) (r : List Kind) → AreScanned (put_term x r) → IsSmallTerm x
  term_small (term at f fs) r e = (factor_small f (put_factors fs r) e, factors_small fs r (factor_after f (put_factors fs r) e))

  factors_small : (x : Factors) (r : List Kind) → AreScanned (put_factors x r) → AreSmallFactors x
  factors_small no_factors r e = tt
  factors_small (more_factors m f fs) r e = (factor_small f (put_factors fs r) e.1, factors_small fs r (factor_after f (put_factors fs r) e.1))

  factor_small : (x : Factor) (r : List Kind) → AreScanned (put_factor x r) → IsSmallFactor x
  factor_small (named at d es) r e = (designator_small d (put_arguments es r) e, arguments_small es r (designator_after d (put_arguments es r) e))
  factor_small (group at x) r e = expression_small x (kind.Mark mark.CloseParenthesis ∷ r) e.1
  factor_small (negated at f) r e = factor_small f r e.1
  factor_small (set_of at es) r e = expressions_small es (kind.Mark mark.CloseBracket ∷ r) e.1
  factor_small _ r e = e.0

  pub arguments_small : (x : Expressions) (r : List Kind) → AreScanned (put_arguments x r) → AreSmallExpressions x
  arguments_small no_expressions r e = tt
  arguments_small (more_expressions x xs) r e =
      let after : List Kind = kind.Mark mark.CloseParenthesis ∷ r in
      (expression_small x (put_more_expressions xs after) e.1, more_small xs after (expression_after x (put_more_expressions xs after) e.1))

  expressions_small : (x : Expressions) (r : List Kind) → AreScanned (put_expressions x r) → AreSmallExpressions x
  expressions_small no_expressions r e = tt
  expressions_small (more_expressions x xs) r e = (expression_small x (put_more_expressions xs r) e, more_small xs r (expression_after x (put_more_expressions xs r) e))

  more_small : (x : Expressions) (r : List Kind) → AreScanned (put_more_expressions x r) → AreSmallExpressions x
  more_small no_expressions r e = tt
  more_small (more_expressions x xs) r e = (expression_small x (put_more_expressions xs r) e.1, more_small xs r (expression_after x (put_more_expressions xs r) e.1))

  pub designator_small : (x : Designator) (r : List Kind) → AreScanned (put_designator x r) → IsSmallDesignator x
  designator_small (designator i ss) r e = selectors_small ss r e.1

  selectors_small : (x : Selectors) (r : List Kind) → AreScanned (put_selectors x r) → AreSmallSelectors x
  selectors_small no_selectors r e = tt
  selectors_small (more_selectors s ss) r e = (selector_small s (put_selectors ss r) e, selectors_small ss r (selector_after s (put_selectors ss r) e))

  selector_small : (x : Selector) (r : List Kind) → AreScanned (put_selector x r) → IsSmallSelector x
  selector_small (field i) r e = tt
  selector_small (index x) r e = expression_small x (kind.Mark mark.CloseBracket ∷ r) e.1

-- ---- statements

start_small : (t : Start) (r : List Kind) → AreScanned (put_start t r) → IsSmallStart t
start_small t r e = (designator_small t.target (put_arguments t.arguments r) e, arguments_small t.arguments r (designator_after t.target (put_arguments t.arguments r) e))

more_starts_small : (ts : List Start) (r : List Kind) → AreScanned (put_all (put_behind mark.Comma put_start) ts r) → Each IsSmallStart ts
more_starts_small [] r e = tt
more_starts_small (t ∷ ts) r e = let after : List Kind = put_all (put_behind mark.Comma put_start) ts r in (start_small t after e.1, more_starts_small ts r (start_after t after e.1))

starts_small : (ts : List Start) (r : List Kind) → AreScanned (put_separated mark.Comma put_start ts r) → Each IsSmallStart ts
starts_small [] r e = tt
starts_small (t ∷ ts) r e = let after : List Kind = put_all (put_behind mark.Comma put_start) ts r in (start_small t after e, more_starts_small ts r (start_after t after e))

more_labels_small : (cs : List Constant) (r : List Kind) → AreScanned (put_all (put_behind mark.Comma put_constant) cs r) → Each (λ c. IsSmallConstant c.kind) cs
more_labels_small [] r e = tt
more_labels_small (c ∷ cs) r e =
    let x = constant_small c.kind (put_all (put_behind mark.Comma put_constant) cs r) e.1 in
    (x.0, more_labels_small cs r x.1)

labels_small : (cs : List Constant) (r : List Kind) → AreScanned (put_separated mark.Comma put_constant cs r) → Each (λ c. IsSmallConstant c.kind) cs
labels_small [] r e = tt
labels_small (c ∷ cs) r e =
    let x = constant_small c.kind (put_all (put_behind mark.Comma put_constant) cs r) e in
    (x.0, more_labels_small cs r x.1)

mutual
  statement_small : (x : Statement) (r : List Kind) → AreScanned (put_statement x r) → IsSmallStatement x
  statement_small (empty at) r e = tt
  statement_small (assign at d x) r e =
      let after : List Kind = kind.Mark mark.Becomes ∷ put_expression x r in
      (designator_small d after e, expression_small x r (designator_after d after e).1)
  statement_small (invoke at d es) r e = (designator_small d (put_arguments es r) e, arguments_small es r (designator_after d (put_arguments es r) e))
  statement_small (block at ss) r e = statements_small ss (kind.Mark mark.End ∷ r) e.1
  statement_small (if_then at x s) r e =
      let after : List Kind = kind.Mark mark.Then ∷ put_statement s r in
      (expression_small x after e.1, statement_small s r (expression_after x after e.1).1)
  statement_small (if_else at x s t) r e =
      let other : List Kind = kind.Mark mark.Else ∷ put_statement t r in
      let after : List Kind = kind.Mark mark.Then ∷ put_statement s other in
      let first : AreScanned (put_statement s other) = (expression_after x after e.1).1 in
      (expression_small x after e.1, statement_small s other first, statement_small t r (statement_after s other first).1)
  statement_small (case_of at x bs b) r e =
      let rest : List Kind = put_optional mark.Semicolon b (kind.Mark mark.End ∷ r) in
      let after : List Kind = kind.Mark mark.Of ∷ put_arms bs rest in
      (expression_small x after e.1, arms_small bs rest (expression_after x after e.1).1)
  statement_small (while_do at x s) r e =
      let after : List Kind = kind.Mark mark.Do ∷ put_statement s r in
      (expression_small x after e.1, statement_small s r (expression_after x after e.1).1)
  statement_small (repeat_until at ss x) r e =
      let after : List Kind = kind.Mark mark.Until ∷ put_expression x r in
      (statements_small ss after e.1, expression_small x r (statements_after ss after e.1).1)
  statement_small (for_do at i x d y s) r e =
      let body : List Kind = kind.Mark mark.Do ∷ put_statement s r in
      let after : List Kind = kind.Mark (direction_mark d) ∷ put_expression y body in
      let first : AreScanned (put_expression x after) = e.1.1.1 in
      let second : AreScanned (put_expression y body) = (expression_after x after first).1 in
      (expression_small x after first, expression_small y body second, statement_small s r (expression_after y body second).1)
  statement_small (cycle at ss) r e = statements_small ss (kind.Mark mark.End ∷ r) e.1
  statement_small (init at ts) r e = starts_small ts r e.1
  statement_small (asserted at k x s) r e =
      let after : List Kind = kind.Mark mark.Closes ∷ put_statement s r in
      (expression_small x after e.1, statement_small s r (expression_after x after e.1).1)

  pub statements_small : (x : Statements) (r : List Kind) → AreScanned (put_statements x r) → AreSmallStatements x
  statements_small no_statements r e = tt
  statements_small (more_statements s ss) r e = (statement_small s (put_more_statements ss r) e, more_statements_small ss r (statement_after s (put_more_statements ss r) e))

  more_statements_small : (x : Statements) (r : List Kind) → AreScanned (put_more_statements x r) → AreSmallStatements x
  more_statements_small no_statements r e = tt
  more_statements_small (more_statements s ss) r e = (statement_small s (put_more_statements ss r) e.1, more_statements_small ss r (statement_after s (put_more_statements ss r) e.1))

  arms_small : (x : Arms) (r : List Kind) → AreScanned (put_arms x r) → AreSmallArms x
  arms_small no_arms r e = tt
  arms_small (more_arms b bs) r e = (arm_small b (put_more_arms bs r) e, more_arms_small bs r (arm_after b (put_more_arms bs r) e))

  more_arms_small : (x : Arms) (r : List Kind) → AreScanned (put_more_arms x r) → AreSmallArms x
  more_arms_small no_arms r e = tt
  more_arms_small (more_arms b bs) r e = (arm_small b (put_more_arms bs r) e.1, more_arms_small bs r (arm_after b (put_more_arms bs r) e.1))

  arm_small : (x : Arm) (r : List Kind) → AreScanned (put_arm x r) → IsSmallArm x
  arm_small (arm cs s) r e = let after : List Kind = kind.Mark mark.Colon ∷ put_statement s r in (labels_small cs after e, statement_small s r (labels_after cs after e).1)

-- ---- routines, system types and the program, each with the tokens after it

body_small : (b : Body) (r : List Kind) → AreScanned (put_body b r) → AreSmallStatements b.statements
body_small b r e = statements_small b.statements (kind.Mark mark.End ∷ r) e.1

routine_by : (b : Bool) (x : Routine) (r : List Kind) → AreScanned (put_routine_by b x r) → OfRoutine AreSmallStatements x × AreScanned r
routine_by true x r e = (statements_small x.body.statements r e, statements_after x.body.statements r e)
routine_by false x r e =
    let last : List Kind = kind.Mark mark.Semicolon ∷ r in
    let inside : List Kind = put_all put_part x.parts (put_body x.body last) in
    let after_name : AreScanned (put_routine_kind x.kind (kind.Mark mark.Semicolon ∷ inside)) = (optional_small mark.Entry x.is_entry (put_identifier x.name (put_routine_kind x.kind (kind.Mark mark.Semicolon ∷ inside))) e.1).1 in
    let p : AreScanned (put_body x.body last) = (each_small put_part IsSmallPart part_small x.parts (put_body x.body last) (kind_after x.kind (kind.Mark mark.Semicolon ∷ inside) after_name).1).1 in
    (body_small x.body last p, (body_after x.body last p).1)

routine_body : (x : Routine) (r : List Kind) → AreScanned (put_routine x r) → OfRoutine AreSmallStatements x × AreScanned r
routine_body x r e = routine_by (is_nameless x.kind) x r e

system_bodies : (x : System) (r : List Kind) → AreScanned (put_system x r) → OfSystem AreSmallStatements x × AreScanned r
system_bodies x r e =
    let last : List Kind = put_body x.body r in
    let routines : List Kind = put_all put_routine x.routines last in
    let inside : List Kind = put_all put_part x.parts routines in
    let p : AreScanned routines = (each_small put_part IsSmallPart part_small x.parts routines (optional_small mark.Semicolon x.has_semicolon inside (parameters_after put_group group_after x.parameters (put_optional mark.Semicolon x.has_semicolon inside) e.1))).1 in
    let q : Each (OfRoutine AreSmallStatements) x.routines × AreScanned last = each_small put_routine (OfRoutine AreSmallStatements) routine_body x.routines last p in
    ((q.0, body_small x.body r q.1), body_after x.body r q.1)

definition_bodies : (x : Definition) (r : List Kind) → AreScanned (put_definition x r) → OfDefinition AreSmallStatements x × AreScanned r
definition_bodies (type_definition t) r e = (tt, (type_small t r e).1)
definition_bodies (system_definition s) r e = system_bodies s r e

named_bodies : (x : SystemDefinition) (r : List Kind) → AreScanned (put_system_definition x r) → OfDefinition AreSmallStatements x.value × AreScanned r
named_bodies x r e =
    let p : OfDefinition AreSmallStatements x.value × AreScanned (kind.Mark mark.Semicolon ∷ r) = definition_bodies x.value (kind.Mark mark.Semicolon ∷ r) e.1.1 in
    (p.0, p.1.1)

part_bodies : (x : ProgramPart) (r : List Kind) → AreScanned (put_program_part x r) → OfPart AreSmallStatements x × AreScanned r
part_bodies (program_constants at ds) r e = (tt, (constants_small ds r e.1).1)
part_bodies (program_types at ds) r e = each_small put_system_definition (λ (d : SystemDefinition). OfDefinition AreSmallStatements d.value) named_bodies ds r e.1
part_bodies (program_variables at gs) r e = (tt, (variables_small gs r e.1).1)

-- ---- openings

abbrev pub IsSmallOpening : Opening → Type 0
IsSmallOpening o = AreSmallStatements o.meaning.body

program_opens : (p : Program) → AreScanned (spell p) → Each IsSmallOpening (openings_of p)
program_opens p e =
    let last : List Kind = put_body p.body (kind.Mark mark.Period ∷ []) in
    let parts : Each (OfPart AreSmallStatements) p.parts × AreScanned (put_all put_routine p.routines last) = each_small put_program_part (OfPart AreSmallStatements) part_bodies p.parts (put_all put_routine p.routines last) e in
    let routines : Each (OfRoutine AreSmallStatements) p.routines × AreScanned last = each_small put_routine (OfRoutine AreSmallStatements) routine_body p.routines last parts.1 in
    openings.program_opens AreSmallStatements p parts.0 routines.0 (body_small p.body (kind.Mark mark.Period ∷ []) routines.1)

pub read_opens : (p : Program) → IsRead p → Each IsSmallOpening (openings_of p)
read_opens p h = program_opens p (read_scanned p h)
