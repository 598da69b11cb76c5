-- In a program that was read all names of statements are written.
use Rattle.std.proofs.Common.{List, [], ◌∷◌, Some, None}
use Rattle.cp_text.specs.declared.token.Kind.{Kind}
use Rattle.cp_text.specs.declared.token.Kind.TheVariants as kind
use Rattle.cp_text.specs.declared.token.Mark.TheVariants as mark
use Rattle.cp_tree.specs.declared.constant.Constant.{Constant}
use Rattle.cp_tree.specs.declared.constant.ConstantKind.{ConstantKind}
use Rattle.cp_tree.specs.declared.constant.ConstantKind.TheVariants as constant_kind
use Rattle.cp_tree.specs.Syntax.{Expression, alone, related, Sum, sum, Terms, no_terms, more_terms, Term, term, Factors, no_factors, more_factors, Factor, number, character, named, group, negated, set_of, Expressions, no_expressions, more_expressions, Designator, designator, Selectors, no_selectors, more_selectors, Selector, field, index, Start, Statement, empty, assign, invoke, block, if_then, if_else, case_of, while_do, repeat_until, for_do, cycle, init, asserted, Statements, no_statements, more_statements, Arms, no_arms, more_arms, Arm, arm}
use Rattle.cp_tree.specs.Spelling.{put_constant, put_constant_kind, put_optional, put_behind, put_all, put_separated, put_expression, put_sum, put_terms, put_term, put_factors, put_factor, put_arguments, put_expressions, put_more_expressions, put_designator, put_selectors, put_selector, put_start, put_statement, put_statements, put_more_statements, put_arms, put_more_arms, put_arm, relation_mark, direction_mark}
use Rattle.cp_resolved.specs.Small.{Each}
use Rattle.cp_resolved.proofs.declarations.SmallTokens.{AreScanned, constant_small}
use Rattle.cp_resolved.proofs.declarations.SmallStatements.{sign_after, expression_after, sum_after, term_after, factor_after, designator_after, selector_after, start_after, labels_after, statement_after, statements_after, arm_after}
use Rattle.cp_annotation_laws.proofs.annotations.Spoken.{SpokenConstantKind, SpokenConstant, SpokenExpression, SpokenSum, SpokenTerms, SpokenTerm, SpokenFactors, SpokenFactor, SpokenExpressions, SpokenDesignator, SpokenSelectors, SpokenSelector, SpokenStart, SpokenStatement, SpokenStatements, SpokenArms, SpokenArm}

kind_spoken : (c : ConstantKind) (rest : List Kind) → AreScanned (put_constant_kind c rest) → SpokenConstantKind c
kind_spoken (constant_kind.Number o n) rest e = tt
kind_spoken (constant_kind.Name None i) rest e = e.0.1
kind_spoken (constant_kind.Name (Some s) i) rest e = e.1.0.1
kind_spoken (constant_kind.Character c) rest e = tt

pub constant_spoken : (c : Constant) (rest : List Kind) → AreScanned (put_constant c rest) → SpokenConstant c
constant_spoken c rest e = kind_spoken c.kind rest e

mutual
  pub expression_spoken : (x : Expression) (r : List Kind) → AreScanned (put_expression x r) → SpokenExpression x
  expression_spoken (alone at s) r e = sum_spoken s r e
  expression_spoken (related at s o t) r e = (sum_spoken s (kind.Mark (relation_mark o) ∷ put_sum t r) e, sum_spoken t r (sum_after s (kind.Mark (relation_mark o) ∷ put_sum t r) e).1)

  sum_spoken : (x : Sum) (r : List Kind) → AreScanned (put_sum x r) → SpokenSum x
  sum_spoken (sum at o t ts) r e = let u = sign_after o (put_term t (put_terms ts r)) e in (term_spoken t (put_terms ts r) u, terms_spoken ts r (term_after t (put_terms ts r) u))

  terms_spoken : (x : Terms) (r : List Kind) → AreScanned (put_terms x r) → SpokenTerms x
  terms_spoken no_terms r e = tt
  terms_spoken (more_terms a t ts) r e = (term_spoken t (put_terms ts r) e.1, terms_spoken ts r (term_after t (put_terms ts r) e.1))

  term_spoken : (x : Term) (r : List Kind) → AreScanned (put_term x r) → SpokenTerm x
  term_spoken (term at f fs) r e = (factor_spoken f (put_factors fs r) e, factors_spoken fs r (factor_after f (put_factors fs r) e))

  factors_spoken : (x : Factors) (r : List Kind) → AreScanned (put_factors x r) → SpokenFactors x
  factors_spoken no_factors r e = tt
  factors_spoken (more_factors m f fs) r e = (factor_spoken f (put_factors fs r) e.1, factors_spoken fs r (factor_after f (put_factors fs r) e.1))

  factor_spoken : (x : Factor) (r : List Kind) → AreScanned (put_factor x r) → SpokenFactor x
  factor_spoken (named at d es) r e = (designator_spoken d (put_arguments es r) e, arguments_spoken es r (designator_after d (put_arguments es r) e))
  factor_spoken (group at x) r e = expression_spoken x (kind.Mark mark.CloseParenthesis ∷ r) e.1
  factor_spoken (negated at f) r e = factor_spoken f r e.1
  factor_spoken (set_of at es) r e = expressions_spoken es (kind.Mark mark.CloseBracket ∷ r) e.1
  factor_spoken (number at n) r e = tt
  factor_spoken (character at c) r e = tt

  pub arguments_spoken : (x : Expressions) (r : List Kind) → AreScanned (put_arguments x r) → SpokenExpressions x
  arguments_spoken no_expressions r e = tt
  arguments_spoken (more_expressions x xs) r e =
      let after : List Kind = kind.Mark mark.CloseParenthesis ∷ r in
      (expression_spoken x (put_more_expressions xs after) e.1, more_spoken xs after (expression_after x (put_more_expressions xs after) e.1))

  expressions_spoken : (x : Expressions) (r : List Kind) → AreScanned (put_expressions x r) → SpokenExpressions x
  expressions_spoken no_expressions r e = tt
  expressions_spoken (more_expressions x xs) r e = (expression_spoken x (put_more_expressions xs r) e, more_spoken xs r (expression_after x (put_more_expressions xs r) e))

  more_spoken : (x : Expressions) (r : List Kind) → AreScanned (put_more_expressions x r) → SpokenExpressions x
  more_spoken no_expressions r e = tt
  more_spoken (more_expressions x xs) r e = (expression_spoken x (put_more_expressions xs r) e.1, more_spoken xs r (expression_after x (put_more_expressions xs r) e.1))

  pub designator_spoken : (x : Designator) (r : List Kind) → AreScanned (put_designator x r) → SpokenDesignator x
  designator_spoken (designator i ss) r e = (e.0.1, selectors_spoken ss r e.1)

  selectors_spoken : (x : Selectors) (r : List Kind) → AreScanned (put_selectors x r) → SpokenSelectors x
  selectors_spoken no_selectors r e = tt
  selectors_spoken (more_selectors s ss) r e = (selector_spoken s (put_selectors ss r) e, selectors_spoken ss r (selector_after s (put_selectors ss r) e))

  selector_spoken : (x : Selector) (r : List Kind) → AreScanned (put_selector x r) → SpokenSelector x
  selector_spoken (field i) r e = e.1.0.1
  selector_spoken (index x) r e = expression_spoken x (kind.Mark mark.CloseBracket ∷ r) e.1

-- ---- statements

start_spoken : (t : Start) (r : List Kind) → AreScanned (put_start t r) → SpokenStart t
start_spoken t r e = (designator_spoken t.target (put_arguments t.arguments r) e, arguments_spoken t.arguments r (designator_after t.target (put_arguments t.arguments r) e))

more_starts_spoken : (ts : List Start) (r : List Kind) → AreScanned (put_all (put_behind mark.Comma put_start) ts r) → Each SpokenStart ts
more_starts_spoken [] r e = tt
more_starts_spoken (t ∷ ts) r e = let after : List Kind = put_all (put_behind mark.Comma put_start) ts r in (start_spoken t after e.1, more_starts_spoken ts r (start_after t after e.1))

starts_spoken : (ts : List Start) (r : List Kind) → AreScanned (put_separated mark.Comma put_start ts r) → Each SpokenStart ts
starts_spoken [] r e = tt
starts_spoken (t ∷ ts) r e = let after : List Kind = put_all (put_behind mark.Comma put_start) ts r in (start_spoken t after e, more_starts_spoken ts r (start_after t after e))

more_labels_spoken : (cs : List Constant) (r : List Kind) → AreScanned (put_all (put_behind mark.Comma put_constant) cs r) → Each SpokenConstant cs
more_labels_spoken [] r e = tt
more_labels_spoken (c ∷ cs) r e =
    (constant_spoken c (put_all (put_behind mark.Comma put_constant) cs r) e.1, more_labels_spoken cs r (constant_small c.kind (put_all (put_behind mark.Comma put_constant) cs r) e.1).1)

labels_spoken : (cs : List Constant) (r : List Kind) → AreScanned (put_separated mark.Comma put_constant cs r) → Each SpokenConstant cs
labels_spoken [] r e = tt
labels_spoken (c ∷ cs) r e =
    (constant_spoken c (put_all (put_behind mark.Comma put_constant) cs r) e, more_labels_spoken cs r (constant_small c.kind (put_all (put_behind mark.Comma put_constant) cs r) e).1)

mutual
  pub statement_spoken : (x : Statement) (r : List Kind) → AreScanned (put_statement x r) → SpokenStatement x
  statement_spoken (empty at) r e = tt
  statement_spoken (assign at d x) r e =
      let after : List Kind = kind.Mark mark.Becomes ∷ put_expression x r in
      (designator_spoken d after e, expression_spoken x r (designator_after d after e).1)
  statement_spoken (invoke at d es) r e = (designator_spoken d (put_arguments es r) e, arguments_spoken es r (designator_after d (put_arguments es r) e))
  statement_spoken (block at ss) r e = statements_spoken ss (kind.Mark mark.End ∷ r) e.1
  statement_spoken (if_then at x s) r e =
      let after : List Kind = kind.Mark mark.Then ∷ put_statement s r in
      (expression_spoken x after e.1, statement_spoken s r (expression_after x after e.1).1)
  statement_spoken (if_else at x s t) r e =
      let other : List Kind = kind.Mark mark.Else ∷ put_statement t r in
      let after : List Kind = kind.Mark mark.Then ∷ put_statement s other in
      let first : AreScanned (put_statement s other) = (expression_after x after e.1).1 in
      (expression_spoken x after e.1, statement_spoken s other first, statement_spoken t r (statement_after s other first).1)
  statement_spoken (case_of at x bs b) r e =
      let rest : List Kind = put_optional mark.Semicolon b (kind.Mark mark.End ∷ r) in
      let after : List Kind = kind.Mark mark.Of ∷ put_arms bs rest in
      (expression_spoken x after e.1, arms_spoken bs rest (expression_after x after e.1).1)
  statement_spoken (while_do at x s) r e =
      let after : List Kind = kind.Mark mark.Do ∷ put_statement s r in
      (expression_spoken x after e.1, statement_spoken s r (expression_after x after e.1).1)
  statement_spoken (repeat_until at ss x) r e =
      let after : List Kind = kind.Mark mark.Until ∷ put_expression x r in
      (statements_spoken ss after e.1, expression_spoken x r (statements_after ss after e.1).1)
  statement_spoken (for_do at i x d y s) r e =
      let body : List Kind = kind.Mark mark.Do ∷ put_statement s r in
      let after : List Kind = kind.Mark (direction_mark d) ∷ put_expression y body in
      let first : AreScanned (put_expression x after) = e.1.1.1 in
      let second : AreScanned (put_expression y body) = (expression_after x after first).1 in
      (e.1.0.1, expression_spoken x after first, expression_spoken y body second, statement_spoken s r (expression_after y body second).1)
  statement_spoken (cycle at ss) r e = statements_spoken ss (kind.Mark mark.End ∷ r) e.1
  statement_spoken (init at ts) r e = starts_spoken ts r e.1
  statement_spoken (asserted at k x s) r e =
      let after : List Kind = kind.Mark mark.Closes ∷ put_statement s r in
      (expression_spoken x after e.1, statement_spoken s r (expression_after x after e.1).1)

  pub statements_spoken : (x : Statements) (r : List Kind) → AreScanned (put_statements x r) → SpokenStatements x
  statements_spoken no_statements r e = tt
  statements_spoken (more_statements s ss) r e = (statement_spoken s (put_more_statements ss r) e, more_statements_spoken ss r (statement_after s (put_more_statements ss r) e))

  more_statements_spoken : (x : Statements) (r : List Kind) → AreScanned (put_more_statements x r) → SpokenStatements x
  more_statements_spoken no_statements r e = tt
  more_statements_spoken (more_statements s ss) r e = (statement_spoken s (put_more_statements ss r) e.1, more_statements_spoken ss r (statement_after s (put_more_statements ss r) e.1))

  arms_spoken : (x : Arms) (r : List Kind) → AreScanned (put_arms x r) → SpokenArms x
  arms_spoken no_arms r e = tt
  arms_spoken (more_arms b bs) r e = (arm_spoken b (put_more_arms bs r) e, more_arms_spoken bs r (arm_after b (put_more_arms bs r) e))

  more_arms_spoken : (x : Arms) (r : List Kind) → AreScanned (put_more_arms x r) → SpokenArms x
  more_arms_spoken no_arms r e = tt
  more_arms_spoken (more_arms b bs) r e = (arm_spoken b (put_more_arms bs r) e.1, more_arms_spoken bs r (arm_after b (put_more_arms bs r) e.1))

  arm_spoken : (x : Arm) (r : List Kind) → AreScanned (put_arm x r) → SpokenArm x
  arm_spoken (arm cs s) r e = let after : List Kind = kind.Mark mark.Colon ∷ put_statement s r in (labels_spoken cs after e, statement_spoken s r (labels_after cs after e).1)
