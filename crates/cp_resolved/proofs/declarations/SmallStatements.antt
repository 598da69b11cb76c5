-- Where the tokens of expressions and statements and all after them are as a text has them, so are those after them.
use Rattle.cp_resolved.proofs.Words.{List, [], ◌∷◌, Option, Some, None, Kind, Constant, Sign}
use Rattle.cp_text.specs.declared.token.Kind.TheVariants as kind
use Rattle.cp_text.specs.declared.token.Mark.TheVariants as mark
use Rattle.cp_tree.specs.Syntax.{Expression, alone, related, Sum, sum, Terms, no_terms, more_terms, Term, term, Factors, no_factors, more_factors, Factor, named, group, negated, set_of, Expressions, no_expressions, more_expressions, Designator, designator, Selectors, no_selectors, more_selectors, Selector, field, index, Start, Statement, empty, assign, invoke, block, if_then, if_else, case_of, while_do, repeat_until, for_do, cycle, init, asserted, Statements, no_statements, more_statements, Arms, no_arms, more_arms, Arm, arm}
use Rattle.cp_tree.specs.Spelling.{put_behind, put_all, put_separated, put_sign, put_constant, put_optional, put_expression, put_sum, put_terms, put_term, put_factors, put_factor, put_arguments, put_expressions, put_more_expressions, put_designator, put_selectors, put_selector, put_start, put_statement, put_statements, put_more_statements, put_arms, put_more_arms, put_arm, relation_mark, direction_mark}
use Rattle.cp_resolved.proofs.declarations.SmallTokens.{AreScanned, optional_small, constant_small}

pub sign_after : (o : Option Sign) (r : List Kind) → AreScanned (put_sign o r) → AreScanned r
sign_after None r e = e
sign_after (Some s) r e = e.1

mutual
  pub expression_after : (x : Expression) (r : List Kind) → AreScanned (put_expression x r) → AreScanned r
  expression_after (alone at s) r e = sum_after s r e
  expression_after (related at s o t) r e = sum_after t r (sum_after s (kind.Mark (relation_mark o) ∷ put_sum t r) e).1

  pub sum_after : (x : Sum) (r : List Kind) → AreScanned (put_sum x r) → AreScanned r
  sum_after (sum at o t ts) r e = terms_after ts r (term_after t (put_terms ts r) (sign_after o (put_term t (put_terms ts r)) e))

  pub terms_after : (x : Terms) (r : List Kind) → AreScanned (put_terms x r) → AreScanned r
  terms_after no_terms r e = e
  terms_after (more_terms a t ts) r e = terms_after ts r (term_after t (put_terms ts r) e.1)

  pub term_after : (x : Term) (r : List Kind) → AreScanned (put_term x r) → AreScanned r
  term_after (term at f fs) r e = factors_after fs r (factor_after f (put_factors fs r) e)

  pub factors_after : (x : Factors) (r : List Kind) → AreScanned (put_factors x r) → AreScanned r
  factors_after no_factors r e = e
  factors_after (more_factors m f fs) r e = factors_after fs r (factor_after f (put_factors fs r) e.1)

  pub factor_after : (x : Factor) (r : List Kind) → AreScanned (put_factor x r) → AreScanned r
  factor_after (named at d es) r e = arguments_after es r (designator_after d (put_arguments es r) e)
  factor_after (group at x) r e = (expression_after x (kind.Mark mark.CloseParenthesis ∷ r) e.1).1
  factor_after (negated at f) r e = factor_after f r e.1
  factor_after (set_of at es) r e = (expressions_after es (kind.Mark mark.CloseBracket ∷ r) e.1).1
  factor_after _ r e = e.1

  pub arguments_after : (x : Expressions) (r : List Kind) → AreScanned (put_arguments x r) → AreScanned r
  arguments_after no_expressions r e = e
  arguments_after (more_expressions x xs) r e = (more_after xs (kind.Mark mark.CloseParenthesis ∷ r) (expression_after x (put_more_expressions xs (kind.Mark mark.CloseParenthesis ∷ r)) e.1)).1

  pub expressions_after : (x : Expressions) (r : List Kind) → AreScanned (put_expressions x r) → AreScanned r
  expressions_after no_expressions r e = e
  expressions_after (more_expressions x xs) r e = more_after xs r (expression_after x (put_more_expressions xs r) e)

  pub more_after : (x : Expressions) (r : List Kind) → AreScanned (put_more_expressions x r) → AreScanned r
  more_after no_expressions r e = e
  more_after (more_expressions x xs) r e = more_after xs r (expression_after x (put_more_expressions xs r) e.1)

  pub designator_after : (x : Designator) (r : List Kind) → AreScanned (put_designator x r) → AreScanned r
  designator_after (designator i ss) r e = selectors_after ss r e.1

  pub selectors_after : (x : Selectors) (r : List Kind) → AreScanned (put_selectors x r) → AreScanned r
  selectors_after no_selectors r e = e
  selectors_after (more_selectors s ss) r e = selectors_after ss r (selector_after s (put_selectors ss r) e)

  pub selector_after : (x : Selector) (r : List Kind) → AreScanned (put_selector x r) → AreScanned r
  selector_after (field i) r e = e.1.1
  selector_after (index x) r e = (expression_after x (kind.Mark mark.CloseBracket ∷ r) e.1).1

pub start_after : (t : Start) (r : List Kind) → AreScanned (put_start t r) → AreScanned r
start_after t r e = arguments_after t.arguments r (designator_after t.target (put_arguments t.arguments r) e)

pub more_starts_after : (ts : List Start) (r : List Kind) → AreScanned (put_all (put_behind mark.Comma put_start) ts r) → AreScanned r
more_starts_after [] r e = e
more_starts_after (t ∷ ts) r e = more_starts_after ts r (start_after t (put_all (put_behind mark.Comma put_start) ts r) e.1)

pub starts_after : (ts : List Start) (r : List Kind) → AreScanned (put_separated mark.Comma put_start ts r) → AreScanned r
starts_after [] r e = e
starts_after (t ∷ ts) r e = more_starts_after ts r (start_after t (put_all (put_behind mark.Comma put_start) ts r) e)

pub more_labels_after : (cs : List Constant) (r : List Kind) → AreScanned (put_all (put_behind mark.Comma put_constant) cs r) → AreScanned r
more_labels_after [] r e = e
more_labels_after (c ∷ cs) r e = more_labels_after cs r (constant_small c.kind (put_all (put_behind mark.Comma put_constant) cs r) e.1).1

pub labels_after : (cs : List Constant) (r : List Kind) → AreScanned (put_separated mark.Comma put_constant cs r) → AreScanned r
labels_after [] r e = e
labels_after (c ∷ cs) r e = more_labels_after cs r (constant_small c.kind (put_all (put_behind mark.Comma put_constant) cs r) e).1

mutual
  pub statement_after : (x : Statement) (r : List Kind) → AreScanned (put_statement x r) → AreScanned r
  statement_after (empty at) r e = e
  statement_after (assign at d x) r e = expression_after x r (designator_after d (kind.Mark mark.Becomes ∷ put_expression x r) e).1
  statement_after (invoke at d es) r e = arguments_after es r (designator_after d (put_arguments es r) e)
  statement_after (block at ss) r e = (statements_after ss (kind.Mark mark.End ∷ r) e.1).1
  statement_after (if_then at x s) r e = statement_after s r (expression_after x (kind.Mark mark.Then ∷ put_statement s r) e.1).1
  statement_after (if_else at x s t) r e =
      let other : List Kind = kind.Mark mark.Else ∷ put_statement t r in
      statement_after t r (statement_after s other (expression_after x (kind.Mark mark.Then ∷ put_statement s other) e.1).1).1
  statement_after (case_of at x bs b) r e =
      let last : List Kind = kind.Mark mark.End ∷ r in
      let rest : List Kind = put_optional mark.Semicolon b last in
      (optional_small mark.Semicolon b last (arms_after bs rest (expression_after x (kind.Mark mark.Of ∷ put_arms bs rest) e.1).1)).1
  statement_after (while_do at x s) r e = statement_after s r (expression_after x (kind.Mark mark.Do ∷ put_statement s r) e.1).1
  statement_after (repeat_until at ss x) r e = expression_after x r (statements_after ss (kind.Mark mark.Until ∷ put_expression x r) e.1).1
  statement_after (for_do at i x d y s) r e =
      let body : List Kind = kind.Mark mark.Do ∷ put_statement s r in
      statement_after s r (expression_after y body (expression_after x (kind.Mark (direction_mark d) ∷ put_expression y body) e.1.1.1).1).1
  statement_after (cycle at ss) r e = (statements_after ss (kind.Mark mark.End ∷ r) e.1).1
  statement_after (init at ts) r e = starts_after ts r e.1
  statement_after (asserted at k x s) r e = statement_after s r (expression_after x (kind.Mark mark.Closes ∷ put_statement s r) e.1).1

  pub statements_after : (x : Statements) (r : List Kind) → AreScanned (put_statements x r) → AreScanned r
  statements_after no_statements r e = e
  statements_after (more_statements s ss) r e = more_statements_after ss r (statement_after s (put_more_statements ss r) e)

  pub more_statements_after : (x : Statements) (r : List Kind) → AreScanned (put_more_statements x r) → AreScanned r
  more_statements_after no_statements r e = e
  more_statements_after (more_statements s ss) r e = more_statements_after ss r (statement_after s (put_more_statements ss r) e.1)

  pub arms_after : (x : Arms) (r : List Kind) → AreScanned (put_arms x r) → AreScanned r
  arms_after no_arms r e = e
  arms_after (more_arms b bs) r e = more_arms_after bs r (arm_after b (put_more_arms bs r) e)

  pub more_arms_after : (x : Arms) (r : List Kind) → AreScanned (put_more_arms x r) → AreScanned r
  more_arms_after no_arms r e = e
  more_arms_after (more_arms b bs) r e = more_arms_after bs r (arm_after b (put_more_arms bs r) e.1)

  pub arm_after : (x : Arm) (r : List Kind) → AreScanned (put_arm x r) → AreScanned r
  arm_after (arm cs s) r e = statement_after s r (labels_after cs (kind.Mark mark.Colon ∷ put_statement s r) e).1
