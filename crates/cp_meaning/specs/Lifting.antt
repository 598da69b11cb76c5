-- Lifting (this profile's own): the function calls of a statement are items of their own before it, innermost first in reading order.
-- Each goes into a temporary name, and in the statement the call then stands for that name.
use Rattle.std.specs.Prelude.{ℕ, Bool, true, false, if◌then◌else◌, List, [], ◌∷◌, ◌++◌, Option, Some, None}
use Rattle.cp_tree.specs.Syntax.{Expression, alone, related, Sum, sum, Terms, no_terms, more_terms, Term, term, Factors, no_factors, more_factors, Factor, number, character, named, group, negated, set_of, Expressions, no_expressions, more_expressions, Designator, designator, Selectors, no_selectors, more_selectors, Selector, field, index, Start, Statement, empty, assign, invoke, block, if_then, if_else, case_of, while_do, repeat_until, for_do, cycle, init, asserted, nameless, Statements, no_statements, more_statements}
use Rattle.cp_meaning.specs.Names.{Name}
use Rattle.cp_meaning.specs.Types.{has_components}
use Rattle.cp_meaning.specs.Scopes.{Meaning, permanent_variable, routine_meaning, standard_meaning, delay_procedure, continue_procedure, Scope, find}
use Rattle.cp_meaning.specs.State.{Item, statement_item, function_call, start_item, until}

-- the routine of a component that a designator ends in, if it does
abbrev pub last_field : Selectors → Option Name
last_field no_selectors = None
last_field (more_selectors (field i) no_selectors) = Some i.name
last_field (more_selectors (index e) no_selectors) = None
last_field (more_selectors s ss) = last_field ss

abbrev pub is_call_meant : Option Meaning → Option Name → Bool
is_call_meant (Some (routine_meaning r)) o = true
is_call_meant (Some (permanent_variable t)) (Some x) = has_components t
is_call_meant m o = false

-- in an expression: the name of a function, or an entry of a component
abbrev pub is_call : Scope → Designator → Bool
is_call s (designator i ss) = is_call_meant (find i.name s) (last_field ss)

abbrev pub own_call : Bool → ℕ → Designator → Expressions → List Item
own_call true at d es = function_call at d es ∷ []
own_call false at d es = []

abbrev mutual
  pub expression_calls : Scope → Expression → List Item
  expression_calls s (alone at a) = sum_calls s a
  expression_calls s (related at a r b) = sum_calls s a ++ sum_calls s b

  pub sum_calls : Scope → Sum → List Item
  sum_calls s (sum at o t ts) = term_calls s t ++ terms_calls s ts

  pub terms_calls : Scope → Terms → List Item
  terms_calls s no_terms = []
  terms_calls s (more_terms op t ts) = term_calls s t ++ terms_calls s ts

  pub term_calls : Scope → Term → List Item
  term_calls s (term at f fs) = factor_calls s f ++ factors_calls s fs

  pub factors_calls : Scope → Factors → List Item
  factors_calls s no_factors = []
  factors_calls s (more_factors op f fs) = factor_calls s f ++ factors_calls s fs

  pub factor_calls : Scope → Factor → List Item
  factor_calls s (number at n) = []
  factor_calls s (character at c) = []
  factor_calls s (named at d es) = designator_calls s d ++ expressions_calls s es ++ own_call (is_call s d) at d es
  factor_calls s (group at e) = expression_calls s e
  factor_calls s (negated at f) = factor_calls s f
  factor_calls s (set_of at es) = expressions_calls s es

  pub expressions_calls : Scope → Expressions → List Item
  expressions_calls s no_expressions = []
  expressions_calls s (more_expressions e es) = expression_calls s e ++ expressions_calls s es

  pub designator_calls : Scope → Designator → List Item
  designator_calls s (designator i ss) = selectors_calls s ss

  pub selectors_calls : Scope → Selectors → List Item
  selectors_calls s no_selectors = []
  selectors_calls s (more_selectors c cs) = selector_calls s c ++ selectors_calls s cs

  pub selector_calls : Scope → Selector → List Item
  selector_calls s (field i) = []
  selector_calls s (index e) = expression_calls s e

-- an `init` statement stands for its starts, each an item
abbrev pub start_items : Scope → List Start → List Item
start_items s [] = []
start_items s (t ∷ ts) = designator_calls s t.target ++ expressions_calls s t.arguments ++ start_item t ∷ start_items s ts

-- ---- checks: calls of the routine without a name, which says the invariants of the block

abbrev pub is_routine_meant : Option Meaning → Bool
is_routine_meant (Some (routine_meaning r)) = true
is_routine_meant m = false

-- whether the block has invariants; a routine of it can't hide that name
abbrev pub has_invariants : Scope → Bool
has_invariants s = is_routine_meant (find nameless s)

abbrev pub check_statement : ℕ → Statement
check_statement at = invoke at (designator (record { at = at; name = nameless }) no_selectors) no_expressions

abbrev pub check_items : ℕ → Scope → List Item
check_items at s = if has_invariants s then statement_item (check_statement at) ∷ [] else []

abbrev pub waits_meant : Option Meaning → Bool
waits_meant (Some (standard_meaning delay_procedure)) = true
waits_meant (Some (standard_meaning continue_procedure)) = true
waits_meant m = false

abbrev pub first_name : Designator → Name
first_name (designator i ss) = i.name

-- before `delay` and `continue`, behind their function calls
abbrev pub checks_before : ℕ → Scope → Designator → List Item
checks_before at s d = if waits_meant (find (first_name d) s) then check_items at s else []

-- the items of a statement: its calls and itself; an `init` stands for its starts
abbrev pub items_of : Scope → Statement → List Item
items_of s (init at ts) = start_items s ts
items_of s (assign at d e) = designator_calls s d ++ expression_calls s e ++ statement_item (assign at d e) ∷ []
items_of s (invoke at d es) = designator_calls s d ++ expressions_calls s es ++ checks_before at s d ++ statement_item (invoke at d es) ∷ []
items_of s (if_then at e t) = expression_calls s e ++ statement_item (if_then at e t) ∷ []
items_of s (if_else at e t u) = expression_calls s e ++ statement_item (if_else at e t u) ∷ []
items_of s (case_of at e as' b) = expression_calls s e ++ statement_item (case_of at e as' b) ∷ []
items_of s (while_do at e t) = expression_calls s e ++ statement_item (while_do at e t) ∷ []
items_of s (for_do at i e d f t) = expression_calls s e ++ expression_calls s f ++ statement_item (for_do at i e d f t) ∷ []
items_of s (empty at) = statement_item (empty at) ∷ []
items_of s (block at ts) = statement_item (block at ts) ∷ []
items_of s (repeat_until at ts e) = statement_item (repeat_until at ts e) ∷ []
items_of s (cycle at ts) = statement_item (cycle at ts) ∷ []
-- an annotation has no calls (C22)
items_of s (asserted at k e t) = expression_calls s e ++ statement_item (asserted at k e t) ∷ []

-- the items of statements, one after the other
abbrev pub items_of_all : Scope → Statements → List Item
items_of_all s no_statements = []
items_of_all s (more_statements t ts) = items_of s t ++ items_of_all s ts

-- the test after the statements of a `repeat`
abbrev pub until_items : Scope → Statements → Expression → List Item
until_items s ts e = expression_calls s e ++ until ts e ∷ []
