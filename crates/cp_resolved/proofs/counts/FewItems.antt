-- A program has no more items than tokens: each statement and each call of a function is one, and `repeat` is two.
use Rattle.std.proofs.Common.{◌≡◌, ℕ, ◌+◌, ◌≤◌, Bool, true, false, List, [], ◌∷◌, length, max, Option, Some, None, slice_index, refl, ap, arith}
use Rattle.cp_resolved.proofs.Words.{Kind, Sign, Direction, FunctionResult}
use Rattle.cp_text.specs.declared.token.Kind.TheVariants as kind
use Rattle.cp_text.specs.declared.token.Mark.TheVariants as mark
use Rattle.cp_tree.specs.Syntax as syntax
use Rattle.cp_tree.specs.Spelling.{is_nameless, put_routine_by, put_identifier, put_part, put_body, put_routine_kind, put_routine, spell, put_optional, put_behind, put_all, put_separated, put_sign, put_constant, put_expression, put_sum, put_terms, put_term, put_factors, put_factor, put_arguments, put_expressions, put_more_expressions, put_designator, put_selectors, put_selector, put_start, put_statement, put_statements, put_more_statements, put_arms, put_more_arms, put_arm, relation_mark, direction_mark}
use Rattle.cp_tree.proofs.Grows.{grows_all, grows_part, grows_routine_kind, grows_optional, grows_constant, grows_separated, grows_arguments, grows_more_expressions}
use Rattle.cp_slots.specs.Code as code
use Rattle.cp_slots.specs.Code.{SetExpression, ComponentPlace, Argument, Arm, Action, Item}
use Rattle.cp_layout.specs.Values.{Value, Designated, a_routine, an_entry, a_standard, sum_of as values_added, product_of as values_multiplied, ordinal_of}
use Rattle.cp_tree.specs.declared.statement.AssertionKind.{AssertionKind}
use Rattle.cp_symbols.specs.declared.names.LayoutMeaning.{LayoutMeaning}
use Rattle.cp_symbols.specs.declared.names.LayoutMeaning.TheVariants as meaning
use Rattle.cp_symbols.specs.declared.names.PredeclaredRoutine.{PredeclaredRoutine}
use Rattle.cp_symbols.specs.declared.names.PredeclaredRoutine.TheVariants as predeclared
use Rattle.cp_layout.specs.Layers.{find, Layer, Pending, add_items, settle_items, without_pending, add_item, with_cell, with_room, call_need, need_of, result_of, again, need_inside, pending_need, nothing_laid}
use Rattle.cp_layout.specs.LaidExpressions.{name_meaning, with_their_count, function_as, value_of_meaning, with_sign, name_at, expression, sum, more_terms, term, more_factors, factor, elements, first_value, arguments_from, designator, selectors, selector, arguments}
use Rattle.cp_layout.specs.LaidStatements.{check_by, check_invariants, check_before, assertion, said_of, Target, target_of, assignment, arms_need, origin_of, low_of, high_of, is_down, assign, standard_action, procedure, standard, Callee, a_standard_procedure, a_procedure, no_callee, callee_of, call_of, call_statement, block_item, cycle_item, choose, while_item, until_item, token_of, repeat_items, select, for_item, initial_of, begin_component, Placed, component_place_of, start_of, start_statement, starts, statements, statement, arms, one_arm}
use Rattle.cp_layout.specs.LaidDeclarations.{body, end_of_body, Parameters, heading, heading_with, with_heading, with_new_frame, open_routine, local_parts, routine, initial_statement, program}
use Rattle.cp_resolved.proofs.laid.Declares.{Declares, local_parts_declare, heading_declares}
use Rattle.cp_resolved.specs.Begun.{all_begun}
use Rattle.cp_resolved.proofs.counts.FewReferences.{one_more}
use Rattle.cp_resolved.proofs.declarations.Nameless.{SaysSome, IsKnownBy, IsKnown, EachRoutine}
use Rattle.cp_resolved.proofs.counts.SpentTokens.{each_any, program_spent}

-- the items so far, with those that are to come
abbrev pub count : Layer → ℕ
count l = length l.items + length l.pending

pub added_one : (l : Layer) (at : ℕ) (a : Action) (need : ℕ) → count (add_item l at a need) ≡ count l + 1
added_one l at a need =
    let p : Pending = record { action = a; line = slice_index l.lines at; need = need } in
    let e = one_more l.pending p in
    omega (arith, e)

all_settled : (l : Layer) (ps : List Pending) (next : Option ℕ) → (length (add_items l ps next).1.items ≡ length l.items + length ps) × ((add_items l ps next).1.pending ≡ l.pending)
all_settled l [] next = (omega arith, refl)
all_settled l (p ∷ ps) next =
    let h = all_settled l ps next in
    let rest : Option ℕ × Layer = add_items l ps next in
    let i : Item = record { action = p.action; next = rest.0; line = p.line; routine = length rest.1.routines; need = max (need_of rest.1.items rest.0) p.need } in
    let e = h.0 in
    let f = one_more rest.1.items i in
    (omega (arith, e, f), h.1)

pub settled_same : (l : Layer) (next : Option ℕ) → count (settle_items l next).1 ≡ count l
settled_same l next =
    let h = all_settled (without_pending l) l.pending next in
    let e = h.0 in
    let f : length (settle_items l next).1.pending ≡ 0 = ap (λ (ps : List Pending). length ps) h.1 in
    omega (arith, e, f)

sign_grows : (o : Option Sign) (ks : List Kind) → length ks ≤ length (put_sign o ks)
sign_grows None ks = omega arith
sign_grows (Some s) ks = omega arith

-- ---- calls in expressions

function_few : (l : Layer) (at : ℕ) (c : ComponentPlace) (b : Bool) (r : ℕ) (o : Option FunctionResult) (handed : Layer → ℕ → List Argument × Layer) (high low : ℕ) → low ≤ high → ((m : Layer) (k : ℕ) → count (handed m k).1 + low ≤ count m + high) → count (function_as l at c b r o handed).1 + low ≤ count l + high + 1
function_few l at c b r None handed high low le h = omega (arith, le)
function_few l at c b r (Some x) handed high low le h =
    let y : List Argument × Layer = handed l r in
    let m : Layer = (with_their_count y).1 in
    let a = h l r in
    let e = added_one (with_room (with_cell m) r) at (code.call r c b y.0 (Some (length m.frame.image))) (call_need (with_cell m) r) in
    omega (arith, a, e)

named_few : (l : Layer) (at : ℕ) (d : Designated) (first : Layer → Value × Layer) (handed : Layer → ℕ → List Argument × Layer) (high low : ℕ) → low ≤ high → ((m : Layer) → count (first m).1 + low ≤ count m + high) → ((m : Layer) (k : ℕ) → count (handed m k).1 + low ≤ count m + high) → count (value_of_meaning l at d first handed).1 + low ≤ count l + high + 1
named_few l at (a_routine r) first handed high low le f h = function_few l at code.own _ r (result_of l r) handed high low le h
named_few l at (an_entry c r) first handed high low le f h = function_few l at c _ r (result_of l r) handed high low le h
named_few l at (a_standard s) first handed high low le f h = let a = f l in omega (arith, a)
named_few l at x first handed high low le f h = omega (arith, le)

mutual
  unfolding expression sum more_terms term more_factors factor elements first_value arguments_from designator selectors selector

  expression_few : (l : Layer) (e : syntax.Expression) (rest : List Kind) → count (expression l e).1 + length rest ≤ count l + length (put_expression e rest)
  expression_few l (syntax.alone at a) rest = sum_few l a rest
  expression_few l (syntax.related at a r b) rest =
      let x = sum_few l a (kind.Mark (relation_mark r) ∷ put_sum b rest) in
      let y = sum_few (sum l a).1 b rest in
      omega (arith, x, y)

  sum_few : (l : Layer) (s : syntax.Sum) (rest : List Kind) → count (sum l s).1 + length rest ≤ count l + length (put_sum s rest)
  sum_few l (syntax.sum at o t ts) rest =
      let x = term_few l t (put_terms ts rest) in
      let y = terms_few (term l t).1 (with_sign o (term l t).0) ts rest in
      let z = sign_grows o (put_term t (put_terms ts rest)) in
      omega (arith, x, y, z)

  terms_few : (l : Layer) (v : Value) (ts : syntax.Terms) (rest : List Kind) → count (more_terms l v ts).1 + length rest ≤ count l + length (put_terms ts rest)
  terms_few l v syntax.no_terms rest = omega arith
  terms_few l v (syntax.more_terms a t ts) rest =
      let x = term_few l t (put_terms ts rest) in
      let y = terms_few (term l t).1 (values_added a v (term l t).0) ts rest in
      omega (arith, x, y)

  term_few : (l : Layer) (t : syntax.Term) (rest : List Kind) → count (term l t).1 + length rest ≤ count l + length (put_term t rest)
  term_few l (syntax.term at f fs) rest =
      let x = factor_few l f (put_factors fs rest) in
      let y = factors_few (factor l f).1 (factor l f).0 fs rest in
      omega (arith, x, y)

  factors_few : (l : Layer) (v : Value) (fs : syntax.Factors) (rest : List Kind) → count (more_factors l v fs).1 + length rest ≤ count l + length (put_factors fs rest)
  factors_few l v syntax.no_factors rest = omega arith
  factors_few l v (syntax.more_factors m f fs) rest =
      let x = factor_few l f (put_factors fs rest) in
      let y = factors_few (factor l f).1 (values_multiplied m v (factor l f).0) fs rest in
      omega (arith, x, y)

  factor_few : (l : Layer) (f : syntax.Factor) (rest : List Kind) → count (factor l f).1 + length rest ≤ count l + length (put_factor f rest)
  factor_few l (syntax.named at (syntax.designator i ss) es) rest =
      let x : Designated × Layer = designator l (syntax.designator i ss) in
      let a = selectors_few l (name_meaning l i.name) ss (put_arguments es rest) in
      let b = named_few x.1 at x.0 (λ m. first_value m es) (λ m r. arguments_from m r 0 es) (length (put_arguments es rest)) (length rest) (grows_arguments es rest) (λ m. first_few m es rest) (λ m k. arguments_few m k 0 es rest) in
      omega (arith, a, b)
  factor_few l (syntax.group at e) rest = let x = expression_few l e (kind.Mark mark.CloseParenthesis ∷ rest) in omega (arith, x)
  factor_few l (syntax.negated at f) rest = let x = factor_few l f rest in omega (arith, x)
  factor_few l (syntax.set_of at es) rest = let x = elements_few l code.empty_set es (kind.Mark mark.CloseBracket ∷ rest) in omega (arith, x)
  factor_few l x rest = omega arith

  elements_few : (l : Layer) (s : SetExpression) (es : syntax.Expressions) (rest : List Kind) → count (elements l s es).1 + length rest ≤ count l + length (put_expressions es rest)
  elements_few l s syntax.no_expressions rest = omega arith
  elements_few l s (syntax.more_expressions e es) rest =
      let x = expression_few l e (put_more_expressions es rest) in
      let y = more_elements_few (expression l e).1 (code.with_element s (ordinal_of (expression l e).0)) es rest in
      omega (arith, x, y)

  more_elements_few : (l : Layer) (s : SetExpression) (es : syntax.Expressions) (rest : List Kind) → count (elements l s es).1 + length rest ≤ count l + length (put_more_expressions es rest)
  more_elements_few l s syntax.no_expressions rest = omega arith
  more_elements_few l s (syntax.more_expressions e es) rest =
      let x = expression_few l e (put_more_expressions es rest) in
      let y = more_elements_few (expression l e).1 (code.with_element s (ordinal_of (expression l e).0)) es rest in
      omega (arith, x, y)

  first_few : (l : Layer) (es : syntax.Expressions) (rest : List Kind) → count (first_value l es).1 + length rest ≤ count l + length (put_arguments es rest)
  first_few l syntax.no_expressions rest = omega arith
  first_few l (syntax.more_expressions e es) rest =
      let x = expression_few l e (put_more_expressions es (kind.Mark mark.CloseParenthesis ∷ rest)) in
      let y = grows_more_expressions es (kind.Mark mark.CloseParenthesis ∷ rest) in
      omega (arith, x, y)

  arguments_few : (l : Layer) (r k : ℕ) (es : syntax.Expressions) (rest : List Kind) → count (arguments_from l r k es).1 + length rest ≤ count l + length (put_arguments es rest)
  arguments_few l r k syntax.no_expressions rest = omega arith
  arguments_few l r k (syntax.more_expressions e es) rest =
      let last : List Kind = kind.Mark mark.CloseParenthesis ∷ rest in
      let x = expression_few l e (put_more_expressions es last) in
      let y = more_arguments_few (expression l e).1 r (k + 1) es last in
      omega (arith, x, y)

  more_arguments_few : (l : Layer) (r k : ℕ) (es : syntax.Expressions) (rest : List Kind) → count (arguments_from l r k es).1 + length rest ≤ count l + length (put_more_expressions es rest)
  more_arguments_few l r k syntax.no_expressions rest = omega arith
  more_arguments_few l r k (syntax.more_expressions e es) rest =
      let x = expression_few l e (put_more_expressions es rest) in
      let y = more_arguments_few (expression l e).1 r (k + 1) es rest in
      omega (arith, x, y)

  selectors_few : (l : Layer) (d : Designated) (ss : syntax.Selectors) (rest : List Kind) → count (selectors l d ss).1 + length rest ≤ count l + length (put_selectors ss rest)
  selectors_few l d syntax.no_selectors rest = omega arith
  selectors_few l d (syntax.more_selectors s ss) rest =
      let x = selector_few l d s (put_selectors ss rest) in
      let y = selectors_few (selector l d s).1 (selector l d s).0 ss rest in
      omega (arith, x, y)

  selector_few : (l : Layer) (d : Designated) (s : syntax.Selector) (rest : List Kind) → count (selector l d s).1 + length rest ≤ count l + length (put_selector s rest)
  selector_few l d (syntax.field i) rest = omega arith
  selector_few l d (syntax.index e) rest = let x = expression_few l e (kind.Mark mark.CloseBracket ∷ rest) in omega (arith, x)

-- a name makes no item itself
designator_few : (l : Layer) (d : syntax.Designator) (rest : List Kind) → count (designator l d).1 + length rest + 1 ≤ count l + length (put_designator d rest)
unfolding designator
designator_few l (syntax.designator i ss) rest = let x = selectors_few l (name_meaning l i.name) ss rest in omega (arith, x)

-- ---- statements

assigned_few : (l : Layer) (at : ℕ) (d : syntax.Designator) (e : syntax.Expression) (rest : List Kind) → count (assign l at d e) + length rest ≤ count l + length (put_statement (syntax.assign at d e) rest) + 1
unfolding assign
assigned_few l at d e rest =
    let x = designator l d in
    let y = expression x.1 e in
    let a = designator_few l d (kind.Mark mark.Becomes ∷ put_expression e rest) in
    let b = expression_few x.1 e rest in
    let c = added_one y.1 at (assignment y.1 (target_of x.1 x.0) y.0) 0 in
    omega (arith, a, b, c)

handed_few : (l : Layer) (r : ℕ) (es : syntax.Expressions) (rest : List Kind) → count (arguments l r es).1 + length rest ≤ count l + length (put_arguments es rest)
unfolding arguments
handed_few l r es rest = arguments_few l r 0 es rest

checked_by_few : (l : Layer) (at : ℕ) (o : Option LayoutMeaning) → count (check_by l at o) ≤ count l + 1
unfolding procedure
checked_by_few l at (Some (meaning.Routine r)) =
    let x = arguments l r syntax.no_expressions in
    let a = handed_few l r syntax.no_expressions [] in
    let b = added_one (with_room x.1 r) at (code.call r code.own false x.0 None) (call_need x.1 r) in
    omega (arith, a, b)
checked_by_few l at _ = omega arith

checked_few : (l : Layer) (at : ℕ) → count (check_invariants l at) ≤ count l + 1
unfolding check_invariants
checked_few l at = checked_by_few l at (find syntax.nameless l.names)

before_few : (l : Layer) (at : ℕ) (p : PredeclaredRoutine) → count (check_before l at p) ≤ count l + 1
before_few l at predeclared.Delay = checked_few l at
before_few l at predeclared.Continue = checked_few l at
before_few l at _ = omega arith

invoked_as_few : (l : Layer) (at : ℕ) (c : Callee) (es : syntax.Expressions) (rest : List Kind) → count (call_of l at c es) + length rest ≤ count l + length (put_arguments es rest) + 2
unfolding standard procedure
invoked_as_few l at (a_standard_procedure p) es rest =
    let a = first_few l es rest in
    let c = before_few (first_value l es).1 at p in
    let b = added_one (check_before (first_value l es).1 at p) at (standard_action p (first_value l es).0) 0 in
    omega (arith, a, b, c)
invoked_as_few l at (a_procedure c is_entry r) es rest =
    let x = arguments l r es in
    let a = handed_few l r es rest in
    let b = added_one (with_room x.1 r) at (code.call r c is_entry x.0 None) (call_need x.1 r) in
    omega (arith, a, b)
invoked_as_few l at no_callee es rest =
    let a = added_one l at code.nothing 0 in
    let b = grows_arguments es rest in
    omega (arith, a, b)

invoked_few : (l : Layer) (at : ℕ) (d : syntax.Designator) (es : syntax.Expressions) (rest : List Kind) → count (call_statement l at d es) + length rest ≤ count l + length (put_designator d (put_arguments es rest)) + 1
unfolding call_statement
invoked_few l at d es rest =
    let x = designator l d in
    let a = designator_few l d (put_arguments es rest) in
    let b = invoked_as_few x.1 at (callee_of x.0) es rest in
    omega (arith, a, b)

started_as_few : (l : Layer) (at : ℕ) (o : Option Placed) (es : syntax.Expressions) (rest : List Kind) → count (start_of l at o es) + length rest ≤ count l + length (put_arguments es rest) + 1
unfolding begin_component
started_as_few l at None es rest =
    let a = added_one l at code.nothing 0 in
    let b = grows_arguments es rest in
    omega (arith, a, b)
started_as_few l at (Some p) es rest =
    let r : ℕ = initial_of l p.1 in
    let x = arguments l r es in
    let a = handed_few l r es rest in
    let b = added_one (with_room x.1 r) at (code.start p.0 r x.0) (call_need x.1 r) in
    omega (arith, a, b)

started_few : (l : Layer) (t : syntax.Start) (rest : List Kind) → count (start_statement l t) + length rest ≤ count l + length (put_start t rest)
unfolding start_statement
started_few l t rest =
    let x = designator l t.target in
    let a = designator_few l t.target (put_arguments t.arguments rest) in
    let b = started_as_few x.1 (name_at t.target) (component_place_of x.0) t.arguments rest in
    omega (arith, a, b)

more_starts_few : (l : Layer) (ts : List syntax.Start) (next : Option ℕ) (rest : List Kind) → count (starts l ts next).1 + length rest ≤ count l + length (put_all (put_behind mark.Comma put_start) ts rest)
unfolding starts
more_starts_few l [] next rest = omega arith
more_starts_few l (t ∷ ts) next rest =
    let x = starts l ts next in
    let a = more_starts_few l ts next rest in
    let b = started_few x.1 t (put_all (put_behind mark.Comma put_start) ts rest) in
    let c = settled_same (start_statement x.1 t) x.0 in
    omega (arith, a, b, c)

starts_few : (l : Layer) (ts : List syntax.Start) (next : Option ℕ) (rest : List Kind) → count (starts l ts next).1 + length rest ≤ count l + length (put_separated mark.Comma put_start ts rest)
unfolding starts
starts_few l [] next rest = omega arith
starts_few l (t ∷ ts) next rest =
    let x = starts l ts next in
    let a = more_starts_few l ts next rest in
    let b = started_few x.1 t (put_all (put_behind mark.Comma put_start) ts rest) in
    let c = settled_same (start_statement x.1 t) x.0 in
    omega (arith, a, b, c)

assertion_few : (l : Layer) (at : ℕ) (k : AssertionKind) (e : syntax.Expression) (rest : List Kind) → count (assertion l at k e) + length rest ≤ count l + length (put_expression e rest) + 1
unfolding assertion
assertion_few l at k e rest = let a = expression_few l e rest in let b = added_one (expression l e).1 at (code.assert_that (ordinal_of (expression l e).0) (said_of k)) 0 in omega (arith, a, b)

chosen_few : (l : Layer) (at : ℕ) (e : syntax.Expression) (o q : Option ℕ) (rest : List Kind) → count (choose l at e o q) + length rest ≤ count l + length (put_expression e rest) + 1
unfolding choose
chosen_few l at e o q rest = let a = expression_few l e rest in let b = added_one (expression l e).1 at (code.choose (ordinal_of (expression l e).0) o q) (max (need_inside (expression l e).1.items o) (need_inside (expression l e).1.items q)) in omega (arith, a, b)

while_few : (l : Layer) (at : ℕ) (e : syntax.Expression) (o : Option ℕ) (rest : List Kind) → count (while_item l at e o) + length rest ≤ count l + length (put_expression e rest) + 1
unfolding while_item
while_few l at e o rest = let a = expression_few l e rest in let b = added_one (expression l e).1 at (code.while_do (ordinal_of (expression l e).0) o (again (expression l e).1)) (max (need_inside (expression l e).1.items o) (pending_need (expression l e).1)) in omega (arith, a, b)

until_few : (l : Layer) (at : ℕ) (e : syntax.Expression) (o : Option ℕ) (rest : List Kind) → count (until_item l at e o) + length rest ≤ count l + length (put_expression e rest) + 1
unfolding until_item
until_few l at e o rest = let a = expression_few l e rest in let b = added_one (expression l e).1 at (code.until (ordinal_of (expression l e).0) o (again (expression l e).1)) (max (need_inside (expression l e).1.items o) (pending_need (expression l e).1)) in omega (arith, a, b)

selected_few : (l : Layer) (at : ℕ) (e : syntax.Expression) (as' : List Arm) (rest : List Kind) → count (select l at e as') + length rest ≤ count l + length (put_expression e rest) + 1
unfolding select
selected_few l at e as' rest = let a = expression_few l e rest in let b = added_one (expression l e).1 at (code.select (ordinal_of (expression l e).0) as') (arms_need (expression l e).1 0 as') in omega (arith, a, b)

for_few : (l : Layer) (at : ℕ) (x : List ℕ) (e : syntax.Expression) (d : Direction) (f : syntax.Expression) (o : Option ℕ) (rest : List Kind) → count (for_item l at x e d f o) + length rest + 1 ≤ count l + length (put_expression e (kind.Mark (direction_mark d) ∷ put_expression f rest)) + 1
unfolding for_item
for_few l at x e d f o rest =
    let a = expression_few l e (kind.Mark (direction_mark d) ∷ put_expression f rest) in
    let b = expression_few (expression l e).1 f rest in
    let t : Target = target_of l (name_meaning l x) in
    let y = expression (expression l e).1 f in
    let c = added_one y.1 at (code.for_do (origin_of t.place) (low_of t.value_type) (high_of t.value_type) (ordinal_of (expression l e).0) (ordinal_of y.0) (is_down d) o) (need_inside y.1.items o) in
    omega (arith, a, b, c)

repeated_few : (l : Layer) (at : ℕ) (o : Option ℕ) (e : syntax.Expression) (next : Option ℕ) (rest : List Kind) → count (repeat_items l at o e next).1 + length rest ≤ count l + length (put_expression e rest) + 2
repeated_few l at o e next rest =
    let y = settle_items (until_item l (token_of e) e o) next in
    let a = until_few l (token_of e) e o rest in
    let b = settled_same (until_item l (token_of e) e o) next in
    let c = added_one y.1 at (code.block o) (need_inside y.1.items o) in
    let d = settled_same (block_item y.1 at o) y.0 in
    omega (arith, a, b, c, d)

mutual
  unfolding statements statement arms one_arm

  statements_few : (l : Layer) (ss : syntax.Statements) (after : Option ℕ) (rest : List Kind) → count (statements l ss after).1 + length rest ≤ count l + length (put_statements ss rest) + 1
  statements_few l syntax.no_statements after rest = omega arith
  statements_few l (syntax.more_statements t ts) after rest =
      let a = more_statements_few l ts after rest in
      let b = statement_few (statements l ts after).1 t (statements l ts after).0 (put_more_statements ts rest) in
      omega (arith, a, b)

  more_statements_few : (l : Layer) (ss : syntax.Statements) (after : Option ℕ) (rest : List Kind) → count (statements l ss after).1 + length rest ≤ count l + length (put_more_statements ss rest)
  more_statements_few l syntax.no_statements after rest = omega arith
  more_statements_few l (syntax.more_statements t ts) after rest =
      let a = more_statements_few l ts after rest in
      let b = statement_few (statements l ts after).1 t (statements l ts after).0 (put_more_statements ts rest) in
      omega (arith, a, b)

  statement_few : (l : Layer) (t : syntax.Statement) (next : Option ℕ) (rest : List Kind) → count (statement l t next).1 + length rest ≤ count l + length (put_statement t rest) + 1
  statement_few l (syntax.empty at) next rest =
      let a = added_one l at code.nothing 0 in
      let b = settled_same (add_item l at code.nothing 0) next in
      omega (arith, a, b)
  statement_few l (syntax.assign at d e) next rest =
      let a = assigned_few l at d e rest in
      let b = settled_same (assign l at d e) next in
      omega (arith, a, b)
  statement_few l (syntax.invoke at d es) next rest =
      let a = invoked_few l at d es rest in
      let b = settled_same (call_statement l at d es) next in
      omega (arith, a, b)
  statement_few l (syntax.block at ss) next rest =
      let x = statements l ss None in
      let a = statements_few l ss None (kind.Mark mark.End ∷ rest) in
      let b = added_one x.1 at (code.block x.0) (need_inside x.1.items x.0) in
      let c = settled_same (block_item x.1 at x.0) next in
      omega (arith, a, b, c)
  statement_few l (syntax.if_then at e s) next rest =
      let x = statement l s None in
      let a = statement_few l s None rest in
      let b = chosen_few x.1 at e x.0 None (kind.Mark mark.Then ∷ put_statement s rest) in
      let c = settled_same (choose x.1 at e x.0 None) next in
      omega (arith, a, b, c)
  statement_few l (syntax.if_else at e s t) next rest =
      let x = statement l s None in
      let y = statement x.1 t None in
      let other : List Kind = kind.Mark mark.Else ∷ put_statement t rest in
      let a = statement_few l s None other in
      let b = statement_few x.1 t None rest in
      let c = chosen_few y.1 at e x.0 y.0 (kind.Mark mark.Then ∷ put_statement s other) in
      let d = settled_same (choose y.1 at e x.0 y.0) next in
      omega (arith, a, b, c, d)
  statement_few l (syntax.case_of at e as' semicolon) next rest =
      let x = arms l as' in
      let last : List Kind = put_optional mark.Semicolon semicolon (kind.Mark mark.End ∷ rest) in
      let a = arms_few l as' last in
      let b = selected_few x.1 at e x.0 (kind.Mark mark.Of ∷ put_arms as' last) in
      let c = settled_same (select x.1 at e x.0) next in
      let d = grows_optional mark.Semicolon semicolon (kind.Mark mark.End ∷ rest) in
      omega (arith, a, b, c, d)
  statement_few l (syntax.while_do at e s) next rest =
      let x = statement l s None in
      let a = statement_few l s None rest in
      let b = while_few x.1 at e x.0 (kind.Mark mark.Do ∷ put_statement s rest) in
      let c = settled_same (while_item x.1 at e x.0) next in
      omega (arith, a, b, c)
  statement_few l (syntax.repeat_until at ss e) next rest =
      let x = statements l ss None in
      let a = statements_few l ss None (kind.Mark mark.Until ∷ put_expression e rest) in
      let b = repeated_few x.1 at x.0 e next rest in
      omega (arith, a, b)
  statement_few l (syntax.for_do at i e d f s) next rest =
      let x = statement l s None in
      let body : List Kind = kind.Mark mark.Do ∷ put_statement s rest in
      let a = statement_few l s None rest in
      let b = for_few x.1 at i.name e d f x.0 body in
      let c = settled_same (for_item x.1 at i.name e d f x.0) next in
      omega (arith, a, b, c)
  statement_few l (syntax.cycle at ss) next rest =
      let x = statements l ss None in
      let a = statements_few l ss None (kind.Mark mark.End ∷ rest) in
      let b = added_one x.1 at (code.cycle x.0) (need_inside x.1.items x.0) in
      let c = settled_same (cycle_item x.1 at x.0) next in
      omega (arith, a, b, c)
  statement_few l (syntax.init at ts) next rest = let a = starts_few l ts next rest in omega (arith, a)
  statement_few l (syntax.asserted at k e s) next rest =
      let x = statement l s next in
      let a = statement_few l s next rest in
      let b = assertion_few x.1 at k e (kind.Mark mark.Closes ∷ put_statement s rest) in
      let c = settled_same (assertion x.1 at k e) x.0 in
      omega (arith, a, b, c)

  arms_few : (l : Layer) (as' : syntax.Arms) (rest : List Kind) → count (arms l as').1 + length rest ≤ count l + length (put_arms as' rest)
  arms_few l syntax.no_arms rest = omega arith
  arms_few l (syntax.more_arms a as') rest =
      let x = arm_few l a (put_more_arms as' rest) in
      let y = more_arms_few (one_arm l a).1 as' rest in
      omega (arith, x, y)

  more_arms_few : (l : Layer) (as' : syntax.Arms) (rest : List Kind) → count (arms l as').1 + length rest ≤ count l + length (put_more_arms as' rest)
  more_arms_few l syntax.no_arms rest = omega arith
  more_arms_few l (syntax.more_arms a as') rest =
      let x = arm_few l a (put_more_arms as' rest) in
      let y = more_arms_few (one_arm l a).1 as' rest in
      omega (arith, x, y)

  arm_few : (l : Layer) (a : syntax.Arm) (rest : List Kind) → count (one_arm l a).1 + length rest ≤ count l + length (put_arm a rest)
  arm_few l (syntax.arm cs s) rest =
      let x = statement_few l s None rest in
      let y = grows_separated mark.Comma put_constant grows_constant cs (kind.Mark mark.Colon ∷ put_statement s rest) in
      omega (arith, x, y)

-- ---- declarations

ended_few : (l : Layer) (c : Bool) → count (end_of_body l c).1 ≤ count l + 1
ended_few l true = let a = checked_few l 0 in let b = settled_same (check_invariants l 0) None in omega (arith, a, b)
ended_few l false = let b = settled_same l None in omega (arith, b)

pub body_few : (l : Layer) (b : syntax.Body) (c : Bool) (rest : List Kind) → count (body l b c) + length rest ≤ count l + length (put_body b rest)
body_few l b c rest =
    let end = end_of_body l c in
    let a = statements_few end.1 b.statements end.0 (kind.Mark mark.End ∷ rest) in
    let d = ended_few l c in
    omega (arith, a, d)

-- invariants have more tokens
says_few : (l : Layer) (ss : syntax.Statements) (after : Option ℕ) (rest : List Kind) → SaysSome ss → count (statements l ss after).1 + length rest ≤ count l + length (put_statements ss rest)
unfolding statements statement
says_few l (syntax.more_statements (syntax.asserted at k e s) syntax.no_statements) after rest h =
    let x = statement l s after in
    let a = statement_few l s after rest in
    let b = assertion_few x.1 at k e (kind.Mark mark.Closes ∷ put_statement s rest) in
    let c = settled_same (assertion x.1 at k e) x.0 in
    omega (arith, a, b, c)
says_few l _ after rest h = absurd h

pub said_body_few : (l : Layer) (b : syntax.Body) (c : Bool) (rest : List Kind) → c ≡ false → SaysSome b.statements → count (body l b c) + length rest ≤ count l + length (put_statements b.statements rest)
said_body_few l b true rest is h = absurd (let bad : true ≡ false = is in cc)
said_body_few l b false rest is h =
    let end = settle_items l None in
    let a = says_few end.1 b.statements end.0 rest h in
    let d = settled_same l None in
    omega (arith, a, d)

declared_same : (l m : Layer) → Declares l m → count m ≡ count l
declared_same l m h = ap (λ (j : Layer). count j) h.same

routine_by : (b : Bool) (l : Layer) (r : syntax.Routine) (rest : List Kind) → IsKnownBy b r → count (routine l r) + length rest ≤ count l + length (put_routine_by b r rest)
routine_by true l r rest known =
    let x : Layer = (open_routine l r.name.name).1 in
    let h = heading x r.name.name r.kind in
    let k : Layer = with_heading h.1 h.0 in
    let m : Layer = local_parts k r.parts in
    let c = declared_same x h.1 (heading_declares x r.name.name r.kind) in
    let d = declared_same k m (local_parts_declare k r.parts) in
    let e = said_body_few m r.body r.is_entry rest known.no_entry known.says in
    omega (arith, c, d, e)
routine_by false l r rest known =
    let last : List Kind = kind.Mark mark.Semicolon ∷ rest in
    let b : List Kind = put_body r.body last in
    let inside : List Kind = put_all put_part r.parts b in
    let x : Layer = (open_routine l r.name.name).1 in
    let h = heading x r.name.name r.kind in
    let k : Layer = with_heading h.1 h.0 in
    let m : Layer = local_parts k r.parts in
    let c = declared_same x h.1 (heading_declares x r.name.name r.kind) in
    let d = declared_same k m (local_parts_declare k r.parts) in
    let e = body_few m r.body r.is_entry last in
    let f = grows_all put_part grows_part r.parts b in
    let g = grows_routine_kind r.kind (kind.Mark mark.Semicolon ∷ inside) in
    let i = grows_optional mark.Entry r.is_entry (put_identifier r.name (put_routine_kind r.kind (kind.Mark mark.Semicolon ∷ inside))) in
    omega (arith, c, d, e, f, g, i)

routine_few : (l : Layer) (r : syntax.Routine) (rest : List Kind) → IsKnown r → count (routine l r) + length rest ≤ count l + length (put_routine r rest)
routine_few l r rest known = routine_by (is_nameless r.kind) l r rest known

-- out of this many tokens
abbrev Within : ℕ → ℕ → Layer → Type 0
Within total n l = count l + n ≤ total

module _ (total : ℕ) where
  lower : (high low : ℕ) (l : Layer) → low ≤ high → Within total high l → Within total low l
  lower high low l le h = omega (arith, le, h)

  same : (n : ℕ) (l m : Layer) → m.items ≡ l.items → m.pending ≡ l.pending → m.routines ≡ l.routines → Within total n l → Within total n m
  same n l m i p r h =
      let a = ap (λ (is : List Item). length is) i in
      let b = ap (λ (ps : List Pending). length ps) p in
      omega (arith, a, b, h)

  routine_within : (l : Layer) (r : syntax.Routine) (rest : List Kind) → IsKnown r → Unit {0} → Within total (length (put_routine r rest)) l → Within total (length rest) (routine l r)
  routine_within l r rest k s h = let a = routine_few l r rest k in omega (arith, a, h)

  initial_within : (l : Layer) (ps : Parameters) (b : syntax.Body) (rest : List Kind) → Within total (length (put_body b rest)) l → Within total (length rest) (initial_statement l ps b)
  initial_within l ps b rest h = let a = body_few (with_heading (with_new_frame l) (heading_with [] ps None)) b true rest in omega (arith, a, h)

pub program_few : (t : syntax.Tree) → EachRoutine IsKnown t.program → length (program (nothing_laid t.lines) t.program).items ≤ length (spell t.program)
program_few t known =
    let total : ℕ = length (spell t.program) in
    let few : Within total 0 (program (nothing_laid t.lines) t.program) = program_spent (Within total) (λ (l : Layer). Unit {0}) (lower total) (same total) (routine_within total) (initial_within total) t known (each_any (all_begun t)) (omega arith) in
    omega (arith, few)
