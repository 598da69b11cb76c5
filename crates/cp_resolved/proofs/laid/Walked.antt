-- What each small step of laying out statements leaves true, whole statements leave true. Where statements avoid some names (`Avoiding`), it is also known of each routine that they call.
use Rattle.cp_tree.specs.declared.statement.AssertionKind.{AssertionKind}
use Rattle.cp_symbols.specs.declared.names.LayoutMeaning.{LayoutMeaning}
use Rattle.cp_symbols.specs.declared.names.LayoutMeaning.TheVariants as meaning
use Rattle.cp_symbols.specs.declared.names.PredeclaredRoutine.TheVariants as predeclared
use Rattle.cp_layout.specs.Layers.{find}
use Rattle.cp_resolved.proofs.Words.{◌≡◌, refl, ℕ, ◌+◌, ◌≤◌, Bool, true, false, List, [], ◌∷◌, length, max, arith, Option, Some, None, Direction, CellType, FunctionResult, PredeclaredRoutine, SetExpression, ComponentPlace, Argument}
use Rattle.cp_resolved.proofs.Words.{Arm, Action, Layer, again, with_cell, with_room, settle_items, add_item, call_need, result_of, need_inside, pending_need}
use Rattle.cp_tree.specs.Syntax as syntax
use Rattle.cp_slots.specs.Code as code
use Rattle.cp_slots.specs.Code.{Place}
use Rattle.cp_layout.specs.Values.{Value, Designated, a_routine, an_entry, a_standard, sum_of as values_added, product_of as values_multiplied, ordinal_of}
use Rattle.cp_layout.specs.LaidExpressions.{name_meaning, with_count, with_their_count, function_as, value_of_meaning, with_sign, name_at, expression, sum, more_terms, term, more_factors, factor, elements, first_value, arguments_from, designator, selectors, selector, arguments}
use Rattle.cp_layout.specs.LaidDeclarations.{end_of_body}
use Rattle.cp_resolved.specs.ItemsStand.{body_items}
use Rattle.cp_layout.specs.LaidStatements.{check_by, check_invariants, check_before, said_of, assertion, Target, target_of, assign_by_type, assign, standard_action, procedure, standard, callee_of, call_of, call_statement, block_item, cycle_item, choose, while_item, until_item, token_of, repeat_items, arms_need, select, origin_of, low_of, high_of, is_down, for_item, initial_of, begin_component, Placed, component_place_of, start_of, start_statement, starts, statements, statement, arms, one_arm}
use Rattle.cp_resolved.proofs.laid.Avoiding.{AvoidsExpression, AvoidsSum, AvoidTerms, AvoidsTerm, AvoidFactors, AvoidsFactor, AvoidExpressions, AvoidsCall, AvoidsDesignator, AvoidSelectors, AvoidsSelector, AvoidStarts, AvoidsStatement, AvoidStatements, AvoidArms, AvoidsArm}

-- ---- the small steps

-- of the routine that is called, and of the initial statement that is begun
abbrev pub IsCallee : (ℕ → Type 0) → Designated → Type 0
IsCallee R (a_routine r) = R r
IsCallee R (an_entry c r) = R r
IsCallee R d = Unit {0}

abbrev pub IsBegun : (ℕ → Type 0) → Layer → Option Placed → Type 0
IsBegun R l None = Unit {0}
IsBegun R l (Some p) = R (initial_of l p.1)

-- In expressions and checks: R is what is known of each routine that is called, and P are the names that are avoided, if B.
pub record CallSteps (F : Layer → Type 0) (R : ℕ → Type 0) (B : Type 0) (P : List ℕ → Type 0) : Type 0 where
  pub callee : (l : Layer) (d : syntax.Designator) → F l → (B → AvoidsCall P d) → IsCallee R (designator l d).0
  pub counts : (l : Layer) (k : ℕ) → F l → F (with_count l k)
  pub call : (l : Layer) (r at : ℕ) (c : ComponentPlace) (b : Bool) (as' : List Argument) → R r → length as' ≤ l.arguments → F l → F (add_item (with_room (with_cell l) r) at (code.call r c b as' (Some (length l.frame.image))) (call_need (with_cell l) r))
  -- the routine that a check calls
  pub check : (l : Layer) (r : ℕ) → F l → (B → P syntax.nameless → ⊥) → find syntax.nameless l.names ≡ Some (meaning.Routine r) → R r

-- in assignments, calls and starts
pub record ItemSteps (F : Layer → Type 0) (R : ℕ → Type 0) : Type 0 where
  pub nothing : (l : Layer) (at : ℕ) → F l → F (add_item l at code.nothing 0)
  pub assigns : (l : Layer) (at : ℕ) (p : Place) (v : Value) (t : CellType) → F l → F (add_item l at (assign_by_type l p v t) 0)
  pub performs : (l : Layer) (at : ℕ) (q : PredeclaredRoutine) (v : Value) → F l → F (add_item l at (standard_action q v) 0)
  pub invokes : (l : Layer) (r at : ℕ) (c : ComponentPlace) (b : Bool) (as' : List Argument) → R r → length as' ≤ l.arguments → F l → F (add_item (with_room l r) at (code.call r c b as' None) (call_need l r))
  pub begins : (l : Layer) (d : syntax.Designator) → F l → F (designator l d).1 → IsBegun R (designator l d).1 (component_place_of (designator l d).0)
  pub start : (l : Layer) (r at : ℕ) (c : ComponentPlace) (as' : List Argument) → R r → length as' ≤ l.arguments → F l → F (add_item (with_room l r) at (code.start c r as') (call_need l r))

-- in statements with lists
abbrev pub HasList : Action → Type 0
HasList (code.call r c b as' o) = ⊥
HasList (code.start c r as') = ⊥
HasList a = Unit {0}

pub record ListSteps (F : Layer → Type 0) : Type 0 where
  pub lists : (l : Layer) (at : ℕ) (a : Action) (need : ℕ) → HasList a → F l → F (add_item l at a need)
  pub settle : (l : Layer) (next : Option ℕ) → F l → F (settle_items l next).1

-- ---- each step, whatever is called

module _ (F : Layer → Type 0) where
  any_callee : (d : Designated) → IsCallee (λ r. Unit {0}) d
  any_callee (a_routine r) = tt
  any_callee (an_entry c r) = tt
  any_callee _ = tt

  any_begun : (l : Layer) (o : Option Placed) → IsBegun (λ r. Unit {0}) l o
  any_begun l None = tt
  any_begun l (Some p) = tt

  pub any_calls : ((l : Layer) (k : ℕ) → F l → F (with_count l k)) → ((l : Layer) (r at : ℕ) (a : Action) (need : ℕ) → F l → F (add_item (with_room (with_cell l) r) at a need)) → CallSteps F (λ r. Unit {0}) ⊥ (λ x. ⊥)
  any_calls counts call = record { callee = λ l d h b. any_callee (designator l d).0; counts = counts; call = λ l r at c b as' i e h. call l r at (code.call r c b as' (Some (length l.frame.image))) (call_need (with_cell l) r) h; check = λ l r h b e. tt }

  pub any_items : ((l : Layer) (r : ℕ) → F l → F (with_room l r)) → ((l : Layer) (at : ℕ) (a : Action) (need : ℕ) → F l → F (add_item l at a need)) → ItemSteps F (λ r. Unit {0})
  any_items room add =
      record {
        nothing = λ l at h. add l at code.nothing 0 h;
        assigns = λ l at p v t h. add l at (assign_by_type l p v t) 0 h;
        performs = λ l at q v h. add l at (standard_action q v) 0 h;
        invokes = λ l r at c b as' i e h. add (with_room l r) at (code.call r c b as' None) (call_need l r) (room l r h);
        begins = λ l d h i. any_begun (designator l d).1 (component_place_of (designator l d).0);
        start = λ l r at c as' i e h. add (with_room l r) at (code.start c r as') (call_need l r) (room l r h);
      }

  pub any_lists : ((l : Layer) (at : ℕ) (a : Action) (need : ℕ) → F l → F (add_item l at a need)) → ((l : Layer) (next : Option ℕ) → F l → F (settle_items l next).1) → ListSteps F
  any_lists add settle = record { lists = λ l at a need i h. add l at a need h; settle = settle }

-- no name is avoided
pub never : {A : Type 0} → ⊥ → A
never b = absurd b

-- ---- expressions

module _ {F : Layer → Type 0} {R : ℕ → Type 0} {B : Type 0} {P : List ℕ → Type 0} (s : CallSteps F R B P) where
  abbrev Walks : (Layer → Layer) → Type 0
  Walks f = (l : Layer) → F l → F (f l)

  -- arguments, with the number of them
  abbrev Hands : (Layer → ℕ → List Argument × Layer) → Type 0
  Hands f = (l : Layer) (k : ℕ) → F l → F (f l k).1

  function_walked : (l : Layer) (at : ℕ) (c : ComponentPlace) (b : Bool) (r : ℕ) (o : Option FunctionResult) (handed : Layer → ℕ → List Argument × Layer) → Hands handed → R r → F l → F (function_as l at c b r o handed).1
  function_walked l at c b r None handed g i h = h
  function_walked l at c b r (Some x) handed g i h =
      let y : List Argument × Layer = handed l r in
      s.call (with_their_count y).1 r at c b y.0 i (omega arith) (s.counts y.1 (length y.0) (g l r h))

  named_walked : (l : Layer) (at : ℕ) (d : Designated) (first : Layer → Value × Layer) (handed : Layer → ℕ → List Argument × Layer) → Walks (λ m. (first m).1) → Hands handed → IsCallee R d → F l → F (value_of_meaning l at d first handed).1
  named_walked l at (a_routine r) first handed f g i h = function_walked l at code.own false r (result_of l r) handed g i h
  named_walked l at (an_entry c r) first handed f g i h = function_walked l at c true r (result_of l r) handed g i h
  named_walked l at (a_standard q) first handed f g i h = f l h
  named_walked l at _ first handed f g i h = h

  mutual
    unfolding expression sum more_terms term more_factors factor elements first_value arguments_from designator selectors selector

    pub expression_walked : (l : Layer) (e : syntax.Expression) → F l → (B → AvoidsExpression P e) → F (expression l e).1
    expression_walked l (syntax.alone at a) h b = sum_walked l a h b
    expression_walked l (syntax.related at x r y) h b = sum_walked (sum l x).1 y (sum_walked l x h (λ c. (b c).0)) (λ c. (b c).1)

    pub sum_walked : (l : Layer) (a : syntax.Sum) → F l → (B → AvoidsSum P a) → F (sum l a).1
    sum_walked l (syntax.sum at o t ts) h b = terms_walked (term l t).1 (with_sign o (term l t).0) ts (term_walked l t h (λ c. (b c).0)) (λ c. (b c).1)

    terms_walked : (l : Layer) (v : Value) (ts : syntax.Terms) → F l → (B → AvoidTerms P ts) → F (more_terms l v ts).1
    terms_walked l v syntax.no_terms h b = h
    terms_walked l v (syntax.more_terms a t ts) h b = terms_walked (term l t).1 (values_added a v (term l t).0) ts (term_walked l t h (λ c. (b c).0)) (λ c. (b c).1)

    pub term_walked : (l : Layer) (t : syntax.Term) → F l → (B → AvoidsTerm P t) → F (term l t).1
    term_walked l (syntax.term at f fs) h b = factors_walked (factor l f).1 (factor l f).0 fs (factor_walked l f h (λ c. (b c).0)) (λ c. (b c).1)

    factors_walked : (l : Layer) (v : Value) (fs : syntax.Factors) → F l → (B → AvoidFactors P fs) → F (more_factors l v fs).1
    factors_walked l v syntax.no_factors h b = h
    factors_walked l v (syntax.more_factors a f fs) h b = factors_walked (factor l f).1 (values_multiplied a v (factor l f).0) fs (factor_walked l f h (λ c. (b c).0)) (λ c. (b c).1)

    pub factor_walked : (l : Layer) (f : syntax.Factor) → F l → (B → AvoidsFactor P f) → F (factor l f).1
    factor_walked l (syntax.named at (syntax.designator i ss) es) h b =
        let x : Designated × Layer = designator l (syntax.designator i ss) in
        let callee : IsCallee R x.0 = s.callee l (syntax.designator i ss) h (λ c. (b c).0) in
        named_walked x.1 at x.0 (λ m. first_value m es) (λ m r. arguments_from m r 0 es) (λ m g. first_walked m es g (λ c. (b c).1)) (λ m r g. arguments_walked m r 0 es g (λ c. (b c).1)) callee (selectors_walked l (name_meaning l i.name) ss h (λ c. (b c).0.1))
    factor_walked l (syntax.group at e) h b = expression_walked l e h b
    factor_walked l (syntax.negated at f) h b = factor_walked l f h b
    factor_walked l (syntax.set_of at es) h b = elements_walked l code.empty_set es h b
    factor_walked l _ h b = h

    elements_walked : (l : Layer) (y : SetExpression) (es : syntax.Expressions) → F l → (B → AvoidExpressions P es) → F (elements l y es).1
    elements_walked l y syntax.no_expressions h b = h
    elements_walked l y (syntax.more_expressions e es) h b = elements_walked (expression l e).1 (code.with_element y (ordinal_of (expression l e).0)) es (expression_walked l e h (λ c. (b c).0)) (λ c. (b c).1)

    pub first_walked : (l : Layer) (es : syntax.Expressions) → F l → (B → AvoidExpressions P es) → F (first_value l es).1
    first_walked l syntax.no_expressions h b = h
    first_walked l (syntax.more_expressions e es) h b = expression_walked l e h (λ c. (b c).0)

    pub arguments_walked : (l : Layer) (r k : ℕ) (es : syntax.Expressions) → F l → (B → AvoidExpressions P es) → F (arguments_from l r k es).1
    arguments_walked l r k syntax.no_expressions h b = h
    arguments_walked l r k (syntax.more_expressions e es) h b = arguments_walked (expression l e).1 r (k + 1) es (expression_walked l e h (λ c. (b c).0)) (λ c. (b c).1)

    selectors_walked : (l : Layer) (d : Designated) (ss : syntax.Selectors) → F l → (B → AvoidSelectors P ss) → F (selectors l d ss).1
    selectors_walked l d syntax.no_selectors h b = h
    selectors_walked l d (syntax.more_selectors y ss) h b = selectors_walked (selector l d y).1 (selector l d y).0 ss (selector_walked l d y h (λ c. (b c).0)) (λ c. (b c).1)

    pub selector_walked : (l : Layer) (d : Designated) (y : syntax.Selector) → F l → (B → AvoidsSelector P y) → F (selector l d y).1
    selector_walked l d (syntax.field i) h b = h
    selector_walked l d (syntax.index e) h b = expression_walked l e h b

  pub designator_walked : (l : Layer) (d : syntax.Designator) → F l → (B → AvoidsDesignator P d) → F (designator l d).1
  unfolding designator
  designator_walked l (syntax.designator i ss) h b = selectors_walked l (name_meaning l i.name) ss h b

  called_walked : (l : Layer) (d : syntax.Designator) → F l → (B → AvoidsCall P d) → F (designator l d).1
  unfolding designator
  called_walked l (syntax.designator i ss) h b = selectors_walked l (name_meaning l i.name) ss h (λ c. (b c).1)

  -- ---- assignments, calls and starts

  module _ (j : ItemSteps F R) where
    pub assigned_walked : (l : Layer) (at : ℕ) (d : syntax.Designator) (e : syntax.Expression) → F l → (B → AvoidsDesignator P d × AvoidsExpression P e) → F (assign l at d e)
    unfolding assign
    assigned_walked l at d e h b =
        let x = designator l d in
        let y = expression x.1 e in
        let t : Target = target_of x.1 x.0 in
        j.assigns y.1 at t.place y.0 t.value_type (expression_walked x.1 e (designator_walked l d h (λ c. (b c).0)) (λ c. (b c).1))

    handed_walked : (l : Layer) (r : ℕ) (es : syntax.Expressions) → F l → (B → AvoidExpressions P es) → F (arguments l r es).1 × (length (arguments l r es).0 ≤ (arguments l r es).1.arguments)
    unfolding arguments
    handed_walked l r es h b = let y = arguments_from l r 0 es in (s.counts y.1 (length y.0) (arguments_walked l r 0 es h b), omega arith)

    checked_by_walked : (l : Layer) (at : ℕ) (o : Option LayoutMeaning) → find syntax.nameless l.names ≡ o → F l → (B → P syntax.nameless → ⊥) → F (check_by l at o)
    unfolding procedure
    checked_by_walked l at (Some (meaning.Routine r)) e h b = let x = arguments l r syntax.no_expressions in let g = handed_walked l r syntax.no_expressions h (λ c. tt) in j.invokes x.1 r at code.own false x.0 (s.check l r h b e) g.1 g.0
    checked_by_walked l at _ e h b = h

    pub checked_walked : (l : Layer) (at : ℕ) → F l → (B → P syntax.nameless → ⊥) → F (check_invariants l at)
    unfolding check_invariants
    checked_walked l at h b = checked_by_walked l at (find syntax.nameless l.names) refl h b

    pub before_walked : (l : Layer) (at : ℕ) (q : PredeclaredRoutine) → F l → (B → P syntax.nameless → ⊥) → F (check_before l at q)
    before_walked l at predeclared.Delay h b = checked_walked l at h b
    before_walked l at predeclared.Continue h b = checked_walked l at h b
    before_walked l at _ h b = h

    invoked_as_walked : (l : Layer) (at : ℕ) (d : Designated) (es : syntax.Expressions) → IsCallee R d → F l → (B → AvoidExpressions P es × (P syntax.nameless → ⊥)) → F (call_of l at (callee_of d) es)
    unfolding standard procedure
    invoked_as_walked l at (a_standard q) es i h b = let x = first_value l es in j.performs (check_before x.1 at q) at q x.0 (before_walked x.1 at q (first_walked l es h (λ c. (b c).0)) (λ c. (b c).1))
    invoked_as_walked l at (a_routine r) es i h b = let x = arguments l r es in let g = handed_walked l r es h (λ c. (b c).0) in j.invokes x.1 r at code.own false x.0 i g.1 g.0
    invoked_as_walked l at (an_entry c r) es i h b = let x = arguments l r es in let g = handed_walked l r es h (λ c. (b c).0) in j.invokes x.1 r at c true x.0 i g.1 g.0
    invoked_as_walked l at _ es i h b = j.nothing l at h

    pub invoked_walked : (l : Layer) (at : ℕ) (d : syntax.Designator) (es : syntax.Expressions) → F l → (B → AvoidsCall P d × AvoidExpressions P es × (P syntax.nameless → ⊥)) → F (call_statement l at d es)
    unfolding call_statement
    invoked_walked l at d es h b = let x = designator l d in invoked_as_walked x.1 at x.0 es (s.callee l d h (λ c. (b c).0)) (called_walked l d h (λ c. (b c).0)) (λ c. ((b c).1, (b c).2))

    started_as_walked : (l : Layer) (at : ℕ) (o : Option Placed) (es : syntax.Expressions) → IsBegun R l o → F l → (B → AvoidExpressions P es) → F (start_of l at o es)
    unfolding begin_component
    started_as_walked l at None es i h b = j.nothing l at h
    started_as_walked l at (Some p) es i h b = let r : ℕ = initial_of l p.1 in let x = arguments l r es in let g = handed_walked l r es h b in j.start x.1 r at p.0 x.0 i g.1 g.0

    pub started_walked : (l : Layer) (t : syntax.Start) → F l → (B → AvoidsDesignator P t.target × AvoidExpressions P t.arguments) → F (start_statement l t)
    unfolding start_statement
    started_walked l t h b =
        let x = designator l t.target in
        let g : F x.1 = designator_walked l t.target h (λ c. (b c).0) in
        started_as_walked x.1 (name_at t.target) (component_place_of x.0) t.arguments (j.begins l t.target h g) g (λ c. (b c).1)

    -- ---- lists

    module _ (k : ListSteps F) where
      starts_walked : (l : Layer) (ts : List syntax.Start) (next : Option ℕ) → F l → (B → AvoidStarts P ts) → F (starts l ts next).1
      unfolding starts
      starts_walked l [] next h b = h
      starts_walked l (t ∷ ts) next h b = let rest = starts l ts next in k.settle (start_statement rest.1 t) rest.0 (started_walked rest.1 t (starts_walked l ts next h (λ c. (b c).2)) (λ c. ((b c).0, (b c).1)))

      chosen_walked : (l : Layer) (at : ℕ) (e : syntax.Expression) (o q : Option ℕ) → F l → (B → AvoidsExpression P e) → F (choose l at e o q)
      unfolding choose
      chosen_walked l at e o q h b = let x = expression l e in k.lists x.1 at (code.choose (ordinal_of x.0) o q) (max (need_inside x.1.items o) (need_inside x.1.items q)) tt (expression_walked l e h b)

      while_walked : (l : Layer) (at : ℕ) (e : syntax.Expression) (o : Option ℕ) → F l → (B → AvoidsExpression P e) → F (while_item l at e o)
      unfolding while_item
      while_walked l at e o h b = let x = expression l e in k.lists x.1 at (code.while_do (ordinal_of x.0) o (again x.1)) (max (need_inside x.1.items o) (pending_need x.1)) tt (expression_walked l e h b)

      until_walked : (l : Layer) (at : ℕ) (e : syntax.Expression) (o : Option ℕ) → F l → (B → AvoidsExpression P e) → F (until_item l at e o)
      unfolding until_item
      until_walked l at e o h b = let x = expression l e in k.lists x.1 at (code.until (ordinal_of x.0) o (again x.1)) (max (need_inside x.1.items o) (pending_need x.1)) tt (expression_walked l e h b)

      selected_walked : (l : Layer) (at : ℕ) (e : syntax.Expression) (as' : List Arm) → F l → (B → AvoidsExpression P e) → F (select l at e as')
      unfolding select
      selected_walked l at e as' h b = let x = expression l e in k.lists x.1 at (code.select (ordinal_of x.0) as') (arms_need x.1 0 as') tt (expression_walked l e h b)

      for_walked : (l : Layer) (at : ℕ) (x : List ℕ) (e : syntax.Expression) (d : Direction) (f : syntax.Expression) (o : Option ℕ) → F l → (B → AvoidsExpression P e) → (B → AvoidsExpression P f) → F (for_item l at x e d f o)
      unfolding for_item
      for_walked l at x e d f o h b a =
          let t : Target = target_of l (name_meaning l x) in
          let y = expression (expression l e).1 f in
          k.lists y.1 at (code.for_do (origin_of t.place) (low_of t.value_type) (high_of t.value_type) (ordinal_of (expression l e).0) (ordinal_of y.0) (is_down d) o) (need_inside y.1.items o) tt (expression_walked (expression l e).1 f (expression_walked l e h b) a)

      pub assertion_walked : (l : Layer) (at : ℕ) (a : AssertionKind) (e : syntax.Expression) → F l → (B → AvoidsExpression P e) → F (assertion l at a e)
      unfolding assertion
      assertion_walked l at a e h b = let x = expression l e in k.lists x.1 at (code.assert_that (ordinal_of x.0) (said_of a)) 0 tt (expression_walked l e h b)

      repeated_walked : (l : Layer) (at : ℕ) (o : Option ℕ) (e : syntax.Expression) (next : Option ℕ) → F l → (B → AvoidsExpression P e) → F (repeat_items l at o e next).1
      repeated_walked l at o e next h b =
          let y = settle_items (until_item l (token_of e) e o) next in
          k.settle (block_item y.1 at o) y.0 (k.lists y.1 at (code.block o) (need_inside y.1.items o) tt (k.settle (until_item l (token_of e) e o) next (until_walked l (token_of e) e o h b)))

      mutual
        unfolding statements statement arms one_arm

        pub statements_walked : (l : Layer) (ss : syntax.Statements) (after : Option ℕ) → F l → (B → AvoidStatements P ss) → F (statements l ss after).1
        statements_walked l syntax.no_statements after h b = h
        statements_walked l (syntax.more_statements t ts) after h b = statement_walked (statements l ts after).1 t (statements l ts after).0 (statements_walked l ts after h (λ c. (b c).1)) (λ c. (b c).0)

        statement_walked : (l : Layer) (t : syntax.Statement) (next : Option ℕ) → F l → (B → AvoidsStatement P t) → F (statement l t next).1
        statement_walked l (syntax.empty at) next h b = k.settle (add_item l at code.nothing 0) next (j.nothing l at h)
        statement_walked l (syntax.assign at d e) next h b = k.settle (assign l at d e) next (assigned_walked l at d e h b)
        statement_walked l (syntax.invoke at d es) next h b = k.settle (call_statement l at d es) next (invoked_walked l at d es h b)
        statement_walked l (syntax.block at ss) next h b = let x = statements l ss None in k.settle (block_item x.1 at x.0) next (k.lists x.1 at (code.block x.0) (need_inside x.1.items x.0) tt (statements_walked l ss None h b))
        statement_walked l (syntax.if_then at e t) next h b = let x = statement l t None in k.settle (choose x.1 at e x.0 None) next (chosen_walked x.1 at e x.0 None (statement_walked l t None h (λ c. (b c).1)) (λ c. (b c).0))
        statement_walked l (syntax.if_else at e t u) next h b =
            let x = statement l t None in
            let y = statement x.1 u None in
            k.settle (choose y.1 at e x.0 y.0) next (chosen_walked y.1 at e x.0 y.0 (statement_walked x.1 u None (statement_walked l t None h (λ c. (b c).1)) (λ c. (b c).2)) (λ c. (b c).0))
        statement_walked l (syntax.case_of at e as' q) next h b = let x = arms l as' in k.settle (select x.1 at e x.0) next (selected_walked x.1 at e x.0 (arms_walked l as' h (λ c. (b c).1)) (λ c. (b c).0))
        statement_walked l (syntax.while_do at e t) next h b = let x = statement l t None in k.settle (while_item x.1 at e x.0) next (while_walked x.1 at e x.0 (statement_walked l t None h (λ c. (b c).1)) (λ c. (b c).0))
        statement_walked l (syntax.repeat_until at ss e) next h b = let x = statements l ss None in repeated_walked x.1 at x.0 e next (statements_walked l ss None h (λ c. (b c).0)) (λ c. (b c).1)
        statement_walked l (syntax.for_do at i e d f t) next h b = let x = statement l t None in k.settle (for_item x.1 at i.name e d f x.0) next (for_walked x.1 at i.name e d f x.0 (statement_walked l t None h (λ c. (b c).2)) (λ c. (b c).0) (λ c. (b c).1))
        statement_walked l (syntax.cycle at ss) next h b = let x = statements l ss None in k.settle (cycle_item x.1 at x.0) next (k.lists x.1 at (code.cycle x.0) (need_inside x.1.items x.0) tt (statements_walked l ss None h b))
        statement_walked l (syntax.init at ts) next h b = starts_walked l ts next h b
        statement_walked l (syntax.asserted at a e t) next h b = let x = statement l t next in k.settle (assertion x.1 at a e) x.0 (assertion_walked x.1 at a e (statement_walked l t next h (λ c. (b c).1)) (λ c. (b c).0))

        arms_walked : (l : Layer) (as' : syntax.Arms) → F l → (B → AvoidArms P as') → F (arms l as').1
        arms_walked l syntax.no_arms h b = h
        arms_walked l (syntax.more_arms a as') h b = arms_walked (one_arm l a).1 as' (arm_walked l a h (λ c. (b c).0)) (λ c. (b c).1)

        arm_walked : (l : Layer) (a : syntax.Arm) → F l → (B → AvoidsArm P a) → F (one_arm l a).1
        arm_walked l (syntax.arm labels t) h b = statement_walked l t None h b

      -- ---- bodies

      -- the checks at the end, where there are any
      pub ended_walked : (l : Layer) (checks : Bool) → F l → (B → checks ≡ true → P syntax.nameless → ⊥) → F (end_of_body l checks).1
      ended_walked l true h b = k.settle (check_invariants l 0) None (checked_walked l 0 h (λ c. b c refl))
      ended_walked l false h b = k.settle l None h

      pub body_walked : (l : Layer) (ss : syntax.Statements) (checks : Bool) → F l → (B → AvoidStatements P ss × (checks ≡ true → P syntax.nameless → ⊥)) → F (body_items l ss checks).1
      body_walked l ss checks h b = statements_walked (end_of_body l checks).1 ss (end_of_body l checks).0 (ended_walked l checks h (λ c. (b c).1)) (λ c. (b c).0)
