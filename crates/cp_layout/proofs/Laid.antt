-- Loops over the parts of expressions: what is left leads where all lead.
use Rattle.std.proofs.Common.{◌≡◌, ℕ, suc, ◌+◌, ◌<◌, ◌≤◌, List, [], ◌∷◌, ◌++◌, length, get_or, drop, map, Option, Some, None, refl, sym, ap, ◌∙◌, add-one, append_assoc, rules, Vec, Global}
use Rattle.std.proofs.Math.Seq.{drop-cons}
use Rattle.std.proofs.lemmas.List.{drop_all, append-nil, map-append}
use Rattle.cp_tree.specs.declared.expression.Addition.{Addition}
use Rattle.cp_tree.specs.declared.expression.Multiplication.{Multiplication}
use Rattle.cp_tree.specs.declared.expression.Expression as tree_expression
use Rattle.cp_tree.specs.declared.expression.Term as tree_term
use Rattle.cp_tree.specs.declared.expression.Factor as tree_factor
use Rattle.cp_tree.specs.declared.expression.Selector as tree_selector
use Rattle.cp_tree.specs.declared.expression.Sum as tree_sum
use Rattle.cp_tree.specs.declared.expression.FactorKind.{the_lemmas as tree_lemmas}
use Rattle.cp_tree.specs.Syntax as syntax
use Rattle.cp_tree.specs.View.{expression_view, expressions_view, expressions_of, sum_view, term_view, terms_view, terms_of, factor_view, factors_view, factors_of, selector_view, selectors_view, selectors_of}
use Rattle.cp_slots.specs.declared.place.PlaceOrigin.{PlaceOrigin}
use Rattle.cp_slots.specs.declared.place.Index as code_index
use Rattle.cp_slots.specs.declared.place.Place as code_place
use Rattle.cp_slots.specs.declared.place.OrdinalExpression.{the_lemmas as place_lemmas}
use Rattle.cp_layout.specs.declared.layer.ParameterLayout.{ParameterLayout}
use Rattle.cp_slots.specs.Code as code
use Rattle.cp_slots.specs.Code.{Index, Indices, SetExpression, Argument, place_seen, index_seen, indices_of}
use Rattle.cp_layout.specs.Values.{Value, Designated, ordinal_of, product_of, sum_of}
use Rattle.cp_layout.specs.Layers.{Layer, parameter_of}
use Rattle.cp_layout.specs.LaidExpressions.{with_last, with_index, selector, selectors, expression, elements, factor, more_factors, term, more_terms, sum, with_sign, arguments_from, with_argument}

module _ (l : Layer) (d : Designated) (xs : List tree_selector.Selector) (i : ℕ) where
  pub selectors_step : (x : tree_selector.Selector) → i < length xs → x ≡ get_or xs i x → (e : Designated) (m : Layer) → selector l d (selector_view x) ≡ (e, m) → selectors l d (selectors_of (selectors_view (drop i xs))) ≡ selectors m e (selectors_of (selectors_view (drop (i + 1) xs)))
  unfolding selectors
  selectors_step x within here e m h = rw (add-one, drop-cons xs i x, ← here) (ap (λ (r : Designated × Layer). selectors r.1 r.0 (selectors_of (selectors_view (drop (suc i) xs)))) h)

  pub selectors_none : length xs ≤ i → selectors l d (selectors_of (selectors_view (drop i xs))) ≡ (d, l)
  unfolding selectors
  selectors_none h = rw (drop_all i xs h) refl

module _ (l : Layer) (s : SetExpression) (xs : List tree_expression.Expression) (i : ℕ) where
  pub elements_step : (x : tree_expression.Expression) → i < length xs → x ≡ get_or xs i x → (v : Value) (m : Layer) → expression l (expression_view x) ≡ (v, m) → elements l s (expressions_of (expressions_view (drop i xs))) ≡ elements m (code.with_element s (ordinal_of v)) (expressions_of (expressions_view (drop (i + 1) xs)))
  unfolding elements
  elements_step x within here v m h = rw (add-one, drop-cons xs i x, ← here) (ap (λ (r : Value × Layer). elements r.1 (code.with_element s (ordinal_of r.0)) (expressions_of (expressions_view (drop (suc i) xs)))) h)

  pub elements_none : length xs ≤ i → elements l s (expressions_of (expressions_view (drop i xs))) ≡ (s, l)
  unfolding elements
  elements_none h = rw (drop_all i xs h) refl

module _ (l : Layer) (t : Value) (xs : List (Multiplication × tree_factor.Factor)) (i : ℕ) where
  pub factors_step : (x : Multiplication × tree_factor.Factor) → i < length xs → x ≡ get_or xs i x → (v : Value) (m : Layer) → factor l (factor_view x.1) ≡ (v, m) → more_factors l t (factors_of (factors_view (drop i xs))) ≡ more_factors m (product_of x.0 t v) (factors_of (factors_view (drop (i + 1) xs)))
  unfolding more_factors
  factors_step x within here v m h = rw (add-one, drop-cons xs i x, ← here) (ap (λ (r : Value × Layer). more_factors r.1 (product_of x.0 t r.0) (factors_of (factors_view (drop (suc i) xs)))) h)

  pub factors_none : length xs ≤ i → more_factors l t (factors_of (factors_view (drop i xs))) ≡ (t, l)
  unfolding more_factors
  factors_none h = rw (drop_all i xs h) refl

module _ (l : Layer) (t : Value) (xs : List (Addition × tree_term.Term)) (i : ℕ) where
  pub terms_step : (x : Addition × tree_term.Term) → i < length xs → x ≡ get_or xs i x → (v : Value) (m : Layer) → term l (term_view x.1) ≡ (v, m) → more_terms l t (terms_of (terms_view (drop i xs))) ≡ more_terms m (sum_of x.0 t v) (terms_of (terms_view (drop (i + 1) xs)))
  unfolding more_terms
  terms_step x within here v m h = rw (add-one, drop-cons xs i x, ← here) (ap (λ (r : Value × Layer). more_terms r.1 (sum_of x.0 t r.0) (terms_of (terms_view (drop (suc i) xs)))) h)

  pub terms_none : length xs ≤ i → more_terms l t (terms_of (terms_view (drop i xs))) ≡ (t, l)
  unfolding more_terms
  terms_none h = rw (drop_all i xs h) refl

-- ---- arguments

abbrev pub with_front : List Argument → List Argument × Layer → List Argument × Layer
with_front front x = (front ++ x.0, x.1)

split_argument : (l : Layer) (p : Option ParameterLayout) (v : Value) (rest : List Argument) → with_argument l p v rest ≡ with_argument l p v [] ++ rest
split_argument l None v rest = refl
split_argument l (Some p) v rest = refl

module _ (l : Layer) (r i : ℕ) where
  arguments_more : (e : syntax.Expression) (es : syntax.Expressions) (v : Value) (m : Layer) → expression l e ≡ (v, m)
      → arguments_from l r i (syntax.more_expressions e es) ≡ (with_argument m (parameter_of m r i) v (arguments_from m r (i + 1) es).0, (arguments_from m r (i + 1) es).1)
  unfolding arguments_from
  arguments_more e es v m h = ap (λ (y : Value × Layer). (let z : List Argument × Layer = (with_argument y.1 (parameter_of y.1 r i) y.0 (arguments_from y.1 r (i + 1) es).0, (arguments_from y.1 r (i + 1) es).1) in z)) h

module _ (l : Layer) (r : ℕ) (front : List Argument) (xs : List tree_expression.Expression) (i : ℕ) where
  pub arguments_step : (x : tree_expression.Expression) → i < length xs → x ≡ get_or xs i x → (v : Value) (m : Layer) → expression l (expression_view x) ≡ (v, m)
      → with_front front (arguments_from l r i (expressions_of (expressions_view (drop i xs)))) ≡ with_front (front ++ with_argument m (parameter_of m r i) v []) (arguments_from m r (i + 1) (expressions_of (expressions_view (drop (i + 1) xs))))
  arguments_step x within here v m h =
      let es : syntax.Expressions = expressions_of (expressions_view (drop (i + 1) xs)) in
      let e : expressions_of (expressions_view (drop i xs)) ≡ syntax.more_expressions (expression_view x) es = rw (add-one, drop-cons xs i x, ← here) refl in
      let rest : List Argument × Layer = arguments_from m r (i + 1) es in
      let joined : front ++ with_argument m (parameter_of m r i) v rest.0 ≡ (front ++ with_argument m (parameter_of m r i) v []) ++ rest.0 =
      ap (λ (as' : List Argument). front ++ as') (split_argument m (parameter_of m r i) v rest.0) ∙ sym (append_assoc front (with_argument m (parameter_of m r i) v []) rest.0) in
      ap (λ (fs : syntax.Expressions). with_front front (arguments_from l r i fs)) e
      ∙ ap (with_front front) (arguments_more l r i (expression_view x) es v m h)
      ∙ ap (λ (as' : List Argument). (let y : List Argument × Layer = (as', rest.1) in y)) joined

  pub arguments_none : length xs ≤ i → with_front front (arguments_from l r i (expressions_of (expressions_view (drop i xs)))) ≡ (front, l)
  unfolding arguments_from
  arguments_none h = rw (drop_all i xs h, append-nil front) refl

-- ---- what a fold shows of terms, sums and places

term_shown : (t : tree_term.Term) → term_view t ≡ syntax.term (tree_term.out-Term t).at (factor_view (tree_term.out-Term t).first) (factors_of (factors_view (tree_term.out-Term t).more.items))
term_shown t = search (rules, tree_lemmas)

sum_shown : (t : tree_sum.Sum) → sum_view t ≡ syntax.sum (tree_sum.out-Sum t).at (tree_sum.out-Sum t).sign (term_view (tree_sum.out-Sum t).first) (terms_of (terms_view (tree_sum.out-Sum t).more.items))
sum_shown t = search (rules, tree_lemmas)

pub term_laid : (l : Layer) (t : tree_term.Term) (v : Value) (m : Layer) → factor l (factor_view (tree_term.out-Term t).first) ≡ (v, m) → term l (term_view t) ≡ more_factors m v (factors_of (factors_view (tree_term.out-Term t).more.items))
unfolding term
term_laid l t v m h = rw (term_shown t) (ap (λ (r : Value × Layer). more_factors r.1 r.0 (factors_of (factors_view (tree_term.out-Term t).more.items))) h)

pub sum_laid : (l : Layer) (t : tree_sum.Sum) (v : Value) (m : Layer) → term l (term_view (tree_sum.out-Sum t).first) ≡ (v, m) → sum l (sum_view t) ≡ more_terms m (with_sign (tree_sum.out-Sum t).sign v) (terms_of (terms_view (tree_sum.out-Sum t).more.items))
unfolding sum
sum_laid l t v m h = rw (sum_shown t) (ap (λ (r : Value × Layer). more_terms r.1 (with_sign (tree_sum.out-Sum t).sign r.0) (terms_of (terms_view (tree_sum.out-Sum t).more.items))) h)

pub place_shown : (p : code_place.Place) → place_seen p ≡ code.place (code_place.out-Place p).origin (code_place.out-Place p).offset (indices_of (map index_seen (code_place.out-Place p).indices.items))
place_shown p = search (rules, place_lemmas)

-- ---- indices

last_pushed : (is : List Index) (i : Index) → indices_of (is ++ i ∷ []) ≡ with_last (indices_of is) i
last_pushed [] i = refl
last_pushed (j ∷ js) i = ap (code.more_indices j) (last_pushed js i)

pub index_push : (xs : List code_index.Index) (i : code_index.Index) → indices_of (map index_seen (xs ++ i ∷ [])) ≡ with_last (indices_of (map index_seen xs)) (index_seen i)
index_push xs i = ap indices_of (map-append index_seen xs (i ∷ [])) ∙ last_pushed (map index_seen xs) (index_seen i)

place_rolled : (o : PlaceOrigin) (n : ℕ) (v : Vec code_index.Index Global) → place_seen (code_place.roll-Place (record { origin = o; offset = n; indices = v })) ≡ code.place o n (indices_of (map index_seen v.items))
place_rolled o n v = search (rules, place_lemmas)

-- a place with one index more
pub index_laid : (p : code_place.Place) (i : code_index.Index) (v : Vec code_index.Index Global) → v.items ≡ (code_place.out-Place p).indices.items ++ i ∷ []
    → place_seen (code_place.roll-Place (record { origin = (code_place.out-Place p).origin; offset = (code_place.out-Place p).offset; indices = v })) ≡ with_index (place_seen p) (index_seen i)
index_laid p i v e =
    place_rolled (code_place.out-Place p).origin (code_place.out-Place p).offset v
    ∙ ap (code.place (code_place.out-Place p).origin (code_place.out-Place p).offset) (ap (λ (is : List code_index.Index). indices_of (map index_seen is)) e ∙ index_push (code_place.out-Place p).indices.items i)
    ∙ ap (λ (q : code.Place). with_index q (index_seen i)) (sym (place_shown p))
