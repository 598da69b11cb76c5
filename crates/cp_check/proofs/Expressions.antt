-- Loops over the parts of expressions: what is left leads where all lead.
use Rattle.std.proofs.Common.{◌≡◌, ℕ, ◌+◌, ◌<◌, ◌≤◌, List, [], ◌∷◌, ◌++◌, length, get_or, drop, Bool, false, ◌&&◌, Option, Some, Ok, Err, refl, sym, ap, subst, ◌∙◌, add-one, append_assoc}
use Rattle.cp_check.proofs.Words.{drop-cons, CheckFault, Scopes, Judged, both, ◌>>=◌, Refuses, Context, Operand, drop_all, append-nil}
use Rattle.cp_scope.specs.declared.types.Parameter.{Parameter}
use Rattle.cp_tree.specs.declared.expression.Expression as tree_expression
use Rattle.cp_tree.specs.declared.expression.Term as tree_term
use Rattle.cp_tree.specs.declared.expression.Sum as tree_sum
use Rattle.cp_check.proofs.Folded.{sum_shown, term_shown}
use Rattle.cp_tree.specs.Syntax.{Terms, no_terms, more_terms as terms_more, Factors, no_factors, more_factors as factors_more, Selectors, no_selectors, more_selectors, Selector, field, index}
use Rattle.cp_tree.specs.View.{expression_view, expressions_view, expressions_of, sum_view, term_view, terms_view, terms_of, factor_view, factors_view, factors_of}
use Rattle.cp_check.specs.declared.operand.DesignatedName.{DesignatedName}
use Rattle.cp_check.specs.Operations as operations
use Rattle.cp_check.specs.Names.{member_of}
use Rattle.cp_check.specs.Expressions.{expression, sum_value, is_unsigned, has_no_terms, has_no_factors, term_value, more_terms, factor, more_factors, selectors, selector, arguments, is_var_at, before, sum_so_far, product_so_far, at_index}
use Rattle.cp_check.proofs.Judging.{refuses_both, refuses_bind}
use Rattle.cp_check.proofs.Fronts.{with_front, front_refuses}

-- ---- selectors

selector_refuses : (s : Scopes) (w : Context) (e : CheckFault) (j : Judged DesignatedName) (x : Selector) → Refuses e j → Refuses e (selector s w j x)
unfolding selector
selector_refuses s w e j (field i) h = refuses_bind e j (member_of s i) h
selector_refuses s w e j (index x) h = refuses_both e j _ (at_index s) h

pub selectors_refuse : (s : Scopes) (w : Context) (e : CheckFault) (j : Judged DesignatedName) (ss : Selectors) → Refuses e j → Refuses e (selectors s w j ss)
unfolding selectors
selectors_refuse s w e j no_selectors h = h
selectors_refuse s w e j (more_selectors x ss) h = selectors_refuse s w e (selector s w j x) ss (selector_refuses s w e j x h)

-- ---- factors

pub factors_refuse : (s : Scopes) (w : Context) (at : ℕ) (e : CheckFault) (j : Judged (Option Operand)) (fs : Factors) → Refuses e j → Refuses e (more_factors s w at j fs)
unfolding more_factors
factors_refuse s w at e j no_factors h = h
factors_refuse s w at e j (factors_more m f fs) h = factors_refuse s w at e (both j (factor s w false f) >>= product_so_far at m) fs (refuses_both e j _ (product_so_far at m) h)

-- ---- terms

pub terms_refuse : (s : Scopes) (w : Context) (at : ℕ) (e : CheckFault) (j : Judged (Option Operand)) (ts : Terms) → Refuses e j → Refuses e (more_terms s w at j ts)
unfolding more_terms
terms_refuse s w at e j no_terms h = h
terms_refuse s w at e j (terms_more a t ts) h = terms_refuse s w at e (both j (term_value s w false t) >>= sum_so_far at a) ts (refuses_both e j _ (sum_so_far at a) h)

-- ---- arguments

with_more : (front : List Operand) (o : Operand) (j : Judged (List Operand)) → with_front front (both (Ok o) j >>= before) ≡ with_front (front ++ o ∷ []) j
with_more front o (Ok ts) = ap (λ (us : List Operand). Ok us) (sym (append_assoc front (o ∷ []) ts))
with_more front o (Err fs) = refl

module _ (s : Scopes) (w : Context) (ps : List Parameter) (front : List Operand) (xs : List tree_expression.Expression) (i : ℕ) (x : tree_expression.Expression) (within : i < length xs) (here : x ≡ get_or xs i x) where
  here_first : drop i xs ≡ x ∷ drop (i + 1) xs
  here_first = rw (add-one, drop-cons xs i x, ← here) refl

  arguments_split : arguments s w ps i (expressions_of (expressions_view (drop i xs))) ≡ both (expression s w (is_var_at ps i) (expression_view x)) (arguments s w ps (i + 1) (expressions_of (expressions_view (drop (i + 1) xs)))) >>= before
  unfolding arguments
  arguments_split = rw here_first refl

  pub arguments_passed : (o : Operand) → expression s w (is_var_at ps i) (expression_view x) ≡ Ok o → with_front front (arguments s w ps i (expressions_of (expressions_view (drop i xs)))) ≡ with_front (front ++ o ∷ []) (arguments s w ps (i + 1) (expressions_of (expressions_view (drop (i + 1) xs))))
  arguments_passed o h =
      let more = arguments s w ps (i + 1) (expressions_of (expressions_view (drop (i + 1) xs))) in
      ap (with_front front) (arguments_split ∙ ap (λ (j : Judged Operand). both j more >>= before) h) ∙ with_more front o more

  pub arguments_refused : (e : CheckFault) → Refuses e (expression s w (is_var_at ps i) (expression_view x)) → Refuses e (with_front front (arguments s w ps i (expressions_of (expressions_view (drop i xs)))))
  arguments_refused e h = front_refuses e front _ (subst (λ (j : Judged (List Operand)). Refuses e j) (sym arguments_split) (refuses_both e _ _ before h))

pub arguments_none : (s : Scopes) (w : Context) (ps : List Parameter) (front : List Operand) (xs : List tree_expression.Expression) (i k : ℕ) → length xs ≤ i → with_front front (arguments s w ps k (expressions_of (expressions_view (drop i xs)))) ≡ Ok front
unfolding arguments
arguments_none s w ps front xs i k h = rw (drop_all i xs h, append-nil front) refl

-- ---- sums and terms

module _ (s : Scopes) (w : Context) (v b : Bool) (t : tree_sum.Sum) (is_alone : b ≡ (v && (is_unsigned (tree_sum.out-Sum t).sign && has_no_terms (terms_of (terms_view (tree_sum.out-Sum t).more.items))))) where
  pub sum_first : (e : CheckFault) → Refuses e (term_value s w b (term_view (tree_sum.out-Sum t).first)) → Refuses e (sum_value s w v (sum_view t))
  unfolding sum_value
  sum_first e h = rw (sum_shown t, ← is_alone) (refuses_bind e _ _ (terms_refuse s w (tree_sum.out-Sum t).at e _ (terms_of (terms_view (tree_sum.out-Sum t).more.items)) (refuses_bind e _ _ h)))

  module _ (o : Operand) (first : term_value s w b (term_view (tree_sum.out-Sum t).first) ≡ Ok o) where
    sum_is : sum_value s w v (sum_view t) ≡ more_terms s w (tree_sum.out-Sum t).at (Ok (operations.with_sign (tree_sum.out-Sum t).at (tree_sum.out-Sum t).sign o)) (terms_of (terms_view (tree_sum.out-Sum t).more.items)) >>= operations.check_agreement (tree_sum.out-Sum t).at
    unfolding sum_value
    sum_is = rw (sum_shown t, ← is_alone, first) refl

    pub sum_more : (e : CheckFault) → Refuses e (more_terms s w (tree_sum.out-Sum t).at (Ok (operations.with_sign (tree_sum.out-Sum t).at (tree_sum.out-Sum t).sign o)) (terms_of (terms_view (tree_sum.out-Sum t).more.items))) → Refuses e (sum_value s w v (sum_view t))
    sum_more e h = subst (λ (j : Judged Operand). Refuses e j) (sym sum_is) (refuses_bind e _ _ h)

    pub sum_passed : (total : Option Operand) → more_terms s w (tree_sum.out-Sum t).at (Ok (operations.with_sign (tree_sum.out-Sum t).at (tree_sum.out-Sum t).sign o)) (terms_of (terms_view (tree_sum.out-Sum t).more.items)) ≡ Ok total → sum_value s w v (sum_view t) ≡ operations.check_agreement (tree_sum.out-Sum t).at total
    sum_passed total h = sum_is ∙ ap (λ (j : Judged (Option Operand)). j >>= operations.check_agreement (tree_sum.out-Sum t).at) h

module _ (s : Scopes) (w : Context) (v b : Bool) (t : tree_term.Term) (is_alone : b ≡ (v && has_no_factors (factors_of (factors_view (tree_term.out-Term t).more.items)))) where
  pub term_first : (e : CheckFault) → Refuses e (factor s w b (factor_view (tree_term.out-Term t).first)) → Refuses e (term_value s w v (term_view t))
  unfolding term_value
  term_first e h = rw (term_shown t, ← is_alone) (refuses_bind e _ _ (factors_refuse s w (tree_term.out-Term t).at e _ (factors_of (factors_view (tree_term.out-Term t).more.items)) (refuses_bind e _ _ h)))

  module _ (o : Operand) (first : factor s w b (factor_view (tree_term.out-Term t).first) ≡ Ok o) where
    term_is : term_value s w v (term_view t) ≡ more_factors s w (tree_term.out-Term t).at (Ok (Some o)) (factors_of (factors_view (tree_term.out-Term t).more.items)) >>= operations.check_agreement (tree_term.out-Term t).at
    unfolding term_value
    term_is = rw (term_shown t, ← is_alone, first) refl

    pub term_more : (e : CheckFault) → Refuses e (more_factors s w (tree_term.out-Term t).at (Ok (Some o)) (factors_of (factors_view (tree_term.out-Term t).more.items))) → Refuses e (term_value s w v (term_view t))
    term_more e h = subst (λ (j : Judged Operand). Refuses e j) (sym term_is) (refuses_bind e _ _ h)

    pub term_passed : (total : Option Operand) → more_factors s w (tree_term.out-Term t).at (Ok (Some o)) (factors_of (factors_view (tree_term.out-Term t).more.items)) ≡ Ok total → term_value s w v (term_view t) ≡ operations.check_agreement (tree_term.out-Term t).at total
    term_passed total h = term_is ∙ ap (λ (j : Judged (Option Operand)). j >>= operations.check_agreement (tree_term.out-Term t).at) h
