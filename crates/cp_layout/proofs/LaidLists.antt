-- Loops over statements: the later ones lead where all later ones lead.
use Rattle.std.proofs.Common.{◌≡◌, ℕ, suc, ◌+◌, ◌<◌, ◌≤◌, List, [], ◌∷◌, ◌++◌, length, get_or, take, drop, map, Option, refl, sym, ap, ◌∙◌, add-one, append_assoc, rules, Box, Vec, Global}
use Rattle.std.proofs.Math.Seq.{drop-cons, take-suc}
use Rattle.std.proofs.lemmas.List.{drop_all, append-nil, take_all, map-append}
use Rattle.cp_tree.specs.declared.constant.Constant.{Constant}
use Rattle.cp_tree.specs.declared.expression.Expression as tree_expression
use Rattle.cp_tree.specs.declared.statement.AssertionKind.{AssertionKind}
use Rattle.cp_tree.specs.declared.statement.StatementKind as tree_kind
use Rattle.cp_tree.specs.declared.statement.StatementKind.{the_lemmas}
use Rattle.cp_tree.specs.declared.statement.StatementKind.TheVariants as kinds
use Rattle.cp_tree.specs.declared.statement.Statement as tree_statement
use Rattle.cp_tree.specs.Syntax.{Expression, Statement}
use Rattle.cp_tree.specs.declared.statement.Arm as tree_arm
use Rattle.cp_tree.specs.declared.statement.Start as tree_start
use Rattle.cp_tree.specs.View.{asserted_of, expression_at, expression_view, expressions_view, statement_view, statements_view, statements_of, arm_view, arms_view, arms_of, start_view}
use Rattle.cp_slots.specs.declared.item.ResolvedArm as code_arm
use Rattle.cp_slots.specs.Code.{Arm, arm_seen}
use Rattle.cp_layout.specs.Layers.{Layer, Names, settle_items}
use Rattle.cp_layout.specs.LaidStatements.{token_of, assertion, assertions, statement, statements, one_arm, arms, starts, start_statement}
use Rattle.cp_layout.specs.LaidTypes.{labels_of, constant_of}

module _ (l : Layer) (last : Option ℕ) (xs : List tree_statement.Statement) where
  pub statements_step : (i j : ℕ) (x : tree_statement.Statement) → i < length xs → x ≡ get_or xs i x → j ≡ i + 1 → (next first : Option ℕ) (m n : Layer)
      → statements l (statements_of (statements_view (drop j xs))) last ≡ (next, m) → statement m (statement_view x) next ≡ (first, n)
      → statements l (statements_of (statements_view (drop i xs))) last ≡ (first, n)
  unfolding statements
  statements_step i j x within here after next first m n h e =
      let k : statements l (statements_of (statements_view (drop (suc i) xs))) last ≡ (next, m) = rw (after, add-one) at h in
      rw (drop-cons xs i x, ← here) (ap (λ (r : Option ℕ × Layer). statement r.1 (statement_view x) r.0) k ∙ e)

  pub statements_none : (i : ℕ) → length xs ≤ i → statements l (statements_of (statements_view (drop i xs))) last ≡ (last, l)
  unfolding statements
  statements_none i h = rw (drop_all i xs h) refl

-- ---- what is said before a statement

module _ (l : Layer) (k : AssertionKind) (next : Option ℕ) (xs : List tree_expression.Expression) where
  pub assertions_step : (i j : ℕ) (x : tree_expression.Expression) → i < length xs → x ≡ get_or xs i x → j ≡ i + 1 → (first : Option ℕ) (m : Layer)
      → assertions l k (expressions_view (drop j xs)) next ≡ (first, m)
      → assertions l k (expressions_view (drop i xs)) next ≡ settle_items (assertion m (token_of (expression_view x)) k (expression_view x)) first
  unfolding assertions
  assertions_step i j x within here after first m h =
      let k' : assertions l k (expressions_view (drop (suc i) xs)) next ≡ (first, m) = rw (after, add-one) at h in
      rw (drop-cons xs i x, ← here) (ap (λ (r : Option ℕ × Layer). settle_items (assertion r.1 (token_of (expression_view x)) k (expression_view x)) r.0) k')

  pub assertions_none : (i : ℕ) → length xs ≤ i → assertions l k (expressions_view (drop i xs)) next ≡ (next, l)
  unfolding assertions
  assertions_none i h = rw (drop_all i xs h) refl

-- a statement with what is said before it is laid out after its own items
pub asserted_laid : (l : Layer) (k : AssertionKind) (es : List Expression) (s : Statement) (next : Option ℕ)
    → statement l (asserted_of k es s) next ≡ (let x = statement l s next in assertions x.1 k es x.0)
unfolding statement assertions
asserted_laid l k [] s next = refl
asserted_laid l k (e ∷ es) s next = ap (λ (r : Option ℕ × Layer). settle_items (assertion r.1 (expression_at e) k e) r.0) (asserted_laid l k es s next)

module _ (l : Layer) (next : Option ℕ) (xs : List tree_start.Start) where
  pub starts_step : (i j : ℕ) (x : tree_start.Start) → i < length xs → x ≡ get_or xs i x → j ≡ i + 1 → (first : Option ℕ) (m : Layer)
      → starts l (map start_view (drop j xs)) next ≡ (first, m) → starts l (map start_view (drop i xs)) next ≡ settle_items (start_statement m (start_view x)) first
  unfolding starts
  starts_step i j x within here after first m h =
      let k : starts l (map start_view (drop (suc i) xs)) next ≡ (first, m) = rw (after, add-one) at h in
      rw (drop-cons xs i x, ← here) (ap (λ (r : Option ℕ × Layer). settle_items (start_statement r.1 (start_view x)) r.0) k)

  pub starts_none : (i : ℕ) → length xs ≤ i → starts l (map start_view (drop i xs)) next ≡ (next, l)
  unfolding starts
  starts_none i h = rw (drop_all i xs h) refl

-- ---- arms

abbrev pub with_front : List Arm → List Arm × Layer → List Arm × Layer
with_front front x = (front ++ x.0, x.1)

module _ (l : Layer) (front : List Arm) (xs : List tree_arm.Arm) (i : ℕ) where
  arms_split : (x : tree_arm.Arm) → i < length xs → x ≡ get_or xs i x → (a : Arm) (m : Layer) → one_arm l (arm_view x) ≡ (a, m)
      → with_front front (arms l (arms_of (arms_view (drop i xs)))) ≡ with_front (front ++ a ∷ []) (arms m (arms_of (arms_view (drop (i + 1) xs))))
  unfolding arms
  arms_split x within here a m h =
      let as' = arms_of (arms_view (drop (suc i) xs)) in
      let after : Arm × Layer → List Arm × Layer = λ y. with_front front (y.0 ∷ (arms y.1 as').0, (arms y.1 as').1) in
      rw (add-one, drop-cons xs i x, ← here) (ap after h ∙ ap (λ (bs : List Arm). (let y : List Arm × Layer = (bs, (arms m as').1) in y)) (sym (append_assoc front (a ∷ []) (arms m as').0)))

  pub arms_none : length xs ≤ i → with_front front (arms l (arms_of (arms_view (drop i xs)))) ≡ (front, l)
  unfolding arms
  arms_none h = rw (drop_all i xs h, append-nil front) refl

module _ (l : Layer) (front new : List code_arm.ResolvedArm) (xs : List tree_arm.Arm) (i : ℕ) where
  pub arms_step : (x : tree_arm.Arm) → i < length xs → x ≡ get_or xs i x → (a : code_arm.ResolvedArm) (m : Layer) → one_arm l (arm_view x) ≡ (arm_seen a, m) → new ≡ front ++ a ∷ []
      → with_front (map arm_seen front) (arms l (arms_of (arms_view (drop i xs)))) ≡ with_front (map arm_seen new) (arms m (arms_of (arms_view (drop (i + 1) xs))))
  arms_step x within here a m h e =
      arms_split l (map arm_seen front) xs i x within here (arm_seen a) m h
      ∙ ap (λ (as' : List Arm). with_front as' (arms m (arms_of (arms_view (drop (i + 1) xs))))) (sym (map-append arm_seen front (a ∷ [])) ∙ ap (map arm_seen) (sym e))

-- ---- labels

module _ (names : Names) (xs : List Constant) (i : ℕ) where
  pub labels_step : (x : Constant) → i < length xs → x ≡ get_or xs i x → labels_of names (take (i + 1) xs) ≡ labels_of names (take i xs) ++ (constant_of names x).1 ∷ []
  labels_step x within here = rw (add-one, take-suc xs i x within, ← here) (map-append (λ c. (constant_of names c).1) (take i xs) (x ∷ []))

  pub labels_none : length xs ≤ i → labels_of names (take i xs) ≡ labels_of names xs
  labels_none h = rw (take_all i xs h) refl

shown : (at : ℕ) (k : AssertionKind) (es : Vec tree_expression.Expression Global) (s : Box tree_statement.Statement Global) → statement_view (record { at = at; kind = kinds.Asserted k es s }) ≡ asserted_of k (expressions_view es.items) (statement_view s.value)
shown at k es s = search (rules, the_lemmas)

-- the same of a node, whose own items are there
pub said_before : (l m : Layer) (n : tree_statement.Statement) (k : AssertionKind) (es : Vec tree_expression.Expression Global) (s : Box tree_statement.Statement Global) (next first : Option ℕ)
    → n.kind ≡ kinds.Asserted k es s → statement l (statement_view s.value) next ≡ (first, m) → statement l (statement_view n) next ≡ assertions m k (expressions_view es.items) first
said_before l m n k es s next first is h =
    ap (λ (x : Statement). statement l x next) (ap (λ (j : tree_kind.StatementKind). statement_view (record { at = n.at; kind = j })) is ∙ shown n.at k es s)
    ∙ asserted_laid l k (expressions_view es.items) (statement_view s.value) next
    ∙ ap (λ (r : Option ℕ × Layer). assertions r.1 k (expressions_view es.items) r.0) h
