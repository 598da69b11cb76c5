-- A statement with what is said before it is judged by that, in its order, and then by the statement.
use Rattle.std.proofs.Common.{◌≡◌, ◌≤◌, ◌∙◌, ℕ, ◌+◌, max, min, Bool, List, [], ◌∷◌, Ok, Err, ap, append_assoc, sym, arith, refl, Vec, Box, Global, rules}
use Rattle.std.proofs.Math.Bool.{or_assoc}
use Rattle.cp_tree.specs.declared.expression.Expression as tree_expression
use Rattle.cp_tree.specs.declared.statement.AssertionKind.{AssertionKind}
use Rattle.cp_tree.specs.declared.statement.Statement as tree_statement
use Rattle.cp_tree.specs.declared.statement.StatementKind as tree_kind
use Rattle.cp_tree.specs.declared.statement.StatementKind.{the_lemmas}
use Rattle.cp_tree.specs.declared.statement.StatementKind.TheVariants as kinds
use Rattle.cp_tree.specs.Syntax.{Expression, Statement}
use Rattle.cp_tree.specs.View.{asserted_of, expressions_view, statement_view}
use Rattle.cp_scope.specs.Counts.{plus}
use Rattle.cp_check.specs.Statements.{assertion, assertions, statement, together}
use Rattle.cp_check.proofs.Words.{CheckFault, Use, Scopes, Judged, Context, Refuses, both, both_uses, no_use, ◌>>=◌}
use Rattle.cp_check.proofs.Judging.{refuses_both, refuses_second}
use Rattle.cp_check.proofs.Few.{Few, statement_few}

-- ---- what is taken together

abbrev use_with : ℕ → ℕ → Bool → Use
use_with m n b = record { calls = m; need = n; delays = b }

same_use : {k m n o : ℕ} {a b : Bool} → k ≡ m → n ≡ o → a ≡ b → use_with k n a ≡ use_with m o b
same_use h i j = rw (h, i, j) refl

plus_assoc : (m n o : ℕ) → plus m (plus n o) ≡ plus (plus m n) o
plus_assoc m n o = omega arith

max_assoc : (m n o : ℕ) → max m (max n o) ≡ max (max m n) o
max_assoc m n o = omega arith

uses_assoc : (a b c : Use) → both_uses a (both_uses b c) ≡ both_uses (both_uses a b) c
uses_assoc a b c = same_use (plus_assoc a.calls b.calls c.calls) (max_assoc a.need b.need c.need) (sym (or_assoc a.delays b.delays c.delays))

both_assoc : (i j k : Judged Use) → (both i (both j k >>= together) >>= together) ≡ (both (both i j >>= together) k >>= together)
both_assoc (Ok a) (Ok b) (Ok c) = ap (λ (u : Use). (let x : Judged Use = Ok u in x)) (uses_assoc a b c)
both_assoc (Ok a) (Ok b) (Err hs) = refl
both_assoc (Ok a) (Err gs) (Ok c) = refl
both_assoc (Ok a) (Err gs) (Err hs) = refl
both_assoc (Err fs) (Ok b) (Ok c) = refl
both_assoc (Err fs) (Ok b) (Err hs) = refl
both_assoc (Err fs) (Err gs) (Ok c) = refl
both_assoc (Err fs) (Err gs) (Err hs) = ap (λ (es : List CheckFault). (let x : Judged Use = Err es in x)) (sym (append_assoc fs gs hs))

few_same : (n : ℕ) → n ≤ 8193 → plus 0 n ≡ n
few_same n h = omega (arith, h)

least_same : (n : ℕ) → max 0 n ≡ n
least_same n = omega arith

none_before : (j : Judged Use) → Few j → (both (Ok no_use) j >>= together) ≡ j
none_before (Ok u) f = ap (λ (v : Use). (let x : Judged Use = Ok v in x)) (same_use (few_same u.calls f) (least_same u.need) refl)
none_before (Err fs) f = refl

-- ---- what is said before a statement

module _ (s : Scopes) (w : Context) (k : AssertionKind) (t : Statement) where
  said_first : (j : Judged Use) (es : List Expression) → (both j (statement s w (asserted_of k es t)) >>= together) ≡ (both (assertions s w j es) (statement s w t) >>= together)
  unfolding statement assertions
  said_first j [] = refl
  said_first j (e ∷ es) = both_assoc j (assertion s w e) (statement s w (asserted_of k es t)) ∙ said_first (both j (assertion s w e) >>= together) es

  pub asserted_judged : (es : List Expression) → statement s w (asserted_of k es t) ≡ (both (assertions s w (Ok no_use) es) (statement s w t) >>= together)
  asserted_judged es = sym (none_before (statement s w (asserted_of k es t)) (statement_few s w (asserted_of k es t))) ∙ said_first (Ok no_use) es

  pub asserted_first : (e : CheckFault) (es : List Expression) → Refuses e (assertions s w (Ok no_use) es) → Refuses e (statement s w (asserted_of k es t))
  asserted_first e es h = rw (asserted_judged es) (refuses_both e _ _ together h)

  pub asserted_second : (e : CheckFault) (es : List Expression) (u : Use) → assertions s w (Ok no_use) es ≡ Ok u → Refuses e (statement s w t) → Refuses e (statement s w (asserted_of k es t))
  asserted_second e es u i h = rw (asserted_judged es, i) (refuses_second e u _ together h)

  pub asserted_both : (es : List Expression) (u v : Use) → assertions s w (Ok no_use) es ≡ Ok u → statement s w t ≡ Ok v → statement s w (asserted_of k es t) ≡ Ok (both_uses u v)
  asserted_both es u v i h = rw (asserted_judged es, i, h) refl

-- ---- the same of a node

shown : (at : ℕ) (k : AssertionKind) (es : Vec tree_expression.Expression Global) (b : Box tree_statement.Statement Global) → statement_view (record { at = at; kind = kinds.Asserted k es b }) ≡ asserted_of k (expressions_view es.items) (statement_view b.value)
shown at k es b = search (rules, the_lemmas)

module _ (s : Scopes) (w : Context) (n : tree_statement.Statement) (k : AssertionKind) (es : Vec tree_expression.Expression Global) (b : Box tree_statement.Statement Global) (is : n.kind ≡ kinds.Asserted k es b) where
  said : statement_view n ≡ asserted_of k (expressions_view es.items) (statement_view b.value)
  said = ap (λ (j : tree_kind.StatementKind). statement_view (record { at = n.at; kind = j })) is ∙ shown n.at k es b

  pub said_refused : (e : CheckFault) → Refuses e (assertions s w (Ok no_use) (expressions_view es.items)) → Refuses e (statement s w (statement_view n))
  said_refused e h = rw said (asserted_first s w k (statement_view b.value) e (expressions_view es.items) h)

  pub statement_refused : (e : CheckFault) (u : Use) → assertions s w (Ok no_use) (expressions_view es.items) ≡ Ok u → Refuses e (statement s w (statement_view b.value)) → Refuses e (statement s w (statement_view n))
  statement_refused e u i h = rw said (asserted_second s w k (statement_view b.value) e (expressions_view es.items) u i h)

  pub both_judged : (u v : Use) → assertions s w (Ok no_use) (expressions_view es.items) ≡ Ok u → statement s w (statement_view b.value) ≡ Ok v → statement s w (statement_view n) ≡ Ok (both_uses u v)
  both_judged u v i h = rw said (asserted_both s w k (statement_view b.value) (expressions_view es.items) u v i h)
