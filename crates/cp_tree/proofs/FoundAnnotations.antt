-- What is read of annotations, and of the statements and routines that they are said of, is spelled so.
use Rattle.std.proofs.Common.{◌≡◌, ◌≤◌, ℕ, suc, true, false, cond, List, [], ◌∷◌, Option, Some, None, refl, sym, ap, subst, arith}
use Rattle.cp_text.specs.declared.token.Kind.{Kind}
use Rattle.cp_text.specs.declared.token.Kind.TheVariants as kind
use Rattle.cp_text.specs.declared.token.Mark.{Mark}
use Rattle.cp_text.specs.declared.token.Mark.TheVariants as mark
use Rattle.cp_tree.specs.declared.statement.AssertionKind.{AssertionKind}
use Rattle.cp_tree.specs.declared.statement.AssertionKind.TheVariants as kinds
use Rattle.cp_tree.specs.Input.{Input, Parser, ◌>>=◌, pure, sees, after, advance, expect}
use Rattle.cp_tree.specs.Syntax.{Expression, alone, related, Statement, empty}
use Rattle.cp_tree.specs.View.{expression_at, asserted_of}
use Rattle.cp_tree.specs.ReadingExpressions.{expression}
use Rattle.cp_tree.specs.ReadingAnnotations.{annotation_with, annotations_with, annotation_at, annotations_at}
use Rattle.cp_tree.specs.ReadingDeclarations.{said}
use Rattle.cp_tree.specs.Spelling.{opening_mark, put_all, put_expression, put_statement}
use Rattle.cp_tree.specs.SpellingIndexed.{Begins, ends_open, AreAllIndexed, IsIndexedExpression, IsIndexedStatement, AreIndexedInvariants}
use Rattle.cp_tree.specs.SpellingLevel.{deepest, expression_depth, statement_depth, invariant_depth}
use Rattle.cp_tree.proofs.Shapes.{Shape, mark_shape, pair_of, all_of}
use Rattle.cp_tree.proofs.Steps.{Found, Taken, Takes, sees_passes, expect_takes, found_two}
use Rattle.cp_tree.proofs.FoundLists.{IsItem, MayTake, made_after, all_built, many_takes}
use Rattle.cp_tree.proofs.FoundExpressions.{expression_shape, expression_takes}

-- ---- annotations

-- an expression between this opening and its closing
abbrev pub put_annotation : Mark → Expression → List Kind → List Kind
put_annotation m e ks = kind.Mark m ∷ put_expression e (kind.Mark mark.Closes ∷ ks)

abbrev pub IsIndexedAnnotation : ℕ → Expression → List Kind → Type 0
IsIndexedAnnotation total e ks = IsIndexedExpression total e (kind.Mark mark.Closes ∷ ks)

abbrev pub annotation_shape : ℕ → Mark → Shape Expression
annotation_shape total m = record { put = put_annotation m; indexed = IsIndexedAnnotation total; depth = expression_depth }

abbrev pub AreIndexedAnnotations : ℕ → Mark → List Expression → List Kind → Type 0
AreIndexedAnnotations total m = AreAllIndexed (put_annotation m) (IsIndexedAnnotation total)

module _ (total b : ℕ) (expression : Parser Expression) (law : Takes total b (expression_shape total) expression) (m : Mark) where
  annotation_takes : MayTake total b (annotation_shape total m) (annotation_with expression m)
  unfolding annotation_with after
  annotation_takes i placed =
      let Q : Option Expression → Input → Type 0 = IsItem (Taken total b (annotation_shape total m)) i in
      let there : Parser (Option Expression) = expression >>= (λ e. expect mark.Closes >>= (λ u. pure (Some e))) in
      elim (sees m i) as (λ c. sees m i ≡ c → Found total Q ((cond c there (pure None)) (cond c (advance i) i))) [
        | true ↦ λ e.
            let q = sees_passes total m i placed e in
            found_two total b Q (expression_shape total) (mark_shape mark.Closes) expression (expect mark.Closes) (λ e u. Some e) law (expect_takes total b mark.Closes) (advance i) q.placed (λ e u j t.
            made_after total b b m (pair_of (expression_shape total) (mark_shape mark.Closes)) (annotation_shape total m) i (advance i) j (e, tt) e placed q t refl (λ p h. h.0) (λ d. omega arith))
        | false ↦ λ e. refl
      ] refl

  pub annotations_take : Takes total b (all_of (annotation_shape total m)) (annotations_with expression m)
  unfolding annotations_with
  annotations_take i placed = many_takes total b (annotation_shape total m) (all_of (annotation_shape total m)) (all_built (annotation_shape total m)) (annotation_with expression m) annotation_takes i placed

pub annotations_at_take : (total b : ℕ) (m : Mark) → Takes total b (all_of (annotation_shape total m)) (annotations_at m b)
unfolding annotations_at annotation_at
annotations_at_take total b m i placed =
    many_takes total b (annotation_shape total m) (all_of (annotation_shape total m)) (all_built (annotation_shape total m)) (annotation_at m b) (annotation_takes total b (expression b) (expression_takes total b) m) i placed

-- ---- what is said before a statement

pub asserted_put : (k : AssertionKind) (es : List Expression) (s : Statement) (ks : List Kind) → put_statement (asserted_of k es s) ks ≡ put_all (put_annotation (opening_mark k)) es (put_statement s ks)
asserted_put k [] s ks = refl
asserted_put k (e ∷ es) s ks = ap (λ (r : List Kind). kind.Mark (opening_mark k) ∷ put_expression e (kind.Mark mark.Closes ∷ r)) (asserted_put k es s ks)

pub asserted_ends : (k : AssertionKind) (es : List Expression) (s : Statement) → ends_open (asserted_of k es s) ≡ ends_open s
asserted_ends k [] s = refl
asserted_ends k (e ∷ es) s = asserted_ends k es s

pub expression_begins : (total : ℕ) (e : Expression) (ks : List Kind) → IsIndexedExpression total e ks → Begins total (expression_at e) (put_expression e ks)
expression_begins total (alone at s) ks h = h.0
expression_begins total (related at s r t) ks h = h.0

module _ (total : ℕ) where
  annotation_indexed : (k : AssertionKind) (e : Expression) (es : List Expression) (s : Statement) (ks : List Kind) → IsIndexedAnnotation total e (put_all (put_annotation (opening_mark k)) es (put_statement s ks))
      → IsIndexedAnnotation total e (put_statement (asserted_of k es s) ks)
  annotation_indexed k e es s ks h = subst (λ (r : List Kind). IsIndexedAnnotation total e r) (sym (asserted_put k es s ks)) h

  pub asserted_indexed : (es : List Expression) (s : Statement) (ks : List Kind) → AreIndexedAnnotations total mark.Assert es (put_statement s ks) → IsIndexedStatement total s ks → IsIndexedStatement total (asserted_of kinds.Assertion es s) ks
  asserted_indexed [] s ks h r = r
  asserted_indexed (e ∷ es) s ks h r =
      let one = annotation_indexed kinds.Assertion e es s ks h.0 in
      (refl, expression_begins total e (kind.Mark mark.Closes ∷ put_statement (asserted_of kinds.Assertion es s) ks) one, one, asserted_indexed es s ks h.1 r)

  pub said_indexed : (es : List Expression) (end : ℕ) (ks : List Kind) → AreIndexedAnnotations total mark.Invariant es ks → Begins total end ks → AreIndexedInvariants total (said es end) ks
  said_indexed [] end ks h r = r
  said_indexed (e ∷ es) end ks h r =
      let one = annotation_indexed kinds.Invariant e es (empty end) ks h.0 in
      (refl, expression_begins total e (kind.Mark mark.Closes ∷ put_statement (said es end) ks) one, one, said_indexed es end ks h.1 r)

pub asserted_shallow : (k : AssertionKind) (es : List Expression) (s : Statement) (b : ℕ) → deepest expression_depth es ≤ b → statement_depth s ≤ suc b → statement_depth (asserted_of k es s) ≤ suc b
asserted_shallow k [] s b h g = g
asserted_shallow k (e ∷ es) s b h g = let more = asserted_shallow k es s b (omega (arith, h)) g in omega (arith, h, more)

pub said_shallow : (es : List Expression) (end b : ℕ) → deepest expression_depth es ≤ b → invariant_depth (said es end) ≤ b
said_shallow [] end b h = omega arith
said_shallow (e ∷ es) end b h = let more = said_shallow es end b (omega (arith, h)) in omega (arith, h, more)
