-- The tokens of annotations are read as these, and what is said before a statement can be taken off it.
use Rattle.std.proofs.Common.{◌≡◌, ℕ, suc, ◌<◌, ◌≤◌, max, ◌⊎◌, inl, inr, Bool, true, false, List, [], ◌∷◌, Option, Some, None, refl, subst, arith}
use Rattle.std.proofs.lemmas.Bool.{cases_lt}
use Rattle.cp_text.specs.declared.token.Kind.{Kind}
use Rattle.cp_text.specs.declared.token.Kind.TheVariants as kind
use Rattle.cp_text.specs.declared.token.Mark.{Mark}
use Rattle.cp_text.specs.declared.token.Mark.TheVariants as mark
use Rattle.cp_tree.specs.declared.statement.AssertionKind.{AssertionKind}
use Rattle.cp_tree.specs.declared.statement.AssertionKind.TheVariants as kinds
use Rattle.cp_tree.specs.Input.{Parser, ◌>>=◌, pure, is_mark, first_mark, expect}
use Rattle.cp_tree.specs.Syntax.{Expression, Statement, empty, asserted}
use Rattle.cp_tree.specs.View.{expression_at, asserted_of}
use Rattle.cp_tree.specs.ReadingExpressions.{expression}
use Rattle.cp_tree.specs.ReadingAnnotations.{annotation_with, annotations_with, annotation_at, annotations_at}
use Rattle.cp_tree.specs.ReadingDeclarations.{said}
use Rattle.cp_tree.specs.Spelling.{put_expression, put_statement}
use Rattle.cp_tree.specs.SpellingIndexed.{Begins, IsIndexedStatement, AreIndexedInvariants}
use Rattle.cp_tree.specs.SpellingLevel.{deepest, expression_depth, statement_depth, invariant_depth}
use Rattle.cp_tree.proofs.Shapes.{Shape, mark_shape, all_of}
use Rattle.cp_tree.proofs.FoundAnnotations.{IsIndexedAnnotation, AreIndexedAnnotations, annotation_shape, asserted_put, expression_begins}
use Rattle.cp_tree.proofs.Grows.{grows_expression}
use Rattle.cp_tree.proofs.Lands.{LandsAll, before, expect_lands, eaten, not_eaten, land_two}
use Rattle.cp_tree.proofs.LandsLists.{IsApart, LandsItem, EndsOn, many_lands}
use Rattle.cp_tree.proofs.AgainExpressions.{expression_before, expression_lands}

-- ---- annotations

abbrev Unopened : Mark → List Kind → Type 0
Unopened m ks = is_mark m (first_mark ks) ≡ false

-- annotations before a token that opens no further one
abbrev pub annotations_before : ℕ → Mark → Shape (List Expression)
annotations_before total m = before (all_of (annotation_shape total m)) (Unopened m)

annotations_apart : (total : ℕ) (m : Mark) → IsApart (annotation_shape total m) (annotations_before total m)
annotations_apart total m = record {
  listed = record { no_put = λ ks. refl; more_put = λ x xs ks. refl; no_depth = refl; more_depth = λ x xs. refl };
  first_indexed = λ x xs ks h. h.0.0;
  rest_indexed = λ x xs ks h. (h.0.1, h.1);
}

module _ (total b : ℕ) (expression : Parser Expression) (law : LandsAll total b (expression_before total) expression) (m : Mark) where
  annotation_lands : (e : Expression) → LandsItem total b (annotation_shape total m) (annotation_with expression m) e
  unfolding annotation_with
  annotation_lands e n ks placed indexed =
      let there : Parser (Option Expression) = expression >>= (λ e. expect mark.Closes >>= (λ u. pure (Some e))) in
      eaten total (b < expression_depth e) m there (pure None) n (put_expression e (kind.Mark mark.Closes ∷ ks)) (Some e) ks placed (λ k here.
      land_two total b (b < expression_depth e) (Some e) (expression_before total) (mark_shape mark.Closes) expression (expect mark.Closes) (λ e u. Some e) e tt (law e) (expect_lands total b mark.Closes tt)
      k ks here ((indexed, omega arith), tt) (λ d. omega arith) refl)

  annotation_ends : (ks : List Kind) → Unopened m ks → EndsOn total (annotation_with expression m) ks
  unfolding annotation_with
  annotation_ends ks unseen n placed =
      let there : Parser (Option Expression) = expression >>= (λ e. expect mark.Closes >>= (λ u. pure (Some e))) in
      not_eaten total ⊥ m there (pure None) n ks None ks unseen (refl, refl, placed)

  pub annotations_land : LandsAll total b (annotations_before total m) (annotations_with expression m)
  unfolding annotations_with
  annotations_land =
      many_lands total b (annotation_shape total m) (annotations_before total m) (annotations_apart total m) (annotation_with expression m) annotation_lands (λ ks h. annotation_ends ks h.1) (λ e ks. omega (arith, grows_expression e (kind.Mark mark.Closes ∷ ks)))

pub annotations_at_land : (total b : ℕ) (m : Mark) → LandsAll total b (annotations_before total m) (annotations_at m b)
unfolding annotations_at annotation_at
annotations_at_land total b m =
    many_lands total b (annotation_shape total m) (annotations_before total m) (annotations_apart total m) (annotation_at m b) (annotation_lands total b (expression b) (expression_lands total b) m)
    (λ ks h. annotation_ends total b (expression b) (expression_lands total b) m ks h.1) (λ e ks. omega (arith, grows_expression e (kind.Mark mark.Closes ∷ ks)))

-- ---- a statement, and what is said before it

abbrev pub tests_of : Statement → List Expression
tests_of (asserted at k e s) = e ∷ tests_of s
tests_of _ = []

abbrev pub plain_of : Statement → Statement
plain_of (asserted at k e s) = plain_of s
plain_of s = s

abbrev pub is_plain : Statement → Bool
is_plain (asserted at k e s) = false
is_plain _ = true

pub plain_plain : (s : Statement) → is_plain (plain_of s) ≡ true
plain_plain (asserted at k e s) = plain_plain s
plain_plain _ = refl

module _ (total : ℕ) where
  -- An assertion has the number of its expression.
  asserted_same : (at : ℕ) (k l : AssertionKind) (e : Expression) (s t : Statement) (ks : List Kind) → k ≡ l → Begins total at (put_expression e ks) → Begins total (expression_at e) (put_expression e ks) → t ≡ s → asserted (expression_at e) l e t ≡ asserted at k e s
  asserted_same at k l e s t ks same placed begins is =
      let same_at : expression_at e ≡ at = omega arith in
      cc

  pub asserted_back : (s : Statement) (ks : List Kind) → IsIndexedStatement total s ks → asserted_of kinds.Assertion (tests_of s) (plain_of s) ≡ s
  asserted_back (asserted at k e s) ks h =
      let rest = kind.Mark mark.Closes ∷ put_statement s ks in
      asserted_same at k kinds.Assertion e s (asserted_of kinds.Assertion (tests_of s) (plain_of s)) rest h.0 h.1 (expression_begins total e rest h.2) (asserted_back s ks h.3)
  asserted_back _ ks h = refl

  -- Where the whole is as it has to be, so are its parts.
  pub asserted_apart : (es : List Expression) (s : Statement) (ks : List Kind) → IsIndexedStatement total (asserted_of kinds.Assertion es s) ks → AreIndexedAnnotations total mark.Assert es (put_statement s ks) × IsIndexedStatement total s ks
  asserted_apart [] s ks h = (tt, h)
  asserted_apart (e ∷ es) s ks h =
      let more = asserted_apart es s ks h.3 in
      ((subst (λ (r : List Kind). IsIndexedAnnotation total e r) (asserted_put kinds.Assertion es s ks) h.2, more.0), more.1)

  pub said_apart : (es : List Expression) (end : ℕ) (ks : List Kind) → AreIndexedInvariants total (said es end) ks → AreIndexedAnnotations total mark.Invariant es ks × Begins total end ks
  said_apart [] end ks h = (tt, h)
  said_apart (e ∷ es) end ks h =
      let more = said_apart es end ks h.3 in
      ((subst (λ (r : List Kind). IsIndexedAnnotation total e r) (asserted_put kinds.Invariant es (empty end) ks) h.2, more.0), more.1)

  -- the number of the empty statement behind invariants
  pub record IsSaid (s : Statement) : Type 0 where
    pub end : ℕ
    pub is : said (tests_of s) end ≡ s

  pub said_back : (s : Statement) (ks : List Kind) → AreIndexedInvariants total s ks → IsSaid s
  said_back (empty at) ks h = record { end = at; is = refl }
  said_back (asserted at k e s) ks h =
      let rest = kind.Mark mark.Closes ∷ put_statement s ks in
      let more = said_back s ks h.3 in
      record { end = more.end; is = asserted_same at k kinds.Invariant e s (said (tests_of s) more.end) rest h.0 h.1 (expression_begins total e rest h.2) more.is }
  said_back _ ks h = absurd h

-- ---- levels

or_deeper : (b n m : ℕ) → b < max n m → (b < n) ⊎ (b < m)
or_deeper b n m h = elim (cases_lt b n) [
  | inl less ↦ inl less
  | inr more ↦ inr (omega arith)
]

pub asserted_deep : (k : AssertionKind) (es : List Expression) (s : Statement) (b : ℕ) → b < deepest expression_depth es → suc b < statement_depth (asserted_of k es s)
asserted_deep k [] s b h = absurd (omega (arith, h))
asserted_deep k (e ∷ es) s b h = elim (or_deeper b (expression_depth e) (deepest expression_depth es) h) [
  | inl here ↦ omega (arith, here)
  | inr more ↦ let deep = asserted_deep k es s b more in omega (arith, deep)
]

pub plain_deep : (k : AssertionKind) (es : List Expression) (s : Statement) → statement_depth s ≤ statement_depth (asserted_of k es s)
plain_deep k [] s = omega arith
plain_deep k (e ∷ es) s = let more = plain_deep k es s in omega (arith, more)

pub said_deep : (es : List Expression) (end : ℕ) → deepest expression_depth es ≤ invariant_depth (said es end)
said_deep [] end = omega arith
said_deep (e ∷ es) end = let more = said_deep es end in omega (arith, more)
