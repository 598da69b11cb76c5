-- What is read of a statement is spelled so.
use Rattle.std.proofs.Common.{◌≡◌, ℕ, zero, suc, ◌+◌, true, false, cond, List, ◌∷◌, Option, Some, None, refl, sym, ap, ◌∙◌, arith}
use Rattle.cp_text.specs.declared.token.Kind.{Kind}
use Rattle.cp_text.specs.declared.token.Kind.TheVariants as kind
use Rattle.cp_text.specs.declared.token.Mark.TheVariants as mark
use Rattle.cp_tree.specs.declared.statement.AssertionKind.TheVariants.{Assertion}
use Rattle.cp_tree.specs.declared.statement.Direction.{Direction}
use Rattle.cp_tree.specs.Input.{Input, Outcome, Parser, ◌>>=◌, pure, sees, after, advance, same, is_mark, first, first_mark, next, expect}
use Rattle.cp_tree.specs.Input as Input
use Rattle.cp_tree.specs.Syntax.{Expression, Designator, Start, Statement, empty, assign, invoke, block, case_of, while_do, repeat_until, for_do, cycle, init, Arm, arm}
use Rattle.cp_tree.specs.View.{asserted_of, expressions_of, statements_of, arms_of}
use Rattle.cp_tree.specs.Reading.{behind, some, separated, ended_list, identifier, constant}
use Rattle.cp_tree.specs.ReadingAnnotations.{annotations_with}
use Rattle.cp_tree.specs.ReadingExpressions.{expression, designator_with, arguments_with}
use Rattle.cp_tree.specs.ReadingStatements.{if_of, direction_by, direction, labels, start_with, init_with, named_with, if_with, while_with, for_with, repeat_with, block_with, cycle_with, arm_with, case_with, statement_by, plain_with, statement_with, statement, statements_at}
use Rattle.cp_tree.specs.Spelling.{direction_mark, put_start, put_statement, put_statements, put_more_statements, put_arms, put_more_arms, put_arm}
use Rattle.cp_tree.specs.SpellingIndexed.{Begins, ends_open, IsIndexedStart, IsIndexedStatement, AreIndexedStatements, AreIndexedMoreStatements, AreIndexedArms, AreIndexedMoreArms, IsIndexedArm}
use Rattle.cp_tree.specs.SpellingLevel.{start_depth, statement_depth, statements_depth, arms_depth, arm_depth}
use Rattle.cp_tree.proofs.Shapes.{Shape, mark_shape, pair_of, behind_of, all_of, separated_of}
use Rattle.cp_tree.proofs.Steps.{Found, found_then, At, begins, took_onto, Taken, Takes, takes_deep, Passed, sees_passes, expect_takes, joined, found_one, found_two, found_three, found_four, found_seven}
use Rattle.cp_tree.proofs.FoundLists.{made_of, made_after, IsBuilt, IsBuiltLed, all_built, separated_built, behind_passed, separated_takes, ended_of, ended_takes}
use Rattle.cp_tree.proofs.FoundConstants.{identifier_shape, identifier_takes, labels_shape, labels_take}
use Rattle.cp_tree.proofs.FoundAnnotations.{annotation_shape, annotations_take, asserted_put, asserted_ends, asserted_indexed, asserted_shallow}
use Rattle.cp_tree.proofs.FoundExpressions.{expression_shape, arguments_shape, designator_shape, arguments_take, designator_takes, expression_takes}

-- ---- shapes

-- No `else` follows a statement to which it would belong.
abbrev pub statement_shape : ℕ → Shape Statement
statement_shape total = record { put = put_statement; indexed = λ s ks. IsIndexedStatement total s ks × (ends_open s ≡ true → is_mark mark.Else (first_mark ks) ≡ false); depth = statement_depth }

abbrev pub more_statements_shape : ℕ → Shape (List Statement)
more_statements_shape total = record { put = λ xs. put_more_statements (statements_of xs); indexed = λ xs. AreIndexedMoreStatements total (statements_of xs); depth = λ xs. statements_depth (statements_of xs) }

abbrev pub statements_shape : ℕ → Shape (List Statement)
statements_shape total = record { put = λ xs. put_statements (statements_of xs); indexed = λ xs. AreIndexedStatements total (statements_of xs); depth = λ xs. statements_depth (statements_of xs) }

abbrev pub arm_shape : ℕ → Shape Arm
arm_shape total = record { put = put_arm; indexed = IsIndexedArm total; depth = arm_depth }

abbrev pub more_arms_shape : ℕ → Shape (List Arm)
more_arms_shape total = record { put = λ xs. put_more_arms (arms_of xs); indexed = λ xs. AreIndexedMoreArms total (arms_of xs); depth = λ xs. arms_depth (arms_of xs) }

abbrev pub arms_shape : ℕ → Shape (List Arm)
arms_shape total = record { put = λ xs. put_arms (arms_of xs); indexed = λ xs. AreIndexedArms total (arms_of xs); depth = λ xs. arms_depth (arms_of xs) }

abbrev pub start_shape : ℕ → Shape Start
start_shape total = record { put = put_start; indexed = IsIndexedStart total; depth = start_depth }

abbrev pub direction_shape : Shape Direction
direction_shape = record { put = λ d ks. kind.Mark (direction_mark d) ∷ ks; indexed = λ d ks. Unit {0}; depth = λ d. 0 }

statements_built : (total : ℕ) → IsBuilt (behind_of mark.Semicolon (statement_shape total)) (more_statements_shape total)
statements_built total = record { listed = record { no_put = λ ks. refl; more_put = λ x xs ks. refl; no_depth = refl; more_depth = λ x xs. refl }; no_indexed = λ ks. tt; more_indexed = λ x xs ks p q. (p.0, q) }

statements_led : (total : ℕ) → IsBuiltLed (statement_shape total) (more_statements_shape total) (statements_shape total)
statements_led total = record { led = record { led_put = λ x xs ks. refl; led_depth = λ x xs. refl }; led_indexed = λ x xs ks p q. (p.0, q) }

arms_built : (total : ℕ) → IsBuilt (behind_of mark.Semicolon (arm_shape total)) (more_arms_shape total)
arms_built total = record { listed = record { no_put = λ ks. refl; more_put = λ x xs ks. refl; no_depth = refl; more_depth = λ x xs. refl }; no_indexed = λ ks. tt; more_indexed = λ x xs ks p q. (p, q) }

arms_led : (total : ℕ) → IsBuiltLed (arm_shape total) (more_arms_shape total) (arms_shape total)
arms_led total = record { led = record { led_put = λ x xs ks. refl; led_depth = λ x xs. refl }; led_indexed = λ x xs ks p q. (p, q) }

-- ---- `to` and `downto`

direction_found : (total b at : ℕ) (ks : List Kind) → Begins total at ks → let i : Input = record { at = at; rest = ks } in Found total (Taken total b direction_shape i) (direction_by (first_mark ks) i)
unfolding advance
direction_found total b at (kind.Mark mark.To ∷ ks) placed = (record { spelled = refl; indexed = tt; shallow = omega arith }, omega arith)
direction_found total b at (kind.Mark mark.Downto ∷ ks) placed = (record { spelled = refl; indexed = tt; shallow = omega arith }, omega arith)
direction_found total b at _ placed = omega arith

direction_takes : (total b : ℕ) → Takes total b direction_shape direction
unfolding direction Input.mark
direction_takes total b i placed = direction_found total b i.at i.rest placed

-- ---- statements without statements inside

module _ (total b : ℕ) (expression : Parser Expression) (law : Takes total b (expression_shape total) expression) where
  abbrev pub StatementTaken : Input → Statement → Input → Type 0
  StatementTaken i s j = Taken total (suc b) (statement_shape total) i s j

  start_takes : Takes total b (start_shape total) (start_with expression)
  unfolding start_with
  start_takes i placed =
      found_two total b (Taken total b (start_shape total) i) (designator_shape total) (arguments_shape total) (designator_with expression) (arguments_with expression) (λ d es. record { target = d; arguments = expressions_of es })
      (designator_takes total b expression law) (arguments_take total b expression law) i placed (λ d es j t.
      made_of total b _ _ _ i j _ _ placed t refl (λ p h. (h.0, h.1)) (λ d. d))

  init_found : (i k : Input) → At total i → Passed total mark.Init i k → Found total (StatementTaken i) (init_with expression i.at k)
  unfolding init_with
  init_found i k placed q =
      let s = start_shape total in
      found_one total b (StatementTaken i) (separated_of mark.Comma s) (separated mark.Comma (start_with expression)) (λ ss. init i.at ss)
      (separated_takes total b mark.Comma s (all_of (behind_of mark.Comma s)) (separated_of mark.Comma s) (all_built (behind_of mark.Comma s)) (separated_built mark.Comma s) (start_with expression) start_takes) k q.placed (λ ss j t.
      made_after total b _ mark.Init _ _ i k j _ _ placed q t refl (λ p h. ((p, h), λ e. absurd cc)) (λ d. omega arith))

  assign_found : (i k l : Input) (d : Designator) → At total i → Taken total b (designator_shape total) i d k → Passed total mark.Becomes k l → Found total (StatementTaken i) ((expression >>= (λ e. pure (assign i.at d e))) l)
  assign_found i k l d placed p q =
      found_one total b (StatementTaken i) (expression_shape total) expression (λ e. assign i.at d e) law l q.placed (λ e j t.
      let both = (joined total b (designator_shape total) (behind_of mark.Becomes (expression_shape total)) i k j d e p (behind_passed total b mark.Becomes (expression_shape total) k l j e q t)).0 in
      let shallow = both.shallow in
      (record { spelled = both.spelled; indexed = ((begins total i _ placed both.spelled, both.indexed.0, both.indexed.1), λ e. absurd cc); shallow = omega (arith, shallow) }, t.1))

  invoke_found : (i k : Input) (d : Designator) → At total i → Taken total b (designator_shape total) i d k → Found total (StatementTaken i) ((arguments_with expression >>= (λ es. pure (invoke i.at d (expressions_of es)))) k)
  invoke_found i k d placed p =
      found_one total b (StatementTaken i) (arguments_shape total) (arguments_with expression) (λ es. invoke i.at d (expressions_of es)) (arguments_take total b expression law) k p.1 (λ es j t.
      let both = (joined total b (designator_shape total) (arguments_shape total) i k j d es p t).0 in
      let shallow = both.shallow in
      (record { spelled = both.spelled; indexed = ((begins total i _ placed both.spelled, both.indexed.0, both.indexed.1), λ e. absurd cc); shallow = omega (arith, shallow) }, t.1))

  named_found : (i : Input) → At total i → Found total (StatementTaken i) (named_with expression i.at i)
  unfolding named_with after
  named_found i placed =
      let assigned : Designator → Parser Statement = λ d. expression >>= (λ e. pure (assign i.at d e)) in
      let invoked : Designator → Parser Statement = λ d. arguments_with expression >>= (λ es. pure (invoke i.at d (expressions_of es))) in
      found_then total (Taken total b (designator_shape total) i) (StatementTaken i) (designator_with expression i) (λ d k. (cond (sees mark.Becomes k) (assigned d) (invoked d)) (cond (sees mark.Becomes k) (advance k) k)) (designator_takes total b expression law i placed) (λ d k p.
      elim (sees mark.Becomes k) as (λ c. sees mark.Becomes k ≡ c → Found total (StatementTaken i) ((cond c (assigned d) (invoked d)) (cond c (advance k) k))) [
        | true ↦ λ e. assign_found i k (advance k) d placed p (sees_passes total mark.Becomes k p.1 e)
        | false ↦ λ e. invoke_found i k d placed p
      ] refl)

-- ---- the other statements

-- an `else` with its statement, or no `else`
abbrev pub put_else : Option Statement → List Kind → List Kind
put_else None ks = ks
put_else (Some s) ks = kind.Mark mark.Else ∷ put_statement s ks

abbrev pub IsIndexedElse : ℕ → Option Statement → List Kind → Type 0
IsIndexedElse total None ks = is_mark mark.Else (first_mark ks) ≡ false
IsIndexedElse total (Some s) ks = IsIndexedStatement total s ks × (ends_open s ≡ true → is_mark mark.Else (first_mark ks) ≡ false)

abbrev pub else_depth : Option Statement → ℕ
else_depth None = 0
else_depth (Some s) = statement_depth s

abbrev pub else_shape : ℕ → Shape (Option Statement)
else_shape total = record { put = put_else; indexed = IsIndexedElse total; depth = else_depth }

else_is_else : (ks : List Kind) → is_mark mark.Else (first_mark (kind.Mark mark.Else ∷ ks)) ≡ true
unfolding same
else_is_else ks = refl

closed : (s : Statement) (ks : List Kind) → (ends_open s ≡ true → is_mark mark.Else (first_mark (kind.Mark mark.Else ∷ ks)) ≡ false) → ends_open s ≡ false
closed s ks h = elim (ends_open s) as (λ c. ends_open s ≡ c → c ≡ false) [ true ↦ λ o. sym (else_is_else ks) ∙ h o | false ↦ λ o. refl ] refl

module _ (total b : ℕ) (expression : Parser Expression) (inner : Parser Statement) (law : Takes total b (expression_shape total) expression) (below : Takes total b (statement_shape total) inner) where
  abbrev Made : Input → Statement → Input → Type 0
  Made i s j = Taken total (suc b) (statement_shape total) i s j

  pub statements_take : Takes total b (statements_shape total) (separated mark.Semicolon inner)
  statements_take = separated_takes total b mark.Semicolon (statement_shape total) (more_statements_shape total) (statements_shape total) (statements_built total) (statements_led total) inner below

  else_takes : Takes total b (else_shape total) (behind mark.Else inner)
  unfolding after sees Input.mark
  else_takes i placed =
      let Q = Taken total b (else_shape total) i in
      elim (is_mark mark.Else (first_mark i.rest)) as (λ c. is_mark mark.Else (first_mark i.rest) ≡ c → Found total Q ((cond c (some inner) (pure None)) (cond c (advance i) i))) [
        | true ↦ λ e.
            let q = sees_passes total mark.Else i placed e in
            found_one total b Q (statement_shape total) inner (λ s. Some s) below (advance i) q.placed (λ s j t.
            let one = t.0 in
            (record { spelled = q.rest ∙ ap (λ (ks : List Kind). kind.Mark mark.Else ∷ ks) one.spelled; indexed = one.indexed; shallow = one.shallow }, t.1))
        | false ↦ λ e. (record { spelled = refl; indexed = e; shallow = omega arith }, placed)
      ] refl

  if_made : (i k j : Input) (e : Expression) (s : Statement) (o : Option Statement) → At total i → Passed total mark.If i k
      → Taken total b (pair_of (expression_shape total) (pair_of (mark_shape mark.Then) (pair_of (statement_shape total) (else_shape total)))) k (e, (tt, (s, o))) j → Made i (if_of i.at e s o) j
  if_made i k j e s None placed q t =
      made_after total b _ mark.If _ _ i k j _ _ placed q t refl (λ p h. ((p, h.0, h.1.1.0.0), λ e. h.1.1.1)) (λ d. omega arith)
  if_made i k j e s (Some o) placed q t =
      made_after total b _ mark.If _ _ i k j _ _ placed q t refl (λ p h. ((p, h.0, h.1.1.0.0, h.1.1.1.0, closed s (put_statement o j.rest) h.1.1.0.1), h.1.1.1.1)) (λ d. omega arith)

  if_found : (i k : Input) → At total i → Passed total mark.If i k → Found total (Made i) (if_with expression inner i.at k)
  unfolding if_with
  if_found i k placed q =
      found_four total b (Made i) (expression_shape total) (mark_shape mark.Then) (statement_shape total) (else_shape total) expression (expect mark.Then) inner (behind mark.Else inner) (λ e u s o. if_of i.at e s o)
      law (expect_takes total b mark.Then) below else_takes k q.placed (λ e u s o j t. if_made i k j e s o placed q t)

  while_found : (i k : Input) → At total i → Passed total mark.While i k → Found total (Made i) (while_with expression inner i.at k)
  unfolding while_with
  while_found i k placed q =
      found_three total b (Made i) (expression_shape total) (mark_shape mark.Do) (statement_shape total) expression (expect mark.Do) inner (λ e u s. while_do i.at e s) law (expect_takes total b mark.Do) below k q.placed (λ e u s j t.
      made_after total b _ mark.While _ _ i k j _ _ placed q t refl (λ p h. ((p, h.0, h.1.1.0), h.1.1.1)) (λ d. omega arith))

  for_found : (i k : Input) → At total i → Passed total mark.For i k → Found total (Made i) (for_with expression inner i.at k)
  unfolding for_with
  for_found i k placed q =
      found_seven total b (Made i) (identifier_shape total) (mark_shape mark.Becomes) (expression_shape total) direction_shape (expression_shape total) (mark_shape mark.Do) (statement_shape total)
      identifier (expect mark.Becomes) expression direction expression (expect mark.Do) inner (λ n u e d f v s. for_do i.at n e d f s)
      (identifier_takes total b) (expect_takes total b mark.Becomes) law (direction_takes total b) law (expect_takes total b mark.Do) below k q.placed (λ n u e d f v s j t.
      made_after total b _ mark.For _ _ i k j _ _ placed q t refl (λ p h. ((p, h.0, h.1.1.0, h.1.1.1.1.0, h.1.1.1.1.1.1.0), h.1.1.1.1.1.1.1)) (λ d. omega arith))

  repeat_found : (i k : Input) → At total i → Passed total mark.Repeat i k → Found total (Made i) (repeat_with expression inner i.at k)
  unfolding repeat_with
  repeat_found i k placed q =
      found_three total b (Made i) (statements_shape total) (mark_shape mark.Until) (expression_shape total) (separated mark.Semicolon inner) (expect mark.Until) expression (λ ss u e. repeat_until i.at (statements_of ss) e) statements_take (expect_takes total b mark.Until) law k q.placed (λ ss u e j t.
      made_after total b _ mark.Repeat _ _ i k j _ _ placed q t refl (λ p h. ((p, h.0, h.1.1), λ e. absurd cc)) (λ d. omega arith))

  block_found : (i k : Input) → At total i → Passed total mark.Begin i k → Found total (Made i) (block_with expression inner i.at k)
  unfolding block_with
  block_found i k placed q =
      found_two total b (Made i) (statements_shape total) (mark_shape mark.End) (separated mark.Semicolon inner) (expect mark.End) (λ ss u. block i.at (statements_of ss)) statements_take (expect_takes total b mark.End) k q.placed (λ ss u j t.
      made_after total b _ mark.Begin _ _ i k j _ _ placed q t refl (λ p h. ((p, h.0), λ e. absurd cc)) (λ d. omega arith))

  cycle_found : (i k : Input) → At total i → Passed total mark.Cycle i k → Found total (Made i) (cycle_with expression inner i.at k)
  unfolding cycle_with
  cycle_found i k placed q =
      found_two total b (Made i) (statements_shape total) (mark_shape mark.End) (separated mark.Semicolon inner) (expect mark.End) (λ ss u. cycle i.at (statements_of ss)) statements_take (expect_takes total b mark.End) k q.placed (λ ss u j t.
      made_after total b _ mark.Cycle _ _ i k j _ _ placed q t refl (λ p h. ((p, h.0), λ e. absurd cc)) (λ d. omega arith))

  arm_takes : Takes total b (arm_shape total) (arm_with expression inner)
  unfolding arm_with labels
  arm_takes i placed =
      found_three total b (Taken total b (arm_shape total) i) (labels_shape total) (mark_shape mark.Colon) (statement_shape total) (separated mark.Comma constant) (expect mark.Colon) inner (λ cs u s. arm cs s) (labels_take total b) (expect_takes total b mark.Colon) below i placed (λ cs u s j t.
      made_of total b _ _ _ i j _ _ placed t refl (λ p h. (h.0, h.1.1.0)) (λ d. omega arith))

  case_found : (i k : Input) → At total i → Passed total mark.Case i k → Found total (Made i) (case_with expression inner i.at k)
  unfolding case_with
  case_found i k placed q =
      found_four total b (Made i) (expression_shape total) (mark_shape mark.Of) (ended_of (arms_shape total)) (mark_shape mark.End) expression (expect mark.Of) (ended_list (arm_with expression inner)) (expect mark.End) (λ e u all v. case_of i.at e (arms_of all.0) all.1)
      law (expect_takes total b mark.Of) (ended_takes total b (arm_shape total) (more_arms_shape total) (arms_shape total) (arms_built total) (arms_led total) (arm_with expression inner) arm_takes) (expect_takes total b mark.End) k q.placed (λ e u bs v j t.
      made_after total b _ mark.Case _ _ i k j _ _ placed q t refl (λ p h. ((p, h.0, h.1.1.0.0), λ e. absurd cc)) (λ d. omega arith))

  empty_found : (i : Input) → At total i → Made i (empty i.at) i
  empty_found i placed = (record { spelled = refl; indexed = (placed, λ e. absurd cc); shallow = omega arith }, placed)

  statement_by_found : (at : ℕ) (ks : List Kind) → Begins total at ks → let i : Input = record { at = at; rest = ks } in Found total (Made i) (statement_by expression inner at (first ks) i)
  unfolding advance
  statement_by_found at (kind.Name n ∷ ks) placed = named_found total b expression law (record { at = at; rest = kind.Name n ∷ ks }) placed
  statement_by_found at (kind.Mark mark.Begin ∷ ks) placed = block_found (record { at = at; rest = kind.Mark mark.Begin ∷ ks }) (record { at = at + 1; rest = ks }) placed (record { rest = refl; placed = omega arith })
  statement_by_found at (kind.Mark mark.If ∷ ks) placed = if_found (record { at = at; rest = kind.Mark mark.If ∷ ks }) (record { at = at + 1; rest = ks }) placed (record { rest = refl; placed = omega arith })
  statement_by_found at (kind.Mark mark.Case ∷ ks) placed = case_found (record { at = at; rest = kind.Mark mark.Case ∷ ks }) (record { at = at + 1; rest = ks }) placed (record { rest = refl; placed = omega arith })
  statement_by_found at (kind.Mark mark.While ∷ ks) placed = while_found (record { at = at; rest = kind.Mark mark.While ∷ ks }) (record { at = at + 1; rest = ks }) placed (record { rest = refl; placed = omega arith })
  statement_by_found at (kind.Mark mark.Repeat ∷ ks) placed = repeat_found (record { at = at; rest = kind.Mark mark.Repeat ∷ ks }) (record { at = at + 1; rest = ks }) placed (record { rest = refl; placed = omega arith })
  statement_by_found at (kind.Mark mark.For ∷ ks) placed = for_found (record { at = at; rest = kind.Mark mark.For ∷ ks }) (record { at = at + 1; rest = ks }) placed (record { rest = refl; placed = omega arith })
  statement_by_found at (kind.Mark mark.Cycle ∷ ks) placed = cycle_found (record { at = at; rest = kind.Mark mark.Cycle ∷ ks }) (record { at = at + 1; rest = ks }) placed (record { rest = refl; placed = omega arith })
  statement_by_found at (kind.Mark mark.Init ∷ ks) placed = init_found total b expression law (record { at = at; rest = kind.Mark mark.Init ∷ ks }) (record { at = at + 1; rest = ks }) placed (record { rest = refl; placed = omega arith })
  statement_by_found at ks placed = empty_found (record { at = at; rest = ks }) placed

  plain_takes : Takes total (suc b) (statement_shape total) (plain_with expression inner)
  unfolding plain_with next
  plain_takes i placed = statement_by_found i.at i.rest placed

  -- the assertions before a statement, and then it
  asserted_taken : (i k j : Input) (es : List Expression) (s : Statement) → Taken total b (all_of (annotation_shape total mark.Assert)) i es k → Made k s j → Made i (asserted_of Assertion es s) j
  asserted_taken i k j es s p q =
      let one = took_onto b (all_of (annotation_shape total mark.Assert)) i.rest es k.rest (put_statement s j.rest) p.0 q.0.spelled in
      let last = q.0 in (
        record {
          spelled = one.spelled ∙ sym (asserted_put Assertion es s j.rest);
          indexed = (asserted_indexed total es s j.rest one.indexed last.indexed.0, λ e. last.indexed.1 (sym (asserted_ends Assertion es s) ∙ e));
          shallow = asserted_shallow Assertion es s b one.shallow last.shallow;
        },
        q.1,
      )

  pub statement_with_takes : Takes total (suc b) (statement_shape total) (statement_with expression inner)
  unfolding statement_with
  statement_with_takes i placed =
      found_then total (Taken total b (all_of (annotation_shape total mark.Assert)) i) (Made i) (annotations_with expression mark.Assert i) (λ es. plain_with expression inner >>= (λ s. pure (asserted_of Assertion es s))) (annotations_take total b expression law mark.Assert i placed) (λ es k p.
      found_then total (Made k) (Made i) (plain_with expression inner k) (λ s. pure (asserted_of Assertion es s)) (plain_takes k p.1) (λ s j q. asserted_taken i k j es s p q))

pub statement_takes : (total b : ℕ) → Takes total b (statement_shape total) (statement b)
unfolding statement
statement_takes total zero i placed = takes_deep total zero (statement_shape total) i placed
statement_takes total (suc b) i placed = statement_with_takes total b (expression b) (statement b) (expression_takes total b) (statement_takes total b) i placed

pub statements_at_take : (total b : ℕ) → Takes total b (statements_shape total) (statements_at b)
unfolding statements_at
statements_at_take total b = statements_take total b (expression b) (statement b) (expression_takes total b) (statement_takes total b)
