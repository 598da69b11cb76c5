-- Reading statements. The number is how many more levels are allowed below.
use Rattle.std.specs.Prelude.{ℕ, zero, suc, if◌then◌else◌, List, Option, Some, None}
use Rattle.cp_text.specs.declared.token.Kind.{Kind}
use Rattle.cp_text.specs.declared.token.Kind.TheVariants as kind
use Rattle.cp_text.specs.declared.token.Mark.{Mark}
use Rattle.cp_text.specs.declared.token.Mark.TheVariants as mark
use Rattle.cp_tree.specs.declared.constant.Constant.{Constant}
use Rattle.cp_tree.specs.declared.statement.AssertionKind.TheVariants.{Assertion}
use Rattle.cp_tree.specs.declared.statement.Direction.{Direction}
use Rattle.cp_tree.specs.declared.statement.Direction.TheVariants as directions
use Rattle.cp_tree.specs.Input.{Parser, ◌>>=◌, ◌>>◌, pure, refuse, deep, place, peek, peek_mark, skip, eat, expect}
use Rattle.cp_tree.specs.Reading.{behind, separated, ended_list, identifier, constant}
use Rattle.cp_tree.specs.ReadingAnnotations.{annotations_with}
use Rattle.cp_tree.specs.ReadingExpressions.{expression, designator_with, arguments_with}
use Rattle.cp_tree.specs.Syntax.{Expression, Start, Statement, empty, assign, invoke, block, if_then, if_else, case_of, while_do, repeat_until, for_do, cycle, init, Arm, arm}
use Rattle.cp_tree.specs.View.{asserted_of, expressions_of, statements_of, arms_of}

abbrev pub if_of : ℕ → Expression → Statement → Option Statement → Statement
if_of at e s None = if_then at e s
if_of at e s (Some t) = if_else at e s t

abbrev pub direction_by : Option Mark → Parser Direction
direction_by (Some mark.To) = skip >> pure directions.To
direction_by (Some mark.Downto) = skip >> pure directions.Downto
direction_by _ = refuse

unfoldable pub direction : Parser Direction
direction = peek_mark >>= direction_by

unfoldable pub labels : Parser (List Constant)
labels = separated mark.Comma constant

module _ (expression : Parser Expression) where
  unfoldable pub start_with : Parser Start
  start_with = do
    d ← designator_with expression
    es ← arguments_with expression
    pure (record { target = d; arguments = expressions_of es })

  unfoldable pub init_with : ℕ → Parser Statement
  init_with at = do
    ss ← separated mark.Comma start_with
    pure (init at ss)

  unfoldable pub named_with : ℕ → Parser Statement
  named_with at = do
    d ← designator_with expression
    is_assigned ← eat mark.Becomes
    if is_assigned then (do e ← expression; pure (assign at d e)) else (do es ← arguments_with expression; pure (invoke at d (expressions_of es)))

module _ (expression : Parser Expression) (inner : Parser Statement) where
  unfoldable pub if_with : ℕ → Parser Statement
  if_with at = do
    e ← expression
    expect mark.Then
    s ← inner
    other ← behind mark.Else inner
    pure (if_of at e s other)

  unfoldable pub while_with : ℕ → Parser Statement
  while_with at = do
    e ← expression
    expect mark.Do
    s ← inner
    pure (while_do at e s)

  unfoldable pub for_with : ℕ → Parser Statement
  for_with at = do
    i ← identifier
    expect mark.Becomes
    e ← expression
    d ← direction
    f ← expression
    expect mark.Do
    s ← inner
    pure (for_do at i e d f s)

  unfoldable pub repeat_with : ℕ → Parser Statement
  repeat_with at = do
    ss ← separated mark.Semicolon inner
    expect mark.Until
    e ← expression
    pure (repeat_until at (statements_of ss) e)

  unfoldable pub block_with : ℕ → Parser Statement
  block_with at = do
    ss ← separated mark.Semicolon inner
    expect mark.End
    pure (block at (statements_of ss))

  unfoldable pub cycle_with : ℕ → Parser Statement
  cycle_with at = do
    ss ← separated mark.Semicolon inner
    expect mark.End
    pure (cycle at (statements_of ss))

  unfoldable pub arm_with : Parser Arm
  arm_with = do
    cs ← labels
    expect mark.Colon
    s ← inner
    pure (arm cs s)

  unfoldable pub case_with : ℕ → Parser Statement
  case_with at = do
    e ← expression
    expect mark.Of
    all ← ended_list arm_with
    expect mark.End
    pure (case_of at e (arms_of all.0) all.1)

  abbrev pub statement_by_mark : ℕ → Mark → Parser Statement
  statement_by_mark at mark.Begin = skip >> block_with at
  statement_by_mark at mark.If = skip >> if_with at
  statement_by_mark at mark.Case = skip >> case_with at
  statement_by_mark at mark.While = skip >> while_with at
  statement_by_mark at mark.Repeat = skip >> repeat_with at
  statement_by_mark at mark.For = skip >> for_with at
  statement_by_mark at mark.Cycle = skip >> cycle_with at
  statement_by_mark at mark.Init = skip >> init_with expression at
  statement_by_mark at _ = pure (empty at)

  abbrev pub statement_by : ℕ → Option Kind → Parser Statement
  statement_by at (Some (kind.Number n)) = pure (empty at)
  statement_by at (Some (kind.Character c)) = pure (empty at)
  statement_by at (Some (kind.Name n)) = named_with expression at
  statement_by at (Some (kind.Mark m)) = statement_by_mark at m
  statement_by at None = pure (empty at)

  -- without the assertions before it
  unfoldable pub plain_with : Parser Statement
  plain_with = do
    at ← place
    k ← peek
    statement_by at k

  unfoldable pub statement_with : Parser Statement
  statement_with = do
    es ← annotations_with expression mark.Assert
    s ← plain_with
    pure (asserted_of Assertion es s)

unfoldable pub statement : ℕ → Parser Statement
statement zero = deep
statement (suc b) = statement_with (expression b) (statement b)

-- the rules where the expressions and statements inside have at most b levels
unfoldable pub statement_at : ℕ → Parser Statement
statement_at b = statement_with (expression b) (statement b)

unfoldable pub plain_at : ℕ → Parser Statement
plain_at b = plain_with (expression b) (statement b)

-- the statement after a word, as `do`
unfoldable pub statement_after : Mark → ℕ → Parser Statement
statement_after m b = expect m >> statement b

unfoldable pub statements_at : ℕ → Parser (List Statement)
statements_at b = separated mark.Semicolon (statement b)

unfoldable pub start_at : ℕ → Parser Start
start_at b = start_with (expression b)

unfoldable pub init_at : ℕ → ℕ → Parser Statement
init_at b at = init_with (expression b) at

unfoldable pub named_at : ℕ → ℕ → Parser Statement
named_at b at = named_with (expression b) at

unfoldable pub if_at : ℕ → ℕ → Parser Statement
if_at b at = if_with (expression b) (statement b) at

unfoldable pub while_at : ℕ → ℕ → Parser Statement
while_at b at = while_with (expression b) (statement b) at

unfoldable pub for_at : ℕ → ℕ → Parser Statement
for_at b at = for_with (expression b) (statement b) at

unfoldable pub repeat_at : ℕ → ℕ → Parser Statement
repeat_at b at = repeat_with (expression b) (statement b) at

unfoldable pub block_at : ℕ → ℕ → Parser Statement
block_at b at = block_with (expression b) (statement b) at

unfoldable pub cycle_at : ℕ → ℕ → Parser Statement
cycle_at b at = cycle_with (expression b) (statement b) at

unfoldable pub arm_at : ℕ → Parser Arm
arm_at b = arm_with (expression b) (statement b)

unfoldable pub case_at : ℕ → ℕ → Parser Statement
case_at b at = case_with (expression b) (statement b) at
