-- Reading annotations. The number is how many more levels are allowed below.
use Rattle.std.specs.Prelude.{ℕ, if◌then◌else◌, List, Option, Some, None}
use Rattle.cp_text.specs.declared.token.Mark.{Mark}
use Rattle.cp_text.specs.declared.token.Mark.TheVariants as mark
use Rattle.cp_tree.specs.Input.{Parser, ◌>>=◌, ◌>>◌, pure, eat, expect}
use Rattle.cp_tree.specs.Reading.{many}
use Rattle.cp_tree.specs.ReadingExpressions.{expression}
use Rattle.cp_tree.specs.Syntax.{Expression}

module _ (expression : Parser Expression) where
  -- the expression of an annotation, where this opening comes next
  unfoldable pub annotation_with : Mark → Parser (Option Expression)
  annotation_with opening = do
    is_there ← eat opening
    if is_there then (do e ← expression; expect mark.Closes; pure (Some e)) else pure None

  unfoldable pub annotations_with : Mark → Parser (List Expression)
  annotations_with opening = many (annotation_with opening)

-- the rules where the expressions have at most b levels
unfoldable pub annotation_at : Mark → ℕ → Parser (Option Expression)
annotation_at opening b = annotation_with (expression b) opening

unfoldable pub annotations_at : Mark → ℕ → Parser (List Expression)
annotations_at opening b = many (annotation_at opening b)
