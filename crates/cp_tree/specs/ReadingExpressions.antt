-- Reading expressions. The number is how many more levels are allowed below.
use Rattle.std.specs.Prelude.{ℕ, zero, suc, if◌then◌else◌, List, [], Option, Some, None}
use Rattle.cp_text.specs.declared.token.Kind.{Kind}
use Rattle.cp_text.specs.declared.token.Kind.TheVariants as kind
use Rattle.cp_text.specs.declared.token.Mark.{Mark}
use Rattle.cp_text.specs.declared.token.Mark.TheVariants as mark
use Rattle.cp_tree.specs.declared.expression.Relation.{Relation}
use Rattle.cp_tree.specs.declared.expression.Relation.TheVariants as relations
use Rattle.cp_tree.specs.declared.expression.Addition.{Addition}
use Rattle.cp_tree.specs.declared.expression.Addition.TheVariants as additions
use Rattle.cp_tree.specs.declared.expression.Multiplication.{Multiplication}
use Rattle.cp_tree.specs.declared.expression.Multiplication.TheVariants as multiplications
use Rattle.cp_tree.specs.Input.{Parser, ◌>>=◌, ◌>>◌, pure, refuse, deep, place, peek, peek_mark, skip, eat, expect}
use Rattle.cp_tree.specs.Reading.{many, taken, sign, identifier, separated}
use Rattle.cp_tree.specs.Syntax.{Expression, Sum, sum, Term, term, Factor, number, character, named, group, negated, set_of, Designator, designator, Selector, field, index}
use Rattle.cp_tree.specs.View.{expressions_of, selectors_of, factors_of, terms_of, expression_of}

-- ---- operators

abbrev pub relation_of : Option Mark → Option Relation
relation_of (Some mark.Equal) = Some relations.Equal
relation_of (Some mark.NotEqual) = Some relations.NotEqual
relation_of (Some mark.Less) = Some relations.Less
relation_of (Some mark.Greater) = Some relations.Greater
relation_of (Some mark.AtMost) = Some relations.AtMost
relation_of (Some mark.AtLeast) = Some relations.AtLeast
relation_of (Some mark.In) = Some relations.In
relation_of _ = None

abbrev pub addition_of : Option Mark → Option Addition
addition_of (Some mark.Plus) = Some additions.Plus
addition_of (Some mark.Minus) = Some additions.Minus
addition_of (Some mark.Or) = Some additions.Or
addition_of _ = None

abbrev pub multiplication_of : Option Mark → Option Multiplication
multiplication_of (Some mark.Times) = Some multiplications.Times
multiplication_of (Some mark.Div) = Some multiplications.Div
multiplication_of (Some mark.Mod) = Some multiplications.Mod
multiplication_of (Some mark.And) = Some multiplications.And
multiplication_of _ = None

-- the operator that comes next, if one does
unfoldable pub relation : Parser (Option Relation)
relation = peek_mark >>= (λ m. taken (relation_of m))

unfoldable pub addition : Parser (Option Addition)
addition = peek_mark >>= (λ m. taken (addition_of m))

unfoldable pub multiplication : Parser (Option Multiplication)
multiplication = peek_mark >>= (λ m. taken (multiplication_of m))

-- ---- from factors to expressions

module _ (factor : Parser Factor) where
  abbrev pub multiplied_factor : Option Multiplication → Parser (Option (Multiplication × Factor))
  multiplied_factor None = pure None
  multiplied_factor (Some m) = factor >>= (λ f. pure (Some (m, f)))

  unfoldable pub next_factor : Parser (Option (Multiplication × Factor))
  next_factor = multiplication >>= multiplied_factor

  unfoldable pub term_with : Parser Term
  term_with = do
    at ← place
    first ← factor
    more ← many next_factor
    pure (term at first (factors_of more))

  abbrev pub added_term : Option Addition → Parser (Option (Addition × Term))
  added_term None = pure None
  added_term (Some a) = term_with >>= (λ t. pure (Some (a, t)))

  unfoldable pub next_term : Parser (Option (Addition × Term))
  next_term = addition >>= added_term

  unfoldable pub sum_with : Parser Sum
  sum_with = do
    at ← place
    first_sign ← sign
    first ← term_with
    more ← many next_term
    pure (sum at first_sign first (terms_of more))

  abbrev pub right_side : Option Relation → Parser (Option (Relation × Sum))
  right_side None = pure None
  right_side (Some r) = sum_with >>= (λ s. pure (Some (r, s)))

  unfoldable pub expression_with : Parser Expression
  expression_with = do
    at ← place
    left ← sum_with
    r ← relation
    right ← right_side r
    pure (expression_of at left right)

-- ---- from expressions to factors

module _ (expression : Parser Expression) where
  unfoldable pub expressions_with : Parser (List Expression)
  expressions_with = separated mark.Comma expression

  -- the arguments after a name; none where no parenthesis opens
  unfoldable pub arguments_with : Parser (List Expression)
  arguments_with = do
    is_open ← eat mark.OpenParenthesis
    if is_open then (do es ← expressions_with; expect mark.CloseParenthesis; pure es) else pure []

  -- the elements of a set constructor, after its bracket
  unfoldable pub elements_with : Parser (List Expression)
  elements_with = do
    is_closed ← eat mark.CloseBracket
    if is_closed then pure [] else (do es ← expressions_with; expect mark.CloseBracket; pure es)

  abbrev pub selector_by : Option Mark → Parser (Option Selector)
  selector_by (Some mark.Period) = skip >> (do i ← identifier; pure (Some (field i)))
  selector_by (Some mark.OpenBracket) = skip >> (do e ← expression; expect mark.CloseBracket; pure (Some (index e)))
  selector_by _ = pure None

  unfoldable pub selector_with : Parser (Option Selector)
  selector_with = peek_mark >>= selector_by

  unfoldable pub designator_with : Parser Designator
  designator_with = do
    i ← identifier
    ss ← many selector_with
    pure (designator i (selectors_of ss))

module _ (expression : Parser Expression) (deeper : Parser Factor) where
  abbrev pub factor_by_mark : ℕ → Mark → Parser Factor
  factor_by_mark at mark.OpenParenthesis = skip >> (do e ← expression; expect mark.CloseParenthesis; pure (group at e))
  factor_by_mark at mark.OpenBracket = skip >> (do es ← elements_with expression; pure (set_of at (expressions_of es)))
  factor_by_mark at mark.Not = skip >> (do f ← deeper; pure (negated at f))
  factor_by_mark at _ = refuse

  abbrev pub factor_by : ℕ → Option Kind → Parser Factor
  factor_by at (Some (kind.Number n)) = skip >> pure (number at n)
  factor_by at (Some (kind.Character c)) = skip >> pure (character at c)
  factor_by at (Some (kind.Name n)) = do d ← designator_with expression; es ← arguments_with expression; pure (named at d (expressions_of es))
  factor_by at (Some (kind.Mark m)) = factor_by_mark at m
  factor_by at None = refuse

  unfoldable pub factor_with : Parser Factor
  factor_with = do
    at ← place
    k ← peek
    factor_by at k

-- ---- levels

unfoldable mutual
  pub expression : ℕ → Parser Expression
  expression zero = deep
  expression (suc b) = expression_with (factor_with (expression b) (deeper b))

  -- a factor after `not`
  pub deeper : ℕ → Parser Factor
  deeper zero = deep
  deeper (suc b) = factor_with (expression b) (deeper b)

-- the rules where the expressions inside have at most b levels
unfoldable pub factor_at : ℕ → Parser Factor
factor_at b = factor_with (expression b) (deeper b)

-- an expression between parentheses, after the first of them
unfoldable pub grouped_at : ℕ → Parser Expression
grouped_at b = do
  e ← expression b
  expect mark.CloseParenthesis
  pure e

unfoldable pub term_at : ℕ → Parser Term
term_at b = term_with (factor_at b)

unfoldable pub sum_at : ℕ → Parser Sum
sum_at b = sum_with (factor_at b)

unfoldable pub expressions_at : ℕ → Parser (List Expression)
expressions_at b = expressions_with (expression b)

unfoldable pub arguments_at : ℕ → Parser (List Expression)
arguments_at b = arguments_with (expression b)

unfoldable pub elements_at : ℕ → Parser (List Expression)
elements_at b = elements_with (expression b)

unfoldable pub designator_at : ℕ → Parser Designator
designator_at b = designator_with (expression b)
