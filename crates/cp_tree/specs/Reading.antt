-- Reading from left to right: items one after the other, names and constants.
use Rattle.std.specs.Prelude.{Bool, true, false, ℕ, zero, suc, if◌then◌else◌, List, [], ◌∷◌, ◌++◌, length, Option, Some, None}
use Rattle.cp_text.specs.declared.token.Kind.{Kind}
use Rattle.cp_text.specs.declared.token.Kind.TheVariants as kind
use Rattle.cp_text.specs.declared.token.Mark.{Mark}
use Rattle.cp_text.specs.declared.token.Mark.TheVariants as mark
use Rattle.cp_tree.specs.declared.constant.Identifier.{Identifier}
use Rattle.cp_tree.specs.declared.constant.Sign.{Sign}
use Rattle.cp_tree.specs.declared.constant.Sign.TheVariants as signs
use Rattle.cp_tree.specs.declared.constant.Constant.{Constant}
use Rattle.cp_tree.specs.declared.constant.ConstantKind.TheVariants as constant_kind
use Rattle.cp_tree.specs.Input.{Parser, ◌>>=◌, ◌>>◌, pure, refuse, place, peek, peek_mark, skip, seen, seen_name, eat}

-- Items one after the other, up to the first None. The number bounds the turns.
abbrev pub many_on : {A : Type 0} → List A → (List A → Parser (List A)) → Option A → Parser (List A)
many_on found go None = pure found
many_on found go (Some x) = go (found ++ x ∷ [])

unfoldable pub many_from : {A : Type 0} → Parser (Option A) → ℕ → List A → Parser (List A)
many_from item zero found = pure found
many_from item (suc n) found = item >>= many_on found (many_from item n)

-- Each item takes a token, so the count of tokens is enough.
unfoldable pub many_after : {A : Type 0} → List A → Parser (Option A) → Parser (List A)
many_after found item = λ i. many_from item (length i.rest) found i

abbrev pub many : {A : Type 0} → Parser (Option A) → Parser (List A)
many item = many_after [] item

abbrev pub some : {A : Type 0} → Parser A → Parser (Option A)
some p = p >>= (λ x. pure (Some x))

-- an item after this mark
abbrev pub behind : {A : Type 0} → Mark → Parser A → Parser (Option A)
behind m p = do
  found ← eat m
  if found then some p else pure None

-- one item, and further ones after this mark
unfoldable pub separated : {A : Type 0} → Mark → Parser A → Parser (List A)
separated m item = do
  first ← item
  many_after (first ∷ []) (behind m item)

-- Items after semicolons, and whether a semicolon ends them: the `end` that follows tells.
unfoldable pub ended_from : {A : Type 0} → Parser A → ℕ → List A → Parser (List A × Bool)
ended_from item zero found = pure (found, false)
ended_from item (suc n) found = do
  goes_on ← eat mark.Semicolon
  if goes_on then (do is_last ← seen mark.End; if is_last then pure (found, true) else (do x ← item; ended_from item n (found ++ x ∷ []))) else pure (found, false)

unfoldable pub ended_after : {A : Type 0} → List A → Parser A → Parser (List A × Bool)
ended_after found item = λ i. ended_from item (length i.rest) found i

unfoldable pub ended_list : {A : Type 0} → Parser A → Parser (List A × Bool)
ended_list item = do
  first ← item
  ended_after (first ∷ []) item

abbrev pub taken : {A : Type 0} → Option A → Parser (Option A)
taken None = pure None
taken (Some x) = skip >> pure (Some x)

-- ---- names

abbrev pub identifier_by : ℕ → Option Kind → Parser Identifier
identifier_by at (Some (kind.Name n)) = skip >> pure (record { at = at; name = n })
identifier_by at (Some (kind.Number n)) = refuse
identifier_by at (Some (kind.Character c)) = refuse
identifier_by at (Some (kind.Mark m)) = refuse
identifier_by at None = refuse

unfoldable pub identifier : Parser Identifier
identifier = do
  at ← place
  k ← peek
  identifier_by at k

unfoldable pub identifiers : Parser (List Identifier)
identifiers = separated mark.Comma identifier

-- an item that begins with a name, where a name comes next
abbrev pub where_named : {A : Type 0} → Parser A → Parser (Option A)
where_named item = do
  found ← seen_name
  if found then some item else pure None

-- ---- constants

abbrev pub sign_of : Option Mark → Option Sign
sign_of (Some mark.Plus) = Some signs.Plus
sign_of (Some mark.Minus) = Some signs.Minus
sign_of _ = None

-- the sign that comes next, if one does
unfoldable pub sign : Parser (Option Sign)
sign = peek_mark >>= (λ m. taken (sign_of m))

abbrev pub character_by : ℕ → ℕ → Option Sign → Parser Constant
character_by at c None = skip >> pure (record { at = at; kind = constant_kind.Character c })
character_by at c (Some s) = refuse

abbrev pub constant_by : ℕ → Option Sign → Option Kind → Parser Constant
constant_by at s (Some (kind.Number n)) = skip >> pure (record { at = at; kind = constant_kind.Number s n })
constant_by at s (Some (kind.Name n)) = identifier >>= (λ i. pure (record { at = at; kind = constant_kind.Name s i }))
constant_by at s (Some (kind.Character c)) = character_by at c s
constant_by at s (Some (kind.Mark m)) = refuse
constant_by at s None = refuse

unfoldable pub constant : Parser Constant
constant = do
  at ← place
  s ← sign
  k ← peek
  constant_by at s k
