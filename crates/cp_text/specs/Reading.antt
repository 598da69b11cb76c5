-- The reading of a text: its tokens, or its first fault.
-- A text is cut into pieces from the left. Each piece has the shape of a separator, a comment or a lexeme, and no longer piece could stand in its place.
-- The tokens are the lexemes in order. A comment that is an annotation stands for an opening, the tokens of its inner text, which is cut by itself,
-- and a closing. The fault belongs to the first place where no piece stands, or where the one that stands breaks a rule or begins
-- a 20,001st token. A text is a list of bytes; 34 is the byte `"`, and 39 is `'`.
use Rattle.std.specs.Prelude.{◌≡◌, ◌≢◌, ℕ, suc, ◌+◌, ◌<◌, ◌≤◌, Bool, true, false, List, [], ◌∷◌, ◌++◌, length, codes, Contains, Some, None, Ok, Err, ⊤}
use Rattle.std.specs.List.{AllPass}
use Rattle.cp_text.specs.declared.fault.ScanCause.{ScanCause}
use Rattle.cp_text.specs.declared.fault.ScanCause.TheVariants.{TooLong, BadByte, OpenComment, OpenChar, BadChar, NumberTooLarge, NameTooLong, TooManyTokens}
use Rattle.cp_text.specs.declared.fault.ScanFault.{ScanFault}
use Rattle.cp_text.specs.declared.piece.Shape.{Shape}
use Rattle.cp_text.specs.declared.piece.Shape.TheVariants as shape
use Rattle.cp_text.specs.declared.token.Kind.{Kind}
use Rattle.cp_text.specs.declared.token.Kind.TheVariants as kind
use Rattle.cp_text.specs.declared.token.Mark.{Mark}
use Rattle.cp_text.specs.declared.token.Mark.TheVariants as mark
use Rattle.cp_text.specs.declared.token.Spot.{Spot}
use Rattle.cp_text.specs.declared.token.Token.{Token}
use Rattle.cp_text.specs.Annotations.{Annotated, annotation_by, annotation_of}
use Rattle.cp_text.specs.Bytes.{is_separator, is_digit, is_letter, is_word_byte, is_in_comment, is_in_character, is_printable}
use Rattle.cp_text.specs.Faults.{fault_at, Outcome}
use Rattle.cp_text.specs.Spots.{after, beginning, nowhere, token_of}
use Rattle.cp_text.specs.Values.{number_of, word_kind, is_lexeme}

-- ---- shapes

abbrev pub signs : List (List ℕ × Mark)
signs =
    (codes "+", mark.Plus)
    ∷ (codes "-", mark.Minus)
    ∷ (codes "*", mark.Times)
    ∷ (codes "=", mark.Equal)
    ∷ (codes "<>", mark.NotEqual)
    ∷ (codes "<", mark.Less)
    ∷ (codes ">", mark.Greater)
    ∷ (codes "<=", mark.AtMost)
    ∷ (codes ">=", mark.AtLeast)
    ∷ (codes ":=", mark.Becomes)
    ∷ (codes "(", mark.OpenParenthesis)
    ∷ (codes ")", mark.CloseParenthesis)
    ∷ (codes "[", mark.OpenBracket)
    ∷ (codes "(.", mark.OpenBracket)
    ∷ (codes "]", mark.CloseBracket)
    ∷ (codes ".)", mark.CloseBracket)
    ∷ (codes ",", mark.Comma)
    ∷ (codes ";", mark.Semicolon)
    ∷ (codes ":", mark.Colon)
    ∷ (codes ".", mark.Period)
    ∷ (codes "..", mark.DoublePeriod)
    ∷ (codes "&", mark.And)
    ∷ []

-- one separator
pub record IsSeparator (piece : List ℕ) : Type 0 where
  pub byte : ℕ
  pub is : piece ≡ byte ∷ []
  pub separates : is_separator byte ≡ true

-- a text of such bytes between two quotes
pub record IsQuoted (quote : ℕ) (passes : ℕ → Bool) (piece : List ℕ) : Type 0 where
  pub text : List ℕ
  pub is : piece ≡ quote ∷ (text ++ quote ∷ [])
  pub inside : AllPass passes text

-- a letter, and then letters, digits and `_`
pub record IsWord (piece : List ℕ) : Type 0 where
  pub first : ℕ
  pub more : List ℕ
  pub is : piece ≡ first ∷ more
  pub letter : is_letter first ≡ true
  pub word : AllPass is_word_byte more

-- a piece has this shape, whatever its value, its length or the text between its quotes; a reserved word has the shape of a name
abbrev pub Has : Shape → List ℕ → Type 0
Has shape.Separator piece = IsSeparator piece
Has shape.Comment piece = IsQuoted 34 is_in_comment piece
Has shape.Number piece = (0 < length piece) × AllPass is_digit piece
Has shape.Name piece = IsWord piece
Has shape.Character piece = IsQuoted 39 is_in_character piece
Has (shape.Sign m) piece = Contains signs (piece, m)

-- ---- pieces

-- The piece stands at the front of itself and the rest: no longer piece could stand there.
pub record Stands (s : Shape) (piece rest : List ℕ) : Type 0 where
  pub shaped : Has s piece
  pub longest : (other : Shape) (longer more : List ℕ) → Has other longer → longer ++ more ≡ piece ++ rest → length longer ≤ length piece

-- no piece stands at the front of the text
abbrev pub NoneStands : List ℕ → Type 0
NoneStands text = (s : Shape) (piece rest : List ℕ) → Has s piece → piece ++ rest ≢ text

-- a piece of a text
pub record Part : Type 0 where
  pub shape : Shape
  pub text : List ℕ

-- the bytes of the parts before a rest
abbrev pub joined : List Part → List ℕ → List ℕ
joined [] rest = rest
joined (p ∷ ps) rest = p.text ++ joined ps rest

-- the parts are the pieces that a text is cut into, from the left up to the rest
abbrev pub AreCut : List Part → List ℕ → Type 0
AreCut [] rest = ⊤
AreCut (p ∷ ps) rest = Stands p.shape p.text (joined ps rest) × AreCut ps rest

-- ---- tokens

-- the text between a character's quotes stands for the character of this code
pub data IsCode (text : List ℕ) (code : ℕ) : Type 0 where
  printable : text ≡ code ∷ [] → is_printable code ≡ true → IsCode text code
  numbered : (digits : List ℕ) → text ≡ codes "(:" ++ digits ++ codes ":)" → 0 < length digits → AllPass is_digit digits
      → number_of digits ≡ code → code ≤ 127 → IsCode text code

-- a piece in quotes is a character
pub record IsCharacter (piece : List ℕ) (k : Kind) : Type 0 where
  pub text : List ℕ
  pub is : piece ≡ 39 ∷ (text ++ 39 ∷ [])
  pub code : ℕ
  pub stands_for : IsCode text code
  pub kind : k ≡ kind.Character code

-- a piece in quotes is no character
pub record IsNoCharacter (piece : List ℕ) : Type 0 where
  pub text : List ℕ
  pub is : piece ≡ 39 ∷ (text ++ 39 ∷ [])
  pub none : (code : ℕ) → IsCode text code → ⊥

-- a piece of this shape is a lexeme of this kind
abbrev pub IsLexeme : Shape → List ℕ → Kind → Type 0
IsLexeme shape.Separator piece k = ⊥
IsLexeme shape.Comment piece k = ⊥
IsLexeme shape.Number piece k = (number_of piece ≤ 32767) × (k ≡ kind.Number (number_of piece))
IsLexeme shape.Name piece k = (length piece ≤ 40) × (k ≡ word_kind piece)
IsLexeme shape.Character piece k = IsCharacter piece k
IsLexeme (shape.Sign m) piece k = k ≡ kind.Mark m

-- a piece of this shape breaks the rule on its value, its length or its text
abbrev pub Breaks : Shape → List ℕ → ScanCause → Type 0
Breaks shape.Number piece cause = (32767 < number_of piece) × (cause ≡ NumberTooLarge)
Breaks shape.Name piece cause = (40 < length piece) × (cause ≡ NameTooLong)
Breaks shape.Character piece cause = IsNoCharacter piece × (cause ≡ BadChar)
Breaks _ piece cause = ⊥

-- These are the lexemes of the parts, the first of which begins at this spot: each stands where its part does.
pub data AreLexemes : Spot → List Part → List Token → Type 0 where
  no_lexeme : {spot : Spot} → AreLexemes spot [] []
  between : {spot : Spot} {p : Part} {ps : List Part} {ts : List Token} → is_lexeme p.shape ≡ false
      → AreLexemes (after spot p.text) ps ts → AreLexemes spot (p ∷ ps) ts
  one_lexeme : {spot : Spot} {p : Part} {t : Token} {ps : List Part} {ts : List Token} → IsLexeme p.shape p.text t.kind → t ≡ token_of spot p.text t.kind
      → AreLexemes (after spot p.text) ps ts → AreLexemes spot (p ∷ ps) (t ∷ ts)

-- an opening or a closing
abbrev pub token_at : Spot → List ℕ → Mark → Token
token_at spot piece m = token_of spot piece (kind.Mark m)

-- where the closing of the annotation at a spot begins
abbrev pub closing_spot : Spot → Annotated → Spot
closing_spot spot a = after (after spot a.before) a.text

-- These are the tokens of the parts, the first of which begins at this spot: the lexemes, and those of annotations. The inner text of one has no quote,
-- and so no comment.
pub data AreTokens : Spot → List Part → List Token → Type 0 where
  no_more : {spot : Spot} → AreTokens spot [] []
  blank : {spot : Spot} {p : Part} {ps : List Part} {ts : List Token} → is_lexeme p.shape ≡ false → annotation_by p.shape p.text ≡ None
      → AreTokens (after spot p.text) ps ts → AreTokens spot (p ∷ ps) ts
  lexeme : {spot : Spot} {p : Part} {t : Token} {ps : List Part} {ts : List Token} → IsLexeme p.shape p.text t.kind → t ≡ token_of spot p.text t.kind
      → AreTokens (after spot p.text) ps ts → AreTokens spot (p ∷ ps) (t ∷ ts)
  annotated : {spot : Spot} {p : Part} {ps : List Part} (a : Annotated) (qs : List Part) (us ts : List Token)
      → annotation_by p.shape p.text ≡ Some a → a.text ≡ joined qs [] → AreCut qs [] → AreLexemes (after spot a.before) qs us
      → AreTokens (after spot p.text) ps ts
      → AreTokens spot (p ∷ ps) (token_at spot a.before a.mark ∷ us ++ token_at (closing_spot spot a) a.closing mark.Closes ∷ ts)

-- ---- faults

-- The fault of a piece at the front of a text before which `count` tokens stand. A bad byte and a comment begin no token; a `'` without a closing one does.
pub data FaultIn (count : ℕ) (text : List ℕ) (cause : ScanCause) : Type 0 where
  -- where no piece stands
  bad_byte : (b : ℕ) (more : List ℕ) → text ≡ b ∷ more → NoneStands text → b ≢ 34 → b ≢ 39 → cause ≡ BadByte → FaultIn count text cause
  open_comment : (more : List ℕ) → text ≡ 34 ∷ more → NoneStands text → cause ≡ OpenComment → FaultIn count text cause
  open_char : (more : List ℕ) → text ≡ 39 ∷ more → NoneStands text → count < 20000 → cause ≡ OpenChar → FaultIn count text cause
  open_too_many : (more : List ℕ) → text ≡ 39 ∷ more → NoneStands text → 20000 ≤ count → cause ≡ TooManyTokens → FaultIn count text cause
  -- where a piece stands
  breaks : (s : Shape) (piece rest : List ℕ) → text ≡ piece ++ rest → Stands s piece rest → count < 20000
      → Breaks s piece cause → FaultIn count text cause
  too_many : (s : Shape) (piece rest : List ℕ) → text ≡ piece ++ rest → Stands s piece rest → 20000 ≤ count
      → is_lexeme s ≡ true → cause ≡ TooManyTokens → FaultIn count text cause

-- an annotation stands at the front of the text
pub record AnnotationAt (text : List ℕ) (a : Annotated) : Type 0 where
  pub piece : List ℕ
  pub rest : List ℕ
  pub whole : text ≡ piece ++ rest
  pub stands : Stands shape.Comment piece rest
  pub is : annotation_of piece ≡ Some a

-- The fault at the front of a text that begins at this spot, or in the annotation there, and the spot of the fault.
pub data FaultAt (spot : Spot) (count : ℕ) (text : List ℕ) (cause : ScanCause) (at : Spot) : Type 0 where
  plain : FaultIn count text cause → at ≡ spot → FaultAt spot count text cause at
  opening_too_many : (a : Annotated) → AnnotationAt text a → 20000 ≤ count → cause ≡ TooManyTokens → at ≡ spot → FaultAt spot count text cause at
  inside : (a : Annotated) (qs : List Part) (us : List Token) (left : List ℕ) → AnnotationAt text a → a.text ≡ joined qs left → AreCut qs left
      → AreLexemes (after spot a.before) qs us → suc (count + length us) ≤ 20000 → FaultIn (suc (count + length us)) left cause
      → at ≡ after (after spot a.before) (joined qs []) → FaultAt spot count text cause at
  closing_too_many : (a : Annotated) (qs : List Part) (us : List Token) → AnnotationAt text a → a.text ≡ joined qs [] → AreCut qs []
      → AreLexemes (after spot a.before) qs us → suc (count + length us) ≡ 20000 → cause ≡ TooManyTokens
      → at ≡ closing_spot spot a → FaultAt spot count text cause at

-- ---- texts

-- the text is cut into the parts up to the rest, and these are their tokens, of which there are not too many
pub record ReadsUpTo (text : List ℕ) (parts : List Part) (ts : List Token) (rest : List ℕ) : Type 0 where
  pub whole : text ≡ joined parts rest
  pub cut : AreCut parts rest
  pub tokens : AreTokens beginning parts ts
  pub few : length ts ≤ 20000

-- the text has these tokens
pub record HasTokens (text : List ℕ) (ts : List Token) : Type 0 where
  pub short : length text ≤ 65535
  pub parts : List Part
  pub reads : ReadsUpTo text parts ts []

-- these are the tokens of a text
pub record AreOfText (ts : List Token) : Type 0 where
  pub text : List ℕ
  pub reads : HasTokens text ts

-- the text has this fault
pub data HasFault (text : List ℕ) (f : ScanFault) : Type 0 where
  too_long : 65535 < length text → f ≡ fault_at nowhere TooLong → HasFault text f
  faulty : (parts : List Part) (ts : List Token) (rest : List ℕ) (cause : ScanCause) (at : Spot) → length text ≤ 65535
      → ReadsUpTo text parts ts rest → FaultAt (after beginning (joined parts [])) (length ts) rest cause at → f ≡ fault_at at cause → HasFault text f

-- the text reads to this
abbrev pub Reading : List ℕ → Outcome → Type 0
Reading text (Ok ts) = HasTokens text ts
Reading text (Err f) = HasFault text f
