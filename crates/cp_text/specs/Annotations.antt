-- Annotations: comments that are read as tokens, as they are computed.
-- One is an opening, from the quote up to the end of its word; an inner text, which is cut into pieces by itself; and a closing.
use Rattle.std.specs.Prelude.{ℕ, ◌+◌, ◌-◌, ◌==◌, ◌&&◌, if◌then◌else◌, List, [], ◌∷◌, ◌++◌, codes, length, take, drop, slice_index, slice_range, Option, Some, None, Result, Ok, Err}
use Rattle.std.specs.List.{prefix_len}
use Rattle.std.specs.Str.{bytes_eq}
use Rattle.cp_text.specs.declared.annotation.Annotation.{Annotation}
use Rattle.cp_text.specs.declared.fault.ScanCause.{ScanCause}
use Rattle.cp_text.specs.declared.piece.Piece.{Piece}
use Rattle.cp_text.specs.declared.piece.Shape.{Shape}
use Rattle.cp_text.specs.declared.piece.Shape.TheVariants as shape
use Rattle.cp_text.specs.declared.token.Mark.{Mark}
use Rattle.cp_text.specs.declared.token.Mark.TheVariants as mark
use Rattle.cp_text.specs.Bytes.{is_separator, is_word_byte}
use Rattle.cp_text.specs.Pieces.{first_piece}

-- what a comment is made of that is an annotation
pub record Annotated : Type 0 where
  pub mark : Mark
  -- the opening, with its quote
  pub before : List ℕ
  pub text : List ℕ
  -- the closing, with its quote
  pub closing : List ℕ

-- ---- the opening, in the text between the quotes; 40 is `(`, and 42 is `*`

-- how many bytes stand before the word: separators, `(*` and separators
abbrev pub before_word : List ℕ → Option ℕ
before_word text =
    let blanks = prefix_len is_separator text in
    if slice_index text blanks == 40 && slice_index text (blanks + 1) == 42
    then Some (blanks + 2 + prefix_len is_separator (drop (blanks + 2) text)) else None

-- the opening that ends in this word
abbrev pub opening_mark : List ℕ → Option Mark
opening_mark word =
    if bytes_eq (codes "assert") word then Some mark.Assert
    else (if bytes_eq (codes "invariant") word then Some mark.Invariant else None)

-- ---- the inner text, in what stands behind the word; 41 is `)`

abbrev pub kept : ℕ → List ℕ → List ℕ
kept b [] = if is_separator b then [] else b ∷ []
kept b (c ∷ cs) = b ∷ c ∷ cs

-- without the separators at the end
abbrev pub without_separators : List ℕ → List ℕ
without_separators [] = []
without_separators (b ∷ bs) = kept b (without_separators bs)

-- what stands before the closing, which begins with `*)` where that comes last
abbrev pub inner : List ℕ → List ℕ
inner text =
    let said = without_separators text in
    if slice_index said (length said - 2) == 42 && slice_index said (length said - 1) == 41
    then take (length said - 2) said else text

-- ---- comments

abbrev pub annotated : List ℕ → ℕ → Option Mark → Option Annotated
annotated text opening None = None
annotated text opening (Some m) = Some (record { mark = m; before = 34 ∷ take opening text; text = inner (drop opening text); closing = drop (opening + length (inner (drop opening text))) text ++ 34 ∷ [] })

abbrev pub from_word : List ℕ → Option ℕ → Option Annotated
from_word text None = None
from_word text (Some n) = let len = prefix_len is_word_byte (drop n text) in annotated text (n + len) (opening_mark (take len (drop n text)))

-- the annotation that a comment is, by the text between its quotes
unfoldable pub annotation_in : List ℕ → Option Annotated
annotation_in text = from_word text (before_word text)

-- the annotation that a comment is
abbrev pub annotation_of : List ℕ → Option Annotated
annotation_of comment = annotation_in (slice_range comment 1 (length comment - 1))

abbrev pub annotation_by : Shape → List ℕ → Option Annotated
annotation_by shape.Comment piece = annotation_of piece
annotation_by _ piece = None

abbrev pub annotation_from : List ℕ → Result Piece ScanCause → Option Annotated
annotation_from text (Ok p) = annotation_by p.shape (take p.len text)
annotation_from text (Err e) = None

-- the annotation at the front of a text
abbrev pub annotation_at : List ℕ → Option Annotated
annotation_at text = annotation_from text (first_piece text)

-- the same by lengths
abbrev pub extents : Annotated → Annotation
extents a = record { mark = a.mark; opening = length a.before; inner = length a.text }
