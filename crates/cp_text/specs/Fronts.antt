-- What stands at the front of a text, outside an annotation or inside one, as it is computed.
use Rattle.std.specs.Prelude.{ℕ, zero, suc, ◌+◌, ◌-◌, ◌<◌, if◌then◌else◌, List, length, take, drop, Option, Some, None, Result, Ok, Err}
use Rattle.std.specs.List.{prefix_len}
use Rattle.cp_text.specs.declared.fault.ScanCause.{ScanCause}
use Rattle.cp_text.specs.declared.fault.ScanCause.TheVariants.{TooManyTokens}
use Rattle.cp_text.specs.declared.front.Front.{Front}
use Rattle.cp_text.specs.declared.token.Kind.{Kind}
use Rattle.cp_text.specs.declared.token.Kind.TheVariants as kinds
use Rattle.cp_text.specs.declared.token.Mark.{Mark}
use Rattle.cp_text.specs.declared.token.Mark.TheVariants as mark
use Rattle.cp_text.specs.Annotations.{Annotated, annotation_at}
use Rattle.cp_text.specs.Bytes.{is_in_comment}
use Rattle.cp_text.specs.Lexemes.{is_full, next}

-- an opening or a closing
abbrev pub one_token : ℕ → Mark → ℕ → Option ℕ → Result Front ScanCause
one_token count m len ahead = if is_full count then Err TooManyTokens else Ok (record { kind = Some (kinds.Mark m); len = len; left = ahead })

-- how many bytes are left to the closing behind a piece of this length
abbrev pub left_behind : Option ℕ → ℕ → Option ℕ
left_behind None len = None
left_behind (Some left) len = Some (left - len)

abbrev pub in_front : Option ℕ → Result (Option Kind × ℕ) ScanCause → Result Front ScanCause
in_front ahead (Ok p) = Ok (record { kind = p.0; len = p.1; left = left_behind ahead p.1 })
in_front ahead (Err e) = Err e

-- an opening, or a piece that stands in no annotation
abbrev pub outside_by : ℕ → List ℕ → Option Annotated → Result Front ScanCause
outside_by count text (Some a) = one_token count a.mark (length a.before) (Some (length a.text))
outside_by count text None = in_front None (next count text)

abbrev pub outside : ℕ → List ℕ → Result Front ScanCause
outside count text = outside_by count text (annotation_at text)

-- a piece before which these bytes stand up to the closing; it is cut as if the text ended there
abbrev pub inside : ℕ → ℕ → List ℕ → Result Front ScanCause
inside count left text = in_front (Some left) (next count (take left text))

-- a closing ends in the first quote
abbrev pub closing : ℕ → List ℕ → Result Front ScanCause
closing count text = one_token count mark.Closes (prefix_len is_in_comment text + 1) None

-- after `count` tokens, where these bytes stand before the closing of an annotation
abbrev pub front_piece : ℕ → Option ℕ → List ℕ → Result Front ScanCause
front_piece count None text = outside count text
front_piece count (Some zero) text = closing count text
front_piece count (Some (suc left)) text = inside count (suc left) text

-- a quote, in which a closing ends, stands behind these bytes of a text
abbrev pub ClosesWithin : Option ℕ → List ℕ → Type 0
ClosesWithin None text = Unit {0}
ClosesWithin (Some left) text = prefix_len is_in_comment (drop left text) < length (drop left text)
