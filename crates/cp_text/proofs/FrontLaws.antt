-- What stands at the front of a text, by its definition and as it is computed: openings, closings, and pieces outside and inside an annotation.
use Rattle.std.proofs.Common.{◌≡◌, ℕ, zero, suc, ◌<◌, ◌≤◌, ◌+◌, ◌-◌, true, false, List, [], ◌∷◌, ◌++◌, length, take, drop, arith, cond, refl, sym, ap, ◌∙◌, subst, Option, Some, None, Result, Ok, Err, append_assoc}
use Rattle.std.specs.Prelude.{IfOk}
use Rattle.std.specs.List.{prefix_len}
use Rattle.std.proofs.lemmas.List.{take-append-drop, length-append, length-take, length-drop, drop-drop}
use Rattle.std.proofs.Math.Seq.{take-append_seam, drop-append_seam}
use Rattle.cp_text.specs.declared.fault.ScanCause.{ScanCause}
use Rattle.cp_text.specs.declared.fault.ScanCause.TheVariants.{TooManyTokens}
use Rattle.cp_text.specs.declared.front.Front.{Front}
use Rattle.cp_text.specs.declared.piece.Piece.{Piece}
use Rattle.cp_text.specs.declared.piece.Shape.{Shape}
use Rattle.cp_text.specs.declared.piece.Shape.TheVariants as shape
use Rattle.cp_text.specs.declared.token.Kind.{Kind}
use Rattle.cp_text.specs.declared.token.Kind.TheVariants as kinds
use Rattle.cp_text.specs.declared.token.Mark.{Mark}
use Rattle.cp_text.specs.declared.token.Mark.TheVariants as mark
use Rattle.cp_text.specs.Annotations.{Annotated, annotation_by, annotation_from, annotation_at}
use Rattle.cp_text.specs.Bytes.{is_in_comment}
use Rattle.cp_text.specs.Fronts.{one_token, in_front, outside_by, outside, inside, closing, front_piece, ClosesWithin}
use Rattle.cp_text.specs.Lexemes.{Reads, is_full, next}
use Rattle.cp_text.specs.Pieces.{first_piece}
use Rattle.cp_text.specs.Reading.{Has, IsQuoted, Stands, IsLexeme, AnnotationAt}
use Rattle.cp_text.specs.Values.{is_lexeme}
use Rattle.cp_text.proofs.AnnotationLaws.{IsMadeOf, made_from, run_is}
use Rattle.cp_text.proofs.LexemeLaws.{below_eq, above_eq}
use Rattle.cp_text.proofs.NextLaws.{next_stands, next_blank, NextTells, next_tells}
use Rattle.cp_text.proofs.StandsLaws.{stands_found, stands_is}

-- ---- which annotation stands at the front

pub annotation_front : (s : Shape) (piece rest : List ℕ) → Stands s piece rest → annotation_at (piece ++ rest) ≡ annotation_by s piece
annotation_front s piece rest h = rw (stands_is s piece rest h, take-append_seam piece rest) refl

lexeme_plain : (s : Shape) (piece : List ℕ) (k : Kind) → IsLexeme s piece k → annotation_by s piece ≡ None
lexeme_plain shape.Separator piece k h = refl
lexeme_plain shape.Comment piece k h = absurd h
lexeme_plain shape.Number piece k h = refl
lexeme_plain shape.Name piece k h = refl
lexeme_plain shape.Character piece k h = refl
lexeme_plain (shape.Sign m) piece k h = refl

pub made_by : (s : Shape) (piece rest : List ℕ) (a : Annotated) → Stands s piece rest → annotation_by s piece ≡ Some a → IsMadeOf piece a
made_by shape.Separator piece rest a h is = cc
made_by shape.Comment piece rest a h is = made_from piece a h.shaped is
made_by shape.Number piece rest a h is = cc
made_by shape.Name piece rest a h is = cc
made_by shape.Character piece rest a h is = cc
made_by (shape.Sign m) piece rest a h is = cc

at_by : (s : Shape) (piece rest text : List ℕ) (a : Annotated) → text ≡ piece ++ rest → Stands s piece rest → annotation_by s piece ≡ Some a → AnnotationAt text a
at_by shape.Separator piece rest text a whole h is = cc
at_by shape.Comment piece rest text a whole h is = record { piece = piece; rest = rest; whole = whole; stands = h; is = is }
at_by shape.Number piece rest text a whole h is = cc
at_by shape.Name piece rest text a whole h is = cc
at_by shape.Character piece rest text a whole h is = cc
at_by (shape.Sign m) piece rest text a whole h is = cc

at_from : (b : ℕ) (z : List ℕ) (a : Annotated) (r : Result Piece ScanCause) → first_piece (b ∷ z) ≡ r → annotation_from (b ∷ z) r ≡ Some a → AnnotationAt (b ∷ z) a
at_from b z a (Ok p) e is = at_by p.shape (take p.len (b ∷ z)) (drop p.len (b ∷ z)) (b ∷ z) a (sym (take-append-drop p.len (b ∷ z))) (stands_found b z p e) is
at_from b z a (Err c) e is = cc

pub annotation_stands : (b : ℕ) (z : List ℕ) (a : Annotated) → annotation_at (b ∷ z) ≡ Some a → AnnotationAt (b ∷ z) a
annotation_stands b z a is = at_from b z a (first_piece (b ∷ z)) refl is

-- ---- outside an annotation

pub front_blank : (count : ℕ) (s : Shape) (piece rest : List ℕ) → Stands s piece rest → is_lexeme s ≡ false → annotation_by s piece ≡ None
    → front_piece count None (piece ++ rest) ≡ Ok (record { kind = None; len = length piece; left = None })
front_blank count s piece rest h blank none = rw (annotation_front s piece rest h, none, next_blank count s piece rest h blank) refl

pub front_lexeme : (count : ℕ) (s : Shape) (piece rest : List ℕ) (k : Kind) → Stands s piece rest → IsLexeme s piece k → count < 20000
    → front_piece count None (piece ++ rest) ≡ Ok (record { kind = Some k; len = length piece; left = None })
front_lexeme count s piece rest k h is below = rw (annotation_front s piece rest h, lexeme_plain s piece k is, next_stands count s piece rest k h is below) refl

pub front_opening : (count : ℕ) (s : Shape) (piece rest : List ℕ) (a : Annotated) → Stands s piece rest → annotation_by s piece ≡ Some a → count < 20000
    → front_piece count None (piece ++ rest) ≡ Ok (record { kind = Some (kinds.Mark a.mark); len = length a.before; left = Some (length a.text) })
front_opening count s piece rest a h is below = rw (annotation_front s piece rest h, is, above_eq 20000 count below) refl

pub front_full : (count : ℕ) (s : Shape) (piece rest : List ℕ) (a : Annotated) → Stands s piece rest → annotation_by s piece ≡ Some a → 20000 ≤ count
    → front_piece count None (piece ++ rest) ≡ Err TooManyTokens
front_full count s piece rest a h is full = rw (annotation_front s piece rest h, is, below_eq 20000 count full) refl

-- ---- inside an annotation

inside_is : (count n : ℕ) (text : List ℕ) → 0 < n → front_piece count (Some n) text ≡ inside count n text
inside_is count zero text some = absurd (omega arith)
inside_is count (suc n) text some = refl

pub front_inside : (count : ℕ) (said more : List ℕ) → 0 < length said → front_piece count (Some (length said)) (said ++ more) ≡ in_front (Some (length said)) (next count said)
front_inside count said more some = inside_is count (length said) (said ++ more) some ∙ rw (take-append_seam said more) refl

closing_len : (piece rest : List ℕ) (a : Annotated) → IsMadeOf piece a → prefix_len is_in_comment (a.closing ++ rest) + 1 ≡ length a.closing
closing_len piece rest a made =
    let long : length (made.last ++ 34 ∷ []) ≡ length made.last + 1 = omega (arith, length-append made.last (34 ∷ [])) in
    rw (made.closes, append_assoc made.last (34 ∷ []) rest, run_is is_in_comment made.last 34 rest made.inside refl, long) refl

pub front_closing : (count : ℕ) (piece rest : List ℕ) (a : Annotated) → IsMadeOf piece a → count < 20000
    → front_piece count (Some 0) (a.closing ++ rest) ≡ Ok (record { kind = Some (kinds.Mark mark.Closes); len = length a.closing; left = None })
front_closing count piece rest a made below = rw (above_eq 20000 count below, closing_len piece rest a made) refl

pub front_closing_full : (count : ℕ) (text : List ℕ) → 20000 ≤ count → front_piece count (Some 0) text ≡ Err TooManyTokens
front_closing_full count text full = rw (below_eq 20000 count full) refl

-- ---- what is found at the front fits into the text

-- It is something, ends within the text, and has a closing behind it.
pub record FitsIn (text : List ℕ) (f : Front) : Type 0 where
  pub some : 1 ≤ f.len
  pub within : f.len ≤ length text
  pub closes : ClosesWithin f.left (drop f.len text)

token_is : (count : ℕ) (m : Mark) (len : ℕ) (ahead : Option ℕ) (f : Front) → one_token count m len ahead ≡ Ok f → let g : Front = record { kind = Some (kinds.Mark m); len = len; left = ahead } in g ≡ f
token_is count m len ahead f h =
    let g : Front = record { kind = Some (kinds.Mark m); len = len; left = ahead } in
    elim (is_full count) as (λ c. cond c (Err TooManyTokens) (Ok g) ≡ Ok f → g ≡ f) [
      | true ↦ λ e. absurd cc
      | false ↦ λ e. cc
    ] h

-- the text of an annotation, and what stands behind it
whole_is : (piece rest text : List ℕ) (a : Annotated) → (made : IsMadeOf piece a) → text ≡ piece ++ rest → text ≡ a.before ++ (a.text ++ (made.last ++ 34 ∷ rest))
whole_is piece rest text a made whole =
    whole ∙ ap (λ xs. xs ++ rest) made.whole ∙ append_assoc a.before (a.text ++ a.closing) rest ∙ ap (λ xs. a.before ++ xs) (append_assoc a.text a.closing rest)
    ∙ ap (λ xs. a.before ++ (a.text ++ (xs ++ rest))) made.closes ∙ ap (λ xs. a.before ++ (a.text ++ xs)) (append_assoc made.last (34 ∷ []) rest)

opening_fits : (text : List ℕ) (a : Annotated) (k : Option Kind) → AnnotationAt text a → FitsIn text (record { kind = k; len = length a.before; left = Some (length a.text) })
opening_fits text a k there =
    let made = made_from there.piece a there.stands.shaped there.is in
    let behind = made.last ++ 34 ∷ there.rest in
    let whole = whole_is there.piece there.rest text a made there.whole in
    let long = ap length whole in
    let left : drop (length a.text) (drop (length a.before) text) ≡ behind =
    ap (λ xs. drop (length a.text) (drop (length a.before) xs)) whole ∙ ap (drop (length a.text)) (drop-append_seam a.before (a.text ++ behind)) ∙ drop-append_seam a.text behind in
    let run = run_is is_in_comment made.last 34 there.rest made.inside refl in
    record {
      some = made.some;
      within = omega (arith, long, length-append a.before (a.text ++ behind));
      closes = subst (λ xs. prefix_len is_in_comment xs < length xs) (sym left) (omega (arith, run, length-append made.last (34 ∷ there.rest)));
    }

plain_fits : (count : ℕ) (text : List ℕ) (r : Result (Option Kind × ℕ) ScanCause) → NextTells count text r → (f : Front) → in_front None r ≡ Ok f → FitsIn text f
plain_fits count text (Err e) told f h = absurd cc
plain_fits count text (Ok p) told f h =
    let g : Front = record { kind = p.0; len = p.1; left = None } in
    let same : g ≡ f = cc in
    subst (FitsIn text) same (record { some = told.some; within = told.within; closes = tt })

outside_by_fits : (count b : ℕ) (z : List ℕ) (o : Option Annotated) → annotation_at (b ∷ z) ≡ o → (f : Front) → outside_by count (b ∷ z) o ≡ Ok f → FitsIn (b ∷ z) f
outside_by_fits count b z None is f h = plain_fits count (b ∷ z) (next count (b ∷ z)) (next_tells count b z) f h
outside_by_fits count b z (Some a) is f h =
    subst (FitsIn (b ∷ z)) (token_is count a.mark (length a.before) (Some (length a.text)) f h) (opening_fits (b ∷ z) a (Some (kinds.Mark a.mark)) (annotation_stands b z a is))

pub outside_fits : (count : ℕ) (text : List ℕ) → 0 < length text → (f : Front) → outside count text ≡ Ok f → FitsIn text f
outside_fits count [] some f h = absurd (omega arith)
outside_fits count (b ∷ z) some f h = outside_by_fits count b z (annotation_at (b ∷ z)) refl f h

next_tells_some : (count : ℕ) (text : List ℕ) → 0 < length text → NextTells count text (next count text)
next_tells_some count [] some = absurd (omega arith)
next_tells_some count (b ∷ z) some = next_tells count b z

pub closes_behind : (left : ℕ) (text : List ℕ) → ClosesWithin (Some left) text → left < length text
closes_behind left text h = omega (arith, h, length-drop left text)

inner_fits : (count left : ℕ) (text : List ℕ) → ClosesWithin (Some left) text → (r : Result (Option Kind × ℕ) ScanCause) → NextTells count (take left text) r → (f : Front) → in_front (Some left) r ≡ Ok f → FitsIn text f
inner_fits count left text closes (Err e) told f h = absurd cc
inner_fits count left text closes (Ok p) told f h =
    let g : Front = record { kind = p.0; len = p.1; left = Some (left - p.1) } in
    let same : g ≡ f = cc in
    let some = told.some in
    let within = told.within in
    let long = length-take left text in
    let below = closes_behind left text closes in
    let on : p.1 + (left - p.1) ≡ left = omega arith in
    let behind : drop (left - p.1) (drop p.1 text) ≡ drop left text = drop-drop (left - p.1) p.1 text ∙ ap (λ n. drop n text) on in
    subst (FitsIn text) same (record { some = some; within = omega arith; closes = subst (λ xs. prefix_len is_in_comment xs < length xs) (sym behind) closes })

pub inside_fits : (count left : ℕ) (text : List ℕ) → 0 < left → ClosesWithin (Some left) text → (f : Front) → inside count left text ≡ Ok f → FitsIn text f
inside_fits count left text some closes f h =
    let below = closes_behind left text closes in
    inner_fits count left text closes (next count (take left text)) (next_tells_some count (take left text) (omega (arith, length-take left text))) f h

pub closing_fits : (count : ℕ) (text : List ℕ) → ClosesWithin (Some 0) text → (f : Front) → closing count text ≡ Ok f → FitsIn text f
closing_fits count text closes f h =
    let len = prefix_len is_in_comment text + 1 in
    subst (FitsIn text) (token_is count mark.Closes (prefix_len is_in_comment text + 1) None f h) (record { some = omega arith; within = omega (arith, closes); closes = tt })

-- what is answered where memory may be refused
module _ (text : List ℕ) (outcome : Result Front ScanCause) (fits : (f : Front) → outcome ≡ Ok f → FitsIn text f) where
  pub answer_within : (result : Result Front ScanCause) → Reads outcome result → IfOk result (λ f. (1 ≤ f.len) × (f.len ≤ length text))
  answer_within (Ok f) is = let h = fits f is in (h.some, h.within)
  answer_within (Err e) is = tt

  pub answer_closes : (result : Result Front ScanCause) → Reads outcome result → IfOk result (λ f. ClosesWithin f.left (drop f.len text))
  answer_closes (Ok f) is = (fits f is).closes
  answer_closes (Err e) is = tt

-- a comment has two quotes
pub comment_long : (text : List ℕ) (p : Piece) → 0 < length text → first_piece text ≡ Ok p → p.shape ≡ shape.Comment → 2 ≤ p.len
comment_long [] p some is comment = absurd (omega arith)
comment_long (b ∷ z) p some is comment =
    let q : IsQuoted 34 is_in_comment (take p.len (b ∷ z)) = subst (λ s. Has s (take p.len (b ∷ z))) comment (stands_found b z p is).shaped in
    let long = ap length q.is in
    omega (arith, long, length-take p.len (b ∷ z), length-append q.text (34 ∷ []))
