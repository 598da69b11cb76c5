-- A text's reading is what is scanned, and there is no other.
use Rattle.std.proofs.Common.{◌≡◌, ◌≢◌, ℕ, zero, suc, ◌<◌, ◌≤◌, ◌+◌, ◌-◌, true, inl, inr, List, [], ◌∷◌, ◌++◌, length, take, drop, arith, cond, refl, sym, ap, ◌∙◌, subst, Option, Some, None, Result, Ok, Err, append_assoc}
use Rattle.std.specs.Prelude.{◌==◌}
use Rattle.std.proofs.lemmas.Bool.{cases_lt}
use Rattle.std.proofs.lemmas.List.{take-append-drop, append-nil, length-drop, length-append}
use Rattle.std.proofs.lemmas.List.Sums.{sum_by-append}
use Rattle.std.proofs.Math.Seq.{take-append_seam, drop-append_seam}
use Rattle.cp_text.specs.Annotations.{Annotated, annotation_by, annotation_at}
use Rattle.cp_text.specs.Bytes.{line_feeds}
use Rattle.cp_text.specs.declared.fault.ScanCause.{ScanCause}
use Rattle.cp_text.specs.declared.fault.ScanCause.TheVariants.{TooLong, TooManyTokens}
use Rattle.cp_text.specs.declared.fault.ScanFault.{ScanFault}
use Rattle.cp_text.specs.declared.piece.Shape.{Shape}
use Rattle.cp_text.specs.declared.piece.Shape.TheVariants as shape
use Rattle.cp_text.specs.declared.token.Kind.{Kind}
use Rattle.cp_text.specs.declared.token.Kind.TheVariants as kinds
use Rattle.cp_text.specs.declared.token.Mark.TheVariants as mark
use Rattle.cp_text.specs.declared.token.Spot.{Spot}
use Rattle.cp_text.specs.declared.token.Token.{Token}
use Rattle.cp_text.specs.Faults.{fault_at, Outcome, out_of_memory}
use Rattle.cp_text.specs.Fronts.{in_front, front_piece}
use Rattle.cp_text.specs.Lexemes.{next}
use Rattle.cp_text.specs.Reading.{Stands, NoneStands, Part, joined, AreCut, AreLexemes, no_lexeme, between, one_lexeme, AreTokens, no_more, blank, lexeme, annotated, token_at, Breaks, FaultIn, bad_byte, open_comment, open_char, open_too_many, breaks, too_many, AnnotationAt, FaultAt, plain, opening_too_many, inside, closing_too_many, closing_spot, HasTokens, too_long, faulty, Reading, AreOfText}
use Rattle.cp_text.specs.Scanning.{added, scan_from, scan, Scans}
use Rattle.cp_text.specs.Spots.{after, beginning, nowhere, token_of}
use Rattle.cp_text.specs.Values.{is_lexeme}
use Rattle.cp_text.proofs.AnnotationLaws.{IsMadeOf, made_from}
use Rattle.cp_text.proofs.FrontLaws.{annotation_front, made_by, annotation_stands, front_blank, front_lexeme, front_opening, front_full, front_inside, front_closing, front_closing_full}
use Rattle.cp_text.proofs.NextLaws.{next_stands, next_blank, next_fault, fault_somewhere, KindAfter, NextPiece, NextTells, next_tells}
use Rattle.cp_text.proofs.ScanSteps.{after_none, scan_stops, scan_goes, scan_ends, scan_short, scan_long}
use Rattle.cp_text.proofs.StandsLaws.{has_bytes, none_is}

line_feeds-append : (xs ys : List ℕ) → line_feeds (xs ++ ys) ≡ line_feeds xs + line_feeds ys
line_feeds-append xs ys = sum_by-append (λ x. cond (x == 10) 1 0) xs ys

some_joined : (piece rest : List ℕ) → 0 < length piece → 0 < length (piece ++ rest)
some_joined [] rest h = absurd (omega arith)
some_joined (b ∷ bs) rest h = omega arith

-- ---- what has a reading is scanned so

-- one piece more outside an annotation, of which the next piece is known
step : (spot : Spot) (found : List Token) (s : Shape) (piece rest : List ℕ) (k : Option Kind) → Stands s piece rest → front_piece (length found) None (piece ++ rest) ≡ Ok (record { kind = k; len = length piece; left = None })
    → scan_from 0 None spot found (piece ++ rest) ≡ scan_from 0 None (after spot piece) (added found k spot piece) rest
step spot found s piece rest k stands is =
    let some = has_bytes s piece stands.shaped in
    let goes = scan_goes None spot found (piece ++ rest) k (length piece) None (omega arith) (some_joined piece rest some) is in
    sym (rw (take-append_seam piece rest, drop-append_seam piece rest) at goes)

pub after_both : (spot : Spot) (xs ys : List ℕ) → after (after spot xs) ys ≡ after spot (xs ++ ys)
after_both spot xs ys =
    let feeds : spot.line + line_feeds xs + line_feeds ys ≡ spot.line + line_feeds (xs ++ ys) = omega (arith, line_feeds-append xs ys) in
    let bytes : spot.from + length xs + length ys ≡ spot.from + length (xs ++ ys) = omega (arith, length-append xs ys) in
    rw (feeds, bytes) refl

-- ---- the inner text of an annotation

-- one piece more of it, before which `more` stands up to the end of the text
step_inside : (spot : Spot) (found : List Token) (s : Shape) (piece rest more : List ℕ) (k : Option Kind) → Stands s piece rest → next (length found) (piece ++ rest) ≡ Ok (k, length piece)
    → scan_from 0 (Some (length (piece ++ rest))) spot found ((piece ++ rest) ++ more) ≡ scan_from 0 (Some (length rest)) (after spot piece) (added found k spot piece) (rest ++ more)
step_inside spot found s piece rest more k stands is =
    let some = has_bytes s piece stands.shaped in
    let joined_some = some_joined piece rest some in
    let behind : length (piece ++ rest) - length piece ≡ length rest = omega (arith, length-append piece rest) in
    let here = front_inside (length found) (piece ++ rest) more joined_some ∙ ap (in_front (Some (length (piece ++ rest)))) is in
    let goes = scan_goes (Some (length (piece ++ rest))) spot found ((piece ++ rest) ++ more) k (length piece) (Some (length (piece ++ rest) - length piece)) (omega arith) (some_joined (piece ++ rest) more joined_some) here in
    let whole = append_assoc piece rest more in
    let front : take (length piece) ((piece ++ rest) ++ more) ≡ piece = ap (take (length piece)) whole ∙ take-append_seam piece (rest ++ more) in
    let beyond : drop (length piece) ((piece ++ rest) ++ more) ≡ rest ++ more = ap (drop (length piece)) whole ∙ drop-append_seam piece (rest ++ more) in
    sym (rw (front, beyond, behind) at goes)

scan_inner : (spot : Spot) (qs : List Part) (us found : List Token) (left more : List ℕ) → AreLexemes spot qs us → AreCut qs left → length (found ++ us) ≤ 20000
    → scan_from 0 (Some (length (joined qs left))) spot found (joined qs left ++ more) ≡ scan_from 0 (Some (length left)) (after spot (joined qs [])) (found ++ us) (left ++ more)
scan_inner spot [] [] found left more no_lexeme cut few =
    rw (append-nil found) (ap (λ s. scan_from 0 (Some (length left)) s found (left ++ more)) (sym (after_none spot)))
scan_inner spot [] (t ∷ us) found left more h cut few = elim h [ ]
scan_inner spot (p ∷ ps) us found left more (between none tokens) cut few =
    step_inside spot found p.shape p.text (joined ps left) more None cut.0 (next_blank (length found) p.shape p.text (joined ps left) cut.0 none)
    ∙ scan_inner (after spot p.text) ps us found left more tokens cut.1 few
    ∙ ap (λ n. scan_from 0 (Some (length left)) n (found ++ us) (left ++ more)) (after_both spot p.text (joined ps []))
scan_inner spot (p ∷ ps) (t ∷ us) found left more (one_lexeme is placed tokens) cut few =
    let below : length found < 20000 = omega (arith, length-append found (t ∷ us)) in
    let both = append_assoc found (t ∷ []) us in
    let here : found ++ token_of spot p.text t.kind ∷ [] ≡ found ++ t ∷ [] = ap (λ u. found ++ u ∷ []) (sym placed) in
    step_inside spot found p.shape p.text (joined ps left) more (Some t.kind) cut.0 (next_stands (length found) p.shape p.text (joined ps left) t.kind cut.0 is below)
    ∙ ap (λ ts. scan_from 0 (Some (length (joined ps left))) (after spot p.text) ts (joined ps left ++ more)) here
    ∙ scan_inner (after spot p.text) ps us (found ++ t ∷ []) left more tokens cut.1 (rw both few)
    ∙ ap (λ ts. scan_from 0 (Some (length left)) (after (after spot p.text) (joined ps [])) ts (left ++ more)) both
    ∙ ap (λ n. scan_from 0 (Some (length left)) n (found ++ t ∷ us) (left ++ more)) (after_both spot p.text (joined ps []))

-- what stands behind the opening of an annotation up to the end of the text
abbrev behind_opening : Annotated → List ℕ → List ℕ
behind_opening a rest = a.text ++ (a.closing ++ rest)

whole_text : (piece rest : List ℕ) (a : Annotated) → IsMadeOf piece a → piece ++ rest ≡ a.before ++ behind_opening a rest
whole_text piece rest a made =
    ap (λ xs. xs ++ rest) made.whole ∙ append_assoc a.before (a.text ++ a.closing) rest ∙ ap (λ xs. a.before ++ xs) (append_assoc a.text a.closing rest)

-- the opening is read
scan_opening : (spot : Spot) (found : List Token) (s : Shape) (piece rest : List ℕ) (a : Annotated) → Stands s piece rest → annotation_by s piece ≡ Some a → length found < 20000
    → scan_from 0 None spot found (piece ++ rest) ≡ scan_from 0 (Some (length a.text)) (after spot a.before) (found ++ token_at spot a.before a.mark ∷ []) (behind_opening a rest)
scan_opening spot found s piece rest a stands is below =
    let made = made_by s piece rest a stands is in
    let some = some_joined piece rest (has_bytes s piece stands.shaped) in
    let goes = scan_goes None spot found (piece ++ rest) (Some (kinds.Mark a.mark)) (length a.before) (Some (length a.text)) made.some some (front_opening (length found) s piece rest a stands is below) in
    let whole = whole_text piece rest a made in
    let front : take (length a.before) (piece ++ rest) ≡ a.before = ap (take (length a.before)) whole ∙ take-append_seam a.before (behind_opening a rest) in
    let beyond : drop (length a.before) (piece ++ rest) ≡ behind_opening a rest = ap (drop (length a.before)) whole ∙ drop-append_seam a.before (behind_opening a rest) in
    sym (rw (front, beyond) at goes)

closing_some : (piece rest : List ℕ) (a : Annotated) → IsMadeOf piece a → 0 < length (a.closing ++ rest)
closing_some piece rest a made = rw made.closes (some_joined (made.last ++ 34 ∷ []) rest (omega (arith, length-append made.last (34 ∷ []))))

closing_long : (piece : List ℕ) (a : Annotated) → IsMadeOf piece a → 1 ≤ length a.closing
closing_long piece a made = rw made.closes (omega (arith, length-append made.last (34 ∷ [])))

-- the closing is read
scan_closing : (spot : Spot) (found : List Token) (piece rest : List ℕ) (a : Annotated) → IsMadeOf piece a → length found < 20000
    → scan_from 0 (Some 0) spot found (a.closing ++ rest) ≡ scan_from 0 None (after spot a.closing) (found ++ token_at spot a.closing mark.Closes ∷ []) rest
scan_closing spot found piece rest a made below =
    let goes = scan_goes (Some 0) spot found (a.closing ++ rest) (Some (kinds.Mark mark.Closes)) (length a.closing) None (closing_long piece a made) (closing_some piece rest a made) (front_closing (length found) piece rest a made below) in
    sym (rw (take-append_seam a.closing rest, drop-append_seam a.closing rest) at goes)

-- the tokens of an annotation
abbrev said : Spot → Annotated → List Token → List Token
said spot a us = token_at spot a.before a.mark ∷ us ++ token_at (closing_spot spot a) a.closing mark.Closes ∷ []

after_made : (spot : Spot) (piece : List ℕ) (a : Annotated) → IsMadeOf piece a → after (closing_spot spot a) a.closing ≡ after spot piece
after_made spot piece a made =
    after_both (after spot a.before) a.text a.closing ∙ after_both spot a.before (a.text ++ a.closing) ∙ ap (after spot) (sym made.whole)

found_said : (found : List Token) (t : Token) (us : List Token) (u : Token) → ((found ++ t ∷ []) ++ us) ++ u ∷ [] ≡ found ++ (t ∷ us ++ u ∷ [])
found_said found t us u = append_assoc (found ++ t ∷ []) us (u ∷ []) ∙ append_assoc found (t ∷ []) (us ++ u ∷ [])

said_long : (found : List Token) (spot : Spot) (a : Annotated) (us : List Token) → length (found ++ said spot a us) ≡ suc (suc (length found + length us))
said_long found spot a us =
    omega (arith, length-append found (said spot a us), length-append us (token_at (closing_spot spot a) a.closing mark.Closes ∷ []))

opened_long : (found : List Token) (t : Token) (us : List Token) → length ((found ++ t ∷ []) ++ us) ≡ suc (length found + length us)
opened_long found t us = omega (arith, length-append (found ++ t ∷ []) us, length-append found (t ∷ []))

scan_annotated : (spot : Spot) (found : List Token) (s : Shape) (piece rest : List ℕ) (a : Annotated) (qs : List Part) (us : List Token) → Stands s piece rest → annotation_by s piece ≡ Some a
    → a.text ≡ joined qs [] → AreCut qs [] → AreLexemes (after spot a.before) qs us → length (found ++ said spot a us) ≤ 20000
    → scan_from 0 None spot found (piece ++ rest) ≡ scan_from 0 None (after spot piece) (found ++ said spot a us) rest
scan_annotated spot found s piece rest a qs us stands is whole cut tokens few =
    let made = made_by s piece rest a stands is in
    let long = said_long found spot a us in
    let opened = opened_long found (token_at spot a.before a.mark) us in
    let inner = scan_inner (after spot a.before) qs us (found ++ token_at spot a.before a.mark ∷ []) [] (a.closing ++ rest) tokens cut (omega arith) in
    let inner_said : scan_from 0 (Some (length a.text)) (after spot a.before) (found ++ token_at spot a.before a.mark ∷ []) (behind_opening a rest)
    ≡ scan_from 0 (Some 0) (closing_spot spot a) ((found ++ token_at spot a.before a.mark ∷ []) ++ us) (a.closing ++ rest) =
    subst (λ t. scan_from 0 (Some (length t)) (after spot a.before) (found ++ token_at spot a.before a.mark ∷ []) (t ++ (a.closing ++ rest)) ≡ scan_from 0 (Some 0) (after (after spot a.before) t) ((found ++ token_at spot a.before a.mark ∷ []) ++ us) (a.closing ++ rest)) (sym whole) inner in
    scan_opening spot found s piece rest a stands is (omega arith)
    ∙ inner_said
    ∙ scan_closing (closing_spot spot a) ((found ++ token_at spot a.before a.mark ∷ []) ++ us) piece rest a made (omega arith)
    ∙ ap (λ ts. scan_from 0 None (after (closing_spot spot a) a.closing) ts rest) (found_said found (token_at spot a.before a.mark) us (token_at (closing_spot spot a) a.closing mark.Closes))
    ∙ ap (λ n. scan_from 0 None n (found ++ said spot a us) rest) (after_made spot piece a made)

-- ---- all parts

said_before : (t : Token) (us : List Token) (u : Token) (ts : List Token) → t ∷ us ++ u ∷ ts ≡ (t ∷ us ++ u ∷ []) ++ ts
said_before t us u ts = ap (λ xs. t ∷ xs) (sym (append_assoc us (u ∷ []) ts))

pub scan_parts : (spot : Spot) (parts : List Part) (new found : List Token) (rest : List ℕ) → AreTokens spot parts new → AreCut parts rest → length (found ++ new) ≤ 20000
    → scan_from 0 None spot found (joined parts rest) ≡ scan_from 0 None (after spot (joined parts [])) (found ++ new) rest
scan_parts spot [] [] found rest no_more cut few =
    rw (append-nil found) (ap (λ s. scan_from 0 None s found rest) (sym (after_none spot)))
scan_parts spot [] (t ∷ new) found rest h cut few = elim h [ ]
scan_parts spot (p ∷ ps) new found rest (blank none alone tokens) cut few =
    step spot found p.shape p.text (joined ps rest) None cut.0 (front_blank (length found) p.shape p.text (joined ps rest) cut.0 none alone)
    ∙ scan_parts (after spot p.text) ps new found rest tokens cut.1 few
    ∙ ap (λ n. scan_from 0 None n (found ++ new) rest) (after_both spot p.text (joined ps []))
scan_parts spot (p ∷ ps) (t ∷ new) found rest (lexeme is placed tokens) cut few =
    let below : length found < 20000 = omega (arith, length-append found (t ∷ new)) in
    let both = append_assoc found (t ∷ []) new in
    let here : found ++ token_of spot p.text t.kind ∷ [] ≡ found ++ t ∷ [] = ap (λ u. found ++ u ∷ []) (sym placed) in
    step spot found p.shape p.text (joined ps rest) (Some t.kind) cut.0 (front_lexeme (length found) p.shape p.text (joined ps rest) t.kind cut.0 is below)
    ∙ ap (λ ts. scan_from 0 None (after spot p.text) ts (joined ps rest)) here
    ∙ scan_parts (after spot p.text) ps new (found ++ t ∷ []) rest tokens cut.1 (rw both few)
    ∙ ap (λ ts. scan_from 0 None (after (after spot p.text) (joined ps [])) ts rest) both
    ∙ ap (λ n. scan_from 0 None n (found ++ t ∷ new) rest) (after_both spot p.text (joined ps []))
scan_parts spot (p ∷ ps) new found rest (annotated a qs us ts is whole inner_cut inner tokens) cut few =
    let closing = token_at (closing_spot spot a) a.closing mark.Closes in
    let both = append_assoc found (said spot a us) ts in
    let all : found ++ (token_at spot a.before a.mark ∷ us ++ token_at (closing_spot spot a) a.closing mark.Closes ∷ ts) ≡ (found ++ said spot a us) ++ ts =
    ap (λ xs. found ++ xs) (said_before (token_at spot a.before a.mark) us (token_at (closing_spot spot a) a.closing mark.Closes) ts) ∙ sym both in
    let fewer : length ((found ++ said spot a us) ++ ts) ≤ 20000 = subst (λ xs. length xs ≤ 20000) all few in
    scan_annotated spot found p.shape p.text (joined ps rest) a qs us cut.0 is whole inner_cut inner (omega (arith, length-append (found ++ said spot a us) ts))
    ∙ scan_parts (after spot p.text) ps ts (found ++ said spot a us) rest tokens cut.1 fewer
    ∙ ap (λ xs. scan_from 0 None (after (after spot p.text) (joined ps [])) xs rest) (sym all)
    ∙ ap (λ n. scan_from 0 None n (found ++ new) rest) (after_both spot p.text (joined ps []))

-- ---- faults

breaks_plain : (s : Shape) (piece : List ℕ) (e : ScanCause) → Breaks s piece e → annotation_by s piece ≡ None
breaks_plain shape.Separator piece e h = refl
breaks_plain shape.Comment piece e h = absurd h
breaks_plain shape.Number piece e h = refl
breaks_plain shape.Name piece e h = refl
breaks_plain shape.Character piece e h = refl
breaks_plain (shape.Sign m) piece e h = refl

token_plain : (s : Shape) (piece : List ℕ) → is_lexeme s ≡ true → annotation_by s piece ≡ None
token_plain shape.Separator piece h = refl
token_plain shape.Comment piece h = cc
token_plain shape.Number piece h = refl
token_plain shape.Name piece h = refl
token_plain shape.Character piece h = refl
token_plain (shape.Sign m) piece h = refl

none_plain : (b : ℕ) (more : List ℕ) → NoneStands (b ∷ more) → annotation_at (b ∷ more) ≡ None
none_plain b more none = let u = none_is b more none in rw u.found refl

fault_plain : (count : ℕ) (text : List ℕ) (e : ScanCause) → FaultIn count text e → annotation_at text ≡ None
fault_plain count text e (bad_byte b more is none not_comment not_char cause) = ap annotation_at is ∙ none_plain b more (subst NoneStands is none)
fault_plain count text e (open_comment more is none cause) = ap annotation_at is ∙ none_plain 34 more (subst NoneStands is none)
fault_plain count text e (open_char more is none below cause) = ap annotation_at is ∙ none_plain 39 more (subst NoneStands is none)
fault_plain count text e (open_too_many more is none full cause) = ap annotation_at is ∙ none_plain 39 more (subst NoneStands is none)
fault_plain count text e (breaks s piece rest is stands below broken) = ap annotation_at is ∙ annotation_front s piece rest stands ∙ breaks_plain s piece e broken
fault_plain count text e (too_many s piece rest is stands full token cause) = ap annotation_at is ∙ annotation_front s piece rest stands ∙ token_plain s piece token

front_fault : (count : ℕ) (text : List ℕ) (e : ScanCause) → FaultIn count text e → front_piece count None text ≡ Err e
front_fault count text e h = rw (fault_plain count text e h, next_fault count text e h) refl

stops_inside : (spot : Spot) (found : List Token) (left more : List ℕ) (e : ScanCause) → FaultIn (length found) left e → scan_from 0 (Some (length left)) spot found (left ++ more) ≡ Err (fault_at spot e)
stops_inside spot found left more e h =
    let some = fault_somewhere (length found) left e h in
    scan_stops (Some (length left)) spot found (left ++ more) e (some_joined left more some)
    (front_inside (length found) left more some ∙ ap (in_front (Some (length left))) (next_fault (length found) left e h))

-- the opening of an annotation is read, and its inner text up to some rest
scan_into : (spot : Spot) (found : List Token) (text : List ℕ) (a : Annotated) (qs : List Part) (us : List Token) (left : List ℕ) → (at : AnnotationAt text a) → a.text ≡ joined qs left → AreCut qs left
    → AreLexemes (after spot a.before) qs us → suc (length found + length us) ≤ 20000
    → scan_from 0 None spot found text ≡ scan_from 0 (Some (length left)) (after (after spot a.before) (joined qs [])) ((found ++ token_at spot a.before a.mark ∷ []) ++ us) (left ++ (a.closing ++ at.rest))
scan_into spot found text a qs us left at whole cut tokens few =
    let opened = opened_long found (token_at spot a.before a.mark) us in
    let inner = scan_inner (after spot a.before) qs us (found ++ token_at spot a.before a.mark ∷ []) left (a.closing ++ at.rest) tokens cut (omega arith) in
    ap (scan_from 0 None spot found) at.whole
    ∙ scan_opening spot found shape.Comment at.piece at.rest a at.stands at.is (omega arith)
    ∙ ap (λ t. scan_from 0 (Some (length t)) (after spot a.before) (found ++ token_at spot a.before a.mark ∷ []) (t ++ (a.closing ++ at.rest))) whole
    ∙ inner

scan_fault : (spot : Spot) (found : List Token) (text : List ℕ) (cause : ScanCause) (at : Spot) → FaultAt spot (length found) text cause at → scan_from 0 None spot found text ≡ Err (fault_at at cause)
scan_fault spot found text cause at (plain fault is) =
    scan_stops None spot found text cause (fault_somewhere (length found) text cause fault) (front_fault (length found) text cause fault) ∙ ap (λ n. Err (fault_at n cause)) (sym is)
scan_fault spot found text cause at (opening_too_many a there full named is) =
    ap (scan_from 0 None spot found) there.whole
    ∙ scan_stops None spot found (there.piece ++ there.rest) TooManyTokens (some_joined there.piece there.rest (has_bytes shape.Comment there.piece there.stands.shaped)) (front_full (length found) shape.Comment there.piece there.rest a there.stands there.is full)
    ∙ rw (is, named) refl
scan_fault spot found text cause at (inside a qs us left there whole cut tokens few fault is) =
    let opened = opened_long found (token_at spot a.before a.mark) us in
    let same : FaultIn (length ((found ++ token_at spot a.before a.mark ∷ []) ++ us)) left cause = rw opened fault in
    scan_into spot found text a qs us left there whole cut tokens few
    ∙ stops_inside (after (after spot a.before) (joined qs [])) ((found ++ token_at spot a.before a.mark ∷ []) ++ us) left (a.closing ++ there.rest) cause same
    ∙ ap (λ n. Err (fault_at n cause)) (sym is)
scan_fault spot found text cause at (closing_too_many a qs us there whole cut tokens count named is) =
    let opened = opened_long found (token_at spot a.before a.mark) us in
    let made = made_from there.piece a there.stands.shaped there.is in
    let inner : after (after spot a.before) (joined qs []) ≡ closing_spot spot a = ap (after (after spot a.before)) (sym whole) in
    scan_into spot found text a qs us [] there whole cut tokens (omega arith)
    ∙ scan_stops (Some 0) (after (after spot a.before) (joined qs [])) ((found ++ token_at spot a.before a.mark ∷ []) ++ us) (a.closing ++ there.rest) TooManyTokens (closing_some there.piece there.rest a made)
    (front_closing_full (length ((found ++ token_at spot a.before a.mark ∷ []) ++ us)) (a.closing ++ there.rest) (omega arith))
    ∙ ap (λ s. Err (fault_at s TooManyTokens)) (inner ∙ sym is)
    ∙ ap (λ c. Err (fault_at at c)) (sym named)

pub reading_is : (text : List ℕ) (o : Outcome) → Reading text o → scan text ≡ o
reading_is text (Ok ts) h =
    scan_short text h.short ∙ ap (scan_from 0 None beginning []) h.reads.whole
    ∙ scan_parts beginning h.parts ts [] [] h.reads.tokens h.reads.cut h.reads.few
    ∙ scan_ends None (after beginning (joined h.parts [])) ts [] refl
reading_is text (Err f) (too_long long is) = scan_long text long ∙ ap Err (sym is)
reading_is text (Err f) (faulty parts ts rest cause at short reads fault is) =
    scan_short text short ∙ ap (scan_from 0 None beginning []) reads.whole
    ∙ scan_parts beginning parts ts [] rest reads.tokens reads.cut reads.few
    ∙ scan_fault (after beginning (joined parts [])) ts rest cause at fault
    ∙ ap Err (sym is)

-- ---- what is scanned is a reading

pub record Whole (spot : Spot) (found : List Token) (text : List ℕ) (ts : List Token) : Type 0 where
  pub parts : List Part
  pub new : List Token
  pub whole : text ≡ joined parts []
  pub cut : AreCut parts []
  pub tokens : AreTokens spot parts new
  pub is : ts ≡ found ++ new
  pub few : length (found ++ new) ≤ 20000

pub record Failed (spot : Spot) (found : List Token) (text : List ℕ) (f : ScanFault) : Type 0 where
  pub parts : List Part
  pub new : List Token
  pub rest : List ℕ
  pub cause : ScanCause
  pub at : Spot
  pub whole : text ≡ joined parts rest
  pub cut : AreCut parts rest
  pub tokens : AreTokens spot parts new
  pub few : length (found ++ new) ≤ 20000
  pub fault : FaultAt (after spot (joined parts [])) (length (found ++ new)) rest cause at
  pub is : f ≡ fault_at at cause

abbrev pub ScanTells : Spot → List Token → List ℕ → Outcome → Type 0
ScanTells spot found text (Ok ts) = Whole spot found text ts
ScanTells spot found text (Err f) = Failed spot found text f

-- a fault at the front
failed_at : (spot : Spot) (found : List Token) (text : List ℕ) (cause : ScanCause) (at : Spot) → FaultAt spot (length found) text cause at → length found ≤ 20000
    → ScanTells spot found text (scan_from 0 None spot found text)
failed_at spot found text cause at fault few =
    subst (ScanTells spot found text) (sym (scan_fault spot found text cause at fault))
    (record { parts = []; new = []; rest = text; cause = cause; at = at; whole = refl; cut = tt; tokens = no_more; few = rw (append-nil found) few; fault = subst (λ s. FaultAt s (length (found ++ [])) text cause at) (sym (after_none spot)) (rw (append-nil found) fault); is = refl })

-- ---- outside an annotation

-- tokens after one more piece
more_tokens : (spot : Spot) (found : List Token) (s : Shape) (piece : List ℕ) (k : Option Kind) (ps : List Part) (new : List Token)
    → KindAfter (length found) s piece k → annotation_by s piece ≡ None → AreTokens (after spot piece) ps new
    → (all : List Token) × (added found k spot piece ++ new ≡ found ++ all) × AreTokens spot (record { shape = s; text = piece } ∷ ps) all
more_tokens spot found s piece None ps new is none tokens = (new, refl, blank is none tokens)
more_tokens spot found s piece (Some k) ps new is none tokens =
    (token_of spot piece k ∷ new, append_assoc found (token_of spot piece k ∷ []) new, lexeme is.0 refl tokens)

-- what the text after a piece tells, told of the text
behind : (spot : Spot) (found : List Token) (text : List ℕ) (k : Option Kind) (n : ℕ) (o : Outcome) → (p : NextPiece (length found) text k n) → annotation_by p.shape (take n text) ≡ None
    → ScanTells (after spot (take n text)) (added found k spot (take n text)) (drop n text) o → ScanTells spot found text o
behind spot found text k n (Ok ts) p none h =
    let all = more_tokens spot found p.shape (take n text) k h.parts h.new p.kind_is none h.tokens in
    record {
      parts = record { shape = p.shape; text = take n text } ∷ h.parts;
      new = all.0;
      whole = sym (take-append-drop n text) ∙ ap (λ r. take n text ++ r) h.whole;
      cut = (subst (λ r. Stands p.shape (take n text) r) h.whole p.stands, h.cut);
      tokens = all.2;
      is = h.is ∙ all.1;
      few = subst (λ ts. length ts ≤ 20000) all.1 h.few;
    }
behind spot found text k n (Err f) p none h =
    let all = more_tokens spot found p.shape (take n text) k h.parts h.new p.kind_is none h.tokens in
    record {
      parts = record { shape = p.shape; text = take n text } ∷ h.parts;
      new = all.0;
      rest = h.rest;
      cause = h.cause;
      at = h.at;
      whole = sym (take-append-drop n text) ∙ ap (λ r. take n text ++ r) h.whole;
      cut = (subst (λ r. Stands p.shape (take n text) r) h.whole p.stands, h.cut);
      tokens = all.2;
      few = subst (λ ts. length ts ≤ 20000) all.1 h.few;
      fault = subst (λ m. FaultAt m (length (found ++ all.0)) h.rest h.cause h.at) (after_both spot (take n text) (joined h.parts []))
          (subst (λ ts. FaultAt (after (after spot (take n text)) (joined h.parts [])) (length ts) h.rest h.cause h.at) all.1 h.fault);
      is = h.is;
    }

added_few : (found : List Token) (k : Option Kind) (spot : Spot) (s : Shape) (piece : List ℕ) → KindAfter (length found) s piece k → length found ≤ 20000 → length (added found k spot piece) ≤ 20000
added_few found None spot s piece is few = few
added_few found (Some k) spot s piece is few = let below = is.1 in omega (arith, length-append found (token_of spot piece k ∷ []))

-- texts of at most n bytes are known
abbrev Shorter : ℕ → Type 0
Shorter n = (spot : Spot) (found : List Token) (text : List ℕ) → length text ≤ n → length found ≤ 20000 → ScanTells spot found text (scan_from 0 None spot found text)

-- Some text that begins with no annotation, of which the next piece is known.
piece_tells : (n : ℕ) (spot : Spot) (found : List Token) (b : ℕ) (z : List ℕ) (r : Result (Option Kind × ℕ) ScanCause) → next (length found) (b ∷ z) ≡ r → NextTells (length found) (b ∷ z) r
    → annotation_at (b ∷ z) ≡ None → length (b ∷ z) ≤ suc n → length found ≤ 20000 → Shorter n → ScanTells spot found (b ∷ z) (scan_from 0 None spot found (b ∷ z))
piece_tells n spot found b z (Err e) is at none short few shorter = failed_at spot found (b ∷ z) e spot (plain at refl) few
piece_tells n spot found b z (Ok p) is told none short few shorter =
    let some = told.some in
    let within = told.within in
    let left : length (drop p.1 (b ∷ z)) ≤ n = omega (arith, length-drop p.1 (b ∷ z)) in
    let later = shorter (after spot (take p.1 (b ∷ z))) (added found p.0 spot (take p.1 (b ∷ z))) (drop p.1 (b ∷ z)) left (added_few found p.0 spot told.shape (take p.1 (b ∷ z)) told.kind_is few) in
    let front : front_piece (length found) None (b ∷ z) ≡ Ok (record { kind = p.0; len = p.1; left = None }) = rw (none, is) refl in
    let same = scan_goes None spot found (b ∷ z) p.0 p.1 None some (omega arith) front in
    let no_annotation : annotation_by told.shape (take p.1 (b ∷ z)) ≡ None = sym (annotation_front told.shape (take p.1 (b ∷ z)) (drop p.1 (b ∷ z)) told.stands) ∙ ap annotation_at (take-append-drop p.1 (b ∷ z)) ∙ none in
    behind spot found (b ∷ z) p.0 p.1 (scan_from 0 None spot found (b ∷ z)) told no_annotation
    (subst (ScanTells (after spot (take p.1 (b ∷ z))) (added found p.0 spot (take p.1 (b ∷ z))) (drop p.1 (b ∷ z))) same later)

-- ---- inside an annotation

-- what an inner text comes to after the tokens found
pub data InnerTells (spot : Spot) (found : List Token) (text : List ℕ) : Type 0 where
  ended : (qs : List Part) (us : List Token) → text ≡ joined qs [] → AreCut qs [] → AreLexemes spot qs us → length (found ++ us) ≤ 20000 → InnerTells spot found text
  failed : (qs : List Part) (us : List Token) (left : List ℕ) (cause : ScanCause) → text ≡ joined qs left → AreCut qs left → AreLexemes spot qs us → length (found ++ us) ≤ 20000
      → FaultIn (length (found ++ us)) left cause → InnerTells spot found text

more_lexemes : (spot : Spot) (found : List Token) (s : Shape) (piece : List ℕ) (k : Option Kind) (ps : List Part) (new : List Token)
    → KindAfter (length found) s piece k → AreLexemes (after spot piece) ps new
    → (all : List Token) × (added found k spot piece ++ new ≡ found ++ all) × AreLexemes spot (record { shape = s; text = piece } ∷ ps) all
more_lexemes spot found s piece None ps new is tokens = (new, refl, between is tokens)
more_lexemes spot found s piece (Some k) ps new is tokens =
    (token_of spot piece k ∷ new, append_assoc found (token_of spot piece k ∷ []) new, one_lexeme is.0 refl tokens)

inner_behind : (spot : Spot) (found : List Token) (text : List ℕ) (k : Option Kind) (n : ℕ) → NextPiece (length found) text k n
    → InnerTells (after spot (take n text)) (added found k spot (take n text)) (drop n text) → InnerTells spot found text
inner_behind spot found text k n p (ended qs us whole cut tokens few) =
    let all = more_lexemes spot found p.shape (take n text) k qs us p.kind_is tokens in
    ended (record { shape = p.shape; text = take n text } ∷ qs) all.0 (sym (take-append-drop n text) ∙ ap (λ r. take n text ++ r) whole)
    (subst (λ r. Stands p.shape (take n text) r) whole p.stands, cut) all.2 (subst (λ ts. length ts ≤ 20000) all.1 few)
inner_behind spot found text k n p (failed qs us left cause whole cut tokens few fault) =
    let all = more_lexemes spot found p.shape (take n text) k qs us p.kind_is tokens in
    failed (record { shape = p.shape; text = take n text } ∷ qs) all.0 left cause (sym (take-append-drop n text) ∙ ap (λ r. take n text ++ r) whole)
    (subst (λ r. Stands p.shape (take n text) r) whole p.stands, cut) all.2 (subst (λ ts. length ts ≤ 20000) all.1 few)
    (subst (λ ts. FaultIn (length ts) left cause) all.1 fault)

inner_piece : (n : ℕ) (spot : Spot) (found : List Token) (b : ℕ) (z : List ℕ) (r : Result (Option Kind × ℕ) ScanCause) → NextTells (length found) (b ∷ z) r → length (b ∷ z) ≤ suc n → length found ≤ 20000
    → ((spot : Spot) (found : List Token) (text : List ℕ) → length text ≤ n → length found ≤ 20000 → InnerTells spot found text) → InnerTells spot found (b ∷ z)
inner_piece n spot found b z (Err e) at short few shorter = failed [] [] (b ∷ z) e refl tt no_lexeme (rw (append-nil found) few) (rw (append-nil found) at)
inner_piece n spot found b z (Ok p) told short few shorter =
    let some = told.some in
    let within = told.within in
    let left : length (drop p.1 (b ∷ z)) ≤ n = omega (arith, length-drop p.1 (b ∷ z)) in
    inner_behind spot found (b ∷ z) p.0 p.1 told
    (shorter (after spot (take p.1 (b ∷ z))) (added found p.0 spot (take p.1 (b ∷ z))) (drop p.1 (b ∷ z)) left (added_few found p.0 spot told.shape (take p.1 (b ∷ z)) told.kind_is few))

inner_tells : (n : ℕ) (spot : Spot) (found : List Token) (text : List ℕ) → length text ≤ n → length found ≤ 20000 → InnerTells spot found text
inner_tells n spot found [] short few = ended [] [] refl tt no_lexeme (rw (append-nil found) few)
inner_tells zero spot found (b ∷ z) short few = absurd (omega arith)
inner_tells (suc n) spot found (b ∷ z) short few =
    inner_piece n spot found b z (next (length found) (b ∷ z)) (next_tells (length found) b z) short few (λ spot found text short few. inner_tells n spot found text short few)

-- ---- at an annotation

said_after : (spot : Spot) (found : List Token) (a : Annotated) (us ts : List Token)
    → (found ++ said spot a us) ++ ts ≡ found ++ (token_at spot a.before a.mark ∷ us ++ token_at (closing_spot spot a) a.closing mark.Closes ∷ ts)
said_after spot found a us ts =
    append_assoc found (said spot a us) ts ∙ ap (λ xs. found ++ xs) (sym (said_before (token_at spot a.before a.mark) us (token_at (closing_spot spot a) a.closing mark.Closes) ts))

-- what the text after an annotation tells, told of the text
behind_said : (spot : Spot) (found : List Token) (text : List ℕ) (a : Annotated) (qs : List Part) (us : List Token) (o : Outcome) → (there : AnnotationAt text a) → a.text ≡ joined qs [] → AreCut qs []
    → AreLexemes (after spot a.before) qs us → ScanTells (after spot there.piece) (found ++ said spot a us) there.rest o → ScanTells spot found text o
behind_said spot found text a qs us (Ok ts) there whole cut tokens h =
    let all = said_after spot found a us h.new in
    record {
      parts = record { shape = shape.Comment; text = there.piece } ∷ h.parts;
      new = token_at spot a.before a.mark ∷ us ++ token_at (closing_spot spot a) a.closing mark.Closes ∷ h.new;
      whole = there.whole ∙ ap (λ r. there.piece ++ r) h.whole;
      cut = (subst (λ r. Stands shape.Comment there.piece r) h.whole there.stands, h.cut);
      tokens = annotated a qs us h.new there.is whole cut tokens h.tokens;
      is = h.is ∙ all;
      few = subst (λ ts. length ts ≤ 20000) all h.few;
    }
behind_said spot found text a qs us (Err f) there whole cut tokens h =
    let all = said_after spot found a us h.new in
    record {
      parts = record { shape = shape.Comment; text = there.piece } ∷ h.parts;
      new = token_at spot a.before a.mark ∷ us ++ token_at (closing_spot spot a) a.closing mark.Closes ∷ h.new;
      rest = h.rest;
      cause = h.cause;
      at = h.at;
      whole = there.whole ∙ ap (λ r. there.piece ++ r) h.whole;
      cut = (subst (λ r. Stands shape.Comment there.piece r) h.whole there.stands, h.cut);
      tokens = annotated a qs us h.new there.is whole cut tokens h.tokens;
      few = subst (λ ts. length ts ≤ 20000) all h.few;
      fault = subst (λ m. FaultAt m (length (found ++ (token_at spot a.before a.mark ∷ us ++ token_at (closing_spot spot a) a.closing mark.Closes ∷ h.new))) h.rest h.cause h.at) (after_both spot there.piece (joined h.parts []))
          (subst (λ ts. FaultAt (after (after spot there.piece) (joined h.parts [])) (length ts) h.rest h.cause h.at) all h.fault);
      is = h.is;
    }

rest_shorter : (n : ℕ) (text : List ℕ) (a : Annotated) → (there : AnnotationAt text a) → length text ≤ suc n → length there.rest ≤ n
rest_shorter n text a there short =
    let some = has_bytes shape.Comment there.piece there.stands.shaped in
    let long = ap length there.whole in
    omega (arith, length-append there.piece there.rest, long)

-- the inner text is read, and there is room for its closing or none
inner_ended : (n : ℕ) (spot : Spot) (found : List Token) (text : List ℕ) (a : Annotated) → (there : AnnotationAt text a) → length text ≤ suc n → length found < 20000 → Shorter n
    → InnerTells (after spot a.before) (found ++ token_at spot a.before a.mark ∷ []) a.text → ScanTells spot found text (scan_from 0 None spot found text)
inner_ended n spot found text a there short below shorter (failed qs us left cause whole cut tokens few fault) =
    let opened = opened_long found (token_at spot a.before a.mark) us in
    failed_at spot found text cause (after (after spot a.before) (joined qs []))
    (inside a qs us left there whole cut tokens (omega arith) (rw opened at fault) refl) (omega arith)
inner_ended n spot found text a there short below shorter (ended qs us whole cut tokens few) =
    let opened = opened_long found (token_at spot a.before a.mark) us in
    let long = said_long found spot a us in
    elim (cases_lt (suc (length found + length us)) 20000) [
      | inl room ↦
          let fewer : length (found ++ said spot a us) ≤ 20000 = omega arith in
          let later = shorter (after spot there.piece) (found ++ said spot a us) there.rest (rest_shorter n text a there short) fewer in
          let same : scan_from 0 None (after spot there.piece) (found ++ said spot a us) there.rest ≡ scan_from 0 None spot found text =
          sym (ap (scan_from 0 None spot found) there.whole ∙ scan_annotated spot found shape.Comment there.piece there.rest a qs us there.stands there.is whole cut tokens fewer) in
          behind_said spot found text a qs us (scan_from 0 None spot found text) there whole cut tokens
          (subst (ScanTells (after spot there.piece) (found ++ said spot a us) there.rest) same later)
      | inr full ↦
          failed_at spot found text TooManyTokens (closing_spot spot a) (closing_too_many a qs us there whole cut tokens (omega arith) refl refl) (omega arith)
    ]

annotation_tells : (n : ℕ) (spot : Spot) (found : List Token) (text : List ℕ) (a : Annotated) → AnnotationAt text a → length text ≤ suc n → length found ≤ 20000 → Shorter n
    → ScanTells spot found text (scan_from 0 None spot found text)
annotation_tells n spot found text a there short few shorter = elim (cases_lt (length found) 20000) [
  | inl below ↦
      let opened : length (found ++ token_at spot a.before a.mark ∷ []) ≤ 20000 = omega (arith, length-append found (token_at spot a.before a.mark ∷ [])) in
      inner_ended n spot found text a there short below shorter (inner_tells (length a.text) (after spot a.before) (found ++ token_at spot a.before a.mark ∷ []) a.text (omega arith) opened)
  | inr full ↦ failed_at spot found text TooManyTokens spot (opening_too_many a there full refl refl) few
]

front_tells : (n : ℕ) (spot : Spot) (found : List Token) (b : ℕ) (z : List ℕ) (o : Option Annotated) → annotation_at (b ∷ z) ≡ o → length (b ∷ z) ≤ suc n → length found ≤ 20000 → Shorter n
    → ScanTells spot found (b ∷ z) (scan_from 0 None spot found (b ∷ z))
front_tells n spot found b z None is short few shorter = piece_tells n spot found b z (next (length found) (b ∷ z)) refl (next_tells (length found) b z) is short few shorter
front_tells n spot found b z (Some a) is short few shorter = annotation_tells n spot found (b ∷ z) a (annotation_stands b z a is) short few shorter

pub scan_tells : (n : ℕ) (spot : Spot) (found : List Token) (text : List ℕ) → length text ≤ n → length found ≤ 20000 → ScanTells spot found text (scan_from 0 None spot found text)
scan_tells n spot found [] short few =
    subst (ScanTells spot found []) (sym (scan_ends None spot found [] refl))
    (record { parts = []; new = []; whole = refl; cut = tt; tokens = no_more; is = sym (append-nil found); few = rw (append-nil found) few })
scan_tells zero spot found (b ∷ z) short few = absurd (omega arith)
scan_tells (suc n) spot found (b ∷ z) short few =
    front_tells n spot found b z (annotation_at (b ∷ z)) refl short few (λ spot found text short few. scan_tells n spot found text short few)

told_short : (text : List ℕ) → length text ≤ 65535 → (o : Outcome) → ScanTells beginning [] text o → Reading text o
told_short text short (Ok ts) h =
    subst (HasTokens text) (sym h.is) (record { short = short; parts = h.parts; reads = record { whole = h.whole; cut = h.cut; tokens = h.tokens; few = h.few } })
told_short text short (Err f) h =
    faulty h.parts h.new h.rest h.cause h.at short (record { whole = h.whole; cut = h.cut; tokens = h.tokens; few = h.few }) h.fault h.is

pub reading_holds : (text : List ℕ) → Reading text (scan text)
reading_holds text = elim (cases_lt 65535 (length text)) [
  | inl long ↦ subst (Reading text) (sym (scan_long text long)) (too_long long refl)
  | inr short ↦ subst (Reading text) (sym (scan_short text short)) (told_short text short (scan_from 0 None beginning [] text) (scan_tells (length text) beginning [] text (omega arith) (omega arith)))
]

-- ---- the contract

pub long_reads : (text : List ℕ) → 65535 < length text → Reading text (Err (fault_at nowhere TooLong))
long_reads text long = too_long long refl

pub long_only : (text : List ℕ) → 65535 < length text → (other : Outcome) → Reading text other → Err (fault_at nowhere TooLong) ≡ other
long_only text long other reads = sym (scan_long text long) ∙ reading_is text other reads

pub short_reads : (text : List ℕ) → length text ≤ 65535 → (o : Outcome) → Scans (scan_from 0 None beginning [] text) o → o ≢ Err out_of_memory → Reading text o
short_reads text short (Ok ts) h told = subst (Reading text) (scan_short text short ∙ h) (reading_holds text)
short_reads text short (Err f) h told = subst (Reading text) (scan_short text short ∙ h (λ e. told (ap Err e))) (reading_holds text)

-- what the pieces of a short text come to are its tokens
pub of_text : (text : List ℕ) → length text ≤ 65535 → (ts : List Token) → scan_from 0 None beginning [] text ≡ Ok ts → AreOfText ts
of_text text short ts h = record { text = text; reads = subst (Reading text) (scan_short text short ∙ h) (reading_holds text) }

pub short_only : (text : List ℕ) → length text ≤ 65535 → (o : Outcome) → Scans (scan_from 0 None beginning [] text) o → (other : Outcome) → Reading text other → o ≢ Err out_of_memory → o ≡ other
short_only text short (Ok ts) h other reads told = sym h ∙ sym (scan_short text short) ∙ reading_is text other reads
short_only text short (Err f) h other reads told = sym (h (λ e. told (ap Err e))) ∙ sym (scan_short text short) ∙ reading_is text other reads
