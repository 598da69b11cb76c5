-- Tokens and faults stand in their text.
use Rattle.std.proofs.Common.{◌≡◌, ℕ, zero, suc, ◌<◌, ◌≤◌, ◌+◌, ◌-◌, List, [], ◌∷◌, ◌++◌, length, take, min, arith, refl, sym, ap, ◌∙◌, subst, Option, Some, None, append_assoc}
use Rattle.std.specs.Prelude.{IfSome, slice_get, unwrap_or}
use Rattle.std.proofs.lemmas.List.{length-append}
use Rattle.std.proofs.Math.Seq.{take-append_seam}
use Rattle.cp_text.specs.Annotations.{Annotated}
use Rattle.cp_text.specs.Bytes.{line_feeds}
use Rattle.cp_text.specs.declared.fault.ScanCause.{ScanCause}
use Rattle.cp_text.specs.declared.fault.ScanFault.{ScanFault}
use Rattle.cp_text.specs.declared.token.ByteRange.{ByteRange}
use Rattle.cp_text.specs.declared.token.Kind.{Kind}
use Rattle.cp_text.specs.declared.token.Mark.TheVariants as mark
use Rattle.cp_text.specs.declared.token.Spot.{Spot}
use Rattle.cp_text.specs.declared.token.Token.{Token}
use Rattle.cp_text.specs.Lines.{lines, line_of}
use Rattle.cp_text.specs.Places.{IsInLine, StandsAt, ranges}
use Rattle.cp_text.specs.Reading.{Part, joined, AreCut, AreLexemes, no_lexeme, between, one_lexeme, AreTokens, no_more, blank, lexeme, annotated, token_at, closing_spot, FaultAt, plain, opening_too_many, inside, closing_too_many, HasTokens, HasFault, too_long, faulty}
use Rattle.cp_text.specs.Spots.{after, beginning, token_of}
use Rattle.cp_text.proofs.AnnotationLaws.{IsMadeOf, made_from}
use Rattle.cp_text.proofs.FrontLaws.{made_by}
use Rattle.cp_text.proofs.ReadingLaws.{after_both}

-- ---- places

-- what follows some bytes begins behind them
begins_behind : (before more : List ℕ) → let spot = after beginning before in IsInLine (before ++ more) spot.line spot.from
begins_behind before more =
    let place : (after beginning before).from ≡ length before = omega arith in
    record {
      within = omega (arith, place, length-append before more);
      on_line = ap (λ xs. 1 + line_feeds xs) (sym (ap (λ n. take n (before ++ more)) place ∙ take-append_seam before more));
    }

-- a list of tokens each of which stands in the text
AllStand : List ℕ → List Token → Type 0
AllStand text [] = Unit {0}
AllStand text (t ∷ ts) = StandsAt text t.line t.range × AllStand text ts

all_stand : (text : List ℕ) (us ts : List Token) → AllStand text us → AllStand text ts → AllStand text (us ++ ts)
unfolding AllStand
all_stand text [] ts h k = k
all_stand text (u ∷ us) ts h k = (h.0, all_stand text us ts h.1 k)

piece_stands : (before piece rest text : List ℕ) (k : Kind) → text ≡ before ++ (piece ++ rest) → let t = token_of (after beginning before) piece k in StandsAt text t.line t.range
piece_stands before piece rest text k whole =
    let long = ap length whole in
    let place : (after beginning before).from ≡ length before = omega arith in
    record {
      within = omega (arith, place, long, length-append before (piece ++ rest), length-append piece rest);
      begins = subst (λ xs. IsInLine xs (after beginning before).line (after beginning before).from) (sym whole) (begins_behind before (piece ++ rest));
    }

-- ---- tokens

spot_behind : (spot : Spot) (before piece : List ℕ) → spot ≡ after beginning before → after spot piece ≡ after beginning (before ++ piece)
spot_behind spot before piece is = ap (λ s. after s piece) is ∙ after_both beginning before piece

joined_with : (ps : List Part) (rest : List ℕ) → joined ps rest ≡ joined ps [] ++ rest
joined_with [] rest = refl
joined_with (p ∷ ps) rest = ap (λ xs. p.text ++ xs) (joined_with ps rest) ∙ sym (append_assoc p.text (joined ps []) rest)

lexemes_stand : (spot : Spot) (before : List ℕ) (ps : List Part) (ts : List Token) (rest text : List ℕ) → spot ≡ after beginning before → text ≡ before ++ joined ps rest → AreLexemes spot ps ts → AllStand text ts
unfolding AllStand
lexemes_stand spot before [] [] rest text is whole no_lexeme = tt
lexemes_stand spot before [] (t ∷ ts) rest text is whole h = elim h [ ]
lexemes_stand spot before (p ∷ ps) ts rest text is whole (between none more) =
    lexemes_stand (after spot p.text) (before ++ p.text) ps ts rest text (spot_behind spot before p.text is) (whole ∙ sym (append_assoc before p.text (joined ps rest))) more
lexemes_stand spot before (p ∷ ps) (t ∷ ts) rest text is whole (one_lexeme same placed more) = (
  subst (λ (u : Token). StandsAt text u.line u.range) (sym (placed ∙ ap (λ s. token_of s p.text t.kind) is)) (piece_stands before p.text (joined ps rest) text t.kind whole),
  lexemes_stand (after spot p.text) (before ++ p.text) ps ts rest text (spot_behind spot before p.text is) (whole ∙ sym (append_assoc before p.text (joined ps rest))) more,
)

-- the text around the inner text of an annotation
around : (before piece rest text : List ℕ) (a : Annotated) → IsMadeOf piece a → text ≡ before ++ (piece ++ rest) → text ≡ (before ++ a.before) ++ (a.text ++ (a.closing ++ rest))
around before piece rest text a made whole =
    whole ∙ ap (λ xs. before ++ (xs ++ rest)) made.whole ∙ ap (λ xs. before ++ xs) (append_assoc a.before (a.text ++ a.closing) rest)
    ∙ sym (append_assoc before a.before ((a.text ++ a.closing) ++ rest)) ∙ ap (λ xs. (before ++ a.before) ++ xs) (append_assoc a.text a.closing rest)

tokens_stand : (spot : Spot) (before : List ℕ) (ps : List Part) (ts : List Token) (text : List ℕ) → spot ≡ after beginning before → text ≡ before ++ joined ps [] → AreCut ps [] → AreTokens spot ps ts → AllStand text ts
unfolding AllStand
tokens_stand spot before [] [] text is whole cut no_more = tt
tokens_stand spot before [] (t ∷ ts) text is whole cut h = elim h [ ]
tokens_stand spot before (p ∷ ps) ts text is whole cut (blank none said more) =
    tokens_stand (after spot p.text) (before ++ p.text) ps ts text (spot_behind spot before p.text is) (whole ∙ sym (append_assoc before p.text (joined ps []))) cut.1 more
tokens_stand spot before (p ∷ ps) (t ∷ ts) text is whole cut (lexeme same placed more) = (
  subst (λ (u : Token). StandsAt text u.line u.range) (sym (placed ∙ ap (λ s. token_of s p.text t.kind) is)) (piece_stands before p.text (joined ps []) text t.kind whole),
  tokens_stand (after spot p.text) (before ++ p.text) ps ts text (spot_behind spot before p.text is) (whole ∙ sym (append_assoc before p.text (joined ps []))) cut.1 more,
)
tokens_stand spot before (p ∷ ps) _ text is whole cut (annotated a qs us ts by inner inner_cut said more) =
    let made = made_by p.shape p.text (joined ps []) a cut.0 by in
    let all = around before p.text (joined ps []) text a made whole in
    let opened = spot_behind spot before a.before is in
    let closed = spot_behind (after spot a.before) (before ++ a.before) a.text opened in
    let behind = append_assoc (before ++ a.before) a.text (a.closing ++ joined ps []) in
    let text_in = all ∙ ap (λ xs. (before ++ a.before) ++ (xs ++ (a.closing ++ joined ps []))) inner ∙ ap (λ xs. (before ++ a.before) ++ xs) (sym (joined_with qs (a.closing ++ joined ps []))) in
    let first = piece_stands before a.before (a.text ++ (a.closing ++ joined ps [])) text (token_at spot a.before a.mark).kind (all ∙ append_assoc before a.before (a.text ++ (a.closing ++ joined ps []))) in
    let last = piece_stands ((before ++ a.before) ++ a.text) a.closing (joined ps []) text (token_at spot a.closing mark.Closes).kind (all ∙ sym behind) in
    let within = lexemes_stand (after spot a.before) (before ++ a.before) qs us (a.closing ++ joined ps []) text opened text_in said in
    let later = tokens_stand (after spot p.text) (before ++ p.text) ps ts text (spot_behind spot before p.text is) (whole ∙ sym (append_assoc before p.text (joined ps []))) cut.1 more in (
      subst (λ s. StandsAt text s.line (token_of s a.before (token_at spot a.before a.mark).kind).range) (sym is) first,
      all_stand text us (token_at (closing_spot spot a) a.closing mark.Closes ∷ ts) within
          (subst (λ s. StandsAt text s.line (token_of s a.closing (token_at spot a.closing mark.Closes).kind).range) (sym closed) last, later),
    )

one_stands : (text : List ℕ) (ts : List Token) (at : ℕ) (r : ByteRange) → AllStand text ts → slice_get (ranges ts) at ≡ Some r → StandsAt text (unwrap_or (slice_get (lines ts) at) 1) r
unfolding AllStand
one_stands text [] at r h is = cc
one_stands text (t ∷ ts) zero r h is = let same : t.range ≡ r = cc in subst (StandsAt text t.line) same h.0
one_stands text (t ∷ ts) (suc at) r h is = one_stands text ts at r h.1 is

some_below : (ts : List Token) (at : ℕ) (r : ByteRange) → slice_get (ranges ts) at ≡ Some r → at < length ts
some_below [] at r is = cc
some_below (t ∷ ts) zero r is = omega arith
some_below (t ∷ ts) (suc at) r is = let below = some_below ts at r is in omega arith

token_stands : (text : List ℕ) (ts : List Token) (at : ℕ) (r : ByteRange) → slice_get (ranges ts) at ≡ Some r → HasTokens text ts → StandsAt text (line_of ts at) r
token_stands text ts at r is h =
    let below = some_below ts at r is in
    let here : min at (length ts - 1) ≡ at = omega arith in
    subst (λ n. StandsAt text (unwrap_or (slice_get (lines ts) n) 1) r) (sym here)
    (one_stands text ts at r (tokens_stand beginning [] h.parts ts text refl h.reads.whole h.reads.cut h.reads.tokens) is)

-- where there is a token, it stands in its text
pub range_stands : (text : List ℕ) (ts : List Token) (at : ℕ) (found : Option ByteRange) → found ≡ slice_get (ranges ts) at → HasTokens text ts → IfSome found (StandsAt text (line_of ts at))
range_stands text ts at None is h = tt
range_stands text ts at (Some r) is h = token_stands text ts at r (sym is) h

-- ---- faults

in_line_at : (before more text : List ℕ) (at : Spot) → text ≡ before ++ more → at ≡ after beginning before → IsInLine text at.line at.from
in_line_at before more text at whole is =
    subst (λ xs. IsInLine xs at.line at.from) (sym whole) (subst (λ s. IsInLine (before ++ more) s.line s.from) (sym is) (begins_behind before more))

fault_in_line : (before rest text : List ℕ) (count : ℕ) (cause : ScanCause) (at : Spot) → text ≡ before ++ rest → FaultAt (after beginning before) count rest cause at → IsInLine text at.line at.from
fault_in_line before rest text count cause at whole (plain fault is) = in_line_at before rest text at whole is
fault_in_line before rest text count cause at whole (opening_too_many a there full named is) = in_line_at before rest text at whole is
fault_in_line before rest text count cause at whole (inside a qs us left there inner cut tokens few fault is) =
    let made = made_from there.piece a there.stands.shaped there.is in
    let all = around before there.piece there.rest text a made (whole ∙ ap (λ xs. before ++ xs) there.whole) in
    let split : a.text ++ (a.closing ++ there.rest) ≡ joined qs [] ++ (left ++ (a.closing ++ there.rest)) = ap (λ xs. xs ++ (a.closing ++ there.rest)) (inner ∙ joined_with qs left) ∙ append_assoc (joined qs []) left (a.closing ++ there.rest) in
    in_line_at ((before ++ a.before) ++ joined qs []) (left ++ (a.closing ++ there.rest)) text at
    (all ∙ ap (λ xs. (before ++ a.before) ++ xs) split ∙ sym (append_assoc (before ++ a.before) (joined qs []) (left ++ (a.closing ++ there.rest))))
    (is ∙ spot_behind (after (after beginning before) a.before) (before ++ a.before) (joined qs []) (after_both beginning before a.before))
fault_in_line before rest text count cause at whole (closing_too_many a qs us there inner cut tokens full named is) =
    let made = made_from there.piece a there.stands.shaped there.is in
    let all = around before there.piece there.rest text a made (whole ∙ ap (λ xs. before ++ xs) there.whole) in
    in_line_at ((before ++ a.before) ++ a.text) (a.closing ++ there.rest) text at
    (all ∙ sym (append_assoc (before ++ a.before) a.text (a.closing ++ there.rest)))
    (is ∙ spot_behind (after (after beginning before) a.before) (before ++ a.before) a.text (after_both beginning before a.before))

-- a fault that has a line stands in it
pub fault_stands : (text : List ℕ) (f : ScanFault) → HasFault text f → 1 ≤ f.line → IsInLine text f.line f.from
fault_stands text f (too_long long is) some = absurd (omega (arith, ap (λ (g : ScanFault). g.line) is))
fault_stands text f (faulty parts ts rest cause at short reads fault is) some =
    let found = fault_in_line (joined parts []) rest text (length ts) cause at (reads.whole ∙ joined_with parts rest) fault in
    subst (λ (g : ScanFault). IsInLine text g.line g.from) (sym is) found
