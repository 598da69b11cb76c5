-- What is found among the first rows of outcomes is what is found among all rows.
use Rattle.std.proofs.Common.{◌≡◌, ◌≢◌, ◌∙◌, Bool, true, false, cond, not, ◌&&◌, ◌||◌, if◌then◌else◌, List, [], ◌∷◌, ◌++◌, map, Option, None, Some, refl, sym, ap, subst, append_assoc, append-nil}
use Rattle.std.specs.Prelude.{find, option_map, is_some, is_none}
use Rattle.std.specs.List.{list_any, list_all}
use Rattle.cp_run.specs.Table.{Line}
use Rattle.cp_run.specs.declared.outcome.Outcome.{Outcome}
use Rattle.cp_walk.specs.Report.{same_outcome, firsts, outcomes_of}
use Rattle.cp_verdict.specs.Expectations.{is_limit, is_open_by, settles_by}
use Rattle.cp_verdict.specs.Judged.{line_of, row_line, has_open, first_settling, judgement_of, IsJudgedBy}
use Rattle.cp_expectation.specs.declared.expectation.Claim.{Claim}
use Rattle.cp_expectation.specs.declared.expectation.Claim.TheVariants.{Never, Sometimes, Only}
use Rattle.cp_verdict.specs.declared.judging.Judgement.{Judgement}
use Rattle.cp_verdict.specs.declared.seen.SeenRow.{SeenRow}
use Rattle.cp_verdict.specs.declared.seen.Seen.{Seen}
use Rattle.cp_verdict.proofs.Exact.{exact}

-- the first row whose outcome passes a test
abbrev by : (Outcome → Bool) → List Line → Option Line
by q ls = find (λ l. q l.outcome) ls

abbrev any : List Line → Line → Bool
any found l = list_any (λ m. same_outcome m.outcome l.outcome) found

skip_failing : (q : Outcome → Bool) (fs ls : List Line) (l : Line) → q l.outcome ≡ false → by q (fs ++ ls) ≡ by q (fs ++ l ∷ ls)
skip_failing q [] ls l h = sym (ap (λ b. cond b (Some l) (by q ls)) h)
skip_failing q (f ∷ fs) ls l h = ap (λ r. cond (q f.outcome) (Some f) r) (skip_failing q fs ls l h)

-- a row whose outcome was found before is passed over
skip : (q : Outcome → Bool) (fs ls : List Line) (l : Line) → any fs l ≡ true → by q (fs ++ ls) ≡ by q (fs ++ l ∷ ls)
skip q [] ls l h = absurd (cc)
skip q (f ∷ fs) ls l h = split (same_outcome f.outcome l.outcome) refl h (skip q fs ls l)
  where
    equal : (b : Bool) → q f.outcome ≡ b → f.outcome ≡ l.outcome → by q (f ∷ fs ++ ls) ≡ by q (f ∷ fs ++ l ∷ ls)
    equal true k e = ap (λ b. cond b (Some f) (by q (fs ++ ls))) k ∙ sym (ap (λ b. cond b (Some f) (by q (fs ++ l ∷ ls))) k)
    equal false k e = ap (λ r. cond (q f.outcome) (Some f) r) (skip_failing q fs ls l (sym (ap q e) ∙ k))

    split : (b : Bool) → same_outcome f.outcome l.outcome ≡ b → (b || any fs l) ≡ true → (any fs l ≡ true → by q (fs ++ ls) ≡ by q (fs ++ l ∷ ls)) → by q (f ∷ fs ++ ls) ≡ by q (f ∷ fs ++ l ∷ ls)
    split true e k on = equal (q f.outcome) refl (exact f.outcome l.outcome e)
    split false e k on = ap (λ r. cond (q f.outcome) (Some f) r) (on k)

found_among : (q : Outcome → Bool) (found ls : List Line) → by q (firsts found ls) ≡ by q (found ++ ls)
found_among q found [] = sym (ap (by q) (append-nil found))
found_among q found (l ∷ ls) = split (any found l) refl (found_among q found ls) (found_among q (found ++ l ∷ []) ls)
  where
    split : (b : Bool) → any found l ≡ b → by q (firsts found ls) ≡ by q (found ++ ls) → by q (firsts (found ++ l ∷ []) ls) ≡ by q ((found ++ l ∷ []) ++ ls) → by q (firsts (if b then found else found ++ l ∷ []) ls) ≡ by q (found ++ l ∷ ls)
    split true e known new = known ∙ skip q found ls l e
    split false e known new = new ∙ ap (by q) (append_assoc found (l ∷ []) ls)

found_in : (q : Outcome → Bool) (lines : List Line) → by q (outcomes_of lines) ≡ by q lines
found_in q lines = found_among q [] lines

-- ---- tests of lists by what is found in them

any_where : (q : Outcome → Bool) (ls : List Line) → list_any (λ l. q l.outcome) ls ≡ is_some (by q ls)
any_where q [] = refl
any_where q (l ∷ ls) = split (q l.outcome) (any_where q ls)
  where
    split : (b : Bool) → list_any (λ l. q l.outcome) ls ≡ is_some (by q ls) → (b || list_any (λ l. q l.outcome) ls) ≡ is_some (cond b (Some l) (by q ls))
    split true e = refl
    split false e = e

-- some first row passes exactly where some row does
pub any_of : (q : Outcome → Bool) (lines : List Line) → list_any (λ l. q l.outcome) (outcomes_of lines) ≡ list_any (λ l. q l.outcome) lines
any_of q lines = any_where q (outcomes_of lines) ∙ ap is_some (found_in q lines) ∙ sym (any_where q lines)

open_of : (claim : Claim) (named : Outcome → Bool) (lines : List Line) → has_open claim named (outcomes_of lines) ≡ has_open claim named lines
open_of claim named lines = any_of (is_open_by claim named) lines

only_all : (named : Outcome → Bool) (ls : List Line) → is_none (first_settling Only named ls) ≡ true → has_open Only named ls ≡ false → list_all (λ l. named l.outcome) ls ≡ true
only_all named [] h w = refl
only_all named (l ∷ ls) h w = split (named l.outcome) (is_limit l.outcome.kind) h w (only_all named ls)
  where
    split : (b c : Bool) → is_none (cond (not b && not c) (Some l) (first_settling Only named ls)) ≡ true → ((c && not b) || has_open Only named ls) ≡ false → (is_none (first_settling Only named ls) ≡ true → has_open Only named ls ≡ false → list_all (λ l. named l.outcome) ls ≡ true) → (b && list_all (λ l. named l.outcome) ls) ≡ true
    split true true h w on = on h w
    split true false h w on = on h w
    split false true h w on = absurd (cc)
    split false false h w on = absurd (cc)

only_not : (named : Outcome → Bool) (ls : List Line) → is_some (first_settling Only named ls) ≡ true → list_all (λ l. named l.outcome) ls ≡ false
only_not named [] h = absurd (cc)
only_not named (l ∷ ls) h = split (named l.outcome) (is_limit l.outcome.kind) h (only_not named ls)
  where
    split : (b c : Bool) → is_some (cond (not b && not c) (Some l) (first_settling Only named ls)) ≡ true → (is_some (first_settling Only named ls) ≡ true → list_all (λ l. named l.outcome) ls ≡ false) → (b && list_all (λ l. named l.outcome) ls) ≡ false
    split true c h on = on h
    split false c h on = refl

is_sometimes : Claim → Bool
is_sometimes Sometimes = true
is_sometimes _ = false

pub never_apart : Never ≢ Sometimes
unfolding is_sometimes
never_apart h = absurd (let t : false ≡ true = ap is_sometimes h in cc)

pub only_apart : Only ≢ Sometimes
unfolding is_sometimes
only_apart h = absurd (let t : false ≡ true = ap is_sometimes h in cc)

-- the judgement is that of all rows
judged_by : (claim : Claim) (named : Outcome → Bool) (lines : List Line) (found : Option SeenRow) (left : Bool) → first_settling claim named lines ≡ option_map row_line found → has_open claim named lines ≡ left → IsJudgedBy claim named lines (judgement_of claim found left)
judged_by Never named lines None false f w = (ap not (any_where named lines ∙ ap is_some f), w)
judged_by Never named lines None true f w = (f, w)
judged_by Never named lines (Some r) left f w = (never_apart, ap not (any_where named lines ∙ ap is_some f), f)
judged_by Sometimes named lines None false f w = (refl, any_where named lines ∙ ap is_some f, w)
judged_by Sometimes named lines (Some r) left f w = (refl, any_where named lines ∙ ap is_some f, f)
judged_by Only named lines None false f w = (only_all named lines (ap is_none f) w, w)
judged_by _ named lines None true f w = (f, w)
judged_by Only named lines (Some r) left f w = (only_apart, only_not named lines (ap is_some f), f)

pub judged : (claim : Claim) (named : Outcome → Bool) (seen : List Seen) (found : Option SeenRow) (left : Bool) (j : Judgement) → option_map row_line found ≡ first_settling claim named (map line_of seen) → left ≡ has_open claim named (map line_of seen) → j ≡ judgement_of claim found left → (lines : List Line) → map line_of seen ≡ outcomes_of lines → IsJudgedBy claim named lines j
judged claim named seen found left j f w is lines e =
    let first : first_settling claim named lines ≡ option_map row_line found = sym (found_in (settles_by claim named) lines) ∙ ap (first_settling claim named) (sym e) ∙ sym f in
    let rest : has_open claim named lines ≡ left = sym (open_of claim named lines) ∙ ap (has_open claim named) (sym e) ∙ sym w in
    let P : Judgement → Type 0 = λ j. IsJudgedBy claim named lines j in
    subst P (sym is) (judged_by claim named lines found left first rest)
