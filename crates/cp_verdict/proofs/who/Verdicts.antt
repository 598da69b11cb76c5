-- The judgements of some expectations and one more, and the mark of all, where they may name who waits at an end.
use Rattle.std.proofs.Common.{◌≡◌, ◌⊎◌, inl, inr, ◌∙◌, ◌+◌, ◌<◌, ◌≤◌, ℕ, Bool, true, false, ◌||◌, if◌then◌else◌, List, [], ◌∷◌, ◌++◌, length, get_or, take, Option, None, Some, refl, sym, ap, subst}
use Rattle.std.proofs.lemmas.List.{take_all, take_more}
use Rattle.cp_walk.specs.Report.{outcomes_of}
use Rattle.cp_walk.specs.Text.{Spellings}
use Rattle.cp_run.specs.Table.{Line, IsAmong, Here, There}
use Rattle.cp_expectation.specs.declared.expectation.Expectation.{Expectation}
use Rattle.cp_verdict.specs.Judged.{row_line}
use Rattle.cp_verdict.specs.Limits.{AreStopsOf}
use Rattle.cp_verdict.specs.Marked as by_rows
use Rattle.cp_verdict.specs.Marked.{Each, OneForEach, has_against, has_unsettled, is_against, is_unsettled, mark_of}
use Rattle.cp_verdict.specs.endless.Naming.{Processes}
use Rattle.cp_verdict.specs.waiting.Asking.{name_who, names_who}
use Rattle.cp_verdict.specs.waiting.Judged.{IsJudged, IsJudgedAny}
use Rattle.cp_verdict.specs.waiting.Marked.{FailsOf, HoldsOf, IsMarkOf, IsMarked, OpenOf}
use Rattle.cp_verdict.specs.declared.judging.Judgement.{Judgement}
use Rattle.cp_verdict.specs.declared.judging.Judgement.TheVariants as judgement
use Rattle.cp_verdict.specs.declared.marking.Standing.TheVariants as mark
use Rattle.cp_verdict.specs.declared.program.Marked.{Marked}
use Rattle.cp_verdict.specs.declared.program.Stops.{Stops}
use Rattle.cp_verdict.proofs.Stopped.{stops_of_all}
use Rattle.cp_verdict.proofs.Verdicts as by_first
use Rattle.cp_verdict.proofs.who.Tests.{neither}

-- ---- one more

module _ {B : Type 0} (J : Expectation → B → Type 0) where
  pub judged_none : (list : List Expectation) (js : List B) → js ≡ [] → OneForEach J (take 0 list) js
  judged_none list js is = subst (OneForEach J []) (sym is) tt

  one_more : (es : List Expectation) (js : List B) (e : Expectation) (j : B) → OneForEach J es js → J e j → OneForEach J (es ++ e ∷ []) (js ++ j ∷ [])
  one_more [] [] e j m h = (h, tt)
  one_more (f ∷ es) (k ∷ js) e j m h = (m.0, one_more es js e j m.1 h)
  one_more _ _ e j m h = absurd m

  pub judged_more : (list : List Expectation) (i : ℕ) (e : Expectation) (js all : List B) (j : B) → i < length list → e ≡ get_or list i e → all ≡ js ++ j ∷ [] → OneForEach J (take i list) js → J e j → OneForEach J (take (i + 1) list) all
  judged_more list i e js all j less item is m h =
      let longer : take (i + 1) list ≡ take i list ++ e ∷ [] = take_more list i e less ∙ ap (λ x. take i list ++ x ∷ []) (sym item) in
      subst (λ es. OneForEach J es all) (sym longer) (subst (OneForEach J (take i list ++ e ∷ [])) (sym is) (one_more (take i list) js e j m h))

  pub judged_all : (list : List Expectation) (i : ℕ) (js : List B) → length list ≤ i → OneForEach J (take i list) js → OneForEach J list js
  judged_all list i js le m = subst (λ es. OneForEach J es js) (take_all i list le) m

-- ---- the mark

module _ (names : Spellings) (ps : Processes) (who : List ℕ → List ℕ) (lines : List Line) where
  abbrev J : Expectation → Judgement → Type 0
  J e j = IsJudgedAny names ps who lines e j

  fails_by : (e : Expectation) (j : Judgement) → IsJudged names ps who e lines j → is_against j ≡ true → (against : Option Line) × FailsOf names ps who lines e against
  fails_by e (judgement.Against r) h a = (Some (row_line r), (h.1, h.0, h.2))
  fails_by e judgement.Missing h a = (None, (h.1, h.0, h.2))
  fails_by e x h a = absurd (cc)

  some_fails : (es : List Expectation) (js : List Judgement) → OneForEach J es js → has_against js ≡ true → IsMarkOf names ps who es lines mark.Fails
  some_fails [] [] m h = absurd (cc)
  some_fails (e ∷ es) (j ∷ js) m h = split (is_against j) refl h (some_fails es js m.1)
    where
      split : (b : Bool) → is_against j ≡ b → (b || has_against js) ≡ true → (has_against js ≡ true → IsMarkOf names ps who es lines mark.Fails) → IsMarkOf names ps who (e ∷ es) lines mark.Fails
      split true a h on = let f = fails_by e j m.0.0 a in (e, f.0, Here es, f.1)
      split false a h on = let f = on h in (f.0, f.1, There e es f.2, f.3)
  some_fails _ _ m h = absurd m

  holds_by : (e : Expectation) (j : Judgement) → IsJudged names ps who e lines j → is_against j ≡ false → is_unsettled j ≡ false → HoldsOf names ps who lines e
  holds_by e judgement.Holds h a u = (h.0, inl h.1)
  holds_by e (judgement.Shown r) h a u = (h.1, inr h.0)
  holds_by e x h a u = absurd (cc)

  open_by : (e : Expectation) (j : Judgement) → IsJudged names ps who e lines j → is_unsettled j ≡ true → OpenOf names ps who lines e
  open_by e judgement.Unsettled h u = h
  open_by e x h u = absurd (cc)

  each_holds : (es : List Expectation) (js : List Judgement) → OneForEach J es js → has_against js ≡ false → has_unsettled js ≡ false → IsMarkOf names ps who es lines mark.Holds
  each_holds [] [] m a u = tt
  each_holds (e ∷ es) (j ∷ js) m a u =
      let none = neither (is_against j) (has_against js) a in
      let settled = neither (is_unsettled j) (has_unsettled js) u in
      (holds_by e j m.0.0 none.0 settled.0, each_holds es js m.1 none.1 settled.1)
  each_holds _ _ m a u = absurd m

  each_open : (es : List Expectation) (js : List Judgement) → OneForEach J es js → has_against js ≡ false → Each (λ x. HoldsOf names ps who lines x ⊎ OpenOf names ps who lines x) es
  each_open [] [] m a = tt
  each_open (e ∷ es) (j ∷ js) m a = let none = neither (is_against j) (has_against js) a in (split (is_unsettled j) refl none.0, each_open es js m.1 none.1)
    where
      split : (b : Bool) → is_unsettled j ≡ b → is_against j ≡ false → HoldsOf names ps who lines e ⊎ OpenOf names ps who lines e
      split true u n = inr (open_by e j m.0.0 u)
      split false u n = inl (holds_by e j m.0.0 n u)
  each_open _ _ m a = absurd m

  some_open : (es : List Expectation) (js : List Judgement) → OneForEach J es js → has_unsettled js ≡ true → (e : Expectation) × IsAmong e es × OpenOf names ps who lines e
  some_open [] [] m h = absurd (cc)
  some_open (e ∷ es) (j ∷ js) m h = split (is_unsettled j) refl h (some_open es js m.1)
    where
      split : (b : Bool) → is_unsettled j ≡ b → (b || has_unsettled js) ≡ true → (has_unsettled js ≡ true → (x : Expectation) × IsAmong x es × OpenOf names ps who lines x) → (x : Expectation) × IsAmong x (e ∷ es) × OpenOf names ps who lines x
      split true u h on = (e, Here es, open_by e j m.0.0 u)
      split false u h on = let f = on h in (f.0, There e es f.1, f.2)
  some_open _ _ m h = absurd m

  pub marked : (es : List Expectation) (js : List Judgement) → OneForEach J es js → IsMarkOf names ps who es lines (mark_of js)
  marked es js m = split (has_against js) (has_unsettled js) refl refl
    where
      split : (a u : Bool) → has_against js ≡ a → has_unsettled js ≡ u → IsMarkOf names ps who es lines (if a then mark.Fails else (if u then mark.Open else mark.Holds))
      split true u h k = some_fails es js m h
      split false true h k = (each_open es js m h, some_open es js m k)
      split false false h k = each_holds es js m h k

  -- ---- the whole

  -- the limits are those of all rows
  stops_so : (seen : List Line) (stops : Stops) → seen ≡ outcomes_of lines → AreStopsOf seen stops → AreStopsOf lines stops
  stops_so seen stops rows h = stops_of_all lines stops (subst (λ ls. AreStopsOf ls stops) rows h)

  pub marked_so : (es : List Expectation) (m : Marked) (seen : List Line) → seen ≡ outcomes_of lines → OneForEach J es m.judgements.items → m.mark ≡ mark_of m.judgements.items → AreStopsOf seen m.stops → IsMarked names ps who es lines m
  marked_so es m seen rows judged mark stops = record { judged = judged; together = subst (IsMarkOf names ps who es lines) (sym mark) (marked es m.judgements.items judged); stops = stops_so seen m.stops rows stops }

  -- where nobody is named, each is judged by the first rows
  each_plainly : (es : List Expectation) (js : List Judgement) → name_who es ≡ false → OneForEach J es js → by_rows.AreJudged names lines es js
  each_plainly [] [] none m = tt
  each_plainly (e ∷ es) (j ∷ js) none m = let n = neither (names_who e) (name_who es) none in (m.0.1 n.0, each_plainly es js n.1 m.1)
  each_plainly _ _ none m = absurd m

  pub marked_plainly : (es : List Expectation) (m : Marked) (seen : List Line) → name_who es ≡ false → seen ≡ outcomes_of lines → OneForEach J es m.judgements.items → m.mark ≡ mark_of m.judgements.items → AreStopsOf seen m.stops → by_rows.IsMarked names es lines m
  marked_plainly es m seen none rows judged mark stops =
      let each = each_plainly es m.judgements.items none judged in
      record { judged = each; together = subst (by_rows.IsMarkOf names es lines) (sym mark) (by_first.marked names lines es m.judgements.items each); stops = stops_so seen m.stops rows stops }
