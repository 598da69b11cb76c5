-- The mark of some expectations by their judgements.
use Rattle.std.proofs.Common.{◌≡◌, ◌⊎◌, inl, inr, Bool, true, false, ◌||◌, if◌then◌else◌, List, [], ◌∷◌, Option, None, Some, refl}
use Rattle.cp_walk.specs.Text.{Spellings}
use Rattle.cp_run.specs.Table.{Line, IsAmong, Here, There}
use Rattle.cp_verdict.specs.Judged.{row_line, IsJudged}
use Rattle.cp_verdict.specs.Marked.{HoldsOf, FailsOf, OpenOf, Each, IsMarkOf, AreJudged, is_against, is_unsettled, has_against, has_unsettled, mark_of}
use Rattle.cp_expectation.specs.declared.expectation.Expectation.{Expectation}
use Rattle.cp_verdict.specs.declared.judging.Judgement.{Judgement}
use Rattle.cp_verdict.specs.declared.judging.Judgement.TheVariants as judgement
use Rattle.cp_verdict.specs.declared.marking.Standing.TheVariants as mark

module _ (names : Spellings) (lines : List Line) where
  fails_by : (e : Expectation) (j : Judgement) → IsJudged names e lines j → is_against j ≡ true → (against : Option Line) × FailsOf names lines e against
  fails_by e (judgement.Against r) h a = (Some (row_line r), (h.1, h.0, h.2))
  fails_by e judgement.Missing h a = (None, (h.1, h.0, h.2))
  fails_by e x h a = absurd (cc)

  some_fails : (es : List Expectation) (js : List Judgement) → AreJudged names lines es js → has_against js ≡ true → IsMarkOf names es lines mark.Fails
  some_fails [] [] m h = absurd (cc)
  some_fails (e ∷ es) (j ∷ js) m h = split (is_against j) refl h (some_fails es js m.1)
    where
      split : (b : Bool) → is_against j ≡ b → (b || has_against js) ≡ true → (has_against js ≡ true → IsMarkOf names es lines mark.Fails) → IsMarkOf names (e ∷ es) lines mark.Fails
      split true a h on = let f = fails_by e j m.0 a in (e, f.0, Here es, f.1)
      split false a h on = let f = on h in (f.0, f.1, There e es f.2, f.3)
  some_fails _ _ m h = absurd m

  holds_by : (e : Expectation) (j : Judgement) → IsJudged names e lines j → is_against j ≡ false → is_unsettled j ≡ false → HoldsOf names lines e
  holds_by e judgement.Holds h a u = (h.0, inl h.1)
  holds_by e (judgement.Shown r) h a u = (h.1, inr h.0)
  holds_by e x h a u = absurd (cc)

  open_by : (e : Expectation) (j : Judgement) → IsJudged names e lines j → is_unsettled j ≡ true → OpenOf names lines e
  open_by e judgement.Unsettled h u = h
  open_by e x h u = absurd (cc)

  neither : (a b : Bool) → (a || b) ≡ false → (a ≡ false) × (b ≡ false)
  neither true b h = absurd (cc)
  neither false b h = (refl, h)

  each_holds : (es : List Expectation) (js : List Judgement) → AreJudged names lines es js → has_against js ≡ false → has_unsettled js ≡ false → IsMarkOf names es lines mark.Holds
  each_holds [] [] m a u = tt
  each_holds (e ∷ es) (j ∷ js) m a u =
      let none = neither (is_against j) (has_against js) a in
      let settled = neither (is_unsettled j) (has_unsettled js) u in
      (holds_by e j m.0 none.0 settled.0, each_holds es js m.1 none.1 settled.1)
  each_holds _ _ m a u = absurd m

  each_open : (es : List Expectation) (js : List Judgement) → AreJudged names lines es js → has_against js ≡ false → Each (λ x. HoldsOf names lines x ⊎ OpenOf names lines x) es
  each_open [] [] m a = tt
  each_open (e ∷ es) (j ∷ js) m a = let none = neither (is_against j) (has_against js) a in (split (is_unsettled j) refl none.0, each_open es js m.1 none.1)
    where
      split : (b : Bool) → is_unsettled j ≡ b → is_against j ≡ false → HoldsOf names lines e ⊎ OpenOf names lines e
      split true u n = inr (open_by e j m.0 u)
      split false u n = inl (holds_by e j m.0 n u)
  each_open _ _ m a = absurd m

  some_open : (es : List Expectation) (js : List Judgement) → AreJudged names lines es js → has_unsettled js ≡ true → (e : Expectation) × IsAmong e es × OpenOf names lines e
  some_open [] [] m h = absurd (cc)
  some_open (e ∷ es) (j ∷ js) m h = split (is_unsettled j) refl h (some_open es js m.1)
    where
      split : (b : Bool) → is_unsettled j ≡ b → (b || has_unsettled js) ≡ true → (has_unsettled js ≡ true → (x : Expectation) × IsAmong x es × OpenOf names lines x) → (x : Expectation) × IsAmong x (e ∷ es) × OpenOf names lines x
      split true u h on = (e, Here es, open_by e j m.0 u)
      split false u h on = let f = on h in (f.0, There e es f.1, f.2)
  some_open _ _ m h = absurd m

  pub marked : (es : List Expectation) (js : List Judgement) → AreJudged names lines es js → IsMarkOf names es lines (mark_of js)
  marked es js m = split (has_against js) (has_unsettled js) refl refl
    where
      split : (a u : Bool) → has_against js ≡ a → has_unsettled js ≡ u → IsMarkOf names es lines (if a then mark.Fails else (if u then mark.Open else mark.Holds))
      split true u h k = some_fails es js m h
      split false true h k = (each_open es js m h, some_open es js m k)
      split false false h k = each_holds es js m h k
