-- Verdicts on some expectations and one more.
use Rattle.std.proofs.Common.{◌≡◌, ◌⊎◌, inl, inr, ⊎_elim, ◌∙◌, ◌+◌, ◌<◌, ◌≤◌, ℕ, List, [], ◌∷◌, ◌++◌, length, get_or, take, sym, ap, subst, arith}
use Rattle.cp_verdict.proofs.any_length.Vocabulary.{Contains, Bor, take_all, take_more, Expectation, EndsJudgement, EndsVerdict}
use Rattle.std.proofs.lemmas.List.Elements.{Contains-append_left, Contains-push, Contains-push_cases}
use Rattle.std.specs.Prelude.{None, Some}
use Rattle.cp_verdict.specs.endless.Marked.{AreJudged, joined}
use Rattle.cp_verdict.specs.declared.endless.judging.EndsJudgement.TheVariants as judgement
use Rattle.cp_verdict.specs.declared.endless.verdict.EndsVerdict.TheVariants as verdict

module _ (J : Expectation → EndsJudgement → Type 0) (es : List Expectation) (e : Bor Expectation) where
  abbrev more : List Expectation
  more = es ++ e.now ∷ []

  earlier : (x : Expectation) → Contains es x → Contains more x
  earlier x c = Contains-append_left es (e.now ∷ []) x c

  last : Contains more e.now
  last = Contains-push es e.now

  -- of all, from all before and the last
  each_more : (P : Expectation → Type 0) → ((x : Expectation) → Contains es x → P x) → P e.now → (x : Expectation) → Contains more x → P x
  each_more P before here x c = ⊎_elim
      (λ (l : Contains es x). before x l)
      (λ (same : e.now ≡ x). subst P same here)
      (Contains-push_cases es e.now x c)

  pub with_one : (v : EndsVerdict) (j : EndsJudgement) → AreJudged J es v → J e.now j → AreJudged J more (joined v e j)
  with_one (verdict.Fails f against) j m h = (earlier f.now m.0, m.1)
  with_one verdict.Holds judgement.Holds m h = each_more (λ x. J x judgement.Holds) m h
  with_one verdict.Holds (judgement.Against w) m h = (last, h)
  with_one verdict.Holds judgement.Missing m h = (last, h)
  with_one verdict.Holds judgement.Open m h = (each_more (λ x. J x judgement.Holds ⊎ J x judgement.Open) (λ x c. inl (m x c)) (inr h), (last, h))
  with_one (verdict.Open f) judgement.Holds m h = (each_more (λ x. J x judgement.Holds ⊎ J x judgement.Open) m.0 (inl h), (earlier f.now m.1.0, m.1.1))
  with_one (verdict.Open f) (judgement.Against w) m h = (last, h)
  with_one (verdict.Open f) judgement.Missing m h = (last, h)
  with_one (verdict.Open f) judgement.Open m h = (each_more (λ x. J x judgement.Holds ⊎ J x judgement.Open) m.0 (inr h), (earlier f.now m.1.0, m.1.1))

-- each judgement says something else too
pub judged_each : (J K : Expectation → EndsJudgement → Type 0) (es : List Expectation) → ((e : Expectation) (j : EndsJudgement) → Contains es e → J e j → K e j) → (v : EndsVerdict) → AreJudged J es v → AreJudged K es v
judged_each J K es f verdict.Holds m = λ e c. f e judgement.Holds c (m e c)
judged_each J K es f (verdict.Fails e (Some w)) m = (m.0, f e.now (judgement.Against w) m.0 m.1)
judged_each J K es f (verdict.Fails e None) m = (m.0, f e.now judgement.Missing m.0 m.1)
judged_each J K es f (verdict.Open e) m = (λ x c. ⊎_elim (λ (h : J x judgement.Holds). inl (f x judgement.Holds c h)) (λ (h : J x judgement.Open). inr (f x judgement.Open c h)) (m.0 x c), (m.1.0, f e.now judgement.Open m.1.0 m.1.1))

module _ (J : Expectation → EndsJudgement → Type 0) (list : List Expectation) where
  pub verdict_more : (i : ℕ) (e : Bor Expectation) (v result : EndsVerdict) (j : EndsJudgement) → i < length list → e.now ≡ get_or list i e.now → result ≡ joined v e j → AreJudged J (take i list) v → J e.now j →
      AreJudged J (take (i + 1) list) result
  verdict_more i e v result j less item is m h =
      let longer : take (i + 1) list ≡ take i list ++ e.now ∷ [] = take_more list i e.now less ∙ ap (λ x. take i list ++ x ∷ []) (sym item) in
      subst (λ es. AreJudged J es result) (sym longer) (subst (AreJudged J (take i list ++ e.now ∷ [])) (sym is) (with_one J (take i list) e v j m h))

  pub verdict_all : (i : ℕ) (v : EndsVerdict) → length list ≤ i → AreJudged J (take i list) v → AreJudged J list v
  verdict_all i v le m = subst (λ es. AreJudged J es v) (take_all i list le) m

  pub verdict_none : AreJudged J (take 0 list) verdict.Holds
  verdict_none = λ e c. (let less = c.1 in absurd (omega (arith, less)))
