-- A mark by who waits at the ends of the slot machine is true of the program on its own names.
use Rattle.std.proofs.Common.{◌≡◌, inl, inr, ◌∙◌, ℕ, zero, suc, Bool, true, false, ◌||◌, List, [], ◌∷◌, refl, sym, ap, subst}
use Rattle.std.specs.Prelude.{Contains, IfOk, None, Option, Result, Some, slice_get}
use Rattle.std.specs.List.{list_any}
use Rattle.std.proofs.lemmas.Result.{IfOk-weaker}
use Rattle.cp_tree.specs.Read.{IsRead}
use Rattle.cp_tree.specs.Syntax.{Tree}
use Rattle.cp_layout.specs.Laid.{plain, laid}
use Rattle.cp_slots.specs.Tables.{Tables}
use Rattle.cp_meaning_laws.specs.Accepted.{IsAccepted}
use Rattle.cp_machine.specs.declared.discipline.Discipline as slot_discipline
use Rattle.cp_meaning.specs.State.{Discipline}
use Rattle.cp_machine_laws.specs.Named.{discipline_of, named_discipline}
use Rattle.cp_machine_laws.proofs.Disciplines.{same_discipline}
use Rattle.cp_ends.specs.declared.end.End.{End}
use Rattle.cp_ends.proofs.Searching.Lists.{place_of}
use Rattle.cp_expectation.specs.declared.expectation.Expectation.{Expectation}
use Rattle.cp_verdict.specs.endless.Behaviour.{Behaviour, Finding, Ends, Shows, Waits, IsSo, on_names, on_slots}
use Rattle.cp_verdict.specs.endless.Expectations as ends
use Rattle.cp_verdict.specs.endless.Expectations.{asks_some, is_cut}
use Rattle.cp_verdict.specs.endless.Knowledge.{IsKnown, finding_of, is_settled, is_whole}
use Rattle.cp_verdict.specs.endless.Marked.{AreJudged, IsJudgedToFail, mark_of, open_mark, with_tables}
use Rattle.cp_verdict.specs.endless.Naming.{Names, Processes}
use Rattle.cp_verdict.specs.waiting.Asking.{name_who, names_who}
use Rattle.cp_verdict.specs.waiting.Ends.{HasSettling, IsTrue, IsTrueIf, is_waiting, settles, settles_end}
use Rattle.cp_verdict.specs.waiting.EndsJudged.{HoldsOf, IsJudged, IsJudgedAny}
use Rattle.cp_verdict.specs.waiting.EndsMarked.{IsMarkOf, IsMeantMark, IsTrueMark}
use Rattle.cp_verdict.specs.waiting.Known.{KnowsWho}
use Rattle.cp_verdict.specs.waiting.Who.{who_on_names, who_on_slots}
use Rattle.cp_verdict.specs.declared.endless.judging.EndsJudgement.TheVariants as judgement
use Rattle.cp_verdict.specs.declared.endless.known.KnownEnds.{KnownEnds}
use Rattle.cp_verdict.specs.declared.endless.known.Witness.{Witness}
use Rattle.cp_verdict.specs.declared.endless.saying.MarkedEnds.{MarkedEnds}
use Rattle.cp_verdict.specs.declared.endless.verdict.EndsMark.{EndsMark}
use Rattle.cp_verdict.specs.declared.endless.verdict.EndsVerdict.{EndsVerdict}
use Rattle.cp_verdict.specs.declared.endless.verdict.EndsVerdict.TheVariants as verdict
use Rattle.cp_verdict.proofs.any_length.Finding.{some_same}
use Rattle.cp_verdict.proofs.any_length.Meant.{end_back, settling_uncut, shown_back, there, waits_back}
use Rattle.cp_verdict.proofs.any_length.MeantMarks as by_first
use Rattle.cp_verdict.proofs.any_length.MeantMarks.{settled_whole}
use Rattle.cp_verdict.proofs.who.Alike.{same_after}
use Rattle.cp_verdict.proofs.who.EndsJudging.{waiting_over}
use Rattle.cp_verdict.proofs.who.Tests.{end_aside, settles_unasked}

-- somebody is named, if one of the expectations does
any_at : {A : Type 0} (t : A → Bool) (xs : List A) (i : ℕ) (x : A) → slice_get xs i ≡ Some x → t x ≡ true → list_any t xs ≡ true
any_at t [] i x at h = absurd (cc)
any_at {A} t (y ∷ ys) zero x at h = ap (λ b. b || list_any t ys) (subst (λ (z : A). t z ≡ true) (sym (some_same y x at)) h)
any_at t (y ∷ ys) (suc i) x at h = split (t y) (any_at t ys i x at h)
  where
    split : (b : Bool) → list_any t ys ≡ true → (b || list_any t ys) ≡ true
    split true e = refl
    split false e = e

pub somebody : (es : List Expectation) (e : Expectation) → Contains es e → names_who e ≡ true → name_who es ≡ true
somebody es e c asks = let at = place_of es e c in any_at names_who es at.0 e at.1 asks

-- ---- an expectation that names nobody is true where it was

module _ (names : Names) (who : List ℕ → List ℕ) (b : Behaviour) (e : Expectation) (none : names_who e ≡ false) where
  has_there : ends.HasSettling names b e → HasSettling names who b e
  has_there x = (x.0, x.1, settles_unasked names who e x.0 none ∙ x.2)

  has_back : HasSettling names who b e → ends.HasSettling names b e
  has_back x = (x.0, x.1, sym (settles_unasked names who e x.0 none) ∙ x.2)

  true_there : (asks : Bool) → ends.IsTrueIf asks names b e → IsTrueIf asks names who b e
  true_there true x = has_there x
  true_there false x = λ y. x (has_back y)

  true_back : (asks : Bool) → IsTrueIf asks names who b e → ends.IsTrueIf asks names b e
  true_back true x = has_back x
  true_back false x = λ y. x (has_there y)

module _ (ps : Processes) (t : Tree) (r : Tables) (g : Discipline) (read : IsRead t.program) (ok : IsAccepted t) (same : plain r ≡ laid t) (steps most : ℕ) (k : KnownEnds) (h : IsKnown r (discipline_of g) steps most k) where
  abbrev names : Names
  names = with_tables r ps

  abbrev above : List ℕ → List ℕ
  above word = who_on_names t g steps word

  abbrev below : List ℕ → List ℕ
  below word = who_on_slots r (discipline_of g) steps word

  abbrev On : Expectation → Type 0
  On e = HasSettling names above (on_names t g steps) e

  abbrev Below : Expectation → Type 0
  Below e = HasSettling names below (on_slots r (discipline_of g) steps) e

  same_settles : (e : Expectation) (f : Finding) → settles names above e f ≡ settles names below e f
  same_settles e (Ends end word) = ap (λ (v : List ℕ). settles_end ps e v end) (same_after t r g read ok same steps word)
  same_settles e (Shows v word) = refl
  same_settles e (Waits q) = refl

  settling_there : (e : Expectation) → Below e → On e
  settling_there e s = (s.0, there t r g read ok same steps s.0 s.1, same_settles e s.0 ∙ s.2)

  uncut : (e : Expectation) (end : End) (word : List ℕ) → settles names above e (Ends end word) ≡ true → is_cut end ≡ false
  uncut e end word is = by (is_waiting end) refl
    where
      by : (b : Bool) → is_waiting end ≡ b → is_cut end ≡ false
      by true w = subst (λ (x : End). is_cut x ≡ false) (sym (waiting_over end w)) refl
      by false w = settling_uncut names e end word (sym (end_aside e.claim names (above word) e.topics.items end word w) ∙ is)

  settling_back : (e : Expectation) → is_settled e k ≡ true → On e → Below e
  settling_back e s x = by x.0 x.1 x.2
    where
      whole : is_whole k ≡ true
      whole = settled_whole e k s

      by : (f : Finding) → IsSo (on_names t g steps) f → settles names above e f ≡ true → Below e
      by (Ends end word) so is = (Ends end word, end_back t r g read ok same steps most k h whole end word (uncut e end word is) so, sym (same_settles e (Ends end word)) ∙ is)
      by (Shows v word) so is = (Shows v word, shown_back t r g read ok same steps most k h whole v word so, is)
      by (Waits q) so is = (Waits q, waits_back t r g read ok same steps q so, is)

  -- ---- one that names somebody

  holds_named : (e : Expectation) → HoldsOf names below (on_slots r (discipline_of g) steps) k e → IsTrue names above (on_names t g steps) e
  holds_named e (is, why) = by_claim (asks_some e) refl is
    where
      by_claim : (asks : Bool) → asks_some e ≡ asks → IsTrueIf asks names below (on_slots r (discipline_of g) steps) e → IsTrueIf asks names above (on_names t g steps) e
      by_claim true a x = settling_there e x
      by_claim false a x = elim why [ inl asks ↦ absurd (cc (a, asks)) | inr all ↦ λ y. x (settling_back e all y) ]

  true_by : (e : Expectation) (asks : Bool) → asks_some e ≡ asks → IsTrue names above (on_names t g steps) e → IsTrueIf asks names above (on_names t g steps) e
  true_by e asks a is = subst (λ b. IsTrueIf b names above (on_names t g steps) e) a is

  fails_named : (e : Expectation) (against : Option Witness) → IsJudgedToFail (IsJudged names below (on_slots r (discipline_of g) steps) k) e against → IsTrue names above (on_names t g steps) e → ⊥
  fails_named e (Some w) f is = true_by e false f.0 is (settling_there e (finding_of w, f.1, f.2))
  fails_named e None f is = f.1 (settling_back e f.2 (true_by e true f.0 is))

  -- ---- each

  module _ (es : List Expectation) (who : name_who es ≡ true → KnowsWho r (discipline_of g) steps k) where
    holds : (e : Expectation) → Contains es e → IsJudgedAny r ps (discipline_of g) steps k e judgement.Holds → IsTrue names above (on_names t g steps) e
    holds e c j = by (names_who e) refl
      where
        by : (b : Bool) → names_who e ≡ b → IsTrue names above (on_names t g steps) e
        by true asks = holds_named e (j.1 asks (who (somebody es e c asks)))
        by false none = true_there names above (on_names t g steps) e none (asks_some e) (by_first.holds ps t r g read ok same steps most k h e (j.0 none))

    fails : (e : Expectation) (against : Option Witness) → Contains es e → IsJudgedToFail (IsJudgedAny r ps (discipline_of g) steps k) e against → IsTrue names above (on_names t g steps) e → ⊥
    fails e (Some w) c j is = by (names_who e) refl
      where
        by : (b : Bool) → names_who e ≡ b → ⊥
        by true asks = fails_named e (Some w) (j.1 asks (who (somebody es e c asks))) is
        by false none = by_first.fails ps t r g read ok same steps most k h e (Some w) (j.0 none) (true_back names above (on_names t g steps) e none (asks_some e) is)
    fails e None c j is = by (names_who e) refl
      where
        by : (b : Bool) → names_who e ≡ b → ⊥
        by true asks = fails_named e None (j.1 asks (who (somebody es e c asks))) is
        by false none = by_first.fails ps t r g read ok same steps most k h e None (j.0 none) (true_back names above (on_names t g steps) e none (asks_some e) is)

    open_true : (looked : Option ℕ) → IsTrueMark names above (on_names t g steps) es (open_mark looked)
    open_true None = tt
    open_true (Some d) = tt

    by : (v : EndsVerdict) → AreJudged (IsJudgedAny r ps (discipline_of g) steps k) es v → IsTrueMark names above (on_names t g steps) es (mark_of v k.looked)
    by verdict.Holds m = λ e c. holds e c (m e c)
    by (verdict.Fails e against) m = (e.now, m.0, fails e.now against m.0 m.1)
    by (verdict.Open e) m = open_true k.looked

true_mark : (ps : Processes) (t : Tree) (r : Tables) (g : Discipline) (read : IsRead t.program) (ok : IsAccepted t) (same : plain r ≡ laid t) (steps most : ℕ) (es : List Expectation) (m : EndsMark) → IsMarkOf r ps (discipline_of g) steps most es m → IsTrueMark (with_tables r ps) (who_on_names t g steps) (on_names t g steps) es m
true_mark ps t r g read ok same steps most es m x = subst (IsTrueMark (with_tables r ps) (who_on_names t g steps) (on_names t g steps) es) (sym x.is) (by ps t r g read ok same steps most x.known x.is_known es x.who x.verdict x.marked)

pub meant : (r : Tables) (ps : Processes) (discipline : slot_discipline.Discipline) (steps most : ℕ) (es : List Expectation) (m : EndsMark) → IsMarkOf r ps discipline steps most es m → IsMeantMark r ps discipline steps es m
meant r ps discipline steps most es m x = λ t read ok same. true_mark ps t r (named_discipline discipline) read ok same steps most es m (subst (λ d. IsMarkOf r ps d steps most es m) (sym (same_discipline discipline)) x)

-- ---- a verdict by what is known is the mark

module _ {E : Type 0} (r : Tables) (ps : Processes) (discipline : slot_discipline.Discipline) (steps most : ℕ) (es : List Expectation) (k : KnownEnds) (is_known : IsKnown r discipline steps most k) (who : name_who es ≡ true → KnowsWho r discipline steps k) (v : EndsVerdict) (judged : AreJudged (IsJudgedAny r ps discipline steps k) es v) where
  pub marked_so : (told : Result MarkedEnds E) → IfOk told (λ m. m.mark ≡ mark_of v k.looked) → IfOk told (λ m. IsMarkOf r ps discipline steps most es m.mark)
  marked_so told h = IfOk-weaker told (λ m. m.mark ≡ mark_of v k.looked) (λ m. IsMarkOf r ps discipline steps most es m.mark) (λ m is. record { known = k; is_known = is_known; who = who; verdict = v; is = is; marked = judged }) h

  pub meant_so : (told : Result MarkedEnds E) → IfOk told (λ m. m.mark ≡ mark_of v k.looked) → IfOk told (λ m. IsMeantMark r ps discipline steps es m.mark)
  meant_so told h = IfOk-weaker told (λ m. IsMarkOf r ps discipline steps most es m.mark) (λ m. IsMeantMark r ps discipline steps es m.mark) (λ m is. meant r ps discipline steps most es m.mark is) (marked_so told h)
