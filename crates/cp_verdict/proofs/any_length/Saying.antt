-- What is said with a mark, one function after the other.
use Rattle.std.proofs.Common.{◌≡◌, inl, inr, ◌∙◌, ◌+◌, ◌<◌, ◌≤◌, ℕ, Bool, List, [], ◌∷◌, ◌++◌, length, get_or, take, ap, subst, sym}
use Rattle.std.specs.Prelude.{IfOk, Ok, Err, Result, string_bytes}
use Rattle.std.specs.declared.alloc.Global.{Global}
use Rattle.std.specs.declared.vec.Vec.{Vec}
use Rattle.cp_slots.specs.Tables.{Tables}
use Rattle.cp_machine.specs.declared.discipline.Discipline.{Discipline}
use Rattle.cp_expectation.specs.declared.expectation.Expectation.{Expectation}
use Rattle.cp_verdict.specs.endless.Knowledge.{is_whole, stops_of}
use Rattle.cp_verdict.specs.endless.Marked.{AreJudged, mark_of}
use Rattle.cp_verdict.specs.endless.Naming.{Processes}
use Rattle.cp_verdict.specs.endless.Said.{AreSaid, IsJudgedAs, IsKnownBy, IsSaid, IsSaidAlone, IsSaidBy, IsSaidOf, last_text, note_text}
use Rattle.cp_verdict.specs.declared.endless.judging.EndsJudgement.{EndsJudgement}
use Rattle.cp_verdict.specs.declared.endless.known.KnownEnds.{KnownEnds}
use Rattle.cp_verdict.specs.declared.endless.saying.MarkedEnds.{MarkedEnds}
use Rattle.cp_verdict.specs.declared.endless.saying.Said.{Said}
use Rattle.cp_verdict.specs.declared.endless.verdict.EndsMark.{EndsMark}
use Rattle.cp_verdict.specs.declared.endless.verdict.EndsVerdict.{EndsVerdict}
use Rattle.cp_verdict.proofs.who.Verdicts.{judged_all, judged_more, judged_none}

-- ---- each expectation

module _ (ps : Processes) (at_once : Bool) (k : KnownEnds) (J : Expectation → EndsJudgement → Type 0) (es : List Expectation) where
  abbrev Says : Expectation → Said → Type 0
  Says e s = (j : EndsJudgement) × J e j × IsSaidOf ps at_once k e j s

  pub said_none : (all : List Said) → all ≡ [] → AreSaid ps at_once k J (take 0 es) all
  said_none all is = judged_none Says es all is

  pub said_more : (i : ℕ) (e : Expectation) (before all : List Said) (said : Said) (j : EndsJudgement) → i < length es → e ≡ get_or es i e → all ≡ before ++ said ∷ [] → AreSaid ps at_once k J (take i es) before → J e j → IsSaidOf ps at_once k e j said → AreSaid ps at_once k J (take (i + 1) es) all
  said_more i e before all said j less item is m judged h = judged_more Says es i e before all said less item is m (j, judged, h)

  pub said_all : (i : ℕ) (all : List Said) → length es ≤ i → AreSaid ps at_once k J (take i es) all → AreSaid ps at_once k J es all
  said_all i all le m = judged_all Says es i all le m

-- ---- together

module _ (at_once : Bool) (r : Tables) (ps : Processes) (discipline : Discipline) (steps most : ℕ) (es : List Expectation) where
  pub alone : (m : MarkedEnds) → IsSaidAlone at_once r ps discipline steps most es m → IsSaid r ps discipline steps most es m
  alone m h = (at_once, h.0, inl h.1)

  module _ {E : Type 0} where
    pub said_alone : (k : KnownEnds) → IsKnownBy at_once r discipline steps most es k → (v : EndsVerdict) → AreJudged (IsJudgedAs at_once r ps discipline steps k) es v → (told : Result MarkedEnds E)
        → IfOk told (λ m. m.mark ≡ mark_of v k.looked) → IfOk told (λ m. AreSaid ps at_once k (IsJudgedAs at_once r ps discipline steps k) es m.each.items) → IfOk told (λ m. m.stops ≡ stops_of k)
        → IfOk told (λ m. string_bytes m.note ≡ note_text most at_once m.mark (is_whole k)) → IfOk told (λ m. string_bytes m.last ≡ []) → IfOk told (IsSaidAlone at_once r ps discipline steps most es)
    said_alone k known v judged (Ok m) mark each stops note last = (record { known = k; is_known = known; verdict = v; judged = judged; mark = mark; each = each; stops = stops; note = note }, last)
    said_alone k known v judged (Err e) mark each stops note last = tt

    pub if_alone : (told : Result MarkedEnds E) → IfOk told (IsSaidAlone at_once r ps discipline steps most es) → IfOk told (IsSaid r ps discipline steps most es)
    if_alone (Ok m) h = alone m h
    if_alone (Err e) h = tt

    pub with_line : (before : MarkedEnds) → IsSaidAlone at_once r ps discipline steps most es before → (line : List ℕ) → line ≡ last_text most at_once → (told : Result MarkedEnds E)
        → IfOk told (λ m. m.mark ≡ before.mark) → IfOk told (λ m. m.note ≡ before.note) → IfOk told (λ m. m.each ≡ before.each) → IfOk told (λ m. m.stops ≡ before.stops)
        → IfOk told (λ m. string_bytes m.last ≡ string_bytes before.last ++ line) → IfOk told (IsSaid r ps discipline steps most es)
    with_line before said line which (Err e) mark note each stops last = tt
    with_line before said line which (Ok m) mark note each stops last =
        let by : IsSaidBy at_once r ps discipline steps most es before = said.0 in (
          at_once,
          record {
            known = by.known;
            is_known = by.is_known;
            verdict = by.verdict;
            judged = by.judged;
            mark = mark ∙ by.mark;
            each = subst (λ (v : Vec Said Global). AreSaid ps at_once by.known (IsJudgedAs at_once r ps discipline steps by.known) es v.items) (sym each) by.each;
            stops = stops ∙ by.stops;
            note = ap string_bytes note ∙ by.note ∙ ap (λ (k : EndsMark). note_text most at_once k (is_whole by.known)) (sym mark);
          },
          inr (last ∙ ap (λ l. l ++ line) said.1 ∙ which),
        )
