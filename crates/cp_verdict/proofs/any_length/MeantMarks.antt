-- A mark by what is known of the slot machine is true of the program on its own names.
use Rattle.std.proofs.Common.{false, refl}
use Rattle.cp_verdict.proofs.any_length.Vocabulary.{◌≡◌, inl, inr, ℕ, Bool, true, list_all, List, sym, subst, Option, None, Some, Tree, IsRead, plain, laid, Tables, IsAccepted, IsKnown}
use Rattle.cp_verdict.proofs.any_length.Vocabulary.{finding_of, is_kept, is_settled, is_whole, Expectation, KnownEnds, Names, Processes, Witness, EndsVerdict}
use Rattle.cp_machine.specs.declared.discipline.Discipline as slot_discipline
use Rattle.cp_machine_laws.proofs.Disciplines.{same_discipline}
use Rattle.cp_meaning.specs.State.{Discipline}
use Rattle.cp_machine_laws.specs.Named.{discipline_of, named_discipline}
use Rattle.cp_verdict.specs.endless.Behaviour.{on_slots, on_names}
use Rattle.cp_verdict.specs.endless.Expectations.{HasSettling, IsTrue, IsTrueIf, asks_some}
use Rattle.cp_verdict.specs.endless.Judged.{HoldsOf, IsJudged}
use Rattle.cp_verdict.specs.endless.Marked.{IsJudgedToFail, IsMarked, IsMarkOf, IsMeantMark, IsTrueMark, mark_of, open_mark, with_tables}
use Rattle.cp_verdict.specs.declared.endless.verdict.EndsMark.{EndsMark}
use Rattle.cp_verdict.specs.declared.endless.verdict.EndsVerdict.TheVariants as verdict
use Rattle.cp_verdict.proofs.any_length.Judgements.{both}
use Rattle.cp_verdict.proofs.any_length.Meant.{back, there}

pub settled_whole : (e : Expectation) (k : KnownEnds) → is_settled e k ≡ true → is_whole k ≡ true
settled_whole e k s = (both (is_whole k) (list_all (λ t. is_kept t k) e.topics.items) s).0

module _ (ps : Processes) (t : Tree) (r : Tables) (g : Discipline) (read : IsRead t.program) (ok : IsAccepted t) (same : plain r ≡ laid t) (steps most : ℕ) (k : KnownEnds) (h : IsKnown r (discipline_of g) steps most k) where
  abbrev names : Names
  names = with_tables r ps

  abbrev On : Expectation → Type 0
  On e = HasSettling names (on_names t g steps) e

  abbrev Below : Expectation → Type 0
  Below e = HasSettling names (on_slots r (discipline_of g) steps) e

  settling_there : (e : Expectation) → Below e → On e
  settling_there e s = (s.0, there t r g read ok same steps s.0 s.1, s.2)

  settling_back : (e : Expectation) → is_settled e k ≡ true → On e → Below e
  settling_back e s x = back t r g read ok same steps most k h (settled_whole e k s) names e x.0 x.1 x.2

  -- what holds is true
  pub holds : (e : Expectation) → HoldsOf names (on_slots r (discipline_of g) steps) k e → IsTrue names (on_names t g steps) e
  holds e (is, why) = by_claim (asks_some e) refl is
    where
      by_claim : (asks : Bool) → asks_some e ≡ asks → IsTrueIf asks names (on_slots r (discipline_of g) steps) e → IsTrueIf asks names (on_names t g steps) e
      by_claim true a x = settling_there e x
      by_claim false a x = elim why [ inl asks ↦ absurd (cc (a, asks)) | inr all ↦ λ y. x (settling_back e all y) ]

  true_by : (e : Expectation) (asks : Bool) → asks_some e ≡ asks → IsTrue names (on_names t g steps) e → IsTrueIf asks names (on_names t g steps) e
  true_by e asks a is = subst (λ b. IsTrueIf b names (on_names t g steps) e) a is

  -- what fails is not
  pub fails : (e : Expectation) (against : Option Witness) → IsJudgedToFail (IsJudged names (on_slots r (discipline_of g) steps) k) e against → IsTrue names (on_names t g steps) e → ⊥
  fails e (Some w) f is = true_by e false f.0 is (settling_there e (finding_of w, f.1.is_so, f.1.settling))
  fails e None f is = f.1 (settling_back e f.2 (true_by e true f.0 is))

  module _ (es : List Expectation) where
    open_true : (looked : Option ℕ) → IsTrueMark names (on_names t g steps) es (open_mark looked)
    open_true None = tt
    open_true (Some d) = tt

    by : (v : EndsVerdict) → IsMarked names (on_slots r (discipline_of g) steps) k es v → IsTrueMark names (on_names t g steps) es (mark_of v k.looked)
    by verdict.Holds m = λ e c. holds e (m e c)
    by (verdict.Fails e against) m = (e.now, m.0, fails e.now against m.1)
    by (verdict.Open e) m = open_true k.looked

true_mark : (ps : Processes) (t : Tree) (r : Tables) (g : Discipline) (read : IsRead t.program) (ok : IsAccepted t) (same : plain r ≡ laid t) (steps most : ℕ) (es : List Expectation) (m : EndsMark) → IsMarkOf r ps (discipline_of g) steps most es m → IsTrueMark (with_tables r ps) (on_names t g steps) es m
true_mark ps t r g read ok same steps most es m x = subst (IsTrueMark (with_tables r ps) (on_names t g steps) es) (sym x.is) (by ps t r g read ok same steps most x.known x.is_known es x.verdict x.marked)

pub meant : (r : Tables) (ps : Processes) (discipline : slot_discipline.Discipline) (steps most : ℕ) (es : List Expectation) (m : EndsMark) → IsMarkOf r ps discipline steps most es m → IsMeantMark r ps discipline steps es m
meant r ps discipline steps most es m x = λ t read ok same. true_mark ps t r (named_discipline discipline) read ok same steps most es m (subst (λ d. IsMarkOf r ps d steps most es m) (sym (same_discipline discipline)) x)
