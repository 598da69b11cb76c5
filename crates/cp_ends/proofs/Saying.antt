-- What the code's search answers is what the words of the machine that shows nothing lead to.
use Rattle.std.proofs.Common.{◌≡◌, ℕ, [], ◌∷◌, ◌++◌, Option, None, Some, suc, length, ap, refl, sym, subst, arith}
use Rattle.std.specs.Prelude.{Decides, IfOk, Result}
use Rattle.cp_ends.proofs.Vocabulary.{bytes_decides, IsRead, Tree, plain, laid, Tables, IsAccepted, key_of, Machine, Discipline, Shown, slots, without_output, Graph}
use Rattle.cp_ends.proofs.Vocabulary.{Findings, gone_on, searched, Found, MOST_VALUES}
use Rattle.cp_machine_laws.specs.Named.{named_discipline, discipline_of}
use Rattle.cp_machine_laws.proofs.Disciplines.{same_discipline}
use Rattle.cp_key.proofs.Keys.{key_tells}
use Rattle.cp_ends.specs.Answer.{ends_tests, slot_graph, with_shown, IsDone, IsStopped, IsSearch}
use Rattle.cp_ends.specs.Holds.{same_key, SlotFindings, Holds, HasFindings}
use Rattle.cp_ends.specs.Firsts.{those_within}
use Rattle.cp_ends.specs.Named.{IsAnswerOnNames, IsAnswerToOnNames}
use Rattle.cp_ends.specs.Whole.{IsWhole, IsCutShort, IsAnswer, IsAnswerBy, IsMeantBy}
use Rattle.cp_ends.specs.declared.end.End.{End}
use Rattle.cp_ends.proofs.Answering.{answers_whole, answers_cut}
use Rattle.cp_ends.proofs.GoingOn.{ok_to}
use Rattle.cp_ends.proofs.Searching.Growing.{going_at}
use Rattle.cp_ends.proofs.Telling.{ends_told, values_told}
use Rattle.cp_ends.proofs.named.OnNames.{answer_means, answer_to_means}

states_told : (m n : Machine) → Decides (same_key m n) (m ≡ n)
unfolding same_key
states_told m n = let d = bytes_decides (key_of m) (key_of n) in (λ h. key_tells m n (d.0 h), λ e. d.1 (ap key_of e))

-- ---- on names

module _ (r : Tables) (steps : ℕ) (t : Tree) (read : IsRead t.program) (accepted : IsAccepted t) (laid_so : plain r ≡ laid t) (f : Findings Machine End Shown) where
  whole_means : (discipline : Discipline) (most : ℕ) → IsWhole (slots r discipline) without_output steps most f → IsAnswerOnNames t (named_discipline discipline) steps (suc MOST_VALUES) f.ends f.values
  whole_means discipline most w =
      let v : IsWhole (slots r (discipline_of (named_discipline discipline))) without_output steps most f = subst (λ d. IsWhole (slots r d) without_output steps most f) (sym (same_discipline discipline)) w in
      answer_means t r (named_discipline discipline) read accepted laid_so steps (suc MOST_VALUES) f.states f.ends f.values (record { all_states = v.states; all_ends = v.ends; all_values = v.values })

  cut_means : (discipline : Discipline) (most d : ℕ) → IsCutShort (slots r discipline) without_output steps most d f → IsAnswerToOnNames t (named_discipline discipline) steps d (suc MOST_VALUES) (those_within d f.ends) (those_within d f.values)
  cut_means discipline most d w =
      let v : IsCutShort (slots r (discipline_of (named_discipline discipline))) without_output steps most d f = subst (λ e. IsCutShort (slots r e) without_output steps most d f) (sym (same_discipline discipline)) w in
      answer_to_means t r (named_discipline discipline) read accepted laid_so steps d (suc MOST_VALUES) (those_within d f.ends) (those_within d f.values) (record { all_ends = v.ends; all_values = v.values })

  means : (discipline : Discipline) (most : ℕ) (stopped : Option ℕ) → IsAnswerBy r discipline steps most f stopped → IsMeantBy t (named_discipline discipline) steps f stopped
  means discipline most None w = whole_means discipline most w
  means discipline most (Some at) (x, is, cut) = (x, is, cut_means discipline most (length x.1) cut)

-- ---- on slots

module _ (r : Tables) (discipline : Discipline) (steps most : ℕ) (found : Found) where
  answers : (f : Findings Machine End Shown) → Holds r found f → IsAnswerBy r discipline steps most f found.stopped → IsAnswer r discipline steps most found
  answers f holds by =
      record {
        findings = f;
        holds = holds;
        answer = by;
        meaning = λ t read accepted laid_so. means r steps t read accepted laid_so f discipline most found.stopped by;
      }

  abbrev g : Graph Machine End Shown
  g = slot_graph r discipline steps

  pub done_whole : (d : IsDone r g most found) → IsWhole (slots r discipline) without_output steps most (searched g ends_tests d.count)
  done_whole d = answers_whole (slots r discipline) without_output same_key steps states_told ends_tests.end ends_told ends_tests.value values_told d.count most (let n = d.states in omega (arith, n)) (let n = d.states in let few = d.few in omega (arith, n, few))

  done : IsDone r g most found → None ≡ found.stopped → IsAnswer r discipline steps most found
  done d e = answers (searched g ends_tests d.count) d.holds (subst (IsAnswerBy r discipline steps most (searched g ends_tests d.count)) e (done_whole d))

  module _ (at : ℕ) (s : IsStopped r g most found at) where
    -- what was found when there was a state too many
    abbrev last : SlotFindings
    last = with_shown (gone_on g ends_tests s.from s.stops.number (searched g ends_tests at)) (s.from.1 ++ s.stops.number ∷ []) (g.on s.from.0 s.stops.number)

    cut_short : Some at ≡ found.stopped → IsAnswer r discipline steps most found
    cut_short e =
        answers last s.stops.holds (subst (IsAnswerBy r discipline steps most last) e
        (s.from, going_at g ends_tests s.from s.stops.number (searched g ends_tests at) at s.from s.is, answers_cut (slots r discipline) without_output same_key steps states_told ends_tests.end ends_told ends_tests.value values_told at most s.from s.stops.number s.is s.stops.may s.stops.state s.stops.goal s.stops.new s.stops.full))

  by : (stopped : Option ℕ) → IsSearch r g most found stopped → stopped ≡ found.stopped → IsAnswer r discipline steps most found
  by None d e = done d e
  by (Some at) s e = cut_short at s e

  pub says : IsSearch r g most found found.stopped → IsAnswer r discipline steps most found
  says h = by found.stopped h refl

-- the answer of a search among as many states as are wanted
pub says_of : {E : Type 0} (r : Tables) (discipline : Discipline) (steps most states : ℕ) → states ≡ most → (result : Result Found E) → IfOk result (λ found. IsSearch r (slot_graph r discipline steps) states found found.stopped) → IfOk result (λ found. IsAnswer r discipline steps most found)
says_of r discipline steps most states e result h = ok_to result _ _ h (λ found s. subst (λ n. IsAnswer r discipline steps n found) e (says r discipline steps states found s))

pub has_findings : {E : Type 0} (r : Tables) (discipline : Discipline) (steps states : ℕ) (result : Result Found E) → IfOk result (λ found. IsSearch r (slot_graph r discipline steps) states found found.stopped) → IfOk result (λ found. HasFindings r found)
has_findings r discipline steps states result h = ok_to result _ _ h (λ found s. let a = says r discipline steps states found s in (a.findings, a.holds))
