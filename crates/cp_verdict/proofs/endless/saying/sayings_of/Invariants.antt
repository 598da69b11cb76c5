use Rattle.cp_verdict.proofs.any_length.Vocabulary.{ℕ, take, Discipline, Tables, Spellings, HasTexts, IsKnown}
use Rattle.cp_verdict.specs.endless.Naming.{processes_of}
use Rattle.cp_verdict.specs.endless.Said.{AreSaid}
use Rattle.cp_verdict.specs.waiting.EndsJudged.{IsJudgedAny, IsJudgedByAny}
use Rattle.cp_verdict.proofs.endless.saying.sayings_of.Given as goal

abbrev pub invariant-loop-expectation : goal.invariant-loop-expectation
invariant-loop-expectation l =
    record {
      slots : (r : Tables) (discipline : Discipline) (steps most : ℕ) → IsKnown r discipline steps most l.known → AreSaid (processes_of l.legend) l.at_once l.known (IsJudgedAny r (processes_of l.legend) discipline steps l.known) (take l.expectation-index l.list) l.each.items;
      known : (names : Spellings) → HasTexts names l.known.values.items → AreSaid (processes_of l.legend) l.at_once l.known (IsJudgedByAny (record { values = names; processes = processes_of l.legend }) l.known) (take l.expectation-index l.list) l.each.items;
    }
