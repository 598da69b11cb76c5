-- What is known of some expectations together, where they may name who waits at an end.
use Rattle.std.specs.Prelude.{◌≡◌, ℕ, List, true, Contains}
use Rattle.cp_slots.specs.Tables.{Tables}
use Rattle.cp_machine.specs.declared.discipline.Discipline.{Discipline}
use Rattle.cp_machine_laws.specs.Named.{named_discipline}
use Rattle.cp_ends.specs.Whole.{OfItsPrograms}
use Rattle.cp_expectation.specs.declared.expectation.Expectation.{Expectation}
use Rattle.cp_verdict.specs.endless.Behaviour.{Behaviour, on_names}
use Rattle.cp_verdict.specs.endless.Knowledge.{IsKnown}
use Rattle.cp_verdict.specs.endless.Marked.{AreJudged, mark_of, with_tables}
use Rattle.cp_verdict.specs.endless.Naming.{Names, Processes}
use Rattle.cp_verdict.specs.waiting.Asking.{name_who}
use Rattle.cp_verdict.specs.waiting.Ends.{IsTrue}
use Rattle.cp_verdict.specs.waiting.EndsJudged.{IsJudgedAny}
use Rattle.cp_verdict.specs.waiting.Known.{KnowsWho}
use Rattle.cp_verdict.specs.waiting.Who.{who_on_names}
use Rattle.cp_verdict.specs.declared.endless.known.KnownEnds.{KnownEnds}
use Rattle.cp_verdict.specs.declared.endless.verdict.EndsMark.{EndsMark}
use Rattle.cp_verdict.specs.declared.endless.verdict.EndsMark.TheVariants as mark
use Rattle.cp_verdict.specs.declared.endless.verdict.EndsVerdict.{EndsVerdict}

-- The mark is that of a verdict by what is known, which is all that words of any length lead to, or all that words of so many numbers do; where somebody is
-- named, so is who waits.
pub record IsMarkOf (r : Tables) (ps : Processes) (discipline : Discipline) (steps most : ℕ) (es : List Expectation) (m : EndsMark) : Type 0 where
  pub known : KnownEnds
  pub is_known : IsKnown r discipline steps most known
  pub who : name_who es ≡ true → KnowsWho r discipline steps known
  pub verdict : EndsVerdict
  pub is : m ≡ mark_of verdict known.looked
  pub marked : AreJudged (IsJudgedAny r ps discipline steps known) es verdict

-- each holds, or one does not
abbrev pub IsTrueMark : Names → (who : List ℕ → List ℕ) → Behaviour → List Expectation → EndsMark → Type 0
IsTrueMark names who b es mark.Holds = (e : Expectation) → Contains es e → IsTrue names who b e
IsTrueMark names who b es mark.Fails = (e : Expectation) × Contains es e × (IsTrue names who b e → ⊥)
IsTrueMark names who b es m = Unit {0}

-- of whatever program was read, is accepted, and has these tables: it is true of its meaning
abbrev pub IsMeantMark : Tables → Processes → Discipline → ℕ → List Expectation → EndsMark → Type 0
IsMeantMark r ps discipline steps es m =
    OfItsPrograms r (λ t. IsTrueMark (with_tables r ps) (who_on_names t (named_discipline discipline) steps) (on_names t (named_discipline discipline) steps) es m)
