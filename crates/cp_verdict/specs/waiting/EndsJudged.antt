-- What is known of an expectation that may name who waits at an end.
use Rattle.std.specs.Prelude.{◌≡◌, ◌⊎◌, ◌&&◌, ◌++◌, ℕ, List, [], true, false, not, Option, find, map, option_map, if◌then◌else◌}
use Rattle.std.specs.List.{list_any}
use Rattle.cp_slots.specs.Tables.{Tables}
use Rattle.cp_machine.specs.declared.discipline.Discipline.{Discipline}
use Rattle.cp_ends.specs.declared.end.End.{End}
use Rattle.cp_expectation.specs.declared.expectation.Expectation.{Expectation}
use Rattle.cp_verdict.specs.endless.Behaviour.{Behaviour, Finding, Ends, IsSo, on_slots}
use Rattle.cp_verdict.specs.endless.Expectations.{asks_some}
use Rattle.cp_verdict.specs.endless.Judged as judged
use Rattle.cp_verdict.specs.endless.Judged.{earlier_of}
use Rattle.cp_verdict.specs.endless.Knowledge.{Looked, ended, end_pair, finding_of, is_settled, shown, those_waiting, value_pair, waiting_for_ever}
use Rattle.cp_verdict.specs.endless.Marked.{with_tables}
use Rattle.cp_verdict.specs.endless.Naming.{Names, Processes}
use Rattle.cp_verdict.specs.waiting.Asking.{names_who}
use Rattle.cp_verdict.specs.waiting.Ends.{HasSettling, IsTrue, is_waiting, settles, settles_end}
use Rattle.cp_verdict.specs.waiting.Known.{KnowsWho}
use Rattle.cp_verdict.specs.waiting.Who.{who_on_slots}
use Rattle.cp_verdict.specs.declared.endless.judging.EndsJudgement.{EndsJudgement}
use Rattle.cp_verdict.specs.declared.endless.judging.EndsJudgement.TheVariants.{Holds, Against, Missing, Open}
use Rattle.cp_verdict.specs.declared.endless.known.KnownEnds.{KnownEnds}

-- ---- what is found among what is known

-- by who waits there: of those at which not all wait, or of those at which all wait, the one with the earlier word
abbrev pub found_by_who : Processes → Expectation → KnownEnds → Option Finding
found_by_who ps e k =
    earlier_of (option_map (λ x. ended (end_pair x)) (find (λ x. not (is_waiting x.end) && settles_end ps e [] x.end) k.ends.items))
    (option_map (λ x. ended (end_pair x.end)) (find (λ x. settles_end ps e x.who.items x.end.end) k.waiting.items))

-- the first end that settles an expectation: by who waits there, where it names somebody
abbrev pub found_end : Names → Expectation → KnownEnds → Option Finding
found_end names e k = if names_who e then found_by_who names.processes e k else judged.found_end e.claim names e.topics.items k

abbrev pub found_settling : Names → Expectation → KnownEnds → Option Finding
found_settling names e k = judged.found_by e.claim names e.topics.items k (found_end names e k)

-- ---- judgements

-- it is true, and nothing that is not known could change that: all is known, or it asks for something that is so
abbrev pub HoldsOf : Names → (who : List ℕ → List ℕ) → Behaviour → KnownEnds → Expectation → Type 0
HoldsOf names who b k e = IsTrue names who b e × ((asks_some e ≡ true) ⊎ (is_settled e k ≡ true))

-- it forbids something that is so
abbrev pub IsAgainst : Names → (who : List ℕ → List ℕ) → Behaviour → Expectation → Finding → Type 0
IsAgainst names who b e f = (asks_some e ≡ false) × IsSo b f × (settles names who e f ≡ true)

-- it asks for something that is not so, and all is known
abbrev pub IsMissing : Names → (who : List ℕ → List ℕ) → Behaviour → KnownEnds → Expectation → Type 0
IsMissing names who b k e = (asks_some e ≡ true) × (HasSettling names who b e → ⊥) × (is_settled e k ≡ true)

-- no end that was looked at settles it, nothing else that is known does, and not all is known
abbrev pub IsOpen : Names → (who : List ℕ → List ℕ) → Behaviour → KnownEnds → Expectation → Type 0
IsOpen names who b k e =
    ((end : End) (word : List ℕ) → Looked k.looked b.ends end word → settles names who e (Ends end word) ≡ false) ×
    (list_any (settles names who e) (map waiting_for_ever (those_waiting k.waits) ++ map shown (map value_pair k.values.items)) ≡ false) ×
    (is_settled e k ≡ false)

abbrev pub IsJudged : Names → (who : List ℕ → List ℕ) → Behaviour → KnownEnds → Expectation → EndsJudgement → Type 0
IsJudged names who b k e Holds = HoldsOf names who b k e
IsJudged names who b k e (Against w) = IsAgainst names who b e (finding_of w)
IsJudged names who b k e Missing = IsMissing names who b k e
IsJudged names who b k e Open = IsOpen names who b k e

abbrev pub IsJudgedOnSlots : Tables → Processes → Discipline → (steps : ℕ) → KnownEnds → Expectation → EndsJudgement → Type 0
IsJudgedOnSlots r ps discipline steps k e j = IsJudged (with_tables r ps) (who_on_slots r discipline steps) (on_slots r discipline steps) k e j

-- One that names nobody is judged by the first that settles it; one that names somebody, where it is known who waits.
abbrev pub IsJudgedAny : Tables → Processes → Discipline → (steps : ℕ) → KnownEnds → Expectation → EndsJudgement → Type 0
IsJudgedAny r ps discipline steps k e j =
    (names_who e ≡ false → judged.IsJudged (with_tables r ps) (on_slots r discipline steps) k e j) ×
    (names_who e ≡ true → KnowsWho r discipline steps k → IsJudgedOnSlots r ps discipline steps k e j)

abbrev pub IsJudgedByAny : Names → KnownEnds → Expectation → EndsJudgement → Type 0
IsJudgedByAny names k e j = names_who e ≡ false → judged.IsJudgedBy names k e j
