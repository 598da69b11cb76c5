-- What is known of an expectation.
use Rattle.std.specs.Prelude.{◌≡◌, ◌⊎◌, Bool, true, false, List, find, map, Option, None, Some, option_map, if◌then◌else◌}
use Rattle.std.specs.Option.{option_or}
use Rattle.cp_ends.specs.Firsts.{is_up_to}
use Rattle.cp_expectation.specs.declared.expectation.Claim.{Claim}
use Rattle.cp_expectation.specs.declared.expectation.Claim.TheVariants.{Only}
use Rattle.cp_expectation.specs.declared.expectation.Expectation.{Expectation}
use Rattle.cp_expectation.specs.declared.expectation.Topic.{Topic}
use Rattle.cp_verdict.specs.endless.Behaviour.{Behaviour, Finding, IsSo, is_same_sort, word_of}
use Rattle.cp_verdict.specs.endless.Expectations.{HasSettling, IsTrue, asks_some, is_about, settles, settles_by}
use Rattle.cp_verdict.specs.endless.Knowledge.{ended, end_pair, finding_of, is_settled, shown, those_waiting, value_pair, waiting_for_ever}
use Rattle.cp_verdict.specs.endless.Naming.{Names}
use Rattle.cp_verdict.specs.declared.endless.judging.EndsJudgement.{EndsJudgement}
use Rattle.cp_verdict.specs.declared.endless.judging.EndsJudgement.TheVariants.{Holds, Against, Missing, Open}
use Rattle.cp_verdict.specs.declared.endless.known.KnownEnds.{KnownEnds}
use Rattle.cp_verdict.specs.declared.endless.known.Witness.{Witness}

-- It is so and settles the expectation, and no earlier word of its sort does.
pub record IsFirstOf (names : Names) (b : Behaviour) (e : Expectation) (f : Finding) : Type 0 where
  pub is_so : IsSo b f
  pub settling : settles names e f ≡ true
  pub first : (g : Finding) → IsSo b g → settles names e g ≡ true → is_same_sort f g ≡ true → is_up_to (word_of f) (word_of g) ≡ true

-- ---- what is found among what is known

-- of two findings the one with the first word
abbrev pub earlier_of : Option Finding → Option Finding → Option Finding
earlier_of None other = other
earlier_of (Some f) None = Some f
earlier_of (Some f) (Some g) = if is_up_to (word_of f) (word_of g) then Some f else Some g

-- the first of which the topics speak, where this is the first end: who waits, or else the earlier one of ends and values
abbrev pub found_about : Names → List Topic → KnownEnds → (end : Option Finding) → Option Finding
found_about names ts k end = option_or (find (is_about names ts) (map waiting_for_ever (those_waiting k.waits))) (earlier_of end (find (is_about names ts) (map shown (map value_pair k.values.items))))

-- only ends are against `only`
abbrev pub found_by : Claim → Names → List Topic → KnownEnds → (end : Option Finding) → Option Finding
found_by Only names ts k end = end
found_by c names ts k end = found_about names ts k end

-- the first end that settles an expectation
abbrev pub found_end : Claim → Names → List Topic → KnownEnds → Option Finding
found_end c names ts k = find (settles_by c names ts) (map ended (map end_pair k.ends.items))

-- what is found to settle an expectation
abbrev pub found_settling : Names → Expectation → KnownEnds → Option Finding
found_settling names e k = found_by e.claim names e.topics.items k (found_end e.claim names e.topics.items k)

-- ---- judgements

-- it is true, and nothing that is not known could change that: all is known, or it asks for something that is so
abbrev pub HoldsOf : Names → Behaviour → KnownEnds → Expectation → Type 0
HoldsOf names b k e = IsTrue names b e × ((asks_some e ≡ true) ⊎ (is_settled e k ≡ true))

-- it forbids something that is so: first by this word
abbrev pub IsAgainst : Names → Behaviour → Expectation → Finding → Type 0
IsAgainst names b e f = (asks_some e ≡ false) × IsFirstOf names b e f

-- it asks for something that is not so, and all is known
abbrev pub IsMissing : Names → Behaviour → KnownEnds → Expectation → Type 0
IsMissing names b k e = (asks_some e ≡ true) × (HasSettling names b e → ⊥) × (is_settled e k ≡ true)

-- nothing that is known settles it, and not all is known
abbrev pub IsOpen : Names → KnownEnds → Expectation → Type 0
IsOpen names k e = (found_settling names e k ≡ None) × (is_settled e k ≡ false)

abbrev pub IsJudged : Names → Behaviour → KnownEnds → Expectation → EndsJudgement → Type 0
IsJudged names b k e Holds = HoldsOf names b k e
IsJudged names b k e (Against w) = IsAgainst names b e (finding_of w)
IsJudged names b k e Missing = IsMissing names b k e
IsJudged names b k e Open = IsOpen names k e

-- the judgement from what settles it first, and whether all is known
abbrev pub judgement_of : (asks : Bool) → Option Witness → (settled : Bool) → EndsJudgement
judgement_of true (Some w) settled = Holds
judgement_of true None true = Missing
judgement_of true None false = Open
judgement_of false (Some w) settled = Against w
judgement_of false None true = Holds
judgement_of false None false = Open

-- it is the judgement by the first that is known to settle it
abbrev pub IsJudgedBy : Names → KnownEnds → Expectation → EndsJudgement → Type 0
IsJudgedBy names k e j = (found : Option Witness) × (option_map finding_of found ≡ found_settling names e k) × (j ≡ judgement_of (asks_some e) found (is_settled e k))
