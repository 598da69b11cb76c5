-- What the code finds first is what settles an expectation first.
use Rattle.cp_verdict.proofs.any_length.Vocabulary.{◌≡◌, ◌∙◌, List, map, sym, ap, find, Option, Some, None, option_map, string_bytes, Bor}
use Rattle.cp_verdict.proofs.any_length.Vocabulary.{HasTexts, KnownEnd, KnownEnds, KnownValue, Names, Processes, Spellings, Waiting, Witness}
use Rattle.std.proofs.Common.{◌&&◌, Bool, [], ◌∷◌, cond, false, not, refl, if◌then◌else◌}
use Rattle.std.specs.List.{list_any}
use Rattle.std.specs.Option.{option_or}
use Rattle.std.specs.Prelude.{◌≢◌}
use Rattle.cp_expectation.specs.declared.expectation.Claim.{Claim}
use Rattle.cp_expectation.specs.declared.expectation.Claim.TheVariants.{Never, Sometimes, Only}
use Rattle.cp_expectation.specs.declared.expectation.Expectation.{Expectation}
use Rattle.cp_expectation.specs.declared.expectation.Topic.{Topic}
use Rattle.cp_verdict.specs.Outputs.{value_text}
use Rattle.cp_verdict.specs.endless.Expectations.{is_about, is_value_named, is_waiting_named, settles_by}
use Rattle.cp_verdict.specs.endless.Behaviour.{Finding}
use Rattle.cp_verdict.specs.endless.Judged as by_first
use Rattle.cp_verdict.specs.endless.Judged.{earlier_of, found_about, found_by}
use Rattle.cp_verdict.specs.endless.Knowledge.{ended, end_pair, finding_of, shown, those_waiting, value_pair, waiting_for_ever}
use Rattle.cp_verdict.specs.waiting.Asking.{is_of_who, names_who}
use Rattle.cp_verdict.specs.waiting.Ends.{is_waiting, settles_end, settles_end_by}
use Rattle.cp_verdict.specs.waiting.EndsJudged.{found_by_who, found_end}
use Rattle.cp_verdict.specs.declared.endless.known.KnownWaitingEnd.{KnownWaitingEnd}
use Rattle.cp_verdict.proofs.any_length.Finding.{find_map, find_same, found_told, map_map, map_twice}
use Rattle.cp_verdict.proofs.who.Tests.{end_unasked}

-- ---- the first end

-- one of two words
pub earlier_told : (o p : Option Finding) (first second : Option Witness) (result : Option Witness) → option_map finding_of first ≡ o → option_map finding_of second ≡ p → option_map finding_of result ≡ earlier_of (option_map finding_of first) (option_map finding_of second) → option_map finding_of result ≡ earlier_of o p
earlier_told o p first second result f s is = is ∙ ap (λ x. earlier_of x (option_map finding_of second)) f ∙ ap (earlier_of o) s

-- by who waits there
pub told_by_who : (ps : Processes) (e : Expectation) (k : KnownEnds) (other : Option (Bor KnownEnd)) (one : Option (Bor KnownWaitingEnd)) (first second result : Option Witness) →
    option_map (λ x. x.now) other ≡ find (λ x. not (is_waiting x.end) && settles_end ps e [] x.end) k.ends.items → option_map (λ x. x.now) one ≡ find (λ x. settles_end ps e x.who.items x.end.end) k.waiting.items →
    option_map finding_of first ≡ option_map (λ x. ended (end_pair x.now)) other → option_map finding_of second ≡ option_map (λ x. ended (end_pair x.now.end)) one →
    option_map finding_of result ≡ earlier_of (option_map finding_of first) (option_map finding_of second) → option_map finding_of result ≡ found_by_who ps e k
told_by_who ps e k other one first second result others ones f s is =
    earlier_told (option_map (λ x. ended (end_pair x)) (find (λ x. not (is_waiting x.end) && settles_end ps e [] x.end) k.ends.items)) (option_map (λ x. ended (end_pair x.end)) (find (λ x. settles_end ps e x.who.items x.end.end) k.waiting.items)) first second result
    (f ∙ map_twice (λ (x : Bor KnownEnd). x.now) (λ (x : KnownEnd). ended (end_pair x)) other ∙ ap (option_map (λ (x : KnownEnd). ended (end_pair x))) others)
    (s ∙ map_twice (λ (x : Bor KnownWaitingEnd). x.now) (λ (x : KnownWaitingEnd). ended (end_pair x.end)) one ∙ ap (option_map (λ (x : KnownWaitingEnd). ended (end_pair x.end))) ones) is

-- where nobody is named, whoever waits there
end_unnamed : (c : Claim) (names : Names) (ts : List Topic) (xs : List KnownEnd) → list_any is_of_who ts ≡ false → option_map (λ x. ended (end_pair x)) (find (λ x. settles_end_by c names.processes ts [] x.end) xs) ≡ find (settles_by c names ts) (map ended (map end_pair xs))
end_unnamed c names ts xs none =
    ap (option_map (λ (x : KnownEnd). ended (end_pair x))) (find_same (λ (x : KnownEnd). settles_end_by c names.processes ts [] x.end) (λ (x : KnownEnd). settles_by c names ts (ended (end_pair x))) xs (λ x. end_unasked c names [] ts x.end x.word.items none)) ∙
    sym (find_map (λ (x : KnownEnd). ended (end_pair x)) (settles_by c names ts) xs) ∙ ap (find (settles_by c names ts)) (sym (map_map end_pair ended xs))

pub told_plainly : (names : Names) (e : Expectation) (k : KnownEnds) (found : Option (Bor KnownEnd)) (result : Option Witness) → names_who e ≡ false → option_map (λ x. x.now) found ≡ find (λ x. settles_end names.processes e [] x.end) k.ends.items → option_map finding_of result ≡ option_map (λ x. ended (end_pair x.now)) found → option_map finding_of result ≡ by_first.found_end e.claim names e.topics.items k
told_plainly names e k found result none here is =
    is ∙ map_twice (λ (x : Bor KnownEnd). x.now) (λ (x : KnownEnd). ended (end_pair x)) found ∙ ap (option_map (λ (x : KnownEnd). ended (end_pair x))) here ∙ end_unnamed e.claim names e.topics.items k.ends.items none

-- which of the two it is
pub end_is : (names : Names) (e : Expectation) (k : KnownEnds) (b : Bool) → names_who e ≡ b → found_end names e k ≡ (if b then found_by_who names.processes e k else by_first.found_end e.claim names e.topics.items k)
end_is names e k b is = ap (λ c. if c then found_by_who names.processes e k else by_first.found_end e.claim names e.topics.items k) is

-- ---- values, and who waits for ever

-- by the texts of values
text_found : (values : Spellings) (ts : List Topic) (vs : List KnownValue) → HasTexts values vs → find (λ v. is_value_named ts (string_bytes v.text)) vs ≡ find (λ v. is_value_named ts (value_text values v.value)) vs
text_found values ts [] h = refl
text_found values ts (v ∷ vs) h =
    let first : string_bytes v.text ≡ value_text values v.value = cc in
    let rest : map (λ (v : KnownValue). string_bytes v.text) vs ≡ map (λ (v : KnownValue). value_text values v.value) vs = cc in
    ap (λ b. cond (is_value_named ts b) (Some v) (find (λ (v : KnownValue). is_value_named ts (string_bytes v.text)) vs)) first ∙
    ap (λ o. cond (is_value_named ts (value_text values v.value)) (Some v) o) (text_found values ts vs rest)

module _ (names : Names) (ts : List Topic) (k : KnownEnds) (end : Option Finding) where
  waits_found : (found : Option (Bor Waiting)) → option_map (λ w. w.now) found ≡ find (λ w. is_waiting_named names.processes ts w.process) (those_waiting k.waits) → option_map (λ w. waiting_for_ever w.now) found ≡ find (is_about names ts) (map waiting_for_ever (those_waiting k.waits))
  waits_found found here = found_told waiting_for_ever (is_about names ts) (those_waiting k.waits) found here

  values_found : (found : Option (Bor KnownValue)) → HasTexts names.values k.values.items → option_map (λ v. v.now) found ≡ find (λ v. is_value_named ts (string_bytes v.text)) k.values.items → option_map (λ v. shown (value_pair v.now)) found ≡ find (is_about names ts) (map shown (map value_pair k.values.items))
  values_found found texts here =
      found_told (λ v. shown (value_pair v)) (is_about names ts) k.values.items found (here ∙ text_found names.values ts k.values.items texts) ∙ ap (find (is_about names ts)) (sym (map_map value_pair shown k.values.items))

  abbrev by_word : Option Finding
  by_word = earlier_of end (find (is_about names ts) (map shown (map value_pair k.values.items)))

  -- somebody waits
  pub waiting_told : (found : Option (Bor Waiting)) (w : Bor Waiting) → found ≡ Some w → option_map (λ x. x.now) found ≡ find (λ x. is_waiting_named names.processes ts x.process) (those_waiting k.waits) → Some (waiting_for_ever w.now) ≡ found_about names ts k end
  waiting_told found w is here = ap (λ o. option_or o by_word) (sym (ap (option_map (λ x. waiting_for_ever x.now)) is) ∙ waits_found found here)

  -- nobody does
  pub word_told : (waits : Option (Bor Waiting)) (first : Option Witness) (value : Option (Bor KnownValue)) (second result : Option Witness) → HasTexts names.values k.values.items → waits ≡ None → option_map (λ x. x.now) waits ≡ find (λ x. is_waiting_named names.processes ts x.process) (those_waiting k.waits) →
      option_map finding_of first ≡ end → option_map (λ v. v.now) value ≡ find (λ v. is_value_named ts (string_bytes v.text)) k.values.items → option_map finding_of second ≡ option_map (λ v. shown (value_pair v.now)) value →
      option_map finding_of result ≡ earlier_of (option_map finding_of first) (option_map finding_of second) → option_map finding_of result ≡ found_about names ts k end
  word_told waits first value second result texts none here ends values told is =
      earlier_told end (find (is_about names ts) (map shown (map value_pair k.values.items))) first second result ends (told ∙ values_found value texts values) is ∙
      ap (λ o. option_or o by_word) (sym (ap (option_map (λ x. waiting_for_ever x.now)) none) ∙ waits_found waits here)

  -- only ends are against `only`
  pub about_by : (c : Claim) → c ≢ Only → found_about names ts k end ≡ found_by c names ts k end
  about_by Never other = refl
  about_by Sometimes other = refl
  about_by Only other = absurd (other refl)
