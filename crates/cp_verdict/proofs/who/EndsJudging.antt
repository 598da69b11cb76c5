-- What is known of an expectation that names who waits at an end, by what the code finds.
use Rattle.std.proofs.Common.{◌≡◌, inl, inr, ◌∙◌, ℕ, Bool, true, false, not, ◌&&◌, ◌||◌, List, [], ◌∷◌, ◌++◌, map, cond, refl, sym, ap, subst, if◌then◌else◌}
use Rattle.std.specs.Prelude.{find, Option, None, Some, option_map}
use Rattle.std.specs.List.{list_any, list_all}
use Rattle.cp_slots.specs.Tables.{Tables}
use Rattle.cp_machine.specs.declared.discipline.Discipline.{Discipline}
use Rattle.cp_run.specs.declared.outcome.OutcomeKind.TheVariants.{Finished, AllWaiting, RunError, ChoiceLimit, StepLimit, OutputLimit}
use Rattle.cp_ends.specs.declared.end.End.{End}
use Rattle.cp_ends.specs.declared.end.End.TheVariants.{Over, Alone, Spins}
use Rattle.cp_ends.proofs.Searching.Lists.{contains_at, place_of}
use Rattle.cp_expectation.specs.declared.expectation.Claim.{Claim}
use Rattle.cp_expectation.specs.declared.expectation.Claim.TheVariants.{Never, Sometimes, Only}
use Rattle.cp_expectation.specs.declared.expectation.Expectation.{Expectation}
use Rattle.cp_expectation.specs.declared.expectation.Topic.{Topic}
use Rattle.cp_verdict.specs.Outputs.{value_text}
use Rattle.cp_verdict.specs.endless.Behaviour.{Behaviour, Finding, Ends, Shows, Waits, IsSo, on_slots}
use Rattle.cp_verdict.specs.endless.Expectations as ends
use Rattle.cp_verdict.specs.endless.Expectations.{asks_some, asks_some_by, is_about, is_value_named}
use Rattle.std.specs.Option.{option_or}
use Rattle.cp_verdict.specs.endless.Judged as by_first
use Rattle.cp_verdict.specs.endless.Judged.{earlier_of, found_by, judgement_of}
use Rattle.cp_verdict.specs.endless.Knowledge.{IsKnown, Looked, ended, end_pair, finding_of, is_kept, is_settled, is_whole, shown, those_waiting, value_pair, waiting_for_ever}
use Rattle.cp_verdict.specs.endless.Marked.{with_tables}
use Rattle.cp_verdict.specs.endless.Naming.{Names, Processes}
use Rattle.cp_verdict.specs.waiting.Ends.{IsTrueIf, is_waiting, settles, settles_end}
use Rattle.cp_verdict.specs.waiting.Asking.{names_who}
use Rattle.cp_verdict.specs.waiting.EndsJudged.{IsJudged, IsJudgedAny, found_by_who, found_settling}
use Rattle.cp_verdict.specs.waiting.Known.{KnowsWho}
use Rattle.cp_verdict.specs.waiting.Who.{who_on_slots}
use Rattle.cp_verdict.specs.declared.endless.judging.EndsJudgement.{EndsJudgement}
use Rattle.cp_verdict.specs.declared.endless.known.KnownEnd.{KnownEnd}
use Rattle.cp_verdict.specs.declared.endless.known.KnownEnds.{KnownEnds}
use Rattle.cp_verdict.specs.declared.endless.known.KnownWaitingEnd.{KnownWaitingEnd}
use Rattle.cp_verdict.specs.declared.endless.known.Witness.{Witness}
use Rattle.cp_verdict.proofs.any_length.Finding.{at_map, found_at, found_none, map_at, some_same}
use Rattle.cp_verdict.proofs.any_length.Telling.{end_is}
use Rattle.cp_verdict.proofs.any_length.Judgements as plainly
use Rattle.cp_verdict.proofs.any_length.Judgements.{both, earlier_none, earlier_one, looked_none, other_none, value_kept, values_first, values_not, waiting_kept, waits_first, waits_none}
use Rattle.cp_verdict.proofs.who.Tests.{any_same, end_aside}

-- ---- lists

pub none_in : {A : Type 0} (t : A → Bool) (xs : List A) → find t xs ≡ None → list_any t xs ≡ false
none_in t [] e = refl
none_in {A} t (x ∷ xs) e = split (t x) e (λ f. none_in t xs f)
  where
    split : (b : Bool) → cond b (Some x) (find t xs) ≡ None → (find t xs ≡ None → list_any t xs ≡ false) → (b || list_any t xs) ≡ false
    split true f on = absurd (cc)
    split false f on = on f

any_map : {A B : Type 0} (f : A → B) (t : B → Bool) (xs : List A) → list_any t (map f xs) ≡ list_any (λ x. t (f x)) xs
any_map f t [] = refl
any_map f t (x ∷ xs) = ap (λ b. t (f x) || b) (any_map f t xs)

any_joined : {A : Type 0} (t : A → Bool) (xs ys : List A) → list_any t xs ≡ false → list_any t ys ≡ false → list_any t (xs ++ ys) ≡ false
any_joined t [] ys h g = g
any_joined t (x ∷ xs) ys h g = split (t x) h (λ f. any_joined t xs ys f g)
  where
    split : (b : Bool) → (b || list_any t xs) ≡ false → (list_any t xs ≡ false → list_any t (xs ++ ys) ≡ false) → (b || list_any t (xs ++ ys)) ≡ false
    split true h on = absurd (cc)
    split false h on = on h

any_never : {A : Type 0} (xs : List A) → list_any (λ x. false) xs ≡ false
any_never [] = refl
any_never (x ∷ xs) = any_never xs

map_none : {A B : Type 0} (f : A → B) (o : Option A) → option_map f o ≡ None → o ≡ None
map_none f None e = refl
map_none f (Some x) e = absurd (cc)

not_false : (b : Bool) → b ≡ true → b ≡ false → ⊥
not_false true e h = absurd (cc)
not_false false e h = absurd (cc)

not_so : (b : Bool) → not b ≡ true → b ≡ false
not_so true h = absurd (cc)
not_so false h = refl

second_false : (a b : Bool) → a ≡ false → (not a && b) ≡ false → b ≡ false
second_false a b e h = split a e h
  where
    split : (c : Bool) → c ≡ false → (not c && b) ≡ false → b ≡ false
    split true e h = absurd (cc)
    split false e h = h

-- ---- ends

pub waiting_over : (end : End) → is_waiting end ≡ true → end ≡ Over AllWaiting
waiting_over (Over AllWaiting) h = refl
waiting_over (Over Finished) h = absurd (cc)
waiting_over (Over (RunError name process line)) h = absurd (cc)
waiting_over (Over ChoiceLimit) h = absurd (cc)
waiting_over (Over StepLimit) h = absurd (cc)
waiting_over (Over OutputLimit) h = absurd (cc)
waiting_over (Alone q) h = absurd (cc)
waiting_over (Spins q) h = absurd (cc)

looked_so : {A : Type 0} (looked : Option ℕ) (P : A → List ℕ → Type 0) (a : A) (word : List ℕ) → Looked looked P a word → P a word
looked_so None P a word h = h
looked_so (Some d) P a word h = h.0

module _ (r : Tables) (discipline : Discipline) (steps most : ℕ) (k : KnownEnds) (h : IsKnown r discipline steps most k) (w : KnowsWho r discipline steps k) (ps : Processes) (e : Expectation) where
  abbrev b : Behaviour
  b = on_slots r discipline steps

  abbrev names : Names
  names = with_tables r ps

  abbrev who : List ℕ → List ℕ
  who word = who_on_slots r discipline steps word

  abbrev ts : List Topic
  ts = e.topics.items

  -- it is so and settles the expectation
  abbrev IsRight : Finding → Type 0
  IsRight f = IsSo b f × (settles names who e f ≡ true)

  abbrev NoneIs : Type 0
  NoneIs = (f : Finding) → IsSo b f → settles names who e f ≡ true → ⊥

  abbrev is_other : KnownEnd → Bool
  is_other x = not (is_waiting x.end) && settles_end ps e [] x.end

  abbrev is_one : KnownWaitingEnd → Bool
  is_one x = settles_end ps e x.who.items x.end.end

  -- whoever waits, where not all wait
  aside : (u v word : List ℕ) (end : End) → is_waiting end ≡ false → settles_end ps e u end ≡ settles_end ps e v end
  aside u v word end n = end_aside e.claim names u ts end word n ∙ sym (end_aside e.claim names v ts end word n)

  other_so : (x : KnownEnd) → find is_other k.ends.items ≡ Some x → IsRight (ended (end_pair x))
  other_so x here =
      let f = found_at is_other k.ends.items x here in
      let tests = both (not (is_waiting x.end)) (settles_end ps e [] x.end) f.passes in
      let c = contains_at (map end_pair k.ends.items) f.place (end_pair x) (at_map end_pair k.ends.items f.place x f.at) in
      (looked_so k.looked b.ends x.end x.word.items (h.ends.first x.end x.word.items c).is, aside (who x.word.items) [] x.word.items x.end (not_so (is_waiting x.end) tests.0) ∙ tests.1)

  waiting_so : (x : KnownWaitingEnd) → find is_one k.waiting.items ≡ Some x → IsRight (ended (end_pair x.end))
  waiting_so x here =
      let f = found_at is_one k.waiting.items x here in
      let so = w.each x (contains_at k.waiting.items f.place x f.at) in
      (subst (λ (end : End). b.ends end x.end.word.items) (sym so.0) so.1, ap (λ (v : List ℕ). settles_end ps e v x.end.end) (sym so.2) ∙ f.passes)

  end_so : (f : Finding) → found_by_who ps e k ≡ Some f → IsRight f
  end_so f is = earlier_one IsRight (option_map (λ x. ended (end_pair x)) (find is_other k.ends.items)) (option_map (λ x. ended (end_pair x.end)) (find is_one k.waiting.items)) f
      (λ g here. others g (find is_other k.ends.items) refl here) (λ g here. ones g (find is_one k.waiting.items) refl here) is
    where
      others : (g : Finding) (o : Option KnownEnd) → find is_other k.ends.items ≡ o → option_map (λ x. ended (end_pair x)) o ≡ Some g → IsRight g
      others g None here at = absurd (cc)
      others g (Some x) here at = subst IsRight (some_same (ended (end_pair x)) g at) (other_so x here)

      ones : (g : Finding) (o : Option KnownWaitingEnd) → find is_one k.waiting.items ≡ o → option_map (λ x. ended (end_pair x.end)) o ≡ Some g → IsRight g
      ones g None here at = absurd (cc)
      ones g (Some x) here at = subst IsRight (some_same (ended (end_pair x.end)) g at) (waiting_so x here)

  -- an end that was looked at does not settle it, where none that is known does
  end_not : found_by_who ps e k ≡ None → (end : End) (word : List ℕ) → Looked k.looked b.ends end word → settles names who e (Ends end word) ≡ false
  end_not is end word so = by (is_waiting end) refl
    where
      parts : (option_map (λ x. ended (end_pair x)) (find is_other k.ends.items) ≡ None) × (option_map (λ x. ended (end_pair x.end)) (find is_one k.waiting.items) ≡ None)
      parts = earlier_none (option_map (λ x. ended (end_pair x)) (find is_other k.ends.items)) (option_map (λ x. ended (end_pair x.end)) (find is_one k.waiting.items)) is

      all_wait : Looked k.looked b.ends (Over AllWaiting) word → settles names who e (Ends (Over AllWaiting) word) ≡ false
      all_wait so =
          let x = w.all word so in
          let at = place_of k.waiting.items x.0 x.1 in
          let none = found_none is_one k.waiting.items (map_none (λ (y : KnownWaitingEnd). ended (end_pair y.end)) (find is_one k.waiting.items) parts.1) at.0 x.0 at.1 in
          ap (λ (v : List ℕ). settles_end ps e v (Over AllWaiting)) (sym x.2) ∙ ap (settles_end ps e x.0.who.items) (sym (w.each x.0 x.1).0) ∙ none

      by : (c : Bool) → is_waiting end ≡ c → settles names who e (Ends end word) ≡ false
      by true n = let over = waiting_over end n in subst (λ (x : End). settles names who e (Ends x word) ≡ false) (sym over) (all_wait (subst (λ (x : End). Looked k.looked b.ends x word) over so))
      by false n =
          let has = h.ends.all end word so in
          let at = place_of (map end_pair k.ends.items) (end, has.0) has.1 in
          let x = map_at end_pair k.ends.items at.0 (end, has.0) at.1 in
          let same : x.0.end ≡ end = ap (λ (y : End × List ℕ). y.0) x.2 in
          let none = found_none is_other k.ends.items (map_none (λ (y : KnownEnd). ended (end_pair y)) (find is_other k.ends.items) parts.0) at.0 x.0 x.1 in
          aside (who word) [] word end n ∙ ap (settles_end ps e []) (sym same) ∙ second_false (is_waiting x.0.end) (settles_end ps e [] x.0.end) (ap is_waiting same ∙ n) none

  -- ---- values, and who waits for ever

  abbrev by_waits : Option Finding
  by_waits = find (is_about names ts) (map waiting_for_ever (those_waiting k.waits))

  abbrev by_values : Option Finding
  by_values = find (is_about names ts) (map shown (map value_pair k.values.items))

  -- what is no end settles `never` and `some` where a topic speaks of it
  module _ (c : Claim) (is : e.claim ≡ c) (about : (f : Finding) → ends.settles_by c names ts f ≡ is_about names ts f) where
    claimed : (f : Finding) → ends.settles names e f ≡ is_about names ts f
    claimed f = ap (λ (d : Claim). ends.settles_by d names ts f) is ∙ about f

    value_so : (f : Finding) → by_values ≡ Some f → IsRight f
    value_so f here =
        let x = values_first r discipline steps most k h (λ v. is_value_named ts (value_text r.names v)) f (is_about names ts) (λ y. refl) here in
        subst IsRight x.1 (x.2.is_so, claimed (shown x.0) ∙ x.2.passes)

    wait_so : (f : Finding) → by_waits ≡ Some f → IsRight f
    wait_so f here =
        let found = found_at (is_about names ts) (map waiting_for_ever (those_waiting k.waits)) f here in
        let x = map_at waiting_for_ever (those_waiting k.waits) found.place f found.at in
        let so = waits_first r discipline steps most k h ps ts f here in
        subst IsRight x.2 (subst (IsSo b) (sym x.2) so.0, claimed (waiting_for_ever x.0) ∙ ap (is_about names ts) x.2 ∙ so.1)

    some_so : (f : Finding) → option_or by_waits (earlier_of (found_by_who ps e k) by_values) ≡ Some f → IsRight f
    some_so f at = by by_waits refl at
      where
        by : (o : Option Finding) → by_waits ≡ o → option_or o (earlier_of (found_by_who ps e k) by_values) ≡ Some f → IsRight f
        by (Some g) here on = wait_so f (here ∙ on)
        by None here on = earlier_one IsRight (found_by_who ps e k) by_values f (λ g x. end_so g x) (λ g x. value_so g x) on

    module _ (none : option_or by_waits (earlier_of (found_by_who ps e k) by_values) ≡ None) where
      parts : (by_waits ≡ None) × (earlier_of (found_by_who ps e k) by_values ≡ None)
      parts = other_none by_waits (earlier_of (found_by_who ps e k) by_values) none

      two : (found_by_who ps e k ≡ None) × (by_values ≡ None)
      two = earlier_none (found_by_who ps e k) by_values parts.1

      none_so : list_all (λ t. is_kept t k) ts ≡ true → is_whole k ≡ true → NoneIs
      none_so kept whole (Ends end word) so it = not_false (settles names who e (Ends end word)) it (end_not two.0 end word (subst (λ (looked : Option ℕ). Looked looked b.ends end word) (sym (looked_none r discipline steps most k h whole)) so))
      none_so kept whole (Shows v word) so it =
          let named = sym (claimed (Shows v word)) ∙ it in
          values_not r discipline steps most k h ps (λ x. is_value_named ts (value_text r.names x)) (is_about names ts) (λ x. refl) whole (value_kept k ts (value_text r.names v) kept named) two.1 v word so named
      none_so kept whole (Waits q) so it =
          let named = sym (claimed (Waits q)) ∙ it in
          waits_none r discipline steps most k h ps ts (waiting_kept ps k ts q kept named) whole parts.0 q so named

      others_not : list_any (settles names who e) (map waiting_for_ever (those_waiting k.waits) ++ map shown (map value_pair k.values.items)) ≡ false
      others_not = any_joined (settles names who e) (map waiting_for_ever (those_waiting k.waits)) (map shown (map value_pair k.values.items))
          (any_map waiting_for_ever (settles names who e) (those_waiting k.waits) ∙ any_same (λ x. settles names who e (waiting_for_ever x)) (λ x. is_about names ts (waiting_for_ever x)) (those_waiting k.waits) (λ x. claimed (waiting_for_ever x)) ∙ sym (any_map waiting_for_ever (is_about names ts) (those_waiting k.waits)) ∙ none_in (is_about names ts) (map waiting_for_ever (those_waiting k.waits)) parts.0)
          (any_map shown (settles names who e) (map value_pair k.values.items) ∙ any_same (λ x. settles names who e (shown x)) (λ x. is_about names ts (shown x)) (map value_pair k.values.items) (λ x. claimed (shown x)) ∙ sym (any_map shown (is_about names ts) (map value_pair k.values.items)) ∙ none_in (is_about names ts) (map shown (map value_pair k.values.items)) two.1)

      ends_not : found_by_who ps e k ≡ None
      ends_not = two.0

  -- only ends are against `only`
  module _ (is : e.claim ≡ Only) where
    only_not : (f : Finding) → ends.settles_by Only names ts f ≡ false → ends.settles names e f ≡ false
    only_not f by_only = ap (λ (d : Claim). ends.settles_by d names ts f) is ∙ by_only

    only_none : found_by_who ps e k ≡ None → is_whole k ≡ true → NoneIs
    only_none none whole (Ends end word) so it = not_false (settles names who e (Ends end word)) it (end_not none end word (subst (λ (looked : Option ℕ). Looked looked b.ends end word) (sym (looked_none r discipline steps most k h whole)) so))
    only_none none whole (Shows v word) so it = not_false (settles names who e (Shows v word)) it (only_not (Shows v word) refl)
    only_none none whole (Waits q) so it = not_false (settles names who e (Waits q)) it (only_not (Waits q) refl)

    only_others : list_any (settles names who e) (map waiting_for_ever (those_waiting k.waits) ++ map shown (map value_pair k.values.items)) ≡ false
    only_others = any_joined (settles names who e) (map waiting_for_ever (those_waiting k.waits)) (map shown (map value_pair k.values.items))
        (any_map waiting_for_ever (settles names who e) (those_waiting k.waits) ∙ any_same (λ x. settles names who e (waiting_for_ever x)) (λ x. false) (those_waiting k.waits) (λ x. only_not (waiting_for_ever x) refl) ∙ any_never (those_waiting k.waits))
        (any_map shown (settles names who e) (map value_pair k.values.items) ∙ any_same (λ x. settles names who e (shown x)) (λ x. false) (map value_pair k.values.items) (λ x. only_not (shown x) refl) ∙ any_never (map value_pair k.values.items))

  -- ---- the judgement

  right : (c : Claim) → e.claim ≡ c → (f : Finding) → found_by c names ts k (found_by_who ps e k) ≡ Some f → IsRight f
  right Never is f at = some_so Never is (λ g. refl) f at
  right Sometimes is f at = some_so Sometimes is (λ g. refl) f at
  right Only is f at = end_so f at

  nothing : (c : Claim) → e.claim ≡ c → found_by c names ts k (found_by_who ps e k) ≡ None → is_settled e k ≡ true → NoneIs
  nothing Never is none s = let p = both (is_whole k) (list_all (λ t. is_kept t k) ts) s in none_so Never is (λ g. refl) none p.1 p.0
  nothing Sometimes is none s = let p = both (is_whole k) (list_all (λ t. is_kept t k) ts) s in none_so Sometimes is (λ g. refl) none p.1 p.0
  nothing Only is none s = only_none is none (both (is_whole k) (list_all (λ t. is_kept t k) ts) s).0

  abbrev Unsettled : Type 0
  Unsettled =
      ((end : End) (word : List ℕ) → Looked k.looked b.ends end word → settles names who e (Ends end word) ≡ false) ×
      (list_any (settles names who e) (map waiting_for_ever (those_waiting k.waits) ++ map shown (map value_pair k.values.items)) ≡ false)

  unsettled : (c : Claim) → e.claim ≡ c → found_by c names ts k (found_by_who ps e k) ≡ None → Unsettled
  unsettled Never is none = (end_not (ends_not Never is (λ g. refl) none), others_not Never is (λ g. refl) none)
  unsettled Sometimes is none = (end_not (ends_not Sometimes is (λ g. refl) none), others_not Sometimes is (λ g. refl) none)
  unsettled Only is none = (end_not none, only_others is)

  by : (asks : Bool) (found : Option Witness) (settled : Bool) → asks_some e ≡ asks → option_map finding_of found ≡ found_by e.claim names ts k (found_by_who ps e k) → is_settled e k ≡ settled → IsJudged names who b k e (judgement_of asks found settled)
  by true (Some x) settled a here s = let so = right e.claim refl (finding_of x) (sym here) in (subst (λ asks. IsTrueIf asks names who b e) (sym a) (finding_of x, so.0, so.1), inl a)
  by true None true a here s = (a, λ y. nothing e.claim refl (sym here) s y.0 y.1 y.2, s)
  by true None false a here s = let u = unsettled e.claim refl (sym here) in (u.0, u.1, s)
  by false (Some x) settled a here s = let so = right e.claim refl (finding_of x) (sym here) in (a, so.0, so.1)
  by false None true a here s = (subst (λ asks. IsTrueIf asks names who b e) (sym a) (λ y. nothing e.claim refl (sym here) s y.0 y.1 y.2), inr s)
  by false None false a here s = let u = unsettled e.claim refl (sym here) in (u.0, u.1, s)

  pub judged : (j : EndsJudgement) (found : Option Witness) (settled : Bool) → option_map finding_of found ≡ found_by e.claim names ts k (found_by_who ps e k) → settled ≡ is_settled e k → j ≡ judgement_of (asks_some_by e.claim) found settled → IsJudged names who b k e j
  judged j found settled here s is = subst (IsJudged names who b k e) (sym is) (by (asks_some_by e.claim) found settled refl here (sym s))

-- ---- whether it names somebody or not

settling_is : (names : Names) (e : Expectation) (k : KnownEnds) (c : Bool) → names_who e ≡ c → found_settling names e k ≡ found_by e.claim names e.topics.items k (if c then found_by_who names.processes e k else by_first.found_end e.claim names e.topics.items k)
settling_is names e k c is = ap (found_by e.claim names e.topics.items k) (end_is names e k c is)

pub settling_plainly : (names : Names) (e : Expectation) (k : KnownEnds) → names_who e ≡ false → found_settling names e k ≡ by_first.found_settling names e k
settling_plainly names e k none = settling_is names e k false none

pub judged_any : (r : Tables) (discipline : Discipline) (steps most : ℕ) (k : KnownEnds) (h : IsKnown r discipline steps most k) (ps : Processes) (e : Expectation) (j : EndsJudgement) (found : Option Witness) (settled : Bool) →
    option_map finding_of found ≡ found_settling (with_tables r ps) e k → settled ≡ is_settled e k → j ≡ judgement_of (asks_some_by e.claim) found settled → IsJudgedAny r ps discipline steps k e j
judged_any r discipline steps most k h ps e j found settled here s is = (
  λ none. plainly.judged r discipline steps most k h ps e j found settled (here ∙ settling_plainly (with_tables r ps) e k none) s is,
  λ asks w. judged r discipline steps most k h w ps e j found settled (here ∙ settling_is (with_tables r ps) e k true asks) s is,
)
