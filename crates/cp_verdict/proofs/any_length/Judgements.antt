-- What is known of an expectation, by what the code finds.
use Rattle.std.proofs.Common.{◌≡◌, inl, inr, ◌∙◌, ℕ, suc, Bool, true, false, not, ◌&&◌, List, [], ◌∷◌, map, length, cond, refl, sym, ap, subst, arith, vec_len, if◌then◌else◌}
use Rattle.std.specs.Prelude.{find, Option, None, Some, option_map, nat_le, is_none, is_some}
use Rattle.cp_verdict.proofs.any_length.Vocabulary.{list_all, Vec, Global, length-map, Tables, Discipline, Shown, StepLimit, slots, without_output, End, Over}
use Rattle.cp_verdict.proofs.any_length.Vocabulary.{MOST_VALUES, Waiting, EndsJudgement, KnownEnds, KnownEnd}
use Rattle.cp_verdict.proofs.any_length.Vocabulary.{Witness}
use Rattle.std.proofs.lemmas.Bool.{leb-true}
use Rattle.cp_ends.specs.Firsts.{is_up_to, AreFirsts, AreFirstOnes}
use Rattle.cp_ends.specs.Whole.{LeadsToState}
use Rattle.cp_ends.proofs.Searching.Lists.{place_of, contains_at}
use Rattle.cp_ends.proofs.Searching.Words.{up_to_empty}
use Rattle.cp_expectation.specs.declared.expectation.Claim.{Claim}
use Rattle.cp_expectation.specs.declared.expectation.Claim.TheVariants.{Never, Sometimes, Only}
use Rattle.cp_expectation.specs.declared.expectation.Expectation.{Expectation}
use Rattle.cp_expectation.specs.declared.expectation.Topic.{Topic}
use Rattle.cp_expectation.specs.declared.expectation.Topic.TheVariants as topic
use Rattle.cp_verdict.specs.Outputs.{value_text}
use Rattle.cp_verdict.specs.endless.Behaviour.{Behaviour, Finding, Ends, Shows, Waits, IsSo, is_same_sort, word_of, on_slots}
use Rattle.cp_verdict.specs.endless.Expectations.{IsTrueIf, asks_some_by, is_about, is_against_only, is_cut, is_named, is_other, is_value_named, is_waiting_named, settles_by}
use Rattle.std.specs.Option.{option_or}
use Rattle.cp_verdict.specs.endless.Judged.{IsJudged, earlier_of, found_about, found_by, found_end, found_settling, judgement_of}
use Rattle.cp_verdict.specs.endless.Knowledge.{HasNoCut, IsKnown, KnowsWaits, Looked, ended, end_pair, finding_of, is_kept, is_settled, is_whole, shown, those_waiting, value_pair, waiting_for_ever}
use Rattle.cp_verdict.specs.endless.Marked.{with_tables}
use Rattle.cp_verdict.specs.endless.Naming.{Names, Processes}
use Rattle.cp_verdict.proofs.any_length.Finding.{all_pass, at_map, find_same, found_at, found_none, map_at}
use Rattle.cp_verdict.proofs.any_length.Firsts.{IsFirstSo, first_so, none_so, ones_of}

-- ---- tests

pub both : (a b : Bool) → (a && b) ≡ true → (a ≡ true) × (b ≡ true)
both true b h = (refl, h)
both false b h = absurd (cc)

not_true : (b : Bool) → not b ≡ true → b ≡ true → ⊥
not_true true h e = absurd (cc)
not_true false h e = absurd (cc)

pub none_is : {A : Type 0} (o : Option A) → is_none o ≡ true → o ≡ None
none_is None h = refl
none_is (Some x) h = absurd (cc)

not_false : (b : Bool) → b ≡ true → b ≡ false → ⊥
not_false true e h = absurd (cc)
not_false false e h = absurd (cc)

-- ---- findings by lists

-- a thing of a list is found where a finding of it is
pair_found : {A : Type 0} (f : A × List ℕ → Finding) (t : Finding → Bool) (xs : List (A × List ℕ)) (g : Finding) → find t (map f xs) ≡ Some g → (x : A × List ℕ) × (find (λ y. t (f y)) xs ≡ Some x) × (f x ≡ g)
pair_found {A} f t [] g e = absurd (cc)
pair_found {A} f t (x ∷ xs) g e = split (t (f x)) e (λ h. pair_found f t xs g h)
  where
    split : (b : Bool) → cond b (Some (f x)) (find t (map f xs)) ≡ Some g → (find t (map f xs) ≡ Some g → (y : A × List ℕ) × (find (λ (z : A × List ℕ). t (f z)) xs ≡ Some y) × (f y ≡ g)) → (y : A × List ℕ) × (cond b (Some x) (find (λ (z : A × List ℕ). t (f z)) xs) ≡ Some y) × (f y ≡ g)
    split true e on = (x, refl, cc)
    split false e on = on e

pair_none : {A : Type 0} (f : A × List ℕ → Finding) (t : Finding → Bool) (xs : List (A × List ℕ)) → find t (map f xs) ≡ None → find (λ y. t (f y)) xs ≡ None
pair_none {A} f t [] e = refl
pair_none {A} f t (x ∷ xs) e = split (t (f x)) e (λ h. pair_none f t xs h)
  where
    split : (b : Bool) → cond b (Some (f x)) (find t (map f xs)) ≡ None → (find t (map f xs) ≡ None → find (λ (z : A × List ℕ). t (f z)) xs ≡ None) → cond b (Some x) (find (λ (z : A × List ℕ). t (f z)) xs) ≡ None
    split true e on = absurd (cc)
    split false e on = on e

-- ---- of two findings

-- what is found is one of the two
pub earlier_one : (P : Finding → Type 0) (o p : Option Finding) (f : Finding) → ((g : Finding) → o ≡ Some g → P g) → ((g : Finding) → p ≡ Some g → P g) → earlier_of o p ≡ Some f → P f
earlier_one P None p f first second e = second f e
earlier_one P (Some x) None f first second e = first f e
earlier_one P (Some x) (Some y) f first second e = split (is_up_to (word_of x) (word_of y)) e
  where
    split : (c : Bool) → (if c then Some x else Some y) ≡ Some f → P f
    split true l = first f l
    split false l = second f l

pub earlier_none : (o p : Option Finding) → earlier_of o p ≡ None → (o ≡ None) × (p ≡ None)
earlier_none None p e = (refl, e)
earlier_none (Some x) None e = absurd (cc)
earlier_none (Some x) (Some y) e = split (is_up_to (word_of x) (word_of y)) e
  where
    split : (c : Bool) → (if c then Some x else Some y) ≡ None → (Some x ≡ None) × (Some y ≡ None)
    split true l = absurd (cc)
    split false l = absurd (cc)

pub other_none : (o p : Option Finding) → option_or o p ≡ None → (o ≡ None) × (p ≡ None)
other_none None p e = (refl, e)
other_none (Some x) p e = absurd (cc)

-- ---- what is kept

-- a topic of waiting is among those that speak of who waits, and of a value among those that speak of values
pub waiting_kept : (ps : Processes) (k : KnownEnds) (ts : List Topic) (q : ℕ) → list_all (λ t. is_kept t k) ts ≡ true → is_waiting_named ps ts q ≡ true → is_some k.waits ≡ true
waiting_kept ps k [] q kept is = absurd (cc)
waiting_kept ps k (topic.End end output ∷ ts) q kept is = waiting_kept ps k ts q kept is
waiting_kept ps k (topic.Shown text ∷ ts) q kept is = waiting_kept ps k ts q (both (nat_le (vec_len k.values) MOST_VALUES) (list_all (λ t. is_kept t k) ts) kept).1 is
waiting_kept ps k (topic.Waiting process ∷ ts) q kept is = (both (is_some k.waits) (list_all (λ t. is_kept t k) ts) kept).0

pub value_kept : (k : KnownEnds) (ts : List Topic) (printed : List ℕ) → list_all (λ t. is_kept t k) ts ≡ true → is_value_named ts printed ≡ true → nat_le (vec_len k.values) MOST_VALUES ≡ true
value_kept k [] printed kept is = absurd (cc)
value_kept k (topic.End end output ∷ ts) printed kept is = value_kept k ts printed kept is
value_kept k (topic.Shown text ∷ ts) printed kept is = (both (nat_le (vec_len k.values) MOST_VALUES) (list_all (λ t. is_kept t k) ts) kept).0
value_kept k (topic.Waiting process ∷ ts) printed kept is = value_kept k ts printed (both (is_some k.waits) (list_all (λ t. is_kept t k) ts) kept).1 is

module _ (r : Tables) (discipline : Discipline) (steps most : ℕ) (k : KnownEnds) (h : IsKnown r discipline steps most k) where
  abbrev b : Behaviour
  b = on_slots r discipline steps

  -- ---- all is known

  pub looked_none : is_whole k ≡ true → k.looked ≡ None
  looked_none whole = none_is k.looked (both (is_none k.looked) (list_all (λ (e : KnownEnd). not (is_cut e.end)) k.ends.items) whole).0

  pub all_ends : is_whole k ≡ true → AreFirsts b.ends (map end_pair k.ends.items)
  all_ends whole = subst (λ looked. AreFirsts (Looked looked b.ends) (map end_pair k.ends.items)) (looked_none whole) h.ends

  all_values : is_whole k ≡ true → AreFirstOnes (suc MOST_VALUES) b.shows (map value_pair k.values.items)
  all_values whole = subst (λ looked. AreFirstOnes (suc MOST_VALUES) (Looked looked b.shows) (map value_pair k.values.items)) (looked_none whole) h.values

  pub states_all : is_whole k ≡ true → AreFirsts (LeadsToState (slots r discipline) without_output steps) h.states
  states_all whole = subst (λ looked. AreFirsts (Looked looked (LeadsToState (slots r discipline) without_output steps)) h.states) (looked_none whole) h.all_states

  pub no_cut : is_whole k ≡ true → HasNoCut r discipline steps
  no_cut whole word so =
      let has = (all_ends whole).all (Over StepLimit) word so in
      let at = place_of (map end_pair k.ends.items) (Over StepLimit, has.0) has.1 in
      let e = map_at end_pair k.ends.items at.0 (Over StepLimit, has.0) at.1 in
      let pass = all_pass (λ (x : KnownEnd). not (is_cut x.end)) k.ends.items (both (is_none k.looked) (list_all (λ (x : KnownEnd). not (is_cut x.end)) k.ends.items) whole).1 at.0 e.0 e.1 in
      not_true (is_cut e.0.end) pass (ap (λ x. is_cut x.0) e.2)

  -- ---- ends

  module _ (q : End → Bool) where
    ends_first : (f : Finding) (t : Finding → Bool) → ((x : End × List ℕ) → t (ended x) ≡ q x.0) → find t (map ended (map end_pair k.ends.items)) ≡ Some f → (x : End × List ℕ) × (ended x ≡ f) × IsFirstSo q (map end_pair k.ends.items) (suc (length (map end_pair k.ends.items))) b.ends x
    ends_first f t same e =
        let x = pair_found ended t (map end_pair k.ends.items) f e in (
          x.0,
          x.2,
          first_so q (map end_pair k.ends.items) (suc (length (map end_pair k.ends.items))) b.ends k.looked (ones_of (Looked k.looked b.ends) (map end_pair k.ends.items) h.ends) x.0
              (sym (find_same (λ y. t (ended y)) (λ y. q y.0) (map end_pair k.ends.items) same) ∙ x.1),
        )

    ends_none : (t : Finding → Bool) → ((x : End × List ℕ) → t (ended x) ≡ q x.0) → is_whole k ≡ true → find t (map ended (map end_pair k.ends.items)) ≡ None → (end : End) (word : List ℕ) → b.ends end word → q end ≡ true → ⊥
    ends_none t same whole e =
        none_so q (map end_pair k.ends.items) (suc (length (map end_pair k.ends.items))) b.ends (ones_of b.ends (map end_pair k.ends.items) (all_ends whole)) (omega arith)
        (sym (find_same (λ y. t (ended y)) (λ y. q y.0) (map end_pair k.ends.items) same) ∙ pair_none ended t (map end_pair k.ends.items) e)

  -- ---- values

  module _ (q : Shown → Bool) where
    pub values_first : (f : Finding) (t : Finding → Bool) → ((x : Shown × List ℕ) → t (shown x) ≡ q x.0) → find t (map shown (map value_pair k.values.items)) ≡ Some f → (x : Shown × List ℕ) × (shown x ≡ f) × IsFirstSo q (map value_pair k.values.items) (suc MOST_VALUES) b.shows x
    values_first f t same e =
        let x = pair_found shown t (map value_pair k.values.items) f e in (
          x.0,
          x.2,
          first_so q (map value_pair k.values.items) (suc MOST_VALUES) b.shows k.looked h.values x.0
              (sym (find_same (λ y. t (shown y)) (λ y. q y.0) (map value_pair k.values.items) same) ∙ x.1),
        )

    values_none : (t : Finding → Bool) → ((x : Shown × List ℕ) → t (shown x) ≡ q x.0) → is_whole k ≡ true → nat_le (vec_len k.values) MOST_VALUES ≡ true → find t (map shown (map value_pair k.values.items)) ≡ None → (v : Shown) (word : List ℕ) → b.shows v word → q v ≡ true → ⊥
    values_none t same whole few e =
        let le = leb-true (vec_len k.values) MOST_VALUES few in
        let count = length-map k.values.items value_pair in
        none_so q (map value_pair k.values.items) (suc MOST_VALUES) b.shows (all_values whole) (omega (arith, le, count))
        (sym (find_same (λ y. t (shown y)) (λ y. q y.0) (map value_pair k.values.items) same) ∙ pair_none shown t (map value_pair k.values.items) e)

  module _ (ps : Processes) where
    abbrev names : Names
    names = with_tables r ps

    -- ---- who waits

    pub waits_first : (ts : List Topic) (f : Finding) → find (is_about names ts) (map waiting_for_ever (those_waiting k.waits)) ≡ Some f → IsSo b f × (is_about names ts f ≡ true) × (word_of f ≡ [])
    waits_first ts f e = by k.waits h.waits e
      where
        by : (o : Option (Vec Waiting Global)) → KnowsWaits r discipline steps o → find (is_about names ts) (map waiting_for_ever (those_waiting o)) ≡ Some f → IsSo b f × (is_about names ts f ≡ true) × (word_of f ≡ [])
        by None know e = absurd (cc)
        by (Some list) know e =
            let found = found_at (is_about names ts) (map waiting_for_ever list.items) f e in
            let w = map_at waiting_for_ever list.items found.place f found.at in
            subst (λ g. IsSo b g × (is_about names ts g ≡ true) × (word_of g ≡ [])) w.2
            ((know w.0.process).0 (contains_at (map (λ x. x.process) list.items) found.place w.0.process (at_map (λ x. x.process) list.items found.place w.0 w.1)), subst (λ g. is_about names ts g ≡ true) (sym w.2) found.passes, refl)

    pub waits_none : (ts : List Topic) → is_some k.waits ≡ true → is_whole k ≡ true → find (is_about names ts) (map waiting_for_ever (those_waiting k.waits)) ≡ None → (q : ℕ) → b.waits q → is_waiting_named ps ts q ≡ true → ⊥
    waits_none ts known whole e q waits is = by k.waits h.waits known e
      where
        by : (o : Option (Vec Waiting Global)) → KnowsWaits r discipline steps o → is_some o ≡ true → find (is_about names ts) (map waiting_for_ever (those_waiting o)) ≡ None → ⊥
        by None know some e = absurd (cc)
        by (Some list) know some e =
            let has = (know q).1 (no_cut whole) waits in
            let at = place_of (map (λ (x : Waiting). x.process) list.items) q has in
            let w = map_at (λ x. x.process) list.items at.0 q at.1 in
            let none = found_none (is_about names ts) (map waiting_for_ever list.items) e at.0 (waiting_for_ever w.0) (at_map waiting_for_ever list.items at.0 w.0 w.1) in
            not_false (is_waiting_named ps ts q) is (ap (is_waiting_named ps ts) (sym w.2) ∙ none)

    -- ---- of one sort

    -- it is so, it passes, and no earlier word of its sort does
    abbrev IsFirstBy : (Finding → Bool) → Finding → Type 0
    IsFirstBy t f = IsSo b f × (t f ≡ true) × ((g : Finding) → IsSo b g → t g ≡ true → is_same_sort f g ≡ true → is_up_to (word_of f) (word_of g) ≡ true)

    abbrev NoneIs : (Finding → Bool) → Type 0
    NoneIs t = (g : Finding) → IsSo b g → t g ≡ true → ⊥

    module _ (q : End → Bool) (t : Finding → Bool) (same : (x : End × List ℕ) → t (ended x) ≡ q x.0) where
      ends_about : (f : Finding) → find t (map ended (map end_pair k.ends.items)) ≡ Some f → IsFirstBy t f
      ends_about f e =
          let x = ends_first q f t same e in
          subst (IsFirstBy t) x.1 (x.2.is_so, same x.0 ∙ x.2.passes, up x.0 x.2)
        where
          up : (x : End × List ℕ) → IsFirstSo q (map end_pair k.ends.items) (suc (length (map end_pair k.ends.items))) b.ends x → (g : Finding) → IsSo b g → t g ≡ true → is_same_sort (ended x) g ≡ true → is_up_to x.1 (word_of g) ≡ true
          up x first (Ends end word) so is sort = first.first end word so (sym (same (end, word)) ∙ is)
          up x first (Shows v word) so is sort = absurd (cc)
          up x first (Waits p) so is sort = absurd (cc)

      ends_not : is_whole k ≡ true → find t (map ended (map end_pair k.ends.items)) ≡ None → (end : End) (word : List ℕ) → b.ends end word → t (Ends end word) ≡ true → ⊥
      ends_not whole e end word so is = ends_none q t same whole e end word so (sym (same (end, word)) ∙ is)

    module _ (q : Shown → Bool) (t : Finding → Bool) (same : (x : Shown × List ℕ) → t (shown x) ≡ q x.0) where
      values_about : (f : Finding) → find t (map shown (map value_pair k.values.items)) ≡ Some f → IsFirstBy t f
      values_about f e =
          let x = values_first q f t same e in
          subst (IsFirstBy t) x.1 (x.2.is_so, same x.0 ∙ x.2.passes, up x.0 x.2)
        where
          up : (x : Shown × List ℕ) → IsFirstSo q (map value_pair k.values.items) (suc MOST_VALUES) b.shows x → (g : Finding) → IsSo b g → t g ≡ true → is_same_sort (shown x) g ≡ true → is_up_to x.1 (word_of g) ≡ true
          up x first (Shows v word) so is sort = first.first v word so (sym (same (v, word)) ∙ is)
          up x first (Ends end word) so is sort = absurd (cc)
          up x first (Waits p) so is sort = absurd (cc)

      pub values_not : is_whole k ≡ true → nat_le (vec_len k.values) MOST_VALUES ≡ true → find t (map shown (map value_pair k.values.items)) ≡ None → (v : Shown) (word : List ℕ) → b.shows v word → t (Shows v word) ≡ true → ⊥
      values_not whole few e v word so is = values_none q t same whole few e v word so (sym (same (v, word)) ∙ is)

    -- ---- topics

    module _ (ts : List Topic) where
      abbrev by_waits : Option Finding
      by_waits = find (is_about names ts) (map waiting_for_ever (those_waiting k.waits))

      abbrev by_ends : Option Finding
      by_ends = find (is_about names ts) (map ended (map end_pair k.ends.items))

      abbrev by_values : Option Finding
      by_values = find (is_about names ts) (map shown (map value_pair k.values.items))

      about_first : (f : Finding) → found_about names ts k by_ends ≡ Some f → IsFirstBy (is_about names ts) f
      about_first f e = split by_waits refl e
        where
          split : (o : Option Finding) → by_waits ≡ o → option_or o (earlier_of by_ends by_values) ≡ Some f → IsFirstBy (is_about names ts) f
          split (Some g) here l =
              let same : g ≡ f = cc in
              let w = waits_first ts f (here ∙ ap Some same) in
              (w.0, w.1, λ x so is sort. ap (λ v. is_up_to v (word_of x)) w.2 ∙ up_to_empty (word_of x))
          split None here l = earlier_one (IsFirstBy (is_about names ts)) by_ends by_values f (ends_about (is_named ps ts) (is_about names ts) (λ x. refl)) (values_about (λ v. is_value_named ts (value_text r.names v)) (is_about names ts) (λ x. refl)) l

      about_none : list_all (λ t. is_kept t k) ts ≡ true → is_whole k ≡ true → found_about names ts k by_ends ≡ None → NoneIs (is_about names ts)
      about_none kept whole e = none
        where
          parts : (by_waits ≡ None) × (earlier_of by_ends by_values ≡ None)
          parts = other_none by_waits (earlier_of by_ends by_values) e

          two : (by_ends ≡ None) × (by_values ≡ None)
          two = earlier_none by_ends by_values parts.1

          none : NoneIs (is_about names ts)
          none (Ends end word) so is = ends_not (is_named ps ts) (is_about names ts) (λ x. refl) whole two.0 end word so is
          none (Shows v word) so is = values_not (λ v. is_value_named ts (value_text r.names v)) (is_about names ts) (λ x. refl) whole (value_kept k ts (value_text r.names v) kept is) two.1 v word so is
          none (Waits q) so is = waits_none ts (waiting_kept ps k ts q kept is) whole parts.0 q so is

      only_none : is_whole k ≡ true → find (is_against_only names ts) (map ended (map end_pair k.ends.items)) ≡ None → NoneIs (is_against_only names ts)
      only_none whole e (Ends end word) so is = ends_not (is_other ps ts) (is_against_only names ts) (λ x. refl) whole e end word so is
      only_none whole e (Shows v word) so is = absurd (cc)
      only_none whole e (Waits q) so is = absurd (cc)

      -- ---- expectations

      settled_first : (c : Claim) (f : Finding) → found_by c names ts k (found_end c names ts k) ≡ Some f → IsFirstBy (settles_by c names ts) f
      settled_first Never f e = about_first f e
      settled_first Sometimes f e = about_first f e
      settled_first Only f e = ends_about (is_other ps ts) (is_against_only names ts) (λ x. refl) f e

      settled_none : (c : Claim) → list_all (λ t. is_kept t k) ts ≡ true → is_whole k ≡ true → found_by c names ts k (found_end c names ts k) ≡ None → NoneIs (settles_by c names ts)
      settled_none Never kept whole e = about_none kept whole e
      settled_none Sometimes kept whole e = about_none kept whole e
      settled_none Only kept whole e = only_none whole e

    module _ (x : Expectation) where
      none_known : is_settled x k ≡ true → found_settling names x k ≡ None → NoneIs (settles_by x.claim names x.topics.items)
      none_known s e = let p = both (is_whole k) (list_all (λ t. is_kept t k) x.topics.items) s in settled_none x.topics.items x.claim p.1 p.0 e

      first_known : (f : Finding) → found_settling names x k ≡ Some f → IsFirstBy (settles_by x.claim names x.topics.items) f
      first_known f e = settled_first x.topics.items x.claim f e

      by : (asks : Bool) (found : Option Witness) (settled : Bool) → asks_some_by x.claim ≡ asks → option_map finding_of found ≡ found_settling names x k → is_settled x k ≡ settled → IsJudged names b k x (judgement_of asks found settled)
      by true (Some w) settled a here s = let first = first_known (finding_of w) (sym here) in (subst (λ asks. IsTrueIf asks names b x) (sym a) (finding_of w, first.0, first.1), inl a)
      by true None true a here s = (a, λ y. none_known s (sym here) y.0 y.1 y.2, s)
      by true None false a here s = (sym here, s)
      by false (Some w) settled a here s = let first = first_known (finding_of w) (sym here) in (a, record { is_so = first.0; settling = first.1; first = first.2 })
      by false None true a here s = (subst (λ asks. IsTrueIf asks names b x) (sym a) (λ y. none_known s (sym here) y.0 y.1 y.2), inr s)
      by false None false a here s = (sym here, s)

      pub judged : (j : EndsJudgement) (found : Option Witness) (settled : Bool) → option_map finding_of found ≡ found_settling names x k → settled ≡ is_settled x k → j ≡ judgement_of (asks_some_by x.claim) found settled → IsJudged names b k x j
      judged j found settled here s is = subst (IsJudged names b k x) (sym is) (by (asks_some_by x.claim) found settled refl here (sym s))
