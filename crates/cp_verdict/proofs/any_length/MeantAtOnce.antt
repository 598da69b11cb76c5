-- A mark by what a search that makes kernel calls at once found is true of the program on its own names.
use Rattle.std.proofs.Common.{◌≡◌, ◌⊎◌, inl, inr, ◌∙◌, ◌+◌, ℕ, zero, suc, Bool, true, false, not, ◌&&◌, ◌||◌, List, [], ◌∷◌, map, length, cond, refl, sym, ap, subst, arith}
use Rattle.std.specs.Prelude.{Contains, Err, IfOk, None, Ok, Option, Result, Some, find, nat_le, nat_lt, option_map, slice_get}
use Rattle.std.specs.List.{list_any}
use Rattle.std.proofs.lemmas.Bool.{leb-true, ltb-true}
use Rattle.std.proofs.lemmas.Result.{IfOk-weaker}
use Rattle.cp_verdict.proofs.any_length.Vocabulary.{Tree, IsRead, plain, laid, Tables, IsAccepted, Discipline, by_the_book, Shown, slots, silent_slots, without_output, EndsSo}
use Rattle.cp_verdict.proofs.any_length.Vocabulary.{ShowsSo, End, Over, Alone, Spins, MOST_VALUES, IsJudgedBy, judgement_of, Expectation, Names, Processes, Waiting, list_all}
use Rattle.cp_verdict.proofs.any_length.Vocabulary.{EndsJudgement, KnownEnds, KnownEnd, KnownValue, Witness, EndsVerdict}
use Rattle.cp_machine.specs.Discipline.{is_of_the_book, lets_caller_return, lets_first_in}
use Rattle.cp_machine.specs.declared.discipline.Gates.{Gates}
use Rattle.cp_machine.specs.declared.discipline.Gates.TheVariants.{First, Any}
use Rattle.cp_machine.specs.declared.discipline.Signals.{Signals}
use Rattle.cp_machine.specs.declared.discipline.Signals.TheVariants as signals
use Rattle.cp_meaning.specs.State.{book_discipline}
use Rattle.cp_ends.specs.Answer.{ends_tests}
use Rattle.cp_ends.specs.Named.{ShowsOnNames}
use Rattle.cp_ends.proofs.Searching.Lists.{all_at, place_of}
use Rattle.cp_ends.proofs.Telling.{ends_told, values_told}
use Rattle.cp_at_once_laws.specs.OnSlots.{LeavesNone}
use Rattle.cp_at_once_laws.proofs.names.Repeating.{repeats_by_one}
use Rattle.cp_verdict.specs.waiting.Asking.{name_who}
use Rattle.cp_verdict.specs.waiting.EndsJudged.{IsJudgedByAny}
use Rattle.cp_verdict.specs.waiting.EndsMarked as who_in_ends
use Rattle.cp_verdict.proofs.any_length.Verdicts.{judged_each}
use Rattle.cp_verdict.proofs.who.EndsMarks.{unnamed}
use Rattle.cp_verdict.specs.endless.AtOnce.{IsAgain, IsEndsMark, IsKnownAtOnce, IsMarkAtOnce, IsMarkInTurn, at_any_limit, can_be_at_once, knows_end, knows_value}
use Rattle.cp_verdict.specs.endless.Behaviour.{Behaviour, Finding, Ends, Shows, Waits, IsSo}
use Rattle.cp_verdict.specs.endless.Expectations.{HasSettling, IsTrue, IsTrueIf, asks_some, is_about, is_against_only, is_value_named, is_waiting_named, settles_by}
use Rattle.std.specs.Option.{option_or}
use Rattle.cp_verdict.specs.endless.Judged.{earlier_of, found_about, found_by, found_end, found_settling}
use Rattle.cp_verdict.specs.endless.Knowledge.{end_pair, ended, finding_of, is_kept, is_settled, is_whole, shown, those_waiting, value_pair, waiting_for_ever}
use Rattle.cp_verdict.specs.endless.Marked.{AreJudged, IsJudgedToFail, IsMarkOf, IsMeantMark, IsTrueMark, ask_waits, asks_waits, is_of_waiting, mark_of, open_mark, with_tables}
use Rattle.cp_expectation.specs.declared.expectation.Claim.{Claim}
use Rattle.cp_expectation.specs.declared.expectation.Claim.TheVariants.{Never, Sometimes, Only}
use Rattle.cp_expectation.specs.declared.expectation.Topic.{Topic}
use Rattle.cp_expectation.specs.declared.expectation.Topic.TheVariants as topic
use Rattle.cp_verdict.specs.Outputs.{value_text}
use Rattle.cp_verdict.specs.declared.endless.judging.EndsJudgement.TheVariants as judgement
use Rattle.cp_verdict.specs.declared.endless.saying.MarkedEnds.{MarkedEnds}
use Rattle.cp_verdict.specs.declared.endless.verdict.EndsMark.{EndsMark}
use Rattle.cp_verdict.specs.declared.endless.verdict.EndsMark.TheVariants.{TooMany}
use Rattle.cp_verdict.specs.declared.endless.verdict.EndsVerdict.TheVariants as verdict
use Rattle.cp_verdict.proofs.any_length.Finding.{at_map, found_at, found_none, map_at, some_same}
use Rattle.cp_verdict.proofs.any_length.Firsts.{false_true}
use Rattle.cp_verdict.proofs.any_length.Judgements.{both, earlier_none, earlier_one, value_kept}
use Rattle.cp_verdict.proofs.any_length.Meant.{limit_cut, settling_uncut, there}
use Rattle.cp_verdict.proofs.any_length.MeantMarks.{settled_whole}

-- ---- what is in a list

any_at : {A : Type 0} (p : A → Bool) (xs : List A) → list_any p xs ≡ true → (j : ℕ) × (x : A) × (slice_get xs j ≡ Some x) × (p x ≡ true)
any_at p [] h = absurd (cc)
any_at {A} p (x ∷ xs) h = by (p x) refl h (λ f. any_at p xs f)
  where
    by : (b : Bool) → p x ≡ b → (b || list_any p xs) ≡ true → (list_any p xs ≡ true → (j : ℕ) × (y : A) × (slice_get xs j ≡ Some y) × (p y ≡ true)) → (j : ℕ) × (y : A) × (slice_get (x ∷ xs) j ≡ Some y) × (p y ≡ true)
    by true is h on = (0, x, refl, is)
    by false is h on = let y = on h in (suc y.0, y.1, y.2, y.3)

none_at : {A : Type 0} (p : A → Bool) (xs : List A) → list_any p xs ≡ false → (j : ℕ) (x : A) → slice_get xs j ≡ Some x → p x ≡ false
none_at p [] h j x at = absurd (cc)
none_at {A} p (y ∷ xs) h zero x at = by (p y) refl h
  where
    by : (b : Bool) → p y ≡ b → (b || list_any p xs) ≡ false → p x ≡ false
    by true is h = absurd (cc)
    by false is h = subst (λ z. p z ≡ false) (some_same y x at) is
none_at {A} p (y ∷ xs) h (suc j) x at = by (p y) h (λ f. none_at p xs f j x at)
  where
    by : (b : Bool) → (b || list_any p xs) ≡ false → (list_any p xs ≡ false → p x ≡ false) → p x ≡ false
    by true h on = absurd (cc)
    by false h on = on h

-- ---- of what an expectation speaks

word_free : (c : Claim) (names : Names) (ts : List Topic) (end : End) (w v : List ℕ) → settles_by c names ts (Ends end w) ≡ settles_by c names ts (Ends end v)
word_free Never names ts end w v = refl
word_free Sometimes names ts end w v = refl
word_free Only names ts end w v = refl

value_word_free : (c : Claim) (names : Names) (ts : List Topic) (x : Shown) (w v : List ℕ) → settles_by c names ts (Shows x w) ≡ settles_by c names ts (Shows x v)
value_word_free Never names ts x w v = refl
value_word_free Sometimes names ts x w v = refl
value_word_free Only names ts x w v = refl

no_waiting : (ps : Processes) (ts : List Topic) (q : ℕ) → list_any is_of_waiting ts ≡ false → is_waiting_named ps ts q ≡ false
no_waiting ps [] q h = refl
no_waiting ps (topic.End end output ∷ ts) q h = no_waiting ps ts q h
no_waiting ps (topic.Shown text ∷ ts) q h = no_waiting ps ts q h
no_waiting ps (topic.Waiting process ∷ ts) q h = absurd (cc)

no_waits : (c : Claim) (names : Names) (ts : List Topic) (q : ℕ) → list_any is_of_waiting ts ≡ false → settles_by c names ts (Waits q) ≡ false
no_waits Never names ts q h = no_waiting names.processes ts q h
no_waits Sometimes names ts q h = no_waiting names.processes ts q h
no_waits Only names ts q h = refl

none_waits : (names : Names) (ts : List Topic) (ws : List Waiting) → list_any is_of_waiting ts ≡ false → find (is_about names ts) (map waiting_for_ever ws) ≡ None
none_waits names ts [] h = refl
none_waits names ts (w ∷ ws) h = ap (λ b. cond b (Some (waiting_for_ever w)) (find (is_about names ts) (map waiting_for_ever ws))) (no_waiting names.processes ts w.process h) ∙ none_waits names ts ws h

-- where nobody asks who waits, it is found among ends and values
about_there : (names : Names) (ts : List Topic) (k : KnownEnds) → list_any is_of_waiting ts ≡ false → found_about names ts k (find (is_about names ts) (map ended (map end_pair k.ends.items))) ≡ earlier_of (find (is_about names ts) (map ended (map end_pair k.ends.items))) (find (is_about names ts) (map shown (map value_pair k.values.items)))
about_there names ts k h = ap (λ o. option_or o (earlier_of (find (is_about names ts) (map ended (map end_pair k.ends.items))) (find (is_about names ts) (map shown (map value_pair k.values.items))))) (none_waits names ts (those_waiting k.waits) h)

no_end_found : (c : Claim) (names : Names) (ts : List Topic) (k : KnownEnds) → list_any is_of_waiting ts ≡ false → found_by c names ts k (found_end c names ts k) ≡ None → find (settles_by c names ts) (map ended (map end_pair k.ends.items)) ≡ None
no_end_found Never names ts k h e = (earlier_none _ _ (sym (about_there names ts k h) ∙ e)).0
no_end_found Sometimes names ts k h e = (earlier_none _ _ (sym (about_there names ts k h) ∙ e)).0
no_end_found Only names ts k h e = e

-- a value that settles an expectation is asked by `never` or `some`
no_value_found : (c : Claim) (names : Names) (ts : List Topic) (k : KnownEnds) (v : Shown) (word : List ℕ) → list_any is_of_waiting ts ≡ false → found_by c names ts k (found_end c names ts k) ≡ None → settles_by c names ts (Shows v word) ≡ true → (find (settles_by c names ts) (map shown (map value_pair k.values.items)) ≡ None) × (is_value_named ts (value_text names.values v) ≡ true)
no_value_found Never names ts k v word h e is = ((earlier_none _ _ (sym (about_there names ts k h) ∙ e)).1, is)
no_value_found Sometimes names ts k v word h e is = ((earlier_none _ _ (sym (about_there names ts k h) ∙ e)).1, is)
no_value_found Only names ts k v word h e is = absurd (cc)

few_values : (found : Bool) (n most : ℕ) → (found || nat_lt most n) ≡ true → nat_le n most ≡ true → found ≡ true
few_values true n most h le = refl
few_values false n most h le = let more = ltb-true most n h in let few = leb-true n most le in absurd (omega (arith, more, few))

-- ---- true of the names

module _ (ps : Processes) (t : Tree) (r : Tables) (read : IsRead t.program) (ok : IsAccepted t) (same : plain r ≡ laid t) (steps most : ℕ) (k : KnownEnds) (h : IsKnownAtOnce r steps most k) where
  abbrev b : Behaviour
  b = at_any_limit t

  abbrev names : Names
  names = with_tables r ps

  end_so : (end : End) (word : List ℕ) → EndsSo (silent_slots r by_the_book) steps end word → IsSo b (Ends end word)
  end_so (Over kind) word so = (steps, there t r book_discipline read ok same steps (Ends (Over kind) word) so)
  end_so (Alone q) word so = (steps, (repeats_by_one t r read ok same).alone steps word q so)
  end_so (Spins q) word so = (steps, (repeats_by_one t r read ok same).spins steps word q so)

  shows_so : (v : Shown) (word : List ℕ) → ShowsSo (slots r by_the_book) without_output steps v word → IsSo b (Shows v word)
  shows_so v word so = by (there t r book_discipline read ok same steps (Shows v word) so)
    where
      by : ShowsOnNames t book_discipline steps v word → IsSo b (Shows v word)
      by (inl x) = (steps, x)
      by (inr x) = (steps + steps, x.1)

  ends_so : (at : ℕ) (f : Finding) → slice_get (map ended (map end_pair k.ends.items)) at ≡ Some f → IsSo b f
  ends_so at f is =
      let x = map_at ended (map end_pair k.ends.items) at f is in
      subst (IsSo b) x.2 (end_so x.0.0 x.0.1 (all_at (λ (y : End × List ℕ). EndsSo (silent_slots r by_the_book) steps y.0 y.1) (map end_pair k.ends.items) at x.0 h.ends x.1))

  values_so : (at : ℕ) (f : Finding) → slice_get (map shown (map value_pair k.values.items)) at ≡ Some f → IsSo b f
  values_so at f is =
      let x = map_at shown (map value_pair k.values.items) at f is in
      subst (IsSo b) x.2 (shows_so x.0.0 x.0.1 (all_at (λ (y : Shown × List ℕ). ShowsSo (slots r by_the_book) without_output steps y.0 y.1) (map value_pair k.values.items) at x.0 h.values x.1))

  -- what is found is so
  found_so : (c : Claim) (ts : List Topic) (f : Finding) → list_any is_of_waiting ts ≡ false → found_by c names ts k (found_end c names ts k) ≡ Some f → IsSo b f × (settles_by c names ts f ≡ true)
  found_so c ts f waits e = by_claim c e
    where
      end_found : (t : Finding → Bool) (g : Finding) → find t (map ended (map end_pair k.ends.items)) ≡ Some g → IsSo b g × (t g ≡ true)
      end_found t g here = let x = found_at t (map ended (map end_pair k.ends.items)) g here in (ends_so x.place g x.at, x.passes)

      value_found : (t : Finding → Bool) (g : Finding) → find t (map shown (map value_pair k.values.items)) ≡ Some g → IsSo b g × (t g ≡ true)
      value_found t g here = let x = found_at t (map shown (map value_pair k.values.items)) g here in (values_so x.place g x.at, x.passes)

      about : found_about names ts k (find (is_about names ts) (map ended (map end_pair k.ends.items))) ≡ Some f → IsSo b f × (is_about names ts f ≡ true)
      about l = earlier_one (λ g. IsSo b g × (is_about names ts g ≡ true)) _ _ f (end_found (is_about names ts)) (value_found (is_about names ts)) (sym (about_there names ts k waits) ∙ l)

      by_claim : (d : Claim) → found_by d names ts k (found_end d names ts k) ≡ Some f → IsSo b f × (settles_by d names ts f ≡ true)
      by_claim Never l = about l
      by_claim Sometimes l = about l
      by_claim Only l = end_found (is_against_only names ts) f l

  -- where all is known, what is so is known
  module _ (e : Expectation) (waits : asks_waits e ≡ false) (s : is_settled e k ≡ true) (none : found_settling names e k ≡ None) where
    abbrev test : Finding → Bool
    test = settles_by e.claim names e.topics.items

    all : LeavesNone t (λ kind. knows_end k (Over kind) ≡ true) (λ q. knows_end k (Alone q) ≡ true) (λ q. knows_end k (Spins q) ≡ true) (λ v. knows_value k v ≡ true)
    all = h.all (settled_whole e k s) t read ok same

    end_known : (end : End) (word : List ℕ) → IsSo b (Ends end word) → test (Ends end word) ≡ true → knows_end k end ≡ true
    end_known (Over kind) word so is = all.ends.ends so.0 word kind (limit_cut kind (settling_uncut names e (Over kind) word is)) so.1
    end_known (Alone q) word so is = all.ends.alone_for_ever so.0 word q so.1
    end_known (Spins q) word so is = all.ends.spins_for_ever so.0 word q so.1

    no_end : (end : End) (word : List ℕ) → IsSo b (Ends end word) → test (Ends end word) ≡ true → ⊥
    no_end end word so is =
        let x = any_at (λ (y : KnownEnd). ends_tests.end y.end end) k.ends.items (end_known end word so is) in
        let at : slice_get (map ended (map end_pair k.ends.items)) x.0 ≡ Some (Ends x.1.end x.1.word.items) = at_map ended (map end_pair k.ends.items) x.0 (end_pair x.1) (at_map end_pair k.ends.items x.0 x.1 x.2) in
        let not_so = found_none test (map ended (map end_pair k.ends.items)) (no_end_found e.claim names e.topics.items k waits none) x.0 (Ends x.1.end x.1.word.items) at in
        false_true (test (Ends end word)) (word_free e.claim names e.topics.items end word x.1.word.items ∙ ap (λ y. test (Ends y x.1.word.items)) (sym ((ends_told x.1.end end).0 x.3)) ∙ not_so) is

    no_value : (v : Shown) (word : List ℕ) → IsSo b (Shows v word) → test (Shows v word) ≡ true → ⊥
    no_value v word so is =
        let found = no_value_found e.claim names e.topics.items k v word waits none is in
        let few = value_kept k e.topics.items (value_text r.names v) (both (is_whole k) (list_all (λ t. is_kept t k) e.topics.items) s).1 found.1 in
        let x = any_at (λ (y : KnownValue). ends_tests.value y.value v) k.values.items (few_values (list_any (λ (y : KnownValue). ends_tests.value y.value v) k.values.items) (length k.values.items) MOST_VALUES (all.values so.0 word v so.1) (subst (λ n. nat_le n MOST_VALUES ≡ true) k.values.ok.0 few)) in
        let at : slice_get (map shown (map value_pair k.values.items)) x.0 ≡ Some (Shows x.1.value x.1.word.items) = at_map shown (map value_pair k.values.items) x.0 (value_pair x.1) (at_map value_pair k.values.items x.0 x.1 x.2) in
        let not_so = found_none test (map shown (map value_pair k.values.items)) found.0 x.0 (Shows x.1.value x.1.word.items) at in
        false_true (test (Shows v word)) (value_word_free e.claim names e.topics.items v word x.1.word.items ∙ ap (λ y. test (Shows y x.1.word.items)) (sym ((values_told x.1.value v).0 x.3)) ∙ not_so) is

    none_settles : HasSettling names b e → ⊥
    none_settles (Ends end word, so, is) = no_end end word so is
    none_settles (Shows v word, so, is) = no_value v word so is
    none_settles (Waits q, so, is) = false_true (test (Waits q)) (no_waits e.claim names e.topics.items q waits) is

  -- ---- judgements

  abbrev IsRight : Expectation → EndsJudgement → Type 0
  IsRight e judgement.Holds = IsTrue names b e
  IsRight e (judgement.Against w) = IsTrue names b e → ⊥
  IsRight e judgement.Missing = IsTrue names b e → ⊥
  IsRight e judgement.Open = Unit {0}

  module _ (e : Expectation) (waits : asks_waits e ≡ false) where
    has : (f : Finding) → Some f ≡ found_settling names e k → HasSettling names b e
    has f is = let x = found_so e.claim e.topics.items f waits (sym is) in (f, x.0, x.1)

    true_by : (asks : Bool) → asks_some e ≡ asks → IsTrueIf asks names b e → IsTrue names b e
    true_by asks a is = subst (λ c. IsTrueIf c names b e) (sym a) is

    by_true : (asks : Bool) → asks_some e ≡ asks → IsTrue names b e → IsTrueIf asks names b e
    by_true asks a is = subst (λ c. IsTrueIf c names b e) a is

    by : (asks : Bool) (found : Option Witness) (settled : Bool) → asks_some e ≡ asks → option_map finding_of found ≡ found_settling names e k → is_settled e k ≡ settled → IsRight e (judgement_of asks found settled)
    by true (Some w) settled a here s = true_by true a (has (finding_of w) here)
    by true None true a here s = λ is. none_settles e waits s (sym here) (by_true true a is)
    by true None false a here s = tt
    by false (Some w) settled a here s = λ is. by_true false a is (has (finding_of w) here)
    by false None true a here s = true_by false a (none_settles e waits s (sym here))
    by false None false a here s = tt

    right : (j : EndsJudgement) → IsJudgedBy names k e j → IsRight e j
    right j x = subst (IsRight e) (sym x.2) (by (asks_some e) x.0 (is_settled e k) refl x.1 refl)

  module _ (es : List Expectation) (none : ask_waits es ≡ false) where
    no_wait : (e : Expectation) → Contains es e → asks_waits e ≡ false
    no_wait e c = let at = place_of es e c in none_at asks_waits es none at.0 e at.1

    open_true : (looked : Option ℕ) → IsTrueMark names b es (open_mark looked)
    open_true None = tt
    open_true (Some d) = tt

    failed : (e : Expectation) (against : Option Witness) → asks_waits e ≡ false → IsJudgedToFail (IsJudgedBy names k) e against → IsTrue names b e → ⊥
    failed e (Some w) waits j = right e waits (judgement.Against w) j
    failed e None waits j = right e waits judgement.Missing j

    pub true_mark : (v : EndsVerdict) → AreJudged (IsJudgedBy names k) es v → IsTrueMark names b es (mark_of v k.looked)
    true_mark verdict.Holds j = λ e c. right e (no_wait e c) judgement.Holds (j e c)
    true_mark (verdict.Fails e against) j = (e.now, j.0, failed e.now against (no_wait e.now j.0) j.1)
    true_mark (verdict.Open e) j = open_true k.looked

-- ---- the mark

not_second : (x y : Bool) → (x && not y) ≡ true → (x ≡ true) × (y ≡ false)
not_second true true h = absurd (cc)
not_second true false h = (refl, refl)
not_second false y h = absurd (cc)

book_alone : (discipline : Discipline) → is_of_the_book discipline ≡ true → discipline ≡ by_the_book
book_alone discipline h = by discipline.gates discipline.signals h
  where
    by : (g : Gates) (s : Signals) → (lets_first_in g && lets_caller_return s) ≡ true → (let d : Discipline = record { gates = g; signals = s } in d) ≡ by_the_book
    by First signals.Return h = refl
    by First signals.Continue h = absurd (cc)
    by First signals.Wait h = absurd (cc)
    by Any s h = absurd (cc)

pub of_the_book : (discipline : Discipline) (es : List Expectation) → can_be_at_once discipline es ≡ true → discipline ≡ by_the_book
of_the_book discipline es can = book_alone discipline (not_second (is_of_the_book discipline) (ask_waits es) (not_second (is_of_the_book discipline && not (ask_waits es)) (name_who es) can).0).0

-- nor can what names who waits at an end
pub never_named : (discipline : Discipline) (es : List Expectation) → name_who es ≡ true → can_be_at_once discipline es ≡ false
never_named discipline es asks = by (is_of_the_book discipline && not (ask_waits es)) (name_who es) asks
  where
    by : (x y : Bool) → y ≡ true → (x && not y) ≡ false
    by true true e = refl
    by false y e = refl
    by true false e = absurd (cc)

pub marked_at_once : {E : Type 0} (r : Tables) (ps : Processes) (discipline : Discipline) (steps most : ℕ) (es : List Expectation) (k : KnownEnds) (v : EndsVerdict) → can_be_at_once discipline es ≡ true → IsKnownAtOnce r steps most k → AreJudged (IsJudgedByAny (with_tables r ps) k) es v →
    (told : Result MarkedEnds E) → IfOk told (λ m. m.mark ≡ mark_of v k.looked) → IfOk told (λ m. IsMarkAtOnce r ps steps most es m.mark)
marked_at_once r ps discipline steps most es k v can h any told is =
    let alone = not_second (is_of_the_book discipline && not (ask_waits es)) (name_who es) can in
    let j = judged_each (IsJudgedByAny (with_tables r ps) k) (IsJudgedBy (with_tables r ps) k) es (λ e x c g. g (unnamed es alone.1 e c)) v any in
    IfOk-weaker told (λ m. m.mark ≡ mark_of v k.looked) (λ m. IsMarkAtOnce r ps steps most es m.mark)
    (λ m same_mark.
    record {
      known = k;
      is_known = h;
      verdict = v;
      is = same_mark;
      judged = j;
      meaning = λ t read ok same. subst (IsTrueMark (with_tables r ps) (at_any_limit t) es) (sym same_mark) (true_mark ps t r read ok same steps most k h es (not_second (is_of_the_book discipline) (ask_waits es) alone.0).1 v j);
    })
    is

-- ---- in turn

module _ {E : Type 0} (r : Tables) (ps : Processes) (discipline : Discipline) (steps : ℕ) (es : List Expectation) (before : EndsMark) (told : Result MarkedEnds E) where
  pub one : (again : EndsMark) → IfOk told (λ m. m.mark ≡ before) → IfOk told (λ m. (m.mark ≡ before) ⊎ (m.mark ≡ again))
  one again h = IfOk-weaker told (λ m. m.mark ≡ before) (λ m. (m.mark ≡ before) ⊎ (m.mark ≡ again)) (λ m is. inl is) h

  pub other : (again : EndsMark) → IfOk told (λ m. m.mark ≡ again) → IfOk told (λ m. (m.mark ≡ before) ⊎ (m.mark ≡ again))
  other again h = IfOk-weaker told (λ m. m.mark ≡ again) (λ m. (m.mark ≡ before) ⊎ (m.mark ≡ again)) (λ m is. inr is) h

  pub settles_more : (most : ℕ) (again : EndsMark) → can_be_at_once discipline es ≡ true → IsMarkAtOnce r ps steps most es again → IfOk told (λ m. (m.mark ≡ before) ⊎ (m.mark ≡ again)) → IfOk told (λ m. IsAgain r ps discipline steps most es before m.mark)
  settles_more most again can x h = IfOk-weaker told (λ m. (m.mark ≡ before) ⊎ (m.mark ≡ again)) (λ m. IsAgain r ps discipline steps most es before m.mark) (λ m y. by_one m.mark y) h
    where
      by_one : (m : EndsMark) → (m ≡ before) ⊎ (m ≡ again) → IsAgain r ps discipline steps most es before m
      by_one m (inl is) = inl is
      by_one m (inr is) = inr (of_the_book discipline es can, subst (IsMarkAtOnce r ps steps most es) (sym is) x)

  module _ (most : ℕ) (is : IsMarkOf r ps discipline steps most es before) (meant : IsMeantMark r ps discipline steps es before) (many : before ≡ TooMany) where
    by_turns : (m : EndsMark) → IsAgain r ps discipline steps most es before m → IsMarkInTurn r ps discipline steps most es m
    by_turns m (inl e) = inl (subst (IsMarkOf r ps discipline steps most es) (sym e) is, subst (IsMeantMark r ps discipline steps es) (sym e) meant)
    by_turns m (inr x) = inr (subst (IsMarkOf r ps discipline steps most es) many is, x.0, x.1)

    pub in_turn : IfOk told (λ m. IsAgain r ps discipline steps most es before m.mark) → IfOk told (λ m. IsMarkInTurn r ps discipline steps most es m.mark)
    in_turn h = IfOk-weaker told (λ m. IsAgain r ps discipline steps most es before m.mark) (λ m. IsMarkInTurn r ps discipline steps most es m.mark) (λ m x. by_turns m.mark x) h

-- ---- by all states

module _ (r : Tables) (ps : Processes) (discipline : Discipline) (steps : ℕ) (es : List Expectation) (most : ℕ) where
  pub is_ends_mark : (m : EndsMark) → (name_who es ≡ false → IsMarkOf r ps discipline steps most es m) → (name_who es ≡ false → IsMeantMark r ps discipline steps es m) → who_in_ends.IsMarkOf r ps discipline steps most es m → who_in_ends.IsMeantMark r ps discipline steps es m → IsEndsMark r ps discipline steps most es m
  is_ends_mark m mark meaning who who_meant = (λ none. inl (mark none, meaning none), λ named. (who, who_meant))

  module _ {E : Type 0} where
    pub by_states : (told : Result MarkedEnds E) → (name_who es ≡ false → IfOk told (λ m. IsMarkOf r ps discipline steps most es m.mark)) → (name_who es ≡ false → IfOk told (λ m. IsMeantMark r ps discipline steps es m.mark)) → IfOk told (λ m. who_in_ends.IsMarkOf r ps discipline steps most es m.mark) → IfOk told (λ m. who_in_ends.IsMeantMark r ps discipline steps es m.mark) → IfOk told (λ m. IsEndsMark r ps discipline steps most es m.mark)
    by_states (Ok m) mark meaning who who_meant = is_ends_mark m.mark mark meaning who who_meant
    by_states (Err e) mark meaning who who_meant = tt

    -- or by calls at once, where nobody is named
    pub turned : (told : Result MarkedEnds E) → (name_who es ≡ false → IfOk told (λ m. IsMarkInTurn r ps discipline steps most es m.mark)) → (name_who es ≡ true → IfOk told (λ m. who_in_ends.IsMarkOf r ps discipline steps most es m.mark)) → (name_who es ≡ true → IfOk told (λ m. who_in_ends.IsMeantMark r ps discipline steps es m.mark)) → IfOk told (λ m. IsEndsMark r ps discipline steps most es m.mark)
    turned (Ok m) nobody who who_meant = (nobody, λ named. (who named, who_meant named))
    turned (Err e) nobody who who_meant = tt
