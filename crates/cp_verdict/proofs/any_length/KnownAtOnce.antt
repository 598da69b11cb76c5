-- What a search that makes kernel calls at once found is what is known.
use Rattle.std.proofs.Common.{◌≡◌, ◌∙◌, ◌+◌, ◌<◌, ◌≤◌, ℕ, Bool, true, false, not, ◌||◌, List, [], ◌∷◌, ◌++◌, length, map, take, get_or, refl, sym, ap, subst}
use Rattle.std.specs.Prelude.{All, Option, None, Some, is_none, nat_lt, string_bytes}
use Rattle.std.specs.List.{list_all, list_any}
use Rattle.std.proofs.lemmas.List.{length-map, map-append, take_all, take_more}
use Rattle.std.proofs.lemmas.List.Elements.{All-append, All-cons, All-get_or, All-nil}
use Rattle.cp_verdict.proofs.any_length.Vocabulary.{Tree, Tables, Machine, by_the_book, Shown, StepLimit, silent_slots, without_output, EndsSo, ShowsSo, slots, End, Over}
use Rattle.cp_verdict.proofs.any_length.Vocabulary.{Alone, Spins, MOST_VALUES, HasWord, IsWordOf, is_cut, HasTexts, end_pair, is_whole, value_pair, KnownEnds, KnownEnd}
use Rattle.cp_verdict.proofs.any_length.Vocabulary.{KnownValue}
use Rattle.cp_run.specs.declared.outcome.OutcomeKind.{OutcomeKind}
use Rattle.cp_walk.specs.Text.{Spellings, output_text}
use Rattle.cp_ends.specs.Answer.{ends_tests}
use Rattle.cp_ends.proofs.Telling.{ends_told}
use Rattle.cp_at_once_laws.specs.OnSlots.{LeavesNone}
use Rattle.cp_at_once.specs.Following as found_spec
use Rattle.cp_at_once.specs.Whole.{IsAnswer}
use Rattle.cp_at_once.specs.declared.found.FoundAtOnce.{FoundAtOnce}
use Rattle.cp_at_once.specs.declared.found.EndAtOnce.{EndAtOnce}
use Rattle.cp_at_once.specs.declared.found.ValueAtOnce.{ValueAtOnce}
use Rattle.cp_verdict.specs.endless.AtOnce.{HasMore, IsKnownAtOnce, knows_end, knows_value}
use Rattle.cp_verdict.proofs.any_length.Judgements.{both}

-- ---- one more

-- the things of both lists go with each other
pub things_more : {A K F : Type 0} (of_known : K → A) (of_found : F → A) (items : List F) (i : ℕ) (d : F) (old new : List K) (k : K) → i < length items → new ≡ old ++ k ∷ [] → of_known k ≡ of_found (get_or items i d) →
    map of_known old ≡ map of_found (take i items) → map of_known new ≡ map of_found (take (i + 1) items)
things_more of_known of_found items i d old new k less is same h =
    ap (map of_known) is ∙ map-append of_known old (k ∷ []) ∙ ap (λ x. map of_known old ++ x ∷ []) same ∙ ap (λ l. l ++ of_found (get_or items i d) ∷ []) h ∙
    sym (ap (map of_found) (take_more items i d less) ∙ map-append of_found (take i items) (get_or items i d ∷ []))

-- and one word more is so
pub words_more : {K A : Type 0} (pair : K → A × List ℕ) (P : A → List ℕ → Type 0) (old new : List K) (k : K) → new ≡ old ++ k ∷ [] → P (pair k).0 (pair k).1 →
    All (λ x. P x.0 x.1) (map pair old) → All (λ x. P x.0 x.1) (map pair new)
words_more {K} {A} pair P old new k is so h =
    subst (λ l. All (λ (x : A × List ℕ). P x.0 x.1) (map pair l)) (sym is)
    (subst (All (λ (x : A × List ℕ). P x.0 x.1)) (sym (map-append pair old (k ∷ []))) (All-append (λ (x : A × List ℕ). P x.0 x.1) (map pair old) (pair k ∷ []) h (All-cons (λ (x : A × List ℕ). P x.0 x.1) (pair k) [] so (All-nil (λ (x : A × List ℕ). P x.0 x.1)))))

module _ (states : List (Machine × List ℕ)) where
  pub end_word : (P : End → List ℕ → Type 0) (items : List EndAtOnce) (i : ℕ) (d : EndAtOnce) (word : List ℕ) → i < length items → All (λ e. HasWord states e.origin (P e.end)) items →
      ((w : List ℕ) → IsWordOf states (get_or items i d).origin w → word ≡ w) → P (get_or items i d).end word
  end_word P items i d word less h reads =
      let x = All-get_or (λ (e : EndAtOnce). HasWord states e.origin (P e.end)) items i d less h in
      subst (P (get_or items i d).end) (sym (reads x.0 x.1)) x.2

  pub value_word : (P : Shown → List ℕ → Type 0) (items : List ValueAtOnce) (i : ℕ) (d : ValueAtOnce) (word : List ℕ) → i < length items → All (λ e. HasWord states e.origin (P e.value)) items →
      ((w : List ℕ) → IsWordOf states (get_or items i d).origin w → word ≡ w) → P (get_or items i d).value word
  value_word P items i d word less h reads =
      let x = All-get_or (λ (e : ValueAtOnce). HasWord states e.origin (P e.value)) items i d less h in
      subst (P (get_or items i d).value) (sym (reads x.0 x.1)) x.2

pub text_more : (names : Spellings) (old new : List KnownValue) (k : KnownValue) → new ≡ old ++ k ∷ [] → string_bytes k.text ≡ output_text names (k.value ∷ []) → HasTexts names old → HasTexts names new
text_more names old new k is same h =
    ap (map (λ (v : KnownValue). string_bytes v.text)) is ∙ map-append (λ (v : KnownValue). string_bytes v.text) old (k ∷ []) ∙ ap (λ x. map (λ (v : KnownValue). string_bytes v.text) old ++ x ∷ []) same ∙
    ap (λ l. l ++ output_text names (k.value ∷ []) ∷ []) h ∙
    sym (ap (map (λ (v : KnownValue). output_text names (v.value ∷ []))) is ∙ map-append (λ (v : KnownValue). output_text names (v.value ∷ [])) old (k ∷ []))

-- ---- the loops

module _ (found : FoundAtOnce) where
  pub end_more : (items : List EndAtOnce) (i : ℕ) (d : EndAtOnce) (old new : List KnownEnd) (k : KnownEnd) → items ≡ found.ends.items → i < length items → new ≡ old ++ k ∷ [] → k.end ≡ (get_or items i d).end →
      map (λ e. e.end) old ≡ map (λ e. e.end) (take i found.ends.items) → map (λ e. e.end) new ≡ map (λ e. e.end) (take (i + 1) found.ends.items)
  end_more items i d old new k from less is same h =
      subst (λ l. map (λ (e : KnownEnd). e.end) new ≡ map (λ (e : EndAtOnce). e.end) (take (i + 1) l)) from
      (things_more (λ (e : KnownEnd). e.end) (λ (e : EndAtOnce). e.end) items i d old new k less is same (subst (λ l. map (λ (e : KnownEnd). e.end) old ≡ map (λ (e : EndAtOnce). e.end) (take i l)) (sym from) h))

  pub end_words : (states : List (Machine × List ℕ)) (P : End → List ℕ → Type 0) (items : List EndAtOnce) (i : ℕ) (d : EndAtOnce) (old new : List KnownEnd) (k : KnownEnd) → items ≡ found.ends.items → i < length items →
      new ≡ old ++ k ∷ [] → k.end ≡ (get_or items i d).end → ((w : List ℕ) → IsWordOf states (get_or items i d).origin w → k.word.items ≡ w) → All (λ e. HasWord states e.origin (P e.end)) found.ends.items →
      All (λ x. P x.0 x.1) (map end_pair old) → All (λ x. P x.0 x.1) (map end_pair new)
  end_words states P items i d old new k from less is same reads all h =
      words_more end_pair P old new k is (subst (λ e. P e k.word.items) (sym same) (end_word states P items i d k.word.items less (subst (All (λ (e : EndAtOnce). HasWord states e.origin (P e.end))) (sym from) all) reads)) h

  pub value_more : (items : List ValueAtOnce) (i : ℕ) (d : ValueAtOnce) (old new : List KnownValue) (k : KnownValue) → items ≡ found.values.items → i < length items → new ≡ old ++ k ∷ [] → k.value ≡ (get_or items i d).value →
      map (λ e. e.value) old ≡ map (λ e. e.value) (take i found.values.items) → map (λ e. e.value) new ≡ map (λ e. e.value) (take (i + 1) found.values.items)
  value_more items i d old new k from less is same h =
      subst (λ l. map (λ (e : KnownValue). e.value) new ≡ map (λ (e : ValueAtOnce). e.value) (take (i + 1) l)) from
      (things_more (λ (e : KnownValue). e.value) (λ (e : ValueAtOnce). e.value) items i d old new k less is same (subst (λ l. map (λ (e : KnownValue). e.value) old ≡ map (λ (e : ValueAtOnce). e.value) (take i l)) (sym from) h))

  pub value_words : (states : List (Machine × List ℕ)) (P : Shown → List ℕ → Type 0) (items : List ValueAtOnce) (i : ℕ) (d : ValueAtOnce) (old new : List KnownValue) (k : KnownValue) → items ≡ found.values.items → i < length items →
      new ≡ old ++ k ∷ [] → k.value ≡ (get_or items i d).value → ((w : List ℕ) → IsWordOf states (get_or items i d).origin w → k.word.items ≡ w) → All (λ e. HasWord states e.origin (P e.value)) found.values.items →
      All (λ x. P x.0 x.1) (map value_pair old) → All (λ x. P x.0 x.1) (map value_pair new)
  value_words states P items i d old new k from less is same reads all h =
      words_more value_pair P old new k is (subst (λ v. P v k.word.items) (sym same) (value_word states P items i d k.word.items less (subst (All (λ (e : ValueAtOnce). HasWord states e.origin (P e.value))) (sym from) all) reads)) h

module _ (found : FoundAtOnce) where
  pub ends_done : (items : List EndAtOnce) (i : ℕ) (all : List KnownEnd) → items ≡ found.ends.items → length items ≤ i → map (λ e. e.end) all ≡ map (λ e. e.end) (take i found.ends.items) → map (λ e. e.end) all ≡ map (λ e. e.end) found.ends.items
  ends_done items i all from le h = h ∙ ap (map (λ (e : EndAtOnce). e.end)) (take_all i found.ends.items (subst (λ l. length l ≤ i) from le))

  pub values_done : (items : List ValueAtOnce) (i : ℕ) (all : List KnownValue) → items ≡ found.values.items → length items ≤ i → map (λ e. e.value) all ≡ map (λ e. e.value) (take i found.values.items) → map (λ e. e.value) all ≡ map (λ e. e.value) found.values.items
  values_done items i all from le h = h ∙ ap (map (λ (e : ValueAtOnce). e.value)) (take_all i found.values.items (subst (λ l. length l ≤ i) from le))

-- ---- all

any_map : {X Y : Type 0} (to : X → Y) (test : Y → Bool) (xs : List X) → list_any test (map to xs) ≡ list_any (λ x. test (to x)) xs
any_map to test [] = refl
any_map to test (x ∷ xs) = ap (λ b. test (to x) || b) (any_map to test xs)

not_limit : (e : End) → not (is_cut e) ≡ true → ends_tests.end e (Over StepLimit) ≡ false
not_limit e h = by (ends_tests.end e (Over StepLimit)) refl
  where
    by : (b : Bool) → ends_tests.end e (Over StepLimit) ≡ b → b ≡ false
    by false is = refl
    by true is = let bad : not (is_cut (Over StepLimit)) ≡ true = subst (λ x. not (is_cut x) ≡ true) ((ends_told e (Over StepLimit)).0 is) h in absurd (cc)

no_limit : (es : List KnownEnd) → list_all (λ e. not (is_cut e.end)) es ≡ true → list_any (λ e. ends_tests.end e.end (Over StepLimit)) es ≡ false
no_limit [] h = refl
no_limit (e ∷ es) h =
    let b = both (not (is_cut e.end)) (list_all (λ (x : KnownEnd). not (is_cut x.end)) es) h in
    ap (λ x. x || list_any (λ (y : KnownEnd). ends_tests.end y.end (Over StepLimit)) es) (not_limit e.end b.0) ∙ no_limit es b.1

more_known : (t : Tree) (known known' : OutcomeKind → Type 0) (alone alone' spins spins' : ℕ → Type 0) (told told' : Shown → Type 0) → ((x : OutcomeKind) → known x → known' x) → ((q : ℕ) → alone q → alone' q) → ((q : ℕ) → spins q → spins' q) → ((v : Shown) → told v → told' v) →
    LeavesNone t known alone spins told → LeavesNone t known' alone' spins' told'
more_known t known known' alone alone' spins spins' told told' k a s v h =
    record {
      ends = record {
        ends = λ limit word kind other so. k kind (h.ends.ends limit word kind other so);
        alone_for_ever = λ limit word q so. a q (h.ends.alone_for_ever limit word q so);
        spins_for_ever = λ limit word q so. s q (h.ends.spins_for_ever limit word q so);
      };
      values = λ limit word x so. v x (h.values limit word x so);
    }

-- the words are so
abbrev pub IsKnownWords : Tables → ℕ → KnownEnds → Type 0
IsKnownWords r steps k = All (λ x. EndsSo (silent_slots r by_the_book) steps x.0 x.1) (map end_pair k.ends.items) × All (λ x. ShowsSo (slots r by_the_book) without_output steps x.0 x.1) (map value_pair k.values.items)

module _ (found : FoundAtOnce) (k : KnownEnds) (ends : map (λ e. e.end) k.ends.items ≡ map (λ e. e.end) found.ends.items) (values : map (λ v. v.value) k.values.items ≡ map (λ v. v.value) found.values.items) where
  same_end : (e : End) → found_spec.knows_end found e ≡ knows_end k e
  same_end e =
      sym (any_map (λ (x : EndAtOnce). x.end) (λ x. ends_tests.end x e) found.ends.items) ∙ ap (list_any (λ x. ends_tests.end x e)) (sym ends) ∙ any_map (λ (x : KnownEnd). x.end) (λ x. ends_tests.end x e) k.ends.items

  same_value : (v : Shown) → found_spec.knows_value found v ≡ knows_value k v
  same_value v =
      ap (λ b. b || nat_lt MOST_VALUES (length found.values.items)) (sym (any_map (λ (x : ValueAtOnce). x.value) (λ x. ends_tests.value x v) found.values.items) ∙ ap (list_any (λ x. ends_tests.value x v)) (sym values) ∙ any_map (λ (x : KnownValue). x.value) (λ x. ends_tests.value x v) k.values.items) ∙
      ap (λ n. list_any (λ (x : KnownValue). ends_tests.value x.value v) k.values.items || nat_lt MOST_VALUES n) (sym (length-map found.values.items (λ (x : ValueAtOnce). x.value)) ∙ sym (ap length values) ∙ length-map k.values.items (λ (x : KnownValue). x.value))

  pub known_all : (r : Tables) (steps most : ℕ) → IsAnswer r by_the_book steps most found → is_whole k ≡ true →
      (t : Tree) → LeavesNone t (λ kind. found_spec.knows_end found (Over kind) ≡ true) (λ q. found_spec.knows_end found (Alone q) ≡ true) (λ q. found_spec.knows_end found (Spins q) ≡ true) (λ v. found_spec.knows_value found v ≡ true) →
      LeavesNone t (λ kind. knows_end k (Over kind) ≡ true) (λ q. knows_end k (Alone q) ≡ true) (λ q. knows_end k (Spins q) ≡ true) (λ v. knows_value k v ≡ true)
  known_all r steps most a whole t h =
      more_known t (λ kind. found_spec.knows_end found (Over kind) ≡ true) (λ kind. knows_end k (Over kind) ≡ true) (λ q. found_spec.knows_end found (Alone q) ≡ true) (λ q. knows_end k (Alone q) ≡ true) (λ q. found_spec.knows_end found (Spins q) ≡ true) (λ q. knows_end k (Spins q) ≡ true) (λ v. found_spec.knows_value found v ≡ true) (λ v. knows_value k v ≡ true)
      (λ x is. sym (same_end (Over x)) ∙ is) (λ q is. sym (same_end (Alone q)) ∙ is) (λ q is. sym (same_end (Spins q)) ∙ is) (λ v is. sym (same_value v) ∙ is) h

  pub all_known : (r : Tables) (steps most : ℕ) → IsAnswer r by_the_book steps most found → is_none k.looked ≡ found.is_whole →
      IsKnownWords r steps k → HasTexts r.names k.values.items → IsKnownAtOnce r steps most k
  all_known r steps most a looked w texts =
      record {
        ends = w.0;
        values = w.1;
        texts = texts;
        all = λ whole t read ok same.
            (let b = both (is_none k.looked) (list_all (λ (e : KnownEnd). not (is_cut e.end)) k.ends.items) whole in
            known_all r steps most a whole t ((a.whole (sym looked ∙ b.0) refl (same_end (Over StepLimit) ∙ no_limit k.ends.items b.1)).meaning t read ok same));
        more = has_more k.looked looked;
      }
    where
      has_more : (l : Option ℕ) → is_none l ≡ found.is_whole → HasMore r steps most l
      has_more None is = tt
      has_more (Some d) is = a.too_many (sym is)
