-- What is found on slots is so of the program on its own names.
use Rattle.std.proofs.Common.{◌≡◌, ◌≢◌, ◌⊎◌, inl, inr, ⊎_elim, ◌∙◌, ◌+◌, ◌<◌, ◌≤◌, ℕ, true, List, length, Option, None, Some, ap, subst, arith, ◌||◌, ◌&&◌, ◌==◌}
use Rattle.std.specs.List.{AllPairs}
use Rattle.cp_ends.proofs.Vocabulary.{All, Contains, Tree, IsRead, plain, laid, Tables, IsAccepted, Shown, Machine, OutcomeKind, StepLimit, slots, System}
use Rattle.cp_ends.proofs.Vocabulary.{EndsAfter, repeating, EndsSo, ShowsSo, same_key, Over, Alone, Spins}
use Rattle.std.proofs.lemmas.Bool.{cases_order, lt-ltb}
use Rattle.cp_meaning.specs.State.{Discipline}
use Rattle.cp_machine_laws.specs.Named.{discipline_of}
use Rattle.cp_machine_laws.proofs.Meaning.{meaning_law}
use Rattle.cp_endless_laws.specs.Layers.{IsPossibleTo}
use Rattle.cp_endless_laws.specs.Meaning.{MeansTheSame}
use Rattle.cp_endless_laws.specs.Repeats.{EndsAtEachLimit}
use Rattle.cp_endless_laws.specs.Silent.{ShowsLess, without_output, silent_slots, silent_named}
use Rattle.cp_endless_laws.proofs.names.Meant.{endless_meaning, settled_meaning}
use Rattle.cp_endless_laws.proofs.possible.Tables.{witnesses}
use Rattle.cp_endless_laws.proofs.slots.Output.{slots_forget}
use Rattle.cp_ends.specs.Firsts.{is_up_to, in_dictionary, IsFirst, HasWord, Within}
use Rattle.cp_ends.specs.Named.{AnswerMeaningLaw, AnswerToMeaningLaw, AreEndsOnNames, AreValuesOnNames, EndsOnNames, RunsOnNames, ShowsOnNames, IsAnswerOnSlots, IsAnswerOnNames, IsAnswerToOnSlots, IsAnswerToOnNames, IsLookedAt, IsSchedule, IsTold, IsValueTold, kind_of, kinds_of}
use Rattle.cp_ends.specs.declared.end.End.{End}
use Rattle.cp_ends.proofs.named.EachLimit.{shows_early}
use Rattle.cp_ends.proofs.named.ForEver.{alone_for_ever, spins_for_ever}
use Rattle.cp_ends.proofs.named.ForEverOnNames.{alone_named, spins_named}
use Rattle.cp_ends.proofs.named.Keys.{key_same, key_self}
use Rattle.cp_ends.proofs.named.Kinds.{contains_map, contains_unmap, so_over, over_kind, over_so, are_settled, settled_more, those}
use Rattle.cp_ends.proofs.named.Later.{again_shown, again_ends}

-- ---- first words of those that are looked at

lengths : (a b : ℕ) → (a ≤ b) ⊎ (b < a)
lengths a b = ⊎_elim
    (λ (is : a ≡ b). inl (omega (arith, is)))
    (λ (apart : (a < b) ⊎ (b < a)). ⊎_elim (λ (less : a < b). inl (omega (arith, less))) (λ (more : b < a). inr more) apart)
    (cases_order a b)

pub shorter_first : (word other : List ℕ) → length word < length other → is_up_to word other ≡ true
unfolding is_up_to
shorter_first word other less = ap (λ x. x || ((length word == length other) && in_dictionary word other)) (lt-ltb (length word) (length other) less)

-- what a list of first words says of those that are looked at
record AreFirstOf {A : Type 0} (looked : Option ℕ) (P : A → List ℕ → Type 0) (found : List (A × List ℕ)) : Type 0 where
  looked_at : (a : A) (word : List ℕ) → Contains found (a, word) → IsLookedAt looked word
  so : (a : A) (word : List ℕ) → Contains found (a, word) → P a word
  first : (a : A) (word other : List ℕ) → Contains found (a, word) → P a other → is_up_to word other ≡ true
  once : AllPairs (λ e f. e.0 ≢ f.0) found
  sorted : AllPairs (λ e f. is_up_to e.1 f.1 ≡ true) found

of_all : {A : Type 0} (P : A → List ℕ → Type 0) (found : List (A × List ℕ)) → ((a : A) (word : List ℕ) → Contains found (a, word) → IsFirst (P a) word) → AllPairs (λ e f. e.0 ≢ f.0) found → AllPairs (λ e f. is_up_to e.1 f.1 ≡ true) found → AreFirstOf None P found
of_all P found f once sorted = record { looked_at = λ a word c. tt; so = λ a word c. (f a word c).is; first = λ a word other c p. (f a word c).first other p; once = once; sorted = sorted }

of_short : {A : Type 0} (d : ℕ) (P : A → List ℕ → Type 0) (found : List (A × List ℕ)) → ((a : A) (word : List ℕ) → Contains found (a, word) → IsFirst (Within d P a) word) → AllPairs (λ e f. e.0 ≢ f.0) found → AllPairs (λ e f. is_up_to e.1 f.1 ≡ true) found → AreFirstOf (Some d) P found
of_short {A} d P found f once sorted = record { looked_at = λ a word c. (f a word c).is.1; so = λ a word c. (f a word c).is.0; first = up; once = once; sorted = sorted }
  where
    up : (a : A) (word other : List ℕ) → Contains found (a, word) → P a other → is_up_to word other ≡ true
    up a word other c p = ⊎_elim
        (λ (short : length other ≤ d). (f a word c).first other (p, short))
        (λ (long : d < length other). (let le = (f a word c).is.1 in shorter_first word other (omega (arith, le, long))))
        (lengths (length other) d)

module _ (t : Tree) (r : Tables) (g : Discipline) (read : IsRead t.program) (ok : IsAccepted t) (same : plain r ≡ laid t) where
  abbrev b : System Machine
  b = silent_slots r (discipline_of g)

  means : (steps : ℕ) → MeansTheSame t r g steps
  means steps = endless_meaning t r g read ok same steps

  schedule : (steps : ℕ) (word : List ℕ) (kind : OutcomeKind) → EndsAfter b steps word kind → IsSchedule t g steps word kind
  schedule steps word kind e choices le =
      let w = witnesses (slots r (discipline_of g)) without_output ShowsLess (slots_forget r (discipline_of g)) steps word kind e choices le in
      (w.0, w.1, (meaning_law t r g read ok same choices steps).runs word ∙ w.2, w.3)

  module _ (steps : ℕ) where
    each_limit : (word : List ℕ) → EndsAtEachLimit b steps word → EndsAtEachLimit (silent_named t g) steps word
    each_limit word h more = (means (more + steps)).ends.after_back word StepLimit (h more)

    end_so : (end : End) (word : List ℕ) → EndsSo b steps end word → EndsOnNames t g steps end word
    end_so (Over kind) word so = (means steps).ends.after_back word kind (so_over b steps (Over kind) word so)
    end_so (Alone q) word so = (each_limit word ((repeating b).alone steps word q so), alone_named t r g read ok same steps word q (alone_for_ever b steps word q so))
    end_so (Spins q) word so = (each_limit word ((repeating b).spins steps word q so), spins_named t r g read ok same steps word q (spins_for_ever b steps word q so))

    runs_so : (end : End) (word : List ℕ) → EndsSo b steps end word → RunsOnNames t g steps end word
    runs_so (Over kind) word so = schedule steps word kind (so_over b steps (Over kind) word so)
    runs_so (Alone q) word so = λ more. schedule (more + steps) word StepLimit ((repeating b).alone steps word q so more)
    runs_so (Spins q) word so = λ more. schedule (more + steps) word StepLimit ((repeating b).spins steps word q so more)

    shows_so : (v : Shown) (word : List ℕ) → ShowsSo (slots r (discipline_of g)) without_output steps v word → ShowsOnNames t g steps v word
    shows_so v word (inl x) = inl ((means steps).values.back word v x)
    shows_so v word (inr x) =
        inr (each_limit word (again_ends (slots r (discipline_of g)) without_output steps word v x), (means (steps + steps)).values.back word v (again_shown (slots r (discipline_of g)) without_output steps word v x))

    -- ---- ends

    module _ (looked : Option ℕ) (ends : List (End × List ℕ)) (firsts : AreFirstOf looked (EndsSo b steps) ends) (all : (end : End) (word : List ℕ) → IsLookedAt looked word → EndsSo b steps end word → HasWord ends end) where
      told : (word : List ℕ) (kind : OutcomeKind) → IsLookedAt looked word → EndsAfter (silent_named t g) steps word kind → IsTold ends kind word
      told word kind at e =
          let o = over_so (slots r (discipline_of g)) without_output same_key steps key_same key_self word kind ((means steps).ends.after_there word kind e) in
          let h = all o.0 word at o.2 in
          (o.0, h.0, h.1, o.1, firsts.first o.0 h.0 word h.1 o.2)

      are_ends : AreEndsOnNames t g steps looked ends
      are_ends =
          record {
            looked_at = firsts.looked_at;
            end_so = λ end word c. end_so end word (firsts.so end word c);
            runs_so = λ end word c. runs_so end word (firsts.so end word c);
            first = λ kind word c other.
                record {
                  is = (means steps).ends.after_back word kind (so_over b steps (Over kind) word (firsts.so (Over kind) word c));
                  first = λ w e. firsts.first (Over kind) word w c (over_kind b steps kind w other ((means steps).ends.after_there w kind e));
                };
            all = told;
            once = firsts.once;
            sorted = firsts.sorted;
          }

    -- ---- values

    module _ (looked : Option ℕ) (most : ℕ) (values : List (Shown × List ℕ)) (firsts : AreFirstOf looked (ShowsSo (slots r (discipline_of g)) without_output steps) values)
        (all : (v : Shown) (word : List ℕ) → IsLookedAt looked word → ShowsSo (slots r (discipline_of g)) without_output steps v word → HasWord values v ⊎ ((length values ≡ most) × All (λ x. is_up_to x.1 word ≡ true) values)) where
      so_told : (v : Shown) (word : List ℕ) → IsLookedAt looked word → ShowsSo (slots r (discipline_of g)) without_output steps v word → IsValueTold most values v word
      so_told v word at so = ⊎_elim
          (λ (h : HasWord values v). inl (h.0, h.1, firsts.first v h.0 word h.1 so))
          (λ (full : (length values ≡ most) × All (λ (x : Shown × List ℕ). is_up_to x.1 word ≡ true) values). inr full)
          (all v word at so)

      are_values : AreValuesOnNames t g steps looked most values
      are_values =
          record {
            looked_at = firsts.looked_at;
            shown = λ v word c. shows_so v word (firsts.so v word c);
            first = λ v word other c s. firsts.first v word other c (inl ((means steps).values.there other v s));
            all = λ v word at s. so_told v word at (inl ((means steps).values.there word v s));
            once = firsts.once;
            sorted = firsts.sorted;
          }

    answer : (most : ℕ) (states : List (Machine × List ℕ)) (ends : List (End × List ℕ)) (values : List (Shown × List ℕ)) → IsAnswerOnSlots r (discipline_of g) steps most states ends values → IsAnswerOnNames t g steps most ends values
    answer most states ends values h =
        let sys = slots r (discipline_of g) in
        record {
          all_ends = are_ends None ends (of_all (EndsSo b steps) ends h.all_ends.first h.all_ends.once h.all_ends.sorted) (λ end word at so. h.all_ends.all end word so);
          all_values = are_values None most values (of_all (ShowsSo sys without_output steps) values h.all_values.first h.all_values.once h.all_values.sorted) (λ v word at so. h.all_values.all v word so);
          settled = settled_meaning t r g read ok same steps (those sys without_output same_key steps key_same key_self states ends h.all_states h.all_ends) (kinds_of ends)
              (are_settled sys without_output same_key steps key_same key_self states ends h.all_states h.all_ends);
          more_steps = λ no_cut more.
              settled_meaning t r g read ok same (more + steps) (those sys without_output same_key steps key_same key_self states ends h.all_states h.all_ends) (kinds_of ends)
              (settled_more sys without_output same_key steps key_same key_self states ends h.all_states h.all_ends no_cut more);
          more_values = λ no_cut more v word s.
              so_told None most values (of_all (ShowsSo sys without_output steps) values h.all_values.first h.all_values.once h.all_values.sorted) (λ u w at so. h.all_values.all u w so) v word tt
              (shows_early sys without_output same_key steps key_same key_self states ends h.all_states h.all_ends no_cut more v word ((means (more + steps)).values.there word v s));
        }

    -- ---- of at most so many choices

    module _ (choices most : ℕ) (ends : List (End × List ℕ)) (values : List (Shown × List ℕ)) (h : IsAnswerToOnSlots r (discipline_of g) steps choices most ends values) where
      short_ends : AreEndsOnNames t g steps (Some choices) ends
      short_ends = are_ends (Some choices) ends (of_short choices (EndsSo b steps) ends h.all_ends.first h.all_ends.once h.all_ends.sorted) (λ end word at so. h.all_ends.all end word (so, at))

      short_values : AreValuesOnNames t g steps (Some choices) most values
      short_values = are_values (Some choices) most values (of_short choices (ShowsSo (slots r (discipline_of g)) without_output steps) values h.all_values.first h.all_values.once h.all_values.sorted) (λ v word at so. h.all_values.all v word (so, at))

      possible : (kind : OutcomeKind) → IsPossibleTo (silent_named t g) steps choices kind → Contains (kinds_of ends) kind
      possible kind i =
          let told = short_ends.all i.word kind i.short i.ends in
          subst (Contains (kinds_of ends)) told.3 (contains_map (λ (x : End × List ℕ). kind_of x.0) ends (told.0, told.1) told.2)

      is_possible : (kind : OutcomeKind) → Contains (kinds_of ends) kind → IsPossibleTo (silent_named t g) steps choices kind
      is_possible kind c =
          let x = contains_unmap (λ (x : End × List ℕ). kind_of x.0) ends kind c in
          let within = (h.all_ends.first x.0.0 x.0.1 x.1).is in
          record {
            word = x.0.1;
            short = within.1;
            ends = subst (EndsAfter (silent_named t g) steps x.0.1) x.2 ((means steps).ends.after_back x.0.1 (kind_of x.0.0) (so_over b steps x.0.0 x.0.1 within.0));
          }

      answer_to : IsAnswerToOnNames t g steps choices most ends values
      answer_to = record { all_ends = short_ends; all_values = short_values; settled = λ kind. (possible kind, is_possible kind) }

pub answer_means : AnswerMeaningLaw
answer_means t r g read ok same steps most states ends values h = answer t r g read ok same steps most states ends values h

pub answer_to_means : AnswerToMeaningLaw
answer_to_means t r g read ok same steps choices most ends values h = answer_to t r g read ok same steps choices most ends values h
