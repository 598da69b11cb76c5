-- What a search found is what is known of the schedules.
use Rattle.std.proofs.Common.{◌≡◌, ◌∙◌, ◌+◌, ◌<◌, ◌≤◌, ℕ, zero, suc, Bool, true, false, List, [], ◌∷◌, ◌++◌, length, map, take, get_or, cond, refl, sym, ap, subst, arith}
use Rattle.cp_verdict.proofs.any_length.Vocabulary.{Option, None, Some, slice_get, Tables, Machine, Discipline, Shown, slots, without_output, End, MOST_VALUES, on_slots}
use Rattle.cp_verdict.proofs.any_length.Vocabulary.{KnownEnds}
use Rattle.std.proofs.lemmas.List.{append-nil, length-map, map-append, take_all, take_more}
use Rattle.std.proofs.lemmas.List.Elements.{filter-append}
use Rattle.std.proofs.lemmas.Option.{slice_get_within, get_or_from_slice_get}
use Rattle.cp_ends.specs.Holds.{AreFound, AreStates, Holds, IsWordOf, SlotFindings, end_origin, origin_at, origin_or, value_origin}
use Rattle.cp_ends.specs.Firsts.{AreFirsts, AreFirstOnes, Within, those_within}
use Rattle.cp_ends.specs.Whole.{IsAnswer, IsAnswerBy, IsCutShort, IsWhole, LeadsToState}
use Rattle.cp_ends.specs.declared.found.Found.{Found}
use Rattle.cp_ends.specs.declared.found.FoundEnd.{FoundEnd}
use Rattle.cp_ends.specs.declared.found.FoundValue.{FoundValue}
use Rattle.cp_ends.specs.declared.origin.Origin.{Origin}
use Rattle.cp_ends.specs.declared.states.States.{States}
use Rattle.cp_ends.specs.declared.row.HalvedRow.{HalvedRow}
use Rattle.cp_ends.proofs.Keeping.{no_state}
use Rattle.cp_verdict.specs.endless.Knowledge.{HasMore, HasTexts, IsKnown, IsLookedAt, KnowsWaits, Looked, end_pair, is_looked_at, those_looked_at, value_pair}
use Rattle.cp_verdict.proofs.any_length.Finding.{at_map, some_same}

-- ---- the word of a state

module _ (r : Tables) (kept : States) (states : List (Machine × List ℕ)) (h : AreStates r kept states) where
  pub state_word : (at : ℕ) (x : Machine × List ℕ) → slice_get states at ≡ Some x → IsWordOf states (origin_at kept.known.entries at) x.1
  state_word at x is = by (slice_get kept.known.entries at) refl
    where
      by : (o : Option (HalvedRow × Origin)) → slice_get kept.known.entries at ≡ o → IsWordOf states (origin_at kept.known.entries at) x.1
      by None e = absurd (let none = no_state r kept states h at e in cc)
      by (Some y) e = subst (λ o. IsWordOf states (origin_or o) x.1) (sym e) (h.words at y x e is)

-- ---- things with their words

module _ {A : Type 0} (states : List (Machine × List ℕ)) where
  -- a thing that was found, with its word
  pub record IsThing (fs : List (A × List ℕ)) (i : ℕ) (e : A × Origin) : Type 0 where
    pub thing : A × List ℕ
    pub at : slice_get fs i ≡ Some thing
    pub same : e.0 ≡ thing.0
    pub word : IsWordOf states e.1 thing.1

  pub thing_at : (es : List (A × Origin)) (fs : List (A × List ℕ)) → AreFound states es fs → (i : ℕ) (e : A × Origin) → slice_get es i ≡ Some e → IsThing fs i e
  thing_at [] fs h i e at = absurd (cc)
  thing_at (x ∷ es) [] h i e at = absurd h
  thing_at (x ∷ es) (y ∷ fs) h zero e at = subst (λ z. IsThing (y ∷ fs) 0 z) (some_same x e at) (record { thing = y; at = refl; same = h.0; word = h.1 })
  thing_at (x ∷ es) (y ∷ fs) h (suc i) e at = let t = thing_at es fs h.2 i e at in record { thing = t.thing; at = t.at; same = t.same; word = t.word }

  pub found_length : (es : List (A × Origin)) (fs : List (A × List ℕ)) → AreFound states es fs → length es ≡ length fs
  found_length [] [] h = refl
  found_length [] (f ∷ fs) h = absurd h
  found_length (e ∷ es) [] h = absurd h
  found_length (e ∷ es) (f ∷ fs) h = ap suc (found_length es fs h.2)

  -- one thing more is looked at
  pub looked_more : (looked : Option ℕ) (fs : List (A × List ℕ)) (i : ℕ) (y : A × List ℕ) → slice_get fs i ≡ Some y → those_looked_at looked (take (i + 1) fs) ≡ those_looked_at looked (take i fs) ++ those_looked_at looked (y ∷ [])
  looked_more looked fs i y at =
      let longer : take (i + 1) fs ≡ take i fs ++ y ∷ [] = take_more fs i y (slice_get_within fs i y at) ∙ ap (λ x. take i fs ++ x ∷ []) (get_or_from_slice_get fs i y y at) in
      ap (those_looked_at looked) longer ∙ filter-append (λ x. is_looked_at looked x.1) (take i fs) (y ∷ [])

-- ---- one more

module _ {A K : Type 0} (pair : K → A × List ℕ) (looked : Option ℕ) (items : List K) (a : A) (word : List ℕ) where
  pub add_in : (new : List K) (k : K) (b : Bool) (at : List ℕ) → new ≡ items ++ k ∷ [] → pair k ≡ (a, word) → b ≡ is_looked_at looked at → at ≡ word → b ≡ true → map pair new ≡ map pair items ++ those_looked_at looked ((a, word) ∷ [])
  add_in new k b at is same test from so =
      ap (map pair) is ∙ map-append pair items (k ∷ []) ∙ ap (λ x. map pair items ++ x ∷ []) same ∙
      ap (λ c. map pair items ++ cond c ((a, word) ∷ []) []) (sym (ap (is_looked_at looked) (sym from) ∙ sym test ∙ so))

  pub add_out : (b : Bool) (at : List ℕ) → b ≡ is_looked_at looked at → at ≡ word → b ≡ false → map pair items ≡ map pair items ++ those_looked_at looked ((a, word) ∷ [])
  add_out b at test from not_so = sym (ap (λ c. map pair items ++ cond c ((a, word) ∷ []) []) (ap (is_looked_at looked) (sym from) ∙ sym test ∙ not_so) ∙ append-nil (map pair items))

at_or : {A : Type 0} (xs : List A) (i : ℕ) (d : A) → i < length xs → slice_get xs i ≡ Some (get_or xs i d)
at_or [] i d less = absurd (omega (arith, less))
at_or (x ∷ xs) zero d less = refl
at_or (x ∷ xs) (suc i) d less = at_or xs i d (omega (arith, less))

-- ---- the loops

module _ (r : Tables) (found : Found) (f : SlotFindings) (h : Holds r found f) (looked : Option ℕ) where
  -- one end more
  pub end_more : (items : List FoundEnd) (i : ℕ) (d : FoundEnd) (old new : List (End × List ℕ)) → items ≡ found.ends.items → i < length items → old ≡ those_looked_at looked (take i f.ends) →
      ((word : List ℕ) → Holds r found f → IsWordOf f.states (get_or items i d).origin word → new ≡ old ++ those_looked_at looked (((get_or items i d).end, word) ∷ [])) → new ≡ those_looked_at looked (take (i + 1) f.ends)
  end_more items i d old new from less is add =
      let e : FoundEnd = get_or items i d in
      let x = thing_at f.states (map end_origin found.ends.items) f.ends h.ends i (end_origin e) (at_map end_origin found.ends.items i e (subst (λ l. slice_get l i ≡ Some e) from (at_or items i d less))) in
      add x.thing.1 h x.word ∙ ap (λ l. l ++ those_looked_at looked ((e.end, x.thing.1) ∷ [])) is ∙ ap (λ z. those_looked_at looked (take i f.ends) ++ those_looked_at looked ((z, x.thing.1) ∷ [])) x.same ∙ sym (looked_more f.states looked f.ends i x.thing x.at)

  pub ends_all : (items : List FoundEnd) (i : ℕ) (old : List (End × List ℕ)) → items ≡ found.ends.items → length items ≤ i → old ≡ those_looked_at looked (take i f.ends) → old ≡ those_looked_at looked f.ends
  ends_all items i old from le is = let long = ap length from in let same = found_length f.states (map end_origin found.ends.items) f.ends h.ends in let count = length-map found.ends.items end_origin in is ∙ ap (those_looked_at looked) (take_all i f.ends (omega (arith, le, long, same, count)))

  pub value_more : (items : List FoundValue) (i : ℕ) (d : FoundValue) (old new : List (Shown × List ℕ)) → items ≡ found.values.items → i < length items → old ≡ those_looked_at looked (take i f.values) →
      ((word : List ℕ) → Holds r found f → IsWordOf f.states (get_or items i d).origin word → new ≡ old ++ those_looked_at looked (((get_or items i d).value, word) ∷ [])) → new ≡ those_looked_at looked (take (i + 1) f.values)
  value_more items i d old new from less is add =
      let e : FoundValue = get_or items i d in
      let x = thing_at f.states (map value_origin found.values.items) f.values h.values i (value_origin e) (at_map value_origin found.values.items i e (subst (λ l. slice_get l i ≡ Some e) from (at_or items i d less))) in
      add x.thing.1 h x.word ∙ ap (λ l. l ++ those_looked_at looked ((e.value, x.thing.1) ∷ [])) is ∙ ap (λ z. those_looked_at looked (take i f.values) ++ those_looked_at looked ((z, x.thing.1) ∷ [])) x.same ∙ sym (looked_more f.states looked f.values i x.thing x.at)

  pub values_all : (items : List FoundValue) (i : ℕ) (old : List (Shown × List ℕ)) → items ≡ found.values.items → length items ≤ i → old ≡ those_looked_at looked (take i f.values) → old ≡ those_looked_at looked f.values
  values_all items i old from le is = let long = ap length from in let same = found_length f.states (map value_origin found.values.items) f.values h.values in let count = length-map found.values.items value_origin in is ∙ ap (those_looked_at looked) (take_all i f.values (omega (arith, le, long, same, count)))

-- ---- all that is known

those_all : {A : Type 0} (xs : List (A × List ℕ)) → those_looked_at None xs ≡ xs
those_all [] = refl
those_all (x ∷ xs) = ap (λ l. x ∷ l) (those_all xs)

module _ (r : Tables) (discipline : Discipline) (steps most : ℕ) (found : Found) (k : KnownEnds) where
  module _ (f : SlotFindings) (ends : map end_pair k.ends.items ≡ those_looked_at k.looked f.ends) (values : map value_pair k.values.items ≡ those_looked_at k.looked f.values) (texts : HasTexts r.names k.values.items) (waits : KnowsWaits r discipline steps k.waits) where
    whole : k.looked ≡ None → IsWhole (slots r discipline) without_output steps most f → IsKnown r discipline steps most k
    whole is w =
        let ends_are : map end_pair k.ends.items ≡ f.ends = ends ∙ ap (λ l. those_looked_at l f.ends) is ∙ those_all f.ends in
        let values_are : map value_pair k.values.items ≡ f.values = values ∙ ap (λ l. those_looked_at l f.values) is ∙ those_all f.values in
        record {
          states = f.states;
          all_states = subst (λ l. AreFirsts (Looked l (LeadsToState (slots r discipline) without_output steps)) f.states) (sym is) w.states;
          ends = subst (λ l. AreFirsts (Looked l (on_slots r discipline steps).ends) (map end_pair k.ends.items)) (sym is) (subst (AreFirsts (on_slots r discipline steps).ends) (sym ends_are) w.ends);
          values = subst (λ l. AreFirstOnes (suc MOST_VALUES) (Looked l (on_slots r discipline steps).shows) (map value_pair k.values.items)) (sym is) (subst (AreFirstOnes (suc MOST_VALUES) (on_slots r discipline steps).shows) (sym values_are) w.values);
          texts = texts;
          waits = waits;
          more = subst (λ l. HasMore r discipline steps most l) (sym is) tt;
        }

    short : (d : ℕ) → k.looked ≡ Some d → IsCutShort (slots r discipline) without_output steps most d f → IsKnown r discipline steps most k
    short d is w =
        let ends_are : map end_pair k.ends.items ≡ those_within d f.ends = ends ∙ ap (λ l. those_looked_at l f.ends) is in
        let values_are : map value_pair k.values.items ≡ those_within d f.values = values ∙ ap (λ l. those_looked_at l f.values) is in
        record {
          states = those_within d f.states;
          all_states = subst (λ l. AreFirsts (Looked l (LeadsToState (slots r discipline) without_output steps)) (those_within d f.states)) (sym is) w.states;
          ends = subst (λ l. AreFirsts (Looked l (on_slots r discipline steps).ends) (map end_pair k.ends.items)) (sym is) (subst (AreFirsts (Within d (on_slots r discipline steps).ends)) (sym ends_are) w.ends);
          values = subst (λ l. AreFirstOnes (suc MOST_VALUES) (Looked l (on_slots r discipline steps).shows) (map value_pair k.values.items)) (sym is) (subst (AreFirstOnes (suc MOST_VALUES) (Within d (on_slots r discipline steps).shows)) (sym values_are) w.values);
          texts = texts;
          waits = waits;
          more = subst (λ l. HasMore r discipline steps most l) (sym is) w.many;
        }

    by : (stopped : Option ℕ) → IsAnswerBy r discipline steps most f stopped → IsLookedAt f.states stopped k.looked → IsKnown r discipline steps most k
    by None answer looked = whole looked answer
    by (Some at) answer looked = short (length answer.0.1) (looked answer.0 answer.1) answer.2

  pub learned : ((s : Tables) (f : SlotFindings) → Holds s found f → IsLookedAt f.states found.stopped k.looked) →
      ((s : Tables) (f : SlotFindings) → Holds s found f → map end_pair k.ends.items ≡ those_looked_at k.looked f.ends) →
      ((s : Tables) (f : SlotFindings) → Holds s found f → map value_pair k.values.items ≡ those_looked_at k.looked f.values) → HasTexts r.names k.values.items →
      IsAnswer r discipline steps most found → KnowsWaits r discipline steps k.waits → IsKnown r discipline steps most k
  learned looked ends values texts a waits = by a.findings (ends r a.findings a.holds) (values r a.findings a.holds) texts waits found.stopped a.answer (looked r a.findings a.holds)

pub stopped_at : (r : Tables) (found : Found) (f : SlotFindings) → Holds r found f → (at : ℕ) (stopped : Option ℕ) (origin : Origin) (word : List ℕ) → stopped ≡ Some at → origin ≡ origin_at found.states.known.entries at →
    ((s : Tables) (states : List (Machine × List ℕ)) (w : List ℕ) → AreStates s found.states states → IsWordOf states origin w → word ≡ w) → (n : ℕ) → n ≡ length word → IsLookedAt f.states stopped (Some n)
stopped_at r found f h at stopped origin word is from reads n count =
    subst (λ o. IsLookedAt f.states o (Some n)) (sym is)
    (λ x e. ap (λ m. Some m) (count ∙ ap length (reads r f.states x.1 h.states (subst (λ o. IsWordOf f.states o x.1) (sym from) (state_word r found.states f.states h.states at x e)))))
