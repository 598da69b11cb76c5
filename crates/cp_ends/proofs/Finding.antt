-- Ends and values of the code, with their origins, are those of the search, with their words.
use Rattle.std.proofs.Common.{◌≡◌, ◌∙◌, ◌<◌, ◌≤◌, ℕ, suc, Bool, true, false, if◌then◌else◌, List, [], ◌∷◌, ◌++◌, length, map, refl, sym, ap, subst, arith}
use Rattle.cp_ends.proofs.Vocabulary.{nat_lt, ◌||◌, list_any, lt-ltb, le-ltb, Tables, Shown, ends_tests, AreFound, Holds, IsWordOf, SlotFindings, end_origin}
use Rattle.cp_ends.proofs.Vocabulary.{value_origin, has, with_first, with_values, Found, FoundEnd, FoundValue, Origin}
use Rattle.std.specs.declared.vec.Vec.{Vec}
use Rattle.std.specs.declared.alloc.Global.{Global}
use Rattle.std.proofs.lemmas.List.{length-map, map-append}
use Rattle.cp_ends.specs.declared.end.End.{End}
use Rattle.cp_ends.proofs.Keeping.{Stated, word_more}
use Rattle.cp_machine.proofs.ListLemmas.{list_any_map as any_map}

-- ---- things with origins

module _ {A : Type 0} (states : List Stated) where
  found_has : (eq : A → A → Bool) (es : List (A × Origin)) (fs : List (A × List ℕ)) (a : A) → AreFound states es fs → list_any (λ e. eq e.0 a) es ≡ has eq fs a
  found_has eq [] [] a h = refl
  found_has eq (e ∷ es) (f ∷ fs) a h = by (eq e.0 a) (eq f.0 a) (ap (λ b. eq b a) h.0) (found_has eq es fs a h.2)
    where
      by : (b c : Bool) → b ≡ c → list_any (λ (k : A × Origin). eq k.0 a) es ≡ has eq fs a → (b || list_any (λ (k : A × Origin). eq k.0 a) es) ≡ (if c then true else has eq fs a)
      by true true t on = refl
      by false false t on = on
      by true false t on = cc
      by false true t on = cc
  found_has eq _ _ a h = absurd h

  pub found_length : (es : List (A × Origin)) (fs : List (A × List ℕ)) → AreFound states es fs → length es ≡ length fs
  found_length [] [] h = refl
  found_length (e ∷ es) (f ∷ fs) h = ap suc (found_length es fs h.2)
  found_length _ _ h = absurd h

  found_push : (es : List (A × Origin)) (fs : List (A × List ℕ)) (a : A) (o : Origin) (word : List ℕ) → AreFound states es fs → IsWordOf states o word → AreFound states (es ++ (a, o) ∷ []) (fs ++ (a, word) ∷ [])
  found_push [] [] a o word h is = (refl, is, tt)
  found_push (e ∷ es) (f ∷ fs) a o word h is = (h.0, h.1, found_push es fs a o word h.2 is)
  found_push _ _ a o word h is = absurd h

  -- where one state more was found
  pub found_later : (y : Stated) (es : List (A × Origin)) (fs : List (A × List ℕ)) → AreFound states es fs → AreFound (states ++ y ∷ []) es fs
  found_later y [] [] h = tt
  found_later y (e ∷ es) (f ∷ fs) h = (h.0, word_more states y e.1 f.1 h.1, found_later y es fs h.2)
  found_later y _ _ h = absurd h

-- ---- ends

module _ (r : Tables) (found : Found) (f : SlotFindings) (h : Holds r found f) (word : List ℕ) where
  abbrev ended : End → SlotFindings
  ended end = record f { ends = with_first ends_tests.end f.ends end word }

  has_same : (end : End) → list_any (λ e. ends_tests.end e.end end) found.ends.items ≡ has ends_tests.end f.ends end
  has_same end = sym (any_map end_origin (λ e. ends_tests.end e.0 end) found.ends.items) ∙ found_has f.states ends_tests.end (map end_origin found.ends.items) f.ends end h.ends

  pub end_again : (end : End) → list_any (λ e. ends_tests.end e.end end) found.ends.items ≡ true → Holds r found (ended end)
  end_again end again = record { states = h.states; ends = subst (AreFound f.states (map end_origin found.ends.items)) (sym (ap (λ b. if b then f.ends else f.ends ++ (end, word) ∷ []) (sym (has_same end) ∙ again))) h.ends; values = h.values }

  pub end_new : (end : End) (origin : Origin) (ends : Vec FoundEnd Global) → IsWordOf f.states origin word → list_any (λ e. ends_tests.end e.end end) found.ends.items ≡ false → ends.items ≡ found.ends.items ++ (record { end = end; origin = origin }) ∷ [] → Holds r (record found { ends = ends }) (ended end)
  end_new end origin ends is new put =
      let all : map end_origin ends.items ≡ map end_origin found.ends.items ++ (end, origin) ∷ [] = ap (map end_origin) put ∙ map-append end_origin found.ends.items ((record { end = end; origin = origin }) ∷ []) in
      let firsts : with_first ends_tests.end f.ends end word ≡ f.ends ++ (end, word) ∷ [] = ap (λ b. if b then f.ends else f.ends ++ (end, word) ∷ []) (sym (has_same end) ∙ new) in
      record {
        states = h.states;
        ends = subst (λ es. AreFound f.states es (with_first ends_tests.end f.ends end word)) (sym all) (subst (AreFound f.states (map end_origin found.ends.items ++ (end, origin) ∷ [])) (sym firsts) (found_push f.states (map end_origin found.ends.items) f.ends end origin word h.ends is));
        values = h.values;
      }

-- ---- values

-- one value
abbrev pub with_value : SlotFindings → List ℕ → Shown → SlotFindings
with_value f word v = record f { values = if nat_lt (length f.values) ends_tests.most then with_first ends_tests.value f.values v word else f.values }

abbrev pub with_all : SlotFindings → List ℕ → List Shown → SlotFindings
with_all f word vs = record f { values = with_values ends_tests.value ends_tests.most f.values vs word }

module _ (r : Tables) (found : Found) (f : SlotFindings) (h : Holds r found f) (word : List ℕ) where
  value_same : (v : Shown) → list_any (λ e. ends_tests.value e.value v) found.values.items ≡ has ends_tests.value f.values v
  value_same v = sym (any_map value_origin (λ e. ends_tests.value e.0 v) found.values.items) ∙ found_has f.states ends_tests.value (map value_origin found.values.items) f.values v h.values

  values_length : length found.values.items ≡ length f.values
  values_length = sym (length-map found.values.items value_origin) ∙ found_length f.states (map value_origin found.values.items) f.values h.values

  -- there are enough
  pub value_full : (v : Shown) → 1001 ≤ length found.values.items → Holds r found (with_value f word v)
  value_full v full =
      let same = values_length in
      let all : (if nat_lt (length f.values) 1001 then with_first ends_tests.value f.values v word else f.values) ≡ f.values = ap (λ b. if b then with_first ends_tests.value f.values v word else f.values) (le-ltb (length f.values) 1001 (omega (arith, full, same))) in
      record { states = h.states; ends = h.ends; values = subst (AreFound f.states (map value_origin found.values.items)) (sym all) h.values }

  few_values : (v : Shown) → length found.values.items < 1001 → (if nat_lt (length f.values) 1001 then with_first ends_tests.value f.values v word else f.values) ≡ with_first ends_tests.value f.values v word
  few_values v few = let same = values_length in ap (λ b. if b then with_first ends_tests.value f.values v word else f.values) (lt-ltb (length f.values) 1001 (omega (arith, few, same)))

  pub value_again : (v : Shown) → length found.values.items < 1001 → list_any (λ e. ends_tests.value e.value v) found.values.items ≡ true → Holds r found (with_value f word v)
  value_again v few again =
      let all = few_values v few ∙ ap (λ b. if b then f.values else f.values ++ (v, word) ∷ []) (sym (value_same v) ∙ again) in
      record { states = h.states; ends = h.ends; values = subst (AreFound f.states (map value_origin found.values.items)) (sym all) h.values }

  pub value_new : (v : Shown) (origin : Origin) (values : Vec FoundValue Global) → IsWordOf f.states origin word → length found.values.items < 1001 → list_any (λ e. ends_tests.value e.value v) found.values.items ≡ false → values.items ≡ found.values.items ++ (record { value = v; origin = origin }) ∷ [] → Holds r (record found { values = values }) (with_value f word v)
  value_new v origin values is few new put =
      let all : map value_origin values.items ≡ map value_origin found.values.items ++ (v, origin) ∷ [] = ap (map value_origin) put ∙ map-append value_origin found.values.items ((record { value = v; origin = origin }) ∷ []) in
      let firsts = few_values v few ∙ ap (λ b. if b then f.values else f.values ++ (v, word) ∷ []) (sym (value_same v) ∙ new) in
      record {
        states = h.states;
        ends = h.ends;
        values = subst (λ es. AreFound f.states es (with_value f word v).values) (sym all) (subst (AreFound f.states (map value_origin found.values.items ++ (v, origin) ∷ [])) (sym firsts) (found_push f.states (map value_origin found.values.items) f.values v origin word h.values is));
      }

-- with one value more
pub values_more : (f : SlotFindings) (word : List ℕ) (vs : List Shown) (v : Shown) → with_all f word (vs ++ v ∷ []) ≡ with_value (with_all f word vs) word v
values_more f word [] v = refl
values_more f word (u ∷ vs) v = values_more (with_value f word u) word vs v
