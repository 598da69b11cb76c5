-- Lines for what was found, one after another.
use Rattle.std.proofs.Common.{◌≡◌, ◌∙◌, ◌⊎◌, inl, inr, ◌+◌, ◌<◌, ◌≤◌, ℕ, zero, suc, Bool, true, false, if◌then◌else◌, List, [], ◌∷◌, ◌++◌, Option, None, Some, length, map, get_or, take, refl, sym, ap, subst, arith, add-one, nat_lt, codes, min}
use Rattle.cp_ends.proofs.Vocabulary.{slice_get, cases_lt, lt-ltb, le-ltb, slice_get_cases, slice_get_within, Tables, each, is_within, FoundEnd, FoundValue}
use Rattle.cp_ends.proofs.Vocabulary.{MOST_VALUES, Origin, States, each_append}
use Rattle.std.proofs.lemmas.List.{append-nil, append_assoc, length-append, length-map, length-take, take_all, take-append-le}
use Rattle.std.proofs.lemmas.List.Elements.{filter-append}
use Rattle.cp_walk.specs.Text.{Spellings}
use Rattle.cp_ends.specs.Holds.{AreFound, AreStates, IsWordOf, SlotFindings, end_origin, origin_at, origin_or, value_origin}
use Rattle.cp_ends.specs.Told.{EndsWithWords, ValuesWithWords, count_line, end_line, ends_text, head_text, is_told, listed, told, value_line, values_text}
use Rattle.cp_ends.proofs.Finding.{found_length}
use Rattle.cp_ends.proofs.Keeping.{Entry, Stated, states_length}

pub each_push : {A B : Type 0} (f : A → List B) (xs : List A) (x : A) → each f (xs ++ x ∷ []) ≡ each f xs ++ f x
each_push f [] x = append-nil (f x)
each_push f (y ∷ ys) x = ap (λ l. f y ++ l) (each_push f ys x) ∙ sym (append_assoc (f y) (each f ys) (f x))

pub told_push : {A : Type 0} (depth : Option ℕ) (xs : List (A × List ℕ)) (x : A × List ℕ) → told depth (xs ++ x ∷ []) ≡ told depth xs ++ (if is_told depth x.1 then x ∷ [] else [])
told_push None xs x = refl
told_push (Some d) xs x = filter-append (is_within d) xs (x ∷ [])

pub take_push : {A : Type 0} (n : ℕ) (xs : List A) (x : A) → take n (xs ++ x ∷ []) ≡ take n xs ++ (if nat_lt (length xs) n then x ∷ [] else [])
take_push n xs x = by (cases_lt (length xs) n)
  where
    by : (length xs < n) ⊎ (n ≤ length xs) → take n (xs ++ x ∷ []) ≡ take n xs ++ (if nat_lt (length xs) n then x ∷ [] else [])
    by (inl lt) =
        let all = take_all n (xs ++ x ∷ []) (let l = length-append xs (x ∷ []) in omega (arith, l, lt)) in
        all ∙ ap (λ l. l ++ x ∷ []) (sym (take_all n xs (omega (arith, lt)))) ∙ ap (λ b. take n xs ++ (if b then x ∷ [] else [])) (sym (lt-ltb (length xs) n lt))
    by (inr le) =
        take-append-le n xs (x ∷ []) le ∙ sym (append-nil (take n xs)) ∙ ap (λ b. take n xs ++ (if b then x ∷ [] else [])) (sym (le-ltb (length xs) n le))

-- ---- things with origins

-- the next of them, with its word
pub found_at : {A X : Type 0} (states : List Stated) (to : X → A × Origin) (xs : List X) (fs : List (A × List ℕ)) (i : ℕ) (d : X) → AreFound states (map to xs) fs → i < length xs → (f : A × List ℕ) × (take (suc i) fs ≡ take i fs ++ f ∷ []) × ((to (get_or xs i d)).0 ≡ f.0) × IsWordOf states (to (get_or xs i d)).1 f.1
found_at states to [] fs i d h lt = absurd (omega (arith, lt))
found_at states to (x ∷ xs) [] i d h lt = absurd h
found_at states to (x ∷ xs) (f ∷ fs) zero d h lt = (f, refl, h.0, h.1)
found_at states to (x ∷ xs) (f ∷ fs) (suc i) d h lt = let on = found_at states to xs fs i d h.2 (omega (arith, lt)) in (on.0, ap (λ l. f ∷ l) on.1, on.2, on.3)

-- ---- lines so far

-- a line for each that is told of those so far
abbrev pub SoFar : {A : Type 0} → Option ℕ → (A → List ℕ → List ℕ) → List (A × List ℕ) → List ℕ → ℕ → Type 0
SoFar depth line fs text count = (text ≡ each (λ x. line x.0 x.1) (told depth fs)) × (count ≡ length (told depth fs))

module _ {A : Type 0} (depth : Option ℕ) (line : A → List ℕ → List ℕ) (fs more : List (A × List ℕ)) (f : A × List ℕ) (put : more ≡ fs ++ f ∷ []) where
  now : (b : Bool) → is_told depth f.1 ≡ b → told depth more ≡ told depth fs ++ (if b then f ∷ [] else [])
  now b is = ap (told depth) put ∙ told_push depth fs f ∙ ap (λ c. told depth fs ++ (if c then f ∷ [] else [])) is

  counted : told depth more ≡ told depth fs ++ f ∷ [] → length (told depth more) ≡ length (told depth fs) + 1
  counted e = ap length e ∙ length-append (told depth fs) (f ∷ [])

  pub left_out : (text : List ℕ) (count : ℕ) → is_told depth f.1 ≡ false → SoFar depth line fs text count → SoFar depth line more text count
  left_out text count is h = let e = now false is ∙ append-nil (told depth fs) in (h.0 ∙ ap (each (λ x. line x.0 x.1)) (sym e), h.1 ∙ ap length (sym e))

  pub line_more : (text : List ℕ) (count : ℕ) (next : List ℕ) (n : ℕ) → is_told depth f.1 ≡ true → next ≡ text ++ line f.0 f.1 → n ≡ count + 1 → SoFar depth line fs text count → SoFar depth line more next n
  line_more text count next n is e one h =
      let all = now true is in
      (e ∙ ap (λ l. l ++ line f.0 f.1) h.0 ∙ sym (each_push (λ x. line x.0 x.1) (told depth fs) f) ∙ ap (each (λ x. line x.0 x.1)) (sym all), one ∙ ap (λ k. k + 1) h.1 ∙ sym (counted all))

-- the first so many of them
abbrev pub FirstSoFar : {A : Type 0} → ℕ → Option ℕ → (A → List ℕ → List ℕ) → List (A × List ℕ) → List ℕ → ℕ → Type 0
FirstSoFar most depth line fs text count = (text ≡ each (λ x. line x.0 x.1) (take most (told depth fs))) × (count ≡ length (told depth fs))

each_one : {A B : Type 0} (f : A → List B) (x : A) (b : Bool) → each f (if b then x ∷ [] else []) ≡ (if b then f x else [])
each_one f x true = append-nil (f x)
each_one f x false = refl

module _ {A : Type 0} (most : ℕ) (depth : Option ℕ) (line : A → List ℕ → List ℕ) (fs more : List (A × List ℕ)) (f : A × List ℕ) (put : more ≡ fs ++ f ∷ []) where
  pub first_left_out : (text : List ℕ) (count : ℕ) → is_told depth f.1 ≡ false → FirstSoFar most depth line fs text count → FirstSoFar most depth line more text count
  first_left_out text count is h = let e = now depth line fs more f put false is ∙ append-nil (told depth fs) in (h.0 ∙ ap (λ l. each (λ x. line x.0 x.1) (take most l)) (sym e), h.1 ∙ ap length (sym e))

  pub first_more : (text : List ℕ) (count : ℕ) (next : List ℕ) (n : ℕ) → is_told depth f.1 ≡ true → next ≡ text ++ (if nat_lt count most then line f.0 f.1 else []) → n ≡ count + 1 → FirstSoFar most depth line fs text count → FirstSoFar most depth line more next n
  first_more text count next n is e one h =
      let text_of : A × List ℕ → List ℕ = λ x. line x.0 x.1 in
      let all = now depth line fs more f put true is in
      let here = told depth fs in
      let last = nat_lt (length here) most in
      let firsts : take most (told depth more) ≡ take most here ++ (if last then f ∷ [] else []) = ap (take most) all ∙ take_push most here f in
      let told_so : each text_of (take most (told depth more)) ≡ each text_of (take most here) ++ (if last then line f.0 f.1 else []) = ap (each text_of) firsts ∙ each_append text_of (take most here) (if last then f ∷ [] else []) ∙ ap (λ l. each text_of (take most here) ++ l) (each_one text_of f last) in
      (e ∙ ap (λ l. l ++ (if nat_lt count most then line f.0 f.1 else [])) h.0 ∙ ap (λ k. each text_of (take most here) ++ (if nat_lt k most then line f.0 f.1 else [])) h.1 ∙ sym told_so, one ∙ ap (λ k. k + 1) h.1 ∙ sym (counted depth line fs more f put all))

-- ---- what the code has written of the first so many

abbrev pub EndsSoFar : States → Option ℕ → List FoundEnd → ℕ → List ℕ → ℕ → Type 0
EndsSoFar kept depth ends i text count = (count ≤ i) × ((r : Tables) (states : List Stated) (fs : EndsWithWords) → AreStates r kept states → AreFound states (map end_origin ends) fs → SoFar depth end_line (take i fs) text count)

abbrev pub ValuesSoFar : States → Spellings → Option ℕ → List FoundValue → ℕ → List ℕ → ℕ → Type 0
ValuesSoFar kept names depth values i text count = (count ≤ i) × ((r : Tables) (states : List Stated) (fs : ValuesWithWords) → AreStates r kept states → AreFound states (map value_origin values) fs → FirstSoFar MOST_VALUES depth (value_line names) (take i fs) text count)

-- nothing is told yet
none_taken : {A : Type 0} (xs : List A) → take 0 xs ≡ []
none_taken [] = refl
none_taken (x ∷ xs) = refl

taken_of_none : {A : Type 0} (n : ℕ) → (◌≡◌ {A = List A}) (take n []) []
taken_of_none zero = refl
taken_of_none (suc n) = refl

none_told : {A : Type 0} (depth : Option ℕ) (fs : List (A × List ℕ)) → told depth (take 0 fs) ≡ []
none_told None fs = none_taken fs
none_told (Some d) fs = ap (told (Some d)) (none_taken fs)

pub no_ends : (kept : States) (depth : Option ℕ) (ends : List FoundEnd) (text : List ℕ) → text ≡ [] → EndsSoFar kept depth ends 0 text 0
no_ends kept depth ends text none = (omega arith, λ r states fs s a. (none ∙ sym (ap (each (λ x. end_line x.0 x.1)) (none_told depth fs)), sym (ap length (none_told depth fs))))

pub no_values : (kept : States) (names : Spellings) (depth : Option ℕ) (values : List FoundValue) (text : List ℕ) → text ≡ [] → ValuesSoFar kept names depth values 0 text 0
no_values kept names depth values text none =
    (omega arith, λ r states fs s a. (none ∙ sym (ap (each (λ x. value_line names x.0 x.1)) (ap (take MOST_VALUES) (none_told depth fs) ∙ taken_of_none MOST_VALUES)), sym (ap length (none_told depth fs))))

-- the next one
module _ (kept : States) (depth : Option ℕ) (i : ℕ) (word : List ℕ) where
  -- its word is this
  abbrev pub IsNext : Origin → Type 0
  IsNext o = (r : Tables) (states : List Stated) (w : List ℕ) → AreStates r kept states → IsWordOf states o w → word ≡ w

  module _ (ends : List FoundEnd) (d : FoundEnd) (lt : i < length ends) (is : IsNext (get_or ends i d).origin) (text : List ℕ) (count : ℕ) (h : EndsSoFar kept depth ends i text count) where
    pub ends_more : (slice next : List ℕ) (n : ℕ) → slice ≡ word → is_told depth word ≡ true → next ≡ text ++ end_line (get_or ends i d).end slice → n ≡ count + 1 → EndsSoFar kept depth ends (i + 1) next n
    ends_more slice next n read it e one = (
      (let few = h.0 in omega (arith, few, one)),
      λ r states fs s a.
          let f = found_at states end_origin ends fs i d a lt in
          let same = is r states f.0.1 s f.3 in
          let put : take (i + 1) fs ≡ take i fs ++ f.0 ∷ [] = rw add-one f.1 in
          line_more depth end_line (take i fs) (take (i + 1) fs) f.0 put text count next n (ap (is_told depth) (sym same) ∙ it) (e ∙ ap (λ x. text ++ end_line x slice) f.2 ∙ ap (λ w. text ++ end_line f.0.0 w) (read ∙ same)) one (h.1 r states fs s a),
    )

    pub ends_left_out : (next : List ℕ) (n : ℕ) → is_told depth word ≡ false → next ≡ text → n ≡ count → EndsSoFar kept depth ends (i + 1) next n
    ends_left_out next n it e one = (
      (let few = h.0 in omega (arith, few, one)),
      λ r states fs s a.
          let f = found_at states end_origin ends fs i d a lt in
          let same = is r states f.0.1 s f.3 in
          let put : take (i + 1) fs ≡ take i fs ++ f.0 ∷ [] = rw add-one f.1 in
          left_out depth end_line (take i fs) (take (i + 1) fs) f.0 put next n (ap (is_told depth) (sym same) ∙ it) (let b = h.1 r states fs s a in (e ∙ b.0, one ∙ b.1)),
    )

  module _ (names : Spellings) (values : List FoundValue) (d : FoundValue) (lt : i < length values) (is : IsNext (get_or values i d).origin) (text : List ℕ) (count : ℕ) (h : ValuesSoFar kept names depth values i text count) where
    pub values_more : (slice next : List ℕ) (n : ℕ) → slice ≡ word → is_told depth word ≡ true → next ≡ text ++ (if nat_lt count MOST_VALUES then value_line names (get_or values i d).value slice else []) → n ≡ count + 1 → ValuesSoFar kept names depth values (i + 1) next n
    values_more slice next n read it e one = (
      (let few = h.0 in omega (arith, few, one)),
      λ r states fs s a.
          let f = found_at states value_origin values fs i d a lt in
          let same = is r states f.0.1 s f.3 in
          let put : take (i + 1) fs ≡ take i fs ++ f.0 ∷ [] = rw add-one f.1 in
          first_more MOST_VALUES depth (value_line names) (take i fs) (take (i + 1) fs) f.0 put text count next n (ap (is_told depth) (sym same) ∙ it) (e ∙ ap (λ x. text ++ (if nat_lt count MOST_VALUES then value_line names x slice else [])) f.2 ∙ ap (λ w. text ++ (if nat_lt count MOST_VALUES then value_line names f.0.0 w else [])) (read ∙ same)) one (h.1 r states fs s a),
    )

    pub values_left_out : (next : List ℕ) (n : ℕ) → is_told depth word ≡ false → next ≡ text → n ≡ count → ValuesSoFar kept names depth values (i + 1) next n
    values_left_out next n it e one = (
      (let few = h.0 in omega (arith, few, one)),
      λ r states fs s a.
          let f = found_at states value_origin values fs i d a lt in
          let same = is r states f.0.1 s f.3 in
          let put : take (i + 1) fs ≡ take i fs ++ f.0 ∷ [] = rw add-one f.1 in
          first_left_out MOST_VALUES depth (value_line names) (take i fs) (take (i + 1) fs) f.0 put next n (ap (is_told depth) (sym same) ∙ it) (let b = h.1 r states fs s a in (e ∙ b.0, one ∙ b.1)),
    )

-- ---- the text of all

pub listed_so : {A : Type 0} (name : List ℕ) (line : A → List ℕ → List ℕ) (xs : List (A × List ℕ)) (old head lines new : List ℕ) (count : ℕ) → head ≡ old ++ count_line name count → new ≡ head ++ lines → lines ≡ each (λ x. line x.0 x.1) xs → count ≡ length xs → new ≡ old ++ listed name line xs
listed_so name line xs old head lines new count h e l n =
    e ∙ ap (λ t. t ++ lines) h ∙ ap (λ t. (old ++ count_line name count) ++ t) l ∙ ap (λ k. (old ++ count_line name k) ++ each (λ x. line x.0 x.1) xs) n ∙ append_assoc old (count_line name (length xs)) (each (λ x. line x.0 x.1) xs)

pub values_so : (names : Spellings) (xs : ValuesWithWords) (old head lines listed new : List ℕ) (shown count : ℕ) → head ≡ old ++ count_line (codes "shown ") shown → listed ≡ head ++ lines → new ≡ listed ++ (if nat_lt MOST_VALUES count then codes "more\n" else []) → lines ≡ each (λ x. value_line names x.0 x.1) (take MOST_VALUES xs) → count ≡ length xs → shown ≡ min MOST_VALUES count → new ≡ old ++ values_text names xs
values_so names xs old head lines written new shown count h w e l n s =
    let first = listed_so (codes "shown ") (value_line names) (take MOST_VALUES xs) old head lines written shown h w l (s ∙ ap (min MOST_VALUES) n ∙ sym (length-take MOST_VALUES xs)) in
    e ∙ ap (λ k. written ++ (if nat_lt MOST_VALUES k then codes "more\n" else [])) n ∙ ap (λ t. t ++ (if nat_lt MOST_VALUES (length xs) then codes "more\n" else [])) first ∙ append_assoc old (listed (codes "shown ") (value_line names) (take MOST_VALUES xs)) (if nat_lt MOST_VALUES (length xs) then codes "more\n" else [])

pub report_so : (names : Spellings) (f : SlotFindings) (depth : Option ℕ) (states : ℕ) (head ends text : List ℕ) → states ≡ length f.states → head ≡ head_text states depth → ends ≡ head ++ listed (codes "ends ") end_line (told depth f.ends) → text ≡ ends ++ values_text names (told depth f.values) → text ≡ ends_text names f depth
report_so names f depth states head ends text n h e v =
    let before = h ∙ ap (λ k. head_text k depth) n in
    v ∙ ap (λ t. t ++ values_text names (told depth f.values)) (e ∙ ap (λ t. t ++ listed (codes "ends ") end_line (told depth f.ends)) before)

-- the word of the origin of a state
pub origin_here : (r : Tables) (kept : States) (states : List Stated) (at : ℕ) (x : Stated) → AreStates r kept states → slice_get states at ≡ Some x → IsWordOf states (origin_at kept.known.entries at) x.1
origin_here r kept states at x h to = by (slice_get_cases kept.known.entries at).1
  where
    by : ((e : Entry) × (at < length kept.known.entries) × (slice_get kept.known.entries at ≡ Some e) × (get_or kept.known.entries at e ≡ e)) ⊎ ((length kept.known.entries ≤ at) × (slice_get kept.known.entries at ≡ None)) → IsWordOf states (origin_at kept.known.entries at) x.1
    by (inl e) = subst (λ o. IsWordOf states (origin_or o) x.1) (sym e.2) (h.words at e.0 x e.2 to)
    by (inr none) = let past = none.0 in let within = slice_get_within states at x to in let few = states_length r kept states h in absurd (omega (arith, past, within, few))

-- all of them
pub take_found : {A X : Type 0} (states : List Stated) (to : X → A × Origin) (xs : List X) (fs : List (A × List ℕ)) (i : ℕ) → AreFound states (map to xs) fs → length xs ≤ i → take i fs ≡ fs
take_found states to xs fs i h le = take_all i fs (let l = found_length states (map to xs) fs h in let m = length-map xs to in omega (arith, l, m, le))
