-- What the code found, with its words, and lines for it, one after another.
use Rattle.std.proofs.Common.{◌≡◌, ◌∙◌, ◌+◌, ◌-◌, ◌<◌, ◌≤◌, ◌||◌, ◌⊎◌, inl, inr, ℕ, zero, suc, Bool, true, if◌then◌else◌, List, [], ◌∷◌, ◌++◌, Option, None, Some, codes, length, map, get_or, take, refl, sym, ap, subst, arith, add-one, nat_lt}
use Rattle.std.specs.Borrow.{Bor}
use Rattle.std.specs.Option.{unwrap_or}
use Rattle.std.specs.Slice.{IsGetRangeResult}
use Rattle.std.specs.List.{AllByRecursion as Each, list_any}
use Rattle.std.proofs.lemmas.List.{append-nil, append_assoc, length-map, take_all}
use Rattle.std.proofs.lemmas.List.Elements.{All-from_recursion, recursion_from_All}
use Rattle.cp_at_once.proofs.Words.{Tables, Machine, Discipline, Shown, AreStates, HasWord, IsWordOf, OriginAtOnce, FoundAtOnce, End, ends_tests, silent_slots, slots, without_output}
use Rattle.cp_tree.specs.Syntax.{Tree}
use Rattle.cp_run.specs.Table.{each}
use Rattle.cp_run.specs.declared.outcome.OutcomeKind.TheVariants.{StepLimit}
use Rattle.cp_walk.specs.Text.{Spellings}
use Rattle.cp_ends.specs.Ends.{EndsSo, ShowsSo}
use Rattle.cp_ends.specs.Holds.{SlotFindings}
use Rattle.cp_ends.specs.Told.{EndsWithWords, ValuesWithWords, count_line, listed}
use Rattle.cp_ends.specs.declared.end.End.TheVariants.{Over, Alone, Spins}
use Rattle.cp_ends.specs.declared.found.TheConstants.{MOST_VALUES}
use Rattle.cp_ends.proofs.Listing.{each_push, listed_so}
use Rattle.cp_at_once_laws.specs.OnSlots.{LeavesNone}
use Rattle.cp_at_once.specs.Following.{knows_end, knows_value}
use Rattle.cp_at_once.specs.Told.{AreFindings, HasFound, HaveWords, at_once_text, cut_text, end_line, end_origin, head_text, tells_end, tells_value, value_line, value_origin, values_text}
use Rattle.cp_at_once.specs.Whole.{IsAnswer}
use Rattle.cp_at_once.specs.declared.found.EndAtOnce.{EndAtOnce}
use Rattle.cp_at_once.specs.declared.found.ValueAtOnce.{ValueAtOnce}
use Rattle.cp_at_once.specs.declared.kept.Kept.{Kept}

abbrev Stated : Type 0
Stated = Machine × List ℕ

-- ---- words of origins

words_length : {A : Type 0} (states : List Stated) (es : List (A × OriginAtOnce)) (fs : List (A × List ℕ)) → HaveWords states es fs → length es ≡ length fs
words_length states [] [] h = refl
words_length states [] (f ∷ fs) h = absurd h
words_length states (e ∷ es) [] h = absurd h
words_length states (e ∷ es) (f ∷ fs) h = ap suc (words_length states es fs h.2)

pub words_count : {A X : Type 0} (states : List Stated) (to : X → A × OriginAtOnce) (xs : List X) (fs : List (A × List ℕ)) → HaveWords states (map to xs) fs → length xs ≡ length fs
words_count states to xs fs h = sym (length-map xs to) ∙ words_length states (map to xs) fs h

-- of the first of them
pub words_take : {A X : Type 0} (states : List Stated) (to : X → A × OriginAtOnce) (n : ℕ) (xs : List X) (fs : List (A × List ℕ)) → HaveWords states (map to xs) fs → HaveWords states (map to (take n xs)) (take n fs)
words_take states to n [] [] h = by n
  where
    by : (n : ℕ) → HaveWords states (map to (take n [])) (take n [])
    by zero = tt
    by (suc n) = tt
words_take states to n [] (f ∷ fs) h = absurd h
words_take states to n (x ∷ xs) [] h = absurd h
words_take states to zero (x ∷ xs) (f ∷ fs) h = tt
words_take states to (suc n) (x ∷ xs) (f ∷ fs) h = (h.0, h.1, words_take states to n xs fs h.2)

-- the next of them, with its word
word_at : {A X : Type 0} (states : List Stated) (to : X → A × OriginAtOnce) (xs : List X) (fs : List (A × List ℕ)) (i : ℕ) (d : X) → HaveWords states (map to xs) fs → i < length xs → (f : A × List ℕ) × (take (suc i) fs ≡ take i fs ++ f ∷ []) × ((to (get_or xs i d)).0 ≡ f.0) × IsWordOf states (to (get_or xs i d)).1 f.1
word_at states to [] fs i d h lt = absurd (omega (arith, lt))
word_at states to (x ∷ xs) [] i d h lt = absurd h
word_at states to (x ∷ xs) (f ∷ fs) zero d h lt = (f, refl, h.0, h.1)
word_at states to (x ∷ xs) (f ∷ fs) (suc i) d h lt = let on = word_at states to xs fs i d h.2 (omega (arith, lt)) in (on.0, ap (λ l. f ∷ l) on.1, on.2, on.3)

-- where each has a word that is so, these words are so
all_words : {A X : Type 0} (states : List Stated) (to : X → A × OriginAtOnce) (P : A → List ℕ → Type 0) (xs : List X) → Each (λ x. HasWord states (to x).1 (P (to x).0)) xs → (fs : List (A × List ℕ)) × HaveWords states (map to xs) fs × Each (λ f. P f.0 f.1) fs
all_words states to P [] h = ([], tt, tt)
all_words states to P (x ∷ xs) h =
    let on = all_words states to P xs h.1 in
    (((to x).0, h.0.0) ∷ on.0, (refl, h.0.1, on.1), (h.0.2, on.2))

-- a test of them finds the same
same_any : {A X : Type 0} (states : List Stated) (to : X → A × OriginAtOnce) (p : A → Bool) (xs : List X) (fs : List (A × List ℕ)) → HaveWords states (map to xs) fs → list_any (λ x. p (to x).0) xs ≡ list_any (λ f. p f.0) fs
same_any states to p [] [] h = refl
same_any states to p [] (f ∷ fs) h = absurd h
same_any states to p (x ∷ xs) [] h = absurd h
same_any states to p (x ∷ xs) (f ∷ fs) h = ap (λ a. p a || list_any (λ y. p (to y).0) xs) h.0 ∙ ap (λ b. p f.0 || b) (same_any states to p xs fs h.2)

-- the first n elements, or all where there are not so many
pub first_or_all : {X : Type 0} (xs : List X) (n : ℕ) (first : Option (Bor (List X))) (all : Bor (List X)) → IsGetRangeResult xs 0 n first → all.now ≡ xs → (unwrap_or first all).now ≡ take n xs
first_or_all xs n None all h is = is ∙ sym (take_all n xs (few h.0))
  where
    few : (n < 0) ⊎ (length xs < n) → length xs ≤ n
    few (inl low) = omega (arith, low)
    few (inr high) = omega (arith, high)
first_or_all xs n (Some x) all h is = let same : n ≡ n - 0 = omega arith in h.0.2 ∙ sym (ap (λ k. take k xs) same)

-- ---- lines so far

none_taken : {A : Type 0} (xs : List A) → take 0 xs ≡ []
none_taken [] = refl
none_taken (x ∷ xs) = refl

module _ {A X : Type 0} (line : A → List ℕ → List ℕ) (to : X → A × OriginAtOnce) (kept : Kept) (xs : List X) (old : List ℕ) where
  -- a line for each of the first ones
  abbrev pub SoFar : ℕ → List ℕ → Type 0
  SoFar i text = (r : Tables) (states : List Stated) (fs : List (A × List ℕ)) → AreStates r kept.known.entries states → HaveWords states (map to xs) fs → text ≡ old ++ each (λ x. line x.0 x.1) (take i fs)

  pub no_lines : SoFar 0 old
  no_lines = λ r states fs s a. sym (ap (λ l. old ++ each (λ x. line x.0 x.1) l) (none_taken fs) ∙ append-nil old)

  pub line_more : (i : ℕ) (x : X) (slice word text next : List ℕ) → i < length xs → x ≡ get_or xs i x → slice ≡ word → ((r : Tables) (states : List Stated) (w : List ℕ) → AreStates r kept.known.entries states → IsWordOf states (to x).1 w → word ≡ w) → next ≡ text ++ line (to x).0 slice → SoFar i text → SoFar (i + 1) next
  line_more i x slice word text next lt item read is e h = λ r states fs s a.
      (let f = word_at states to xs fs i x a lt in
      let same : slice ≡ f.0.1 = read ∙ is r states f.0.1 s (subst (λ y. IsWordOf states (to y).1 f.0.1) (sym item) f.3) in
      let thing : (to x).0 ≡ f.0.0 = ap (λ y. (to y).0) item ∙ f.2 in
      let here : next ≡ text ++ line f.0.0 f.0.1 = e ∙ ap (λ b. text ++ line b slice) thing ∙ ap (λ w. text ++ line f.0.0 w) same in
      let put : take (i + 1) fs ≡ take i fs ++ f.0 ∷ [] = rw add-one f.1 in
      let all = each_push (λ (y : A × List ℕ). line y.0 y.1) (take i fs) f.0 in
      here ∙ ap (λ t. t ++ line f.0.0 f.0.1) (h r states fs s a) ∙ append_assoc old (each (λ (y : A × List ℕ). line y.0 y.1) (take i fs)) (line f.0.0 f.0.1) ∙ ap (λ t. old ++ t) (sym all) ∙ ap (λ l. old ++ each (λ (y : A × List ℕ). line y.0 y.1) l) (sym put))

  pub all_lines : (i : ℕ) (text : List ℕ) → length xs ≤ i → SoFar i text → (r : Tables) (states : List Stated) (fs : List (A × List ℕ)) → AreStates r kept.known.entries states → HaveWords states (map to xs) fs → text ≡ old ++ each (λ x. line x.0 x.1) fs
  all_lines i text le h r states fs s a =
      let few = words_count states to xs fs a in
      h r states fs s a ∙ ap (λ l. old ++ each (λ (y : A × List ℕ). line y.0 y.1) l) (take_all i fs (omega (arith, few, le)))

-- ---- the text of all

pub ends_so : (states : List Stated) (ends : List EndAtOnce) (fs : EndsWithWords) (old head new : List ℕ) → HaveWords states (map end_origin ends) fs → head ≡ old ++ count_line (codes "ends ") (length ends) → new ≡ head ++ each (λ x. end_line x.0 x.1) fs → new ≡ old ++ listed (codes "ends ") end_line fs
ends_so states ends fs old head new a h e = listed_so (codes "ends ") end_line fs old head (each (λ x. end_line x.0 x.1) fs) new (length ends) h e refl (words_count states end_origin ends fs a)

pub values_so : (names : Spellings) (states : List Stated) (values first : List ValueAtOnce) (fs : ValuesWithWords) (old head lines new : List ℕ) → HaveWords states (map value_origin values) fs → first ≡ take MOST_VALUES values → head ≡ old ++ count_line (codes "shown ") (length first) →
    lines ≡ head ++ each (λ x. value_line names x.0 x.1) (take MOST_VALUES fs) → new ≡ lines ++ (if nat_lt MOST_VALUES (length values) then codes "more\n" else []) → new ≡ old ++ values_text names fs
values_so names states values first fs old head lines new a is h l e =
    let told = take MOST_VALUES fs in
    let few : length first ≡ length told = ap length is ∙ words_count states value_origin (take MOST_VALUES values) told (words_take states value_origin MOST_VALUES values fs a) in
    let begun = listed_so (codes "shown ") (value_line names) told old head (each (λ x. value_line names x.0 x.1) told) lines (length first) h l refl few in
    e ∙ ap (λ k. lines ++ (if nat_lt MOST_VALUES k then codes "more\n" else [])) (words_count states value_origin values fs a) ∙ ap (λ t. t ++ (if nat_lt MOST_VALUES (length fs) then codes "more\n" else [])) begun ∙ append_assoc old (listed (codes "shown ") (value_line names) told) (if nat_lt MOST_VALUES (length fs) then codes "more\n" else [])

module _ (r : Tables) (found : FoundAtOnce) (f : SlotFindings) (h : HasFound r found f) where
  same_end : (e : End) → knows_end found e ≡ tells_end f.ends e
  same_end e = same_any f.states end_origin (λ x. ends_tests.end x e) found.ends.items f.ends h.ends

  same_value : (v : Shown) → knows_value found v ≡ tells_value f.values v
  same_value v =
      ap (λ b. b || nat_lt MOST_VALUES (length found.values.items)) (same_any f.states value_origin (λ x. ends_tests.value x v) found.values.items f.values h.values)
      ∙ ap (λ n. list_any (λ x. ends_tests.value x.0 v) f.values || nat_lt MOST_VALUES n) (words_count f.states value_origin found.values.items f.values h.values)

  pub report_so : (names : Spellings) (states : ℕ) (cut : Bool) (empty head ends values text : List ℕ) → states ≡ length found.kept.known.entries → cut ≡ knows_end found (Over StepLimit) → empty ≡ [] → head ≡ empty ++ head_text found.is_whole states →
      ends ≡ head ++ listed (codes "ends ") end_line f.ends → values ≡ ends ++ values_text names f.values → text ≡ values ++ (if cut then codes "not settled: step-limit\n" else []) → text ≡ at_once_text names f found.is_whole
  report_so names states cut empty head ends values text n c none a e v t =
      let before : head ≡ head_text found.is_whole (length f.states) = a ∙ ap (λ l. l ++ head_text found.is_whole states) none ∙ ap (head_text found.is_whole) (n ∙ h.states.count) in
      t ∙ ap (λ b. values ++ (if b then codes "not settled: step-limit\n" else [])) (c ∙ same_end (Over StepLimit)) ∙ ap (λ l. l ++ cut_text f.ends) (v ∙ ap (λ l. l ++ values_text names f.values) (e ∙ ap (λ l. l ++ listed (codes "ends ") end_line f.ends) before))

  -- ---- and nothing is left out

  leaves_none : (t : Tree) → LeavesNone t (λ kind. knows_end found (Over kind) ≡ true) (λ q. knows_end found (Alone q) ≡ true) (λ q. knows_end found (Spins q) ≡ true) (λ v. knows_value found v ≡ true) → LeavesNone t (λ kind. tells_end f.ends (Over kind) ≡ true) (λ q. tells_end f.ends (Alone q) ≡ true) (λ q. tells_end f.ends (Spins q) ≡ true) (λ v. tells_value f.values v ≡ true)
  leaves_none t none =
      record {
        ends = record {
          ends = λ limit word kind other so. sym (same_end (Over kind)) ∙ none.ends.ends limit word kind other so;
          alone_for_ever = λ limit word q so. sym (same_end (Alone q)) ∙ none.ends.alone_for_ever limit word q so;
          spins_for_ever = λ limit word q so. sym (same_end (Spins q)) ∙ none.ends.spins_for_ever limit word q so;
        };
        values = λ limit word v so. sym (same_value v) ∙ none.values limit word v so;
      }

-- what an answer says of what is told
pub findings_of : (r : Tables) (discipline : Discipline) (steps most : ℕ) (found : FoundAtOnce) → IsAnswer r discipline steps most found → (f : SlotFindings) × HasFound r found f × AreFindings r discipline steps most f found.is_whole
findings_of r discipline steps most found a = (f, has, are)
  where
    ends : (fs : EndsWithWords) × HaveWords a.states (map end_origin found.ends.items) fs × Each (λ x. EndsSo (silent_slots r discipline) steps x.0 x.1) fs
    ends = all_words a.states end_origin (EndsSo (silent_slots r discipline) steps) found.ends.items (recursion_from_All (λ (e : EndAtOnce). HasWord a.states e.origin (EndsSo (silent_slots r discipline) steps e.end)) found.ends.items a.ends)

    values : (fs : ValuesWithWords) × HaveWords a.states (map value_origin found.values.items) fs × Each (λ x. ShowsSo (slots r discipline) without_output steps x.0 x.1) fs
    values = all_words a.states value_origin (ShowsSo (slots r discipline) without_output steps) found.values.items (recursion_from_All (λ (v : ValueAtOnce). HasWord a.states v.origin (ShowsSo (slots r discipline) without_output steps v.value)) found.values.items a.values)

    f : SlotFindings
    f = record { states = a.states; ends = ends.0; values = values.0 }

    has : HasFound r found f
    has = record { states = a.kept; ends = ends.1; values = values.1 }

    are : AreFindings r discipline steps most f found.is_whole
    are =
        record {
          few = a.few;
          apart = a.apart;
          reached = a.reached;
          ends = All-from_recursion (λ (x : End × List ℕ). EndsSo (silent_slots r discipline) steps x.0 x.1) ends.0 ends.2;
          values = All-from_recursion (λ (x : Shown × List ℕ). ShowsSo (slots r discipline) without_output steps x.0 x.1) values.0 values.2;
          all = λ whole book uncut t read ok same. leaves_none r found f has t ((a.whole whole book (same_end r found f has (Over StepLimit) ∙ uncut)).meaning t read ok same);
          too_many = a.too_many;
        }
