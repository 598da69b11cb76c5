-- The numbers of a word, from its last one back.
use Rattle.std.proofs.Common.{◌≡◌, ◌∙◌, ◌⊎◌, inl, inr, ◌+◌, ◌-◌, ◌<◌, ◌≤◌, ℕ, suc, List, [], ◌∷◌, ◌++◌, length, reverse, take, get_or, Option, None, Some, refl, sym, ap, subst, arith}
use Rattle.cp_at_once.proofs.Words.{slice_get, slice_get_cases, slice_get_within, Tables, OriginAtOnce}
use Rattle.std.proofs.lemmas.List.{append-nil, append_assoc, get_or-reverse, length-reverse, reverse-append, reverse-reverse, take_all, take_more}
use Rattle.cp_at_once.specs.Holds.{AreStates, IsBefore, IsWordBy, IsWordOf, numbers_at, numbers_of, state_at, state_of}
use Rattle.cp_at_once.proofs.Keeping.{Entry, Stated}

-- how far there is to go at most
abbrev pub rank : Option ℕ → ℕ
rank None = 0
rank (Some at) = suc at

-- what is left to read is the word of a state, and the rest was read, last number first
pub record Reads (entries : List Entry) (states : List Stated) (from : Option ℕ) (word numbers : List ℕ) (count : ℕ) : Type 0 where
  pub stem : List ℕ
  pub is : IsWordBy states from [] stem
  pub all : word ≡ stem ++ reverse numbers
  pub far : rank from + count ≤ length entries

abbrev pub ReadsAll : List Entry → OriginAtOnce → Option ℕ → List ℕ → ℕ → Type 0
ReadsAll entries origin from numbers count = (r : Tables) (states : List Stated) (word : List ℕ) → AreStates r entries states → IsWordOf states origin word → Reads entries states from word numbers count

-- the part of a word before its last numbers
pub split : (states : List Stated) (from : Option ℕ) (numbers word : List ℕ) → IsWordBy states from numbers word → (stem : List ℕ) × IsWordBy states from [] stem × (word ≡ stem ++ numbers)
split states None numbers word h = ([], refl, h)
split states (Some at) numbers word h = (h.0.1, (h.0, h.1, sym (append-nil h.0.1)), h.2)

backwards : (stem numbers read : List ℕ) → (stem ++ numbers) ++ reverse read ≡ stem ++ reverse (read ++ reverse numbers)
backwards stem numbers read =
    append_assoc stem numbers (reverse read)
    ∙ ap (λ l. stem ++ l) (ap (λ l. l ++ reverse read) (sym (reverse-reverse numbers)) ∙ sym (reverse-append read (reverse numbers)))

pub reads_start : (entries : List Entry) (origin : OriginAtOnce) (numbers : List ℕ) → numbers ≡ reverse origin.numbers.items → ReadsAll entries origin origin.state numbers 0
reads_start entries origin numbers read r states word h is =
    let s = split states origin.state origin.numbers.items word is in
    record {
      stem = s.0;
      is = s.1;
      all = s.2 ∙ ap (λ l. s.0 ++ l) (sym (reverse-reverse origin.numbers.items) ∙ ap reverse (sym read));
      far = far origin.state s.1;
    }
  where
    far : (from : Option ℕ) → IsWordBy states from [] (split states origin.state origin.numbers.items word is).0 → rank from + 0 ≤ length entries
    far None w = omega arith
    far (Some at) w = let within = slice_get_within states at w.0 w.1 in let few = h.count in omega (arith, within, few)

pub reads_more : (entries : List Entry) (origin : OriginAtOnce) (at : ℕ) (numbers more : List ℕ) (count : ℕ) → ReadsAll entries origin (Some at) numbers count → more ≡ numbers ++ reverse (numbers_at entries at) → ReadsAll entries origin (state_at entries at) more (suc count)
reads_more entries origin at numbers more count on read r states word h is = by (slice_get_cases entries at).1
  where
    here : Reads entries states (Some at) word numbers count
    here = on r states word h is

    x : Stated
    x = here.is.0

    to : slice_get states at ≡ Some x
    to = here.is.1

    nearer : (o : Option ℕ) → IsBefore at o → rank o ≤ at
    nearer None b = omega arith
    nearer (Some k) b = omega (arith, b)

    by : ((e : Entry) × (at < length entries) × (slice_get entries at ≡ Some e) × (get_or entries at e ≡ e)) ⊎ ((length entries ≤ at) × (slice_get entries at ≡ None)) → Reads entries states (state_at entries at) word more (suc count)
    by (inl e) =
        let near = nearer e.0.1.state (h.before at e.0 e.2) in
        let far = here.far in
        let s = split states e.0.1.state e.0.1.numbers.items x.1 (h.words at e.0 x e.2 to) in
        subst (λ o. Reads entries states (state_of o) word more (suc count)) (sym e.2) (record {
          stem = s.0;
          is = s.1;
          all =
              here.all ∙ ap (λ l. l ++ reverse numbers) (here.is.2 ∙ append-nil x.1 ∙ s.2) ∙ backwards s.0 e.0.1.numbers.items numbers
              ∙ ap (λ l. s.0 ++ reverse l) (ap (λ o. numbers ++ reverse (numbers_of o)) (sym e.2) ∙ sym read);
          far = omega (arith, near, far);
        })
    by (inr none) = let past = none.0 in let within = slice_get_within states at x to in let few = h.count in absurd (omega (arith, past, within, few))

-- nothing is left
pub reads_done : (entries : List Entry) (origin : OriginAtOnce) (numbers : List ℕ) (count : ℕ) → ReadsAll entries origin None numbers count → (r : Tables) (states : List Stated) (word : List ℕ) → AreStates r entries states → IsWordOf states origin word → reverse numbers ≡ word
reads_done entries origin numbers count on r states word h is = let here = on r states word h is in sym (here.all ∙ ap (λ l. l ++ reverse numbers) here.is)

-- as many parts were read as there are states
pub reads_most : (entries : List Entry) (origin : OriginAtOnce) (from : Option ℕ) (numbers : List ℕ) (count : ℕ) → length entries ≤ count → ReadsAll entries origin from numbers count → (r : Tables) (states : List Stated) (word : List ℕ) → AreStates r entries states → IsWordOf states origin word → reverse numbers ≡ word
reads_most entries origin None numbers count many on r states word h is = reads_done entries origin numbers count on r states word h is
reads_most entries origin (Some at) numbers count many on r states word h is = let far = (on r states word h is).far in absurd (omega (arith, far, many))

-- ---- a list that is appended last number first

-- one number more
pub push_next : (start word numbers : List ℕ) (at place : ℕ) → at < length numbers → place ≡ length numbers - 1 - at → word ≡ start ++ take at (reverse numbers) → word ++ get_or numbers place 0 ∷ [] ≡ start ++ take (at + 1) (reverse numbers)
push_next start word numbers at place less there is =
    let same = length-reverse numbers in
    ap (λ l. l ++ get_or numbers place 0 ∷ []) is
    ∙ append_assoc start (take at (reverse numbers)) (get_or numbers place 0 ∷ [])
    ∙ ap (λ l. start ++ l) (ap (λ y. take at (reverse numbers) ++ y ∷ []) (ap (λ k. get_or numbers k 0) there ∙ sym (get_or-reverse numbers at 0 less)) ∙ sym (take_more (reverse numbers) at 0 (omega (arith, less, same))))

-- all of them
pub push_all : (start word numbers : List ℕ) (at : ℕ) → length numbers ≤ at → word ≡ start ++ take at (reverse numbers) → word ≡ start ++ reverse numbers
push_all start word numbers at many is = let same = length-reverse numbers in is ∙ ap (λ l. start ++ l) (take_all at (reverse numbers) (omega (arith, many, same)))
