-- The numbers of a word, from its last one back.
use Rattle.std.proofs.Common.{◌≡◌, ◌∙◌, ◌⊎◌, inl, inr, ◌+◌, ◌<◌, ◌≤◌, ℕ, suc, List, [], ◌∷◌, ◌++◌, length, reverse, None, Some, get_or, sym, ap, subst, arith}
use Rattle.cp_ends.proofs.Vocabulary.{slice_get, slice_get_cases, slice_get_within, Tables, Origin, States}
use Rattle.std.proofs.lemmas.List.{append-nil, append_assoc, reverse-append}
use Rattle.cp_ends.specs.Holds.{AreStates, IsBefore, IsWordOf, origin_at, origin_or}
use Rattle.cp_ends.specs.declared.origin.Origin.TheVariants.{Start, Choice}
use Rattle.cp_ends.proofs.Keeping.{Entry, Stated, states_length}

-- how far there is to go at most
abbrev pub rank : Origin → ℕ
rank Start = 0
rank (Choice at number) = suc at

-- what is left to read is the word of an origin, and the rest was read, last number first
pub record Reads (kept : States) (states : List Stated) (from : Origin) (word numbers : List ℕ) (count : ℕ) : Type 0 where
  pub stem : List ℕ
  pub is : IsWordOf states from stem
  pub all : word ≡ stem ++ reverse numbers
  pub far : rank from + count ≤ length kept.known.entries

abbrev pub ReadsAll : States → Origin → Origin → List ℕ → ℕ → Type 0
ReadsAll kept origin from numbers count = (r : Tables) (states : List Stated) (word : List ℕ) → AreStates r kept states → IsWordOf states origin word → Reads kept states from word numbers count

pub reads_start : (kept : States) (origin : Origin) (numbers : List ℕ) → numbers ≡ [] → ReadsAll kept origin origin numbers 0
reads_start kept origin numbers none r states word h is = record { stem = word; is = is; all = sym (append-nil word) ∙ ap (λ l. word ++ reverse l) (sym none); far = far origin is }
  where
    far : (o : Origin) → IsWordOf states o word → rank o + 0 ≤ length kept.known.entries
    far Start w = omega arith
    far (Choice at number) w = let within = slice_get_within states at w.0 w.1 in let few = states_length r kept states h in omega (arith, within, few)

pub reads_more : (kept : States) (origin : Origin) (at number : ℕ) (numbers : List ℕ) (count : ℕ) → ReadsAll kept origin (Choice at number) numbers count → ReadsAll kept origin (origin_at kept.known.entries at) (numbers ++ number ∷ []) (suc count)
reads_more kept origin at number numbers count on r states word h is = by (slice_get_cases kept.known.entries at).1
  where
    here : Reads kept states (Choice at number) word numbers count
    here = on r states word h is

    x : Stated
    x = here.is.0

    to : slice_get states at ≡ Some x
    to = here.is.1

    all : word ≡ x.1 ++ reverse (numbers ++ number ∷ [])
    all = here.all ∙ ap (λ l. l ++ reverse numbers) here.is.2 ∙ append_assoc x.1 (number ∷ []) (reverse numbers) ∙ ap (λ l. x.1 ++ l) (sym (reverse-append numbers (number ∷ [])))

    nearer : (o : Origin) → IsBefore at o → rank o ≤ at
    nearer Start b = omega arith
    nearer (Choice k n) b = omega (arith, b)

    by : ((e : Entry) × (at < length kept.known.entries) × (slice_get kept.known.entries at ≡ Some e) × (get_or kept.known.entries at e ≡ e)) ⊎ ((length kept.known.entries ≤ at) × (slice_get kept.known.entries at ≡ None)) → Reads kept states (origin_at kept.known.entries at) word (numbers ++ number ∷ []) (suc count)
    by (inl e) =
        let near = nearer e.0.1 (h.before at e.0 e.2) in
        let far = here.far in
        subst (λ o. Reads kept states (origin_or o) word (numbers ++ number ∷ []) (suc count)) (sym e.2) (record { stem = x.1; is = h.words at e.0 x e.2 to; all = all; far = omega (arith, near, far) })
    by (inr none) = let past = none.0 in let within = slice_get_within states at x to in let few = states_length r kept states h in absurd (omega (arith, past, within, few))

-- nothing is left
pub reads_done : (kept : States) (origin : Origin) (numbers : List ℕ) (count : ℕ) → ReadsAll kept origin Start numbers count → (r : Tables) (states : List Stated) (word : List ℕ) → AreStates r kept states → IsWordOf states origin word → reverse numbers ≡ word
reads_done kept origin numbers count on r states word h is = let here = on r states word h is in sym (here.all ∙ ap (λ l. l ++ reverse numbers) here.is)

-- as many numbers were read as there are states
pub reads_most : (kept : States) (origin from : Origin) (numbers : List ℕ) (count : ℕ) → length kept.known.entries ≤ count → ReadsAll kept origin from numbers count → (r : Tables) (states : List Stated) (word : List ℕ) → AreStates r kept states → IsWordOf states origin word → reverse numbers ≡ word
reads_most kept origin Start numbers count many on r states word h is = reads_done kept origin numbers count on r states word h is
reads_most kept origin (Choice at number) numbers count many on r states word h is = let far = (on r states word h is).far in absurd (omega (arith, far, many))
