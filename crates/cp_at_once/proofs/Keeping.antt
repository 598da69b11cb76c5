-- The entries of the code are the kept states, each with its word.
use Rattle.std.proofs.Common.{◌≡◌, ◌∙◌, ◌⊎◌, inl, inr, ◌<◌, ◌≤◌, ℕ, zero, suc, Bool, true, false, cond, if◌then◌else◌, List, [], ◌∷◌, ◌++◌, length, Option, None, Some, is_some, get_or, refl, sym, ap, subst, arith}
use Rattle.std.specs.Prelude.{◌≢◌, All, AllPairs, nat_eq, slice_get}
use Rattle.std.specs.Map.{lookup}
use Rattle.std.proofs.lemmas.List.{append_assoc}
use Rattle.std.proofs.lemmas.List.Elements.{All-push, All-weaker}
use Rattle.std.proofs.lemmas.List.Quantifiers.{all_pairs_push}
use Rattle.std.proofs.lemmas.Option.{same_Some, slice_get_cases, slice_get_past, slice_get_within}
use Rattle.indexmap.specs.IndexMap.{insert_entry}
use lib.Pointwise.{pointwise}
use Rattle.cp_at_once.proofs.Words.{Tables, Machine, same_key, has, key_self, all_at, OriginAtOnce}
use Rattle.cp_key.specs.Room.{IsMachineOf}
use Rattle.cp_parts.specs.Placed.{IsPlaced}
use Rattle.cp_ends.specs.Holds as by_states
use Rattle.cp_ends.specs.Rows.{IsHalvedRow, IsQuiet, IsStated}
use Rattle.cp_ends.specs.declared.row.HalvedRow.{HalvedRow}
use Rattle.cp_ends.specs.declared.states.States.{States}
use Rattle.cp_ends.proofs.Halves.{same_rows}
use Rattle.cp_ends.proofs.Keeping.{get_more}
use Rattle.cp_at_once.specs.Holds.{AreKept, AreRows, AreStates, IsBefore, IsWordBy, IsWordOf}
use Rattle.cp_at_once.specs.ByRows.{KeepStore}
use Rattle.cp_at_once.specs.declared.kept.Kept.{Kept}
use Rattle.cp_resolved.proofs.names.Entries.{last_or_before as get_cases}

abbrev pub Entry : Type 0
Entry = HalvedRow × OriginAtOnce

abbrev pub Stated : Type 0
Stated = Machine × List ℕ

-- ---- words stay

pub word_grows : (states more : List Stated) (o : OriginAtOnce) (word : List ℕ) → ((i : ℕ) (x : Stated) → slice_get states i ≡ Some x → slice_get more i ≡ Some x) → IsWordOf states o word → IsWordOf more o word
word_grows states more o word grow h = by o.state h
  where
    by : (at : Option ℕ) → IsWordBy states at o.numbers.items word → IsWordBy more at o.numbers.items word
    by None h = h
    by (Some at) h = (h.0, grow at h.0 h.1, h.2)

pub word_more : (states : List Stated) (y : Stated) (o : OriginAtOnce) (word : List ℕ) → IsWordOf states o word → IsWordOf (states ++ y ∷ []) o word
word_more states y o word h = word_grows states (states ++ y ∷ []) o word (λ i x at. get_more states y i x at) h

-- one number more
pub word_longer : (states : List Stated) (o more : OriginAtOnce) (p : ℕ) (word : List ℕ) → IsWordOf states o word → more.state ≡ o.state → more.numbers.items ≡ o.numbers.items ++ p ∷ [] → IsWordOf states more (word ++ p ∷ [])
word_longer states o more p word h same longer = subst (λ at. IsWordBy states at more.numbers.items (word ++ p ∷ [])) (sym same) (subst (λ ns. IsWordBy states o.state ns (word ++ p ∷ [])) (sym longer) (by o.state h))
  where
    by : (at : Option ℕ) → IsWordBy states at o.numbers.items word → IsWordBy states at (o.numbers.items ++ p ∷ []) (word ++ p ∷ [])
    by None h = ap (λ w. w ++ p ∷ []) h
    by (Some at) h = (h.0, h.1, ap (λ w. w ++ p ∷ []) h.2 ∙ append_assoc h.0.1 o.numbers.items (p ∷ []))

-- an origin goes back to a state that is kept
pub word_before : (states : List Stated) (o : OriginAtOnce) (word : List ℕ) → IsWordOf states o word → IsBefore (length states) o.state
word_before states o word h = by o.state h
  where
    by : (at : Option ℕ) → IsWordBy states at o.numbers.items word → IsBefore (length states) at
    by None h = tt
    by (Some at) h = slice_get_within states at h.0 h.1

-- the word of a state, and a number
pub word_choice : (states : List Stated) (o : OriginAtOnce) (at p : ℕ) (x : Stated) → slice_get states at ≡ Some x → o.state ≡ Some at → o.numbers.items ≡ p ∷ [] → IsWordOf states o (x.1 ++ p ∷ [])
word_choice states o at p x there state numbers = subst (λ s. IsWordBy states s o.numbers.items (x.1 ++ p ∷ [])) (sym state) (subst (λ ns. IsWordBy states (Some at) ns (x.1 ++ p ∷ [])) (sym numbers) (x, there, refl))

-- the word without numbers
pub word_start : (states : List Stated) (o : OriginAtOnce) → o.state ≡ None → o.numbers.items ≡ [] → IsWordOf states o []
word_start states o state numbers = subst (λ s. IsWordBy states s o.numbers.items []) (sym state) (sym numbers)

-- ---- rows

pub rows_length : (store : States) (es : List Entry) (xs : List Stated) → AreRows store es xs → length es ≡ length xs
rows_length store [] [] h = refl
rows_length store (e ∷ es) (x ∷ xs) h = ap suc (rows_length store es xs h.1)
rows_length store _ _ h = absurd h

-- what stands at one place is the row of the state there
row_here : (store : States) (es : List Entry) (xs : List Stated) (i : ℕ) (e : Entry) (x : Stated) → AreRows store es xs → slice_get es i ≡ Some e → slice_get xs i ≡ Some x → IsHalvedRow store e.0.numbers x.0
row_here store [] xs i e x h at to = cc
row_here store (k ∷ es) [] i e x h at to = absurd h
row_here store (k ∷ es) (y ∷ xs) zero e x h at to = subst (λ (z : Entry). IsHalvedRow store z.0.numbers x.0) (same_Some k e at) (subst (λ (z : Stated). IsHalvedRow store k.0.numbers z.0) (same_Some y x to) h.0)
row_here store (k ∷ es) (y ∷ xs) (suc i) e x h at to = row_here store es xs i e x h.1 at to

rows_more : (store : States) (es : List Entry) (xs : List Stated) (e : Entry) (x : Stated) → IsHalvedRow store e.0.numbers x.0 → AreRows store es xs → AreRows store (es ++ e ∷ []) (xs ++ x ∷ [])
rows_more store [] [] e x is h = (is, tt)
rows_more store (k ∷ es) (y ∷ xs) e x is h = (h.0, rows_more store es xs e x is h.1)
rows_more store _ _ e x is h = absurd h

-- rows stay where more is known
row_on : (r : Tables) (old new : States) (numbers : List ℕ) (m : Machine) → KeepStore r old new → IsQuiet r old m → IsHalvedRow old numbers m → IsHalvedRow new numbers m
row_on r old new numbers m kept quiet h = record { row = h.row; halved = kept.halved numbers h.row h.halved; is = (kept.rows h.row m (record { it = quiet; is = h.is })).is }

rows_on : (r : Tables) (old new : States) (es : List Entry) (xs : List Stated) → KeepStore r old new → ((i : ℕ) (x : Stated) → slice_get xs i ≡ Some x → IsQuiet r old x.0) → AreRows old es xs → AreRows new es xs
rows_on r old new [] [] kept owns h = tt
rows_on r old new (e ∷ es) (x ∷ xs) kept owns h = (row_on r old new e.0.numbers x.0 kept (owns 0 x refl) h.0, rows_on r old new es xs kept (λ i y at. owns (suc i) y at) h.1)
rows_on r old new _ _ kept owns h = absurd h

-- a row is that of an entry exactly where its machine is a state
pub found_same : (r : Tables) (store : States) (placed : IsPlaced r store.cache.table) (es : List Entry) (xs : List Stated) (row : HalvedRow) (m : Machine) → AreRows store es xs → ((i : ℕ) (x : Stated) → slice_get xs i ≡ Some x → IsQuiet r store x.0) → IsStated r store row.numbers m → is_some (lookup (λ j. pointwise nat_eq row.numbers j.numbers) es) ≡ has same_key xs m
found_same r store placed [] [] row m h owns is = refl
found_same r store placed (e ∷ es) (x ∷ xs) row m h owns is = by (pointwise nat_eq row.numbers e.0.numbers) (same_key x.0 m) (same_rows store r placed row.numbers e.0.numbers m x.0 is.it (owns 0 x refl) is.row h.0) (found_same r store placed es xs row m h.1 (λ i y at. owns (suc i) y at) is)
  where
    by : (b c : Bool) → b ≡ c → is_some (lookup (λ j. pointwise nat_eq row.numbers j.numbers) es) ≡ has same_key xs m → is_some (cond b (Some e.1) (lookup (λ j. pointwise nat_eq row.numbers j.numbers) es)) ≡ (if c then true else has same_key xs m)
    by true true t on = refl
    by false false t on = on
    by true false t on = cc
    by false true t on = cc
found_same r store placed _ _ row m h owns is = absurd h

-- a state that was not found is none of them
new_state : (xs : List Stated) (m : Machine) → has same_key xs m ≡ false → (i : ℕ) (d : Stated) → i < length xs → (get_or xs i d).0 ≢ m
new_state [] m fresh i d lt = absurd (omega (arith, lt))
new_state (x ∷ xs) m fresh i d lt = by (same_key x.0 m) refl fresh (λ old i lt. new_state xs m old i d lt) i lt
  where
    by : (b : Bool) → b ≡ same_key x.0 m → (if b then true else has same_key xs m) ≡ false → (has same_key xs m ≡ false → (i : ℕ) → i < length xs → (get_or xs i d).0 ≢ m) → (i : ℕ) → i < length (x ∷ xs) → (get_or (x ∷ xs) i d).0 ≢ m
    by true is old on i lt same = cc
    by false is old on zero lt same = let found : false ≡ true = is ∙ subst (λ n. same_key x.0 n ≡ true) same (key_self x.0) in cc
    by false is old on (suc i) lt same = on old i (omega (arith, lt)) same

-- with one that was not found each is there once
pub one_apart : (xs : List Stated) (m : Machine) (word : List ℕ) → AllPairs (λ x y. x.0 ≢ y.0) xs → has same_key xs m ≡ false → AllPairs (λ x y. x.0 ≢ y.0) (xs ++ (m, word) ∷ [])
one_apart xs m word apart fresh = all_pairs_push (λ (x y : Stated). x.0 ≢ y.0) xs (m, word) apart (λ i d lt. new_state xs m fresh i d lt)

insert_new : (eq : HalvedRow → HalvedRow → Bool) (es : List Entry) (k : HalvedRow) (o : OriginAtOnce) → is_some (lookup (eq k) es) ≡ false → insert_entry eq es k o ≡ es ++ (k, o) ∷ []
insert_new eq [] k o new = refl
insert_new eq (e ∷ es) k o new = by (eq k e.0) new (insert_new eq es k o)
  where
    by : (b : Bool) → is_some (cond b (Some e.1) (lookup (eq k) es)) ≡ false → (is_some (lookup (eq k) es) ≡ false → insert_entry eq es k o ≡ es ++ (k, o) ∷ []) → (if b then (e.0, o) ∷ es else e ∷ insert_entry eq es k o) ≡ e ∷ es ++ (k, o) ∷ []
    by true new on = cc
    by false new on = ap (λ l. e ∷ l) (on new)

module _ (r : Tables) (kept : Kept) (xs : List Stated) (h : AreKept r kept xs) where
  abbrev es : List Entry
  es = kept.known.entries

  pub owned : (i : ℕ) (x : Stated) → slice_get xs i ≡ Some x → IsQuiet r kept.store x.0
  owned i x at =
      record {
        own = all_at (λ (x : Stated). IsMachineOf r x.0) xs i x h.entries.own at;
        quiet = all_at (λ (x : Stated). x.0.output ≡ []) xs i x h.entries.quiet at;
        ruled = all_at (λ (x : Stated). x.0.discipline ≡ kept.store.discipline) xs i x h.ruled at;
      }

  -- with another store
  pub kept_on : (store : States) → KeepStore r kept.store store → AreKept r (record kept { store = store }) xs
  kept_on store stays =
      record {
        entries = h.entries;
        rows = rows_on r kept.store store es xs stays owned h.rows;
        apart = h.apart;
        ruled = All-weaker (λ (x : Stated). x.0.discipline ≡ kept.store.discipline) (λ (x : Stated). x.0.discipline ≡ store.discipline) (λ x e. e ∙ sym stays.ruled) xs h.ruled;
        known = stays.known h.known;
      }

  -- the state of an entry
  pub state_of : (i : ℕ) (e : Entry) → slice_get kept.known.entries i ≡ Some e → (x : Stated) × (slice_get xs i ≡ Some x) × IsStated r kept.store e.0.numbers x.0
  state_of i e at = by (slice_get_cases xs i).1
    where
      by : ((z : Stated) × (i < length xs) × (slice_get xs i ≡ Some z) × (get_or xs i z ≡ z)) ⊎ ((length xs ≤ i) × (slice_get xs i ≡ None)) → (x : Stated) × (slice_get xs i ≡ Some x) × IsStated r kept.store e.0.numbers x.0
      by (inl z) = (z.0, z.2, record { it = owned i z.0 z.2; row = row_here kept.store es xs i e z.0 h.rows at z.2 })
      by (inr none) = let past = none.0 in let within = slice_get_within es i e at in let few = h.entries.count in absurd (omega (arith, past, within, few))

  -- where there is none there is no entry
  pub no_state : (i : ℕ) → slice_get kept.known.entries i ≡ None → slice_get xs i ≡ None
  no_state i none = by (slice_get_cases es i).1
    where
      by : ((z : Entry) × (i < length es) × (slice_get es i ≡ Some z) × (get_or es i z ≡ z)) ⊎ ((length es ≤ i) × (slice_get es i ≡ None)) → slice_get xs i ≡ None
      by (inl z) = let both = sym none ∙ z.2 in cc
      by (inr past) = let le = past.0 in let few = h.entries.count in slice_get_past xs i (omega (arith, le, few))

  -- one more
  module _ (k : HalvedRow) (o : OriginAtOnce) (m : Machine) (word : List ℕ) where
    pub states_more : has same_key xs m ≡ false → IsStated r kept.store k.numbers m → IsWordOf xs o word → (new : Kept) → new.store ≡ kept.store → new.known.entries ≡ insert_entry (λ a b. pointwise nat_eq a.numbers b.numbers) kept.known.entries k o → AreKept r new (xs ++ (m, word) ∷ [])
    states_more fresh stated is new same listed = more
      where
        put : insert_entry (λ a b. pointwise nat_eq a.numbers b.numbers) es k o ≡ es ++ (k, o) ∷ []
        put = insert_new (λ a b. pointwise nat_eq a.numbers b.numbers) es k o (found_same r kept.store h.known.cached.placed es xs k m h.rows owned stated ∙ fresh)

        words : (i : ℕ) (e : Entry) (x : Stated) → (slice_get es i ≡ Some e) ⊎ ((i ≡ length es) × (e ≡ (k, o))) → (slice_get xs i ≡ Some x) ⊎ ((i ≡ length xs) × (x ≡ (m, word))) → IsWordOf (xs ++ (m, word) ∷ []) e.1 x.1
        words i e x (inl at) (inl to) = word_more xs (m, word) e.1 x.1 (h.entries.words i e x at to)
        words i e x (inl at) (inr to) = let within = slice_get_within es i e at in let here = to.0 in let few = h.entries.count in absurd (omega (arith, within, here, few))
        words i e x (inr at) (inl to) = let within = slice_get_within xs i x to in let here = at.0 in let few = h.entries.count in absurd (omega (arith, within, here, few))
        words i e x (inr at) (inr to) = subst (λ (f : Entry). IsWordOf (xs ++ (m, word) ∷ []) f.1 x.1) (sym at.1) (subst (λ (y : Stated). IsWordOf (xs ++ (m, word) ∷ []) o y.1) (sym to.1) (word_more xs (m, word) o word is))

        befores : (i : ℕ) (e : Entry) → (slice_get es i ≡ Some e) ⊎ ((i ≡ length es) × (e ≡ (k, o))) → IsBefore i e.1.state
        befores i e (inl at) = h.entries.before i e at
        befores i e (inr at) = subst (λ (f : Entry). IsBefore i f.1.state) (sym at.1) (subst (λ n. IsBefore n o.state) (sym (at.0 ∙ h.entries.count)) (word_before xs o word is))

        all : new.known.entries ≡ es ++ (k, o) ∷ []
        all = listed ∙ put

        states : AreStates r (es ++ (k, o) ∷ []) (xs ++ (m, word) ∷ [])
        states =
            record {
              count = rows_length kept.store (es ++ (k, o) ∷ []) (xs ++ (m, word) ∷ []) (rows_more kept.store es xs (k, o) (m, word) stated.row h.rows);
              own = All-push (λ (x : Stated). IsMachineOf r x.0) xs (m, word) h.entries.own stated.it.own;
              quiet = All-push (λ (x : Stated). x.0.output ≡ []) xs (m, word) h.entries.quiet stated.it.quiet;
              words = λ i e x at to. words i e x (get_cases es (k, o) i e at) (get_cases xs (m, word) i x to);
              before = λ i e at. befores i e (get_cases es (k, o) i e at);
            }

        rows : AreRows new.store (es ++ (k, o) ∷ []) (xs ++ (m, word) ∷ [])
        rows = subst (λ s. AreRows s (es ++ (k, o) ∷ []) (xs ++ (m, word) ∷ [])) (sym same) (rows_more kept.store es xs (k, o) (m, word) stated.row h.rows)

        more : AreKept r new (xs ++ (m, word) ∷ [])
        more =
            record {
              entries = subst (λ l. AreStates r l (xs ++ (m, word) ∷ [])) (sym all) states;
              rows = subst (λ l. AreRows new.store l (xs ++ (m, word) ∷ [])) (sym all) rows;
              apart = one_apart xs m word h.apart fresh;
              ruled = subst (λ (s : States). All (λ (x : Stated). x.0.discipline ≡ s.discipline) (xs ++ (m, word) ∷ [])) (sym same) (All-push (λ (x : Stated). x.0.discipline ≡ kept.store.discipline) xs (m, word) h.ruled stated.it.ruled);
              known = subst (λ (s : States). by_states.AreStates r s []) (sym same) h.known;
            }
