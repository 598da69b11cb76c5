-- The states of the code are those of the search.
use Rattle.std.proofs.Common.{◌≡◌, ◌∙◌, ◌⊎◌, inl, inr, ◌<◌, ◌≤◌, ℕ, zero, suc, Bool, true, false, cond, if◌then◌else◌, List, [], ◌∷◌, ◌++◌, length, Option, None, Some, is_some, get_or, refl, sym, ap, subst, arith}
use Rattle.cp_ends.proofs.Vocabulary.{nat_eq, slice_get, pointwise, Tables, Machine, has, Origin, States, Discipline}
use Rattle.std.specs.Prelude.{All}
use Rattle.std.specs.Map.{lookup}
use Rattle.std.proofs.lemmas.List.Elements.{All-nil, All-push, All-weaker}
use Rattle.std.proofs.lemmas.Option.{same_Some, slice_get_cases, slice_get_past, slice_get_within}
use Rattle.indexmap.specs.IndexMap.{insert_entry}
use Rattle.cp_key.specs.Room.{IsMachineOf}
use Rattle.cp_parts.specs.Placed.{IsPlaced}
use Rattle.cp_states.specs.Pieces.{KeepPieces}
use Rattle.cp_stretches.specs.Cached.{IsCache, IsStanding}
use Rattle.cp_stretches.specs.declared.cache.LegCache.{LegCache}
use Rattle.cp_stretches.specs.declared.cache.Standing.{Standing}
use Rattle.cp_ends.specs.declared.row.HalvedRow.{HalvedRow}
use Rattle.cp_ends.specs.declared.moves.MoveTable.{MoveTable}
use Rattle.cp_ends.specs.Moves.{AreMoves, IsMove}
use Rattle.cp_ends.specs.Rows.{IsHalvedRow, IsQuiet, IsStated}
use Rattle.cp_ends.proofs.Halves.{KeepRows, halved_row_on, same_kept, same_rows}
use Rattle.cp_ends.proofs.Within.{moves_on}
use Rattle.cp_ends.specs.Holds.{same_key, AreRows, AreStates, IsBefore, IsWordOf}
use Rattle.cp_ends.specs.declared.origin.Origin.TheVariants.{Start, Choice}
use Rattle.cp_ends.proofs.Searching.Lists.{all_at}
use Rattle.cp_resolved.proofs.names.Entries.{last_or_before as get_cases}

abbrev pub Entry : Type 0
Entry = HalvedRow × Origin

abbrev pub Stated : Type 0
Stated = Machine × List ℕ

-- ---- lists that end with one more

pub get_more : {X : Type 0} (xs : List X) (y : X) (i : ℕ) (x : X) → slice_get xs i ≡ Some x → slice_get (xs ++ y ∷ []) i ≡ Some x
get_more [] y i x at = cc
get_more (z ∷ xs) y zero x at = at
get_more (z ∷ xs) y (suc i) x at = get_more xs y i x at

-- ---- words stay

pub word_more : (states : List Stated) (y : Stated) (o : Origin) (word : List ℕ) → IsWordOf states o word → IsWordOf (states ++ y ∷ []) o word
word_more states y Start word h = h
word_more states y (Choice at number) word h = (h.0, get_more states y at h.0 h.1, h.2)

-- ---- rows

rows_length : (kept : States) (es : List Entry) (xs : List Stated) → AreRows kept es xs → length es ≡ length xs
rows_length kept [] [] h = refl
rows_length kept (e ∷ es) (x ∷ xs) h = ap suc (rows_length kept es xs h.1)
rows_length kept _ _ h = absurd h

-- what stands at one place is the row of the state there
pub row_here : (kept : States) (es : List Entry) (xs : List Stated) (i : ℕ) (e : Entry) (x : Stated) → AreRows kept es xs → slice_get es i ≡ Some e → slice_get xs i ≡ Some x → IsHalvedRow kept e.0.numbers x.0
row_here kept [] xs i e x h at to = cc
row_here kept (k ∷ es) [] i e x h at to = absurd h
row_here kept (k ∷ es) (y ∷ xs) zero e x h at to = subst (λ (z : Entry). IsHalvedRow kept z.0.numbers x.0) (same_Some k e at) (subst (λ (z : Stated). IsHalvedRow kept k.0.numbers z.0) (same_Some y x to) h.0)
row_here kept (k ∷ es) (y ∷ xs) (suc i) e x h at to = row_here kept es xs i e x h.1 at to

rows_more : (kept : States) (es : List Entry) (xs : List Stated) (e : Entry) (x : Stated) → IsHalvedRow kept e.0.numbers x.0 → AreRows kept es xs → AreRows kept (es ++ e ∷ []) (xs ++ x ∷ [])
rows_more kept [] [] e x is h = (is, tt)
rows_more kept (k ∷ es) (y ∷ xs) e x is h = (h.0, rows_more kept es xs e x is h.1)
rows_more kept _ _ e x is h = absurd h

-- rows stay where what has a number keeps it
rows_on : (old new : States) (es : List Entry) (xs : List Stated) → KeepRows old new → AreRows old es xs → AreRows new es xs
rows_on old new [] [] kept h = tt
rows_on old new (e ∷ es) (x ∷ xs) kept h = (halved_row_on old new e.0.numbers x.0 kept h.0, rows_on old new es xs kept h.1)
rows_on old new _ _ kept h = absurd h

pub states_with : (r : Tables) (old new : States) (xs : List Stated) → new.known ≡ old.known → KeepRows old new → AreMoves r new → IsCache r new.discipline new.cache → IsStanding r new.cache.store new.cache.table new.standing → AreStates r old xs → AreStates r new xs
states_with r old new xs same kept moves cached standing h =
    record {
      cached = cached;
      standing = standing;
      moves = moves;
      rows = subst (λ es. AreRows new es xs) (sym entries) (rows_on old new old.known.entries xs kept h.rows);
      own = h.own;
      quiet = h.quiet;
      ruled = All-weaker (λ (x : Stated). x.0.discipline ≡ old.discipline) (λ (x : Stated). x.0.discipline ≡ new.discipline) (λ x e. e ∙ sym kept.ruled) xs h.ruled;
      words = λ i e x at to. h.words i e x (sym (ap (λ es. slice_get es i) entries) ∙ at) to;
      before = λ i e at. h.before i e (sym (ap (λ es. slice_get es i) entries) ∙ at);
    }
  where
    entries : new.known.entries ≡ old.known.entries
    entries = ap (λ k. k.entries) same

-- with the same moves
pub states_on : (r : Tables) (old new : States) (xs : List Stated) → new.known ≡ old.known → new.moves.moves ≡ old.moves.moves → new.moves.writes ≡ old.moves.writes → KeepRows old new → IsCache r new.discipline new.cache → IsStanding r new.cache.store new.cache.table new.standing → AreStates r old xs → AreStates r new xs
states_on r old new xs same moves writes kept cached standing h = states_with r old new xs same kept (moves_on r old new kept moves writes h.moves) cached standing h

-- more lists
pub lists_more : (r : Tables) (old new : States) (xs : List Stated) → new.known ≡ old.known → new.moves ≡ old.moves → new.cache ≡ old.cache → new.standing ≡ old.standing → new.discipline ≡ old.discipline → KeepPieces old.lists.items.items old.lists.ends.items new.lists.items.items new.lists.ends.items → AreStates r old xs → AreStates r new xs
lists_more r old new xs known moves cache standing ruled lists h =
    states_on r old new xs known (ap (λ (v : MoveTable). v.moves) moves) (ap (λ (v : MoveTable). v.writes) moves) (same_kept old new cache ruled lists)
    (subst (λ (d : Discipline). IsCache r d new.cache) (sym ruled) (subst (λ (c : LegCache). IsCache r old.discipline c) (sym cache) h.cached))
    (subst (λ (x : Standing). IsStanding r new.cache.store new.cache.table x) (sym standing) (subst (λ (c : LegCache). IsStanding r c.store c.table old.standing) (sym cache) h.standing)) h

-- no state
pub no_states : (r : Tables) (kept : States) → IsCache r kept.discipline kept.cache → IsStanding r kept.cache.store kept.cache.table kept.standing → kept.known.entries ≡ [] → kept.moves.moves.items ≡ [] → AreStates r kept []
no_states r kept cached standing none still =
    record {
      cached = cached;
      standing = standing;
      moves = subst (λ es. All (IsMove r kept) es) (sym still) (All-nil (IsMove r kept));
      rows = subst (λ es. AreRows kept es []) (sym none) tt;
      own = All-nil (λ (x : Stated). IsMachineOf r x.0);
      quiet = All-nil (λ (x : Stated). x.0.output ≡ []);
      ruled = All-nil (λ (x : Stated). x.0.discipline ≡ kept.discipline);
      words = λ i e x at to. absurd (cc);
      before = λ i e at. absurd (nothing i e (sym (ap (λ es. slice_get es i) none) ∙ at));
    }
  where
    nothing : (i : ℕ) (e : Entry) → (◌≡◌ {A = Option Entry}) (slice_get [] i) (Some e) → ⊥
    nothing i e at = cc

-- a row is that of an entry exactly where its machine is a state
pub found_same : (r : Tables) (kept : States) (placed : IsPlaced r kept.cache.table) (es : List Entry) (xs : List Stated) (row : HalvedRow) (m : Machine) → AreRows kept es xs → ((i : ℕ) (x : Stated) → slice_get xs i ≡ Some x → IsQuiet r kept x.0) → IsStated r kept row.numbers m → is_some (lookup (λ j. pointwise nat_eq row.numbers j.numbers) es) ≡ has same_key xs m
found_same r kept placed [] [] row m h owns is = refl
found_same r kept placed (e ∷ es) (x ∷ xs) row m h owns is = by (pointwise nat_eq row.numbers e.0.numbers) (same_key x.0 m) (same_rows kept r placed row.numbers e.0.numbers m x.0 is.it (owns 0 x refl) is.row h.0) (found_same r kept placed es xs row m h.1 (λ i y at. owns (suc i) y at) is)
  where
    by : (b c : Bool) → b ≡ c → is_some (lookup (λ j. pointwise nat_eq row.numbers j.numbers) es) ≡ has same_key xs m → is_some (cond b (Some e.1) (lookup (λ j. pointwise nat_eq row.numbers j.numbers) es)) ≡ (if c then true else has same_key xs m)
    by true true t on = refl
    by false false t on = on
    by true false t on = cc
    by false true t on = cc
found_same r kept placed _ _ row m h owns is = absurd h

insert_new : (eq : HalvedRow → HalvedRow → Bool) (es : List Entry) (k : HalvedRow) (o : Origin) → is_some (lookup (eq k) es) ≡ false → insert_entry eq es k o ≡ es ++ (k, o) ∷ []
insert_new eq [] k o new = refl
insert_new eq (e ∷ es) k o new = by (eq k e.0) new (insert_new eq es k o)
  where
    by : (b : Bool) → is_some (cond b (Some e.1) (lookup (eq k) es)) ≡ false → (is_some (lookup (eq k) es) ≡ false → insert_entry eq es k o ≡ es ++ (k, o) ∷ []) → (if b then (e.0, o) ∷ es else e ∷ insert_entry eq es k o) ≡ e ∷ es ++ (k, o) ∷ []
    by true new on = cc
    by false new on = ap (λ l. e ∷ l) (on new)

module _ (r : Tables) (kept : States) (xs : List Stated) (h : AreStates r kept xs) where
  abbrev es : List Entry
  es = kept.known.entries

  pub owned : (i : ℕ) (x : Stated) → slice_get xs i ≡ Some x → IsQuiet r kept x.0
  owned i x at =
      record {
        own = all_at (λ (x : Stated). IsMachineOf r x.0) xs i x h.own at;
        quiet = all_at (λ (x : Stated). x.0.output ≡ []) xs i x h.quiet at;
        ruled = all_at (λ (x : Stated). x.0.discipline ≡ kept.discipline) xs i x h.ruled at;
      }

  pub states_length : length kept.known.entries ≡ length xs
  states_length = rows_length kept kept.known.entries xs h.rows

  -- the state of an entry
  pub state_of : (i : ℕ) (e : Entry) → slice_get kept.known.entries i ≡ Some e → (x : Stated) × (slice_get xs i ≡ Some x) × IsStated r kept e.0.numbers x.0
  state_of i e at = by (slice_get_cases xs i).1
    where
      by : ((z : Stated) × (i < length xs) × (slice_get xs i ≡ Some z) × (get_or xs i z ≡ z)) ⊎ ((length xs ≤ i) × (slice_get xs i ≡ None)) → (x : Stated) × (slice_get xs i ≡ Some x) × IsStated r kept e.0.numbers x.0
      by (inl z) = (z.0, z.2, record { it = owned i z.0 z.2; row = row_here kept es xs i e z.0 h.rows at z.2 })
      by (inr none) = let past = none.0 in let within = slice_get_within es i e at in let few = states_length in absurd (omega (arith, past, within, few))

  -- where there is none there is no entry
  pub no_state : (i : ℕ) → slice_get kept.known.entries i ≡ None → slice_get xs i ≡ None
  no_state i none = by (slice_get_cases es i).1
    where
      by : ((z : Entry) × (i < length es) × (slice_get es i ≡ Some z) × (get_or es i z ≡ z)) ⊎ ((length es ≤ i) × (slice_get es i ≡ None)) → slice_get xs i ≡ None
      by (inl z) = let both = sym none ∙ z.2 in cc
      by (inr past) = let le = past.0 in let few = states_length in slice_get_past xs i (omega (arith, le, few))

  -- one more
  module _ (k : HalvedRow) (o : Origin) (m : Machine) (word : List ℕ) where
    pub states_more : has same_key xs m ≡ false → IsStated r kept k.numbers m → IsWordOf xs o word → IsBefore (length xs) o → (new : States) → KeepRows kept new → new.moves ≡ kept.moves → IsCache r new.discipline new.cache → IsStanding r new.cache.store new.cache.table new.standing → new.known.entries ≡ insert_entry (λ a b. pointwise nat_eq a.numbers b.numbers) kept.known.entries k o → AreStates r new (xs ++ (m, word) ∷ [])
    states_more fresh is word_is before new same moves cached standing listed = more
      where
        put : insert_entry (λ a b. pointwise nat_eq a.numbers b.numbers) es k o ≡ es ++ (k, o) ∷ []
        put = insert_new (λ a b. pointwise nat_eq a.numbers b.numbers) es k o (found_same r kept h.cached.placed es xs k m h.rows owned is ∙ fresh)

        words : (i : ℕ) (e : Entry) (x : Stated) → (slice_get es i ≡ Some e) ⊎ ((i ≡ length es) × (e ≡ (k, o))) → (slice_get xs i ≡ Some x) ⊎ ((i ≡ length xs) × (x ≡ (m, word))) → IsWordOf (xs ++ (m, word) ∷ []) e.1 x.1
        words i e x (inl at) (inl to) = word_more xs (m, word) e.1 x.1 (h.words i e x at to)
        words i e x (inl at) (inr to) = let within = slice_get_within es i e at in let here = to.0 in let few = states_length in absurd (omega (arith, within, here, few))
        words i e x (inr at) (inl to) = let within = slice_get_within xs i x to in let here = at.0 in let few = states_length in absurd (omega (arith, within, here, few))
        words i e x (inr at) (inr to) = subst (λ (f : Entry). IsWordOf (xs ++ (m, word) ∷ []) f.1 x.1) (sym at.1) (subst (λ (y : Stated). IsWordOf (xs ++ (m, word) ∷ []) o y.1) (sym to.1) (word_more xs (m, word) o word word_is))

        befores : (i : ℕ) (e : Entry) → (slice_get es i ≡ Some e) ⊎ ((i ≡ length es) × (e ≡ (k, o))) → IsBefore i e.1
        befores i e (inl at) = h.before i e at
        befores i e (inr at) = subst (λ (f : Entry). IsBefore i f.1) (sym at.1) (subst (λ n. IsBefore n o) (sym (at.0 ∙ states_length)) before)

        all : new.known.entries ≡ es ++ (k, o) ∷ []
        all = listed ∙ put

        rows : AreRows new new.known.entries (xs ++ (m, word) ∷ [])
        rows = subst (λ l. AreRows new l (xs ++ (m, word) ∷ [])) (sym all) (rows_on kept new (es ++ (k, o) ∷ []) (xs ++ (m, word) ∷ []) same (rows_more kept es xs (k, o) (m, word) is.row h.rows))

        more : AreStates r new (xs ++ (m, word) ∷ [])
        more =
            record {
              cached = cached;
              standing = standing;
              moves = moves_on r kept new same (ap (λ (v : MoveTable). v.moves) moves) (ap (λ (v : MoveTable). v.writes) moves) h.moves;
              rows = rows;
              own = All-push (λ (x : Stated). IsMachineOf r x.0) xs (m, word) h.own is.it.own;
              quiet = All-push (λ (x : Stated). x.0.output ≡ []) xs (m, word) h.quiet is.it.quiet;
              ruled = All-push (λ (x : Stated). x.0.discipline ≡ new.discipline) xs (m, word) (All-weaker (λ (x : Stated). x.0.discipline ≡ kept.discipline) (λ (x : Stated). x.0.discipline ≡ new.discipline) (λ x e. e ∙ sym same.ruled) xs h.ruled) (is.it.ruled ∙ sym same.ruled);
              words = λ i e x at to. words i e x (get_cases es (k, o) i e (sym (ap (λ l. slice_get l i) all) ∙ at)) (get_cases xs (m, word) i x to);
              before = λ i e at. befores i e (get_cases es (k, o) i e (sym (ap (λ l. slice_get l i) all) ∙ at));
            }
