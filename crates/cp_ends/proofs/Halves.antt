-- Rows by the numbers of their lists.
use Rattle.std.proofs.Common.{◌≡◌, ◌∙◌, ◌+◌, ◌++◌, ◌<◌, ℕ, zero, suc, Bool, List, true, false, drop, length, take, sym, ap, subst, arith}
use Rattle.std.proofs.lemmas.List.{ext_get_or, take-append-drop}
use Rattle.cp_ends.proofs.Vocabulary.{nat_eq, bytes_decides, pointwise, Tables, Machine, States}
use Rattle.std.proofs.lemmas.Cmp.{nat_list_eq_equiv}
use Rattle.cp_states.specs.Numbers.{number_at}
use Rattle.cp_states.specs.Pieces.{IsPiece, KeepPieces}
use Rattle.cp_parts.specs.declared.placing.PlaceTable.{PlaceTable}
use Rattle.cp_stretches.specs.declared.cache.LegCache.{LegCache}
use Rattle.cp_parts.specs.Parts.{IsPartRow, KeepStore}
use Rattle.cp_parts.specs.Placed.{IsPlaced}
use Rattle.cp_parts.proofs.Keeping.{row_on, store_same}
use Rattle.cp_parts.proofs.Pieces.{one_number, one_piece, piece_on}
use Rattle.cp_parts.proofs.Rows.{one_row_law, row_law}
use Rattle.cp_ends.specs.Holds.{same_key}
use Rattle.cp_ends.specs.Halves.{cuts_of, dealt, half_in, statuses_in, width_of}
use Rattle.cp_ends.specs.Moves.{HasHalf}
use Rattle.cp_ends.specs.Rows.{IsHalved, IsHalvedRow, IsQuiet, IsRowFor, IsStated}
use Rattle.cp_ends.proofs.Dealing.{joined, joined_dealt}
use Rattle.cp_ends.proofs.named.Keys.{key_same, key_self}
use Rattle.cp_machine_laws.proofs.expressions.SetRanges.{same_truth as both_true}

-- two halves are of one list
one_dealt : (ns row other : List ℕ) → (dealt ns row).0 ≡ (dealt ns other).0 → (dealt ns row).1 ≡ (dealt ns other).1 → row ≡ other
one_dealt ns row other first second =
    sym (joined_dealt ns row)
    ∙ ap (λ l. joined ns l (dealt ns row).1) first
    ∙ ap (λ l. joined ns (dealt ns other).0 l) second
    ∙ joined_dealt ns other

-- three lists are of one row
pub one_whole : (t : PlaceTable) (row other : List ℕ) → statuses_in t row ≡ statuses_in t other → half_in t true row ≡ half_in t true other → half_in t false row ≡ half_in t false other → row ≡ other
one_whole t row other own first second =
    let n = t.processes + 1 in
    sym (take-append-drop n row)
    ∙ ap (λ l. l ++ drop n row) own
    ∙ ap (λ l. take n other ++ l) (one_dealt (cuts_of t) (drop n row) (drop n other) first second)
    ∙ take-append-drop n other

module _ (kept : States) where
  -- one row has the lists
  pub one_row : (numbers row other : List ℕ) → IsHalved kept numbers row → IsHalved kept numbers other → row ≡ other
  one_row numbers row other a b =
      one_whole kept.cache.table row other
      (one_piece kept.lists.items.items kept.lists.ends.items (number_at numbers 0) _ _ a.statuses b.statuses)
      (one_piece kept.lists.items.items kept.lists.ends.items (number_at numbers 1) _ _ a.first b.first)
      (one_piece kept.lists.items.items kept.lists.ends.items (number_at numbers 2) _ _ a.second b.second)

  -- one list of numbers has them
  pub one_triple : (numbers other row : List ℕ) → IsHalved kept numbers row → IsHalved kept other row → numbers ≡ other
  one_triple numbers other row a b = ext_get_or 0 numbers other (a.three ∙ sym b.three) (λ k lt. each k (omega (arith, lt, a.three)))
    where
      each : (k : ℕ) → k < 3 → number_at numbers k ≡ number_at other k
      each zero lt = one_number kept.lists.items.items kept.lists.ends.items (number_at numbers 0) (number_at other 0) _ kept.lists.different a.statuses b.statuses
      each (suc zero) lt = one_number kept.lists.items.items kept.lists.ends.items (number_at numbers 1) (number_at other 1) _ kept.lists.different a.first b.first
      each (suc (suc zero)) lt = one_number kept.lists.items.items kept.lists.ends.items (number_at numbers 2) (number_at other 2) _ kept.lists.different a.second b.second
      each (suc (suc (suc k))) lt = absurd (omega (arith, lt))

  module _ (r : Tables) (placed : IsPlaced r kept.cache.table) (numbers other : List ℕ) (m n : Machine) (mine : IsQuiet r kept m) (theirs : IsQuiet r kept n) where
    pub one_machine : IsHalvedRow kept numbers m → IsHalvedRow kept numbers n → m ≡ n
    one_machine a b =
        row_law r kept.cache.store kept.cache.table m n a.row placed mine.own.fits theirs.own.fits (theirs.ruled ∙ sym mine.ruled) (theirs.quiet ∙ sym mine.quiet) a.is
        (subst (IsPartRow kept.cache.store kept.cache.table n) (one_row numbers b.row a.row b.halved a.halved) b.is)

    -- rows are the same exactly where machines of the program are
    pub same_rows : IsHalvedRow kept numbers m → IsHalvedRow kept other n → pointwise nat_eq numbers other ≡ same_key n m
    same_rows a b = both_true (pointwise nat_eq numbers other) (same_key n m) on back
      where
        on : pointwise nat_eq numbers other ≡ true → same_key n m ≡ true
        on h =
            let e : numbers ≡ other = (bytes_decides numbers other).0 h in
            let same : m ≡ n = one_machine a (subst (λ l. IsHalvedRow kept l n) (sym e) b) in
            ap (same_key n) same ∙ key_self n

        back : same_key n m ≡ true → pointwise nat_eq numbers other ≡ true
        back h =
            let same : n ≡ m = key_same n m h in
            let rows : b.row ≡ a.row = one_row_law kept.cache.store kept.cache.table m b.row a.row (subst (λ (k : Machine). IsPartRow kept.cache.store kept.cache.table k b.row) same b.is) a.is in
            let e : numbers ≡ other = one_triple numbers other a.row a.halved (subst (IsHalved kept other) rows b.halved) in
            ap (pointwise nat_eq numbers) (sym e) ∙ nat_list_eq_equiv.refl numbers

-- ---- what has a number keeps it

-- the same places, and more lists and parts
pub record KeepRows (old new : States) : Type 0 where
  pub table : new.cache.table ≡ old.cache.table
  pub ruled : new.discipline ≡ old.discipline
  pub lists : KeepPieces old.lists.items.items old.lists.ends.items new.lists.items.items new.lists.ends.items
  pub store : KeepStore old.cache.store new.cache.store

module _ (old new : States) (kept : KeepRows old new) where
  pub list_on : (n : ℕ) (list : PlaceTable → List ℕ) → IsPiece old.lists.items.items old.lists.ends.items n (list old.cache.table) → IsPiece new.lists.items.items new.lists.ends.items n (list new.cache.table)
  list_on n list is =
      subst (λ (t : PlaceTable). IsPiece new.lists.items.items new.lists.ends.items n (list t)) (sym kept.table)
      (piece_on old.lists.items.items old.lists.ends.items new.lists.items.items new.lists.ends.items n (list old.cache.table) kept.lists is)

  pub half_on : (is_first : Bool) (half : ℕ) (row : List ℕ) → HasHalf old is_first half row → HasHalf new is_first half row
  half_on is_first half row h = record { wide = h.wide ∙ ap width_of (sym kept.table); is = list_on half (λ t. half_in t is_first row) h.is }

  -- a half that had its number before
  pub half_before : (is_first : Bool) (half : ℕ) (row : List ℕ) → half < length old.lists.ends.items → HasHalf new is_first half row → HasHalf old is_first half row
  half_before is_first half row lt h = record { wide = h.wide ∙ ap width_of kept.table; is = record { within = lt; is = sym (kept.lists.same half lt) ∙ h.is.is ∙ ap (λ (t : PlaceTable). half_in t is_first row) kept.table } }

pub halved_on : (old new : States) (numbers row : List ℕ) → KeepRows old new → IsHalved old numbers row → IsHalved new numbers row
halved_on old new numbers row kept a =
    record {
      three = a.three;
      statuses = list_on old new kept (number_at numbers 0) (λ t. statuses_in t row) a.statuses;
      first = list_on old new kept (number_at numbers 1) (λ t. half_in t true row) a.first;
      second = list_on old new kept (number_at numbers 2) (λ t. half_in t false row) a.second;
    }

pub part_row_on : (old new : States) (m : Machine) (row : List ℕ) → KeepRows old new → IsPartRow old.cache.store old.cache.table m row → IsPartRow new.cache.store new.cache.table m row
part_row_on old new m row kept is = subst (λ (t : PlaceTable). IsPartRow new.cache.store t m row) (sym kept.table) (row_on old.cache.store new.cache.store old.cache.table m row kept.store is)

pub quiet_on : (r : Tables) (old new : States) (m : Machine) → KeepRows old new → IsQuiet r old m → IsQuiet r new m
quiet_on r old new m kept is = record { own = is.own; quiet = is.quiet; ruled = is.ruled ∙ sym kept.ruled }

pub row_for_on : (r : Tables) (old new : States) (row : List ℕ) (m : Machine) → KeepRows old new → IsRowFor r old row m → IsRowFor r new row m
row_for_on r old new row m kept is = record { it = quiet_on r old new m kept is.it; is = part_row_on old new m row kept is.is }

pub halved_row_on : (old new : States) (numbers : List ℕ) (m : Machine) → KeepRows old new → IsHalvedRow old numbers m → IsHalvedRow new numbers m
halved_row_on old new numbers m kept a = record { row = a.row; halved = halved_on old new numbers a.row kept a.halved; is = part_row_on old new m a.row kept a.is }

-- where only entries and lists are others
pub same_kept : (old new : States) → new.cache ≡ old.cache → new.discipline ≡ old.discipline → KeepPieces old.lists.items.items old.lists.ends.items new.lists.items.items new.lists.ends.items → KeepRows old new
same_kept old new cache ruled lists =
    record {
      table = ap (λ (c : LegCache). c.table) cache;
      ruled = ruled;
      lists = lists;
      store = subst (λ (c : LegCache). KeepStore old.cache.store c.store) (sym cache) (store_same old.cache.store);
    }

-- ---- a machine by its row

pub stated_by : (r : Tables) (old new : States) (row numbers : List ℕ) (m : Machine) → new.cache ≡ old.cache → new.discipline ≡ old.discipline → IsHalved new numbers row → IsRowFor r old row m → IsStated r new numbers m
stated_by r old new row numbers m cache ruled halved is =
    record {
      it = record { own = is.it.own; quiet = is.it.quiet; ruled = is.it.ruled ∙ sym ruled };
      row = record { row = row; halved = halved; is = subst (λ (c : LegCache). IsPartRow c.store c.table m row) (sym cache) is.is };
    }

pub width_is : (kept : States) (m : Machine) (row : List ℕ) → IsPartRow kept.cache.store kept.cache.table m row → length row ≡ width_of kept.cache.table
width_is kept m row is = is.long
