-- A search that goes on from rows, state by state.
use Rattle.std.proofs.Common.{◌≡◌, ◌∙◌, ℕ, List, [], length, map, refl, subst, sym}
use Rattle.cp_ends.proofs.Vocabulary.{Some, ends_tests, searched, slice_get, Tables, Machine, Discipline, Found, HoldsFew, Holds, IsStateOf, SlotFindings, States, Choice, Graph, Shown, machine_of, output_of, slot_graph, those_below}
use Rattle.cp_key.proofs.Owned.{machine_own}
use Rattle.cp_machine.specs.declared.state.State.{State}
use Rattle.cp_states.specs.Pieces.{KeepPieces}
use Rattle.cp_parts.specs.Parts.{IsPartRow}
use Rattle.cp_parts.proofs.Pieces.{pieces_same}
use Rattle.cp_run.specs.declared.outcome.Halt.{Halt}
use Rattle.cp_run.specs.declared.outcome.Halt.TheVariants as halt
use Rattle.cp_stretches.specs.Cached.{IsCache, StandsFor}
use Rattle.cp_stretches.specs.declared.cache.LegCache.{LegCache}
use Rattle.cp_ends.specs.Answer.{Arrives}
use Rattle.cp_ends.specs.Arrivals.{goal_at}
use Rattle.cp_ends.specs.ByRows.{GoesAsTold, HasRoom, IsWithinRow, KeepFound, Seeing}
use Rattle.cp_ends.specs.Halves.{width_of}
use Rattle.cp_ends.specs.Holds.{AreFound, AreStates, IsBefore, IsWordOf, SlotArrival, end_origin, value_origin}
use Rattle.cp_ends.specs.Rows.{IsHalved, IsRowFor, IsStated}
use Rattle.cp_ends.specs.declared.end.End.{End}
use Rattle.cp_ends.specs.declared.found.Arrived.{Arrived}
use Rattle.cp_ends.specs.declared.row.StateRow.{StateRow}
use Rattle.cp_ends.specs.declared.rows.RowSearch.{RowSearch}
use Rattle.cp_ends.proofs.GoingOn.{Takes, state_within}
use Rattle.cp_ends.proofs.Halves.{KeepRows, halved_on, row_for_on, same_kept}
use Rattle.cp_ends.proofs.Rowwise.{stands_for}

module _ {W : Type 0} (looks : W → Tables → Machine → Type 0) (r : Tables) (discipline : Discipline) (steps most : ℕ) where
  abbrev graph : Graph Machine End Shown
  graph = slot_graph r discipline steps

  -- a state that is expanded next
  pub begins_at : (s : RowSearch W) (from : StateRow W) (n : ℕ) → HasRoom discipline s → HoldsFew r most s.found (searched graph ends_tests n) →
      (x : Machine × List ℕ) × (slice_get (searched graph ends_tests n).states n ≡ Some x) × IsRowFor r s.found.states from.row.items x.0 × IsHalved s.found.states from.numbers.numbers from.row.items × looks from.seen r x.0 → (m : Machine) × IsWithinRow looks r discipline steps most s from n m []
  begins_at s from n room holds x = (x.0.0, record { room = room; row_is = x.2.is; halved = x.3; look = x.4; within = record { from = x.0; is = x.1; here = refl; quiet = x.2.it.quiet; holds = holds } })

  -- the row of the state that is expanded
  pub row_of_within : (s : RowSearch W) (from : StateRow W) (at : ℕ) (m : Machine) (done : List ℕ) → IsWithinRow looks r discipline steps most s from at m done → IsRowFor r s.found.states from.row.items m
  row_of_within s from at m done h = record { it = state_within r graph most s.found at m done h.within; is = h.row_is }

  -- it is what the legs that are known want
  pub stands_within : (s : RowSearch W) (from : StateRow W) (at : ℕ) (m : Machine) (done : List ℕ) → IsWithinRow looks r discipline steps most s from at m done → StandsFor r discipline s.found.states.cache.store s.found.states.cache.table m from.row.items
  stands_within s from at m done h = subst (λ (d : Discipline). StandsFor r d s.found.states.cache.store s.found.states.cache.table m from.row.items) h.room.ruled (stands_for r s.found.states from.row.items m (row_of_within s from at m done h))

  pub cache_within : (s : RowSearch W) (from : StateRow W) (at : ℕ) (m : Machine) (done : List ℕ) → IsWithinRow looks r discipline steps most s from at m done → IsCache r discipline s.found.states.cache
  cache_within s from at m done h = subst (λ (d : Discipline). IsCache r d s.found.states.cache) h.room.ruled h.within.holds.holds.states.cached

  -- where a choice leads, its arrival is that of the graph
  pub takes_so : (sees : Seeing W) (old mid : RowSearch W) (new : Found) (from : StateRow W) (at : ℕ) (m : Machine) (p : ℕ) (within : IsWithinRow looks r discipline steps most old from at m (those_below p (graph.may m))) (h : Halt End) (b : Arrived) → KeepFound r old.found mid.found → GoesAsTold sees r discipline steps m p h (IsStated r mid.found.states mid.next.numbers) mid.told →
      ((f : SlotFindings) (word : List ℕ) (a : SlotArrival) (k : Machine) → HoldsFew r most mid.found f → IsWordOf f.states (Choice at p) word → IsBefore (length f.states) (Choice at p) → (h ≡ halt.Choice → IsStated r mid.found.states mid.next.numbers k) → goal_at h k ≡ a.goal → mid.told.values.items ≡ a.shown → Arrives r most new f word a b) →
      Takes r graph most old.found new at m p within.within b
  takes_so sees old mid new from at m p within h b kept goes on f word few is before =
      on f word (graph.on m p) goes.goes.after (record { holds = kept.holds f few.holds; few = few.few }) is before goes.goes.is goes.goes.goal goes.goes.shown

  -- where only more is found
  pub room_kept : (s : RowSearch W) (found : Found) → found.states.cache ≡ s.found.states.cache → found.states.discipline ≡ s.found.states.discipline → HasRoom discipline s → HasRoom discipline (record s { found = found })
  room_kept s found cache ruled room = record { ruled = ruled ∙ room.ruled; row = subst (λ (c : LegCache). length s.row.items ≡ width_of c.table) (sym cache) room.row }

  pub row_kept : (s : RowSearch W) (found : Found) (row : List ℕ) (m : Machine) → found.states.cache ≡ s.found.states.cache → IsRowFor r s.found.states row m → IsPartRow found.states.cache.store found.states.cache.table m row
  row_kept s found row m cache is = subst (λ (c : LegCache). IsPartRow c.store c.table m row) (sym cache) is.is

  pub halved_kept : (s : RowSearch W) (found : Found) (numbers row : List ℕ) → found.states.cache ≡ s.found.states.cache → found.states.discipline ≡ s.found.states.discipline → found.states.lists ≡ s.found.states.lists → IsHalved s.found.states numbers row → IsHalved found.states numbers row
  halved_kept s found numbers row cache ruled lists h =
      let old = s.found.states.lists in
      halved_on s.found.states found.states numbers row (same_kept s.found.states found.states cache ruled (subst (λ x. KeepPieces old.items.items old.ends.items x.items.items x.ends.items) (sym lists) (pieces_same old.items.items old.ends.items))) h

-- ---- what was found stays

pub kept_found : (r : Tables) (old new : Found) → KeepRows old.states new.states → ((states : List (Machine × List ℕ)) → AreStates r old.states states → AreStates r new.states states) → new.ends ≡ old.ends → new.values ≡ old.values → KeepFound r old new
kept_found r old new keep states ends values =
    record {
      holds = λ f h. record { states = states f.states h.states; ends = subst (λ es. AreFound f.states (map end_origin es.items) f.ends) (sym ends) h.ends; values = subst (λ vs. AreFound f.states (map value_origin vs.items) f.values) (sym values) h.values };
      rows = λ row m is. row_for_on r old.states new.states row m keep is;
      halved = λ numbers row is. halved_on old.states new.states numbers row keep is;
    }

-- with the same legs and parts
pub same_row_for : (r : Tables) (old new : States) (row : List ℕ) (m : Machine) → new.cache ≡ old.cache → new.discipline ≡ old.discipline → IsRowFor r old row m → IsRowFor r new row m
same_row_for r old new row m cache ruled is =
    record {
      it = record { own = is.it.own; quiet = is.it.quiet; ruled = is.it.ruled ∙ sym ruled };
      is = subst (λ (c : LegCache). IsPartRow c.store c.table m row) (sym cache) is.is;
    }

pub kept_both : (r : Tables) (a b c : Found) → KeepFound r a b → KeepFound r b c → KeepFound r a c
kept_both r a b c x y = record { holds = λ f h. y.holds f (x.holds f h); rows = λ row m is. y.rows row m (x.rows row m is); halved = λ numbers row is. y.halved numbers row (x.halved numbers row is) }

-- ---- a state by its row

pub row_stands : (r : Tables) (found : Found) (state : State) (row slice : List ℕ) → slice ≡ row → IsStateOf r state → output_of (machine_of state) ≡ [] → (machine_of state).discipline ≡ found.states.discipline → IsPartRow found.states.cache.store found.states.cache.table (machine_of state) row → IsRowFor r found.states slice (machine_of state)
row_stands r found state row slice e own quiet ruled is = record { it = record { own = machine_own r state own; quiet = quiet; ruled = ruled }; is = subst (IsPartRow found.states.cache.store found.states.cache.table (machine_of state)) (sym e) is }
