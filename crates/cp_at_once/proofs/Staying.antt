-- What is known stays known where more is.
use Rattle.std.proofs.Common.{◌≡◌, ◌∙◌, ℕ, List, [], ap, length, refl, sym, subst}
use Rattle.cp_key.proofs.Owned.{machine_own}
use Rattle.cp_slots.specs.Tables.{Tables}
use Rattle.cp_machine.specs.declared.discipline.Discipline.{Discipline}
use Rattle.cp_machine.specs.declared.state.State.{State}
use Rattle.cp_machine.specs.System.{IsStateOf, Machine, machine_of, output_of}
use Rattle.cp_parts.proofs.Pieces.{pieces_same}
use Rattle.cp_parts.specs.Parts.{IsPartRow, KeepStore as KeepParts}
use Rattle.cp_stretches.specs.Cached.{IsCache, IsStanding}
use Rattle.cp_stretches.specs.declared.cache.LegCache.{LegCache}
use Rattle.cp_stretches.specs.declared.cache.Standing.{Standing}
use Rattle.cp_ends.specs.Holds.{AreStates}
use Rattle.cp_ends.specs.Rows.{IsHalved, IsRowFor}
use Rattle.cp_ends.specs.declared.states.States.{States}
use Rattle.cp_ends.proofs.Halves.{KeepRows, halved_on, row_for_on}
use Rattle.cp_ends.proofs.Keeping.{states_on}
use Rattle.cp_ends.specs.Halves.{width_of}
use Rattle.std.specs.declared.alloc.Global.{Global}
use Rattle.std.specs.declared.vec.Vec.{Vec}
use Rattle.cp_at_once.specs.ByRows.{HasRoom, KeepStore}
use Rattle.cp_at_once.specs.declared.kept.Kept.{Kept}
use Rattle.cp_at_once.specs.declared.search.SearchAtOnce.{SearchAtOnce}

pub stays_same : (r : Tables) (s : States) → KeepStore r s s
stays_same r s = record { known = λ h. h; rows = λ row m is. is; halved = λ numbers row is. is; table = refl; ruled = refl }

pub stays_on : (r : Tables) (a b c : States) → KeepStore r a b → KeepStore r b c → KeepStore r a c
stays_on r a b c x y =
    record { known = λ h. y.known (x.known h); rows = λ row m is. y.rows row m (x.rows row m is); halved = λ numbers row is. y.halved numbers row (x.halved numbers row is); table = y.table ∙ x.table; ruled = y.ruled ∙ x.ruled }

-- by what is kept of rows
pub stays_by : (r : Tables) (a b : States) → KeepRows a b → (AreStates r a [] → AreStates r b []) → KeepStore r a b
stays_by r a b keep known = record { known = known; rows = λ row m is. row_for_on r a b row m keep is; halved = λ numbers row is. halved_on a b numbers row keep is; table = keep.table; ruled = keep.ruled }

-- with other legs, or another state in the room for one
pub stays_with : (r : Tables) (a : States) (cache : LegCache) (standing : Standing) → cache.table ≡ a.cache.table → KeepParts a.cache.store cache.store → (AreStates r a [] → IsCache r a.discipline cache) → (AreStates r a [] → IsStanding r cache.store cache.table standing) → KeepStore r a (record a { cache = cache; standing = standing })
stays_with r a cache standing table store cached stands =
    let keep : KeepRows a (record a { cache = cache; standing = standing }) = record { table = table; ruled = refl; lists = pieces_same a.lists.items.items a.lists.ends.items; store = store } in
    stays_by r a (record a { cache = cache; standing = standing }) keep (λ h. states_on r a (record a { cache = cache; standing = standing }) [] refl refl refl keep (cached h) (stands h) h)

-- a state by its row
pub row_stands : (r : Tables) (s : States) (state : State) (row : List ℕ) → IsStateOf r state → output_of (machine_of state) ≡ [] → (machine_of state).discipline ≡ s.discipline → IsPartRow s.cache.store s.cache.table (machine_of state) row → IsRowFor r s row (machine_of state)
row_stands r s state row own quiet ruled is = record { it = record { own = machine_own r state own; quiet = quiet; ruled = ruled }; is = is }

-- with more lists
pub stays_halved : (r : Tables) (a b : States) → b.cache ≡ a.cache → b.discipline ≡ a.discipline → (AreStates r a [] → AreStates r b []) → ((numbers row : List ℕ) → IsHalved a numbers row → IsHalved b numbers row) → KeepStore r a b
stays_halved r a b cache ruled known lists =
    record {
      known = known;
      rows = λ row m is. record { it = record { own = is.it.own; quiet = is.it.quiet; ruled = is.it.ruled ∙ sym ruled }; is = subst (λ (c : LegCache). IsPartRow c.store c.table m row) (sym cache) is.is };
      halved = lists;
      table = ap (λ (c : LegCache). c.table) cache;
      ruled = ruled;
    }

-- ---- where findings are noted, rows and legs stay

abbrev pub StaysBeside : SearchAtOnce → SearchAtOnce → Type 0
StaysBeside s t = (t.row ≡ s.row) × (t.from ≡ s.from) × (t.told ≡ s.told) × (t.found.kept ≡ s.found.kept)

module _ (r : Tables) (discipline : Discipline) (s t : SearchAtOnce) (same : StaysBeside s t) where
  pub room_beside : HasRoom discipline s → HasRoom discipline t
  room_beside room =
      let table = ap (λ (k : Kept). width_of k.store.cache.table) (sym same.3) in
      record { ruled = ap (λ (k : Kept). k.store.discipline) same.3 ∙ room.ruled; row = ap (λ (v : Vec ℕ Global). length v.items) same.0 ∙ room.row ∙ table; from = ap (λ (v : Vec ℕ Global). length v.items) same.1 ∙ room.from ∙ table }

  pub known_beside : AreStates r s.found.kept.store [] → AreStates r t.found.kept.store []
  known_beside h = subst (λ (k : Kept). AreStates r k.store []) (sym same.3) h

  pub row_beside : (m : Machine) → IsRowFor r s.found.kept.store s.row.items m → IsRowFor r t.found.kept.store t.row.items m
  row_beside m is = subst (λ (k : Kept). IsRowFor r k.store t.row.items m) (sym same.3) (subst (λ (v : Vec ℕ Global). IsRowFor r s.found.kept.store v.items m) (sym same.0) is)

  pub store_beside : KeepStore r s.found.kept.store t.found.kept.store
  store_beside = subst (λ (k : Kept). KeepStore r s.found.kept.store k.store) (sym same.3) (stays_same r s.found.kept.store)
