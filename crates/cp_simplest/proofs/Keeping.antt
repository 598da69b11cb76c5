-- The states that are kept stay the program's.
use Rattle.std.proofs.Common.{◌≡◌, ◌++◌, ◌∷◌, ℕ, Bool, true, false, if◌then◌else◌, List, [], All, Some, subst}
use Rattle.std.specs.List.{list_any}
use Rattle.std.proofs.lemmas.List.Elements.{All-get_or, All-push}
use Rattle.std.proofs.lemmas.Option.{get_or_from_slice_get, slice_get_within}
use Rattle.indexmap.specs.IndexSet.{insert_key}
use Rattle.std.specs.Prelude.{slice_get}
use Rattle.cp_slots.specs.Tables.{Tables}
use Rattle.cp_key.specs.declared.state_key.StateKey.{StateKey}
use Rattle.cp_simplest.specs.Own.{IsOwn}

-- the key with a number
pub own_at : (r : Tables) (keys : List StateKey) (number : ℕ) (key : StateKey) → slice_get keys number ≡ Some key → All (IsOwn r) keys → IsOwn r key
own_at r keys number key at own = subst (IsOwn r) (get_or_from_slice_get keys number key key at) (All-get_or (IsOwn r) keys number key (slice_get_within keys number key at) own)

-- where a key is added, if it is new
pub own_more : (r : Tables) (eq : StateKey → StateKey → Bool) (keys : List StateKey) (key : StateKey) → IsOwn r key → All (IsOwn r) keys → All (IsOwn r) (insert_key eq keys key)
own_more r eq keys key own all = by (list_any (eq key) keys)
  where
    by : (b : Bool) → All (IsOwn r) (if b then keys else keys ++ key ∷ [])
    by true = all
    by false = All-push (IsOwn r) keys key all own
