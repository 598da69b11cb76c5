-- A state that becomes one that was found.
use Rattle.std.proofs.Common.{◌≡◌, ◌≤◌, ℕ, List, arith, length, subst, sym}
use Rattle.cp_ends.proofs.Vocabulary.{Tables, Machine, States}
use Rattle.cp_parts.specs.Parts.{IsPartRow}
use Rattle.cp_parts.specs.Taken.{CanTakeAnew}
use Rattle.cp_ends.specs.Holds.{AreStates}
use Rattle.cp_ends.specs.Rows.{IsRowFor, IsStated}
use Rattle.cp_ends.proofs.Keeping.{Stated}

module _ (r : Tables) (kept : States) (states : List Stated) (held : AreStates r kept states) (m : Machine) where
  pub row_short : (row : List ℕ) → IsPartRow kept.cache.store kept.cache.table m row → length row ≤ 97
  row_short row is = omega (arith, is.long, held.cached.placed.processes, held.cached.sound.few, kept.cache.table.few)

  pub can_thaw : {numbers : List ℕ} (row : List ℕ) (is : IsStated r kept numbers m) → row ≡ is.row.row → CanTakeAnew r kept.cache.store kept.cache.table row m
  can_thaw row is same = record { sound = held.cached.sound; placed = held.cached.placed; its = is.it.own; row_is = subst (IsPartRow kept.cache.store kept.cache.table m) (sym same) is.row.is }

  pub row_told : {numbers : List ℕ} (row : List ℕ) (is : IsStated r kept numbers m) → row ≡ is.row.row → IsRowFor r kept row m
  row_told row is same = record { it = is.it; is = subst (IsPartRow kept.cache.store kept.cache.table m) (sym same) is.row.is }
