-- What the count of tokens says of the tables of a program that was read, and what rule C20 says of those of an accepted one, as laws.
use Rattle.std.specs.Prelude.{◌≡◌, ℕ, ◌*◌, ◌<◌, ◌≤◌, length}
use Rattle.cp_tree.specs.Syntax.{Tree}
use Rattle.cp_layout.specs.Laid.{plain, laid}
use Rattle.cp_slots.specs.Tables.{Tables, routine_at, system_at}
use Rattle.cp_meaning_laws.specs.Accepted.{IsAccepted}
use Rattle.cp_tree.specs.Read.{IsRead}

-- no more items than tokens, and so the premise `items` of `AreHeld`
abbrev pub FewItemsLaw : Type 0
FewItemsLaw = (t : Tables) (tree : Tree) → plain t ≡ laid tree → IsRead tree.program → length t.items ≤ 20000

-- no more `var` parameters in open calls than tokens, and so `reference_rooms` of `AreHeld` and `references` of `AreWords`
abbrev pub FewReferencesLaw : Type 0
FewReferencesLaw =
    (t : Tables) (tree : Tree) → plain t ≡ laid tree → IsRead tree.program →
    ((number : ℕ) → number < length t.routines → (routine_at t number).reference_room ≤ 20000) × (t.references ≤ 20000)

-- no more cells than each token may stand for
pub record HasFewCells (t : Tables) : Type 0 where
  pub rooms : (number : ℕ) → number < length t.routines → (routine_at t number).room ≤ 8192 * 20000
  pub own : (system : ℕ) → (system_at t system).own ≤ 8192 * 20000
  pub cells : t.cells ≤ 8192 * 20000

-- No type of an accepted program has more than 8,192 cells. So `rooms` of `AreHeld`, `cells` of `IsModest`, and `cells` of `AreWords`.
abbrev pub FewCellsLaw : Type 0
FewCellsLaw = (t : Tables) (tree : Tree) → plain t ≡ laid tree → IsRead tree.program → IsAccepted tree → HasFewCells t
