-- That no routine calls itself, as a law: one of the premises under which tables are sound.
use Rattle.std.specs.Prelude.{◌≡◌, ℕ, ◌<◌, length}
use Rattle.cp_tree.specs.Read.{IsRead}
use Rattle.cp_tree.specs.Syntax.{Tree}
use Rattle.cp_layout.specs.Laid.{plain, laid}
use Rattle.cp_slots.specs.Tables.{Tables, item_at}
use Rattle.cp_meaning_laws.specs.Accepted.{IsAccepted}
use Rattle.cp_resolved.specs.Soundness.{IsOwnCall}

-- The premise `calls` of `NamesHold`, by rule C10. No routine is called as that of invariants is, since it was read.
abbrev pub OwnCallsLaw : Type 0
OwnCallsLaw = (t : Tables) (tree : Tree) → plain t ≡ laid tree → IsRead tree.program → IsAccepted tree → (at : ℕ) → at < length t.items → IsOwnCall (item_at t at).routine (item_at t at).action → ⊥
