-- The tables of a tree that was read and is accepted stand for it, and are sound, as a law.
use Rattle.std.specs.Prelude.{◌≡◌}
use Rattle.cp_tree.specs.Read.{IsRead}
use Rattle.cp_tree.specs.Syntax.{Tree}
use Rattle.cp_slots.specs.Fits.{IsSound}
use Rattle.cp_layout.specs.Laid.{plain, laid}
use Rattle.cp_slots.specs.Tables.{Tables}
use Rattle.cp_meaning_laws.specs.Accepted.{IsAccepted}
use Rattle.cp_resolved.specs.BodiesStand.{ground_of}
use Rattle.cp_resolved.specs.Enumerations.{constants_before}
use Rattle.cp_resolved.specs.Resolved.{Stands, IsResolved}
use Rattle.cp_resolved.specs.TreeLayouts.{layouts_of}

-- by the layouts of the tree
pub record AreTablesOf (t : Tree) (r : Tables) : Type 0 where
  pub stands : Stands (ground_of r t) t (layouts_of t)
  pub sound : IsSound r

abbrev pub ResolvingLaw : Type 0
ResolvingLaw = (t : Tree) (r : Tables) → IsRead t.program → IsAccepted t → plain r ≡ laid t → AreTablesOf t r

-- ---- what `resolve` answers

-- the tables that are laid out of the tree, and there are layouts by which they stand for it
pub record IsProgramOf (t : Tree) (r : Tables) : Type 0 where
  pub laid : plain r ≡ laid t
  pub resolved : ∥ IsResolved t r (constants_before t.program) ∥₁
