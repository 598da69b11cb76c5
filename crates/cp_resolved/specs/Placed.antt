-- What was read and breaks no rule has what the laws on layouts and on bodies want of a tree.
use Rattle.cp_tree.specs.Syntax.{Tree}
use Rattle.cp_meaning_laws.specs.Accepted.{IsAccepted}
use Rattle.cp_resolved.specs.LayoutsKnow.{IsPlaced}
use Rattle.cp_tree.specs.Read.{IsRead}

abbrev pub PlacedLaw : Type 0
PlacedLaw = (t : Tree) → IsRead t.program → IsAccepted t → IsPlaced t
