-- That a tree that was read and breaks no rule has what the laws on headings and on bodies want of it, as laws.
use Rattle.std.specs.Prelude.{◌≡◌, ℕ, Some, slice_get}
use Rattle.cp_tree.specs.Syntax.{Tree}
use Rattle.cp_layout.specs.Layers.{Layer}
use Rattle.cp_meaning_laws.specs.Accepted.{IsAccepted}
use Rattle.cp_resolved.specs.Begun.{all_begun}
use Rattle.cp_resolved.specs.BodiesStand.{BodyFormed}
use Rattle.cp_resolved.specs.Distinct.{IsDistinct}
use Rattle.cp_tree.specs.Read.{IsRead}

abbrev pub DistinctLaw : Type 0
DistinctLaw = (t : Tree) → IsRead t.program → IsAccepted t → IsDistinct t.program

-- of each routine and of each initial statement
abbrev pub BodiesFormedLaw : Type 0
BodiesFormedLaw = (t : Tree) → IsRead t.program → IsAccepted t → (n : ℕ) (l : Layer) → slice_get (all_begun t) n ≡ Some l → BodyFormed t n l
