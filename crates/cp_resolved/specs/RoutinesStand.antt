-- That the routines and initial statements of the tables stand for those of the tree, as a law: frames, items, own results and permanent variables.
use Rattle.std.specs.Prelude.{◌≡◌, ◌<◌, ◌≤◌, ℕ, length, Some, slice_get}
use Rattle.cp_tree.specs.Syntax.{Tree}
use Rattle.cp_symbols.specs.Kinds.{most}
use Rattle.cp_layout.specs.Laid.{plain, laid}
use Rattle.cp_layout.specs.Layers.{Layer}
use Rattle.cp_slots.specs.Tables.{Tables}
use Rattle.cp_resolved.specs.Begun.{all_begun}
use Rattle.cp_resolved.specs.BodiesStand.{ground_of, BodyFormed}
use Rattle.cp_resolved.specs.Framed.{IsFramed}
use Rattle.cp_resolved.specs.LayoutsKnow.{IsPlaced}
use Rattle.cp_resolved.specs.Resolved.{RoutineIs}
use Rattle.cp_resolved.specs.TreeLayouts.{layouts_of}

abbrev pub RoutinesLaw : Type 0
RoutinesLaw =
    (t : Tree) (r : Tables) → plain r ≡ laid t → length r.items ≤ most → IsPlaced t → IsFramed t → ((n : ℕ) (l : Layer) → slice_get (all_begun t) n ≡ Some l → BodyFormed t n l) →
    (n : ℕ) → n < length r.routines → RoutineIs (ground_of r t) t.program (layouts_of t) n
