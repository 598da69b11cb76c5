-- The layouts of a tree know the headings of routines and of initial statements where the statements of each begin, as a law.
use Rattle.std.specs.Prelude.{◌≡◌, ℕ, Some, slice_get}
use Rattle.cp_tree.specs.Syntax.{Tree}
use Rattle.cp_layout.specs.Layers.{Layer}
use Rattle.cp_resolved.specs.Begun.{all_begun}
use Rattle.cp_resolved.specs.Distinct.{IsDistinct}
use Rattle.cp_resolved.specs.FormedParts.{KnowsHeadings}
use Rattle.cp_resolved.specs.FormedStatements.{KnowsStarts}
use Rattle.cp_resolved.specs.LayoutsKnow.{IsPlaced, place_of}
use Rattle.cp_resolved.specs.Openings.{numbering_of}

-- as `BodyFormed` wants it: of the routines and of the components that are named in routine n, whatever it names
pub record HeadingsKnown (t : Tree) (n : ℕ) (l : Layer) : Type 0 where
  pub headings : KnowsHeadings (numbering_of t.program) (place_of t n) l
  pub starts : KnowsStarts (numbering_of t.program) (place_of t n) l

abbrev pub HeadingsLaw : Type 0
HeadingsLaw = (t : Tree) → IsPlaced t → IsDistinct t.program → (n : ℕ) (l : Layer) → slice_get (all_begun t) n ≡ Some l → HeadingsKnown t n l
