-- Tables that stand for an accepted tree have what the law on items inside wants of them.
use Rattle.cp_resolved.proofs.Words.{◌≡◌, ℕ, Some, slice_get, Tree, plain, laid, Layer, Tables, IsAccepted, all_begun, ground_of, BodyFormed, IsFramed, IsPlaced, Stands}
use Rattle.cp_resolved.proofs.Words.{layouts_of, well_formed, CanHold}
use Rattle.cp_resolved.proofs.systems.HandedOfTrees.{entrance_fits}
use Rattle.cp_resolved.proofs.names.HeadingsFit.{heading_fits}
use Rattle.cp_resolved.proofs.names.LeadingNames.{components_lead}

pub can_hold : (t : Tree) (r : Tables) → plain r ≡ laid t → IsAccepted t → IsPlaced t → IsFramed t → ((n : ℕ) (l : Layer) → slice_get (all_begun t) n ≡ Some l → BodyFormed t n l) → Stands (ground_of r t) t (layouts_of t) → CanHold t r
can_hold t r same ok place framed bodies stands =
    record {
      placed = place;
      bodies = bodies;
      headings = λ n lt. heading_fits t r same place framed n lt;
      entrances = λ k le. entrance_fits t r same place.plain framed k le;
      components = λ n lt. components_lead t r same place framed (well_formed t ok) stands n lt;
    }
