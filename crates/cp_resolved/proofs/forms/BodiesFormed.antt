-- A tree that was read and breaks no rule has what the laws on headings and on bodies want of it.
use Rattle.cp_resolved.proofs.Words.{◌≡◌, ℕ, Some, slice_get, slice_get_within, Tree, Layer, IsAccepted, all_begun, IsPlaced, openings_of, numbering_of, IsRead}
use Rattle.cp_resolved.specs.BodiesFormed.{BodiesFormedLaw}
use Rattle.cp_resolved.specs.FormedBodies.{IsFormedAt}
use Rattle.cp_resolved.specs.HeadingsKnow.{HeadingsKnown}
use Rattle.cp_resolved.proofs.declarations.DistinctOfTrees.{accepted_distinct}
use Rattle.cp_resolved.proofs.forms.FormedOfTrees.{formed_law}
use Rattle.cp_resolved.proofs.names.HeadingsKnown.{headings_law}
use Rattle.cp_resolved.proofs.declarations.Placed.{placed_law}
use Rattle.cp_resolved.proofs.names.TreeKnown.{Opens, opens_of}

pub headings_of_accepted : (t : Tree) → IsRead t.program → IsAccepted t → (n : ℕ) (l : Layer) → slice_get (all_begun t) n ≡ Some l → HeadingsKnown t n l
headings_of_accepted t read accepted n l e = headings_law t (placed_law t read accepted) (accepted_distinct t read accepted) n l e

pub bodies_formed : BodiesFormedLaw
bodies_formed t read accepted n l e =
    let place : IsPlaced t = placed_law t read accepted in
    let w : Opens (numbering_of t.program) t place.once (openings_of t.program) n l = opens_of t place n l e in
    let known : HeadingsKnown t n l = headings_of_accepted t read accepted n l e in
    let f : IsFormedAt t n = formed_law t read accepted n (slice_get_within (openings_of t.program) n w.opening w.there) in
    record { headings = known.headings; starts = known.starts; formed = f.formed; calls = f.calls }

-- ---- each has a state in which its statements begin
