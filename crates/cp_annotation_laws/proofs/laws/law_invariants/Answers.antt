use Rattle.cp_annotation_laws.proofs.invariants.OfTree.{invariants_law}
use Rattle.cp_annotation_laws.proofs.laws.law_invariants.Goals as goal

pub returns : goal.returns
returns c = invariants_law
