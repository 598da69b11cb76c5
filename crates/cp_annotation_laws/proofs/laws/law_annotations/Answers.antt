use Rattle.cp_annotation_laws.proofs.annotations.Laws.{annotations_law}
use Rattle.cp_annotation_laws.proofs.laws.law_annotations.Goals as goal

pub returns : goal.returns
returns c = annotations_law
