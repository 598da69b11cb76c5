-- A program and the same without its annotations.
use Rattle.cp_annotation_laws.specs.Annotations.{AnnotationsLaw}
use Rattle.cp_annotation_laws.proofs.annotations.Going.{means_the_same_but}
use Rattle.cp_annotation_laws.proofs.annotations.QuietBodies.{facts_of}

pub annotations_law : AnnotationsLaw
annotations_law t g read ok = means_the_same_but t g read ok (facts_of t read ok)
