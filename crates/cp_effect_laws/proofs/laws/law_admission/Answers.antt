use Rattle.cp_effect_laws.proofs.Walked.{admission_laid}
use Rattle.cp_effect_laws.proofs.laws.law_admission.Goals as goal

pub returns : goal.returns
returns c = admission_laid
