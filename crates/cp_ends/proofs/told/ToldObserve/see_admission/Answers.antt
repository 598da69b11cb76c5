use Rattle.std.proofs.Common.{ap, ◌∙◌}
use Rattle.cp_machine.specs.System.{machine_of, output_of}
use Rattle.cp_ends.proofs.Moving.{quiet_admitted}
use Rattle.cp_ends.proofs.told.ToldObserve.see_admission.Goals as goal

pub returns : goal.returns
returns g c = λ before x at h. (h.0, h.1, ap output_of at ∙ quiet_admitted before c.args._process ∙ h.2, h.3)
