use Rattle.std.proofs.Common.{◌∙◌, ap, sym}
use Rattle.std.proofs.lemmas.Bool.{false≢true}
use Rattle.cp_machine.specs.Step.{is_local}
use Rattle.cp_run.specs.Run.{turn_after}
use Rattle.cp_run.specs.Slots.{slots}
use Rattle.cp_stretches.proofs.numbers.StatusNumbers.turn_after.Goals as goal

pub returns-in-Local : goal.returns-in-Local
returns-in-Local c = λ r s m discipline can not. absurd (false≢true (sym not ∙ ap is_local c.in-Local.is))

pub returns-in-Fault : goal.returns-in-Fault
returns-in-Fault c = λ r s m discipline can not. ap (turn_after (slots r discipline) m c.args.process) (sym c.in-Fault.is)

pub returns-in-OutputFull : goal.returns-in-OutputFull
returns-in-OutputFull c = λ r s m discipline can not. ap (turn_after (slots r discipline) m c.args.process) (sym c.in-OutputFull.is)

pub returns-in-Kernel : goal.returns-in-Kernel
returns-in-Kernel c = λ r s m discipline can not. c.turn_at.ensures r s m discipline c.args.process can ∙ ap (turn_after (slots r discipline) m c.args.process) (sym c.in-Kernel.is)
