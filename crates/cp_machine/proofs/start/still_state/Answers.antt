use Rattle.cp_machine.proofs.CallOutcomes.{none_well}
use Rattle.cp_machine.proofs.start.still_state.Goals as goal

pub returns-in_err-permanents-clause-still : goal.returns-in_err-permanents-clause-still
returns-in_err-permanents-clause-still c = none_well c.from_residual.result _ _ c.from_residual.ensures.1

pub returns-in_err-permanents-clause-reserved : goal.returns-in_err-permanents-clause-reserved
returns-in_err-permanents-clause-reserved c = none_well c.from_residual.result _ _ c.from_residual.ensures.1

pub returns-in_err-permanents-clause-sound : goal.returns-in_err-permanents-clause-sound
returns-in_err-permanents-clause-sound c = none_well c.from_residual.result _ _ c.from_residual.ensures.1

pub returns-in_err-processes-clause-still : goal.returns-in_err-processes-clause-still
returns-in_err-processes-clause-still c = none_well c.from_residual-in_err-processes.result _ _ c.from_residual-in_err-processes.ensures.1

pub returns-in_err-processes-clause-reserved : goal.returns-in_err-processes-clause-reserved
returns-in_err-processes-clause-reserved c = none_well c.from_residual-in_err-processes.result _ _ c.from_residual-in_err-processes.ensures.1

pub returns-in_err-processes-clause-sound : goal.returns-in_err-processes-clause-sound
returns-in_err-processes-clause-sound c = none_well c.from_residual-in_err-processes.result _ _ c.from_residual-in_err-processes.ensures.1

pub returns-in_err-output-clause-still : goal.returns-in_err-output-clause-still
returns-in_err-output-clause-still c = none_well c.from_residual-in_err-output.result _ _ c.from_residual-in_err-output.ensures.1

pub returns-in_err-output-clause-reserved : goal.returns-in_err-output-clause-reserved
returns-in_err-output-clause-reserved c = none_well c.from_residual-in_err-output.result _ _ c.from_residual-in_err-output.ensures.1

pub returns-in_err-output-clause-sound : goal.returns-in_err-output-clause-sound
returns-in_err-output-clause-sound c = none_well c.from_residual-in_err-output.result _ _ c.from_residual-in_err-output.ensures.1
