use Rattle.cp_machine.proofs.CallOutcomes.{none_well}
use Rattle.cp_machine.proofs.state.State.copy.Goals as goal

pub returns-in_err-permanents-clause-same : goal.returns-in_err-permanents-clause-same
returns-in_err-permanents-clause-same c = none_well c.from_residual.result _ _ c.from_residual.ensures.1

pub returns-in_err-permanents-clause-own : goal.returns-in_err-permanents-clause-own
returns-in_err-permanents-clause-own c = none_well c.from_residual.result _ _ c.from_residual.ensures.1

pub returns-in_err-processes-clause-same : goal.returns-in_err-processes-clause-same
returns-in_err-processes-clause-same c = none_well c.from_residual-in_err-processes.result _ _ c.from_residual-in_err-processes.ensures.1

pub returns-in_err-processes-clause-own : goal.returns-in_err-processes-clause-own
returns-in_err-processes-clause-own c = none_well c.from_residual-in_err-processes.result _ _ c.from_residual-in_err-processes.ensures.1

pub returns-in_err-output-clause-same : goal.returns-in_err-output-clause-same
returns-in_err-output-clause-same c = none_well c.from_residual-in_err-output.result _ _ c.from_residual-in_err-output.ensures.1

pub returns-in_err-output-clause-own : goal.returns-in_err-output-clause-own
returns-in_err-output-clause-own c = none_well c.from_residual-in_err-output.result _ _ c.from_residual-in_err-output.ensures.1
