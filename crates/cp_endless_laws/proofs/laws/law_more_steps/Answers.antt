use Rattle.cp_endless_laws.proofs.steps.MoreSteps.{more_steps, more_steps_rounds}
use Rattle.cp_endless_laws.proofs.steps.Tables.{more_steps_tables}
use Rattle.cp_endless_laws.proofs.laws.law_more_steps.Goals as goal

pub returns-clause-machine : goal.returns-clause-machine
returns-clause-machine c = λ sys. more_steps sys

pub returns-clause-meaning : goal.returns-clause-meaning
returns-clause-meaning c = λ sys. more_steps sys

pub returns-clause-machine_rounds : goal.returns-clause-machine_rounds
returns-clause-machine_rounds c = λ sys. more_steps_rounds sys

pub returns-clause-meaning_rounds : goal.returns-clause-meaning_rounds
returns-clause-meaning_rounds c = λ sys. more_steps_rounds sys

pub returns-clause-machine_tables : goal.returns-clause-machine_tables
returns-clause-machine_tables c = λ sys. more_steps_tables sys

pub returns-clause-meaning_tables : goal.returns-clause-meaning_tables
returns-clause-meaning_tables c = λ sys. more_steps_tables sys
