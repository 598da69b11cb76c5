-- The machine as the crates above see it.
pub use Rattle.cp_machine.specs.Fits.{IsStateOf}
pub use Rattle.cp_machine.specs.Machine.{Machine, Thread, Monitor, machine_of, is_ready, readiness_of, ready_of, in_line, waiting_of, is_pending, waits, output_of, monitor_at}
pub use Rattle.cp_machine.specs.Opening.{opening, admit_waiting}
pub use Rattle.cp_machine.specs.Statements.{Stepped}
pub use Rattle.cp_machine.specs.Step.{step_at, succeeds, is_local}
