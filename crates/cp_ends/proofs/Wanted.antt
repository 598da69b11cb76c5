-- The numbers that a due choice may take.
pub use Rattle.cp_run.proofs.Choosable.{may_those}
