-- The names that many proofs of this crate use, from one place.
pub use Rattle.std.proofs.Common.{[], ap, arith, drop, false, if◌then◌else◌, length, refl, sym, true, ◌*◌, ◌++◌, ◌+◌, ◌-◌, ◌<◌, ◌==◌, ◌∙◌, ◌≡◌, ◌≤◌}
pub use Rattle.std.proofs.lemmas.Bool.{lt-ltb}
pub use Rattle.cp_machine.proofs.CallerLemmas.{pending_is, ready_thread, threads_count}
pub use Rattle.cp_machine.specs.System.{IsStateOf, is_pending, is_ready, machine_of}
pub use Rattle.cp_machine.specs.declared.event.Event.{Event}
pub use Rattle.cp_machine.specs.declared.event.Event.TheVariants.{Local}
pub use Rattle.cp_run.specs.Code.{further, node_of}
pub use Rattle.cp_run.specs.Run.{Answer, Choosing, Ended, Halted, Node, Wants, node_at, run, settled_turn, those_below}
unfoldable pub use Rattle.cp_run.specs.Run.{chosen, may, run_from, stretch}
pub use Rattle.cp_run.specs.Run.{turn_after, turn_among, turn_at}
pub use Rattle.cp_run.specs.Slots.{slots}
pub use Rattle.cp_run.specs.System.{System}
pub use Rattle.cp_run.specs.declared.outcome.OutcomeKind.TheVariants.{AllWaiting, Finished}
pub use Rattle.cp_run.specs.declared.outcome.Turn.{Turn}
pub use Rattle.cp_run.specs.declared.outcome.Turn.TheVariants.{Due, Goes, Over}
