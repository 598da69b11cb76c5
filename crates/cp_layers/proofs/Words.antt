-- The names that many proofs of this crate use, from one place.
pub use Rattle.std.proofs.Common.{List, [], arith, length, refl, subst, suc, sym, take, true, ℕ, ◌+◌, ◌≡◌, ◌≤◌}
pub use Rattle.std.specs.Prelude.{Contains}
pub use Rattle.cp_machine.specs.Machine.{Machine}
pub use Rattle.cp_machine.specs.System.{IsStateOf, machine_of}
pub use Rattle.cp_run.proofs.Tracing.{ok_as}
pub use Rattle.cp_run.specs.Run.{Node, those_below}
unfoldable pub use Rattle.cp_run.specs.Run.{chosen, may}
pub use Rattle.cp_run.specs.Slots.{slots}
pub use Rattle.cp_run.specs.System.{System}
pub use Rattle.cp_slots.specs.Tables.{Tables}
pub use Rattle.cp_layers.specs.Adding.{Adds}
pub use Rattle.cp_layers.specs.Layers.{AddsNode, AreReached, FromLayer, FromState, IsLayer}
pub use Rattle.cp_layers.specs.Marking.{Marking}
pub use Rattle.cp_key.specs.declared.state_key.StateKey.{StateKey}
