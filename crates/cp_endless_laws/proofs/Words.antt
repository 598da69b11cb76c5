-- The names that many proofs of this crate use, from one place.
pub use Rattle.std.proofs.Common.{List, [], ap, arith, inl, inr, length, refl, subst, suc, sym, zero, ℕ, ⊎_elim, ◌++◌, ◌+◌, ◌<◌, ◌∙◌, ◌∷◌, ◌≡◌, ◌≤◌, ◌⊎◌}
pub use Rattle.std.proofs.lemmas.Bool.{cases_order}
pub use Rattle.std.proofs.lemmas.List.{length-append}
pub use Rattle.std.specs.List.{AllByRecursion as Each}
pub use Rattle.std.specs.Prelude.{Contains, pos, ◌==◌}
pub use Rattle.cp_tree.specs.Syntax.{Program}
pub use Rattle.cp_meaning.specs.State.{State, ready}
pub use Rattle.cp_slots.specs.Tables.{Tables}
pub use Rattle.cp_slots.specs.declared.tables.ComponentKind.{ComponentKind}
pub use Rattle.cp_resolved.proofs.names.Alike.{same_inside as some_same}
pub use Rattle.cp_resolved.specs.Layouts.{Layouts}
pub use Rattle.cp_resolved.specs.Stands.{Ground}
pub use Rattle.cp_store.specs.declared.memory.Frame.{Frame}
pub use Rattle.cp_machine.specs.Machine.{Machine, Thread, thread_at}
pub use Rattle.cp_machine.specs.Stack.{rest_of}
pub use Rattle.cp_machine.specs.Step.{step_at}
pub use Rattle.cp_machine.specs.declared.event.Event.{Event}
pub use Rattle.cp_machine.specs.declared.event.Event.TheVariants.{Kernel, Local, OutputFull}
pub use Rattle.cp_machine.specs.declared.discipline.Discipline.{Discipline}
pub use Rattle.cp_machine.specs.declared.process.Entry.{Entry}
pub use Rattle.cp_machine.specs.declared.shown.Shown.{Shown}
pub use Rattle.cp_machine.specs.declared.state.TheConstants.{MOST_SHOWN}
pub use Rattle.cp_run.specs.Code.{IfGoes}
pub use Rattle.cp_run.specs.Run.{Choosing, Halted, Node, joined_below, node_at, settled_turn, turn_after, turn_at}
unfoldable pub use Rattle.cp_run.specs.Run.{chosen, may, opened, stretch}
pub use Rattle.cp_run.specs.Slots.{slots}
pub use Rattle.cp_run.specs.System.{System}
pub use Rattle.cp_run.specs.Table.{Line, each, lines_of}
unfoldable pub use Rattle.cp_run.specs.Table.{table, words}
pub use Rattle.cp_run.specs.declared.outcome.OutcomeKind.{OutcomeKind}
pub use Rattle.cp_run.specs.declared.outcome.OutcomeKind.TheVariants.{ChoiceLimit, StepLimit}
pub use Rattle.cp_run.specs.declared.outcome.Turn.{Turn}
pub use Rattle.cp_run.specs.declared.outcome.Turn.TheVariants.{Due, Goes, Over}
pub use Rattle.cp_machine_laws.proofs.Alike.{NodesAlike}
pub use Rattle.cp_machine_laws.proofs.Turns.{turn_same}
pub use Rattle.cp_machine_laws.specs.InStep.{CanGo, GoInStep}
pub use Rattle.cp_machine_laws.specs.Named.{named}
pub use Rattle.cp_endless_laws.specs.Fair.{IsEndless, IsFair, IsServed, StaysReady}
pub use Rattle.cp_endless_laws.specs.Forgetting.{forgetting_system}
pub use Rattle.cp_endless_laws.specs.Moments.{AnyOf, Moment, moments_along, moments_by, states_along}
unfoldable pub use Rattle.cp_endless_laws.specs.Moments.{moments, stretch_moments}
pub use Rattle.cp_endless_laws.specs.Reachable.{EndsAfter, IsPossible, IsReachable, LeadsTo, node_after}
pub use Rattle.cp_endless_laws.specs.Rounds.{IsCut, IsRound, SetsOut, chosen_spot, opening_spot, spot_after, spot_by}
pub use Rattle.cp_endless_laws.specs.Settled.{IsClosed, IsIn, IsSettled}
pub use Rattle.cp_endless_laws.specs.Silent.{ShowsLess, waits_on_names, waits_on_slots, without_output}
pub use Rattle.cp_endless_laws.specs.WaitsForEver.{MayWaitForEver, WaitsFrom, WaitsSometime}
