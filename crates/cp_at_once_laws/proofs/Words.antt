-- The names that many proofs of this crate use, from one place.
pub use Rattle.std.proofs.Common.{Bool, Err, List, None, Ok, Option, Some, [], ap, arith, false, if◌then◌else◌, inl, inr, length, length-set, refl, subst, suc, sym, true}
pub use Rattle.std.proofs.Common.{zero, ℕ, ℤ, ◌+◌, ◌<◌, ◌∙◌, ◌∷◌, ◌≡◌, ◌≢◌, ◌≤◌, ◌⊎◌}
pub use Rattle.std.proofs.lemmas.Bool.{cases_eq}
pub use Rattle.std.specs.Prelude.{Contains, map, ◌++◌}
pub use Rattle.cp_tree.specs.Read.{IsRead}
pub use Rattle.cp_tree.specs.Syntax.{Designator, Expressions, Program, Start, Statement, Tree, assign, case_of, for_do, if_else, if_then, invoke, while_do}
pub use Rattle.cp_tree.specs.declared.constant.Identifier.{Identifier}
pub use Rattle.cp_tree.specs.declared.declaration.SystemKind.{SystemKind}
pub use Rattle.cp_tree.specs.declared.statement.Direction.{Direction}
pub use Rattle.cp_meaning.proofs.ComponentTree.{SameTree, kind_at, own_owner}
pub use Rattle.cp_meaning.proofs.Exclusion.{program_kind}
pub use Rattle.cp_meaning.proofs.Frames.{Frame, ItemsFit, at_set, entry_in, frames, initial_in}
pub use Rattle.cp_meaning.proofs.Good.{Good, GoodOutcome, IsMonitor, MoveFits, NoneEntered, StatusMoves, or_cases, or_right, status_at}
pub use Rattle.cp_meaning.proofs.Held.{Bottom, HeldBy, HeldCalls, Known, append_content, held_more, known_set}
pub use Rattle.cp_meaning.proofs.KernelLaw.{begun_process, delayed_told}
pub use Rattle.cp_meaning.proofs.LineLaw.{OrderlyState, some_is}
pub use Rattle.cp_meaning.proofs.LocalLaw.{status_set}
pub use Rattle.cp_meaning.proofs.Orderly.{LineFits, Nobody, Orderly, inside_from, line_at, line_status}
pub use Rattle.cp_meaning.proofs.OwnKernel.{OwnedState, kernel_step_owned, process_found}
pub use Rattle.cp_meaning.proofs.OwnLocal.{Owned, OwnedBy}
pub use Rattle.cp_meaning.proofs.OwnershipLemmas.{both, reached, starts_process}
pub use Rattle.cp_meaning.proofs.Stored.{stored_frames}
pub use Rattle.cp_meaning.specs.Calls.{bound, of_system}
pub use Rattle.cp_meaning.specs.Components.{Path, PathStep, around, components_of, step_down}
pub use Rattle.cp_meaning.specs.Declarations.{Parameter, RoutineMeaning}
pub use Rattle.cp_meaning.specs.Expressions.{first_value, meaning_here, routine_called, target_value, value}
pub use Rattle.cp_meaning.specs.Kernel.{after, enter_event, is_anybody_inside, is_delayed_in, kernel_step, moved_to, process_of, with_process_status}
pub use Rattle.cp_meaning.specs.LocalRules.{takes}
pub use Rattle.cp_meaning.specs.Move.{Doing, Move, continues, delays, ends, enters, leaves, shows, starts, stays}
pub use Rattle.cp_meaning.specs.Names.{Name, result_name, temporary}
pub use Rattle.cp_meaning.specs.Operations.{Typed, checked, same_integer}
pub use Rattle.cp_meaning.specs.Outcome.{ErrorName, Outcome, init_twice, ◌>>=◌}
pub use Rattle.cp_meaning.specs.Ownership.{owner_of}
pub use Rattle.cp_meaning.specs.Places.{Target, View, component_there, component_with, content_of, plain_place, stored, target_named, this_call, value_at}
pub use Rattle.cp_meaning.specs.Places.{with_permanents}
pub use Rattle.cp_meaning.specs.Readings.{is_ready}
pub use Rattle.cp_meaning.specs.Scopes.{Meaning, continue_procedure, delay_procedure, display_procedure, routine_meaning, standard_meaning}
pub use Rattle.cp_meaning.specs.State.{Component, ComponentStatus, Discipline, Environment, Gates, Process, Shown, State, Status, any_gates, book_discipline, component_at, delayed, first_gates}
pub use Rattle.cp_meaning.specs.State.{is_inside, no_component, process_at, ready, unstarted}
pub use Rattle.cp_meaning.specs.Steps.{first_components, opening, own_begun, process_first, processes_from, settled, step_of, view_of}
pub use Rattle.cp_meaning.specs.Systems.{SystemMeaning, system_of}
pub use Rattle.cp_meaning.specs.Types.{Ty, component_of}
pub use Rattle.cp_meaning.specs.Values.{Value, number_of, number_value, queue_value, waiting_in}
pub use Rattle.cp_meaning.specs.WellFormed.{IsWellFormed}
pub use Rattle.cp_meaning_laws.proofs.Accepting.{well_formed}
pub use Rattle.cp_meaning_laws.specs.Accepted.{IsAccepted}
pub use Rattle.cp_slots.specs.Tables.{Tables}
pub use Rattle.cp_layout.specs.Laid.{plain}
unfoldable pub use Rattle.cp_layout.specs.Laid.{laid}
pub use Rattle.cp_resolved.proofs.names.Alike.{same_inside as some_same}
pub use Rattle.cp_resolved.proofs.names.PermanentNames.{left_true as or_left}
pub use Rattle.cp_resolved.specs.Enumerations.{constants_before}
pub use Rattle.cp_resolved.specs.Judging.{tokens_of}
pub use Rattle.cp_machine.specs.Machine.{Machine}
pub use Rattle.cp_machine.specs.declared.event.Event.{Event}
pub use Rattle.cp_machine.specs.declared.event.Event.TheVariants.{Ended, Fault, Kernel, Local, OutputFull}
pub use Rattle.cp_run.specs.Run.{Choosing, Halted, Node, node_at, settled_turn, turn_after, turn_at}
unfoldable pub use Rattle.cp_run.specs.Run.{chosen, may, opened, stretch}
pub use Rattle.cp_run.specs.Slots.{slots}
pub use Rattle.cp_run.specs.System.{System}
pub use Rattle.cp_run.specs.declared.outcome.OutcomeKind.{OutcomeKind}
pub use Rattle.cp_run.specs.declared.outcome.OutcomeKind.TheVariants.{AllWaiting, Finished, OutputLimit, RunError, StepLimit}
pub use Rattle.cp_run.specs.declared.outcome.Turn.{Turn}
pub use Rattle.cp_run.specs.declared.outcome.Turn.TheVariants.{Due, Goes, Over}
pub use Rattle.cp_machine_laws.proofs.Alike.{may_go}
pub use Rattle.cp_machine_laws.proofs.control.Moving.{same_or_other as same_or_not}
pub use Rattle.cp_machine_laws.proofs.expressions.Members.{not_equal as different}
pub use Rattle.cp_machine_laws.proofs.steps.Going.{ready_is as status_told}
pub use Rattle.cp_machine_laws.specs.InStep.{CanGo, GoInStep}
pub use Rattle.cp_machine_laws.specs.Named.{event_of, is_some, named, shown_of}
pub use Rattle.cp_machine_laws.specs.Running.{met_first}
pub use Rattle.cp_endless_laws.proofs.Basics.{distance}
pub use Rattle.cp_endless_laws.proofs.steps.Rounds.{from_there, happens_early, rounds}
pub use Rattle.cp_endless_laws.specs.Moments.{AnyOf, Moment, moments_by}
unfoldable pub use Rattle.cp_endless_laws.specs.Moments.{stretch_moments}
pub use Rattle.cp_endless_laws.specs.Reachable.{EndsAfter}
pub use Rattle.cp_endless_laws.specs.Repeats.{CallsAt, IsKernelCall, Repeats, repeated_part}
pub use Rattle.cp_endless_laws.specs.Rounds.{IsCut, IsRound, SetsOut, spot_after, spot_by}
pub use Rattle.cp_endless_laws.specs.Silent.{named_without_output, silent_slots}
pub use Rattle.cp_at_once_laws.specs.AtOnce.{Comes, Commutes, Fails, GoalStays, Leg, Marks, NobodyReady, OwnGoal, PicksQuiet, QuietLeg, Spins, after_local, after_quiet}
pub use Rattle.cp_at_once_laws.specs.AtOnce.{after_steps, calls, calls_quietly, done, fails, goes, is_call, later_fails, meets}
pub use Rattle.cp_at_once_laws.specs.Found.{ShowsValue}
pub use Rattle.cp_at_once_laws.specs.OnSlots.{by_the_book}
pub use Rattle.cp_at_once_laws.specs.Quiet.{IsQuietStep, IsSomewhere, is_quiet, names}
pub use Rattle.cp_at_once_laws.specs.Search.{ComesOut, GoesRound, SearchesAtOnce}
pub use Rattle.cp_at_once_laws.specs.Through.{FollowsEach, FollowsOne, GoesThrough, HasQuietLeg, IsPlain, IsTurnKnown}
