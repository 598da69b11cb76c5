-- The names that many proofs of this crate use, from one place.
pub use Rattle.std.proofs.Common.{Bool, Err, List, None, Ok, Option, Result, Some, [], ap, arith, drop, eqb, false, get_or-set_same, inl, inr, length, map, of_z, refl}
pub use Rattle.std.proofs.Common.{rules, subst, suc, sym, take, to_z, true, w16, zero, ℕ, ◌++◌, ◌+◌, ◌-◌, ◌<◌, ◌∙◌, ◌∷◌, ◌≡◌, ◌≤◌, ◌⊎◌}
pub use Rattle.std.proofs.lemmas.Bool.{cases_eq, cases_lt, false≢true, ltb-true}
pub use Rattle.std.proofs.lemmas.List.{append-nil, append_assoc, get_or-map, length-append, length-map, length-reverse, length-set, map-set, with_items_is}
pub use Rattle.std.specs.List.{IsDistinct, filter, list_any, position_or_len, range_with_len}
pub use Rattle.std.specs.Ordering.{int_eq}
pub use Rattle.std.specs.Prelude.{IfSome, IsTrue, nat_lt, pos, position, replicate, slice_index_or, slice_set, vec_capacity, vec_len, ℤ, ◌&&◌, ◌==◌, ◌||◌}
pub use Rattle.arrayvec.specs.ArrayVec.{array_vec_len}
pub use Rattle.cp_slots.specs.Fits.{ActionFits, CallFits, InnerFits, IsSound, KindFits, ListFits}
pub use Rattle.cp_slots.specs.Inside.{SET_CELLS, action_inside, arguments_inside, binds_from, component_inside, result_inside}
pub use Rattle.cp_slots.specs.Systems.{ActionNames, Hands, HandsOne, IsItself, IsOf, IsTyped, Names, own_of, parameter_count}
pub use Rattle.cp_slots.specs.Tables.{RoutineView, Tables, component_at, item_at, no_process, parameter_at, process_at, routine_at, system_at}
pub use Rattle.cp_slots.specs.declared.item.Action.{Action}
pub use Rattle.cp_slots.specs.declared.item.Action.TheVariants.{Assert, Assign, AssignSet, Block, Call, Case, Continue, Copy, Cycle, Delay, Display, Empty, For, If, Start, Until}
pub use Rattle.cp_slots.specs.declared.item.Action.TheVariants.{While}
pub use Rattle.cp_slots.specs.declared.item.Item.{Item}
pub use Rattle.cp_slots.specs.declared.item.ResolvedArm.{ResolvedArm}
pub use Rattle.cp_slots.specs.declared.place.Argument.{Argument}
pub use Rattle.cp_slots.specs.declared.place.ArgumentValue.{ArgumentValue}
pub use Rattle.cp_slots.specs.declared.place.ComponentPlace.{ComponentPlace}
pub use Rattle.cp_slots.specs.declared.place.OrdinalExpression.{OrdinalExpression}
pub use Rattle.cp_slots.specs.declared.place.Place.{Place}
pub use Rattle.cp_slots.specs.declared.place.PlaceOrigin.{PlaceOrigin}
pub use Rattle.cp_slots.specs.declared.tables.ComponentKind.{ComponentKind}
pub use Rattle.cp_store.proofs.Reaches.{and_left, and_right}
pub use Rattle.cp_store.specs.Arguments.{bindings_after, bind_component, bind_frame, bounds_or, put_in_frame, put_value}
pub use Rattle.cp_store.specs.Inside.{AllFitComponent, Covers, FindsComponent}
pub use Rattle.cp_store.specs.Memory.{Memory, cell_at, memory_of, address_onward, nowhere, onward, put_copy, put_number}
pub use Rattle.cp_store.specs.Places.{address_at, origin_address, reference_at}
pub use Rattle.cp_store.specs.Values.{is_true, check_range, then_with}
pub use Rattle.cp_store.specs.declared.argument.Bound.{Bound}
pub use Rattle.cp_store.specs.declared.error.ErrorName.{ErrorName}
pub use Rattle.cp_store.specs.declared.memory.Address.{Address}
pub use Rattle.cp_store.specs.declared.memory.Address.TheVariants.{Local, Permanent}
pub use Rattle.cp_store.specs.declared.memory.Frame.{Frame}
pub use Rattle.cp_store.specs.declared.set.SetValue.{SetValue}
pub use Rattle.cp_machine.specs.Calls.{call, open_call, call_by, call_in, continue_from, frame_behind, leave_frame, open_frame, start, start_by}
pub use Rattle.cp_machine.specs.Fits.{EntryFits, Follows, FrameFits, HasCallRoom, HasRoom, HaveCells, HaveReferences, HaveStacks, IsBusy}
pub use Rattle.cp_machine.specs.Fits.{IsFirstKnown, IsReserved, IsStateOf, IsTaken, LinesFit, MachineFits, StackFits, ThreadFits, size_of}
pub use Rattle.cp_machine.specs.Kernel.{resume, delay_caller, enter_caller, enter_by, first_in, free, goes_in, let_in, let_in_by, one_in, go_on_inside, waits_in}
pub use Rattle.cp_machine.specs.Machine.{Machine, Monitor, Thread, in_line, is_at_gate, is_delayed_at, is_initialised, is_pending, is_ready, is_ready_status, is_some}
pub use Rattle.cp_machine.specs.Machine.{is_uninitialised, is_unstarted, machine_of, monitor_at, monitor_of, no_monitor, no_thread, phase_at, readiness_of, thread_at}
pub use Rattle.cp_machine.specs.Machine.{thread_of, under, with_bindings, with_output, with_pending, with_permanents, with_phase, with_stack, with_status, with_thread}
pub use Rattle.cp_machine.specs.Memory.{address_of, arguments_of, cells_put, component_of, add_frame, memory_at, number_put, origin_of, parameters_bound, set_of}
pub use Rattle.cp_machine.specs.Memory.{value_of, with_memory}
unfoldable pub use Rattle.cp_machine.specs.Memory.{set_written}
pub use Rattle.cp_machine.specs.Opening.{admit_waiting, admit_at, opening, still, unstarted_thread, without}
pub use Rattle.cp_machine.specs.Reach.{AreBound, CanCall, CanStart, EndsBegun, Executes, ExecutesAs, FitsComponent, FitsNew, FitsOwn, FrameReaches, HasBegunAs, HasCells}
pub use Rattle.cp_machine.specs.Reach.{IsBehind, Reaches, ResultReaches, StackExecutes, StackReaches, ThreadReaches, frame_at}
pub use Rattle.cp_machine.specs.Stack.{above, from_end, is_inner, rest_of, top_first}
pub use Rattle.cp_machine.specs.Statements.{Stepped, arm_for, assign, branch, case_of, fault, gone_on, is_beyond, local, next_turn, next_value, outcome, show, successor_step}
pub use Rattle.cp_machine.specs.Statements.{until, while_do, with_value}
pub use Rattle.cp_machine.specs.Step.{act, is_local, step_at, take_top}
pub use Rattle.cp_machine.specs.declared.event.Event.{Event}
pub use Rattle.cp_machine.specs.declared.event.Event.TheVariants.{Kernel}
pub use Rattle.cp_machine.specs.declared.discipline.Discipline.{Discipline}
pub use Rattle.cp_machine.specs.declared.discipline.Gates.{Gates}
pub use Rattle.cp_machine.specs.declared.discipline.Gates.TheVariants.{Any, First}
pub use Rattle.cp_machine.specs.declared.process.Entry.{Entry}
pub use Rattle.cp_machine.specs.declared.process.Entry.TheVariants.{InitEnd, Rest, Return, Successor}
pub use Rattle.cp_machine.specs.declared.process.ProcessState.{ProcessState}
pub use Rattle.cp_machine.specs.declared.process.Status.{Status}
pub use Rattle.cp_machine.specs.declared.process.Status.TheVariants.{AtGate, Delayed, Ended, Ready, Unstarted}
pub use Rattle.cp_machine.specs.declared.shown.Shown.{Shown}
pub use Rattle.cp_machine.specs.declared.state.Gate.{Gate}
pub use Rattle.cp_machine.specs.declared.state.Phase.{Phase}
pub use Rattle.cp_machine.specs.declared.state.Phase.TheVariants.{Initialised, Initialising, Uninitialised}
pub use Rattle.cp_machine.specs.declared.state.State.{State}
pub use Rattle.cp_machine.specs.declared.state.TheConstants.{MOST_SHOWN}
