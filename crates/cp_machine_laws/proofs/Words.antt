-- The names that many proofs of this crate use, from one place.
pub use Rattle.std.proofs.Common.{Bool, List, None, Option, Some, [], ap, append_assoc, arith, false, if◌then◌else◌, inl, inr, length, length-set, refl, subst, suc, sym}
pub use Rattle.std.proofs.Common.{true, zero, ℕ, ◌%◌, ◌*◌, ◌++◌, ◌+◌, ◌/◌, ◌<◌, ◌==◌, ◌^◌, ◌∙◌, ◌∷◌, ◌≡◌, ◌≤◌, ◌⊎◌}
pub use Rattle.std.proofs.Math.Logic.{∥∥₁_elim}
pub use Rattle.std.proofs.Math.Nat.{suc-mul}
pub use Rattle.std.proofs.Props.{props}
pub use Rattle.std.proofs.lemmas.Bool.{cases_lt, eqb-true, le-ltb, lt-ltb, ltb-true}
pub use Rattle.std.proofs.lemmas.Int.{ints}
pub use Rattle.std.proofs.lemmas.List.{get_or-append-add, get_or_append_left, length-append, length-replicate, set-get_or}
pub use Rattle.std.proofs.lemmas.Slice.Eq.{bytes_eq-Decides}
pub use Rattle.std.specs.List.{position_or_len}
pub use Rattle.std.specs.Ordering.{int_eq}
pub use Rattle.std.specs.Prelude.{Err, Ok, Result, int_le, int_lt, map, min, nat_lt, neg_ℤ, negsuc, not, pos, replicate, slice_index, slice_index_or, slice_set}
pub use Rattle.std.specs.Prelude.{unsigned_abs, ℤ, ◌&&◌, ◌+ℤ◌, ◌-ℤ◌, ◌-◌, ◌||◌}
pub use Rattle.std.specs.declared.alloc.Global.{Global}
pub use Rattle.std.specs.declared.vec.Vec.{Vec}
pub use Rattle.cp_tree.specs.Read.{IsRead}
pub use Rattle.cp_tree.specs.Syntax.{Arms, Designator, Expression, Expressions, Program, Routine, Selector, Selectors, Start, Statement, Statements, Tree, arm, assign}
pub use Rattle.cp_tree.specs.Syntax.{block, case_of, cycle, designator, empty, field, for_do, if_else, if_then, index, init, invoke, more_arms, more_expressions}
pub use Rattle.cp_tree.specs.Syntax.{more_selectors, no_arms, no_expressions, no_selectors, repeat_until, while_do}
pub use Rattle.cp_tree.specs.declared.constant.Identifier.{Identifier}
pub use Rattle.cp_tree.specs.declared.constant.Sign.{Sign}
pub use Rattle.cp_tree.specs.declared.declaration.SystemKind.{SystemKind}
pub use Rattle.cp_tree.specs.declared.expression.Addition.{Addition}
pub use Rattle.cp_tree.specs.declared.expression.Addition.TheVariants.{Minus, Or, Plus}
pub use Rattle.cp_tree.specs.declared.expression.Multiplication.{Multiplication}
pub use Rattle.cp_tree.specs.declared.expression.Multiplication.TheVariants.{And, Div, Mod, Times}
pub use Rattle.cp_tree.specs.declared.expression.Relation.{Relation}
pub use Rattle.cp_tree.specs.declared.expression.Relation.TheVariants.{AtLeast, AtMost, Equal, Greater, In, Less, NotEqual}
pub use Rattle.cp_tree.specs.declared.statement.Direction.{Direction}
pub use Rattle.cp_meaning.proofs.Frames.{Descends, ItemsFit as FramesFit, entry-frames, frames}
pub use Rattle.cp_meaning.proofs.Good.{IsMonitor}
pub use Rattle.cp_meaning.proofs.LineLaw.{OrderlyState}
pub use Rattle.cp_meaning.proofs.Held.{nothing_append as content_second}
pub use Rattle.cp_meaning.proofs.OwnershipLemmas.{reached}
pub use Rattle.cp_meaning.specs.Calls.{bound, bound_argument, bound_value, bound_variable, least_of, least_result, refers_to, started_as, started_at, with_items}
pub use Rattle.cp_meaning.specs.Calls.{with_move}
pub use Rattle.cp_meaning.specs.Components.{Listed, Path, PathStep, components_of, same_path, step_down}
pub use Rattle.cp_meaning.specs.Declarations.{Parameter, RoutineMeaning, Variable, routine_in}
pub use Rattle.cp_meaning.specs.Expressions.{chosen, name_of, result_called, routine_called, selected, target_value, value, variable_in, with_element_of, with_field}
pub use Rattle.cp_meaning.specs.Expressions.{with_index, with_member_checked}
pub use Rattle.cp_meaning.specs.Kernel.{Stepped, after, begun, displaying, is_delayed_in, line_of, moved_to, output_room, process_of}
pub use Rattle.cp_meaning.specs.Lifting.{designator_calls, expression_calls, expressions_calls, is_call, items_of, items_of_all, last_field, selector_calls}
pub use Rattle.cp_meaning.specs.Lifting.{selectors_calls, until_items}
pub use Rattle.cp_meaning.specs.LocalRules.{after_return, arm_for, assigned, becomes, continued_from, delayed_in, finished, has_label, in_place_of, invoked, leaving_move}
pub use Rattle.cp_meaning.specs.LocalRules.{queue_free, return_move, takes, with_result}
pub use Rattle.cp_meaning.specs.Move.{Doing, Move, continues, delays, ends, enters, shows, starts, stays}
pub use Rattle.cp_meaning.specs.Names.{Name, result_name, same_name, temporary}
pub use Rattle.cp_meaning.specs.Operations.{Typed, checked, is_true, range_of_base, same_integer, signed_value}
pub use Rattle.cp_meaning.specs.Outcome.{ErrorName, Outcome, init_twice, out_of_range, ◌>>=◌}
pub use Rattle.cp_meaning.specs.Places.{Target, View, call_above, component_there, component_with, content_of, environment_of, plain_place, result_type, stored}
pub use Rattle.cp_meaning.specs.Places.{target_meant, target_named, this_call, this_component, value_at, value_held, with_call_environment, with_choice, with_content}
pub use Rattle.cp_meaning.specs.Places.{with_environment, with_permanents}
pub use Rattle.cp_meaning.specs.Readings.{first_inside, is_ready, monitors_from, monitors_of}
pub use Rattle.cp_meaning.specs.Scopes.{Meaning, Scope, Standard, constant_meaning, continue_procedure, delay_procedure, display_procedure, find, local_variable}
pub use Rattle.cp_meaning.specs.Scopes.{permanent_variable, routine_meaning, since, standard_meaning}
pub use Rattle.cp_meaning.specs.State.{Call, Component, ComponentStatus, Content, Discipline, Environment, Gates, Holder, Item, Place, Process, Shown, State, Status, any_gates, book_discipline}
pub use Rattle.cp_meaning.specs.State.{at_gate, current, delayed, end, ended, entry_routine, first_gates, function_call, has_entry, holds, in_call, in_component}
pub use Rattle.cp_meaning.specs.State.{init_end, initialised, initialising, is_entry_kind, is_inside, knows, no_component, own_statement, process_at, ready, refers}
pub use Rattle.cp_meaning.specs.State.{return, start_item, statement_item, successor, uninitialised, unstarted, until, waits_at}
pub use Rattle.cp_meaning.specs.Steps.{IsReached, admitted, admitted_to, at_designator, at_expression, at_first, at_item, by_admission, by_forgetting, by_step}
pub use Rattle.cp_meaning.specs.Steps.{first_component, first_components, first_environment, line_at, opening, parameter_variables, settled, step_of, view_of}
pub use Rattle.cp_meaning.specs.Systems.{declared, own_meaning, program_system, system_of}
pub use Rattle.cp_meaning.specs.Types.{Base, FieldTypes, Range, Ty, all_booleans, all_characters, all_integers, array_over, booleans, characters, component_of}
pub use Rattle.cp_meaning.specs.Types.{enumerated, has_components, integers, is_within, length_of_range, more_field_types, natural_of, no_field_types, ordinal}
pub use Rattle.cp_meaning.specs.Types.{queue_type, record_with, set_over}
pub use Rattle.cp_meaning.specs.Values.{Choice, Value, array_value, is_member, least, number_of, number_value, part_at, part_of, queue_value, record_value, set_value}
pub use Rattle.cp_meaning.specs.Values.{the_element, the_field, waiting_in, with_part}
pub use Rattle.cp_meaning.specs.WellFormed.{IsWellFormed}
pub use Rattle.cp_meaning_laws.proofs.Accepting.{well_formed}
pub use Rattle.cp_meaning_laws.specs.Accepted.{IsAccepted}
pub use Rattle.cp_slots.specs.Fits.{ActionFits, CallFits, IsSound, RoutineFits}
pub use Rattle.cp_slots.specs.Systems.{ActionNames, Hands, IsItself, IsOf, IsTyped, Names, StartNames}
pub use Rattle.cp_slots.specs.Tables.{Tables, component_at, item_at, routine_at, system_at}
pub use Rattle.cp_slots.specs.declared.item.Action.{Action}
pub use Rattle.cp_slots.specs.declared.place.Argument.{Argument}
pub use Rattle.cp_slots.specs.declared.place.ArgumentValue.{ArgumentValue}
pub use Rattle.cp_slots.specs.declared.place.ComponentPlace.{ComponentPlace}
pub use Rattle.cp_slots.specs.declared.place.ComponentPlace.TheVariants.{Element, Own}
pub use Rattle.cp_slots.specs.declared.place.PlaceOrigin.{PlaceOrigin}
pub use Rattle.cp_slots.specs.declared.place.SetOperation.{SetOperation}
pub use Rattle.cp_slots.specs.declared.place.SetOperation.TheVariants.{Difference, Intersection, Union}
pub use Rattle.cp_slots.specs.declared.tables.ComponentKind.{ComponentKind}
pub use Rattle.cp_layout.specs.Laid.{plain}
unfoldable pub use Rattle.cp_layout.specs.Laid.{laid}
pub use Rattle.cp_resolved.proofs.names.Alike.{same_inside as some_same}
pub use Rattle.cp_resolved.proofs.Resolving.{resolving_law}
pub use Rattle.cp_resolved.proofs.declarations.Placed.{placed_law}
pub use Rattle.cp_resolved.proofs.declarations.StandingParts.{free_part}
pub use Rattle.cp_resolved.proofs.frames.LeastCells.{right_true as second_true}
pub use Rattle.cp_resolved.specs.Compiled.{Designated, Form, Formed, a_component, a_variable, as_component, as_ordinal, as_place, as_set, begun_form, component_begun}
pub use Rattle.cp_resolved.specs.Compiled.{designator_form, expression_form, is_boolean, permanent_begun, place_form, result_begun}
pub use Rattle.cp_resolved.specs.Encoded.{AreMembers, Chosen, HasType, bits_of, chosen_at, encode, field_chosen, flag_of, further_chosen, one_chosen, set_cells}
pub use Rattle.cp_resolved.specs.Encoded.{then_chosen}
pub use Rattle.cp_resolved.specs.Formed.{HasQueue}
pub use Rattle.cp_resolved.specs.Framed.{IsFramed}
pub use Rattle.cp_resolved.specs.Judging.{tokens_of}
pub use Rattle.cp_resolved.specs.Layouts.{FrameLayout, Here, Layouts, SystemLayout, cell_named, cells_of, here, is_own, is_parameter, look}
pub use Rattle.cp_resolved.specs.Openings.{Opening, meaning_at, meaning_in, openings_of}
pub use Rattle.cp_resolved.specs.Resolved.{AreApart, ParameterIs, ParametersAre, RoutineIs, Stands, SystemIs, SystemParametersAre, first_values, initial_meaning}
pub use Rattle.cp_resolved.specs.Resolving.{AreTablesOf}
pub use Rattle.cp_resolved.specs.Small.{Each}
pub use Rattle.cp_resolved.specs.Standing.{IsFit, IsFreeResult, IsStandingVariable, is_free, is_indexed, is_standing}
pub use Rattle.cp_resolved.specs.Stands.{AreGiven, CallItem, CalleeIs, CallsAre, GivenBy, Ground, InvokedBy, IsGiven, ItemAt, QueueItem, ResultGoes, ValueGiven}
pub use Rattle.cp_resolved.specs.Stands.{result_cell}
pub use Rattle.cp_resolved.specs.TreeLayouts.{layouts_of}
pub use Rattle.cp_store.proofs.Reaches.{onward_exact as onward_is}
pub use Rattle.cp_store.specs.Arguments.{bindings_after, evaluate_argument, bind_component, bind_frame, bounds_at}
pub use Rattle.cp_store.specs.Inside.{HasCells}
pub use Rattle.cp_store.specs.Memory.{Memory, cell_at, address_onward, nowhere, onward, put_copy, put_number, stretch}
pub use Rattle.cp_store.specs.Places.{element_offset, load_value, origin_address, reference_at}
pub use Rattle.cp_store.specs.Values.{check_range, then_with}
pub use Rattle.cp_store.specs.declared.argument.Bound.{Bound}
pub use Rattle.cp_store.specs.declared.argument.Bound.TheVariants.{Copy, Reference, Scalar, Set}
pub use Rattle.cp_store.specs.declared.memory.Address.{Address}
pub use Rattle.cp_store.specs.declared.memory.Address.TheVariants.{Local, Permanent}
pub use Rattle.cp_store.specs.declared.memory.Frame.{Frame}
pub use Rattle.cp_store.specs.declared.set.SetValue.{SetValue}
pub use Rattle.cp_machine.specs.Calls.{frame_behind}
pub use Rattle.cp_machine.specs.Fits.{FrameFits, LinesFit, MachineFits, StackFits, ThreadFits, size_of}
pub use Rattle.cp_machine.specs.Machine.{Machine, Monitor, Thread, is_ready_status, is_uninitialised, monitor_at, no_monitor, no_thread, phase_at, thread_at}
pub use Rattle.cp_machine.specs.Machine.{with_bindings, with_phase, with_stack, with_thread}
pub use Rattle.cp_machine.specs.Memory.{address_of, add_frame, memory_at, number_put, value_of, with_memory}
pub use Rattle.cp_machine.specs.Opening.{unstarted_thread}
pub use Rattle.cp_machine.specs.Reach.{Reaches}
pub use Rattle.cp_machine.specs.Stack.{from_end, rest_of}
pub use Rattle.cp_machine.specs.Step.{act, step_at, take_top}
pub use Rattle.cp_machine.specs.declared.event.Event.{Event}
pub use Rattle.cp_machine.specs.declared.discipline.Gates.TheVariants.{Any, First}
pub use Rattle.cp_machine.specs.declared.process.Entry.{Entry}
pub use Rattle.cp_machine.specs.declared.process.Entry.TheVariants.{InitEnd, Rest, Return, Successor}
pub use Rattle.cp_machine.specs.declared.state.Phase.{Phase}
pub use Rattle.cp_machine.specs.declared.state.TheConstants.{MOST_SHOWN}
pub use Rattle.cp_run.proofs.Choosing.{those_same}
pub use Rattle.cp_run.specs.Code.{IfGoes}
pub use Rattle.cp_run.specs.Slots.{slots}
pub use Rattle.cp_run.specs.System.{System}
pub use Rattle.cp_run.specs.declared.outcome.Turn.{Turn}
pub use Rattle.cp_run.specs.declared.outcome.Turn.TheVariants.{Due, Goes, Over}
pub use Rattle.cp_machine_laws.specs.Agrees.{BegunAgrees, DesignatedAgrees, Few, FormAgrees, OrdinalAgrees, PlaceAgrees, Sees, SetAgrees, TargetAgrees}
pub use Rattle.cp_machine_laws.specs.AllKnown.{AllKnown}
pub use Rattle.cp_machine_laws.specs.Bodies.{AllStand, IsAmong, IsAmongArms, IsAmongItems, IsAmongStarts, IsPartOf, IsWithin, ItemStands, OwnStands, inside, listed}
pub use Rattle.cp_machine_laws.specs.ComponentNames.{NamesKnown}
pub use Rattle.cp_machine_laws.specs.Given.{AreBound, AreHanded, BoundsAgree, ComponentAgrees, GivesValue, IsBound, IsHanded, IsOutside, IsValue, Keeps}
pub use Rattle.cp_machine_laws.specs.InStep.{CanEnter, CanGo, GoInStep, LooksAlike}
pub use Rattle.cp_machine_laws.specs.ItemsKnown.{CallIsKnown, InvokeKnown, ItemKnown, QueueKnown, StatementKnown, VariablesGiven}
pub use Rattle.cp_machine_laws.specs.Kinds.{KindsAgree, SameKind}
pub use Rattle.cp_machine_laws.specs.Law.{MeansTheSame, Simulates, ground_of}
pub use Rattle.cp_machine_laws.specs.Named.{discipline_of, error_of, gates_of, named}
pub use Rattle.cp_machine_laws.specs.Parameters.{AreDifferent, HaveTypes, HaveValues, IsOther}
pub use Rattle.cp_machine_laws.specs.PlainValues.{plain_address, plain_indexed, plain_set, plain_value}
pub use Rattle.cp_machine_laws.specs.Prepared.{Prepared}
pub use Rattle.cp_machine_laws.specs.Remaining.{AreKept, IsKept, ItemIs, ItemsAre, calls_before}
pub use Rattle.cp_machine_laws.specs.Represents.{BeginsAt, BlockAt, CallHolds, CallIs, CallsHold, ComponentIs, HasBegun, InFrame, LiesAt, MonitorIs, PendingIs, PhaseIs}
pub use Rattle.cp_machine_laws.specs.Represents.{PlaceAt, ProcessIs, Represents, Runs, StackIs, StatusIs, TurnIs, all_permanents, frame_above, frames_of, further, monitor_left}
pub use Rattle.cp_machine_laws.specs.Represents.{own_memory}
pub use Rattle.cp_machine_laws.specs.RoutinesKnown.{CallsFit, ItemsFit, KindFits, RoutinesKnown, StandsInBodies, Traits, body_of, scope_of}
pub use Rattle.cp_machine_laws.specs.StatesKnown.{AreHandedSo, StateKnown}
