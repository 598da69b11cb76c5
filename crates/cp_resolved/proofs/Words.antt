-- The names that many proofs of this crate use, from one place.
pub use Rattle.std.proofs.Common.{Bool, Err, List, None, Ok, Option, Some, [], ap, append-nil, append_assoc, arith, false, if◌then◌else◌, inl, inr, length, length-append}
pub use Rattle.std.proofs.Common.{map, max, negsuc, pos, refl, slice_get, subst, suc, sym, true, zero, ℕ, ℤ, ◌&&◌, ◌*◌, ◌++◌, ◌+◌, ◌-◌, ◌<◌, ◌∙◌, ◌∷◌, ◌≡◌, ◌≤◌}
pub use Rattle.std.proofs.Math.Dec.{eqb_refl, leb-zero}
pub use Rattle.std.proofs.Math.Nat.{mul_comm, one-mul}
pub use Rattle.std.proofs.lemmas.Bool.{eq-eqb, eqb-false, eqb-true, le-leb, leb-false, leb-true, ltb-false, ltb-true}
pub use Rattle.std.proofs.lemmas.Bool.Decides.{Decides-eqb}
pub use Rattle.std.proofs.lemmas.List.{length-map}
pub use Rattle.std.proofs.lemmas.Nat.{mul-le}
pub use Rattle.std.proofs.lemmas.Option.{none-some, same_Some, slice_get_within}
pub use Rattle.std.proofs.lemmas.Slice.Eq.{bytes_eq-Decides}
pub use Rattle.std.specs.Option.{option_or}
pub use Rattle.std.specs.Prelude.{codes, int_le, int_lt, min, nat_eq, nat_le, nat_lt, not, slice_index, slice_index_or, unsigned_abs, ◌+ℤ◌, ◌-ℤ◌, ◌||◌, ◌⊎◌}
pub use Rattle.std.specs.Str.{bytes_eq}
pub use Rattle.cp_text.specs.declared.token.Kind.{Kind}
pub use Rattle.cp_text.specs.declared.token.Mark.{Mark}
pub use Rattle.cp_tree.proofs.Grows.{grows_program_part, grows_simple, grows_system_definition}
pub use Rattle.cp_tree.specs.Read.{IsRead}
pub use Rattle.cp_tree.specs.Spelling.{spell}
pub use Rattle.cp_tree.specs.Syntax.{Body, ConstantDefinition, Definition, Designator, Expression, Expressions, Group, ParameterGroup, Part, Program, ProgramPart}
pub use Rattle.cp_tree.specs.Syntax.{Routine, RoutineKind, Selectors, SystemDefinition, Tree, TypeDefinition, VariableGroup, empty, field, index, more_expressions}
pub use Rattle.cp_tree.specs.Syntax.{more_selectors, more_statements, no_expressions, no_selectors, no_statements}
pub use Rattle.cp_tree.specs.declared.constant.Constant.{Constant}
pub use Rattle.cp_tree.specs.declared.constant.ConstantKind.{ConstantKind}
pub use Rattle.cp_tree.specs.declared.constant.Identifier.{Identifier}
pub use Rattle.cp_tree.specs.declared.constant.Sign.{Sign}
pub use Rattle.cp_tree.specs.declared.declaration.SystemKind.{SystemKind}
pub use Rattle.cp_tree.specs.declared.expression.Addition.{Addition}
pub use Rattle.cp_tree.specs.declared.expression.Multiplication.{Multiplication}
pub use Rattle.cp_tree.specs.declared.expression.Relation.{Relation}
pub use Rattle.cp_tree.specs.declared.statement.Direction.{Direction}
pub use Rattle.cp_meaning.specs.Calls.{least_of}
pub use Rattle.cp_meaning.specs.Components.{Listed, Path, listed, listed_elements, listed_variable, listed_variables, step_down}
pub use Rattle.cp_meaning.specs.Declarations.{Block, Heading, Parameter, RoutineMeaning, Variable, constant_of, constants_in, fields_in, group_in, heading_of}
pub use Rattle.cp_meaning.specs.Declarations.{named_variables, names_of, parameters_named, routine_in, simple_in, type_in, type_named, types_in, with_constants}
pub use Rattle.cp_meaning.specs.Declarations.{with_group, with_groups, with_names, with_parameter_groups}
pub use Rattle.cp_meaning.specs.Expressions.{name_of, result_called, routine_called, routine_meant, routine_of_system, routine_of_type, variable_in}
pub use Rattle.cp_meaning.specs.Lifting.{designator_calls, expression_calls, expressions_calls, is_call, is_call_meant, last_field, selectors_calls}
pub use Rattle.cp_meaning.specs.Names.{Name, result_name, same_name, temporary}
pub use Rattle.cp_meaning.specs.Operations.{range_of_base}
pub use Rattle.cp_meaning.specs.Places.{component_with, content_of, result_type, value_held}
pub use Rattle.cp_meaning.specs.Scopes.{Scope, Standard, constant_meaning, continue_procedure, delay_procedure, find, is_seen, local_variable, permanent_variable}
pub use Rattle.cp_meaning.specs.Scopes.{predeclared, routine_meaning, seen_inside, since, standard_meaning, type_meaning}
pub use Rattle.cp_meaning.specs.State.{Item, end, function_call, holds, init_end, return, start_item, statement_item, successor, until}
pub use Rattle.cp_meaning.specs.Steps.{first_component, first_components, parameter_variables}
pub use Rattle.cp_meaning.specs.Systems.{Declared, SystemMeaning, declared, definition_in, definitions_in, or_own, own_meaning, program_part_in, program_system}
pub use Rattle.cp_meaning.specs.Systems.{system_in, system_of, with_routines}
pub use Rattle.cp_meaning.specs.Types.{Base, FieldTypes, Ty, all_characters, all_integers, array_over, component_of, has_components, is_within, length_of_range}
pub use Rattle.cp_meaning.specs.Types.{natural_of, ordinal, range_of}
pub use Rattle.cp_meaning.specs.Values.{least_fields, number_value}
pub use Rattle.cp_scope.specs.Counts.{both_uses, no_use}
pub use Rattle.cp_scope.specs.Judged.{Judged, both, broken, faults, ◌>>=◌}
pub use Rattle.cp_scope.specs.Scopes.{Scopes, Shapes, body_at, body_shape, census, heading_at, is_among, is_declared, new_scope, shape_in, start}
unfoldable pub use Rattle.cp_scope.specs.Scopes.{add, add_around, enter, keep, parameters_in, settle}
pub use Rattle.cp_scope.specs.Types.{agree, is_of, is_ordinal, parameter_of, same_base, values_of, whole}
pub use Rattle.cp_scope.specs.declared.count.Use.{Use}
pub use Rattle.cp_scope.specs.declared.fault.CheckFault.{CheckFault}
pub use Rattle.cp_scope.specs.declared.fault.Rule.{Rule}
pub use Rattle.cp_scope.specs.declared.fault.Rule.TheVariants.{C10, C11, C12, C13, C2, C20, C5, C6, C7, C9}
pub use Rattle.cp_scope.specs.declared.shape.ArrayShape.{ArrayShape}
pub use Rattle.cp_scope.specs.declared.shape.Census.{Census}
pub use Rattle.cp_scope.specs.declared.types.Meaning.{Meaning}
pub use Rattle.cp_scope.specs.declared.types.Predeclared.{Predeclared}
pub use Rattle.cp_scope.specs.declared.types.Range.{Range}
pub use Rattle.cp_scope.specs.declared.types.ValueType.{ValueType}
pub use Rattle.cp_check.specs.Calls.{all_variable_faults, fault, unless, variable_faults}
pub use Rattle.cp_check.specs.Declarations.{meaning_or_none, to_kind, variable_steps}
unfoldable pub use Rattle.cp_check.specs.Declarations.{add_all, add_names, add_one, constant_step, constant_steps, part_steps, reserve_name, reserve_names, type_step}
unfoldable pub use Rattle.cp_check.specs.Declarations.{type_steps}
pub use Rattle.cp_check.specs.Expressions.{is_var_at}
unfoldable pub use Rattle.cp_check.specs.Expressions.{arguments, designator, expression}
pub use Rattle.cp_check.specs.Faults.{program_context}
unfoldable pub use Rattle.cp_check.specs.Faults.{declarations, faults_of}
pub use Rattle.cp_check.specs.Headings.{after_faults, may_enter}
pub use Rattle.cp_check.specs.Operands.{is_assignable, is_function, is_queue, is_queue_in, value}
unfoldable pub use Rattle.cp_check.specs.Routines.{routine_step, routine_steps}
unfoldable pub use Rattle.cp_check.specs.Systems.{definition_step, definition_steps, inside, program_part_step, program_part_steps}
pub use Rattle.cp_check.specs.Types.{Step, Typed, nothing}
unfoldable pub use Rattle.cp_check.specs.Types.{typed}
pub use Rattle.cp_check.specs.declared.case.Label.{Label}
pub use Rattle.cp_check.specs.declared.constant.ConstantNumber.{ConstantNumber}
pub use Rattle.cp_check.specs.declared.operand.Context.{Context}
pub use Rattle.cp_check.specs.declared.operand.Named.{Named}
pub use Rattle.cp_check.specs.declared.operand.Operand.{Operand}
pub use Rattle.cp_check.specs.declared.operand.OperandUse.{OperandUse}
pub use Rattle.cp_check.specs.declared.statement.Target.{Target}
pub use Rattle.cp_check.specs.declared.types.Holding.{Holding}
pub use Rattle.cp_check.specs.declared.types.Spot.{Spot}
pub use Rattle.cp_meaning_laws.proofs.Accepting.{well_formed}
pub use Rattle.cp_meaning_laws.proofs.Classes.{reserved_names, reserved_new}
pub use Rattle.cp_meaning_laws.proofs.Kept.{Keeps, constants_kept, last_is, names_added, parts_kept, system_group_kept, types_kept, variable_kept, written_kept}
pub use Rattle.cp_meaning_laws.proofs.Loud.{Heard, Loud, arguments_loud, statements_loud}
pub use Rattle.cp_meaning_laws.proofs.Once.{declarations_sound, defined_sound, inside_sound, itself, no_first, no_first as none_first, no_left, no_right, none_before, or_left}
pub use Rattle.cp_meaning_laws.proofs.Once.{or_right, parts_sound}
pub use Rattle.cp_meaning_laws.specs.Accepted.{IsAccepted}
pub use Rattle.cp_slots.specs.Code.{Action, Argument, Arm, ComponentPlace, SetExpression, action_seen, item_seen}
pub use Rattle.cp_slots.specs.Fits.{IsSound}
pub use Rattle.cp_slots.specs.Systems.{ActionNames, parameter_count}
pub use Rattle.cp_slots.specs.Tables.{RoutineView, SystemView, Tables, component_at, item_at, no_component, no_item, no_routine, no_system, parameter_at, routine_at}
pub use Rattle.cp_slots.specs.Tables.{system_at}
pub use Rattle.cp_slots.specs.declared.place.PlaceOrigin.{PlaceOrigin}
pub use Rattle.cp_slots.specs.declared.place.PlaceOrigin.TheVariants.{Local, Permanent}
pub use Rattle.cp_slots.specs.declared.tables.Component.{Component}
pub use Rattle.cp_slots.specs.declared.tables.ComponentKind.{ComponentKind}
pub use Rattle.cp_slots.specs.declared.tables.ComponentParameter.{ComponentParameter}
pub use Rattle.cp_slots.specs.declared.tables.Process.{Process}
pub use Rattle.cp_symbols.specs.Kinds.{Compounds, array, most, plus, times}
pub use Rattle.cp_layout.specs.Kinds.{Fields, array_type, as_array, no_fields}
unfoldable pub use Rattle.cp_layout.specs.Kinds.{least}
pub use Rattle.cp_layout.specs.Laid.{PlainTables, no_room, plain, room_for, system_type, system_types, types_of}
unfoldable pub use Rattle.cp_layout.specs.Laid.{laid, room_from, tables_laid}
pub use Rattle.cp_layout.specs.LaidComponents.{Listing, byte, next_kind, empty_listing, process_at, with_component}
unfoldable pub use Rattle.cp_layout.specs.LaidComponents.{add_contained, contents_least, components_of_program}
pub use Rattle.cp_layout.specs.LaidDeclarations.{Parameters, component_cell, definition, enter_system, heading_with, initial_statement, open_routine, program_part, routine}
pub use Rattle.cp_layout.specs.LaidDeclarations.{system_definition, system_groups, with_heading, with_new_frame}
unfoldable pub use Rattle.cp_layout.specs.LaidDeclarations.{constant_groups, heading, program, program_parts, routines, system, system_definitions}
pub use Rattle.cp_layout.specs.LaidExpressions.{as_integer, name_meaning, meaning_of, component_found, component_of_array, count_in, element_of_designated, entry_among, entry_in}
pub use Rattle.cp_layout.specs.LaidExpressions.{entry_of, field_of_designated, with_sign, with_count}
pub use Rattle.cp_layout.specs.LaidStatements.{assign_by_type, initial_in, initial_of}
unfoldable pub use Rattle.cp_layout.specs.LaidStatements.{assign, check_invariants, statement, statements}
pub use Rattle.cp_layout.specs.LaidTypes.{enumeration_base, type_of_name, type_meant, with_constant}
unfoldable pub use Rattle.cp_layout.specs.LaidTypes.{enumerate, field_group, field_groups, fields_of_type, simple_type, written_type}
pub use Rattle.cp_symbols.specs.Symbols.{Noted}
pub use Rattle.cp_layout.specs.Layers.{Frame, Layer, Names, Owned, Pending, System, add_item, again, call_need, find_type, is_open, item_need, need_inside, need_of}
pub use Rattle.cp_layout.specs.Layers.{no_frame, nothing_laid, outermost, own_result, pending_need, result_of, result_slot, routine_of, settle_items, add_items, with_cell}
pub use Rattle.cp_layout.specs.Layers.{with_item, with_room, without_pending}
pub use Rattle.cp_layout.specs.Values.{Value, value_loaded_from, ordinal_of, ordinal_value, place_at, set_value}
pub use Rattle.cp_symbols.specs.declared.kinds.ArrayType.{ArrayType}
pub use Rattle.cp_symbols.specs.declared.kinds.CellBase.{CellBase}
pub use Rattle.cp_symbols.specs.declared.kinds.CellRange.{CellRange}
pub use Rattle.cp_symbols.specs.declared.kinds.CellType.{CellType}
pub use Rattle.cp_layout.specs.declared.layer.Contained.{Contained}
pub use Rattle.cp_layout.specs.declared.layer.Content.{Content}
pub use Rattle.cp_symbols.specs.declared.symbols.FunctionResult.{FunctionResult}
pub use Rattle.cp_symbols.specs.declared.names.LayoutMeaning.{LayoutMeaning}
pub use Rattle.cp_symbols.specs.declared.names.PredeclaredRoutine.{PredeclaredRoutine}
pub use Rattle.cp_resolved.specs.Begun.{all_begun, definition_begun, definitions_begun, initial_begun, parameters_of, part_begun, parts_begun, program_parts_begun}
pub use Rattle.cp_resolved.specs.Begun.{routine_begun, routines_begun, system_begun}
pub use Rattle.cp_resolved.specs.BodiesStand.{BodyFormed, CallsFormed, ground_of}
pub use Rattle.cp_resolved.specs.Calls.{AreApart, IsAmong, IsApart, all_calls_laid, arm_calls_laid, arms_calls_laid, calls_before, calls_laid, starts_calls}
pub use Rattle.cp_resolved.specs.Compiled.{Designated, Form, Formed, a_component, a_variable, as_component, as_ordinal, as_place, as_set, begun_form, component_begun}
pub use Rattle.cp_resolved.specs.Compiled.{designator_form, expression_form, integer_form, is_boolean_base, is_integer_base, loaded_form, place_form, set_form, then_form}
pub use Rattle.cp_resolved.specs.Compiled.{truth_form}
pub use Rattle.cp_resolved.specs.Declared.{AreFew, IsVisible}
pub use Rattle.cp_resolved.specs.Distinct.{AreDistinct, AreValues, IsDistinct, IsDistinctDefinition, IsDistinctPart, IsDistinctRoutine, IsDistinctSystem, IsNoComponent}
pub use Rattle.cp_resolved.specs.Distinct.{IsOther, all_names, groups_names, kind_names, part_names, simple_names, type_names}
pub use Rattle.cp_resolved.specs.Encoded.{Chosen, HasType, encode, field_chosen, further_chosen}
pub use Rattle.cp_resolved.specs.Enumerations.{Enumerated, before_among, constant_names, constants_before, each_in, enumerations_of, in_definition, in_groups, in_part}
pub use Rattle.cp_resolved.specs.Enumerations.{in_program_part, in_routine, in_simple, in_system, in_type, names_among}
pub use Rattle.cp_resolved.specs.Fit.{AreFitDefinitions, AreFitParts, IsFitDefinition, IsFitPart, nothing_declared}
pub use Rattle.cp_resolved.specs.Formed.{HasOrdinal, HasQueue, IsPerformed}
pub use Rattle.cp_resolved.specs.FormedParts.{AreReady, CallFormed, CanGive, CanGiveAll, IsByte, IsMoved, ParametersAre, PassedBy}
pub use Rattle.cp_resolved.specs.FormedStatements.{AllFormed, ArmsFormed, IsTarget, KnowsStarts, StartIs, StatementFormed}
pub use Rattle.cp_resolved.specs.Framed.{AreDeclared, AreDifferent, IsFramed, IsOrdinal, routine_variables, system_variables}
pub use Rattle.cp_resolved.specs.InStep.{AreOuter, BoundIs, CellsAre, FoundIs, InStep, IsInFrame, IsOuter, IsSmall, Numbering, PartsAre, base_of, predeclared_as}
pub use Rattle.cp_resolved.specs.ItemsInside.{CanHold, ItemsInside}
pub use Rattle.cp_resolved.specs.Judging.{AreAgreed, IsAgreed, IsOwn, Place, ScopesAre, definition_places, definitions_places, initial_place, part_places, parts_places}
pub use Rattle.cp_resolved.specs.Judging.{parts_scopes, places_of, routine_place, routine_places, system_places, tokens_of}
pub use Rattle.cp_resolved.specs.Knows.{Knows}
pub use Rattle.cp_resolved.specs.Layouts.{FrameLayout, Here, Layouts, SystemLayout, cell_named, cells_in, cells_of, frame_here, is_named, is_own, is_parameter, look}
pub use Rattle.cp_resolved.specs.Layouts.{slot_of, system_here}
pub use Rattle.cp_resolved.specs.LayoutsKnow.{IsPlaced, KnowsAt, place_of}
pub use Rattle.cp_resolved.specs.Limited.{AreLimited}
pub use Rattle.cp_resolved.specs.Meant.{AreHeld, Assigns, Calls, IsCell, Means}
pub use Rattle.cp_resolved.specs.Names.{AreInStep, IsPlain}
pub use Rattle.cp_resolved.specs.Once.{AreOnce, AreOthers, AreSized, AreWords, IsNoneOf, IsOnce, IsOnceDefinition, IsOncePart, IsSizedMeaning, IsWord}
pub use Rattle.cp_resolved.specs.Openings.{AreOpened, Opening, definition_openings, definitions_openings, initial_opening, meaning_at, meaning_in, numbering_of}
pub use Rattle.cp_resolved.specs.Openings.{openings_of, parts_openings, parts_scope, routine_openings, system_openings, with_routine}
pub use Rattle.cp_resolved.specs.Resolved.{ContainedAt, Stands, StandsAt, SystemParameterIs, SystemParametersAre, first_permanent, initial_meaning}
pub use Rattle.cp_resolved.specs.Small.{AreNumbered, AreParameters, AreSmallGroups, Each, IsParameter, IsSmallConstant, IsSmallDefinition, IsSmallPart, IsSmallProgram}
pub use Rattle.cp_resolved.specs.Small.{IsSmallProgramPart, IsSmallRoutine, IsSmallSimple, IsSmallSystem, IsSmallType}
pub use Rattle.cp_resolved.specs.SmallStatements.{AreSmallArms, AreSmallStatements, IsSmallArm, IsSmallStart, IsSmallStatement}
pub use Rattle.cp_resolved.specs.Soundness.{IsModest, IsOwnCall}
pub use Rattle.cp_resolved.specs.Standing.{IsFit, IsFreeParameter, IsFreeVariable, IsStandingParameter, IsStandingVariable, are_few, are_free, is_bounded, is_element}
pub use Rattle.cp_resolved.specs.Standing.{is_free, is_indexed, is_standing}
pub use Rattle.cp_resolved.specs.Stands.{AreGiven, AssignedBy, BodyIs, CallItem, CalleeIs, GivenBy, Ground, IsCalled, IsGiven, ItemAt, OwnAll, PlaceGiven, ResultGoes, ValueGiven}
pub use Rattle.cp_resolved.specs.Stands.{first_of, result_cell}
pub use Rattle.cp_resolved.specs.Tokens.{all_tokens, groups_tokens, part_tokens, routine_tokens, system_tokens, token_of_type, type_tokens}
pub use Rattle.cp_resolved.specs.TreeLayouts.{begun_at, call_variables, components_among, definition_parts, definitions_parts, first_in, frame_layout, hidden_origin}
pub use Rattle.cp_resolved.specs.TreeLayouts.{initial_or, layer_or, layouts_of, name_in, name_with, origin_in, owner_in, parameters_by, part_parts, parts_at}
pub use Rattle.cp_resolved.specs.TreeLayouts.{program_parts_parts, result_variables, slot_in, whole_laid}
pub use Rattle.cp_resolved.specs.Typed.{AreSmallSelectors, BaseIs, ConstantIs, Expressed, HasForm, HeadingIs, IsHanded, IsMarked, IsSmallExpression, IsSmallFactor}
pub use Rattle.cp_resolved.specs.Typed.{IsSmallSum, IsSmallTerm, IsSystemParameter, IsValueParameter, KindIs, MayStand, RangeIs, ScopesAgree, SystemThere, Tokens, TypeIs}
pub use Rattle.cp_resolved.specs.Typed.{Written, are_plain, is_entry_in, is_plain}
pub use Rattle.cp_resolved.specs.Used.{AreEntry, AreNext, AreUsed, HasResult, IsBare, IsOne, IsUsed, ResultsAre, SelectorsUsed}
pub use Rattle.cp_resolved.specs.Valued.{AreFull, DesignatedIs, FormIs, IsFull, PlaceIs, ValueIs}
