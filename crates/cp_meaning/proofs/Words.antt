-- The names that many proofs of this crate use, from one place.
pub use Rattle.std.specs.Prelude.{List, None, Some, [], codes, false, true, ℕ, ◌∷◌}
pub use Rattle.cp_tree.specs.Syntax.{Expression, Factor, Program, alone, no_factors, no_terms, sum, term}
pub use Rattle.cp_tree.specs.declared.constant.Identifier.{Identifier}
pub use Rattle.cp_tree.specs.declared.declaration.SystemKind.{SystemKind}
pub use Rattle.cp_tree.specs.declared.expression.Addition.TheVariants.{Minus, Or, Plus}
pub use Rattle.cp_tree.specs.declared.expression.Multiplication.TheVariants.{And, Div, Mod}
pub use Rattle.cp_tree.specs.declared.expression.Relation.TheVariants.{Equal, Greater, In}
pub use Rattle.cp_tree.specs.declared.statement.Direction.{Direction}
pub use Rattle.cp_meaning.specs.Calls.{least_of, least_result, with_status}
pub use Rattle.cp_meaning.specs.Components.{Listed, Path, PathStep, components_of, step_down}
pub use Rattle.cp_meaning.specs.Exclusive.{IsExclusive}
pub use Rattle.cp_meaning.specs.Kernel.{Event, after, begun, delay_event, display_event, ended_event, enter_event, fault_event, leave_event, line_of, local_event}
pub use Rattle.cp_meaning.specs.Kernel.{output_full, start_event}
pub use Rattle.cp_meaning.specs.Lifting.{items_of, items_of_all, until_items}
pub use Rattle.cp_meaning.specs.LocalRules.{takes}
pub use Rattle.cp_meaning.specs.Move.{Doing, Move, continues, delays, ends, enters, leaves, shows, starts, stays}
pub use Rattle.cp_meaning.specs.Names.{Name, result_name, same_name}
pub use Rattle.cp_meaning.specs.Outcome.{Outcome, init_twice, no_case, not_init, out_of_range, overflow, zero_divisor, ◌>>=◌}
pub use Rattle.cp_meaning.specs.Ownership.{IsParameterOf, IsStarted, is_parameter, owner_of}
pub use Rattle.cp_meaning.specs.Places.{View, component_there, component_with, content_of, stored, with_call_environment, with_environment, with_environment_of}
pub use Rattle.cp_meaning.specs.Places.{with_permanents}
pub use Rattle.cp_meaning.specs.State.{Component, Content, Discipline, Process, State, any_gates, component_at, book_discipline, by_gates, first_gates, is_inside, knows, process_at, refers}
pub use Rattle.cp_meaning.specs.Steps.{admitted, first_components, opening, step_of}
pub use Rattle.cp_meaning.specs.Systems.{SystemMeaning, system_of}
pub use Rattle.cp_meaning.specs.Values.{Value, number_of, number_value, queue_value, waiting_in}
pub use Rattle.cp_meaning.specs.WellFormed.{HasEarlier, HasNoClass, IsWellFormed}
