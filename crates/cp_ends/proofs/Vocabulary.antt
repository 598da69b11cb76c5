-- The names that many proofs of this crate use, from one place.
pub use Rattle.std.proofs.Common.{Bool, List, None, Some, [], ap, arith, false, if◌then◌else◌, inl, inr, length, refl, string_bytes, subst, suc, sym, take}
pub use Rattle.std.proofs.Common.{true, zero, ℕ, ◌++◌, ◌+◌, ◌<◌, ◌∙◌, ◌≡◌, ◌≤◌}
pub use Rattle.std.proofs.lemmas.Bool.{cases_lt, le-ltb, lt-ltb}
pub use Rattle.std.proofs.lemmas.List.{append-nil, append_assoc, take_all}
pub use Rattle.std.proofs.lemmas.List.Elements.{All-weaker, Contains-append_cases, Contains-append_left, Contains-append_right}
pub use Rattle.std.proofs.lemmas.Option.{same_Some, slice_get_cases, slice_get_within}
pub use Rattle.std.specs.Cmp.Lexicographic.{bytes_decides}
pub use Rattle.std.specs.List.{AllByRecursion as Each, list_any}
pub use Rattle.std.specs.Prelude.{All, Contains, Decides, IfOk, nat_eq, nat_lt, slice_get, ◌&&◌, ◌==◌, ◌||◌}
pub use Rattle.cp_endless_laws.proofs.Basics.{distance}
pub use Rattle.cp_endless_laws.proofs.possible.Walks.{each_append}
pub use Rattle.cp_endless_laws.proofs.possible.Words.{after_append, after_first}
pub use Rattle.cp_endless_laws.proofs.steps.Repeating.{repeating}
pub use Rattle.cp_endless_laws.proofs.steps.Rounds.{from_there, happens_early}
pub use Rattle.cp_endless_laws.specs.Forgetting.{forgetting_system}
pub use Rattle.cp_endless_laws.specs.Moments.{AnyOf, Moment, moments_by}
unfoldable pub use Rattle.cp_endless_laws.specs.Moments.{stretch_moments}
pub use Rattle.cp_endless_laws.specs.Reachable.{EndsAfter, LeadsTo, node_after}
pub use Rattle.cp_endless_laws.specs.Repeats.{Repeats, repeated_part}
pub use Rattle.cp_endless_laws.specs.Rounds.{SetsOut, chosen_spot, spot_after, spot_by}
pub use Rattle.cp_endless_laws.specs.Shown.{ShowsAfter, shown_at}
pub use Rattle.cp_endless_laws.specs.Silent.{silent_slots, without_output}
unfoldable pub use Rattle.cp_key.specs.Key.{key_of}
pub use Rattle.cp_meaning_laws.specs.Accepted.{IsAccepted}
pub use Rattle.cp_layout.specs.Laid.{plain}
unfoldable pub use Rattle.cp_layout.specs.Laid.{laid}
pub use Rattle.cp_machine.specs.Statements.{Stepped}
pub use Rattle.cp_machine.specs.System.{IsStateOf, Machine, is_pending, is_ready, machine_of, output_of}
pub use Rattle.cp_machine.specs.declared.event.Event.{Event}
pub use Rattle.cp_machine.specs.declared.discipline.Discipline.{Discipline}
pub use Rattle.cp_machine.specs.declared.shown.Shown.{Shown}
pub use Rattle.cp_run.specs.Run.{Choosing, Halted, Node, node_at, settled_turn, those_below, turn_after}
unfoldable pub use Rattle.cp_run.specs.Run.{chosen, opened, may, stretch}
pub use Rattle.cp_run.specs.Slots.{slots}
pub use Rattle.cp_run.specs.System.{System}
pub use Rattle.cp_run.specs.Table.{each}
pub use Rattle.cp_run.specs.declared.outcome.OutcomeKind.{OutcomeKind}
pub use Rattle.cp_run.specs.declared.outcome.OutcomeKind.TheVariants.{StepLimit}
pub use Rattle.cp_run.specs.declared.outcome.Turn.{Turn}
pub use Rattle.cp_run.specs.declared.outcome.Turn.TheVariants.{Due, Goes}
pub use Rattle.cp_slots.specs.Tables.{Tables}
pub use Rattle.cp_tree.specs.Read.{IsRead}
pub use Rattle.cp_tree.specs.Syntax.{Tree}
pub use lib.Pointwise.{pointwise}
pub use Rattle.cp_ends.specs.Answer.{HoldsFew, ends_tests, slot_graph, with_shown}
pub use Rattle.cp_ends.specs.Arrivals.{goal_at, goal_of, has_call, is_call}
unfoldable pub use Rattle.cp_ends.specs.Arrivals.{return_within, stretch_arrival}
pub use Rattle.cp_ends.specs.Ends.{EndsSo, ShowsSo}
pub use Rattle.cp_ends.specs.Firsts.{AreFirstOnes, AreFirsts, Within, is_within}
unfoldable pub use Rattle.cp_ends.specs.Firsts.{is_up_to}
pub use Rattle.cp_ends.specs.Graph.{Arrival, ArrivesAt, End, Goal, Graph, LeadsToEnd, LeadsToPlace, Place, ShowsLast}
pub use Rattle.cp_ends.specs.Holds.{AreFound, Holds, IsWordOf, SlotArrival, SlotFindings, end_origin, value_origin}
unfoldable pub use Rattle.cp_ends.specs.Holds.{same_key}
pub use Rattle.cp_ends.specs.Searched.{Findings, Tests, arrived, gone_on, has, with_first, with_values}
unfoldable pub use Rattle.cp_ends.specs.Searched.{searched}
pub use Rattle.cp_ends.specs.Told.{end_line, is_told}
pub use Rattle.cp_ends.specs.declared.end.End.TheVariants.{Alone, Over, Spins}
pub use Rattle.cp_ends.specs.declared.found.Found.{Found}
pub use Rattle.cp_ends.specs.declared.found.FoundEnd.{FoundEnd}
pub use Rattle.cp_ends.specs.declared.found.FoundValue.{FoundValue}
pub use Rattle.cp_ends.specs.declared.found.TheConstants.{MOST_VALUES}
pub use Rattle.cp_ends.specs.declared.origin.Origin.{Origin}
pub use Rattle.cp_ends.specs.declared.origin.Origin.TheVariants.{Choice}
pub use Rattle.cp_ends.specs.declared.states.States.{States}
