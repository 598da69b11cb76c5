-- The names that many proofs of this crate use, from one place.
pub use Rattle.std.proofs.Common.{List, None, Option, Some, [], ap, arith, below_more, false, get_or, inl, inr, length, map, refl, subst, sym, take, true, ℕ, ◌+◌}
pub use Rattle.std.proofs.Common.{◌<◌, ◌^◌, ◌∙◌, ◌∷◌, ◌≡◌, ◌≤◌}
pub use Rattle.std.proofs.lemmas.Bool.{cases_lt, cases_order, eq-eqb, eqb-true, lt-ltb}
pub use Rattle.std.proofs.lemmas.List.{length-map}
pub use Rattle.std.proofs.lemmas.Option.{slice_get_within}
pub use Rattle.std.specs.List.{AllByRecursion as Each, list_any}
pub use Rattle.std.specs.Prelude.{Contains, nat_eq, nat_lt, not, slice_get, slice_index_or, ◌&&◌, ◌||◌}
pub use Rattle.cp_endless_laws.specs.Fair.{IsServed}
pub use Rattle.cp_endless_laws.specs.Moments.{AnyOf, Moment}
unfoldable pub use Rattle.cp_endless_laws.specs.Moments.{moments, stretch_moments}
pub use Rattle.cp_endless_laws.specs.Reachable.{LeadsTo, node_after}
pub use Rattle.cp_endless_laws.specs.Repeats.{Repeats}
pub use Rattle.cp_endless_laws.specs.Rounds.{spot_after}
pub use Rattle.cp_endless_laws.specs.Settled.{IsClosedSet, IsIn}
pub use Rattle.cp_endless_laws.specs.Silent.{in_call_on_slots, silent_slots, waits_on_slots, without_output}
pub use Rattle.cp_ends.proofs.Searching.Lists.{contains_at, contains_cases, place_of}
pub use Rattle.cp_ends.proofs.named.Keys.{key_self}
pub use Rattle.cp_ends.proofs.words.Edges.{some_same}
unfoldable pub use Rattle.cp_ends.specs.Holds.{same_key}
pub use Rattle.cp_ends.specs.declared.origin.Origin.{Origin}
pub use Rattle.cp_machine.proofs.CallOutcomes.{none_well}
pub use Rattle.cp_machine.proofs.CallerLemmas.{threads_count}
pub use Rattle.cp_machine.proofs.ThreadLemmas.{thread_read}
pub use Rattle.cp_machine.specs.Machine.{thread_of}
pub use Rattle.cp_machine.specs.System.{IsStateOf, Machine, is_pending, is_ready, machine_of, output_of}
pub use Rattle.cp_machine.specs.declared.process.ProcessState.{ProcessState}
pub use Rattle.cp_run.proofs.Tracing.{ok_as as ok_to}
pub use Rattle.cp_run.specs.Run.{Choosing, Halted, Node, those_below}
unfoldable pub use Rattle.cp_run.specs.Run.{chosen, opened, stretch, may}
pub use Rattle.cp_run.specs.Slots.{slots}
pub use Rattle.cp_run.specs.System.{System}
pub use Rattle.cp_run.specs.declared.outcome.Halt.{Halt}
pub use Rattle.cp_run.specs.declared.outcome.Turn.{Turn}
pub use Rattle.cp_run.specs.declared.outcome.Turn.TheVariants.{Due, Goes, Over}
pub use Rattle.cp_slots.specs.Tables.{Tables}
pub use Rattle.cp_waits.specs.Building.{AddsChoicesOnSlots}
pub use Rattle.cp_waits.specs.Graphs.{IsChoice, IsNumber, LetsWait}
pub use Rattle.cp_waits.specs.Keeps.{keeps}
pub use Rattle.cp_ends.specs.Legs.{Leg, choice_leg, first_leg}
pub use Rattle.cp_waits.specs.Legs.{Comes, ComesTo}
pub use Rattle.cp_waits.specs.Lines.{SayWhoWaits}
pub use Rattle.cp_waits.specs.MayWait.{AreLasso, AreLingeringLasso, StandsStillAfter, WaitsForGood}
pub use Rattle.cp_waits.specs.Passings.{Seen}
pub use Rattle.cp_waits.specs.Ranks.{IsRanked, passed_over_in, rank_in}
pub use Rattle.cp_waits.specs.Sets.{has}
pub use Rattle.cp_waits.specs.Traps.{HasTraps, IsStateLed, LeadsToTrap, is_trap_in}
pub use Rattle.cp_waits.specs.Walks.{IsEdge, IsRound, end_edge, first_edge}
pub use Rattle.cp_waits.specs.declared.graph.Edge.{Edge}
pub use Rattle.cp_waits.specs.declared.graph.Graph.{Graph}
pub use Rattle.cp_waits.specs.declared.graph.Standstill.{Standstill}
pub use Rattle.cp_waits.specs.declared.passing.Keeping.TheVariants.{Waiting}
pub use Rattle.cp_waits.specs.declared.passing.PassingSets.{PassingSets}
pub use Rattle.cp_waits.specs.declared.set.Set.{Set}
pub use Rattle.cp_waits.specs.declared.waiting.How.TheVariants.{ForGood}
