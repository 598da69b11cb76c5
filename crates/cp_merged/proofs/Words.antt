-- The names that many proofs of this crate use, from one place.
pub use Rattle.std.proofs.Common.{List, ap, arith, drop, length, map, not, refl, rules, string_bytes, subst, sym, take, ◌++◌, ◌<◌, ◌^◌, ◌∙◌, ◌∷◌, ◌≡◌, ◌≤◌}
pub use Rattle.std.proofs.Math.Nat.{pow-le-pow_right}
pub use Rattle.std.proofs.lemmas.Cmp.{nat_list_eq_equiv}
pub use Rattle.std.proofs.lemmas.List.{append_assoc, length-append, length-map}
pub use Rattle.std.proofs.lemmas.List.Elements.{All-from_recursion, recursion_from_All}
pub use Rattle.std.specs.Cmp.Lexicographic.{slice_cmp}
pub use Rattle.std.specs.List.Sorted.{IsPermutation}
pub use Rattle.std.specs.Map.{lookup}
pub use Rattle.std.specs.Ordering.{is_lt, nat_cmp}
pub use Rattle.std.specs.Prelude.{Contains, nat_eq, sum_by}
pub use Rattle.indexmap.specs.IndexMap.{insert_entry}
pub use Rattle.cp_slots.specs.Tables.{Tables}
pub use Rattle.cp_store.specs.declared.error.ErrorName.{ErrorName}
pub use Rattle.cp_machine.specs.System.{IsStateOf, Machine, machine_of, output_of}
pub use Rattle.cp_machine.specs.declared.discipline.Discipline.{Discipline}
pub use Rattle.cp_machine.specs.declared.shown.Shown.{Shown}
pub use Rattle.cp_machine.specs.declared.state.State.{State}
pub use Rattle.cp_machine.specs.declared.state.TheConstants.{MOST_SHOWN}
pub use Rattle.cp_key.specs.Room.{IsMachineOf}
pub use Rattle.cp_run.specs.Code.{node_of}
pub use Rattle.cp_run.specs.Run.{Choosing, Halted, Node, chosen, joined_below, may, opened, those_below}
pub use Rattle.cp_run.specs.Slots.{processes_of, slots}
pub use Rattle.cp_run.specs.System.{System}
pub use Rattle.cp_run.specs.Table.{Line, each, table}
pub use Rattle.cp_run.specs.declared.outcome.Halt.{Halt}
pub use Rattle.cp_run.specs.declared.outcome.Outcome.{Outcome}
pub use Rattle.cp_run.specs.declared.outcome.OutcomeKind.{OutcomeKind}
pub use Rattle.cp_run.specs.declared.outcome.OutcomeKind.TheVariants.{AllWaiting, ChoiceLimit, Finished}
pub use Rattle.cp_walk.proofs.Walks.{table_walk}
pub use Rattle.cp_walk.specs.Groups.{Tally, tally_text}
pub use Rattle.cp_walk.specs.Report.{outcome_numbers, same_outcome}
pub use Rattle.cp_walk.specs.Walk.{behind}
unfoldable pub use Rattle.cp_walk.specs.Walk.{walk}
pub use Rattle.cp_merged.specs.Code.{end_of, keyed, tally_of}
pub use Rattle.cp_merged.specs.Holds.{AreEnds, AreLeads, AreLeadsTo, Holds, IsStates, counts, same_key, total, words_of}
pub use Rattle.cp_merged.specs.Known.{IsArrival, IsBefore, IsKnown, IsRowFor, KeepKnown, width_of}
pub use Rattle.cp_merged.specs.Layer.{rows_of}
pub use Rattle.cp_merged.specs.Layers.{Front, IsSound, Lead, after_choice, after_choices, after_layer, arrived, at_limit, lesser, up_to, with_lead, with_tally}
unfoldable pub use Rattle.cp_merged.specs.Layers.{by_layers, front_at}
pub use Rattle.cp_merged.specs.Reached.{CanGoOn, Reached}
pub use Rattle.cp_merged.specs.Tallies.{IsExact, IsSameness, Sameness, more, noted, one, tally, tally_onto}
pub use Rattle.cp_merged.specs.Told.{rows_in, told_text}
pub use Rattle.cp_merged.specs.TooMany.{HasTooManyStates, IsDueFault, IsEndWithin, node_after}
pub use Rattle.cp_merged.specs.declared.end_key.EndKey.{EndKey}
pub use Rattle.cp_merged.specs.declared.known.KnownStates.{KnownStates}
