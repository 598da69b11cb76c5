-- The names that many proofs of this crate use, from one place.
pub use Rattle.std.proofs.Common.{All, List, Some, [], ap, arith, drop, flat_map, length, map, refl, string_bytes, subst, sym, take, ℕ, ◌*◌, ◌++◌, ◌+◌, ◌-◌}
pub use Rattle.std.proofs.Common.{◌<◌, ◌∙◌, ◌∷◌, ◌≡◌, ◌≤◌}
pub use Rattle.std.proofs.lemmas.Bool.{eq-eqb, eqb-true, le-ltb, lt-ltb, ltb-true, ne_eqb}
pub use Rattle.std.proofs.lemmas.List.{append_assoc, get_or-map, length-append, length-map, length-take, map-append, take_all}
pub use Rattle.std.specs.List.{list_any, range_with_len}
pub use Rattle.std.specs.Map.{lookup}
pub use Rattle.std.specs.Prelude.{nat_eq}
pub use Rattle.arrayvec.specs.ArrayVec.{ArrayVec}
pub use Rattle.cp_board.specs.Seats.{IsSeatOf, view_of}
pub use Rattle.cp_board.specs.declared.views.View.{View}
pub use Rattle.cp_machine.specs.System.{IsStateOf, machine_of}
pub use Rattle.cp_machine.specs.declared.shown.Shown.{Shown}
pub use Rattle.cp_run.specs.Code.{node_of}
pub use Rattle.cp_run.specs.Run.{Answer, Choosing, Ended, Halted, Node, NotReady, Wants, joined_below, run, those_below}
unfoldable pub use Rattle.cp_run.specs.Run.{chosen, opened, may}
pub use Rattle.cp_run.specs.Slots.{slots}
pub use Rattle.cp_run.specs.System.{System}
pub use Rattle.cp_run.specs.Table.{Line, each}
unfoldable pub use Rattle.cp_run.specs.Table.{table}
pub use Rattle.cp_run.specs.declared.limits.Limits.{Limits}
pub use Rattle.cp_run.specs.declared.outcome.Halt.{Halt}
pub use Rattle.cp_run.specs.declared.outcome.Outcome.{Outcome}
pub use Rattle.cp_run.specs.declared.outcome.OutcomeKind.{OutcomeKind}
pub use Rattle.cp_run.specs.declared.outcome.OutcomeKind.TheVariants.{ChoiceLimit}
pub use Rattle.cp_slots.specs.Tables.{Tables}
pub use lib.Pointwise.{pointwise}
pub use Rattle.cp_walk.specs.Beginnings.{beginnings, beginnings_of, common, with_new, words_in, words_of_rows}
pub use Rattle.cp_walk.specs.Cutting.{Each, IsUsed, Pairwise, Parts, begins, children, parts_before, word_at}
unfoldable pub use Rattle.cp_walk.specs.Cutting.{rows_behind, rows_from}
pub use Rattle.cp_walk.specs.Deepening.{Advanced}
pub use Rattle.cp_walk.specs.Ends.{IsDone, IsHonest}
pub use Rattle.cp_walk.specs.Groups.{tallies_of}
pub use Rattle.cp_walk.specs.Members.{CutsTable, words_of}
pub use Rattle.cp_walk.specs.Rows.{IsTooMany, line_of}
pub use Rattle.cp_walk.specs.Tables.{rows_at, table_of}
pub use Rattle.cp_walk.specs.Text.{behind_each}
pub use Rattle.cp_walk.specs.Walk.{IsDue, behind}
unfoldable pub use Rattle.cp_walk.specs.Walk.{walk}
pub use Rattle.cp_walk.specs.Walked.{AreWalked, begun}
pub use Rattle.cp_walk.specs.declared.fault.SplitFault.TheVariants.{Full}
pub use Rattle.cp_walk.specs.declared.row.Row.{Row}
pub use Rattle.cp_walk.specs.declared.worker.TaskRows.{TaskRows}
