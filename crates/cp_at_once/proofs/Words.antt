-- The names that many proofs of this crate use, from one place.
pub use Rattle.std.proofs.Common.{Bool, List, None, [], ap, arith, false, length, refl, subst, sym, take, true, ℕ, ◌+◌, ◌<◌, ◌∙◌, ◌≡◌, ◌≤◌}
pub use Rattle.std.proofs.lemmas.List.Elements.{All-weaker}
pub use Rattle.std.proofs.lemmas.Option.{same_Some, slice_get_cases, slice_get_within}
pub use Rattle.std.specs.List.{list_any}
pub use Rattle.std.specs.Prelude.{All, slice_get}
pub use Rattle.cp_endless_laws.specs.Silent.{silent_slots, without_output}
pub use Rattle.cp_ends.proofs.GoingOn.{ok_to}
pub use Rattle.cp_ends.proofs.Searching.Lists.{all_at}
pub use Rattle.cp_ends.proofs.named.Keys.{key_self}
pub use Rattle.cp_ends.specs.Answer.{ends_tests, slot_graph}
pub use Rattle.cp_ends.specs.Arrivals.{goal_at}
pub use Rattle.cp_ends.specs.Graph.{ArrivesAt, Goal, LeadsToEnd, LeadsToPlace, Place, ShowsLast}
pub use Rattle.cp_ends.specs.Holds.{SlotArrival}
unfoldable pub use Rattle.cp_ends.specs.Holds.{same_key}
pub use Rattle.cp_ends.specs.Searched.{has}
pub use Rattle.cp_ends.specs.declared.end.End.{End}
pub use Rattle.cp_machine.specs.System.{Machine, is_pending}
pub use Rattle.cp_machine.specs.declared.discipline.Discipline.{Discipline}
pub use Rattle.cp_at_once_laws.specs.OnSlots.{by_the_book}
pub use Rattle.cp_machine.specs.declared.shown.Shown.{Shown}
unfoldable pub use Rattle.cp_run.specs.Run.{may}
pub use Rattle.cp_run.specs.Slots.{slots}
pub use Rattle.cp_slots.specs.Tables.{Tables}
pub use Rattle.cp_at_once.specs.Following.{GoesOn, NotesValues, SlotGraph}
pub use Rattle.cp_at_once.specs.Holds.{AreStates, HasWord, Holds, IsWordOf}
pub use Rattle.cp_at_once.specs.Legs.{HasLeg}
pub use Rattle.cp_at_once.specs.declared.found.FoundAtOnce.{FoundAtOnce}
pub use Rattle.cp_at_once.specs.declared.origin.OriginAtOnce.{OriginAtOnce}
