-- The names that many proofs of this crate use, from one place.
pub use Rattle.std.proofs.Common.{All, List, [], ap, arith, cond, length, length-append, map, refl, subst, sym, ◌++◌, ◌+◌, ◌<◌, ◌∙◌, ◌∷◌, ◌≡◌}
pub use Rattle.std.proofs.lemmas.List.Elements.{All-cons, All-head, All-push, All-tail, All-weaker}
pub use Rattle.std.specs.List.{range_with_len}
pub use Rattle.atomic_table.specs.Table.{Me, step}
pub use Rattle.cp_board.specs.Rule.{IsFair, IsRuled, Keeps, dealt, keeper, nobody, together}
pub use Rattle.cp_board.specs.Seats.{view_of}
pub use Rattle.cp_board.specs.Views.{HasOpenTask, IsTotal, NotesEachOnce, NotesOnce, Settles, view}
pub use Rattle.cp_board.specs.declared.seats.Seat.{Seat}
pub use Rattle.cp_board.specs.declared.views.Note.{Note}
pub use Rattle.cp_board.specs.declared.views.View.{View}
