use Rattle.cp_board.proofs.Words.{◌+◌, sym, ap, ◌∙◌, subst, arith, Me, step, View, NotesOnce}
use mathlib.Core.Option.{none}
use Rattle.cp_board.proofs.Moves.{note_allows, note_once}
use Rattle.cp_board.proofs.seats.Board.note.Goals as goal

pub fetch_add-found-requires : goal.fetch_add-found-requires
fetch_add-found-requires c =
    let seat = c.args.seat.now in
    let shared = c.args.self.now.table.shared in (
      c.requires.own.0,
      omega (arith, c.args.self.now.words),
      note_allows shared.key shared.table_id.slots seat.inner.id seat.inner.me (step shared.table_id.slots 1 c.from-rows.result 0 none) (omega (arith, c.from-rows.ensures, c.requires.rows)) (omega (arith, seat.one_part)) c.requires.open,
    )

pub invariant_of-seat : goal.invariant_of-seat
invariant_of-seat c =
    let seat = c.args.seat.now in
    let is = c.fetch_add-found.ensures.2.1 in
    record {
      one_part = ap (λ m. m.0.parts) is ∙ seat.one_part;
      no_slot = ap (λ m. m.1) is ∙ seat.no_slot;
      spent = ap (λ m. m.0.spent) is ∙ seat.spent;
      once = subst (λ (m : Me (Unit {0}) View). NotesOnce m.0) (sym is) (note_once seat.inner.me.0 c.from-rows.result (c.fetch_add-found.result + c.from-rows.result) seat.once c.requires.open);
    }
