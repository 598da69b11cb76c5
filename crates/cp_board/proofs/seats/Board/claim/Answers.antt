use Rattle.cp_board.proofs.Words.{[], ◌∷◌, length, length-append, ◌<◌, cond, sym, ap, ◌∙◌, subst, arith, step, HasOpenTask}
use mathlib.Core.Option.{none}
use Rattle.cp_board.proofs.Moves.{claim_allows, opens}
use Rattle.cp_board.proofs.seats.Board.claim.Goals as goal

pub fetch_add-found-requires : goal.fetch_add-found-requires
fetch_add-found-requires c =
    let seat = c.args.seat.now in
    let shared = c.args.self.now.table.shared in
    let not_spent = seat.spent ∙ ap (λ b. cond b 1 0) c.if-seat.false in
    (c.requires.0, omega (arith, c.args.self.now.words), claim_allows shared.key shared.table_id.slots seat.inner.id seat.inner.me (step shared.table_id.slots 0 1 0 none) seat.one_part not_spent (c.requires.1 ∙ sym c.args.self.now.terms))

pub returns-then-found-from-clause-some : goal.returns-then-found-from-clause-some
returns-then-found-from-clause-some c =
    let seat = c.args.seat.now in
    let not_spent = seat.spent ∙ ap (λ b. cond b 1 0) c.if-seat.false in
    let found = c.fetch_add-found.result in
    let lt : found < seat.inner.me.0.tasks = omega (arith, c.if-found-from.true, c.from.ensures, c.requires.1) in
    let told = c.fetch_add-found.ensures.2.1 lt in
    let now = ap (λ m. m.0) told.0 in
    (omega (arith, c.if-found-from.true, c.from.ensures), now, subst HasOpenTask (sym now) (opens seat.inner.me.0 found not_spent told.1))

pub returns-then-found-from-clause-room : goal.returns-then-found-from-clause-room
returns-then-found-from-clause-room c =
    let seat = c.args.seat.now in
    let found = c.fetch_add-found.result in
    let lt : found < seat.inner.me.0.tasks = omega (arith, c.if-found-from.true, c.from.ensures, c.requires.1) in
    let told = c.fetch_add-found.ensures.2.1 lt in
    let grew = ap (λ m. length m.0.drawn) told.0 in
    omega (arith, grew, length-append seat.inner.me.0.drawn (found ∷ []), told.2, c.requires.1)
