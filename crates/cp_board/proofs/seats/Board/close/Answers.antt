use Rattle.std.proofs.Common.{cond, eqb, ◌≡◌, ◌<◌, [], ◌∷◌, ◌++◌, map, min, List, length, All, sym, ap, ◌∙◌, subst, arith, append_assoc}
use Rattle.cp_board.proofs.Words.{All-cons, Seat, NotesOnce, NotesEachOnce, Settles, together}
use Rattle.std.proofs.lemmas.List.{length-map}
use Rattle.std.specs.Slots.{slots_items}
use Rattle.cp_board.specs.Seats.{IsSeatOf, view_of}
use Rattle.cp_board.proofs.Moves.{joins}
use Rattle.cp_board.proofs.Closing.{in_middle, gathered-cons, nothing_left, closes, each_once}
use Rattle.cp_board.proofs.Lists.{once_below}
use Rattle.cp_board.proofs.seats.Board.close.Goals as goal

pub join_seat-requires : goal.join_seat-requires
join_seat-requires c =
    let inv = c.loop-seat.invariant in
    let seat = c.in-Some-pop.seat in
    let key = c.args.self.table.shared.key in
    let own = in_middle (IsSeatOf c.args.self) c.args.seats.items c.loop-seat.seats.items c.pop-in-loop-seat.new.self.items inv.0 seat inv.1 c.in-Some-pop.ensures.items c.requires.own in (
      inv.4,
      own.0,
      seat.no_slot,
      omega (arith, c.args.self.words),
      joins key c.loop-seat.whole.id c.loop-seat.whole.me.0 seat.inner.id seat.inner.me.0 (omega (arith, inv.2, inv.5)),
    )

pub loop-seat-preserved : goal.loop-seat-preserved
loop-seat-preserved c =
    let inv = c.loop-seat.invariant in
    let seat = c.in-Some-pop.seat in
    let done = inv.0 in
    let views = map view_of done in
    let ens = c.join_seat.ensures in
    let left = c.pop-in-loop-seat.new.self.items in
    let more : 0 < length views = omega (arith, inv.2, length-map done view_of) in (
      seat ∷ done,
      inv.1 ∙ ap (λ l. l ++ done) c.in-Some-pop.ensures.items ∙ append_assoc left (seat ∷ []) done,
      omega arith,
      ens.2 ∙ ap (λ m. (together m.0 seat.inner.me.0, m.1)) inv.3 ∙ ap (λ v. (v, [])) (sym (gathered-cons (view_of seat) views more)),
      ens.0 ∙ inv.4,
      (let p = ap (λ m. m.0.parts) ens.2 in omega (arith, p, inv.5, seat.one_part)),
      All-cons NotesOnce (view_of seat) views seat.once inv.6,
    )

pub returns : goal.returns
returns c =
    let inv = c.loop-seat.invariant in
    let b = c.args.self in
    let key = b.table.shared.key in
    let done = inv.0 in
    let whole = c.loop-seat.whole in
    let none : c.loop-seat.seats.items ≡ [] = nothing_left c.loop-seat.seats.items (omega (arith, c.in_default-pop.ensures.cases.0)) in
    let all : c.args.seats.items ≡ done = inv.1 ∙ ap (λ l. l ++ done) none in
    let parts : whole.me.0.parts ≡ key.seats = inv.5 ∙ sym (ap length all) ∙ c.requires.all in
    let words = slots_items c.close_with-closed.result.words in
    let slots = slots_items c.close_with-closed.result.slots in
    let ended = closes key whole.id whole.me.0 (map view_of done) words slots c.word-next.result c.word-total.result c.close_with-closed.ensures.values.2 c.word-next.ensures c.word-total.ensures parts (ap (λ m. m.0) inv.3) inv.6 in
    let least : min c.word-next.result key.tasks ≡ c.min.result = ap (λ n. min c.word-next.result n) (b.terms ∙ sym c.from.ensures) ∙ sym c.min.ensures in
    let settled : Settles b.tasks c.min.result c.word-total.result (map view_of c.args.seats.items) =
    subst (λ (l : List Seat). Settles b.tasks c.min.result c.word-total.result (map view_of l)) (sym all)
    (subst (λ n. Settles n c.min.result c.word-total.result (map view_of done)) b.terms
    (subst (λ n. Settles key.tasks n c.word-total.result (map view_of done)) least ended)) in
    record {
      settled = settled;
      own_notes = subst (λ (l : List Seat). All NotesEachOnce (map view_of l)) (sym all) (each_once (map view_of done) inv.6);
      each_once = λ x. settled.drawn (λ y. cond (eqb y x) 1 0) ∙ once_below x c.min.result;
    }
