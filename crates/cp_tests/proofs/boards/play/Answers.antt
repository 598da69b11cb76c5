use Rattle.std.proofs.Common.{All, sym, subst, arith}
use Rattle.std.proofs.lemmas.List.Elements.{All-map, All-append, All-take}
use Rattle.cp_board.specs.declared.seats.Seat.{Seat}
use Rattle.cp_board.specs.Seats.{IsSeatOf}
use Rattle.cp_tests.proofs.boards.play.Goals as goal

pub close-requires-clause-own : goal.close-requires-clause-own
close-requires-clause-own g c =
    let P : Seat → Type 0 = IsSeatOf c.in_ok-board.board in
    let drawing = c.in_ok-drawn_by.drawn_by.items in
    let drew : All P drawing = subst (All P) (sym c.in_ok-drawn_by.ensures) (All-map P (λ d. d.seat) c.in_ok-drawers.drawers.items
    (λ k d h. let len = c.in_ok-drawers.ensures.len in (c.in_ok-drawers.ensures.each k d (omega (arith, h, len))).1.call.met)) in
    let idle : All P c.split_off.new.self.items = subst (All P) (sym c.in_ok-drawing.ensures.items) (All-take P c.from.result c.in_ok-board.seats.items c.in_ok-board.ensures.made.own) in
    subst (All P) (sym c.in_ok-append.ensures.items) (All-append P c.split_off.new.self.items drawing idle drew)
