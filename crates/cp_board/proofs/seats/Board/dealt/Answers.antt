use Rattle.cp_board.proofs.Words.{◌≡◌, [], ◌∷◌, All, length, sym, refl, ap, ◌∙◌, subst, arith, length-append, All-push, All-weaker, Seat, view, keeper, dealt, view_of}
use Rattle.cp_board.proofs.Moves.{splits}
use Rattle.cp_board.proofs.seats.Board.dealt.Goals as goal

pub split_seat-next-requires : goal.split_seat-next-requires
split_seat-next-requires c =
    let inv = c.loop.invariant in (
      inv.own,
      omega (arith, c.in_ok-table.ensures.0),
      splits c.in_ok-table.table.shared.key c.loop.first.id c.loop.first.me.0 (omega (arith, inv.parts, c.loop-test.true)) (ap (λ m. m.0.spent) inv.empty),
    )

pub loop-preserved : goal.loop-preserved
loop-preserved c =
    let inv = c.loop.invariant in
    let ens = c.split_seat-next.ensures in
    let parts = ap (λ m. m.0.parts) ens.2 in
    let seat : Seat = c.new.result in
    let items = c.in_ok-push.ensures.items in
    let P : Seat → Type 0 = λ s. (s.inner.table_id ≡ c.in_ok-table.table.shared.table_id) × (s.inner.me.0 ≡ view 1 c.args.tasks [] [] 0) in
    let same = c.new.ensures.0 in
    let one : P seat = (
      ap (λ s. s.table_id) same ∙ ens.3 ∙ inv.own,
      ap (λ s. s.me.0) same ∙ ap (λ m. m.0) ens.4 ∙ ap (λ m. dealt m.0) inv.empty,
    ) in
    record {
      own = ens.0 ∙ inv.own;
      parts = omega (arith, parts, inv.parts, c.loop-test.true);
      empty = ens.2 ∙ ap (λ m. (keeper m.0, m.1)) inv.empty ∙ ap (λ n. (view n c.args.tasks [] [] 0, [])) (sym parts);
      many = omega (arith, ap length items, length-append c.loop.all.items (seat ∷ []), inv.many);
      each = subst (All P) (sym items) (All-push P c.loop.all.items seat inv.each one);
    }

pub returns : goal.returns
returns c =
    let inv = c.loop.invariant in
    let seat : Seat = c.new-2.result in
    let items = c.in_ok-push-2.ensures.items in
    let id = c.in_ok-table.table.shared.table_id in
    let P : Seat → Type 0 = λ s. (s.inner.table_id ≡ id) × (s.inner.me.0 ≡ view 1 c.args.tasks [] [] 0) in
    let Q : Seat → Type 0 = λ s. (s.inner.table_id ≡ id) × (s.inner.me.0.tasks ≡ c.args.tasks) in
    let E : Seat → Type 0 = λ s. view_of s ≡ view 1 c.args.tasks [] [] 0 in
    let same = c.new-2.ensures.0 in
    let last : c.loop.first.me.0.parts ≡ 1 = omega (arith, inv.parts, c.loop-test.false, c.requires.seats.0, c.loop.auto) in
    let one : P seat = (
      ap (λ s. s.table_id) same ∙ inv.own,
      ap (λ s. s.me.0) same ∙ ap (λ m. m.0) inv.empty ∙ ap (λ n. view n c.args.tasks [] [] 0) last,
    ) in
    let each : All P c.push-2.new.self.items = subst (All P) (sym items) (All-push P c.loop.all.items seat inv.each one) in
    record {
      tasks_are = refl;
      seats_are = ap (λ t. t.seats) c.in_ok-table.ensures.5 ∙ c.from-2.ensures;
      many = omega (arith, ap length items, length-append c.loop.all.items (seat ∷ []), inv.many, inv.parts, last);
      own = All-weaker P Q (λ s p. (p.0, ap (λ v. v.tasks) p.1)) c.push-2.new.self.items each;
      empty = All-weaker P E (λ s p. p.1) c.push-2.new.self.items each;
    }
