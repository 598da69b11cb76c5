use Rattle.cp_board.proofs.Words.{◌≡◌, ◌+◌, [], length, All, view}
use Rattle.cp_board.proofs.seats.Board.dealt.Given as goal

abbrev pub invariant-loop : goal.invariant-loop
invariant-loop l = record {
  own : l.first.table_id ≡ l.table.shared.table_id;
  parts : l.first.me.0.parts + l.counter ≡ l.seats + 1;
  empty : l.first.me ≡ (view l.first.me.0.parts l.tasks [] [] 0, []);
  many : length l.all.items + 1 ≡ l.counter;
  each : All (λ s. (s.inner.table_id ≡ l.table.shared.table_id) × (s.inner.me.0 ≡ view 1 l.tasks [] [] 0)) l.all.items;
}
