use Rattle.std.proofs.Common.{◌<◌, ◌∷◌, [], ◌++◌, length, set, ap, ◌∙◌, arith, append_assoc}
use Rattle.std.proofs.lemmas.List.{length-map, map-set}
use Rattle.std.proofs.lemmas.List.FromFn.{length-map-range_with_len}
use Rattle.cp_board.proofs.Closing.{in_middle}
use Rattle.cp_walk.specs.declared.worker.TaskRows.{TaskRows}
use Rattle.cp_walk.specs.Tables.{rows_at}
use Rattle.cp_walk.proofs.Gathering.{one_slot}
use Rattle.cp_walk.proofs.collect.sort_by_task.Goals as goal

pub index_mut-requires : goal.index_mut-requires
index_mut-requires c =
    let inv = c.loop-piece.invariant in
    let slots = c.loop-piece.slots.items in
    let p = c.in-Some.piece in
    let below : p.task < c.args.tasks = in_middle (λ (q : TaskRows). q.task < c.args.tasks) c.args.parts.items c.loop-piece.parts.items c.pop.new.self.items inv.0 p inv.1 c.in-Some.ensures.items c.requires in
    omega (arith, below, ap length inv.2, length-map slots (λ r. r.items), length-map-range_with_len (rows_at inv.0) 0 c.args.tasks)

pub loop-piece-preserved : goal.loop-piece-preserved
loop-piece-preserved c =
    let inv = c.loop-piece.invariant in
    let slots = c.loop-piece.slots.items in
    let p : TaskRows = c.in-Some.piece in
    let below : p.task < c.args.tasks = in_middle (λ (q : TaskRows). q.task < c.args.tasks) c.args.parts.items c.loop-piece.parts.items c.pop.new.self.items inv.0 p inv.1 c.in-Some.ensures.items c.requires in (
      p ∷ inv.0,
      inv.1 ∙ ap (λ l. l ++ inv.0) c.in-Some.ensures.items ∙ append_assoc c.pop.new.self.items (p ∷ []) inv.0,
      map-set (λ r. r.items) slots p.task p.rows ∙ ap (λ l. set l p.task p.rows.items) inv.2 ∙ one_slot inv.0 p c.args.tasks below,
    )
