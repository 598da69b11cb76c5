use Rattle.cp_walk.proofs.Words.{◌<◌, ◌≤◌, List, map, All, length, sym, ap, ◌∙◌, subst, arith, TaskRows, table_of, rows_at}
use Rattle.std.proofs.lemmas.List.Elements.{All-map}
use Rattle.cp_board.specs.declared.seats.Seat.{Seat}
use Rattle.cp_board.specs.Views.{Settles}
use Rattle.cp_board.specs.Seats.{IsSeatOf, view_of, tasks_of}
use Rattle.cp_walk.specs.declared.worker.Worked.{Worked}
use Rattle.cp_walk.specs.Ends.{HasWorked}
use Rattle.cp_walk.proofs.Deciding.{total-le-table, all_below, table-from_parts, length-table}
use Rattle.cp_walk.proofs.workers.explore_tasks.Goals as goal

pub close-closed-requires-clause-own : goal.close-closed-requires-clause-own
close-closed-requires-clause-own g c =
    let P : Seat → Type 0 = IsSeatOf c.in-Ok.made.0 in
    let ended = c.in-Ok-run_workers.ended.items in
    subst (All P) (sym c.in-Ok-collect_parts.ensures.seats) (All-map P (λ (w : Worked). w.seat) ended (λ k d h. (c.in-Ok-run_workers.ensures.each k d h).0))

pub returns-then-closed-gt-MOST_NOTED-clause-many : goal.returns-then-closed-gt-MOST_NOTED-clause-many
returns-then-closed-gt-MOST_NOTED-clause-many g c _ =
    let rows = g.W.Work.rows c.args.work.now in
    let b = c.in-Ok.made.0 in
    let ended = c.in-Ok-run_workers.ended.items in
    let claimed = c.close-closed.result.claimed in
    let total = c.close-closed.result.total in
    let met : All (HasWorked rows b) ended = c.in-Ok-run_workers.ensures.each in
    let settled : Settles c.args.tasks claimed total (map view_of (map (λ (w : Worked). w.seat) ended)) =
    subst (λ n. Settles n claimed total (map view_of (map (λ (w : Worked). w.seat) ended))) c.in-Ok.ensures.made.tasks_are
    (subst (λ (l : List Seat). Settles (tasks_of b) claimed total (map view_of l)) c.in-Ok-collect_parts.ensures.seats c.close-closed.ensures.settled) in
    omega (arith, c.if-closed-gt-MOST_NOTED.true, total-le-table rows b c.args.tasks ended claimed total settled met c.in-Ok-collect_parts.ensures.kept)

pub gather_rows-requires : goal.gather_rows-requires
gather_rows-requires g c =
    let rows = g.W.Work.rows c.args.work.now in
    let b = c.in-Ok.made.0 in
    let ended = c.in-Ok-run_workers.ended.items in
    let claimed = c.close-closed.result.claimed in
    let total = c.close-closed.result.total in
    let met : All (HasWorked rows b) ended = c.in-Ok-run_workers.ensures.each in
    let settled : Settles c.args.tasks claimed total (map view_of (map (λ (w : Worked). w.seat) ended)) =
    subst (λ n. Settles n claimed total (map view_of (map (λ (w : Worked). w.seat) ended))) c.in-Ok.ensures.made.tasks_are
    (subst (λ (l : List Seat). Settles (tasks_of b) claimed total (map view_of l)) c.in-Ok-collect_parts.ensures.seats c.close-closed.ensures.settled) in
    let few : total ≤ 50000 = c.if-closed-gt-MOST_NOTED.false in
    subst (All (λ (p : TaskRows). p.task < c.args.tasks)) (sym c.in-Ok-collect_parts.ensures.parts)
    (all_below rows b c.args.tasks ended claimed total settled met c.in-Ok-collect_parts.ensures.kept few (λ w own. own.1 ∙ c.in-Ok.ensures.made.tasks_are))

pub returns-clause-table : goal.returns-clause-table
returns-clause-table g c =
    let rows = g.W.Work.rows c.args.work.now in
    let b = c.in-Ok.made.0 in
    let ended = c.in-Ok-run_workers.ended.items in
    let claimed = c.close-closed.result.claimed in
    let total = c.close-closed.result.total in
    let met : All (HasWorked rows b) ended = c.in-Ok-run_workers.ensures.each in
    let settled : Settles c.args.tasks claimed total (map view_of (map (λ (w : Worked). w.seat) ended)) =
    subst (λ n. Settles n claimed total (map view_of (map (λ (w : Worked). w.seat) ended))) c.in-Ok.ensures.made.tasks_are
    (subst (λ (l : List Seat). Settles (tasks_of b) claimed total (map view_of l)) c.in-Ok-collect_parts.ensures.seats c.close-closed.ensures.settled) in
    let few : total ≤ 50000 = c.if-closed-gt-MOST_NOTED.false in
    let one : 0 < length ended = omega (arith, c.in-Ok-run_workers.ensures.count, c.in-Ok.ensures.made.many, c.requires.workers.0) in
    c.in-Ok-gather_rows.ensures ∙ ap (λ (ps : List TaskRows). table_of (rows_at ps) c.args.tasks) c.in-Ok-collect_parts.ensures.parts
    ∙ table-from_parts rows b c.args.tasks ended claimed total settled met c.in-Ok-collect_parts.ensures.kept few one

pub returns-clause-few : goal.returns-clause-few
returns-clause-few g c _ =
    let rows = g.W.Work.rows c.args.work.now in
    let b = c.in-Ok.made.0 in
    let ended = c.in-Ok-run_workers.ended.items in
    let claimed = c.close-closed.result.claimed in
    let total = c.close-closed.result.total in
    let met : All (HasWorked rows b) ended = c.in-Ok-run_workers.ensures.each in
    let settled : Settles c.args.tasks claimed total (map view_of (map (λ (w : Worked). w.seat) ended)) =
    subst (λ n. Settles n claimed total (map view_of (map (λ (w : Worked). w.seat) ended))) c.in-Ok.ensures.made.tasks_are
    (subst (λ (l : List Seat). Settles (tasks_of b) claimed total (map view_of l)) c.in-Ok-collect_parts.ensures.seats c.close-closed.ensures.settled) in
    let few : total ≤ 50000 = c.if-closed-gt-MOST_NOTED.false in
    let one : 0 < length ended = omega (arith, c.in-Ok-run_workers.ensures.count, c.in-Ok.ensures.made.many, c.requires.workers.0) in
    omega (arith, few, length-table rows b c.args.tasks ended claimed total settled met c.in-Ok-collect_parts.ensures.kept few one)
