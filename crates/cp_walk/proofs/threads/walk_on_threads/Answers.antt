use denote.Param.Send.{sendable}
use Rattle.std.proofs.Common.{◌≡◌, ◌∙◌, ap, arith, map, Err}
use Rattle.std.proofs.Crossing.{crosses}
use Rattle.cp_slots.proofs.Sharing.{resolved_sync}
use Rattle.cp_walk.specs.declared.fault.ExploreFault.TheVariants.{TooManyRows}
use Rattle.cp_walk.specs.Rows.{line_of}
use Rattle.cp_walk.proofs.MemberTables.{members_table, members_length}
use Rattle.cp_walk.proofs.threads.walk_on_threads.Goals as goal

pub explore_tasks-requires-sync-W : goal.explore_tasks-requires-sync-W
explore_tasks-requires-sync-W g c κs = search (sendable, crosses, resolved_sync) depth 20

pub returns-in-Ok-clause-table : goal.returns-in-Ok-clause-table
returns-in-Ok-clause-table g c =
    let cut = c.args.cutting.now in
    ap (map line_of) c.new.ensures ∙ members_table cut.job.program.now cut.job.limits cut.words.items c.len.result c.in-Ok.rows.items cut.cuts (c.len.ensures ∙ cut.words.ok.0) c.in-Ok.ensures.table

pub returns-in-Err-clause-many : goal.returns-in-Err-clause-many
returns-in-Err-clause-many g c h =
    let cut = c.args.cutting.now in
    let same = members_length cut.job.program.now cut.job.limits cut.words.items c.len.result cut.cuts (c.len.ensures ∙ cut.words.ok.0) in
    let over : c.in-Err.fault ≡ TooManyRows = cc in
    let more = c.in-Err.ensures.many (ap Err over) in
    omega (arith, same, more)
