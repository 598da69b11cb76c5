use Rattle.cp_merged.proofs.Words.{CanGoOn, Reached, rows_of}
use Rattle.cp_merged.proofs.explorer.ends_of.Given as goal

abbrev pub invariant-loop-depth : goal.invariant-loop-depth
invariant-loop-depth g l =
    let r = l.job.run.program.now in
    let limits = l.job.run.limits in
    let front = l.layering.frontier in
    record {
      on : CanGoOn r limits.discipline l.layering.known l.layering.row.items front.layer.width;
      reached : Reached r limits.discipline limits.choices limits.steps l.job.most l.depth l.layering.known front.ended.entries (rows_of front.layer);
    }
