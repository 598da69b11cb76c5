use Rattle.cp_merged.proofs.Words.{◌≤◌, drop, length, CanGoOn, rows_of}
use Rattle.cp_merged.proofs.Making.{Making}
use Rattle.cp_merged.proofs.layering.Layering.next_layer.Given as goal

abbrev pub invariant-loop-number : goal.invariant-loop-number
invariant-loop-number g l =
    let r = l.job.run.program.now in
    let limits = l.job.run.limits in
    record {
      on : CanGoOn r limits.discipline l.self.known l.self.row.items l.self.frontier.layer.width;
      few : length (rows_of l.self.frontier.layer) ≤ l.job.most;
      making : Making r limits.discipline limits.steps l.depth l.self.known l.self.frontier.ended.entries (rows_of l.self.frontier.layer) (drop l.number (rows_of l.layer));
    }
