use Rattle.cp_merged.proofs.Words.{◌≡◌, drop, rows_of}
use Rattle.cp_merged.proofs.Making.{Ending}
use Rattle.cp_merged.proofs.layering.Layering.end_layer.Given as goal

abbrev pub invariant-loop-number : goal.invariant-loop-number
invariant-loop-number g l =
    record {
      known : l.self.known ≡ l.initial.self.known;
      ending : Ending l.job.run.program.now l.job.run.limits.discipline l.job.run.limits.steps l.job.run.limits.choices l.self.known l.self.frontier.ended.entries (drop l.number (rows_of l.layer));
    }
