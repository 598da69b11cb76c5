use Rattle.std.proofs.Common.{◌≡◌, length}
use Rattle.cp_at_once.specs.ByRows.{KeepStore}
use Rattle.cp_at_once.proofs.leg.process_at_once.Given as goal

abbrev pub invariant-loop-pid : goal.invariant-loop-pid
invariant-loop-pid l =
    record {
      kept : KeepStore l.job.program.now l.initial.rows l.rows;
      ahead : length l.ahead ≡ length l.row;
    }
