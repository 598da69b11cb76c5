use Rattle.std.proofs.Common.{[], take}
use Rattle.cp_ends.proofs.Vocabulary.{Machine}
use Rattle.cp_ends.proofs.visit.take_choices.Given as goal

abbrev pub invariant-loop-process : goal.invariant-loop-process
invariant-loop-process g l =
    record {
      within : (m : Machine) → g.V.RowVisit.within l.initial.visit l.job l.from l.at m [] → g.V.RowVisit.within l.visit l.job l.from l.at m (take l.process-index l.process-items);
    }
