use Rattle.cp_ends.proofs.visit.visit_rows.Given as goal

abbrev pub invariant-loop-number : goal.invariant-loop-number
invariant-loop-number g l = record { before : g.V.RowVisit.before l.visit l.job l.number }
