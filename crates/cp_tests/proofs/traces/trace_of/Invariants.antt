use Rattle.cp_tests.proofs.traces.trace_of.Given as goal

abbrev pub ghosts-trace_counted : goal.ghosts-trace_counted
ghosts-trace_counted a = record { name = a.blank.name; parts = a.blank.parts }
