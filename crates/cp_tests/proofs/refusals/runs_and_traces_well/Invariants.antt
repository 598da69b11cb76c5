use Rattle.cp_tests.proofs.refusals.runs_and_traces_well.Given as goal

abbrev pub ghosts-answers_to_runs_and_traces : goal.ghosts-answers_to_runs_and_traces
ghosts-answers_to_runs_and_traces a = record { name = a.blank.name; parts = a.blank.parts }
