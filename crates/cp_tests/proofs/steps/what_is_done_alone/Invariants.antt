use Rattle.cp_tests.proofs.steps.what_is_done_alone.Given as goal

abbrev pub ghosts-step_alone : goal.ghosts-step_alone
ghosts-step_alone a = record { name = a.blank.name; parts = a.blank.parts }
