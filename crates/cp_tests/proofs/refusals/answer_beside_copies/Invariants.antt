use Rattle.cp_tests.proofs.refusals.answer_beside_copies.Given as goal

abbrev pub ghosts-step_alone : goal.ghosts-step_alone
ghosts-step_alone a = record { name = a.blank.name; parts = a.blank.parts }
