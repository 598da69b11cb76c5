use Rattle.cp_tests.proofs.refusals.answers_well.Given as goal

abbrev pub ghosts-answers_to_two_walks : goal.ghosts-answers_to_two_walks
ghosts-answers_to_two_walks g a = record { name = a.blank.name; parts = a.blank.parts }

abbrev pub ghosts-answers_to_two_gatherings : goal.ghosts-answers_to_two_gatherings
ghosts-answers_to_two_gatherings g a = record { name = a.blank.name; parts = a.blank.parts }
