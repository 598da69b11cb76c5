use Rattle.cp_tests.proofs.programs.end_of.Given as goal

abbrev pub ghosts-end_counted : goal.ghosts-end_counted
ghosts-end_counted a = record { name = a.blank.name; parts = a.blank.parts }
