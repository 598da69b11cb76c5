use Rattle.cp_tests.proofs.cuttings.table_of.Given as goal

abbrev pub ghosts-table_counted : goal.ghosts-table_counted
ghosts-table_counted a = record { name = a.blank.name; parts = a.blank.parts }
