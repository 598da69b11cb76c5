use Rattle.cp_tests.proofs.readings.state_at.Given as goal

abbrev pub ghosts-state_after-S-Ledger : goal.ghosts-state_after-S-Ledger
ghosts-state_after-S-Ledger a = record { name = a.blank.name; parts = a.blank.parts }

abbrev pub ghosts-state_after-C-Ledger : goal.ghosts-state_after-C-Ledger
ghosts-state_after-C-Ledger a = record { name = a.other.name; parts = a.other.parts }
