use Rattle.cpx_show.proofs.show_input.Given as goal

abbrev pub ghosts-show-A-Ledger : goal.ghosts-show-A-Ledger
ghosts-show-A-Ledger a = record { name = a.reads.name; parts = a.reads.parts }

abbrev pub ghosts-show-B-Ledger : goal.ghosts-show-B-Ledger
ghosts-show-B-Ledger a = record { name = a.writes.name; parts = a.writes.parts }
