use Rattle.cpx.proofs.explore_input.Given as goal

abbrev pub ghosts-explore_streams-A-Ledger : goal.ghosts-explore_streams-A-Ledger
ghosts-explore_streams-A-Ledger g a = record { name = a.reads.name; parts = a.reads.parts }

abbrev pub ghosts-explore_streams-B-Ledger : goal.ghosts-explore_streams-B-Ledger
ghosts-explore_streams-B-Ledger g a = record { name = a.writes.name; parts = a.writes.parts }
