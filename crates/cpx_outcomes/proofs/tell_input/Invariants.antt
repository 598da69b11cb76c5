use Rattle.cpx_outcomes.proofs.tell_input.Given as goal

abbrev pub ghosts-tell_stream-A-Ledger : goal.ghosts-tell_stream-A-Ledger
ghosts-tell_stream-A-Ledger a = record { name = a.reads.name; parts = a.reads.parts }

abbrev pub ghosts-tell_stream-B-Ledger : goal.ghosts-tell_stream-B-Ledger
ghosts-tell_stream-B-Ledger a = record { name = a.writes.name; parts = a.writes.parts }
