use Rattle.cp_tool_tests.proofs.streams.answer_by.Given as goal

abbrev pub ghosts-answer_of-A-Ledger : goal.ghosts-answer_of-A-Ledger
ghosts-answer_of-A-Ledger g a = record { name = a.reads.name; parts = a.reads.parts }

abbrev pub ghosts-answer_of-B-Ledger : goal.ghosts-answer_of-B-Ledger
ghosts-answer_of-B-Ledger g a = record { name = a.writes.name; parts = a.writes.parts }
