use Rattle.cp_verdict.proofs.endless.marking.tell.Goals as goal

pub returns-clause-note : goal.returns-clause-note
returns-clause-note c = c.in_ok-note.ensures

pub returns-clause-slots : goal.returns-clause-slots
returns-clause-slots c = c.in_ok-each.ensures.slots

pub returns-clause-known : goal.returns-clause-known
returns-clause-known c = c.in_ok-each.ensures.known

pub returns-clause-last : goal.returns-clause-last
returns-clause-last c = c.new.ensures.bytes
