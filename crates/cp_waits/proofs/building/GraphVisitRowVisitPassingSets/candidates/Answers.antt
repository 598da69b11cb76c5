use Rattle.cp_waits.proofs.building.GraphVisitRowVisitPassingSets.candidates.Goals as goal

pub candidates-requires : goal.candidates-requires
candidates-requires c = (c.requires.0, c.requires.1.0)

pub returns : goal.returns
returns c = λ m w. c.candidates.ensures m w.0
