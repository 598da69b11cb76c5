use Rattle.cp_ends.proofs.Vocabulary.{◌∙◌, sym}
use Rattle.cp_ends.proofs.rows.RowSearchRowVisit.take.Goals as goal

pub returns-clause-within : goal.returns-clause-within
returns-clause-within g c = λ room m w may. c.in_ok-arrived.ensures.within (sym c.has_room.ensures ∙ room) m w may

pub returns-clause-stops : goal.returns-clause-stops
returns-clause-stops g c = λ full. c.in_ok-arrived.ensures.stops (sym c.has_room.ensures ∙ full)
