use Rattle.std.proofs.Common.{◌∙◌}
use Rattle.cp_ends.proofs.states.States.row_with.Goals as goal

pub at-requires : goal.at-requires
at-requires c = c.requires.1.statuses.within

pub at-requires-2 : goal.at-requires-2
at-requires-2 c = c.requires.1.first.within

pub at-requires-3 : goal.at-requires-3
at-requires-3 c = c.requires.1.second.within

pub join-requires : goal.join-requires
join-requires c = (c.requires.0, c.at.ensures ∙ c.requires.1.statuses.is, c.at-2.ensures ∙ c.requires.1.first.is, c.at-3.ensures ∙ c.requires.1.second.is, c.requires.2, c.requires.3)

pub returns : goal.returns
returns c = λ row is wide. c.join.ensures row (c.at.ensures ∙ is.statuses.is) (c.at-2.ensures ∙ is.first.is) (c.at-3.ensures ∙ is.second.is) wide
