use Rattle.std.proofs.Common.{◌∙◌, ap, length}
use Rattle.cp_ends.proofs.rows.RowSearch.start.Goals as goal

pub returns-clause-room : goal.returns-clause-room
returns-clause-room g c = record { ruled = c.in_ok-found.ensures.ruled; row = ap length (c.in_ok-row.ensures.items ∙ c.deref.ensures.value) ∙ c.in_ok-found.ensures.nothing.states.standing.row.long }
