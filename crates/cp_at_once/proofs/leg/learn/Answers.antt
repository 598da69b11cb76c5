use Rattle.std.proofs.Common.{[], subst, sym}
use Rattle.cp_ends.specs.Rows.{IsRowFor}
use Rattle.cp_at_once.proofs.leg.learn.Goals as goal

pub leads-requires-clause-here : goal.leads-requires-clause-here
leads-requires-clause-here c =
    let rows = c.args.rows.now in
    let m = c.requires.row.0 in
    ([], m, c.requires.known, subst (λ l. IsRowFor c.args.job.now.program.now rows l m) (sym c.copy_from_slice.ensures.after) c.requires.row.1, c.requires.row.2)

pub returns-clause-kept : goal.returns-clause-kept
returns-clause-kept c = record { known = c.in_ok-leads.ensures.kept []; rows = c.leads.ensures.rows; halved = c.leads.ensures.lists; table = c.leads.ensures.table; ruled = c.leads.ensures.ruled }
