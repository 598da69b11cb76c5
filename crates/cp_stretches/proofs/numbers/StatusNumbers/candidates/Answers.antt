use Rattle.std.proofs.Common.{◌∙◌, arith}
use Rattle.cp_stretches.proofs.Statuses.{candidates_by, processes_few}
use Rattle.cp_stretches.proofs.numbers.StatusNumbers.candidates.Goals as goal

pub wanted-requires : goal.wanted-requires
wanted-requires c = c.requires

pub those_with-requires-clause-few : goal.those_with-requires-clause-few
those_with-requires-clause-few c = processes_few c.requires.0 c.requires.1 c.args.table.now c.args.self.now c.requires.2 c.args.row.now c.requires.3

pub those_with-requires-clause-long : goal.those_with-requires-clause-long
those_with-requires-clause-long c = omega (arith, c.requires.3.stands.long)

pub returns : goal.returns
returns c = λ r s m discipline can.
    c.those_with.ensures ∙ candidates_by r s c.args.table.now c.args.self.now m c.args.row.now can discipline c.wanted.result c.wanted.ensures.ready c.wanted.ensures.gate
