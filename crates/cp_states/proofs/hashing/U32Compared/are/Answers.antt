use Rattle.std.proofs.lemmas.Bool.Decides.{Decides-eqb}
use Rattle.std.proofs.lemmas.Slice.Eq.{slice_eq-Decides}
use Rattle.cp_states.proofs.hashing.U32Compared.are.Goals as goal

pub returns-clause-one : goal.returns-clause-one
returns-clause-one c = (slice_eq-Decides Decides-eqb c.args.list.now c.args.other.now c.eq.result c.eq.ensures).0

pub returns-clause-same : goal.returns-clause-same
returns-clause-same c = (slice_eq-Decides Decides-eqb c.args.list.now c.args.other.now c.eq.result c.eq.ensures).1
