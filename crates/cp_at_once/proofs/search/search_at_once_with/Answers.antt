use Rattle.cp_at_once_laws.proofs.names.OnNames.{leaves_nothing_out}
use Rattle.cp_at_once.proofs.Saying.{says}
use Rattle.cp_at_once.proofs.search.search_at_once_with.Goals as goal

pub returns : goal.returns
returns g c = says leaves_nothing_out c.args.job.now.program.now c.args.job.now.limits.discipline c.args.job.now.limits.steps c.args.most c.search_with.result c.search_with.ensures
