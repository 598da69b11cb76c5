use Rattle.cp_at_once.proofs.Nothing.{nothing_found}
use Rattle.cp_at_once.proofs.found.FoundAtOnce.new.Goals as goal

pub returns-clause-nothing : goal.returns-clause-nothing
returns-clause-nothing c = λ g most. nothing_found c.args.job.now.program.now g most _ c.in_ok-new.ensures.kept c.new-2.ensures.items c.new-3.ensures.items
