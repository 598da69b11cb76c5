use Rattle.cp_at_once.proofs.Nothing.{nothing_kept}
use Rattle.cp_at_once.proofs.kept.Kept.new.Goals as goal

pub returns-clause-kept : goal.returns-clause-kept
returns-clause-kept c = nothing_kept c.args.job.now.program.now _ c.new-2.ensures.empty c.in_ok-store.ensures.states
