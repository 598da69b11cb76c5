use Rattle.cp_ends.proofs.Keeping.{no_states}
use Rattle.cp_ends.proofs.states.States.new.Goals as goal

pub returns-clause-states : goal.returns-clause-states
returns-clause-states c = no_states c.args.job.now.program.now _ c.in_ok-standing.ensures.cache c.in_ok-standing.ensures.standing c.new-known.ensures.empty c.new-moves.ensures
