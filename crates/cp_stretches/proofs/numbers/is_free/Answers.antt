use Rattle.std.proofs.Common.{ap}
use Rattle.std.specs.Prelude.{◌==◌}
use Rattle.cp_states.specs.Numbers.{number_at}
use Rattle.cp_stretches.proofs.numbers.is_free.Goals as goal

pub returns : goal.returns
returns c = ap (λ k. number_at c.args.row.now k == 0) c.pending_position.ensures
