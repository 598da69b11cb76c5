use Rattle.std.proofs.Common.{◌∙◌, ◌≤◌, ap, subst, sym}
use Rattle.cp_states.specs.Numbers.{number_at}
use Rattle.cp_stretches.proofs.numbers.pending_monitor.Goals as goal

pub option_of-requires : goal.option_of-requires
option_of-requires c = subst (λ k. number_at c.args.row.now k ≤ 256) (sym c.pending_position.ensures) c.requires.few

pub returns : goal.returns
returns c = c.option_of.ensures ∙ ap (number_at c.args.row.now) c.pending_position.ensures
