use Rattle.cp_machine.proofs.Words.{IsTaken, subst, sym}
use Rattle.cp_machine.proofs.local.take_local_item.Goals as goal

pub perform_local-requires : goal.perform_local-requires
perform_local-requires c = subst (IsTaken c.args.program.now c.args.state.now c.args.pid c.args.at) (sym c.item-item.ensures.value) c.requires
