use Rattle.cp_machine.proofs.Words.{◌<◌, length, subst, sym, Machine}
use Rattle.cp_machine.proofs.Outcomes.{replaced_within}
use Rattle.cp_machine.proofs.PremiseLemmas.{thread_gate}
use Rattle.cp_machine.proofs.queue.continue_in.Goals as goal

pub signal-requires : goal.signal-requires
signal-requires c =
    let s = c.args.state.now in
    let t = c.replace.new.state in
    record {
      enters = record { within = replaced_within s t c.args.pid _ c.replace.ensures.after c.requires.replaces.within; gate = thread_gate s t c.args.pid _ c.args.monitor c.replace.ensures.after c.requires.gate };
      cell = subst (λ (m : Machine). c.args.cell < length m.permanents) (sym c.replace.ensures.after) c.requires.cell;
    }

pub replace-requires : goal.replace-requires
replace-requires c = c.requires.replaces
