use Rattle.cp_machine.proofs.Words.{subst, sym, LinesFit, MachineFits, Reaches}
use Rattle.cp_machine.proofs.frames.ReachingKept.{admitted_reaches}
use Rattle.cp_machine.proofs.rooms.KernelFits.{admitted_fits}
use Rattle.cp_machine.proofs.lines.KernelLines.{admitted_lines}
use Rattle.cp_machine.proofs.state.State.admit.Goals as goal

pub returns-clause-own : goal.returns-clause-own
returns-clause-own c = λ r own. record { sound = own.sound; fits = subst (MachineFits r) (sym c.admit_process.ensures.after) (admitted_fits r _ c.args.pid own.fits); lines = subst LinesFit (sym c.admit_process.ensures.after) (admitted_lines _ c.args.pid own.lines c.requires.line); reach = subst (Reaches r) (sym c.admit_process.ensures.after) (admitted_reaches r _ c.args.pid c.requires.line own.reach); reserved = c.admit_process.ensures.reserved r own.reserved }

pub admit_process-requires-clause-pid : goal.admit_process-requires-clause-pid
admit_process-requires-clause-pid c = c.requires.pid

pub returns-clause-after : goal.returns-clause-after
returns-clause-after c = c.admit_process.ensures.after
