use Rattle.std.proofs.Common.{◌∙◌, sym, ap, true, false, is_some}
use Rattle.cp_run.proofs.Words.{machine_of, slots, pending_is}
use Rattle.cp_run.proofs.Choosing.{wanted_line, wanted_ready}
use Rattle.cp_run.proofs.Owning.{own_ready, own_line}
use Rattle.cp_run.proofs.choice.candidates.Goals as goal

pub returns-in-Some : goal.returns-in-Some
returns-in-Some c =
    let m = machine_of c.args.state.now in
    c.waiting.ensures ∙ own_line c.args.job.now.program.now c.args.state.now c.in-Some.monitor c.requires.own (sym c.pending.ensures ∙ c.in-Some.is) ∙ wanted_line (slots c.args.job.now.program.now c.args.job.now.limits.discipline) m (pending_is m c.pending.result true c.pending.ensures (ap is_some c.in-Some.is))

pub returns-in-None : goal.returns-in-None
returns-in-None c =
    let m = machine_of c.args.state.now in
    c.ready.ensures ∙ own_ready c.args.job.now.program.now c.args.state.now c.requires.own ∙ wanted_ready (slots c.args.job.now.program.now c.args.job.now.limits.discipline) m (pending_is m c.pending.result false c.pending.ensures (ap is_some c.in-None.is))
