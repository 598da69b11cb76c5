use Rattle.std.proofs.Common.{subst}
use Rattle.cp_run.proofs.Words.{◌∙◌, sym, machine_of}
use Rattle.cp_run.specs.Silent.{slots_by}
use Rattle.cp_run.proofs.Tracing.{ok_as}
use Rattle.cp_run.proofs.Walking.{halts_so}
use Rattle.cp_run.proofs.observing.observe_choice.Goals as goal

pub returns-clause-node : goal.returns-clause-node
returns-clause-node g c =
    let b = g.O.Observe.IS_SILENT in
    let sys = slots_by b c.args.job.now.program.now c.args.job.now.limits.discipline in
    ok_as c.observe_stretch.result _ _ c.observe_stretch.ensures.walked (λ t is. c.in_ok-turn.ensures.node b ∙ halts_so sys c.args.job.now.limits.steps (machine_of c.take_choice.new.state) c.in_ok-turn.turn (machine_of c.observe_stretch.new.state) t is)

pub returns-clause-walked : goal.returns-clause-walked
returns-clause-walked g c = ok_as c.observe_stretch.result _ _ c.observe_stretch.ensures.walked (λ t is. c.in_ok-turn.ensures.walked g.O.Observe.IS_SILENT ∙ is)

pub returns-clause-seen : goal.returns-clause-seen
returns-clause-seen g c =
    ok_as c.observe_stretch.result _ _ c.observe_stretch.ensures.seen (λ t on x h.
    (let chosen = c.in_ok-turn.ensures.seen g.O.Observe.IS_SILENT x h in
    subst (g.O.Observe.holds c.observe_stretch.new.observer c.args.job.now.program.now c.args.job.now.limits.discipline (machine_of c.observe_stretch.new.state)) (sym chosen.2) (on chosen.0 chosen.1)))
