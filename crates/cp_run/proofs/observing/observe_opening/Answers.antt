use Rattle.std.proofs.Common.{subst}
use Rattle.cp_run.proofs.Words.{◌∙◌, sym, false, machine_of}
use Rattle.cp_machine.proofs.CallerLemmas.{opening_ready}
use Rattle.cp_run.specs.Silent.{slots_by}
use Rattle.cp_run.proofs.Choosing.{opened_at}
use Rattle.cp_run.proofs.Folding.{fold_opened_at}
use Rattle.cp_run.proofs.Silently.{starts_by, turn_by}
use Rattle.cp_run.proofs.Tracing.{ok_as}
use Rattle.cp_run.proofs.Walking.{halts_so, walked_opened_at}
use Rattle.cp_run.proofs.observing.observe_opening.Goals as goal

pub turn_at-first-requires-clause-goes_on : goal.turn_at-first-requires-clause-goes_on
turn_at-first-requires-clause-goes_on g c = λ e. opening_ready c.args.job.now.program.now c.args.job.now.limits.discipline (machine_of c.args.state.now) c.processes-processes.ensures.sound.some c.requires.start

pub returns-clause-node : goal.returns-clause-node
returns-clause-node g c =
    let b = g.O.Observe.IS_SILENT in
    let r = c.args.job.now.program.now in
    let discipline = c.args.job.now.limits.discipline in
    let sys = slots_by b r discipline in
    let s = machine_of c.args.state.now in
    ok_as c.observe_stretch.result _ _ c.observe_stretch.ensures.walked (λ t is. opened_at sys c.args.job.now.limits.steps s c.turn_at-first.result (c.requires.start ∙ starts_by b r discipline) (c.turn_at-first.ensures.turn ∙ turn_by b r discipline s false 0) ∙ halts_so sys c.args.job.now.limits.steps s c.turn_at-first.result (machine_of c.observe_stretch.new.state) t is)

pub returns-clause-walked : goal.returns-clause-walked
returns-clause-walked g c =
    let b = g.O.Observe.IS_SILENT in
    let r = c.args.job.now.program.now in
    let discipline = c.args.job.now.limits.discipline in
    let s = machine_of c.args.state.now in
    ok_as c.observe_stretch.result _ _ c.observe_stretch.ensures.walked (λ t is. walked_opened_at (slots_by b r discipline) c.args.job.now.limits.steps s c.turn_at-first.result (c.requires.start ∙ starts_by b r discipline) (c.turn_at-first.ensures.turn ∙ turn_by b r discipline s false 0) ∙ is)

pub returns-clause-seen : goal.returns-clause-seen
returns-clause-seen g c =
    let b = g.O.Observe.IS_SILENT in
    let r = c.args.job.now.program.now in
    let discipline = c.args.job.now.limits.discipline in
    let s = machine_of c.args.state.now in
    ok_as c.observe_stretch.result _ _ c.observe_stretch.ensures.seen (λ t on x h. subst (g.O.Observe.holds c.observe_stretch.new.observer r discipline (machine_of c.observe_stretch.new.state)) (sym (fold_opened_at (slots_by b r discipline) (g.O.Observe.fold r discipline) c.args.job.now.limits.steps s c.turn_at-first.result x (c.requires.start ∙ starts_by b r discipline) (c.turn_at-first.ensures.turn ∙ turn_by b r discipline s false 0))) (on x h))
