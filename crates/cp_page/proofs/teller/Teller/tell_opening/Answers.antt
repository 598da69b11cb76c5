use Rattle.std.proofs.Common.{ap}
use Rattle.cp_machine.specs.System.{machine_of, output_of}
use Rattle.cp_run.specs.Code.{halt_at, node_of}
use Rattle.cp_run.proofs.Tracing.{ok_as}
use Rattle.cp_ends.specs.Arrivals.{goal_at}
use Rattle.cp_page.proofs.Leading.{opening_halts, opening_leads}
use Rattle.cp_page.proofs.teller.Teller.tell_opening.Goals as goal

pub arrive-requires-clause-quiet : goal.arrive-requires-clause-quiet
arrive-requires-clause-quiet g c = c.in_ok-turn.ensures.seen tt (λ on. ap output_of c.requires.start)

pub returns-clause-node : goal.returns-clause-node
returns-clause-node g c =
    ok_as c.arrive.result _ _ c.arrive.ensures.node (λ h halts. opening_halts g.K.Schedules.IS_SILENT c.args.job.now.program.now c.args.job.now.limits.discipline c.args.job.now.limits.steps h (machine_of c.arrive.new.state) (node_of (halt_at c.in_ok-turn.turn) (machine_of c.observe_opening.new.state)) c.in_ok-turn.ensures.node halts)

pub returns-clause-goal : goal.returns-clause-goal
returns-clause-goal g c =
    ok_as c.arrive.result _ _ c.arrive.ensures.goal (λ h leads. opening_leads g.K.Schedules.IS_SILENT c.args.job.now.program.now c.args.job.now.limits.discipline c.args.job.now.limits.steps (goal_at h (machine_of c.arrive.new.state)) (machine_of c.observe_opening.new.state) c.in_ok-turn.turn c.in_ok-turn.ensures.walked leads)
