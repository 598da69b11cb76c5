use Rattle.std.proofs.Common.{◌∙◌, ap}
use Rattle.cp_machine.specs.System.{machine_of, output_of}
use Rattle.cp_run.specs.Code.{halt_at, node_of}
use Rattle.cp_run.proofs.Tracing.{ok_as}
use Rattle.cp_ends.specs.Arrivals.{goal_at}
use Rattle.cp_page.proofs.Leading.{choice_halts, choice_leads, may_left, quiet_left}
use Rattle.cp_page.proofs.teller.Teller.tell_choice.Goals as goal

pub observe_choice-requires-clause-may : goal.observe_choice-requires-clause-may
observe_choice-requires-clause-may g c = may_left g.K.Schedules.IS_SILENT c.args.job.now.program.now c.args.job.now.limits.discipline (machine_of c.args.state.now) (machine_of c.forget.new.state) c.args.process c.forget.ensures.state c.requires.may

pub arrive-requires-clause-quiet : goal.arrive-requires-clause-quiet
arrive-requires-clause-quiet g c = c.in_ok-turn.ensures.seen tt (λ on. ap output_of c.forget.ensures.state ∙ quiet_left g.K.Schedules.IS_SILENT (machine_of c.args.state.now) on)

pub returns-clause-node : goal.returns-clause-node
returns-clause-node g c =
    ok_as c.arrive.result _ _ c.arrive.ensures.node (λ h halts. choice_halts g.K.Schedules.IS_SILENT c.args.job.now.program.now c.args.job.now.limits.discipline c.args.job.now.limits.steps (machine_of c.args.state.now) (machine_of c.forget.new.state) c.args.process h (machine_of c.arrive.new.state) (node_of (halt_at c.in_ok-turn.turn) (machine_of c.observe_choice.new.state)) c.forget.ensures.state c.in_ok-turn.ensures.node halts)

pub returns-clause-goal : goal.returns-clause-goal
returns-clause-goal g c =
    ok_as c.arrive.result _ _ c.arrive.ensures.goal (λ h leads. choice_leads g.K.Schedules.IS_SILENT c.args.job.now.program.now c.args.job.now.limits.discipline c.args.job.now.limits.steps (machine_of c.args.state.now) (machine_of c.forget.new.state) c.args.process (goal_at h (machine_of c.arrive.new.state)) (machine_of c.observe_choice.new.state) c.in_ok-turn.turn c.forget.ensures.state c.in_ok-turn.ensures.walked leads)
