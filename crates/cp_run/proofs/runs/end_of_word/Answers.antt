use Rattle.cp_run.proofs.Words.{◌∙◌, sym, ap, arith, refl, ◌-◌, ◌+◌, [], machine_of, Ended, Wants, run_from, slots, node_of, further}
use Rattle.cp_run.proofs.Running.{over_at, limit_at, wants_at}
use Rattle.cp_run.proofs.runs.end_of_word.Goals as goal

pub returns-in_ok-outcome_at-in-Ended : goal.returns-in_ok-outcome_at-in-Ended
returns-in_ok-outcome_at-in-Ended c =
    let sys = slots c.args.job.now.program.now c.args.job.now.limits.discipline in
    let m = machine_of c.args.state.now in
    let k = c.args.choices - c.args.used in
    ap (λ o. Ended o c.args.used) c.in_ok-outcome_at-in-Ended.ensures ∙ sym (ap (λ h. further c.args.used (run_from sys c.args.job.now.limits.steps k [] (node_of h m))) c.in-Ended.is ∙ over_at sys c.args.job.now.limits.steps k c.args.used [] c.in-Ended.kind m)

pub returns-in_ok-outcome_at-in-Choice : goal.returns-in_ok-outcome_at-in-Choice
returns-in_ok-outcome_at-in-Choice c =
    let sys = slots c.args.job.now.program.now c.args.job.now.limits.discipline in
    let m = machine_of c.args.state.now in
    let k = c.args.choices - c.args.used in
    ap (λ o. Ended o c.args.used) c.in_ok-outcome_at-in-Choice.ensures ∙ sym (ap (λ h. further c.args.used (run_from sys c.args.job.now.limits.steps k [] (node_of h m))) c.in-Choice.is ∙ limit_at sys c.args.job.now.limits.steps k c.args.used [] m (omega arith))

pub returns-else-used-choices : goal.returns-else-used-choices
returns-else-used-choices c =
    let sys = slots c.args.job.now.program.now c.args.job.now.limits.discipline in
    let m = machine_of c.args.state.now in
    let k = c.args.choices - c.args.used in
    ap Wants c.candidates.ensures ∙ sym (ap (λ h. further c.args.used (run_from sys c.args.job.now.limits.steps k [] (node_of h m))) c.in-Choice.is ∙ wants_at sys c.args.job.now.limits.steps k (c.args.choices - (c.args.used + 1)) c.args.used [] m (omega arith) refl)
