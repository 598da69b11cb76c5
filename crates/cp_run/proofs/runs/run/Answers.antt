use Rattle.std.proofs.Common.{◌≡◌, ◌-◌, ◌+◌, ◌∙◌, ap, sym, subst, arith, drop, get_or, length, true, false, IfOk, List, [], ℕ}
use Rattle.std.proofs.Math.Seq.{drop-length}
use Rattle.cp_run.proofs.Words.{machine_of, Answer, Ended, may, run, run_from, slots}
use Rattle.cp_run.specs.Code.{answer_of, node_of, further}
use Rattle.cp_run.proofs.TraceBounds.{ticks_within}
use Rattle.cp_run.proofs.Running.{over_at, limit_at, refused_at, goes_at, drop_next}
use Rattle.cp_run.proofs.Failing.{none_well}
use Rattle.cp_run.proofs.runs.run.Goals as goal

pub returns-in-Ended-clause-answer : goal.returns-in-Ended-clause-answer
returns-in-Ended-clause-answer g c =
    let sys = slots c.args.job.now.program.now c.args.job.now.limits.discipline in
    let m = machine_of c.loop-place.state in
    let n = c.loop-place.place in
    let k = c.args.job.now.limits.choices - n in
    let w = drop n c.args.word.now in
    ap (λ o. Ended o n) c.in_ok-outcome-in-Ended.ensures ∙ sym (c.loop-place.invariant.same ∙ ap (λ h. further n (run_from sys c.args.job.now.limits.steps k w (node_of h m))) c.in-Ended.is ∙ over_at sys c.args.job.now.limits.steps k n w c.in-Ended.kind m)

pub returns-then-place-job-clause-answer : goal.returns-then-place-job-clause-answer
returns-then-place-job-clause-answer g c =
    let sys = slots c.args.job.now.program.now c.args.job.now.limits.discipline in
    let m = machine_of c.loop-place.state in
    let n = c.loop-place.place in
    let k = c.args.job.now.limits.choices - n in
    let w = drop n c.args.word.now in
    ap (λ o. Ended o n) c.in_ok-outcome-in-Choice.ensures ∙ sym (c.loop-place.invariant.same ∙ ap (λ h. further n (run_from sys c.args.job.now.limits.steps k w (node_of h m))) c.in-Choice.is ∙ limit_at sys c.args.job.now.limits.steps k n w m (omega arith))

pub returns-then-not-may-clause-answer : goal.returns-then-not-may-clause-answer
returns-then-not-may-clause-answer g c =
    let sys = slots c.args.job.now.program.now c.args.job.now.limits.discipline in
    let m = machine_of c.loop-place.state in
    let n = c.loop-place.place in
    let k = c.args.job.now.limits.choices - n in
    let w = drop n c.args.word.now in
    let p = get_or c.args.word.now n 0 in
    let off : may sys m p ≡ false = sym c.may.ensures ∙ c.if-not-may.true in
    let within = c.loop-place.invariant.within in
    sym (c.loop-place.invariant.same ∙ ap (λ h. further n (run_from sys c.args.job.now.limits.steps k w (node_of h m))) c.in-Choice.is ∙ refused_at sys c.args.job.now.limits.steps k (c.args.job.now.limits.choices - (n + 1)) n p w (drop (n + 1) c.args.word.now) m (omega (arith, within)) (drop_next c.args.word.now n (omega arith)) off)

pub choose-halt-requires-clause-may : goal.choose-halt-requires-clause-may
choose-halt-requires-clause-may g c = sym c.may.ensures ∙ c.if-not-may.false

pub loop-place-preserved : goal.loop-place-preserved
loop-place-preserved g c =
    let sys = slots c.args.job.now.program.now c.args.job.now.limits.discipline in
    let m = machine_of c.loop-place.state in
    let n = c.loop-place.place in
    let k = c.args.job.now.limits.choices - n in
    let j = c.args.job.now.limits.choices - (n + 1) in
    let w = drop n c.args.word.now in
    let rest = drop (n + 1) c.args.word.now in
    let p = get_or c.args.word.now n 0 in
    let on : may sys m p ≡ true = sym c.may.ensures ∙ c.if-not-may.false in
    let within = c.loop-place.invariant.within in
    let so_far = c.loop-place.invariant.ticks in
    let more = c.choose-halt.ensures.steps in
    record {
      own = c.choose-halt.ensures.own;
      within = omega (arith, within);
      same = c.loop-place.invariant.same ∙ ap (λ h. further n (run_from sys c.args.job.now.limits.steps k w (node_of h m))) c.in-Choice.is ∙ goes_at sys c.args.job.now.limits.steps k j n p w rest m (omega (arith, within)) (drop_next c.args.word.now n (omega arith)) on ∙ ap (λ x. further (n + 1) (run_from sys c.args.job.now.limits.steps j rest x)) c.choose-halt.ensures.node;
      ticks = omega (arith, so_far, more);
    }

pub returns-clause-answer : goal.returns-clause-answer
returns-clause-answer g c =
    let sys = slots c.args.job.now.program.now c.args.job.now.limits.discipline in
    let word = c.args.word.now in
    let node = node_of c.loop-place.halt (machine_of c.loop-place.state) in
    let at : c.loop-place.place ≡ length word = omega arith in
    let reached : run sys c.args.job.now.limits.choices c.args.job.now.limits.steps word ≡ further (length word) (run_from sys c.args.job.now.limits.steps (c.args.job.now.limits.choices - length word) [] node) =
    c.loop-place.invariant.same
    ∙ ap (λ n. further n (run_from sys c.args.job.now.limits.steps (c.args.job.now.limits.choices - n) (drop n word) node)) at
    ∙ ap (λ (w : List ℕ). further (length word) (run_from sys c.args.job.now.limits.steps (c.args.job.now.limits.choices - length word) w node)) (drop-length word) in
    subst (λ (a : Answer). IfOk c.end_of_word.result (λ end. answer_of end ≡ a)) (sym reached) c.end_of_word.ensures

pub returns-in-Ended-clause-ticks : goal.returns-in-Ended-clause-ticks
returns-in-Ended-clause-ticks g c = ticks_within _ _ _ _ _ c.loop-place.invariant.ticks c.loop-place.invariant.within

pub returns-then-place-job-clause-ticks : goal.returns-then-place-job-clause-ticks
returns-then-place-job-clause-ticks g c = ticks_within _ _ _ _ _ c.loop-place.invariant.ticks c.loop-place.invariant.within

pub returns-then-not-may-clause-ticks : goal.returns-then-not-may-clause-ticks
returns-then-not-may-clause-ticks g c = ticks_within _ _ _ _ _ c.loop-place.invariant.ticks c.loop-place.invariant.within

pub returns-clause-ticks : goal.returns-clause-ticks
returns-clause-ticks g c = ticks_within _ _ _ _ _ c.loop-place.invariant.ticks c.loop-place.invariant.within

pub returns-in_err-outcome-in-Ended-clause-ticks : goal.returns-in_err-outcome-in-Ended-clause-ticks
returns-in_err-outcome-in-Ended-clause-ticks g c = ticks_within _ _ _ _ _ c.loop-place.invariant.ticks c.loop-place.invariant.within

pub returns-in_err-outcome-in-Choice-clause-ticks : goal.returns-in_err-outcome-in-Choice-clause-ticks
returns-in_err-outcome-in-Choice-clause-ticks g c = ticks_within _ _ _ _ _ c.loop-place.invariant.ticks c.loop-place.invariant.within

pub returns-in_err-state-clause-answer : goal.returns-in_err-state-clause-answer
returns-in_err-state-clause-answer g c = none_well c.from_residual.result _ _ c.from_residual.ensures.1

pub returns-in_err-outcome-in-Ended-clause-answer : goal.returns-in_err-outcome-in-Ended-clause-answer
returns-in_err-outcome-in-Ended-clause-answer g c = none_well c.from_residual-in_err-outcome-in-Ended.result _ _ c.from_residual-in_err-outcome-in-Ended.ensures.1

pub returns-in_err-outcome-in-Choice-clause-answer : goal.returns-in_err-outcome-in-Choice-clause-answer
returns-in_err-outcome-in-Choice-clause-answer g c = none_well c.from_residual-in_err-outcome-in-Choice.result _ _ c.from_residual-in_err-outcome-in-Choice.ensures.1

pub may-requires : goal.may-requires
may-requires g c = record { own = c.loop-place.invariant.own }

pub choose-halt-requires-clause-own : goal.choose-halt-requires-clause-own
choose-halt-requires-clause-own g c = c.loop-place.invariant.own
