use Rattle.std.proofs.Common.{get_or, subst}
use Rattle.cp_run.proofs.Words.{◌≡◌, ◌≤◌, ◌-◌, ◌+◌, ◌∙◌, ap, sym, refl, arith, length, machine_of, node_of, slots}
use Rattle.std.proofs.Math.Nat.{mul-le-mul_right}
use Rattle.cp_run.specs.Code.{halt_at}
use Rattle.cp_run.specs.Fold.{fold_chosen, fold_opened}
use Rattle.cp_run.specs.Run.{chosen, opened}
use Rattle.cp_run.specs.Silent.{slots_by}
use Rattle.cp_run.proofs.Observed.{reached_first, reached_further, stopped_behind, stopped_refused, stopped_there, unseen}
use Rattle.cp_run.proofs.TraceBounds.{ticks_within}
use Rattle.cp_run.proofs.TraceRuns.{some_left}
use Rattle.cp_run.proofs.Tracing.{ok_always, ok_as}
use Rattle.cp_run.proofs.observing.observe_run.Goals as goal

pub loop-place-init : goal.loop-place-init
loop-place-init g c =
    let r = c.args.job.now.program.now in
    let discipline = c.args.job.now.limits.discipline in
    let steps = c.args.job.now.limits.steps in
    let sys = slots r discipline in
    let fold = g.O.Observe.fold r discipline in
    let s = machine_of c.observe_opening.new.state in
    let node = node_of c.halt_at-halt.result s in
    let comes : opened sys steps ≡ node = subst (λ b. opened (slots_by b r discipline) steps ≡ node_of (halt_at c.in_ok-first.first) s) c.requires.loud c.in_ok-first.ensures.node ∙ ap (λ h. node_of h s) (sym c.halt_at-halt.ensures) in
    let added = c.in_ok-first.ensures.steps in
    record {
      own = c.in_ok-first.ensures.own;
      within = omega arith;
      reached = reached_first sys unseen c.args.choices steps c.args.word.now tt node tt comes refl;
      seen = λ x h. (fold_opened sys fold steps x, subst (λ b. g.O.Observe.holds c.observe_opening.new.observer r discipline s (fold_opened (slots_by b r discipline) fold steps x)) c.requires.loud (c.in_ok-first.ensures.seen x h), reached_first sys fold c.args.choices steps c.args.word.now x node (fold_opened sys fold steps x) comes refl);
      ticks = omega (arith, added);
    }

pub returns-in_err-next-clause-ticks : goal.returns-in_err-next-clause-ticks
returns-in_err-next-clause-ticks g c =
    let more = some_left (c.args.choices - c.loop-place.place) c.loop-place.halt (sym c.is_over.ensures ∙ c.if-is_over.false) in
    let so_far = c.loop-place.invariant.ticks in
    let added = c.observe_choice.ensures.steps in
    let within : c.loop-place.place + 2 ≤ c.args.choices + 1 = omega (arith, more) in
    omega (arith, so_far, added, mul-le-mul_right c.args.job.now.limits.steps within)

pub returns-then-is_over : goal.returns-then-is_over
returns-then-is_over g c =
    let r = c.args.job.now.program.now in
    let discipline = c.args.job.now.limits.discipline in
    let sys = slots r discipline in
    let over = sym c.is_over.ensures ∙ c.if-is_over.true in
    let n = c.loop-place.place in
    let s = machine_of c.loop-place.state in
    let stopped = stopped_there sys unseen c.args.choices c.args.job.now.limits.steps c.args.word.now tt n c.loop-place.halt s tt over c.loop-place.invariant.reached in
    record {
      answer = ok_as c.end_of_word.result _ _ c.end_of_word.ensures (λ end is. is ∙ stopped.answer);
      seen = ok_always c.end_of_word.result _ (λ x h.
          (let so_far = c.loop-place.invariant.seen x h in
          let there = stopped_there sys (g.O.Observe.fold r discipline) c.args.choices c.args.job.now.limits.steps c.args.word.now x n c.loop-place.halt s so_far.0 over so_far.2 in
          subst (g.O.Observe.holds c.loop-place.observer r discipline s) there.seen so_far.1));
      stop = ok_always c.end_of_word.result _ stopped.stop;
      own = c.loop-place.invariant.own;
      ticks = ticks_within _ _ _ _ _ c.loop-place.invariant.ticks c.loop-place.invariant.within;
    }

pub returns-then-not-may : goal.returns-then-not-may
returns-then-not-may g c =
    let r = c.args.job.now.program.now in
    let discipline = c.args.job.now.limits.discipline in
    let sys = slots r discipline in
    let fold = g.O.Observe.fold r discipline in
    let going = sym c.is_over.ensures ∙ c.if-is_over.false in
    let n = c.loop-place.place in
    let s = machine_of c.loop-place.state in
    let off = sym c.may.ensures ∙ c.if-not-may.true in
    let stopped = stopped_refused sys unseen c.args.choices c.args.job.now.limits.steps c.args.word.now tt n c.loop-place.halt s tt going (omega arith) tt off refl c.loop-place.invariant.reached in
    record {
      answer = stopped.answer;
      seen = λ x h.
          (let so_far = c.loop-place.invariant.seen x h in
          let y = fold.on_choice s _ so_far.0 in
          let there = stopped_refused sys fold c.args.choices c.args.job.now.limits.steps c.args.word.now x n c.loop-place.halt s so_far.0 going (omega arith) y off refl so_far.2 in
          subst (g.O.Observe.holds c.see_choice.new.self r discipline s) there.seen (c.see_choice.ensures so_far.0 so_far.1));
      stop = stopped.stop;
      own = c.loop-place.invariant.own;
      ticks = ticks_within _ _ _ _ _ c.loop-place.invariant.ticks c.loop-place.invariant.within;
    }

pub loop-place-preserved : goal.loop-place-preserved
loop-place-preserved g c =
    let r = c.args.job.now.program.now in
    let discipline = c.args.job.now.limits.discipline in
    let steps = c.args.job.now.limits.steps in
    let sys = slots r discipline in
    let fold = g.O.Observe.fold r discipline in
    let going = sym c.is_over.ensures ∙ c.if-is_over.false in
    let n = c.loop-place.place in
    let s = machine_of c.loop-place.state in
    let p = get_or c.args.word.now n 0 in
    let t = machine_of c.observe_choice.new.state in
    let node = node_of c.halt_at-halt-in-loop-place.result t in
    let on = sym c.may.ensures ∙ c.if-not-may.false in
    let comes : chosen sys steps s p ≡ node = subst (λ b. chosen (slots_by b r discipline) steps s p ≡ node_of (halt_at c.in_ok-next.next) t) c.requires.loud c.in_ok-next.ensures.node ∙ ap (λ h. node_of h t) (sym c.halt_at-halt-in-loop-place.ensures) in
    let more = some_left (c.args.choices - n) c.loop-place.halt going in
    let so_far = c.loop-place.invariant.ticks in
    let added = c.in_ok-next.ensures.steps in
    record {
      own = c.in_ok-next.ensures.own;
      within = omega (arith, more);
      reached = reached_further sys unseen c.args.choices steps c.args.word.now tt n c.loop-place.halt s tt going (omega arith) node tt tt on refl comes refl c.loop-place.invariant.reached;
      seen = λ x h.
          (let known = c.loop-place.invariant.seen x h in
          let y = fold.on_choice s p known.0 in
          let z = fold_chosen sys fold steps s p y in
          let now = subst (λ b. g.O.Observe.holds c.observe_choice.new.observer r discipline t (fold_chosen (slots_by b r discipline) fold steps s p y)) c.requires.loud (c.in_ok-next.ensures.seen y (c.see_choice.ensures known.0 known.1)) in
          (z, now, reached_further sys fold c.args.choices steps c.args.word.now x n c.loop-place.halt s known.0 going (omega arith) node y z on refl comes refl known.2));
      ticks = omega (arith, so_far, added);
    }

pub returns : goal.returns
returns g c =
    let r = c.args.job.now.program.now in
    let discipline = c.args.job.now.limits.discipline in
    let sys = slots r discipline in
    let n = c.loop-place.place in
    let s = machine_of c.loop-place.state in
    let all : n ≡ length c.args.word.now = omega arith in
    let stopped = stopped_behind sys unseen c.args.choices c.args.job.now.limits.steps c.args.word.now tt n c.loop-place.halt s tt all c.loop-place.invariant.reached in
    record {
      answer = ok_as c.end_of_word-2.result _ _ c.end_of_word-2.ensures (λ end is. is ∙ stopped.answer);
      seen = ok_always c.end_of_word-2.result _ (λ x h.
          (let so_far = c.loop-place.invariant.seen x h in
          let there = stopped_behind sys (g.O.Observe.fold r discipline) c.args.choices c.args.job.now.limits.steps c.args.word.now x n c.loop-place.halt s so_far.0 all so_far.2 in
          subst (g.O.Observe.holds c.loop-place.observer r discipline s) there.seen so_far.1));
      stop = ok_always c.end_of_word-2.result _ stopped.stop;
      own = c.loop-place.invariant.own;
      ticks = ticks_within _ _ _ _ _ c.loop-place.invariant.ticks c.loop-place.invariant.within;
    }
