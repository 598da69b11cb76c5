use Rattle.std.proofs.Common.{subst}
use Rattle.cp_run.proofs.Words.{◌≡◌, ◌<◌, ◌-◌, ◌∙◌, ap, sym, arith, refl}
use Rattle.cp_machine.specs.System.{machine_of}
use Rattle.cp_run.specs.Fold.{fold_stretch, fold_turn, walked}
use Rattle.cp_run.specs.Run.{turn_after}
use Rattle.cp_run.specs.Silent.{slots_by}
use Rattle.cp_run.specs.declared.outcome.Turn.TheVariants.{Goes}
use Rattle.cp_run.proofs.Folding.{fold_further}
use Rattle.cp_run.proofs.Observed.{goes_always, goes_none, shows_no_more}
use Rattle.cp_run.proofs.Walking.{walked_on, walked_up}
use Rattle.cp_run.proofs.observing.observe_stretch.Goals as goal
use Rattle.cp_run.proofs.observing.observe_stretch.Goals.{else-loop-test, then-loop-test+in_default}

pub loop-preserved : goal.loop-preserved
loop-preserved g c =
    let r = c.args.job.now.program.now in
    let discipline = c.args.job.now.limits.discipline in
    let sys = slots_by g.O.Observe.IS_SILENT r discipline in
    let fold = g.O.Observe.fold r discipline in
    let lt : c.loop.counter < c.args.job.now.limits.steps = omega arith in
    let left = c.args.job.now.limits.steps - c.loop.counter in
    let p = c.in-Goes.process in
    let s = machine_of c.loop.state in
    let t = machine_of c.see_step.new.state in
    let expected = c.in_ok-expect_step.ensures in
    let made = c.in_ok-next.ensures in
    let same = expected.same c.if-branch.false in
    let state = made.state ∙ ap (λ m. sys.step m p) same in
    let turn = made.turn ∙ ap (λ m. turn_after sys t p (sys.event m p)) same in
    record {
      own = made.own;
      ready = made.ready;
      free = made.free;
      walked = c.loop.invariant.walked ∙ ap (walked sys left s) c.in-Goes.is ∙ walked_on sys c.args.job.now.limits.steps c.loop.counter s t p c.in_ok-next.next lt state turn;
      seen = λ x h.
          (let so_far = c.loop.invariant.seen x h in
          let y = so_far.0 in
          let expects = subst (λ m. g.O.Observe.expects c.expect_step.new.observer r discipline m p y) (sym same) (expected.expects c.if-branch.false y so_far.1) in
          let z = fold.on_step (machine_of c.expect_step.new.state) p (sys.event (machine_of c.expect_step.new.state) p) t y in
          (z, made.seen y expects, fold_further sys fold c.args.job.now.limits.steps c.loop.counter s t p (sys.event s p) c.in_ok-next.next (fold_turn (fold_stretch sys fold c.args.job.now.limits.steps (machine_of c.args.state.now)) c.args.turn x) y z lt state refl turn (so_far.2 ∙ ap (λ u. fold_turn (fold_stretch sys fold left s) u y) c.in-Goes.is) (ap (λ m. fold.on_step m p (sys.event m p) t y) same)));
      steps = let none = expected.none c.if-branch.false in let more = made.steps in let so_far = c.loop.invariant.steps in omega (arith, none, more, so_far);
    }

pub loop-preserved-then-branch : goal.loop-preserved-then-branch
loop-preserved-then-branch g c =
    let r = c.args.job.now.program.now in
    let discipline = c.args.job.now.limits.discipline in
    let sys = slots_by g.O.Observe.IS_SILENT r discipline in
    let fold = g.O.Observe.fold r discipline in
    let lt : c.loop.counter < c.args.job.now.limits.steps = omega arith in
    let left = c.args.job.now.limits.steps - c.loop.counter in
    let p = c.in-Goes.process in
    let s = machine_of c.loop.state in
    let t = machine_of c.expect_step.new.state in
    let passed = c.in_ok-expect_step.ensures in
    let state = passed.state c.if-branch.true in
    let turn = passed.turn c.if-branch.true in
    record {
      own = passed.own;
      ready = passed.ready;
      free = passed.free;
      walked = c.loop.invariant.walked ∙ ap (walked sys left s) c.in-Goes.is ∙ walked_on sys c.args.job.now.limits.steps c.loop.counter s t p (Goes p) lt state turn;
      seen = λ x h.
          (let so_far = c.loop.invariant.seen x h in
          let y = so_far.0 in
          let z = fold.on_step s p (sys.event s p) t y in
          (z, passed.seen c.if-branch.true y so_far.1, fold_further sys fold c.args.job.now.limits.steps c.loop.counter s t p (sys.event s p) (Goes p) (fold_turn (fold_stretch sys fold c.args.job.now.limits.steps (machine_of c.args.state.now)) c.args.turn x) y z lt state refl turn (so_far.2 ∙ ap (λ u. fold_turn (fold_stretch sys fold left s) u y) c.in-Goes.is) refl));
      steps = let more = passed.steps in let so_far = c.loop.invariant.steps in omega (arith, more, so_far);
    }

pub returns-clause-walked : goal.returns-clause-walked
returns-clause-walked g c =
    let sys = slots_by g.O.Observe.IS_SILENT c.args.job.now.program.now c.args.job.now.limits.discipline in
    let left = c.args.job.now.limits.steps - c.loop.counter in
    c.loop.invariant.walked
    ∙ walked_up sys left (machine_of c.loop.state) c.loop.next (elim c.loop-test.branch [
      | else-loop-test w ↦ let over = w.loop-test.false in goes_always c.loop.next (left ≡ 0) (omega (arith, over))
      | then-loop-test+in_default w ↦ goes_none c.loop.next (left ≡ 0) w.in_default.not-Goes
    ])

pub returns-clause-seen : goal.returns-clause-seen
returns-clause-seen g c = λ x h.
    (let r = c.args.job.now.program.now in
    let discipline = c.args.job.now.limits.discipline in
    let sys = slots_by g.O.Observe.IS_SILENT r discipline in
    let fold = g.O.Observe.fold r discipline in
    let left = c.args.job.now.limits.steps - c.loop.counter in
    let s = machine_of c.loop.state in
    let so_far = c.loop.invariant.seen x h in
    let done = shows_no_more sys fold left s c.loop.next so_far.0 (elim c.loop-test.branch [
      | else-loop-test w ↦ let over = w.loop-test.false in goes_always c.loop.next (left ≡ 0) (omega (arith, over))
      | then-loop-test+in_default w ↦ goes_none c.loop.next (left ≡ 0) w.in_default.not-Goes
    ]) in
    subst (g.O.Observe.holds c.loop.observer r discipline s) (sym (so_far.2 ∙ done)) so_far.1)
