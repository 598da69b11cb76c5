use Rattle.cp_ends.proofs.Vocabulary.{◌≡◌, ◌∙◌, ◌+◌, ◌<◌, suc, true, false, sym, ap, subst, arith, ◌==◌, ◌&&◌, machine_of, is_ready, is_pending, spot_after, silent_slots, return_within, same_key}
use Rattle.std.proofs.lemmas.Bool.{eq-eqb, ne_eqb}
use Rattle.cp_run.specs.Fold.{fold_stretch}
use Rattle.cp_ends.proofs.Halting.{fold_next, fold_none, next_place}
use Rattle.cp_ends.proofs.Returning.{is_back, never_back, none_yet, not_back}
use Rattle.cp_ends.proofs.Stepping.{if_goes}
use Rattle.cp_ends.proofs.Stretches.{spot_before, spot_next, spot_none, stops}
use Rattle.cp_ends.proofs.round.observe_round.Goals as goal
use Rattle.cp_ends.proofs.round.observe_round.Goals.{else-going-pid-via-then-going-pid+in_ok-is_at+else-branch, else-going-pid-via-else-going-pid}

pub loop-init : goal.loop-init
loop-init g c =
    let quiet = silent_slots c.args.job.now.program.now c.args.job.now.limits.discipline in
    let s = machine_of c.args.state.now in
    record {
      own = c.requires.own;
      ready = c.requires.ready;
      free = c.requires.free;
      quiet = c.requires.quiet;
      spot = spot_before quiet s c.args.pid;
      seen = λ x h. subst (g.O.Observe.holds c.args.observer.now c.args.job.now.program.now c.args.job.now.limits.discipline s) (sym (fold_none quiet (g.O.Observe.fold c.args.job.now.program.now c.args.job.now.limits.discipline) s c.args.pid x)) h;
      none = none_yet quiet same_key s c.args.pid;
      first = c.in_ok-take_from.ensures;
    }

pub returns-in_default : goal.returns-in_default
returns-in_default g c =
    let r = c.args.job.now.program.now in
    let discipline = c.args.job.now.limits.discipline in
    let quiet = silent_slots r discipline in
    let fold = g.O.Observe.fold r discipline in
    let s = machine_of c.args.state.now in
    let p = c.args.pid in
    let n = c.loop.counter in
    let t = machine_of c.loop.state in
    let u = machine_of c.take_step.new.state in
    let i = c.loop.invariant in
    let x = c.in_ok-turn.ensures in
    let lt : n < c.args.job.now.limits.steps = omega arith in
    record {
      own = x.own;
      quiet = ap (λ y. y.output) x.state;
      round = λ e. absurd (cc);
      none = λ e. never_back quiet same_key s p n c.args.job.now.limits.steps lt i.none (spot_none quiet s p n t u c.loop.going c.in_ok-turn.turn i.spot x.state x.turn (stops c.in_ok-turn.turn c.in_default.not-Goes));
      seen = (n + 1, λ y h. subst (g.O.Observe.holds c.take_step.new.observer r discipline u) (fold_next quiet fold n s p t u c.loop.going y i.spot x.state) (x.seen (fold_stretch quiet fold n s p y) (i.seen y h)));
    }

pub returns-then-branch : goal.returns-then-branch
returns-then-branch g c =
    let r = c.args.job.now.program.now in
    let discipline = c.args.job.now.limits.discipline in
    let quiet = silent_slots r discipline in
    let fold = g.O.Observe.fold r discipline in
    let s = machine_of c.args.state.now in
    let p = c.args.pid in
    let n = c.loop.counter in
    let t = machine_of c.loop.state in
    let u = machine_of c.take_step.new.state in
    let q = c.in-Goes.next in
    let i = c.loop.invariant in
    let x = c.in_ok-turn.ensures in
    let lt : n < c.args.job.now.limits.steps = omega arith in
    let plus : n + 1 ≡ suc n = omega arith in
    let spot = spot_next quiet n s p t u c.loop.going q i.spot x.state (sym c.in-Goes.is ∙ x.turn) in
    let same : same_key u s ≡ true = sym (c.in_ok-is_at.ensures s i.first) ∙ c.if-branch.true in
    let back : ((q == p) && same_key u s) ≡ true = ap (λ b. b && same_key u s) (eq-eqb q p c.if-going-pid.true) ∙ same in
    let seen : (y : g.O.Observe.Seen) → g.O.Observe.holds c.args.observer.now r discipline s y → g.O.Observe.holds c.take_step.new.observer r discipline u (fold_stretch quiet fold (n + 1) s p y) = λ y h. subst (g.O.Observe.holds c.take_step.new.observer r discipline u) (fold_next quiet fold n s p t u c.loop.going y i.spot x.state) (x.seen (fold_stretch quiet fold n s p y) (i.seen y h)) in
    record {
      own = x.own;
      quiet = ap (λ y. y.output) x.state;
      round = λ e. (
        n,
        lt,
        is_back quiet same_key s p n c.args.job.now.limits.steps u q lt i.none spot back,
        ap (λ k. spot_after quiet k s p) (sym plus) ∙ spot ∙ next_place u q p c.if-going-pid.true,
        same,
        λ y h. subst (λ k. g.O.Observe.holds c.take_step.new.observer r discipline u (fold_stretch quiet fold k s p y)) plus (seen y h),
      );
      none = λ e. absurd (cc);
      seen = (n + 1, seen);
    }

pub loop-preserved : goal.loop-preserved
loop-preserved g c =
    let r = c.args.job.now.program.now in
    let discipline = c.args.job.now.limits.discipline in
    let quiet = silent_slots r discipline in
    let fold = g.O.Observe.fold r discipline in
    let s = machine_of c.args.state.now in
    let p = c.args.pid in
    let n = c.loop.counter in
    let t = machine_of c.loop.state in
    let u = machine_of c.take_step.new.state in
    let q = c.in-Goes.next in
    let i = c.loop.invariant in
    let x = c.in_ok-turn.ensures in
    let spot = spot_next quiet n s p t u c.loop.going q i.spot x.state (sym c.in-Goes.is ∙ x.turn) in
    let apart : ((q == p) && same_key u s) ≡ false =
    elim c.else-going-pid.branch [
      | else-going-pid-via-then-going-pid+in_ok-is_at+else-branch w ↦ ap (λ b. b && same_key u s) (eq-eqb q p w.if-going-pid.true) ∙ sym (w.in_ok-is_at.ensures s i.first) ∙ w.if-branch.false
      | else-going-pid-via-else-going-pid w ↦ ap (λ b. b && same_key u s) (ne_eqb q p w.if-going-pid.false)
    ] in
    record {
      own = x.own;
      ready = if_goes c.in_ok-turn.turn q (λ v. is_ready u v ≡ true) c.in-Goes.is x.ready;
      free = if_goes c.in_ok-turn.turn q (λ v. is_pending u ≡ false) c.in-Goes.is x.free;
      quiet = ap (λ y. y.output) x.state;
      spot = spot;
      seen = λ y h. subst (g.O.Observe.holds c.take_step.new.observer r discipline u) (fold_next quiet fold n s p t u c.loop.going y i.spot x.state) (x.seen (fold_stretch quiet fold n s p y) (i.seen y h));
      none = not_back quiet same_key s p n u q i.none spot apart;
      first = i.first;
    }

pub returns : goal.returns
returns g c =
    let quiet = silent_slots c.args.job.now.program.now c.args.job.now.limits.discipline in
    let s = machine_of c.args.state.now in
    let n = c.loop.counter in
    let i = c.loop.invariant in
    let all : n ≡ c.args.job.now.limits.steps = omega arith in
    record {
      own = i.own;
      quiet = i.quiet;
      round = λ e. absurd (cc);
      none = λ e. ap (return_within quiet same_key s c.args.pid) (sym all) ∙ i.none;
      seen = (n, i.seen);
    }
