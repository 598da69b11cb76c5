use Rattle.cp_run.proofs.Words.{◌≡◌, ◌≤◌, ◌-◌, ◌+◌, true, false, machine_of, is_ready, is_pending, IsStateOf}
use Rattle.cp_run.specs.Code.{IfGoes}
use Rattle.cp_run.specs.Fold.{fold_stretch, fold_turn, walked}
use Rattle.cp_run.specs.Silent.{slots_by}
use Rattle.cp_run.proofs.observing.observe_stretch.Given as goal

abbrev pub invariant-loop : goal.invariant-loop
invariant-loop g l =
    let sys = slots_by g.O.Observe.IS_SILENT l.job.program.now l.job.limits.discipline in
    let fold = g.O.Observe.fold l.job.program.now l.job.limits.discipline in
    record {
      own : IsStateOf l.job.program.now l.state;
      ready : IfGoes l.next (λ q. is_ready (machine_of l.state) q ≡ true);
      free : IfGoes l.next (λ q. is_pending (machine_of l.state) ≡ false);
      walked : walked sys l.job.limits.steps (machine_of l.fn.state) l.fn.turn ≡ walked sys (l.job.limits.steps - l.counter) (machine_of l.state) l.next;
      seen : (x : g.O.Observe.Seen) → g.O.Observe.holds l.fn.observer l.job.program.now l.job.limits.discipline (machine_of l.fn.state) x → (y : g.O.Observe.Seen) × g.O.Observe.holds l.observer l.job.program.now l.job.limits.discipline (machine_of l.state) y × (fold_turn (fold_stretch sys fold l.job.limits.steps (machine_of l.fn.state)) l.fn.turn x ≡ fold_turn (fold_stretch sys fold (l.job.limits.steps - l.counter) (machine_of l.state)) l.next y);
      steps : g.S.Count.count l.steps ≤ g.S.Count.count l.fn.steps + l.counter;
    }
