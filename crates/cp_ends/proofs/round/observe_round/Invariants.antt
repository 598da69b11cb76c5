use Rattle.cp_ends.proofs.Vocabulary.{◌≡◌, [], None, Some, true, false, key_of, machine_of, output_of, is_ready, is_pending, IsStateOf, spot_after, silent_slots, return_within, same_key}
use Rattle.cp_run.specs.Fold.{fold_stretch}
use Rattle.cp_ends.proofs.round.observe_round.Given as goal

abbrev pub invariant-loop : goal.invariant-loop
invariant-loop g l =
    let sys = silent_slots l.job.program.now l.job.limits.discipline in
    let s = machine_of l.fn.state in
    record {
      own : IsStateOf l.job.program.now l.state;
      ready : is_ready (machine_of l.state) l.going ≡ true;
      free : is_pending (machine_of l.state) ≡ false;
      quiet : output_of (machine_of l.state) ≡ [];
      spot : spot_after sys l.counter s l.fn.pid ≡ Some (machine_of l.state, l.going);
      seen : (x : g.O.Observe.Seen) → g.O.Observe.holds l.fn.observer l.job.program.now l.job.limits.discipline s x → g.O.Observe.holds l.observer l.job.program.now l.job.limits.discipline (machine_of l.state) (fold_stretch sys (g.O.Observe.fold l.job.program.now l.job.limits.discipline) l.counter s l.fn.pid x);
      none : return_within sys same_key s l.fn.pid l.counter ≡ None;
      first : l.first.bytes.items ≡ key_of s;
    }
