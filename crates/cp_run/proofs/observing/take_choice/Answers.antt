use Rattle.cp_run.proofs.Words.{◌≡◌, ◌∙◌, true, false, refl, machine_of, is_pending, pending_is}
use Rattle.cp_run.specs.Silent.{slots_by}
use Rattle.cp_run.proofs.Choosing.{chosen_at_gate, chosen_free}
use Rattle.cp_run.proofs.DueChoices.{chosen_goes, chosen_comes, free_behind}
use Rattle.cp_run.proofs.Failing.{none_well}
use Rattle.cp_run.proofs.Folding.{fold_chosen_free, fold_chosen_gate}
use Rattle.cp_run.proofs.Observed.{goes_always}
use Rattle.cp_run.proofs.Silently.{settled_by}
use Rattle.cp_run.proofs.Walking.{walked_chosen_free, walked_chosen_gate}
use Rattle.cp_run.proofs.observing.take_choice.Goals as goal

pub returns-then-is_none : goal.returns-then-is_none
returns-then-is_none g c =
    let r = c.args.job.now.program.now in
    let discipline = c.args.job.now.limits.discipline in
    let s = c.args.state.now in
    let goes = chosen_goes r discipline s c.args.process c.pending.result c.pending.ensures c.if-is_none.ensures c.requires.own c.requires.may in
    record {
      node = λ b. chosen_free (slots_by b r discipline) c.args.job.now.limits.steps (machine_of s) c.args.process goes.free;
      walked = λ b. walked_chosen_free (slots_by b r discipline) c.args.job.now.limits.steps (machine_of s) c.args.process goes.free;
      seen = λ b x h. (x, h, fold_chosen_free (slots_by b r discipline) (g.O.Observe.fold r discipline) c.args.job.now.limits.steps (machine_of s) c.args.process x goes.free);
      ready = goes.ready;
      free = goes.free;
      own = goes.own;
    }

pub admit-requires : goal.admit-requires
admit-requires g c = chosen_comes c.args.job.now.program.now c.args.job.now.limits.discipline c.args.state.now c.args.process c.pending.result c.pending.ensures c.if-is_none.ensures c.requires.own c.requires.may

pub see_admission-requires : goal.see_admission-requires
see_admission-requires g c = record { own = c.admit.ensures.own c.args.job.now.program.now c.requires.own }

pub settled_turn-requires-clause-own : goal.settled_turn-requires-clause-own
settled_turn-requires-clause-own g c = c.admit.ensures.own c.args.job.now.program.now c.requires.own

pub returns : goal.returns
returns g c =
    let r = c.args.job.now.program.now in
    let discipline = c.args.job.now.limits.discipline in
    let s = c.args.state.now in
    let n = machine_of c.admit.new.self in
    let turn = c.settled_turn.result in
    let pending = pending_is (machine_of s) c.pending.result true c.pending.ensures c.if-is_none.ensures in
    record {
      node = λ b. chosen_at_gate (slots_by b r discipline) c.args.job.now.limits.steps (machine_of s) n c.args.process turn pending c.admit.ensures.after (c.settled_turn.ensures.turn ∙ settled_by b r discipline n true c.args.process);
      walked = λ b. walked_chosen_gate (slots_by b r discipline) c.args.job.now.limits.steps (machine_of s) n c.args.process turn pending c.admit.ensures.after (c.settled_turn.ensures.turn ∙ settled_by b r discipline n true c.args.process);
      seen = λ b x h. ((g.O.Observe.fold r discipline).on_admission c.args.process n x, c.in_ok-see_admission.ensures (machine_of s) x c.admit.ensures.after h, fold_chosen_gate (slots_by b r discipline) (g.O.Observe.fold r discipline) c.args.job.now.limits.steps (machine_of s) n c.args.process turn x ((g.O.Observe.fold r discipline).on_admission c.args.process n x) pending c.admit.ensures.after (c.settled_turn.ensures.turn ∙ settled_by b r discipline n true c.args.process) refl);
      ready = c.settled_turn.ensures.ready;
      free = goes_always turn (is_pending n ≡ false) (free_behind r discipline s c.args.process c.pending.result c.pending.ensures c.if-is_none.ensures c.requires.may n c.admit.ensures.after);
      own = c.admit.ensures.own r c.requires.own;
    }

pub returns-in_err-see_admission : goal.returns-in_err-see_admission
returns-in_err-see_admission g c =
    let failed = c.from_residual.ensures.1 in
    record {
      node = none_well c.from_residual.result _ _ failed;
      walked = none_well c.from_residual.result _ _ failed;
      seen = none_well c.from_residual.result _ _ failed;
      ready = none_well c.from_residual.result _ _ failed;
      free = none_well c.from_residual.result _ _ failed;
      own = c.admit.ensures.own c.args.job.now.program.now c.requires.own;
    }
