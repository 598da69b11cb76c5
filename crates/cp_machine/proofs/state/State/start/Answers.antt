use Rattle.cp_machine.proofs.Words.{sym, subst, Ready, LinesFit, MachineFits, Machine, with_status, Reaches}
use Rattle.cp_machine.proofs.frames.ReachingKept.{opening_reaches}
use Rattle.cp_machine.proofs.rooms.OpeningFits.{still_fits, restatused}
use Rattle.cp_machine.proofs.lines.OpeningLines.{opening_lines}
use Rattle.cp_machine.proofs.CallOutcomes.{none_well}
use Rattle.cp_machine.proofs.state.State.start.Goals as goal

pub returns-clause-own : goal.returns-clause-own
returns-clause-own c =
    let r = c.args.program.now in
    let P : Machine → Type 0 = λ m. MachineFits r (with_status m 0 Ready) in
    let Q : Machine → Type 0 = λ m. LinesFit (with_status m 0 Ready) in
    let R : Machine → Type 0 = λ m. Reaches r (with_status m 0 Ready) in
    record {
      sound = c.in_ok-state.ensures.sound;
      fits = subst (MachineFits r) (sym c.set_status.ensures.after) (subst P (sym c.in_ok-state.ensures.still) (restatused r _ 0 Ready (still_fits r c.args.discipline c.in_ok-state.ensures.sound)));
      lines = subst LinesFit (sym c.set_status.ensures.after) (subst Q (sym c.in_ok-state.ensures.still) (opening_lines r c.args.discipline));
      reach = subst (Reaches r) (sym c.set_status.ensures.after) (subst R (sym c.in_ok-state.ensures.still) (opening_reaches r c.args.discipline c.in_ok-state.ensures.sound c.in_ok-state.ensures.sound.typed c.in_ok-state.ensures.sound.program));
      reserved = c.set_status.ensures.reserved r c.in_ok-state.ensures.reserved;
    }

pub returns-in_err-state-clause-opening : goal.returns-in_err-state-clause-opening
returns-in_err-state-clause-opening c = none_well c.from_residual.result _ _ c.from_residual.ensures.1

pub returns-in_err-state-clause-own : goal.returns-in_err-state-clause-own
returns-in_err-state-clause-own c = none_well c.from_residual.result _ _ c.from_residual.ensures.1
