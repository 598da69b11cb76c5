use Rattle.cp_machine.proofs.Words.{◌≡◌, ◌<◌, length, refl, subst, true, length-map, Event, LinesFit, MachineFits, machine_of, Reaches, Stepped}
use Rattle.cp_machine.specs.declared.event.Event.TheVariants.{Fault, OutputFull}
use Rattle.cp_machine.specs.declared.event.RunError.{RunError}
use Rattle.cp_machine.specs.Step.{succeeds}
use Rattle.cp_machine.proofs.rooms.KeepingAct.{step_fits}
use Rattle.cp_machine.proofs.frames.ReachingKept.{step_reaches}
use Rattle.cp_machine.proofs.lines.StepLines.{step_lines}
use Rattle.cp_machine.proofs.stepper.step.Goals as goal

counted : (e : Event) → ((x : RunError) → e ≡ Fault x → ⊥) → (e ≡ OutputFull → ⊥) → succeeds e ≡ true
counted (Fault x) f o = absurd (f x refl)
counted OutputFull f o = absurd (o refl)
counted _ f o = refl

pub returns-in_default : goal.returns-in_default
returns-in_default g c =
    let r = c.args.program.now in
    let lt : c.args.pid < length (machine_of c.args.state.now).threads = rw length-map c.requires.pid in
    let Fine : Stepped → Type 0 = λ x. MachineFits r x.machine in
    let Reached : Stepped → Type 0 = λ x. Reaches r x.machine in
    let Lined : Stepped → Type 0 = λ x. LinesFit x.machine in
    let one : succeeds c.take_step-event.result ≡ true = counted _ c.in_default.not-Fault c.in_default.not-OutputFull in
    record {
      after = c.take_step-event.ensures.after;
      own = record {
        sound = c.requires.own.sound;
        fits = subst Fine c.take_step-event.ensures.after (step_fits r _ c.args.pid lt c.requires.own.sound c.requires.own.fits);
        lines = subst Lined c.take_step-event.ensures.after (step_lines r _ c.args.pid c.requires.own.sound c.requires.own.fits c.requires.own.lines c.requires.ready c.requires.still);
        reach = subst Reached c.take_step-event.ensures.after (step_reaches r _ c.args.pid lt c.requires.own.sound c.requires.own.sound.typed c.requires.own.fits c.requires.own.lines c.requires.ready c.requires.own.reach);
        reserved = c.take_step-event.ensures.reserved;
      };
      ticks = rw one c.tick.ensures;
    }

pub returns-in-Fault-clause-own : goal.returns-in-Fault-clause-own
returns-in-Fault-clause-own g c =
    let r = c.args.program.now in
    let lt : c.args.pid < length (machine_of c.args.state.now).threads = rw length-map c.requires.pid in
    let Fine : Stepped → Type 0 = λ x. MachineFits r x.machine in
    let Reached : Stepped → Type 0 = λ x. Reaches r x.machine in
    let Lined : Stepped → Type 0 = λ x. LinesFit x.machine in
    record {
      sound = c.requires.own.sound;
      fits = subst Fine c.take_step-event.ensures.after (step_fits r _ c.args.pid lt c.requires.own.sound c.requires.own.fits);
      lines = subst Lined c.take_step-event.ensures.after (step_lines r _ c.args.pid c.requires.own.sound c.requires.own.fits c.requires.own.lines c.requires.ready c.requires.still);
      reach = subst Reached c.take_step-event.ensures.after (step_reaches r _ c.args.pid lt c.requires.own.sound c.requires.own.sound.typed c.requires.own.fits c.requires.own.lines c.requires.ready c.requires.own.reach);
      reserved = c.take_step-event.ensures.reserved;
    }
