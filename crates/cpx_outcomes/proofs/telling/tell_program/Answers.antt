use Rattle.std.proofs.Common.{refl}
use Rattle.cp_outcomes.specs.declared.subject.Subject.{Subject}
use Rattle.cpx_outcomes.proofs.telling.tell_program.Goals as goal

pub returns : goal.returns
returns g c =
    let subject : Subject = record { program = c.args.program; legend = c.args.legend; limits = c.usual_limits.result; states = 200000; source = c.args.source } in
    let limits = c.usual_limits.ensures in
    record {
      subject = subject;
      program = refl;
      legend = refl;
      source = refl;
      choices = limits.0;
      steps = limits.1;
      gates = limits.2;
      signals = limits.3;
      states = refl;
      summary = c.in_ok-told.told;
      told = c.in_ok-told.ensures;
      code_is = c.code_of.ensures;
      text_is = refl;
    }
