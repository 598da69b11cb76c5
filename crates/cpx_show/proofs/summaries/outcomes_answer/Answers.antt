use Rattle.std.proofs.Common.{refl, subst}
use Rattle.cp_outcomes.specs.Written.{TellsOutcomes}
use Rattle.cp_outcomes.specs.declared.subject.Format.{Format}
use Rattle.cpx_show.proofs.summaries.outcomes_answer.Goals as goal

pub returns : goal.returns
returns g c =
    let subject = c.outcomes_subject-subject.result in
    record {
      subject = subject;
      asked = c.outcomes_subject-subject.ensures;
      summary = c.in_ok-told.told;
      told = subst (λ (f : Format). TellsOutcomes subject f c.in_ok-told.told) c.form_of.ensures c.in_ok-told.ensures;
      verdict_is = c.verdict_on.ensures;
      text_is = refl;
    }
