use Rattle.cpx_show.proofs.summaries.ends_answer.Goals as goal

pub returns : goal.returns
returns g c =
    record {
      subject = c.ends_subject.result;
      asked = c.ends_subject.ensures;
      summary = c.in_ok-told.told;
      told = c.in_ok-told.ensures;
      verdict_is = c.verdict_on.ensures;
    }
