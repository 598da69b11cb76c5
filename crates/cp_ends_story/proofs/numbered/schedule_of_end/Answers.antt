use Rattle.std.proofs.Common.{List, map, subst}
use Rattle.std.proofs.lemmas.Result.{IfOk-weaker}
use Rattle.cp_ends_story.specs.Findings.{end_with_word}
use Rattle.cp_ends_story.specs.Numbered.{IsEnd}
use Rattle.cp_ends_story.specs.declared.subject.ToldEnd.{ToldEnd}
use Rattle.cp_ends_story.proofs.numbered.schedule_of_end.Goals as goal

pub returns : goal.returns
returns g c =
    IfOk-weaker c.end_among.result _ _
    (λ s h. record {
      findings = c.in_ok-findings.findings;
      found = c.in_ok-findings.ensures;
      is = subst (λ (es : List ToldEnd). IsEnd (map end_with_word es) c.args.number s) c.deref.ensures.value h;
    })
    c.end_among.ensures
