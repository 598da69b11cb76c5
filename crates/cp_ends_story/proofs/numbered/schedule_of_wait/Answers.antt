use Rattle.std.proofs.Common.{Option, subst, sym}
use Rattle.std.proofs.lemmas.Result.{IfOk-weaker}
use Rattle.cp_waits.specs.declared.waiting.Waits.{Waits}
use Rattle.cp_ends_story.specs.Numbered.{IsWaitAmong}
use Rattle.cp_ends_story.specs.declared.numbered.NumberedSchedule.TheVariants as numbered
use Rattle.cp_ends_story.proofs.numbered.schedule_of_wait.Goals as goal

pub returns-in-Some : goal.returns-in-Some
returns-in-Some g c =
    IfOk-weaker c.known_among.result _ _
    (λ s h. record {
      findings = c.in_ok-findings.findings;
      found = c.in_ok-findings.ensures;
      is = subst (λ (o : Option Waits). IsWaitAmong o c.args.number s) (sym c.in-Some.is) h;
    })
    c.known_among.ensures

pub returns : goal.returns
returns g c = record {
  findings = c.in_ok-findings.findings;
  found = c.in_ok-findings.ensures;
  is = subst (λ (o : Option Waits). IsWaitAmong o c.args.number numbered.NotKnown) (sym c.in-None.is) tt;
}
