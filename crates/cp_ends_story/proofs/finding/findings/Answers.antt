use Rattle.std.proofs.lemmas.Result.{IfOk-weaker}
use Rattle.cp_ends_story.proofs.Found.{asked_at_once}
use Rattle.cp_ends_story.proofs.finding.findings.Goals as goal

pub returns-then-subject : goal.returns-then-subject
returns-then-subject g c = IfOk-weaker c.findings_at_once.result _ _ (λ x h. asked_at_once c.args.subject x c.if-subject.true h) c.findings_at_once.ensures
