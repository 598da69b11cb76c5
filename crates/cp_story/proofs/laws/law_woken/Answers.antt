use Rattle.cp_story.proofs.Queued.{delayed_woken}
use Rattle.cp_story.proofs.Woken.{woken_served}
use Rattle.cp_story.proofs.laws.law_woken.Goals as goal

pub returns-clause-served : goal.returns-clause-served
returns-clause-served c = λ r m t pid q step wakes. woken_served r m t pid q step wakes

pub returns-clause-only : goal.returns-clause-only
returns-clause-only c = λ r m pid q fit ready queued goes. delayed_woken r m pid q fit ready queued goes
