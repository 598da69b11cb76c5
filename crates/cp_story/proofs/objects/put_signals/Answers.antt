use Rattle.std.proofs.Common.{◌≡◌, OnOk, subst, sym}
use Rattle.cp_machine.specs.declared.discipline.Signals.{Signals}
use Rattle.cp_story.specs.Objects.{members_in, with_members}
use Rattle.cp_story.specs.StoryData as spec
use Rattle.cp_story.proofs.objects.put_signals.Goals as goal

pub returns-in-Continue : goal.returns-in-Continue
returns-in-Continue c = subst (λ (s : Signals). OnOk c.text.result (members_in c.text.new.self ≡ with_members (members_in c.args.object.now) (spec.signals_members s))) (sym c.in-Continue.is) c.text.ensures
