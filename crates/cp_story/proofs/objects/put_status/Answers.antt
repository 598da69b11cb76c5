use Rattle.cp_story.proofs.objects.put_status.Goals as goal

pub returns-in-Unstarted : goal.returns-in-Unstarted
returns-in-Unstarted c = rw c.in-Unstarted.is c.text.ensures
