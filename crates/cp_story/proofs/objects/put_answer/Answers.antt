use Rattle.cp_story.proofs.objects.put_answer.Goals as goal

pub returns-in_ok-text-in-NotReady : goal.returns-in_ok-text-in-NotReady
returns-in_ok-text-in-NotReady c = rw c.in-NotReady.is (rw c.in_ok-text-in-NotReady.ensures at c.number.ensures)
