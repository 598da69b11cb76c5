use Rattle.cp_layers.proofs.Words.{IsStateOf, slots}
use Rattle.cp_layers.specs.Leading.{KnowsWords}
use Rattle.cp_layers.specs.Visited.{IsKnown}
use Rattle.cp_layers.proofs.search.note_with.Given as goal

abbrev pub invariant-loop-depth : goal.invariant-loop-depth
invariant-loop-depth g l =
    record {
      own : IsStateOf l.job.run.program.now l.state;
      next : IsStateOf l.job.run.program.now l.next;
      known : IsKnown (g.N.Note.marking (slots l.job.run.program.now l.job.run.limits.discipline) l.job.run.limits.steps) l.job.run.program.now (slots l.job.run.program.now l.job.run.limits.discipline) l.job.run.limits.steps l.job.most l.depth (g.N.Note.marks l.visit.note) l.visit.next.known.keys;
      words : KnowsWords (g.N.Note.marking (slots l.job.run.program.now l.job.run.limits.discipline) l.job.run.limits.steps) (slots l.job.run.program.now l.job.run.limits.discipline) l.job.run.limits.steps l.depth l.visit.next.known.keys l.visit.next.words.items (g.N.Note.words l.visit.note);
    }
