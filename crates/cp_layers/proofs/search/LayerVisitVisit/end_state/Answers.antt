use Rattle.cp_layers.proofs.Words.{slots}
use Rattle.cp_layers.proofs.Visiting.{begun_more}
use Rattle.cp_layers.proofs.search.LayerVisitVisit.end_state.Goals as goal

pub returns : goal.returns
returns g c =
    let job = c.args._job.now in
    (begun_more (g.N.Note.marking (slots job.run.program.now job.run.limits.discipline) job.run.limits.steps) job.run.program.now (slots job.run.program.now job.run.limits.discipline) job.run.limits.steps job.most job.run.limits.choices c.args.self.now.layer.known.keys c.args._at c.requires.0 (g.N.Note.marks c.args.self.now.note) c.args.self.now.next.known.keys c.requires.1.0, c.requires.1.1)
