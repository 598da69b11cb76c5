use Rattle.cp_layers.proofs.Words.{machine_of, slots}
use Rattle.cp_layers.proofs.FromLayer.{own_keys}
use Rattle.cp_layers.proofs.Visiting.{within_first}
use Rattle.cp_layers.proofs.search.LayerVisitVisit.thaw_at.Goals as goal

pub thaw_at-requires : goal.thaw_at-requires
thaw_at-requires g c =
    let job = c.args._job.now in
    (job.run.program.now, c.requires.own, own_keys job.run.program.now (slots job.run.program.now job.run.limits.discipline) job.run.limits.steps job.run.limits.choices c.args.self.now.layer.known.keys c.requires.before.0.layer)

pub returns-clause-own : goal.returns-clause-own
returns-clause-own g c =
    let job = c.args._job.now in
    c.thaw_at.ensures.own job.run.program.now c.requires.own (own_keys job.run.program.now (slots job.run.program.now job.run.limits.discipline) job.run.limits.steps job.run.limits.choices c.args.self.now.layer.known.keys c.requires.before.0.layer)

pub returns-clause-within : goal.returns-clause-within
returns-clause-within g c = λ found.
    (let job = c.args._job.now in
    let k = c.thaw_at.ensures.key found in
    (within_first (g.N.Note.marking (slots job.run.program.now job.run.limits.discipline) job.run.limits.steps) job.run.program.now (slots job.run.program.now job.run.limits.discipline) job.run.limits.steps job.most job.run.limits.choices c.args.self.now.layer.known.keys c.args.number k.0 (machine_of c.thaw_at.new.state) (g.N.Note.marks c.args.self.now.note) c.args.self.now.next.known.keys k.1 k.2 c.requires.before.0, c.requires.before.1))

pub returns-clause-over : goal.returns-clause-over
returns-clause-over g c = λ none. (record { count = c.args.number; begun = c.requires.before.0; all = c.thaw_at.ensures.none none }, c.requires.before.1)
