use Rattle.std.proofs.Common.{◌∙◌, ap}
use Rattle.cp_layers.specs.declared.layer.Layer.{Layer}
use Rattle.cp_layers.proofs.Words.{slots}
use Rattle.cp_layers.proofs.Leading.{words_begun}
use Rattle.cp_layers.proofs.Visiting.{begun_first}
use Rattle.cp_layers.proofs.search.LayerVisit.begin_layer.Goals as goal

pub returns-clause-begun : goal.returns-clause-begun
returns-clause-begun g c =
    let job = c.args.job.now in
    begun_first (g.N.Note.marking (slots job.run.program.now job.run.limits.discipline) job.run.limits.steps) job.run.program.now (slots job.run.program.now job.run.limits.discipline) job.run.limits.steps job.most job.run.limits.choices c.replace.result.known.keys c.args.self.now.next.known.keys c.replace.new.dest.known.keys (g.N.Note.marks c.args.self.now.note) (ap (λ (l : Layer). l.known.keys) c.replace.ensures.value) (ap (λ (l : Layer). l.known.keys) c.replace.ensures.after ∙ c.new.ensures.keys) c.requires.known

pub returns-clause-words : goal.returns-clause-words
returns-clause-words g c =
    let job = c.args.job.now in
    words_begun (g.N.Note.marking (slots job.run.program.now job.run.limits.discipline) job.run.limits.steps) (slots job.run.program.now job.run.limits.discipline) job.run.limits.steps job.run.limits.choices c.args.self.now.next.known.keys c.replace.result.known.keys c.replace.new.dest.known.keys c.args.self.now.next.words.items c.replace.result.words.items c.replace.new.dest.words.items (g.N.Note.words c.args.self.now.note) (ap (λ (l : Layer). l.known.keys) c.replace.ensures.value) (ap (λ (l : Layer). l.words.items) c.replace.ensures.value) (ap (λ (l : Layer). l.known.keys) c.replace.ensures.after ∙ c.new.ensures.keys) (ap (λ (l : Layer). l.words.items) c.replace.ensures.after ∙ c.new.ensures.words) c.requires.words
