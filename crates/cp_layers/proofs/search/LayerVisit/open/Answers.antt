use Rattle.cp_run.specs.Code.{node_of}
use Rattle.cp_layers.proofs.Words.{machine_of, slots, ok_as}
use Rattle.std.proofs.Common.{◌∙◌, refl, subst, sym}
use Rattle.cp_layers.specs.Leading.{AreWords}
use Rattle.cp_layers.proofs.Leading.{words_first}
use Rattle.cp_layers.proofs.Visiting.{known_first}
use Rattle.cp_layers.proofs.search.LayerVisit.open.Goals as goal

pub returns-clause-known : goal.returns-clause-known
returns-clause-known g c =
    let job = c.args.job.now in
    let sys = slots job.run.program.now job.run.limits.discipline in
    ok_as c.arrive.result _ _ c.arrive.ensures.node (λ u h. known_first (g.N.Note.marking sys job.run.limits.steps) job.run.program.now sys job.run.limits.steps job.most (g.N.Note.marks c.args.self.now.note) (g.N.Note.marks c.note_opening.new.self) c.args.self.now.next.known.keys c.arrive.new.self.known.keys (node_of c.in_ok-halt.halt (machine_of c.note_opening.new.state)) c.requires.most c.requires.no_marks c.in_ok-halt.ensures.marks c.requires.no_next c.in_ok-halt.ensures.node h)

pub returns-clause-words : goal.returns-clause-words
returns-clause-words g c =
    let job = c.args.job.now in
    let sys = slots job.run.program.now job.run.limits.discipline in
    let none : AreWords sys job.run.limits.steps 0 c.args.self.now.next.known.keys c.args.self.now.next.words.items = subst (λ ks. AreWords sys job.run.limits.steps 0 ks c.args.self.now.next.words.items) (sym c.requires.no_next) c.requires.no_next_words in
    ok_as c.arrive.result _ _ c.arrive.ensures.words (λ u added. words_first (g.N.Note.marking sys job.run.limits.steps) sys job.run.limits.steps c.arrive.new.self.known.keys c.arrive.new.self.words.items (g.N.Note.words c.args.self.now.note) (g.N.Note.words c.note_opening.new.self) (added sys job.run.limits.steps 0 none (λ m e. (refl, c.in_ok-halt.ensures.node ∙ e))) c.requires.no_words c.in_ok-halt.ensures.words)
