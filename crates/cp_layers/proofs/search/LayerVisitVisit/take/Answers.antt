use Rattle.std.proofs.Common.{◌≤◌, ap, arith, length, subst, suc, sym, ◌∙◌}
use Rattle.std.proofs.lemmas.Bool.{leb-true}
use Rattle.cp_run.specs.Run.{chosen, may, those_below}
use Rattle.cp_run.specs.Slots.{processes_of}
use Rattle.cp_layers.specs.Adding.{Adds, HasNoOthers}
use Rattle.cp_layers.specs.Leading.{with_word}
use Rattle.cp_layers.proofs.Leading.{words_taken}
use Rattle.cp_layers.proofs.Words.{Machine, Node, AddsNode, machine_of, slots}
use Rattle.cp_layers.proofs.Visiting.{within_more}
use Rattle.cp_layers.proofs.search.LayerVisitVisit.take.Goals as goal

pub returns-clause-within : goal.returns-clause-within
returns-clause-within g c = λ room.
    (let job = c.args.job.now in
    let r = job.run.program.now in
    let sys = slots r job.run.limits.discipline in
    let m = machine_of c.args.state.now in
    let p = c.args.process in
    let next = c.arrive.new.self.known.keys in
    let node = subst (λ k. AddsNode r c.args.self.now.next.known.keys (chosen sys job.run.limits.steps k p) next) c.requires.copied (subst (λ (n : Node Machine). AddsNode r c.args.self.now.next.known.keys n next) (sym c.in_ok-halt.ensures.node) c.in_ok-arrive.ensures.node) in
    let marks = subst (λ k. Adds (g.N.Note.marks c.args.self.now.note) ((g.N.Note.marking sys job.run.limits.steps).chosen k p) (g.N.Note.marks c.note_choice.new.self)) c.requires.copied c.in_ok-halt.ensures.marks in
    let len = c.len.ensures in
    let below = leb-true c.len.result job.most room in
    let few : length next ≤ job.most = omega (arith, len, below) in
    let within = c.requires.within.0 in
    let before = c.word-before.ensures sys job.run.limits.steps within.key m c.requires.within.1.layer within.is within.here in
    let word = c.deref.result.now in
    let after = c.in_ok-arrive.ensures.words sys job.run.limits.steps (suc job.run.limits.choices) c.requires.within.1.next (λ n e. (m, p, c.word-before.result.now, c.deref-2.ensures.value ∙ c.in_ok-take_word.ensures, before, c.requires.may, sym (ap (λ k. chosen sys job.run.limits.steps k p) c.requires.copied) ∙ c.in_ok-halt.ensures.node ∙ e)) in
    let words = subst (λ k. HasNoOthers (g.N.Note.words c.args.self.now.note) (with_word word ((g.N.Note.marking sys job.run.limits.steps).chosen k p)) (g.N.Note.words c.note_choice.new.self)) c.requires.copied c.in_ok-halt.ensures.words in
    (within_more (g.N.Note.marking sys job.run.limits.steps) r sys job.run.limits.steps job.most job.run.limits.choices c.args.self.now.layer.known.keys c.args.at m (those_below p (may sys m)) p (g.N.Note.marks c.args.self.now.note) (g.N.Note.marks c.note_choice.new.self) c.args.self.now.next.known.keys next within marks node few, words_taken (g.N.Note.marking sys job.run.limits.steps) sys job.run.limits.steps job.run.limits.choices c.args.self.now.layer.known.keys c.args.self.now.next.known.keys next c.args.self.now.layer.words.items c.args.self.now.next.words.items c.arrive.new.self.words.items c.word-before.result.now word (g.N.Note.words c.args.self.now.note) (g.N.Note.words c.note_choice.new.self) m p c.requires.within.1 before c.requires.may (c.deref.ensures.value ∙ c.in_ok-take_word.ensures) words after))

pub note_choice-requires-clause-may : goal.note_choice-requires-clause-may
note_choice-requires-clause-may g c = ap (λ m. may (slots c.args.job.now.run.program.now c.args.job.now.run.limits.discipline) m c.args.process) c.requires.copied ∙ c.requires.may
