use Rattle.std.specs.Prelude.{is_some, false}
use Rattle.std.proofs.Common.{◌∙◌}
use Rattle.cp_layers.proofs.Words.{◌≡◌, ◌+◌, ℕ, suc, sym, subst, arith, slots, Adds, AreReached}
use Rattle.std.proofs.Common.{[]}
use Rattle.cp_layers.specs.Adding.{HasNoOthers}
use Rattle.cp_layers.specs.Leading.{AreLeading}
use Rattle.cp_layers.proofs.FromLayer.{same_marks}
use Rattle.cp_layers.proofs.Leading.{leading_both, leading_none, words_after, words_as}
use Rattle.cp_layers.proofs.Visiting.{known_after, known_as, not_stopped}
use Rattle.cp_layers.proofs.search.note_with.Goals as goal

pub begin_layer-requires-clause-known : goal.begin_layer-requires-clause-known
begin_layer-requires-clause-known g c =
    let job = c.args.job.now in
    let r = job.run.program.now in
    let limits = c.with_choices.ensures in
    known_as g.N.Note.marking r job.run.limits.discipline _ job.run.limits.steps _ job.most c.loop-depth.depth _ (g.N.Note.marks c.loop-depth.visit.note) c.loop-depth.visit.next.known.keys (sym limits.2) (sym limits.1) (sym limits.0) c.loop-depth.invariant.known

pub begin_layer-requires-clause-words : goal.begin_layer-requires-clause-words
begin_layer-requires-clause-words g c =
    let job = c.args.job.now in
    let limits = c.with_choices.ensures in
    words_as g.N.Note.marking job.run.program.now job.run.limits.discipline _ job.run.limits.steps _ c.loop-depth.depth _ c.loop-depth.visit.next.known.keys c.loop-depth.visit.next.words.items (g.N.Note.words c.loop-depth.visit.note) (sym limits.2) (sym limits.1) (sym limits.0) c.loop-depth.invariant.words

pub returns-then-is_some-clause-words : goal.returns-then-is_some-clause-words
returns-then-is_some-clause-words g c =
    let job = c.args.job.now in
    let sys = slots job.run.program.now job.run.limits.discipline in
    let marking = g.N.Note.marking sys job.run.limits.steps in
    let old = g.N.Note.words c.loop-depth.visit.note in
    leading_both marking sys job.run.limits.steps c.loop-depth.depth [] old (g.N.Note.words c.add_all.new.self) (leading_none marking sys job.run.limits.steps c.loop-depth.depth) c.loop-depth.invariant.words.marks (subst (λ l. HasNoOthers l old (g.N.Note.words c.add_all.new.self)) c.new-before.ensures.words c.in_ok-add_all.ensures.words)

pub returns-then-is_some-clause-reached : goal.returns-then-is_some-clause-reached
returns-then-is_some-clause-reached g c =
    let job = c.args.job.now in
    let sys = slots job.run.program.now job.run.limits.discipline in
    same_marks (g.N.Note.marking sys job.run.limits.steps) sys job.run.limits.steps c.loop-depth.depth (g.N.Note.marks c.loop-depth.visit.note) (g.N.Note.marks c.add_all.new.self) (subst (λ l. Adds l (g.N.Note.marks c.loop-depth.visit.note) (g.N.Note.marks c.add_all.new.self)) c.new-before.ensures.marks c.in_ok-add_all.ensures.marks) c.loop-depth.invariant.known.marks

pub loop-depth-preserved : goal.loop-depth-preserved
loop-depth-preserved g c =
    let job = c.args.job.now in
    let r = job.run.program.now in
    let limits = c.with_choices.result in
    let same = c.with_choices.ensures in
    let choices = same.0 in
    let visit = c.visit_all.new.visit in
    let marks = g.N.Note.marks visit.note in
    let whole_layer : is_some c.in_ok-stopped.stopped ≡ false = sym c.is_some.ensures ∙ c.if-is_some.false in
    let whole = not_stopped _ _ c.in_ok-stopped.stopped whole_layer c.in_ok-stopped.ensures.searched in
    let known = known_after (g.N.Note.marking (slots r limits.discipline) limits.steps) r (slots r limits.discipline) limits.steps job.most limits.choices visit.layer.known.keys marks visit.next.known.keys whole.0 in
    let words = words_after (g.N.Note.marking (slots r limits.discipline) limits.steps) (slots r limits.discipline) limits.steps limits.choices visit.layer.known.keys visit.next.known.keys visit.layer.words.items visit.next.words.items (g.N.Note.words visit.note) whole.1 in
    let one_more : suc limits.choices ≡ c.loop-depth.depth + 1 = omega (arith, choices) in
    record {
      own = c.visit_all.ensures.own;
      next = c.visit_all.ensures.next;
      known = known_as g.N.Note.marking r limits.discipline job.run.limits.discipline limits.steps job.run.limits.steps job.most (suc limits.choices) (c.loop-depth.depth + 1) marks visit.next.known.keys same.2 same.1 one_more known;
      words = words_as g.N.Note.marking r limits.discipline job.run.limits.discipline limits.steps job.run.limits.steps (suc limits.choices) (c.loop-depth.depth + 1) visit.next.known.keys visit.next.words.items (g.N.Note.words visit.note) same.2 same.1 one_more words;
    }

pub returns-clause-reached : goal.returns-clause-reached
returns-clause-reached g c =
    let job = c.args.job.now in
    let sys = slots job.run.program.now job.run.limits.discipline in
    let same : c.loop-depth.depth ≡ job.run.limits.choices = omega arith in
    subst (λ (k : ℕ). AreReached (g.N.Note.marking sys job.run.limits.steps) sys job.run.limits.steps k (g.N.Note.marks c.loop-depth.visit.note)) same c.loop-depth.invariant.known.marks

pub returns-clause-words : goal.returns-clause-words
returns-clause-words g c =
    let job = c.args.job.now in
    let sys = slots job.run.program.now job.run.limits.discipline in
    let same : c.loop-depth.depth ≡ job.run.limits.choices = omega arith in
    subst (λ (k : ℕ). AreLeading (g.N.Note.marking sys job.run.limits.steps) sys job.run.limits.steps k (g.N.Note.words c.loop-depth.visit.note)) same c.loop-depth.invariant.words.marks
