use Rattle.std.proofs.Common.{◌≡◌, ◌∙◌, ◌+◌, [], arith, false, subst, suc, sym, true}
use Rattle.std.proofs.lemmas.List.Elements.{All-nil}
use Rattle.cp_at_once.proofs.Words.{slot_graph, HasLeg}
use Rattle.cp_search.specs.Searched.{IsTaken}
use Rattle.cp_ends.specs.Rows.{IsRowFor}
use Rattle.cp_ends.proofs.Thawing.{row_short}
use Rattle.cp_resolved.proofs.names.Entries.{not_there as past_none}
use Rattle.cp_at_once.specs.Following.{Answers, GoesThrough}
use Rattle.cp_at_once.proofs.Choices.{through_all}
use Rattle.cp_at_once.proofs.search.SearchAtOnce.visit_all.Goals as goal

pub row_with-row-requires : goal.row_with-row-requires
row_with-row-requires g c =
    let r = c.args.job.now.run.program.now in
    let store = c.loop-number.self.found.kept.store in
    let h = c.loop-number.invariant.before.1.kept in
    let x = c.in-Some.ensures.found r c.loop-number.invariant.before.0 h in
    (x.2.row.row, x.2.row.halved, x.2.row.is.long, row_short r store [] h.known x.0.0 x.2.row.row x.2.row.is)

pub take_choices-requires-clause-within : goal.take_choices-requires-clause-within
take_choices-requires-clause-within g c =
    let r = c.args.job.now.run.program.now in
    let store = c.loop-number.self.found.kept.store in
    let b = c.loop-number.invariant.before in
    let x = c.in-Some.ensures.found r b.0 b.1.kept in
    let same = c.as_slice.ensures.value ∙ c.row_with-row.ensures x.2.row.row x.2.row.halved x.2.row.is.long in (
      x.0.0,
      record {
        row_is = subst (λ l. IsRowFor r store l x.0.0) (sym same) (record { it = x.2.it; is = x.2.row.is });
        within = record { states = b.0; word = x.0.1; is = x.1; holds = b.1; through = b.2; on = All-nil _ };
      },
    )

pub loop-number-init : goal.loop-number-init
loop-number-init g c = record { room = c.requires.room; before = c.requires.begun }

pub loop-number-preserved : goal.loop-number-preserved
loop-number-preserved g c =
    let job = c.args.job.now in
    let r = job.run.program.now in
    let gr = slot_graph r job.run.limits.discipline job.run.limits.steps in
    let Leg = HasLeg r job.run.limits.discipline in
    let n = c.loop-number.number in
    let found = c.take_choices.new.self.found in
    let room : c.in_ok-take_choices.field-0 ≡ true = search in
    let taken = subst (IsTaken (λ k. GoesThrough r gr Leg job.most 8 k found) (λ k. Answers r gr Leg job.most 8 found false) n) room c.in_ok-take_choices.ensures.taken in
    let next : suc n ≡ n + 1 = omega arith in
    record {
      room = c.in_ok-take_choices.ensures.room;
      before = subst (λ k. GoesThrough r gr Leg job.most 8 k found) next taken;
    }

pub returns-in_default : goal.returns-in_default
returns-in_default g c =
    let job = c.args.job.now in
    let r = job.run.program.now in
    let n = c.loop-number.number in
    let b = c.loop-number.invariant.before in
    through_all r (slot_graph r job.run.limits.discipline job.run.limits.steps) (HasLeg r job.run.limits.discipline) job.most c.loop-number.self.found n b (past_none b.0 n (c.in_default.ensures.none r b.0 b.1.kept))

pub returns-then-not-branch : goal.returns-then-not-branch
returns-then-not-branch g c =
    let job = c.args.job.now in
    let r = job.run.program.now in
    let gr = slot_graph r job.run.limits.discipline job.run.limits.steps in
    let Leg = HasLeg r job.run.limits.discipline in
    let found = c.take_choices.new.self.found in
    let full : c.in_ok-take_choices.field-0 ≡ false = search in
    subst (IsTaken (λ k. GoesThrough r gr Leg job.most 8 k found) (λ k. Answers r gr Leg job.most 8 found false) c.loop-number.number) full c.in_ok-take_choices.ensures.taken

pub returns : goal.returns
returns g c =
    let job = c.args.job.now in
    let r = job.run.program.now in
    let b = c.loop-number.invariant.before in
    let few = b.1.few in
    through_all r (slot_graph r job.run.limits.discipline job.run.limits.steps) (HasLeg r job.run.limits.discipline) job.most c.loop-number.self.found c.loop-number.number b (omega (arith, few, c.loop-number-test.false))
