use Rattle.std.proofs.Common.{◌≡◌, ◌∙◌, ◌∷◌, [], ap, arith, length, subst, sym, true}
use Rattle.cp_ends.proofs.Vocabulary.{Found, goal_at, silent_slots}
use Rattle.cp_run.specs.declared.outcome.Halt.{Halt}
use Rattle.cp_ends.specs.Legs.{ComesTo, choice_leg, with_round}
use Rattle.cp_run.specs.declared.outcome.Halt.TheVariants.{Choice, Ended}
use Rattle.cp_stretches.specs.declared.cache.LegCache.{LegCache}
use Rattle.cp_ends.specs.ByRows.{KeepFound}
use Rattle.cp_ends.specs.Halves.{width_of}
use Rattle.cp_ends.specs.declared.end.End.{End}
use Rattle.cp_ends.specs.Rows.{IsHalved}
use Rattle.cp_ends.proofs.Halves.{stated_by}
use Rattle.cp_ends.proofs.RowsVisited.{kept_both, same_row_for}
use Rattle.cp_ends.proofs.rows.RowSearch.go.Goals as goal

pub go_by_legs-requires-clause-here : goal.go_by_legs-requires-clause-here
go_by_legs-requires-clause-here g c =
    let kept = c.in_ok-follow_move.ensures.kept in
    let h = c.requires.here in
    (h.0, h.1, kept.holds h.0 h.2, kept.rows c.args.from.now.row.items h.1 h.3, h.4)

pub learn-requires-clause-process : goal.learn-requires-clause-process
learn-requires-clause-process g c =
    let h = c.requires.here in
    let held = c.in_ok-halt.ensures.kept.holds h.0 (c.in_ok-follow_move.ensures.kept.holds h.0 h.2) in
    omega (arith, held.states.cached.placed.processes, c.requires.below)

pub learn-requires-clause-long : goal.learn-requires-clause-long
learn-requires-clause-long g c =
    let h = c.requires.here in
    ap length c.as_slice.ensures.value ∙ (c.in_ok-halt.ensures.kept.rows c.args.from.now.row.items h.1 (c.in_ok-follow_move.ensures.kept.rows c.args.from.now.row.items h.1 h.3)).is.long

pub learn-requires-clause-halved : goal.learn-requires-clause-halved
learn-requires-clause-halved g c = subst (IsHalved c.go_by_legs.new.self.found.states c.args.from.now.numbers.numbers) (sym c.as_slice.ensures.value) (c.in_ok-halt.ensures.kept.halved c.args.from.now.numbers.numbers c.args.from.now.row.items (c.in_ok-follow_move.ensures.kept.halved c.args.from.now.numbers.numbers c.args.from.now.row.items c.requires.halved))

pub learn-requires-clause-states : goal.learn-requires-clause-states
learn-requires-clause-states g c =
    let h = c.requires.here in
    let held = c.in_ok-halt.ensures.kept.holds h.0 (c.in_ok-follow_move.ensures.kept.holds h.0 h.2) in
    (c.args.job.now.run.program.now, h.0.states, held.states)

pub halve-requires : goal.halve-requires
halve-requires g c = ap length c.deref.ensures.value ∙ c.in_ok-halt.ensures.room.row ∙ ap width_of (sym c.learn.ensures.table)

pub returns-in_ok-self-in-Choice-clause-room : goal.returns-in_ok-self-in-Choice-clause-room
returns-in_ok-self-in-Choice-clause-room g c =
    record {
      ruled = c.halve.ensures.ruled ∙ c.learn.ensures.ruled ∙ c.in_ok-halt.ensures.room.ruled;
      row = c.in_ok-halt.ensures.room.row ∙ ap width_of (sym (ap (λ (x : LegCache). x.table) c.halve.ensures.cache ∙ c.learn.ensures.table));
    }

pub returns-in-Ended-clause-room : goal.returns-in-Ended-clause-room
returns-in-Ended-clause-room g c = record { ruled = c.learn.ensures.ruled ∙ c.in_ok-halt.ensures.room.ruled; row = c.in_ok-halt.ensures.room.row ∙ ap width_of (sym c.learn.ensures.table) }

pub returns-in-Ended-clause-kept : goal.returns-in-Ended-clause-kept
returns-in-Ended-clause-kept g c =
    let r = c.args.job.now.run.program.now in
    let a = c.args.self.now.found in
    let b = c.follow_move.new.self.found in
    let d = c.go_by_legs.new.self.found in
    let e : Found = record d { states = c.learn.new.self } in
    kept_both r a d e (kept_both r a b d c.in_ok-follow_move.ensures.kept c.in_ok-halt.ensures.kept)
    (record {
      holds = λ f h. record { states = c.in_ok-learn.ensures.kept r f.states h.states; ends = h.ends; values = h.values };
      rows = λ row m is. c.learn.ensures.rows r row m is;
      halved = λ numbers row is. c.learn.ensures.lists numbers row is;
    })

pub returns-in_ok-self-in-Choice-clause-kept : goal.returns-in_ok-self-in-Choice-clause-kept
returns-in_ok-self-in-Choice-clause-kept g c =
    let r = c.args.job.now.run.program.now in
    let a = c.args.self.now.found in
    let b = c.follow_move.new.self.found in
    let d = c.go_by_legs.new.self.found in
    let e : Found = record d { states = c.learn.new.self } in
    let last : Found = record d { states = c.halve.new.self } in
    let mid : KeepFound r d e =
    record {
      holds = λ f h. record { states = c.in_ok-learn.ensures.kept r f.states h.states; ends = h.ends; values = h.values };
      rows = λ row m is. c.learn.ensures.rows r row m is;
      halved = λ numbers row is. c.learn.ensures.lists numbers row is;
    } in
    kept_both r a e last (kept_both r a d e (kept_both r a b d c.in_ok-follow_move.ensures.kept c.in_ok-halt.ensures.kept) mid)
    (record {
      holds = λ f h. record { states = c.halve.ensures.kept r f.states h.states; ends = h.ends; values = h.values };
      rows = λ row m is. same_row_for r e.states last.states row m c.halve.ensures.cache c.halve.ensures.ruled is;
      halved = λ numbers row is. c.halve.ensures.lists numbers row is;
    })

pub returns-in-Ended-clause-goes : goal.returns-in-Ended-clause-goes
returns-in-Ended-clause-goes g c = λ m is may look.
    (let r = c.args.job.now.run.program.now in
    let discipline = c.args.job.now.run.limits.discipline in
    let steps = c.args.job.now.run.limits.steps in
    let quiet = silent_slots r discipline in
    let p = c.args.process in
    let told = c.in_ok-halt.ensures.goes m (c.in_ok-follow_move.ensures.kept.rows c.args.from.now.row.items m is) may look in
    let to = told.goes in
    record { goes = record { after = to.after; is = λ due. absurd (not_due c.in-Ended.end due); goal = ap (λ h. goal_at h to.after) (sym c.in-Ended.is) ∙ to.goal; shown = to.shown }; seen = subst (λ (h : Halt End). ComesTo quiet (λ w. g.P.Sight.sees w r discipline) steps (choice_leg quiet steps m p) (m ∷ []) c.go_by_legs.new.self.told.seen (with_round c.go_by_legs.new.self.told.again h) to.after) c.in-Ended.is told.seen })
  where
    not_due : (e : End) → Ended e ≡ Choice → ⊥
    not_due e h = cc

pub returns-in_ok-self-in-Choice-clause-goes : goal.returns-in_ok-self-in-Choice-clause-goes
returns-in_ok-self-in-Choice-clause-goes g c = λ m is may look.
    (let r = c.args.job.now.run.program.now in
    let discipline = c.args.job.now.run.limits.discipline in
    let steps = c.args.job.now.run.limits.steps in
    let quiet = silent_slots r discipline in
    let p = c.args.process in
    let told = c.in_ok-halt.ensures.goes m (c.in_ok-follow_move.ensures.kept.rows c.args.from.now.row.items m is) may look in
    let to = told.goes in
    let row = c.go_by_legs.new.self.row.items in
    let mid = c.learn.new.self in
    let new = c.halve.new.self in
    let halved = c.in_ok-self-in-Choice.field-0 in
    record {
      goes = record {
        after = to.after;
        is = λ due. stated_by r mid new row halved.numbers to.after c.halve.ensures.cache c.halve.ensures.ruled (subst (IsHalved new halved.numbers) c.deref.ensures.value c.in_ok-self-in-Choice.ensures.halved) (c.learn.ensures.rows r row to.after (to.is c.in-Choice.is));
        goal = ap (λ h. goal_at h to.after) (sym c.in-Choice.is) ∙ to.goal;
        shown = to.shown;
      };
      seen = subst (λ (h : Halt End). ComesTo quiet (λ w. g.P.Sight.sees w r discipline) steps (choice_leg quiet steps m p) (m ∷ []) c.go_by_legs.new.self.told.seen (with_round c.go_by_legs.new.self.told.again h) to.after) c.in-Choice.is told.seen;
    })

pub returns-then-branch-clause-goes : goal.returns-then-branch-clause-goes
returns-then-branch-clause-goes g c = λ m is may look.
    (let made : c.in_ok-follow_move.field-0 ≡ true = search in
    c.in_ok-follow_move.ensures.goes made m is may look)
