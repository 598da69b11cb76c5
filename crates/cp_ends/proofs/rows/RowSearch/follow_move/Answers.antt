use Rattle.std.proofs.Common.{◌∙◌, ◌∷◌, [], List, ap, subst, sym}
use Rattle.cp_ends.proofs.Vocabulary.{Discipline, Shown}
use Rattle.cp_run.specs.declared.outcome.Halt.TheVariants.{Choice}
use Rattle.cp_run.specs.Run.{may}
use Rattle.cp_run.specs.Slots.{slots}
use Rattle.cp_run.proofs.Choosing.{may_be_ready}
use Rattle.cp_effect_laws.specs.Effects.{IsToStep}
use Rattle.cp_stretches.specs.Cached.{StandsFor}
use Rattle.cp_ends.specs.Moves.{IsOneLeg}
use Rattle.cp_ends.specs.Rows.{IsRowFor}
use Rattle.cp_ends.proofs.RowsVisited.{same_row_for}
use Rattle.cp_ends.specs.declared.told.Told.{Told}
use Rattle.cp_ends.proofs.Rowwise.{goes_so, some_of, stands_for}
use Rattle.cp_ends.proofs.Seen.{one_leg_leads, one_leg_seen}
use Rattle.cp_ends.proofs.rows.RowSearch.follow_move.Goals as goal

pub returns-in-Some-2-clause-kept : goal.returns-in-Some-2-clause-kept
returns-in-Some-2-clause-kept g c =
    record {
      holds = λ f h. record { states = c.make_move.ensures.kept f.states h.states; ends = h.ends; values = h.values };
      rows = λ row m is. same_row_for c.args.job.now.run.program.now c.args.self.now.found.states c.make_move.new.self row m c.make_move.ensures.cache c.make_move.ensures.ruled is;
      halved = λ numbers row is. c.make_move.ensures.lists numbers row is;
    }

pub returns-in-None-clause-kept : goal.returns-in-None-clause-kept
returns-in-None-clause-kept g c =
    record {
      holds = λ f h. record { states = c.make_move.ensures.kept f.states h.states; ends = h.ends; values = h.values };
      rows = λ row m is. same_row_for c.args.job.now.run.program.now c.args.self.now.found.states c.make_move.new.self row m c.make_move.ensures.cache c.make_move.ensures.ruled is;
      halved = λ numbers row is. c.make_move.ensures.lists numbers row is;
    }

pub returns-in-Some-2-clause-goes : goal.returns-in-Some-2-clause-goes
returns-in-Some-2-clause-goes g c = λ made m is may_be look.
    (let r = c.args.job.now.run.program.now in
    let discipline = c.args.job.now.run.limits.discipline in
    let steps = c.args.job.now.run.limits.steps in
    let p = c.args.process in
    let old = c.args.self.now.found.states in
    let kept = c.make_move.new.self in
    let new = c.make_move.new.row in
    let told : Told g.row.P.Denot = record c.see_step.new.self { values = c.make_move.new.shown } in
    let next = c.in-Some-2.next in
    let suits = c.in-Some.ensures in
    let here = subst (λ l. IsRowFor r old l m) (sym (c.as_mut_slice-row.ensures.value ∙ c.copy_from_slice.ensures.items ∙ c.as_slice-2.ensures.value)) is in
    let before = some_of _ next _ c.in-Some-2.is c.in_ok-next.ensures.makes m here (ap (may (slots r discipline) m) suits.its ∙ may_be) in
    let it = subst (λ q. IsOneLeg r discipline kept.cache.store kept.cache.table steps m q [] new told.values.items) suits.its (subst (λ (l : List Shown). IsOneLeg r discipline kept.cache.store kept.cache.table steps m c.in-Some.known.process l new told.values.items) (ap (λ v. v.items) c.see_step.ensures.values ∙ c.clear.ensures.items) before) in
    let sound = c.requires.here.2.states.cached.sound in
    let stands = subst (λ (d : Discipline). StandsFor r d old.cache.store old.cache.table m c.args.from.now.row.items) c.requires.room.ruled (stands_for r old c.args.from.now.row.items m is) in
    let leads = one_leg_leads r discipline old.cache.store kept.cache.store old.cache.table kept.cache.table steps m p [] told.values.items c.args.from.now.row.items new sound stands may_be it in
    let steps_may : IsToStep r m p = record { sound = sound; kept = stands.kept; ready = may_be_ready (slots r discipline) m p it.free may_be; free = it.free } in
    let seen = one_leg_seen r discipline (λ w. g.P.Sight.sees w r discipline) (λ w. g.met.P.Sight.alike w r discipline) kept.cache.store kept.cache.table steps m p [] told.values.items new told.seen (m ∷ []) steps_may it (c.see_step.ensures.sees r discipline m look) in
    let told_so = goes_so r discipline g.P.Sight.sees steps m p Choice kept new told (c.make_move.ensures.ruled ∙ c.requires.room.ruled) leads c.see_step.ensures.again seen in
    let goes = told_so.goes in
    record {
      goes = record {
        after = goes.after;
        is = λ due. record { it = (goes.is due).it; row = record { row = new; halved = some_of _ next _ c.in-Some-2.is c.in_ok-next.ensures.halved; is = (goes.is due).is } };
        goal = goes.goal;
        shown = goes.shown;
      };
      seen = told_so.seen;
    })
