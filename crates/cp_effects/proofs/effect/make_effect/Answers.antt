use Rattle.std.proofs.Common.{◌≡◌, ◌∙◌, ◌<◌, ℕ, arith, length, subst, sym}
use Rattle.std.specs.Prelude.{IfSome, option_to_list}
use Rattle.std.specs.declared.alloc.Global.{Global}
use Rattle.std.specs.declared.vec.Vec.{Vec}
use Rattle.std.proofs.lemmas.List.{length-map}
use Rattle.cp_machine.specs.Machine.{machine_of, thread_of}
use Rattle.cp_states.specs.Numbers.{number_at}
use Rattle.cp_effect_laws.specs.Parts.{status_at}
use Rattle.cp_parts.specs.Parts.{IsPartRow, IsStatusNumber}
use Rattle.cp_parts.specs.Placed.{places_of}
use Rattle.cp_effects.specs.declared.changes.Write.{Write}
use Rattle.cp_effects.specs.Changes.{AreChanges}
use Rattle.cp_effects.specs.Watching.{IsEffect}
use Rattle.cp_parts.proofs.Keeping.{row_on}
use Rattle.cp_effects.proofs.Remembering.{remembered, went}
use Rattle.cp_effects.proofs.Renewed.{renewed_row}
use Rattle.cp_effects.proofs.Watching.{may_step}
use Rattle.cp_effects.proofs.effect.make_effect.Goals as goal

pub renew_row-requires : goal.renew_row-requires
renew_row-requires c =
    record {
      placed = (c.args.program.now, c.requires.placed, c.watch_leg.ensures.own.fits);
      inside = λ place is. subst (λ n. place < n) c.places.ensures (c.are_below.ensures c.if-not-are_below.false place is);
      long = c.requires.row.long;
    }

pub returns-clause-effect : goal.returns-clause-effect
returns-clause-effect c =
    let t = c.args.table.now in
    let u = c.renew_row.new.store in
    let before = c.args.state.now in
    let after = c.watch_leg.new.state in
    let places = c.watch_leg.new.touched.places.items in
    let row = c.args.row.now in
    let row_after = c.in_ok-after.after.items in
    let writes = c.in-Some-2.writes.items in
    let long : length (machine_of before).threads ≡ t.processes = c.requires.own.fits.threads ∙ sym c.requires.placed.processes in
    let count : length after.processes.items ≡ t.processes = omega (arith, c.watch_leg.ensures.own.fits.threads, c.requires.placed.processes, length-map after.processes.items thread_of) in
    let stands : IsPartRow u t (machine_of before) row = row_on c.args.store.now u t (machine_of before) row c.renew_row.ensures.kept c.requires.row in
    let new = c.in_ok-after.ensures.row in
    let found : AreChanges t places row c.deref-2.result.now writes = subst (λ o. IfSome o (λ (ws : Vec Write Global). AreChanges t places row c.deref-2.result.now ws.items)) c.in-Some-2.is c.in_ok-writes.ensures in
    let effect : IsEffect (places_of t) c.args.program.now places (machine_of before) c.args.pid c.in-Some.leg (machine_of after) =
    record {
      own = c.watch_leg.ensures.kept c.args.pid (c.add.ensures.noted c.if-not-add.false);
      within = c.in-Some.ensures.leg;
      settled = c.may_remember.ensures.settled c.if-not-may_remember.false count u (machine_of before) long stands (subst (λ xs. (q : ℕ) → q < t.processes → IsStatusNumber u (status_at (machine_of after) q) (number_at xs q)) (sym c.deref.ensures.value) new.statuses);
    }
    in
    let comes : IsPartRow u t (machine_of after) row_after = renewed_row u t c.args.program.now (machine_of before) c.args.pid places c.in-Some.leg (machine_of after) c.requires.placed (may_step c.args.program.now before c.args.pid c.requires.own c.requires.ready c.requires.free) effect row row_after stands new in
    remembered c.args.store.now u t c.args.program.now before c.args.pid places row row_after c.in-Some.leg (machine_of after) (option_to_list c.shown_of.result) writes
    c.requires.own c.requires.ready c.requires.free c.requires.quiet c.renew_row.ensures.kept c.requires.row comes
    effect (λ place is. subst (λ n. place < n) c.places.ensures (c.are_below.ensures c.if-not-are_below.false place is)) c.shown_of.ensures
    (subst (λ xs. AreChanges t places row xs writes) c.deref-2.ensures.value found)

pub returns-clause-goes : goal.returns-clause-goes
returns-clause-goes c =
    let t = c.args.table.now in
    let u = c.renew_row.new.store in
    let before = c.args.state.now in
    let after = c.watch_leg.new.state in
    let places = c.watch_leg.new.touched.places.items in
    let row = c.args.row.now in
    let row_after = c.in_ok-after.after.items in
    let writes = c.in-Some-2.writes.items in
    let long : length (machine_of before).threads ≡ t.processes = c.requires.own.fits.threads ∙ sym c.requires.placed.processes in
    let count : length after.processes.items ≡ t.processes = omega (arith, c.watch_leg.ensures.own.fits.threads, c.requires.placed.processes, length-map after.processes.items thread_of) in
    let stands : IsPartRow u t (machine_of before) row = row_on c.args.store.now u t (machine_of before) row c.renew_row.ensures.kept c.requires.row in
    let new = c.in_ok-after.ensures.row in
    let found : AreChanges t places row c.deref-2.result.now writes = subst (λ o. IfSome o (λ (ws : Vec Write Global). AreChanges t places row c.deref-2.result.now ws.items)) c.in-Some-2.is c.in_ok-writes.ensures in
    let effect : IsEffect (places_of t) c.args.program.now places (machine_of before) c.args.pid c.in-Some.leg (machine_of after) =
    record {
      own = c.watch_leg.ensures.kept c.args.pid (c.add.ensures.noted c.if-not-add.false);
      within = c.in-Some.ensures.leg;
      settled = c.may_remember.ensures.settled c.if-not-may_remember.false count u (machine_of before) long stands (subst (λ xs. (q : ℕ) → q < t.processes → IsStatusNumber u (status_at (machine_of after) q) (number_at xs q)) (sym c.deref.ensures.value) new.statuses);
    }
    in
    let comes : IsPartRow u t (machine_of after) row_after = renewed_row u t c.args.program.now (machine_of before) c.args.pid places c.in-Some.leg (machine_of after) c.requires.placed (may_step c.args.program.now before c.args.pid c.requires.own c.requires.ready c.requires.free) effect row row_after stands new in
    went u t c.args.program.now (machine_of before) c.args.pid places row row_after c.in-Some.leg (machine_of after) (option_to_list c.shown_of.result) writes comes effect c.shown_of.ensures
    (subst (λ xs. AreChanges t places row xs writes) c.deref-2.ensures.value found)
