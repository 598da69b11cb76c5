use Rattle.std.proofs.Common.{◌≡◌, ◌∙◌, ◌+◌, ◌<◌, ap, length, refl, subst, sym}
use Rattle.std.specs.Prelude.{All, IfSome, option_to_list}
use Rattle.cp_machine.specs.Machine.{Machine, is_pending, is_ready, machine_of, output_of}
use Rattle.cp_parts.specs.Parts.{IsPartRow}
use Rattle.cp_parts.proofs.Keeping.{store_on}
use Rattle.cp_effects.specs.declared.changes.Write.{Write}
use Rattle.cp_effects.specs.declared.effect.Effect.{Effect}
use Rattle.cp_effects.specs.Changes.{numbers_at, written}
use Rattle.cp_effects.specs.Remembered.{GoesAs, IsRemembered}
use Rattle.cp_effects.specs.Watching.{came_to}
use Rattle.cp_stretches.specs.declared.cache.LegCache.{LegCache}
use Rattle.cp_stretches.specs.declared.legs.LegKey.{LegKey}
use Rattle.cp_stretches.specs.declared.legs.LegTable.{LegTable}
use Rattle.cp_stretches.specs.Telling.{IsSought}
use Rattle.cp_stretches.proofs.Growing.{cache_on, legs_on}
use Rattle.cp_stretches.proofs.Knowing.{made_stays, pid_within, positions_inside, row_long, some_to}
use Rattle.cp_stretches.proofs.cache.LegCache.learn.Goals as goal

pub stand-requires-clause-row : goal.stand-requires-clause-row
stand-requires-clause-row c = (c.requires.row.0, c.requires.row.1.machine)

pub touched_from-touched-requires-clause-pid : goal.touched_from-touched-requires-clause-pid
touched_from-touched-requires-clause-pid c = pid_within c.args.job.now.program.now c.args.job.now.limits.discipline c.args.self.now c.requires.row.0 c.args.row.now c.args.pid c.requires.cache c.requires.row.1

pub touched_from-touched-requires-clause-long : goal.touched_from-touched-requires-clause-long
touched_from-touched-requires-clause-long c = row_long c.args.job.now.program.now c.args.job.now.limits.discipline c.args.self.now c.requires.row.0 c.args.row.now c.args.pid c.requires.cache c.requires.row.1

pub make_effect-requires : goal.make_effect-requires
make_effect-requires c =
    let self = c.args.self.now in
    let m = c.requires.row.0 in
    let may = c.requires.row.1 in
    let same = c.stand.ensures.state m may.machine in
    record {
      own = c.stand.ensures.standing.own;
      placed = c.requires.cache.placed;
      ready = ap (λ (n : Machine). is_ready n c.args.pid) same ∙ may.ready;
      free = ap is_pending same ∙ may.free;
      quiet = ap output_of same ∙ may.machine.quiet;
      row = subst (λ n. IsPartRow self.store self.table n c.args.row.now) (sym same) may.machine.stands;
    }

pub follow-requires : goal.follow-requires
follow-requires c =
    let self = c.args.self.now in
    let first : LegCache = record self { store = c.make_effect.new.store } in
    let r = c.args.job.now.program.now in
    let discipline = c.args.job.now.limits.discipline in
    let pid = c.args.pid in
    let t = self.table in
    let row = c.args.row.now in
    let after = machine_of c.make_effect.new.state in
    let places = c.make_effect.new.touched.places.items in
    let made = c.in_ok-made.made in
    let stood = c.stand.ensures.row in
    record {
      cache = cache_on r discipline self first c.requires.cache c.make_effect.ensures.kept refl refl (λ known. known);
      own = c.make_effect.ensures.own;
      inside = some_to made
          (λ (e : Effect). IsRemembered first.store t r c.stand.new.standing.state.discipline pid places (numbers_at t places row) e.leg (option_to_list e.shown) e.writes.items)
          (λ (e : Effect). All (λ (w : Write). w.position < length c.stand.new.standing.row.items) e.writes.items)
          (λ e is. subst (λ n. All (λ (w : Write). w.position < n) e.writes.items) (sym (row_long r discipline self c.requires.row.0 row pid c.requires.cache c.requires.row.1) ∙ sym (ap length stood))
          (positions_inside first.store t r c.stand.new.standing.state.discipline pid places (numbers_at t places row) e.leg (option_to_list e.shown) e.writes.items is))
          c.in_ok-made.ensures.effect;
      row = some_to made
          (λ (e : Effect). GoesAs first.store t r (machine_of c.stand.new.standing.state) row pid e.leg (option_to_list e.shown) e.writes.items (came_to e.leg after))
          (λ (e : Effect). IsPartRow first.store t after (written e.writes.items c.stand.new.standing.row.items))
          (λ e goes. subst (λ xs. IsPartRow first.store t after (written e.writes.items xs)) (sym stood) goes.comes)
          c.in_ok-made.ensures.goes;
    }

pub note-requires-clause-pid : goal.note-requires-clause-pid
note-requires-clause-pid c =
    subst (λ t. c.args.pid < t.processes) (sym c.follow.ensures.table)
    (pid_within c.args.job.now.program.now c.args.job.now.limits.discipline c.args.self.now c.requires.row.0 c.args.row.now c.args.pid c.requires.cache c.requires.row.1)

pub note-requires-clause-long : goal.note-requires-clause-long
note-requires-clause-long c =
    subst (λ t. length c.args.row.now ≡ t.processes + 1 + (t.processes + t.monitors)) (sym c.follow.ensures.table)
    (row_long c.args.job.now.program.now c.args.job.now.limits.discipline c.args.self.now c.requires.row.0 c.args.row.now c.args.pid c.requires.cache c.requires.row.1)

pub returns-clause-cache : goal.returns-clause-cache
returns-clause-cache c =
    let r = c.args.job.now.program.now in
    let discipline = c.args.job.now.limits.discipline in
    let second = c.follow.new.self in
    let there = c.in_ok-follow.ensures.cache in
    let m = c.requires.row.1.machine in
    let ruled = ap (λ (n : Machine). n.discipline) (c.stand.ensures.state c.requires.row.0 m) ∙ m.ruled in
    let made = made_stays c.in_ok-made.made c.make_effect.new.store second.store c.args.self.now.table second.table r c.stand.new.standing.state.discipline discipline c.args.pid c.make_effect.new.touched.places.items c.args.row.now c.follow.ensures.kept c.follow.ensures.table ruled c.in_ok-made.ensures.effect in
    legs_on r discipline second c.note.new.self there (λ known. (c.in_ok-known.ensures second.store r discipline there.placed known made).0)

pub returns-clause-told : goal.returns-clause-told
returns-clause-told c =
    let r = c.args.job.now.program.now in
    let discipline = c.args.job.now.limits.discipline in
    let second = c.follow.new.self in
    let there = c.in_ok-follow.ensures.cache in
    let m = c.requires.row.1.machine in
    let ruled = ap (λ (n : Machine). n.discipline) (c.stand.ensures.state c.requires.row.0 m) ∙ m.ruled in
    let made = made_stays c.in_ok-made.made c.make_effect.new.store second.store c.args.self.now.table second.table r c.stand.new.standing.state.discipline discipline c.args.pid c.make_effect.new.touched.places.items c.args.row.now c.follow.ensures.kept c.follow.ensures.table ruled c.in_ok-made.ensures.effect in
    (c.in_ok-known.ensures second.store r discipline there.placed there.known made).1

pub returns-clause-standing : goal.returns-clause-standing
returns-clause-standing c = c.in_ok-follow.ensures.standing

pub returns-clause-kept : goal.returns-clause-kept
returns-clause-kept c = store_on c.args.self.now.store c.make_effect.new.store c.follow.new.self.store c.make_effect.ensures.kept c.follow.ensures.kept

pub returns-clause-table : goal.returns-clause-table
returns-clause-table c = c.follow.ensures.table

pub returns-in_err-follow-clause-kept : goal.returns-in_err-follow-clause-kept
returns-in_err-follow-clause-kept c = store_on c.args.self.now.store c.make_effect.new.store c.follow.new.self.store c.make_effect.ensures.kept c.follow.ensures.kept

pub returns-in_err-known-clause-kept : goal.returns-in_err-known-clause-kept
returns-in_err-known-clause-kept c = store_on c.args.self.now.store c.make_effect.new.store c.follow.new.self.store c.make_effect.ensures.kept c.follow.ensures.kept

pub note-requires-clause-sought : goal.note-requires-clause-sought
note-requires-clause-sought c =
    let self = c.args.self.now in
    let row = c.args.row.now in
    let pid = c.args.pid in
    subst (λ t. IfSome c.args.sought (λ (k : LegKey). IsSought c.follow.new.self.legs.effects t row pid k)) (sym c.follow.ensures.table)
    (subst (λ (legs : LegTable). IfSome c.args.sought (λ (k : LegKey). IsSought legs.effects self.table row pid k)) (sym c.follow.ensures.legs) c.requires.sought)
